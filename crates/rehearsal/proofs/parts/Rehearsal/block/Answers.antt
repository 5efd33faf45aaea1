use Rattle.std.proofs.Common.{◌≡◌, ◌+◌, ◌-◌, ◌*◌, take, drop, sym, ◌∙◌, arith, rules}
use Rattle.tags.specs.Dumps.{dump_means}
use Rattle.tags.proofs.Limits.{held_below}
use Rattle.tags.proofs.Meant.{dump_block}
use Rattle.tables.specs.Tables.{has_room}
use Rattle.tables.proofs.Under.{under_fetched, under_own}
use Rattle.rehearsal.proofs.parts.Rehearsal.block.Goals as goal

pub returns-in-Some-clause-value : goal.returns-in-Some-clause-value
returns-in-Some-clause-value c =
    let s = c.args.self.now in
    let t = dump_means s.dump in
    let below = (held_below (has_room t.count t.size) c.args.k t.count c.requires).1 in
    let is = under_fetched t s.table s.system s.room c.args.k below _ c.shape-size.ensures.value.1 (search rules) in
    search rules

pub returns-clause-value : goal.returns-clause-value
returns-clause-value c =
    let s = c.args.self.now in
    let k = c.args.k in
    let t = dump_means s.dump in
    let v = c.shape-size.ensures.value in
    let z = c.shape-size.result.size in
    let below = (held_below (has_room t.count t.size) k t.count c.requires).1 in
    let part : k * z + z - k * z ≡ t.size = omega (arith, v.1) in
    (λ i. take (part i) (drop (k * v.1 i) (c.content.ensures.value i)))
    ∙ sym (dump_block s.dump k below)
    ∙ under_own t s.table s.system s.room k below z v.1 (search rules)
