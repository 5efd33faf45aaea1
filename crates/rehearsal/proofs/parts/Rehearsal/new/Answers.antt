use Rattle.std.proofs.Common.{◌≡◌, true, sym, ◌∙◌}
use Rattle.std.proofs.lemmas.Bool.{cond-true}
use Rattle.tags.specs.Dumps.{dump_means}
use Rattle.tags.proofs.Meant.{dump_shaped}
use Rattle.tables.specs.Tables.{has_room, under}
use Rattle.tables.proofs.Under.{under-unchanged}
use Rattle.rehearsal.proofs.parts.Rehearsal.new.Goals as goal

pub returns : goal.returns
returns c =
    let t = dump_means c.args.dump in
    let v = c.shape.ensures.value in
    let room : has_room t.count t.size ≡ true = (λ i. has_room (sym v.0 i) (sym v.1 i)) ∙ sym c.if-not-has_room.ensures.value in
    record { cases = (cond-true _ _ _ room, (λ i. under t (c.new.ensures.value i) (c.system-system.ensures.value i)) ∙ under-unchanged t (dump_shaped c.args.dump) room) }
