use Rattle.std.proofs.Common.{◌<◌, ap, ◌∙◌, arith}
use Rattle.tags.specs.Dumps.{dump_means}
use Rattle.tables.specs.Tables.{under}
use Rattle.tables.proofs.Under.{under_few, under_lock}
use Rattle.rehearsal.proofs.RehearsalDriver.lock.Goals as goal

pub returns-clause-after : goal.returns-clause-after
returns-clause-after c =
    let s = c.args.self.now in
    let t = dump_means s.dump in
    let k = c.args.k in
    let below : k < t.count = omega (arith, c.in_ok-check_block.ensures.cases, c.shape.ensures.value.0) in
    let few = under_few t s.table s.system s.room k below in
    ap (λ u. under t u s.system) c.lock.ensures.after ∙ (under_lock t s.table s.system s.room k below (omega (arith, few, c.lock.ensures.shape.rows))).1
