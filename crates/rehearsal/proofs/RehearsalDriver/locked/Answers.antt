use Rattle.std.proofs.Common.{Ok, ap, ◌∙◌, arith}
use Rattle.tags.specs.Dumps.{dump_means}
use Rattle.tables.proofs.Under.{under_locked}
use Rattle.rehearsal.proofs.RehearsalDriver.locked.Goals as goal

pub returns-clause-answer : goal.returns-clause-answer
returns-clause-answer c =
    let s = c.args.self.now in
    ap Ok c.is_locked.ensures.value
    ∙ under_locked (dump_means s.dump) s.table s.system s.room c.args.k (omega (arith, c.in_ok-check_block.ensures.cases, c.shape.ensures.value.0))
