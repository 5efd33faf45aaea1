use Rattle.std.proofs.Common.{◌+◌, ◌-◌, ◌*◌, length, refl, arith}
use Rattle.tags.proofs.Limits.{fits-parts}
use Rattle.drivers.proofs.Laid.{laid_write}
use Rattle.bench.proofs.BenchDriver.write.Goals as goal

pub returns-clause-after : goal.returns-clause-after
returns-clause-after c =
    let s = c.args.self.now in
    let b = s.shape.size in
    let a = c.args.k * b in
    let p = c.in_ok-check_buffer.ensures.cases in
    let w = fits-parts s.shape.count b (length s.memory.now) (length s.locks.now) s.whole in
    laid_write s.shape.count b s.system s.memory.now s.locks.now c.args.k p.0 (omega (arith, w.2)) c.args.from.now _ a (a + b - a) p.1 c.if-self-k.false c.copy_from_slice.ensures.after refl (omega arith)
