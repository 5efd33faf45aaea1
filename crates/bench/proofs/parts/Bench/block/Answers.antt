use Rattle.std.proofs.Common.{◌*◌, take, drop, sym, ap, ◌∙◌, arith}
use Rattle.tags.proofs.Cuts.{get_or-cut}
use Rattle.bench.proofs.parts.Bench.block.Goals as goal

pub returns-clause-value : goal.returns-clause-value
returns-clause-value c =
    let s = c.args.self.now in
    ap (λ z. take z (drop (c.args.k * s.shape.size) s.memory.now)) (omega arith) ∙ sym (get_or-cut s.shape.count s.shape.size c.args.k s.memory.now c.requires)
