use Rattle.std.proofs.Common.{◌-◌, map, take, drop, sym, ap, ◌∙◌, subst, arith}
use Rattle.std.specs.List.{AllByRecursion}
use Rattle.writing.specs.Forms.{wanted, Fit}
use Rattle.layout.specs.Plans.{total}
use Rattle.layout.specs.Measures.{Measures}
use Rattle.layout.proofs.Readying.{measured_again, map-part, part-fit, part-total}
use Rattle.layout.proofs.measured.Measured.part.Goals as goal

pub unwrap-requires : goal.unwrap-requires
unwrap-requires c =
    let m = c.args.self in
    let ws = map wanted c.args.self.items.now in
    let k = c.args.to - c.args.from in
    let same = map-part c.args.from c.args.to c.args.self.items.now in
    measured_again (take k (drop c.args.from c.args.self.items.now)) m.sum c.of.result
    (subst (AllByRecursion Fit) (sym same) (part-fit c.args.from k ws m.fit))
    (omega (arith, ap total same, part-total c.args.from k ws, m.summed))
    c.of.ensures

pub returns : goal.returns
returns c =
    let k = c.args.to - c.args.from in
    let there = subst (Measures (take k (drop c.args.from c.args.self.items.now)) c.args.self.sum) c.unwrap.ensures c.of.ensures in
    ap (map wanted) there.0 ∙ map-part c.args.from c.args.to c.args.self.items.now
