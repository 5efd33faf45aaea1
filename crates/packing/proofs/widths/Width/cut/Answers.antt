use Rattle.std.proofs.Common.{◌+◌, ◌-◌, ◌/◌, ◌%◌, ◌^◌, ◌∙◌, arith}
use Rattle.std.proofs.lemmas.Nat.{one_shl}
use Rattle.codes.proofs.Cuts.{three}
use Rattle.packing.proofs.Places.{shifted}
use Rattle.packing.proofs.widths.Width.cut.Goals as goal

pub returns : goal.returns
returns c =
    let f = c.args.from.bits in
    let m = c.args.from.bits + c.args.from.bits + c.args.from.bits - c.args.bit - c.args.self.bits in
    (λ j. shifted f c.from.result c.from-2.result c.from-3.result (omega arith) (omega (arith, c.from.ensures)) (omega (arith, c.from-2.ensures)) j / 2 ^ m % one_shl c.args.self.bits 32 (omega arith) j)
    ∙ (λ j. three f (c.from.ensures j) (c.from-2.ensures j) (c.from-3.ensures j) / 2 ^ m % 2 ^ c.args.self.bits)
