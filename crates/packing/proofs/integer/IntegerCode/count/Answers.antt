use Rattle.std.proofs.Common.{length, ap, ◌∙◌, arith}
use Rattle.std.specs.Int.Digits.{digits_of}
use Rattle.codes.proofs.Integers.{integer-parts, integer-under_numeric}
use Rattle.packing.proofs.integer.IntegerCode.count.Goals as goal

pub value_of-requires : goal.value_of-requires
value_of-requires c = let p = integer-parts c.args.object.now c.requires in record { digits = p.2; few = p.1 }

pub returns : goal.returns
returns c =
    let p = integer-parts c.args.object.now c.requires in
    let same = c.digits_in.ensures.value ∙ ap (λ v. length (digits_of 256 v)) c.value_of.ensures in
    record { value = same; bound = omega (arith, same, p.0, integer-under_numeric c.args.object.now p.2) }
