use Rattle.std.proofs.Common.{◌≤◌, ◌^◌, take, length, ap, ◌∙◌, arith}
use Rattle.std.specs.Int.Digits.{number_from_digits}
use native.Mathlib.Nat.{pow-le-pow_right}
use Rattle.std.proofs.lemmas.List.{length-take-le, get_or-take}
use Rattle.packing.proofs.DigitLoops.{bytes_within, less_none}
use Rattle.packing.proofs.integer.number_of.Goals as goal

pub number_from-requires-clause-digits : goal.number_from-requires-clause-digits
number_from-requires-clause-digits c =
    let long = length-take-le c.args.n c.args.bytes.now c.requires.inside in
    (omega arith, bytes_within (take c.args.n c.args.bytes.now) (λ i h. omega (arith, (c.type_inv.bytes i).fits, get_or-take c.args.n c.args.bytes.now i 0 (omega (arith, h, long)))))

pub number_from-requires-clause-few : goal.number_from-requires-clause-few
number_from-requires-clause-few c =
    let long = length-take-le c.args.n c.args.bytes.now c.requires.inside in
    let top : 256 ^ length (take c.args.n c.args.bytes.now) ≤ 256 ^ 8 = pow-le-pow_right (omega arith) {j = 8} (omega (arith, long, c.requires.few)) in
    omega (arith, top)

pub returns : goal.returns
returns c = c.number_from.ensures ∙ ap (number_from_digits 256) (less_none (take c.args.n c.args.bytes.now))
