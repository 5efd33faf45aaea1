use Rattle.std.proofs.Common.{◌<◌, length, get_or, take, sym, ap, ◌∙◌, subst, arith}
use Rattle.std.proofs.ByRecursion.{All-from_get_or}
use Rattle.std.proofs.lemmas.List.{length-take-le}
use Rattle.codes.specs.Table.{decimal, unpacked_integer}
use Rattle.packing.specs.Packing.{said}
use Rattle.packing.specs.Plain.{front_bytes}
use Rattle.packing.proofs.DigitLoops.{integer-said}
use Rattle.packing.proofs.integer.IntegerCode.byte.Goals as goal

pub number_of-requires : goal.number_of-requires
number_of-requires c =
    let same = sym (front_bytes c.args.n c.args.bytes.now (All-from_get_or (λ d. d < 256) c.args.bytes.now 0 (λ i h. (c.type_inv.bytes i).fits))) in
    let says = integer-said (take c.args.n c.args.bytes.now) c.args.i (subst (λ gs. c.args.i < length (said (unpacked_integer gs))) same c.requires.here) in
    record { few = omega (arith, says.0, length-take-le c.args.n c.args.bytes.now (omega (arith, c.requires.inside))); inside = omega (arith, c.requires.inside) }

pub decimal_at-requires : goal.decimal_at-requires
decimal_at-requires c =
    let same = sym (front_bytes c.args.n c.args.bytes.now (All-from_get_or (λ d. d < 256) c.args.bytes.now 0 (λ i h. (c.type_inv.bytes i).fits))) in
    let here = subst (λ gs. c.args.i < length (said (unpacked_integer gs))) same c.requires.here in
    let says = integer-said (take c.args.n c.args.bytes.now) c.args.i here in
    subst (λ x. c.args.i < length x) (says.1 ∙ ap decimal (sym c.number_of.ensures)) here

pub returns : goal.returns
returns c =
    let same = sym (front_bytes c.args.n c.args.bytes.now (All-from_get_or (λ d. d < 256) c.args.bytes.now 0 (λ i h. (c.type_inv.bytes i).fits))) in
    let here = subst (λ gs. c.args.i < length (said (unpacked_integer gs))) same c.requires.here in
    let says = integer-said (take c.args.n c.args.bytes.now) c.args.i here in
    c.decimal_at.ensures ∙ ap (λ x. get_or x c.args.i 0) (ap decimal c.number_of.ensures ∙ sym says.1 ∙ ap (λ gs. said (unpacked_integer gs)) (sym same))
