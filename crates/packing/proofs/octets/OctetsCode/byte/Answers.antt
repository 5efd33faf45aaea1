use Rattle.std.proofs.Common.{◌<◌, get_or, sym, refl, ap, ◌∙◌, arith}
use Rattle.std.proofs.ByRecursion.{All-from_get_or}
use Rattle.std.proofs.lemmas.List.{get_or-take, length-take-le}
use Rattle.codes.specs.Table.{whole}
use Rattle.packing.proofs.Meaning.{many-whole}
use Rattle.packing.specs.Plain.{front_bytes}
use Rattle.packing.proofs.octets.OctetsCode.byte.Goals as goal

pub bounds-bytes-i : goal.bounds-bytes-i
bounds-bytes-i c =
    let long = length-take-le c.args._n (whole 8 c.args.bytes.now) (omega (arith, many-whole 8 c.args.bytes.now _ refl)) in
    omega (arith, c.requires.here, long)

pub returns : goal.returns
returns c =
    let long = length-take-le c.args._n (whole 8 c.args.bytes.now) (omega (arith, many-whole 8 c.args.bytes.now _ refl)) in
    sym (get_or-take c.args._n c.args.bytes.now c.args.i 0 (omega (arith, c.requires.here, long))) ∙ ap (λ l. get_or l c.args.i 0) (front_bytes c.args._n c.args.bytes.now (All-from_get_or (λ d. d < 256) c.args.bytes.now 0 (λ i h. (c.type_inv.bytes i).fits)))
