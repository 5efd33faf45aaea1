use Rattle.std.proofs.Common.{sym, refl, arith}
use Rattle.std.proofs.lemmas.List.{length-take-le}
use Rattle.codes.specs.Table.{whole}
use Rattle.packing.proofs.Meaning.{many-whole}
use Rattle.packing.proofs.octets.OctetsCode.length.Goals as goal

pub returns : goal.returns
returns c = (refl, sym (length-take-le c.args.n (whole 8 c.args._bytes.now) (omega (arith, many-whole 8 c.args._bytes.now _ refl))))
