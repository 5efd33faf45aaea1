use Rattle.codes.proofs.Integers.{integer-parts}
use Rattle.packing.proofs.integer.IntegerCode.group.Goals as goal

pub value_of-requires : goal.value_of-requires
value_of-requires c = let p = integer-parts c.args.object.now c.requires.suited in record { digits = p.2; few = p.1 }
