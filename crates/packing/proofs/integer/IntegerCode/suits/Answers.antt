use Rattle.std.proofs.Common.{rules}
use Rattle.codes.specs.Table.{permitted}
use Rattle.packing.proofs.integer.IntegerCode.suits.Goals as goal

pub returns-then-all_within : goal.returns-then-all_within
unfolding permitted
returns-then-all_within c = search rules

pub returns-else-all_within : goal.returns-else-all_within
unfolding permitted
returns-else-all_within c = search rules
