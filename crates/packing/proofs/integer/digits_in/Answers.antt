use Rattle.packing.proofs.DigitLoops.{digits-between}
use Rattle.packing.proofs.integer.digits_in.Goals as goal

pub returns-in-Some-clause-value : goal.returns-in-Some-clause-value
returns-in-Some-clause-value c = digits-between c.args.base c.args.number c.in-Some.k c.requires c.in-Some.ensures.power_le c.in-Some.ensures.next_power_gt
