use Rattle.std.proofs.Common.{sym, ◌∙◌}
use Rattle.packing.proofs.DigitLoops.{decimal-long}
use Rattle.packing.proofs.integer.decimal_length.Goals as goal

pub returns : goal.returns
returns c = c.digits_in.ensures.value ∙ sym (decimal-long c.args.number c.if-number-eq0.false)
