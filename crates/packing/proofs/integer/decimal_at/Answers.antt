use Rattle.std.proofs.Common.{◌+◌, ap, ◌∙◌, arith}
use Rattle.packing.proofs.DigitLoops.{decimal-long, decimal-get_or, digit_lt}
use Rattle.packing.proofs.integer.decimal_at.Goals as goal

pub digit_at-requires : goal.digit_at-requires
digit_at-requires c = record { bases = (omega arith, omega arith); inside = omega (arith, decimal-long c.args.number c.if-number-eq0.false) }

pub overflow_add-result : goal.overflow_add-result
overflow_add-result c = record { fits = omega (arith, c.digit_at.ensures, digit_lt c.args.number c.args.i (omega (arith, decimal-long c.args.number c.if-number-eq0.false))) }

pub returns : goal.returns
returns c = ap (λ d. 0x30 + d) c.digit_at.ensures ∙ decimal-get_or c.args.number c.args.i c.if-number-eq0.false (omega (arith, decimal-long c.args.number c.if-number-eq0.false))
