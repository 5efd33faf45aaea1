use Rattle.std.proofs.Common.{◌+◌, ◌*◌, ap, ◌∙◌, arith}
use Rattle.packing.proofs.DigitLoops.{digit_here, digit-more, digit-fits, digits-all}
use Rattle.packing.proofs.integer.number_from.Goals as goal

pub overflow_mul-v : goal.overflow_mul-v
overflow_mul-v c = record { fits = omega (arith, digit-fits c.args.base c.args.zero c.args.digits.now c.requires.digits.0 c.requires.digits.1 c.loop-b.b-index c.loop-b.v c.loop-b-test.true c.loop-b.invariant c.requires.few) }

pub overflow_sub-b : goal.overflow_sub-b
overflow_sub-b c = (digit_here c.args.base c.args.zero c.args.digits.now c.requires.digits.0 c.requires.digits.1 c.loop-b.b-index c.loop-b-test.true).0

pub overflow_add-v : goal.overflow_add-v
overflow_add-v c = record { fits = omega (arith, c.from.ensures, digit-fits c.args.base c.args.zero c.args.digits.now c.requires.digits.0 c.requires.digits.1 c.loop-b.b-index c.loop-b.v c.loop-b-test.true c.loop-b.invariant c.requires.few) }

pub loop-b-preserved : goal.loop-b-preserved
loop-b-preserved c = ap (λ d. c.loop-b.v * c.args.base + d) c.from.ensures ∙ digit-more c.args.base c.args.zero c.args.digits.now c.requires.digits.0 c.requires.digits.1 c.loop-b.b-index c.loop-b.v c.loop-b-test.true c.loop-b.invariant

pub returns : goal.returns
returns c = digits-all c.args.base c.args.zero c.args.digits.now c.requires.digits.0 c.requires.digits.1 c.loop-b.b-index c.loop-b.v (omega arith) c.loop-b.invariant
