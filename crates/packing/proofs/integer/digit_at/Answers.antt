use Rattle.std.proofs.Common.{◌≡◌, ◌+◌, ◌-◌, get_or, take, sym, ap, ◌∙◌, arith}
use Rattle.std.specs.Int.Digits.{digits_of}
use Rattle.std.proofs.lemmas.List.{take_all}
use Rattle.packing.proofs.DigitLoops.{at-most_64, front_cut, front-last}
use Rattle.packing.proofs.integer.digit_at.Goals as goal

pub overflow_step : goal.overflow_step
overflow_step c = record { fits = omega (arith, c.requires.inside, at-most_64 c.args.base c.args.number c.requires.bases.0 (omega arith)) }

pub loop-init : goal.loop-init
loop-init c = (sym (take_all _ (digits_of c.args.base c.args.number) (omega (arith, c.digits_in-end.ensures.value, c.requires.inside))), omega arith, omega (arith, c.digits_in-end.ensures.value, c.requires.inside), c.digits_in-end.ensures.value)

pub loop-preserved : goal.loop-preserved
loop-preserved c =
    let k = c.args.i + 1 + (c.digits_in-end.result - c.loop.counter) in
    let less : k - 1 ≡ c.args.i + 1 + (c.digits_in-end.result - (c.loop.counter + 1)) = omega (arith, c.loop-test.true, c.loop.invariant.1) in
    (front_cut c.args.base c.loop.v k (digits_of c.args.base c.args.number) (omega arith) c.loop.invariant.0 (omega (arith, c.loop.invariant.2)) (omega arith) ∙ ap (λ n. take n (digits_of c.args.base c.args.number)) less, omega (arith, c.loop.invariant.1), omega arith, c.loop.invariant.3)

pub returns : goal.returns
returns c =
    let k = c.args.i + 1 + (c.digits_in-end.result - c.loop.counter) in
    let last : k - 1 ≡ c.args.i = omega (arith, c.loop-test.false) in
    front-last c.args.base c.loop.v k (digits_of c.args.base c.args.number) (omega arith) c.loop.invariant.0 (omega (arith, c.loop.invariant.2, c.loop-test.false, c.requires.inside)) (omega arith) ∙ ap (λ i. get_or (digits_of c.args.base c.args.number) i 0) last
