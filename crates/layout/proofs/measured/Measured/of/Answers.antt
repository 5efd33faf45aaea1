use Rattle.std.proofs.Common.{◌+◌, map, get_or, Err, sym, refl, ap, ◌∙◌, subst, arith}
use Rattle.std.proofs.lemmas.Result.{err_from_is_err_and}
use Rattle.std.specs.List.{AllByRecursion}
use Rattle.writing.specs.Forms.{wanted, Fit}
use Rattle.layout.specs.Plans.{total}
use Rattle.layout.specs.Measures.{Measures}
use Rattle.layout.proofs.Totals.{blank, least-most, total-take, fit-more, sum_more, unfit_here, all_items}
use Rattle.layout.proofs.measured.Measured.of.Goals as goal

pub loop-i-init : goal.loop-i-init
unfolding total
loop-i-init c = record { fit = tt; summed = refl; small = omega arith }

pub returns-in_err-sum : goal.returns-in_err-sum
returns-in_err-sum c =
    let q = err_from_is_err_and c.from_residual.result c.from_residual.ensures.1 in
    let p = c.in_err-sum.ensures in
    subst (Measures c.args.items.now c.args.room) (sym (q.1 ∙ ap Err (q.2 ∙ p.0))) (unfit_here c.args.items.now c.loop-i.i blank c.loop-i-test.true c.loop-i.invariant.fit p.1)

pub overflow_add-sum : goal.overflow_add-sum
overflow_add-sum c =
    let p = c.in_ok-sum.ensures in
    record { fits = omega (arith, p.1, least-most (wanted (get_or c.args.items.now c.loop-i.i blank)) p.0, c.loop-i.invariant.small, c.requires) }

pub loop-i-preserved : goal.loop-i-preserved
loop-i-preserved c =
    let p = c.in_ok-sum.ensures in
    record {
      fit = fit-more c.args.items.now c.loop-i.i blank c.loop-i-test.true c.loop-i.invariant.fit p.0;
      summed = sum_more c.args.items.now c.loop-i.i blank c.loop-i-test.true c.loop-i.sum c.in_ok-sum.field-0 c.loop-i.invariant.summed p.1;
      small = c.if-sum-room.false;
    }

pub invariant_of-result : goal.invariant_of-result
invariant_of-result c =
    let all = all_items c.args.items.now c.loop-i.i (omega arith) in
    record {
      fit = subst (AllByRecursion Fit) all c.loop-i.invariant.fit;
      summed = c.loop-i.invariant.summed ∙ ap total all;
      small = omega (arith, c.loop-i.invariant.small, c.requires);
    }

pub returns-then-sum-room : goal.returns-then-sum-room
returns-then-sum-room c =
    let sum = sum_more c.args.items.now c.loop-i.i blank c.loop-i-test.true c.loop-i.sum c.in_ok-sum.field-0 c.loop-i.invariant.summed c.in_ok-sum.ensures.1 in
    omega (arith, sum, total-take (c.loop-i.i + 1) (map wanted c.args.items.now), c.if-sum-room.true)
