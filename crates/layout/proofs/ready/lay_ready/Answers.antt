use Rattle.std.proofs.Common.{◌+◌, map, length, Err, sym, refl, ap, ◌∙◌, subst, arith}
use Rattle.std.proofs.lemmas.Result.{err_from_is_err_and}
use Rattle.std.specs.List.{AllByRecursion}
use Rattle.rivals.specs.Rooms.{whole}
use Rattle.writing.specs.Forms.{wanted, Fit}
use Rattle.layout.specs.Lays.{three_parts, Readies}
use Rattle.layout.specs.Measures.{Measures}
use Rattle.layout.proofs.Readying.{sum-before, sum-alone, sum-after, sums, laid-parts, measured_err}
use Rattle.layout.proofs.Alone.{ready_reads, ready_rivals}
use Rattle.layout.proofs.ready.lay_ready.Goals as goal

pub returns-then-named-items-clause-reads : goal.returns-then-named-items-clause-reads
returns-then-named-items-clause-reads c = ready_reads

pub returns-then-named-items-clause-rivals : goal.returns-then-named-items-clause-rivals
returns-then-named-items-clause-rivals c = ready_rivals

pub returns-in_err-all : goal.returns-in_err-all
returns-in_err-all c =
    let ws = map wanted c.args.items.now in
    let q = err_from_is_err_and c.from_residual.result c.from_residual.ensures.1 in
    let fault = subst (λ f. Measures c.args.items.now (length c.args.gap.now) (Err f)) (sym q.2) c.in_err-all.ensures in
    record {
      value = subst (Readies c.args.behind c.args.block ws c.args.named c.args.gap.now c.args.gap.now) (sym q.1) (measured_err c.args.behind c.args.block c.args.items.now c.args.named c.args.gap.now q.0 c.if-named-items.false fault);
      reads = ready_reads;
      rivals = ready_rivals;
    }

pub overflow_add-at : goal.overflow_add-at
overflow_add-at c =
    let all = sums c.args.items.now c.args.named c.if-named-items.false c.in_ok-all.all c.part-before.result c.part-alone.result c.part-after.result c.in_ok-all.ensures.0 c.part-before.ensures c.part-alone.ensures c.part-after.ensures in
    record { fits = omega (arith, all, c.in_ok-all.all.small, c.next_multiple_of-at.ensures.upper_bound, c.next_multiple_of-bytes.ensures.upper_bound) }

pub overflow_add-at-2 : goal.overflow_add-at-2
overflow_add-at-2 c =
    let all = sums c.args.items.now c.args.named c.if-named-items.false c.in_ok-all.all c.part-before.result c.part-alone.result c.part-after.result c.in_ok-all.ensures.0 c.part-before.ensures c.part-alone.ensures c.part-after.ensures in
    record { fits = omega (arith, all, c.in_ok-all.all.small, c.next_multiple_of-at.ensures.upper_bound, c.next_multiple_of-bytes.ensures.upper_bound) }

pub returns-then-room-at : goal.returns-then-room-at
returns-then-room-at c =
    let e = c.next_multiple_of-at.ensures.value ∙ ap (whole c.args.block) (sum-before c.args.items.now c.args.named c.if-named-items.false c.in_ok-all.all c.part-before.result c.part-alone.result c.part-after.result c.in_ok-all.ensures.0 c.part-before.ensures c.part-alone.ensures c.part-after.ensures) in
    let f = c.next_multiple_of-bytes.ensures.value ∙ ap (whole c.args.block) (sum-alone c.args.items.now c.args.named c.if-named-items.false c.in_ok-all.all c.part-before.result c.part-alone.result c.part-after.result c.in_ok-all.ensures.0 c.part-before.ensures c.part-alone.ensures c.part-after.ensures) in
    let after = sum-after c.args.items.now c.args.named c.if-named-items.false c.in_ok-all.all c.part-before.result c.part-alone.result c.part-after.result c.in_ok-all.ensures.0 c.part-before.ensures c.part-alone.ensures c.part-after.ensures in
    record { value = (omega (arith, e, f, after, c.if-room-at.true), refl); reads = ready_reads; rivals = ready_rivals }

pub returns : goal.returns
returns c =
    let ws = map wanted c.args.items.now in
    let p = c.in_ok-all.ensures in
    let at = c.next_multiple_of-at.result in
    let end = c.next_multiple_of-at.result + c.next_multiple_of-bytes.result in
    let e = c.next_multiple_of-at.ensures.value ∙ ap (whole c.args.block) (sum-before c.args.items.now c.args.named c.if-named-items.false c.in_ok-all.all c.part-before.result c.part-alone.result c.part-after.result c.in_ok-all.ensures.0 c.part-before.ensures c.part-alone.ensures c.part-after.ensures) in
    let f = c.next_multiple_of-bytes.ensures.value ∙ ap (whole c.args.block) (sum-alone c.args.items.now c.args.named c.if-named-items.false c.in_ok-all.all c.part-before.result c.part-alone.result c.part-after.result c.in_ok-all.ensures.0 c.part-before.ensures c.part-alone.ensures c.part-after.ensures) in
    let after = sum-after c.args.items.now c.args.named c.if-named-items.false c.in_ok-all.all c.part-before.result c.part-alone.result c.part-after.result c.in_ok-all.ensures.0 c.part-before.ensures c.part-alone.ensures c.part-after.ensures in
    let front = c.split_at_mut-front.ensures in
    let middle = c.split_at_mut-middle.ensures in
    let is = laid-parts c.args.items.now c.args.named c.if-named-items.false c.in_ok-all.all c.part-before.result c.part-alone.result c.part-after.result c.in_ok-all.ensures.0 c.part-before.ensures c.part-alone.ensures c.part-after.ensures
    c.args.behind at end (length c.args.gap.now) _ _ _ c.lay.new.gap c.lay-2.new.gap c.lay-3.new.gap c.lay.ensures c.lay-2.ensures c.lay-3.ensures front.front_len (omega (arith, middle.front_len)) (omega (arith, middle.back_len, front.back_len)) in
    record {
      value = (subst (λ l. AllByRecursion Fit (map wanted l)) p.0 c.in_ok-all.all.fit, omega (arith, e, f, after, c.if-room-at.false), e, f, is ∙ (λ j. three_parts c.args.behind ws c.args.named (e j) (e j + f j) (length c.args.gap.now)));
      reads = ready_reads;
      rivals = ready_rivals;
    }
