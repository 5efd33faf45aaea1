use Rattle.std.proofs.Common.{◌<◌, length, drop, sym, ap, ◌∙◌}
use Rattle.std.proofs.lemmas.Option.{MatchOption-at_some}
use Rattle.std.proofs.lemmas.Result.{err_from_is_err_and}
use Rattle.sets.specs.Scans.{next}
use Rattle.sets.specs.Objects.{unpacked}
use Rattle.sets.specs.Readings.{found}
use Rattle.calls.specs.declared.finds.Hit.{Hit}
use Rattle.calls.specs.Finds.{record_in}
use Rattle.calls.specs.Reads.{shows_set, object_shown, object_named, occurs_again, take_rows, put_out, Takes}
use Rattle.calls.proofs.Firsts.{declined}
use Rattle.calls.proofs.Taking.{stands_at, was_missed, was_found, not_proper, not_there, named-is, by-output, put_same}
use Rattle.calls.proofs.reads.take_object.Goals as goal

pub returns-in_err-check_identifier : goal.returns-in_err-check_identifier
returns-in_err-check_identifier c =
    let n = c.args.identifier.now in
    let fs = found c.args.image.now in
    let old = c.args.output.now in
    let p = err_from_is_err_and c.from_residual.result c.from_residual.ensures.1 in
    let h = not_proper n fs (length old) _ c.in_err-check_identifier.ensures.answer in
    record {
      answer = declined (take_rows n fs (length old)) (Takes n fs) c.from_residual.result p.0 _ p.1 p.2 h;
      after = ap (λ o. put_out o (object_named n fs) old) (sym h);
    }

pub returns-in_err-hit : goal.returns-in_err-hit
returns-in_err-hit c =
    let n = c.args.identifier.now in
    let fs = found c.args.image.now in
    let old = c.args.output.now in
    let p = err_from_is_err_and c.from_residual-in_err-hit.result c.from_residual-in_err-hit.ensures.1 in
    let missed = was_missed c.find.result c.ok_or.result _ c.ok_or.ensures.value c.in_err-hit.was in
    let h = not_there n fs (length old) c.in_ok-check_identifier.ensures.answer.0 (missed.0 ∙ c.find.ensures.found c.requires) in
    record {
      answer = declined (take_rows n fs (length old)) (Takes n fs) c.from_residual-in_err-hit.result p.0 _ p.1 (p.2 ∙ missed.1) h;
      after = ap (λ o. put_out o (object_named n fs) old) (sym h);
    }

pub unpack_at-requires : goal.unpack_at-requires
unpack_at-requires c =
    let h = c.in_ok-hit.hit in
    let seen = was_found c.find.result c.ok_or.result h c.ok_or.ensures.ok_part c.in_ok-hit.was in
    ap shows_set (stands_at c.args.image.now c.args.sets.now c.requires h.index (MatchOption-at_some _ (λ (q : Hit). q.index < length c.args.sets.now) h (sym seen) c.find.ensures.cases))

pub returns-in_err-long : goal.returns-in_err-long
returns-in_err-long c =
    let n = c.args.identifier.now in
    let xs = c.args.image.now in
    let old = c.args.output.now in
    let h = c.in_ok-hit.hit in
    let e = c.in_ok-check_identifier.ensures.answer.0 in
    let seen = was_found c.find.result c.ok_or.result h c.ok_or.ensures.ok_part c.in_ok-hit.was in
    let is = seen ∙ c.find.ensures.found c.requires in
    let x = object_shown (next unpacked (drop (record_in c.args.sets.now h.index).at xs)) in
    let shown = ap object_shown (stands_at xs c.args.sets.now c.requires h.index (MatchOption-at_some _ (λ (q : Hit). q.index < length c.args.sets.now) h (sym seen) c.find.ensures.cases)) in
    let p = err_from_is_err_and c.from_residual-in_err-long.result c.from_residual-in_err-long.ensures.1 in
    record {
      answer = declined (take_rows n (found xs) (length old)) (Takes n (found xs)) c.from_residual-in_err-long.result p.0 _ p.1 p.2 (by-output n (found xs) (length old) e h is x shown ∙ c.in_err-long.ensures.answer);
      after = put_same n (found xs) (length old) e h is x shown old c.unpack_at.new.output c.unpack_at.ensures.after;
    }

pub returns : goal.returns
returns c =
    let n = c.args.identifier.now in
    let xs = c.args.image.now in
    let old = c.args.output.now in
    let h = c.in_ok-hit.hit in
    let e = c.in_ok-check_identifier.ensures.answer.0 in
    let seen = was_found c.find.result c.ok_or.result h c.ok_or.ensures.ok_part c.in_ok-hit.was in
    let is = seen ∙ c.find.ensures.found c.requires in
    let x = object_shown (next unpacked (drop (record_in c.args.sets.now h.index).at xs)) in
    let shown = ap object_shown (stands_at xs c.args.sets.now c.requires h.index (MatchOption-at_some _ (λ (q : Hit). q.index < length c.args.sets.now) h (sym seen) c.find.ensures.cases)) in
    let a = c.in_ok-long.ensures.answer in
    record {
      answer = (by-output n (found xs) (length old) e h is x shown ∙ a.0, (a.1 ∙ ap length (named-is n (found xs) (length old) e h is x shown), ap occurs_again is));
      after = put_same n (found xs) (length old) e h is x shown old c.unpack_at.new.output c.unpack_at.ensures.after;
    }
