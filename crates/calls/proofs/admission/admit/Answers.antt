use Rattle.std.proofs.Common.{◌≡◌, None, refl}
use Rattle.std.proofs.lemmas.Result.{err_from_is_err_and}
use Rattle.calls.specs.Rows.{start_rows, seen}
use Rattle.calls.proofs.Firsts.{declined}
use Rattle.calls.proofs.Starting.{no_room, starts, seen-is}
use Rattle.calls.proofs.admission.admit.Goals as goal

pub returns-in_err-check : goal.returns-in_err-check
returns-in_err-check g c =
    let t = g.D.Driver.tag c.args.d.now in
    let w = c.args.lent in
    let p = err_from_is_err_and c.from_residual.result c.from_residual.ensures.1 in
    record {
      answer = declined (start_rows t c.args.noted w) (λ s. s ≡ seen t) c.from_residual.result p.0 _ p.1 p.2 (no_room t c.args.noted w c.shape-shape.result c.shape-shape.ensures.value _ c.in_err-check.ensures.answer);
      same = refl;
    }

pub returns-in_err-check_entry : goal.returns-in_err-check_entry
returns-in_err-check_entry g c =
    let t = g.D.Driver.tag c.args.d.now in
    let w = c.args.lent in
    let p = err_from_is_err_and c.from_residual-in_err-check_entry.result c.from_residual-in_err-check_entry.ensures.1 in
    let was = c.in_ok-system.was in
    let told : c.in_ok-system.system ≡ t.system = cc in
    record {
      answer = declined (start_rows t c.args.noted w) (λ s. s ≡ seen t) c.from_residual-in_err-check_entry.result p.0 _ p.1 p.2
          (starts t c.args.noted w c.shape-shape.result c.shape-shape.ensures.value c.in_ok-check.ensures.answer.0 _ told _ c.in_err-check_entry.ensures.answer);
      same = c.system.ensures.same;
    }

pub returns : goal.returns
returns g c =
    let t = g.D.Driver.tag c.args.d.now in
    let w = c.args.lent in
    let was = c.in_ok-system.was in
    let told : c.in_ok-system.system ≡ t.system = cc in
    let room = c.in_ok-check.ensures.answer.0 in
    record {
      answer = (
        starts t c.args.noted w c.shape-shape.result c.shape-shape.ensures.value room _ told None c.in_ok-check_entry.ensures.answer.0,
        seen-is t c.args.noted w c.shape-shape.result c.shape-shape.ensures.value room _ told,
      );
      same = c.system.ensures.same;
    }
