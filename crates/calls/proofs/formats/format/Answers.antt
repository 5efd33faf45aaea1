use Rattle.std.proofs.Common.{◌≡◌, ◌*◌, Some, None, sym, ap, ◌∙◌, arith}
use Rattle.std.proofs.lemmas.Result.{err_from_is_err_and}
use Rattle.tags.specs.Tags.{Tag}
use Rattle.tags.proofs.Limits.{limits-parts}
use Rattle.drivers.specs.Questions.{shut}
use Rattle.drivers.specs.Changes.{with_system}
use Rattle.states.specs.Holding.{opened}
use Rattle.calls.specs.Rows.{first}
use Rattle.calls.specs.Openings.{Opens, format_rows, erased, formatted}
use Rattle.calls.proofs.Firsts.{declined, unless-some, unless-none}
use Rattle.calls.proofs.Formatting.{limits, by_shape, by_system, by_lock, all_open}
use Rattle.calls.proofs.Erasing.{all-free}
use Rattle.calls.proofs.formats.format.Goals as goal

pub returns-in_err-check_shape : goal.returns-in_err-check_shape
returns-in_err-check_shape g c =
    let t = g.D.Driver.tag c.args.d.now in
    let b = c.args.system in
    let p = err_from_is_err_and c.from_residual.result c.from_residual.ensures.1 in
    let h = by_shape t b c.shape-shape.result c.shape-shape.ensures.value _ c.in_err-check_shape.ensures.answer in
    record {
      answer = declined (format_rows t b) (Opens (formatted t b)) c.from_residual.result p.0 _ p.1 p.2 h;
      after = sym (unless-some (first (format_rows t b)) _ t (formatted t b) h);
    }

pub returns-in_err-check_system : goal.returns-in_err-check_system
returns-in_err-check_system g c =
    let t = g.D.Driver.tag c.args.d.now in
    let b = c.args.system in
    let p = err_from_is_err_and c.from_residual-in_err-check_system.result c.from_residual-in_err-check_system.ensures.1 in
    let h = by_system t b c.shape-shape.result c.shape-shape.ensures.value c.in_ok-check_shape.ensures.answer.0 _ c.in_err-check_system.ensures.answer in
    record {
      answer = declined (format_rows t b) (Opens (formatted t b)) c.from_residual-in_err-check_system.result p.0 _ p.1 p.2 h;
      after = sym (unless-some (first (format_rows t b)) _ t (formatted t b) h);
    }

pub returns-in-Some : goal.returns-in-Some
returns-in-Some g c =
    let t = g.D.Driver.tag c.args.d.now in
    let b = c.args.system in
    let h = by_lock t b c.shape-shape.result c.shape-shape.ensures.value c.in_ok-check_shape.ensures.answer.0 c.in_ok-check_system.ensures.answer.0 (Some c.in-Some.block) (sym c.in-Some.is ∙ c.in_ok-block.ensures.cases) in
    record { answer = h; after = c.first_locked.ensures.same ∙ sym (unless-some (first (format_rows t b)) _ t (formatted t b) h) }

pub erase-requires : goal.erase-requires
erase-requires g c =
    let t = g.D.Driver.tag c.args.d.now in
    let s = c.shape-shape.ensures.value in
    let is : g.D.Driver.tag c.set_system.new.self ≡ with_system t c.args.system = c.set_system.ensures.after ∙ ap (λ u. with_system u c.args.system) c.first_locked.ensures.same in
    let none = all_open t (sym c.in_default.is ∙ c.in_ok-block.ensures.cases) in
    record {
      small = omega (
        arith,
        (limits-parts c.shape-shape.result.count c.shape-shape.result.size (limits t c.args.system c.shape-shape.result s c.in_ok-check_shape.ensures.answer.0)).1,
        s.1,
        ap (λ (u : Tag). u.size) is,
      );
      unlocked = λ k h. ap (λ u. shut u k) is ∙ none k (omega (arith, ap (λ (u : Tag). u.count) is));
    }

pub returns : goal.returns
returns g c =
    let t = g.D.Driver.tag c.args.d.now in
    let b = c.args.system in
    let s = c.shape-shape.ensures.value in
    let is : g.D.Driver.tag c.set_system.new.self ≡ with_system t b = c.set_system.ensures.after ∙ ap (λ u. with_system u b) c.first_locked.ensures.same in
    let h = by_lock t b c.shape-shape.result s c.in_ok-check_shape.ensures.answer.0 c.in_ok-check_system.ensures.answer.0 None (sym c.in_default.is ∙ c.in_ok-block.ensures.cases) in
    record {
      answer = (h, (c.of-state.ensures.value ∙ (λ i. opened (record { shape = record { count = s.0 i; size = s.1 i }; system = b })), (λ i. s.0 i * s.1 i) ∙ all-free t b));
      after = c.in_ok-erase.ensures.cases ∙ ap erased is ∙ sym (unless-none (first (format_rows t b)) t (formatted t b) h);
    }
