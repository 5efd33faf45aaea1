use Rattle.std.proofs.Common.{◌≡◌, length, sym, ap, ◌∙◌, rules}
use Rattle.std.proofs.lemmas.Result.{err_from_is_err_and}
use Rattle.drivers.specs.Wholes.{whole_answer, whole_image}
use Rattle.calls.specs.Rows.{rooms, first, start_rows, seen}
use Rattle.calls.specs.Working.{imaged, zeroed}
use Rattle.calls.proofs.Firsts.{declined, unless-some, unless-none}
use Rattle.calls.proofs.Starting.{started, reads_whole, whole-imaged}
use Rattle.calls.proofs.starts.prepare.Goals as goal

pub returns-in_err-here : goal.returns-in_err-here
returns-in_err-here g c =
    let t = g.D.Driver.tag c.args.d.now in
    let rows = start_rows t c.args.noted (rooms (length c.args.image.now) c.args.table (length c.args.scratch.now)) in
    let p = err_from_is_err_and c.from_residual.result c.from_residual.ensures.1 in
    let h = c.in_err-here.ensures.answer in
    record {
      answer = declined rows (λ s. s ≡ seen t) c.from_residual.result p.0 _ p.1 p.2 h;
      image = sym (unless-some (first rows) _ c.args.image.now (imaged t c.args.image.now) h);
      scratch = sym (unless-some (first rows) _ c.args.scratch.now (zeroed c.args.scratch.now) h);
      same = c.admit.ensures.same;
    }

pub returns-in_err-read_all : goal.returns-in_err-read_all
returns-in_err-read_all g c =
    let t = g.D.Driver.tag c.args.d.now in
    let w = rooms (length c.args.image.now) c.args.table (length c.args.scratch.now) in
    absurd
    (reads_whole t (length c.args.image.now) (started t c.args.noted w c.in_ok-here.ensures.answer.0).image _
    (c.in_err-read_all.ensures.answer ∙ ap (λ u. whole_answer u (length c.args.image.now)) c.admit.ensures.same))

pub returns : goal.returns
returns g c =
    let t = g.D.Driver.tag c.args.d.now in
    let w = rooms (length c.args.image.now) c.args.table (length c.args.scratch.now) in
    let h = c.in_ok-here.ensures.answer in
    let o = first (start_rows t c.args.noted w) in
    let scratch : c.fill.new.self ≡ zeroed c.args.scratch.now = search rules in
    record {
      answer = h;
      image = c.read_all.ensures.after
          ∙ ap (λ u. whole_image u c.args.image.now) c.admit.ensures.same
          ∙ whole-imaged t c.args.image.now (started t c.args.noted w h.0).image
          ∙ sym (unless-none o c.args.image.now (imaged t c.args.image.now) h.0);
      scratch = scratch ∙ sym (unless-none o c.args.scratch.now (zeroed c.args.scratch.now) h.0);
      same = c.read_all.ensures.same ∙ c.admit.ensures.same;
    }
