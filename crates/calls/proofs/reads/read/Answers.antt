use Rattle.std.proofs.Common.{◌*◌, ◌≤◌, length, take, None, sym, refl, ap, ◌∙◌, subst, rules}
use Rattle.std.proofs.lemmas.Result.{err_from_is_err_and}
use Rattle.tags.specs.Tags.{bytes}
use Rattle.sets.specs.Readings.{found}
use Rattle.reading.proofs.Judging.{clean, begins, reaches}
use Rattle.calls.specs.Rows.{first, start_rows, Answers}
use Rattle.calls.specs.Working.{work, rooms_of, imaged, zeroed}
use Rattle.calls.specs.Reads.{object_named, take_rows, read_rows, Takes, put_out}
use Rattle.calls.proofs.Firsts.{declined, answers_same, unless-some}
use Rattle.calls.proofs.Beginning.{untouched, touched, prepared, fits}
use Rattle.calls.proofs.Scanning.{starts_no_more, scan-fails, scan-passes, fault-told, fault-none, table_left}
use Rattle.calls.proofs.reads.read.Goals as goal

pub returns-in_err-here : goal.returns-in_err-here
returns-in_err-here g c =
    let t = g.D.Driver.tag c.args.d.now in
    let v = work c.args.image.now c.args.table.now c.args.scratch.now in
    let n = c.args.identifier.now in
    let out = c.args.output.now in
    let o = first (start_rows t None (rooms_of v)) in
    let p = err_from_is_err_and c.from_residual.result c.from_residual.ensures.1 in
    let h = c.in_err-here.ensures.answer in
    let r = starts_no_more t (rooms_of v) n (length out) _ h in
    record {
      answer = declined (read_rows t (rooms_of v) n (length out)) (Takes n (found (bytes t))) c.from_residual.result p.0 _ p.1 p.2 r;
      output = ap (λ q. put_out q (object_named n (found (bytes t))) out) (sym r);
      after = (λ i. work ((c.prepare.ensures.image ∙ unless-some o _ v.image (imaged t v.image) h) i) v.table ((c.prepare.ensures.scratch ∙ unless-some o _ v.scratch (zeroed v.scratch) h) i))
          ∙ untouched t None v _ h;
      same = c.prepare.ensures.same;
    }

pub slice_bounds-image-end : goal.slice_bounds-image-end
slice_bounds-image-end g c =
    let d = c.args.d.now in
    let v = work c.args.image.now c.args.table.now c.args.scratch.now in
    let here = c.in_ok-here.here in
    let p = prepared (g.D.Driver.tag d) (g.D.Driver.shaped d) None v here c.prepare.new.image c.prepare.new.scratch c.in_ok-here.ensures.answer c.prepare.ensures.image c.prepare.ensures.scratch in
    let room : here.shape.count * here.shape.size ≤ length c.args.image.now = p.room in
    search rules

pub slice_bounds-image-end-2 : goal.slice_bounds-image-end-2
slice_bounds-image-end-2 g c =
    let d = c.args.d.now in
    let v = work c.args.image.now c.args.table.now c.args.scratch.now in
    let here = c.in_ok-here.here in
    let p = prepared (g.D.Driver.tag d) (g.D.Driver.shaped d) None v here c.prepare.new.image c.prepare.new.scratch c.in_ok-here.ensures.answer c.prepare.ensures.image c.prepare.ensures.scratch in
    let room : here.shape.count * here.shape.size ≤ length c.args.image.now = p.room in
    search rules

pub returns-in_err-tally : goal.returns-in_err-tally
returns-in_err-tally g c =
    let d = c.args.d.now in
    let t = g.D.Driver.tag d in
    let v = work c.args.image.now c.args.table.now c.args.scratch.now in
    let n = c.args.identifier.now in
    let out = c.args.output.now in
    let p = prepared t (g.D.Driver.shaped d) None v c.in_ok-here.here c.prepare.new.image c.prepare.new.scratch c.in_ok-here.ensures.answer c.prepare.ensures.image c.prepare.ensures.scratch in
    let short = fits t (g.D.Driver.shaped d) None (rooms_of v) p.none in
    let e = err_from_is_err_and c.from_residual-in_err-tally.result c.from_residual-in_err-tally.ensures.1 in
    let r = scan-fails t (rooms_of v) n (length out) p.none _ (fault-told t (length v.table) short _ p.front _ c.in_err-tally.ensures.value) in
    record {
      answer = declined (read_rows t (rooms_of v) n (length out)) (Takes n (found (bytes t))) c.from_residual-in_err-tally.result e.0 _ e.1 e.2 r;
      output = ap (λ q. put_out q (object_named n (found (bytes t))) out) (sym r);
      after = touched t None v (work c.prepare.new.image c.scan_image.new.table c.prepare.new.scratch) p.none p.read (table_left t (length v.table) short _ p.front v.table c.scan_image.new.table refl c.in_err-tally.ensures.after) p.zeros;
      same = c.prepare.ensures.same;
    }

pub slice_bounds-take_object-end : goal.slice_bounds-take_object-end
slice_bounds-take_object-end g c =
    let here = c.in_ok-here.here in
    let xs = take (here.shape.count * here.shape.size) c.prepare.new.image in
    let k = c.in_ok-tally.ensures in
    let u = c.in_ok-tally.tally in
    let h : u.sets ≤ length c.scan_image.new.table = reaches xs c.args.table.now c.scan_image.new.table u (clean (length c.args.table.now) xs u k.value) k.after in
    search rules

pub slice_bounds-take_object-end-2 : goal.slice_bounds-take_object-end-2
slice_bounds-take_object-end-2 g c =
    let here = c.in_ok-here.here in
    let xs = take (here.shape.count * here.shape.size) c.prepare.new.image in
    let k = c.in_ok-tally.ensures in
    let u = c.in_ok-tally.tally in
    let h : u.sets ≤ length c.scan_image.new.table = reaches xs c.args.table.now c.scan_image.new.table u (clean (length c.args.table.now) xs u k.value) k.after in
    search rules

pub take_object-requires : goal.take_object-requires
take_object-requires g c =
    let here = c.in_ok-here.here in
    let xs = take (here.shape.count * here.shape.size) c.prepare.new.image in
    let k = c.in_ok-tally.ensures in
    let u = c.in_ok-tally.tally in
    begins xs c.args.table.now c.scan_image.new.table u (clean (length c.args.table.now) xs u k.value) k.after

pub returns : goal.returns
returns g c =
    let d = c.args.d.now in
    let t = g.D.Driver.tag d in
    let v = work c.args.image.now c.args.table.now c.args.scratch.now in
    let n = c.args.identifier.now in
    let out = c.args.output.now in
    let p = prepared t (g.D.Driver.shaped d) None v c.in_ok-here.here c.prepare.new.image c.prepare.new.scratch c.in_ok-here.ensures.answer c.prepare.ensures.image c.prepare.ensures.scratch in
    let short = fits t (g.D.Driver.shaped d) None (rooms_of v) p.none in
    let r = scan-passes t (rooms_of v) n (length out) p.none (fault-none t (length v.table) short _ p.front c.in_ok-tally.tally c.in_ok-tally.ensures.value) in
    record {
      answer = answers_same (take_rows n (found (bytes t)) (length out)) (read_rows t (rooms_of v) n (length out)) (Takes n (found (bytes t))) c.take_object.result r
          (subst (λ xs. Answers (take_rows n (found xs) (length out)) (Takes n (found xs)) c.take_object.result) p.front c.take_object.ensures.answer);
      output = c.take_object.ensures.after
          ∙ ap (λ xs. put_out (first (take_rows n (found xs) (length out))) (object_named n (found xs)) out) p.front
          ∙ ap (λ q. put_out q (object_named n (found (bytes t))) out) (sym r);
      after = touched t None v (work c.prepare.new.image c.scan_image.new.table c.prepare.new.scratch) p.none p.read (table_left t (length v.table) short _ p.front v.table c.scan_image.new.table refl c.in_ok-tally.ensures.after) p.zeros;
      same = c.prepare.ensures.same;
    }
