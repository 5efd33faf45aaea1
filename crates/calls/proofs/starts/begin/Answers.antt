use Rattle.std.proofs.Common.{◌*◌, ◌≤◌, ◌++◌, map, length, take, drop, replicate, sym, refl, ap, ◌∙◌, rules, arith}
use Rattle.std.proofs.lemmas.Result.{err_from_is_err_and}
use Rattle.tags.specs.Tags.{Tag}
use Rattle.tags.specs.Dumps.{nonzero}
use Rattle.states.specs.declared.holding.Noted.{Noted}
use Rattle.calls.specs.Rows.{first, start_rows}
use Rattle.calls.specs.Working.{work, rooms_of, imaged, zeroed}
use Rattle.calls.specs.Starts.{begin_rows, Begins}
use Rattle.calls.proofs.Firsts.{declined, unless-some}
use Rattle.calls.proofs.Beginning.{begins_no_more, untouched, touched, prepared, memory-is, refuses, grants, leaves}
use Rattle.calls.proofs.Locking.{front_told}
use Rattle.calls.proofs.starts.begin.Goals as goal

pub returns-in_err-here : goal.returns-in_err-here
returns-in_err-here g c =
    let t = g.D.Driver.tag c.args.d.now in
    let n = c.args.noted in
    let v = work c.args.image.now c.args.table.now c.args.scratch.now in
    let o = first (start_rows t n (rooms_of v)) in
    let p = err_from_is_err_and c.from_residual.result c.from_residual.ensures.1 in
    let h = c.in_err-here.ensures.answer in
    record {
      answer = declined (begin_rows t n (rooms_of v)) (Begins t) c.from_residual.result p.0 _ p.1 p.2 (begins_no_more t n (rooms_of v) _ h);
      after = (λ i. work ((c.prepare.ensures.image ∙ unless-some o _ v.image (imaged t v.image) h) i) v.table ((c.prepare.ensures.scratch ∙ unless-some o _ v.scratch (zeroed v.scratch) h) i))
          ∙ untouched t n v _ h;
      same = c.prepare.ensures.same;
    }

pub slice_bounds-memory-end : goal.slice_bounds-memory-end
slice_bounds-memory-end g c =
    let d = c.args.d.now in
    let t = g.D.Driver.tag d in
    let v = work c.args.image.now c.args.table.now c.args.scratch.now in
    let here = c.in_ok-here.here in
    let p = prepared t (g.D.Driver.shaped d) c.args.noted v here c.prepare.new.image c.prepare.new.scratch c.in_ok-here.ensures.answer c.prepare.ensures.image c.prepare.ensures.scratch in
    let room : here.shape.count * here.shape.size ≤ length c.args.image.now = p.room in
    search rules

pub slice_bounds-memory-end-2 : goal.slice_bounds-memory-end-2
slice_bounds-memory-end-2 g c =
    let d = c.args.d.now in
    let t = g.D.Driver.tag d in
    let v = work c.args.image.now c.args.table.now c.args.scratch.now in
    let here = c.in_ok-here.here in
    let p = prepared t (g.D.Driver.shaped d) c.args.noted v here c.prepare.new.image c.prepare.new.scratch c.in_ok-here.ensures.answer c.prepare.ensures.image c.prepare.ensures.scratch in
    let room : here.shape.count * here.shape.size ≤ length c.args.image.now = p.room in
    search rules

pub returns-in_err-tally : goal.returns-in_err-tally
returns-in_err-tally g c =
    let d = c.args.d.now in
    let t = g.D.Driver.tag d in
    let n = c.args.noted in
    let v = work c.args.image.now c.args.table.now c.args.scratch.now in
    let here = c.in_ok-here.here in
    let p = prepared t (g.D.Driver.shaped d) n v here c.prepare.new.image c.prepare.new.scratch c.in_ok-here.ensures.answer c.prepare.ensures.image c.prepare.ensures.scratch in
    let ls = c.read_locks.new.locks ++ drop here.shape.count (replicate 256 0) in
    let locks = front_told c.read_locks.new.locks _ here.shape.count t.locks (omega (arith, p.few)) (c.in_ok-read_locks.ensures.cases ∙ ap (λ (u : Tag). u.locks) c.prepare.ensures.same) in
    let is = memory-is t n v here c.prepare.new.image c.prepare.new.scratch p ls locks in
    let e = err_from_is_err_and c.from_residual-in_err-tally.result c.from_residual-in_err-tally.ensures.1 in
    record {
      answer = declined (begin_rows t n (rooms_of v)) (Begins t) c.from_residual-in_err-tally.result e.0 _ e.1 e.2 (refuses t (g.D.Driver.shaped d) n (rooms_of v) p.none _ is _ c.in_err-tally.ensures.value);
      after = touched t n v (work c.prepare.new.image c.check.new.table c.prepare.new.scratch) p.none p.read (leaves t (g.D.Driver.shaped d) n (rooms_of v) p.none _ is v.table c.check.new.table refl c.in_err-tally.ensures.after) p.zeros;
      same = c.read_locks.ensures.same ∙ c.prepare.ensures.same;
    }

pub returns : goal.returns
returns g c =
    let d = c.args.d.now in
    let t = g.D.Driver.tag d in
    let n = c.args.noted in
    let v = work c.args.image.now c.args.table.now c.args.scratch.now in
    let here = c.in_ok-here.here in
    let p = prepared t (g.D.Driver.shaped d) n v here c.prepare.new.image c.prepare.new.scratch c.in_ok-here.ensures.answer c.prepare.ensures.image c.prepare.ensures.scratch in
    let ls = c.read_locks.new.locks ++ drop here.shape.count (replicate 256 0) in
    let locks = front_told c.read_locks.new.locks _ here.shape.count t.locks (omega (arith, p.few)) (c.in_ok-read_locks.ensures.cases ∙ ap (λ (u : Tag). u.locks) c.prepare.ensures.same) in
    let is = memory-is t n v here c.prepare.new.image c.prepare.new.scratch p ls locks in
    let q = grants t (g.D.Driver.shaped d) n (rooms_of v) p.none _ is c.in_ok-tally.tally c.in_ok-tally.ensures.value in
    record {
      answer = (q.0, record { noted = p.told; locks = ap (λ (k : Noted). map nonzero (take k.shape.count ls)) (sym p.told) ∙ locks; tally = q.1 });
      after = touched t n v (work c.prepare.new.image c.check.new.table c.prepare.new.scratch) p.none p.read (leaves t (g.D.Driver.shaped d) n (rooms_of v) p.none _ is v.table c.check.new.table refl c.in_ok-tally.ensures.after) p.zeros;
      same = c.read_locks.ensures.same ∙ c.prepare.ensures.same;
    }
