use Rattle.std.proofs.Common.{◌≡◌, ◌*◌, ◌≤◌, ◌++◌, length, drop, sym, ap, ◌∙◌, arith, rules}
use Rattle.tags.proofs.Cuts.{block-end}
use Rattle.drivers.proofs.Fronts.{front-more, front-all}
use Rattle.drivers.proofs.Granted.{read_ok}
use Rattle.std.proofs.lemmas.Bool.{le-ltb, cond-false}
use Rattle.drivers.proofs.wholes.read_all.Goals as goal

pub slice_bounds-read-end : goal.slice_bounds-read-end
slice_bounds-read-end g c =
    let e = block-end c.loop-k.k c.shape-shape.result.count c.shape-shape.result.size c.loop-k-test.true in
    search rules

pub loop-k-preserved : goal.loop-k-preserved
loop-k-preserved g c =
    let d = c.args.d.now in
    let t = g.D.Driver.tag d in
    let s = c.shape-shape.ensures.value in
    let got = read_ok (g.D.Driver.tag c.loop-k.d) c.loop-k.k _ _ _ c.in_ok-read.was c.read.ensures.answer c.read.ensures.after in (
      front-more t (g.D.Driver.shaped d) c.args.image.now c.loop-k.image c.read.new.out c.loop-k.k _ _ (omega (arith, s.0)) c.loop-k.invariant.0
          (rw c.loop-k.invariant.1 at got)
          (ap (λ n. c.loop-k.k * n) s.1)
          (omega (arith, s.1)),
      c.read.ensures.same ∙ c.loop-k.invariant.1,
    )

pub returns : goal.returns
returns g c =
    let d = c.args.d.now in
    let t = g.D.Driver.tag d in
    let s = c.shape-shape.ensures.value in
    let n : c.loop-k.k ≡ t.count = omega (arith, s.0) in
    let all : c.shape-shape.result.count * c.shape-shape.result.size ≡ t.count * t.size = λ i. s.0 i * s.1 i in
    let room : t.count * t.size ≤ length c.args.image.now = omega (arith, c.if-image-needed.false) in
    let test = le-ltb (length c.args.image.now) (t.count * t.size) room in
    record {
      answer = sym (cond-false _ _ _ test);
      after = c.loop-k.invariant.0
          ∙ (λ i. front-all t (g.D.Driver.shaped d) c.loop-k.k n i ++ drop (n i * t.size) c.args.image.now)
          ∙ sym (cond-false _ _ _ test);
      same = c.loop-k.invariant.1;
    }
