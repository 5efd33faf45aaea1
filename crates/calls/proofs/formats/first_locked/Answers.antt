use Rattle.std.proofs.Common.{◌≡◌, ◌<◌, false, sym, ap, ◌∙◌, arith, below_more}
use Rattle.tags.specs.Tags.{Tag}
use Rattle.drivers.specs.Questions.{shut}
use Rattle.sets.proofs.Searching.{lowest-none, lowest-some}
use Rattle.calls.proofs.Locking.{lock_told, lock_tells}
use Rattle.calls.proofs.formats.first_locked.Goals as goal

pub loop-k-preserved : goal.loop-k-preserved
loop-k-preserved g c =
    let t = g.D.Driver.tag c.args.d.now in
    let same = c.loop-k.invariant.0 in
    let h : c.loop-k.k < (g.D.Driver.tag c.loop-k.d).count = omega (arith, ap (λ (u : Tag). u.count) same) in
    let told = lock_told (g.D.Driver.tag c.loop-k.d) c.loop-k.k h _ _ c.in_ok-locked.was c.locked.ensures.answer in (
      c.locked.ensures.same ∙ same,
      below_more (λ j. shut t j ≡ false) c.loop-k.k c.loop-k.invariant.1 (ap (λ u. shut u c.loop-k.k) (sym same) ∙ sym told ∙ c.if-branch.false),
    )

pub returns-in_err-locked : goal.returns-in_err-locked
returns-in_err-locked g c =
    absurd (lock_tells (g.D.Driver.tag c.loop-k.d) c.loop-k.k (omega (arith, ap (λ (u : Tag). u.count) c.loop-k.invariant.0)) _ c.in_err-locked.ensures.answer)

pub returns-then-branch : goal.returns-then-branch
returns-then-branch g c =
    let t = g.D.Driver.tag c.args.d.now in
    let same = c.loop-k.invariant.0 in
    let h : c.loop-k.k < (g.D.Driver.tag c.loop-k.d).count = omega (arith, ap (λ (u : Tag). u.count) same) in
    let told = lock_told (g.D.Driver.tag c.loop-k.d) c.loop-k.k h _ _ c.in_ok-locked.was c.locked.ensures.answer in
    record {
      cases = sym (lowest-some (shut t) t.count c.loop-k.k (omega arith) (ap (λ u. shut u c.loop-k.k) (sym same) ∙ sym told ∙ c.if-branch.true) c.loop-k.invariant.1);
      same = c.locked.ensures.same ∙ same;
    }

pub returns : goal.returns
returns g c =
    let t = g.D.Driver.tag c.args.d.now in
    record {
      cases = sym (lowest-none (shut t) t.count (λ i l. c.loop-k.invariant.1 i (omega arith)));
      same = c.loop-k.invariant.0;
    }
