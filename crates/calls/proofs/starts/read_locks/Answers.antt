use Rattle.std.proofs.Common.{map, ap, ◌∙◌, sym, arith}
use Rattle.std.proofs.lemmas.List.{take_all}
use Rattle.tags.specs.Dumps.{nonzero}
use Rattle.calls.proofs.Locking.{lock_more, lock_told, lock_tells, nonzero-bool}
use Rattle.calls.proofs.starts.read_locks.Goals as goal

pub loop-k-preserved : goal.loop-k-preserved
loop-k-preserved g c =
    let d = c.args.d.now in
    let t = g.D.Driver.tag d in
    let same = c.loop-k.invariant.1 in
    let told = lock_told (g.D.Driver.tag c.loop-k.d) c.loop-k.k (omega (arith, ap (λ u. u.count) same)) _ _ c.in_ok-locked.was c.locked.ensures.answer in (
      lock_more c.loop-k.locks t.locks c.loop-k.k _ (omega arith) (omega (arith, (g.D.Driver.shaped d).flags)) c.loop-k.invariant.0
          (ap nonzero c.from.ensures ∙ nonzero-bool _ ∙ rw same at told),
      c.locked.ensures.same ∙ same,
    )

pub returns-in_err-locked : goal.returns-in_err-locked
returns-in_err-locked g c =
    absurd (lock_tells (g.D.Driver.tag c.loop-k.d) c.loop-k.k (omega (arith, ap (λ u. u.count) c.loop-k.invariant.1)) _ c.in_err-locked.ensures.answer)

pub returns : goal.returns
returns g c =
    let d = c.args.d.now in
    let t = g.D.Driver.tag d in
    record {
      cases = ap (map nonzero) (sym (take_all c.loop-k.k c.loop-k.locks (omega arith)))
          ∙ c.loop-k.invariant.0
          ∙ take_all c.loop-k.k t.locks (omega (arith, (g.D.Driver.shaped d).flags));
      same = c.loop-k.invariant.1;
    }
