use Rattle.std.proofs.Common.{◌<◌, ◌∙◌, arith}
use Rattle.calls.proofs.Erasing.{erases, erases_more, erased-all, zeros-are}
use Rattle.calls.proofs.formats.erase.Goals as goal

pub loop-k-preserved : goal.loop-k-preserved
loop-k-preserved g c =
    let d = c.args.d.now in
    let t = g.D.Driver.tag d in
    let k = c.loop-k.k in
    let h : k < t.count = omega (arith, c.shape-count.ensures.value.0) in
    c.write.ensures.after ∙ erases_more t (g.D.Driver.shaped d) k h (c.requires.unlocked k h) (g.D.Driver.tag c.loop-k.d) c.loop-k.invariant _ (zeros-are _ t.size (omega (arith, c.requires.small, c.shape-count.ensures.value.1)) c.shape-count.ensures.value.1)

pub returns-in_err-write : goal.returns-in_err-write
returns-in_err-write g c =
    let d = c.args.d.now in
    let t = g.D.Driver.tag d in
    let k = c.loop-k.k in
    let h : k < t.count = omega (arith, c.shape-count.ensures.value.0) in
    absurd (erases t (g.D.Driver.shaped d) k h (c.requires.unlocked k h) (g.D.Driver.tag c.loop-k.d) c.loop-k.invariant _ (zeros-are _ t.size (omega (arith, c.requires.small, c.shape-count.ensures.value.1)) c.shape-count.ensures.value.1) _ c.in_err-write.ensures.answer)

pub returns : goal.returns
returns g c =
    let d = c.args.d.now in
    record { cases = c.loop-k.invariant ∙ erased-all (g.D.Driver.tag d) (g.D.Driver.shaped d) c.loop-k.k (omega (arith, c.shape-count.ensures.value.0)) }
