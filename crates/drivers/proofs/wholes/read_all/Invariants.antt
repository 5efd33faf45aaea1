use Rattle.std.proofs.Common.{◌≡◌, ◌*◌, ◌++◌, drop}
use Rattle.drivers.proofs.Fronts.{front}
use Rattle.drivers.proofs.wholes.read_all.Given as goal

abbrev pub invariant-loop-k : goal.invariant-loop-k
invariant-loop-k g l =
    let t = g.D.Driver.tag l.initial.d in
    (l.image ≡ front t l.k ++ drop (l.k * t.size) l.initial.image) × (g.D.Driver.tag l.d ≡ t)
