use Rattle.std.proofs.Common.{◌≡◌, map, take}
use Rattle.tags.specs.Dumps.{nonzero}
use Rattle.calls.proofs.starts.read_locks.Given as goal

abbrev pub invariant-loop-k : goal.invariant-loop-k
invariant-loop-k g l =
    let t = g.D.Driver.tag l.initial.d in
    (map nonzero (take l.k l.locks) ≡ take l.k t.locks) × (g.D.Driver.tag l.d ≡ t)
