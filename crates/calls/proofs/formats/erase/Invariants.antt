use Rattle.std.proofs.Common.{◌≡◌}
use Rattle.calls.proofs.Erasing.{erased_to}
use Rattle.calls.proofs.formats.erase.Given as goal

abbrev pub invariant-loop-k : goal.invariant-loop-k
invariant-loop-k g l = g.D.Driver.tag l.d ≡ erased_to (g.D.Driver.tag l.initial.d) l.k
