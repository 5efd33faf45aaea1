use Rattle.std.proofs.Common.{◌≡◌, ℕ, ◌<◌, false}
use Rattle.drivers.specs.Questions.{shut}
use Rattle.calls.proofs.formats.first_locked.Given as goal

abbrev pub invariant-loop-k : goal.invariant-loop-k
invariant-loop-k g l =
    let t = g.D.Driver.tag l.initial.d in
    (g.D.Driver.tag l.d ≡ t) × ((j : ℕ) → j < l.k → shut t j ≡ false)
