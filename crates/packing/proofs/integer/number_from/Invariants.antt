use Rattle.std.proofs.Common.{◌≡◌, ◌-◌, map, take}
use Rattle.std.specs.Int.Digits.{number_from_digits}
use Rattle.packing.proofs.integer.number_from.Given as goal

abbrev pub invariant-loop-b : goal.invariant-loop-b
invariant-loop-b l = l.v ≡ number_from_digits l.base (take l.b-index (map (λ b. b - l.zero) l.digits))
