use Rattle.std.proofs.Common.{◌≡◌, ◌+◌, ◌-◌, ◌≤◌, length, take}
use Rattle.std.specs.Int.Digits.{digits_of}
use Rattle.packing.proofs.integer.digit_at.Given as goal

abbrev pub invariant-loop : goal.invariant-loop
invariant-loop l = (digits_of l.base l.v ≡ take (l.i + 1 + (l.end - l.counter)) (digits_of l.base l.number)) × (l.i + 1 ≤ l.counter) × (l.counter ≤ l.end) × (l.end ≡ length (digits_of l.base l.number))
