-- The used bytes in per cent, to the nearest whole, a half upwards.
use Rattle.std.specs.Prelude.{ℕ, ◌+◌, ◌*◌, ◌/◌, ◌<◌, ◌≤◌, min, cond, ◌==◌}

abbrev pub percent : ℕ → ℕ → ℕ
percent used total = cond (total == 0) 0 ((200 * min used total + total) / (2 * total))

-- r per cent, less a half, is at most the share, and the share is less than r per cent and a half
abbrev pub Nearest : ℕ → ℕ → ℕ → Type 0
Nearest used total r = 0 < total → used ≤ total → (r * (2 * total) ≤ 200 * used + total) × (200 * used + total < (r + 1) * (2 * total))
