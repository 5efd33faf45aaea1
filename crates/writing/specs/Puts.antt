-- Bytes put into a slice.
use Rattle.std.specs.Prelude.{◌≡◌, ℕ, ◌+◌, ◌≤◌, List, ◌++◌, length, take, drop}

-- bytes stand from `at` on, all else is as before, and what follows begins at `next`
pub record Puts (at : ℕ) (bs old new : List ℕ) (next : ℕ) : Type 0 where
  pub ends : next ≡ at + length bs
  pub fits : next ≤ length old
  pub after : new ≡ take at old ++ (bs ++ drop (at + length bs) old)
