-- What a pen puts into its slice.
use Rattle.std.specs.Prelude.{◌≡◌, ℕ, ◌+◌, ◌≤◌, List, length}
use Rattle.writing.specs.declared.pens.Pen.{Pen}
use Rattle.writing.specs.Puts.{Puts}

-- so many bytes from where it stands on
abbrev pub HasRoom : Pen → ℕ → Type 0
HasRoom p n = p.at + n ≤ length p.out.now

-- it put bytes into the slice, and stands behind them
pub record Wrote (bs : List ℕ) (old new : Pen) : Type 0 where
  pub same : new.out.ghost_name ≡ old.out.ghost_name
  pub puts : Puts old.at bs old.out.now new.out.now new.at
