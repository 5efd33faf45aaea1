-- A gap that is laid out holds bytes.
use Rattle.std.specs.Prelude.{ℕ, ◌<◌, List, length}
use Rattle.std.specs.Int.Digits.{AllBelowBase}
use Rattle.std.specs.List.{AllByRecursion}
use Rattle.writing.specs.Forms.{Wanted, Fit}
use Rattle.layout.specs.declared.items.Behind.{Behind}
use Rattle.layout.specs.Lays.{laid_gap, readied_gap}

-- an item that a set can hold, of bytes
pub record Given (w : Wanted) : Type 0 where
  pub fit : Fit w
  pub identifier : AllBelowBase 256 w.identifier
  pub object : AllBelowBase 256 w.object

abbrev pub LaidBytes : Type 0
LaidBytes = (behind : Behind) (ws : List Wanted) (g : ℕ) → AllByRecursion Given ws → AllBelowBase 256 (laid_gap behind ws g)

abbrev pub ReadiedBytes : Type 0
ReadiedBytes = (behind : Behind) (b : ℕ) (ws : List Wanted) (k g : ℕ) → AllByRecursion Given ws → k < length ws → AllBelowBase 256 (readied_gap behind b ws k g)
