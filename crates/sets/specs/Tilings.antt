-- Bytes that are tiles, end to end.
use Rattle.std.specs.Prelude.{◌≡◌, ℕ, ◌+◌, List, [], ◌∷◌, ◌++◌, length, Some, None, Option}
use Rattle.sets.specs.Sets.{Tile, wide}
use Rattle.sets.specs.Parsing.{tile, wrong}
use Rattle.sets.specs.Scans.{Unpack, next, Refusal}

unfoldable pub span : List Tile → ℕ
span [] = 0
span (t ∷ ts) = wide t + span ts

-- bytes that read as a tile, whatever follows them
pub record Reads (u : Unpack) (bs : List ℕ) (t : Tile) : Type 0 where
  pub all : length bs ≡ wide t
  pub alone : (rest : List ℕ) → next u (bs ++ rest) ≡ tile t

unfoldable pub Tiled : Unpack → List Tile → List ℕ → Type 0
Tiled u [] bs = bs ≡ []
Tiled u (t ∷ ts) bs = (front : List ℕ) × (back : List ℕ) × (bs ≡ front ++ back) × Reads u front t × Tiled u ts back

-- nothing, or a 00
abbrev pub Ended : List ℕ → Type 0
Ended [] = Unit {0}
Ended (b ∷ bs) = b ≡ 0

-- what a scan halts at, at an address: nothing or a 00; or a fault
abbrev pub Halts : Unpack → List ℕ → ℕ → Option Refusal → Type 0
Halts u rest at None = Ended rest
Halts u rest at (Some f) = (f.place ≡ at) × (next u rest ≡ wrong f.flaw)
