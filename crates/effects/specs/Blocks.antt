-- Which gap runs to the end, and which gap an open block lies in.
use Rattle.std.specs.Prelude.{◌≡◌, ℕ, zero, suc, ◌+◌, ◌-◌, ◌*◌, ◌/◌, ◌<◌, ◌≤◌, Bool, false, cond, List, [], ◌∷◌, ◌++◌, length, take, drop, Ok, nat_lt, slice_index_or}
use Rattle.sets.specs.Scans.{Found}
use Rattle.sets.specs.Readings.{Memory, Reading, found, sealed, reads}
use Rattle.rivals.specs.Memories.{Shaped, Gap}
use Rattle.rivals.specs.Promises.{Lies}
use Rattle.layout.specs.declared.items.Behind.{Behind}
use Rattle.layout.specs.declared.items.Behind.TheVariants.{Locked, End}
use Rattle.layout.specs.Anew.{Stands}

-- where the open blocks right before block k begin, and how many blocks at the front are open
unfoldable pub open_from : List Bool → ℕ → ℕ
open_from locks zero = 0
open_from locks (suc k) = cond (slice_index_or locks k false) (suc k) (open_from locks k)

unfoldable pub open_front : List Bool → ℕ
open_front [] = 0
open_front (l ∷ locks) = cond l 0 (suc (open_front locks))

-- the gap that runs to the end: its first block, and how many
unfoldable pub end_first : Memory → ℕ
end_first m = open_from m.locks (length m.locks)

unfoldable pub end_blocks : Memory → ℕ
end_blocks m = length m.locks - end_first m

-- the same of the gap around block k
unfoldable pub gap_first : Memory → ℕ → ℕ
gap_first m k = open_from m.locks k

unfoldable pub gap_blocks : Memory → ℕ → ℕ
gap_blocks m k = k - gap_first m k + open_front (drop k m.locks)

-- the bytes of block k
abbrev pub block_bytes : Memory → ℕ → List ℕ
block_bytes m k = take m.size (drop (k * m.size) m.bytes)

-- the block in which a set begins
abbrev pub block_of : Memory → Found → ℕ
block_of m f = f.at / m.size

-- what stands behind n blocks from block p on
unfoldable pub behind_of : Memory → ℕ → ℕ → Behind
behind_of m p n = cond (nat_lt (p + n) (length m.locks)) Locked End

abbrev pub EndGap : Type 0
EndGap = (m : Memory) → Gap m (end_first m) (end_blocks m) × (end_first m + end_blocks m ≡ length m.locks)

abbrev pub BlockGap : Type 0
BlockGap =
    (m : Memory) (k : ℕ) → k < length m.locks → slice_index_or m.locks k false ≡ false
    → Gap m (gap_first m k) (gap_blocks m k) × (gap_first m k ≤ k) × (k < gap_first m k + gap_blocks m k)

-- there is no other that runs to the end, and no other around a block
abbrev pub OneEnd : Type 0
OneEnd = (m : Memory) (p n : ℕ) → Gap m p n → p + n ≡ length m.locks → (p ≡ end_first m) × (n ≡ end_blocks m)

abbrev pub OneGap : Type 0
OneGap = (m : Memory) (p n k : ℕ) → Gap m p n → p ≤ k → k < p + n → (p ≡ gap_first m k) × (n ≡ gap_blocks m k)

-- an open set lies in the gap around the block in which it begins
abbrev pub SetGap : Type 0
SetGap =
    (m : Memory) (r : Reading) → Shaped m → reads m ≡ Ok r → (fs : List Found) (f : Found) (gs : List Found) → found m.bytes ≡ fs ++ (f ∷ gs) → sealed m f ≡ false
    → Lies m fs f gs (gap_first m (block_of m f)) (gap_blocks m (block_of m f))

abbrev pub StandsBehind : Type 0
StandsBehind = (m : Memory) (p n : ℕ) → Gap m p n → Stands m p n (behind_of m p n)
