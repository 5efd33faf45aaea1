-- Rival memories, and the gaps of a memory.
use Rattle.std.specs.Prelude.{◌≡◌, ℕ, suc, ◌+◌, ◌-◌, ◌*◌, ◌%◌, ◌<◌, ◌≤◌, Bool, true, false, cond, not, ◌&&◌, ◌⊎◌, List, [], ◌∷◌, map, length, filter, nat_le, nat_lt, slice_index, slice_index_or}
use Rattle.std.specs.Int.Digits.{AllBelowBase}
use Rattle.std.specs.List.{AllByRecursion}
use Rattle.sets.specs.Sets.{size}
use Rattle.sets.specs.Scans.{Found}
use Rattle.sets.specs.Readings.{Memory, Entry, found, locked_at, sealed, identified, entry}

-- bytes, in whole blocks, each with its lock
pub record Shaped (m : Memory) : Type 0 where
  pub some : 0 < m.size
  pub whole : length m.bytes ≡ length m.locks * m.size
  pub small : AllBelowBase 256 m.bytes

-- A rival of m: a memory that could stand in its place. It has m's block size, locks and number of bytes, and m's bytes in
-- locked blocks; its other bytes are any.
pub record Rival (m m' : Memory) : Type 0 where
  pub size : m'.size ≡ m.size
  pub locks : m'.locks ≡ m.locks
  pub long : length m'.bytes ≡ length m.bytes
  pub small : AllBelowBase 256 m'.bytes
  pub alike : (i : ℕ) → locked_at m i ≡ true → slice_index m'.bytes i ≡ slice_index m.bytes i

-- A gap: a longest run of open blocks, n of them from block p on. The one that runs to the end may have none.
pub record Gap (m : Memory) (p n : ℕ) : Type 0 where
  pub inside : p + n ≤ length m.locks
  pub clear : (k : ℕ) → p ≤ k → k < p + n → slice_index_or m.locks k false ≡ false
  pub start : (p ≡ 0) ⊎ ((0 < p) × (slice_index_or m.locks (p - 1) false ≡ true))
  pub stop : (p + n ≡ length m.locks) ⊎ ((0 < n) × (slice_index_or m.locks (p + n) false ≡ true))

-- the sealed sets of a memory, and how many of them begin before block p
abbrev pub seals : Memory → List Found
seals m = filter (sealed m) (found m.bytes)

abbrev pub below : ℕ → List Found → ℕ
below a [] = 0
below a (f ∷ fs) = cond (nat_lt f.at a) (suc (below a fs)) (below a fs)

abbrev pub seals_before : Memory → ℕ → ℕ
seals_before m p = below (p * m.size) (seals m)

-- what the open sets say that begin in n blocks from block p on
abbrev pub opens_in : Memory → ℕ → ℕ → Found → Bool
opens_in m p n f = nat_le (p * m.size) f.at && (nat_lt f.at ((p + n) * m.size) && not (sealed m f))

abbrev pub gap_entries : Memory → ℕ → ℕ → List Entry
gap_entries m p n = map (entry m) (filter (opens_in m p n) (found m.bytes))

-- the sets of an identifier take whole blocks, pad included: so they share them with no other
abbrev pub Alone : Memory → List ℕ → Type 0
Alone m name = AllByRecursion (λ f. identified f ≡ name → (f.at % m.size ≡ 0) × (size f.set % m.size ≡ 0)) (found m.bytes)
