-- A seal: the blocks of a set that has them for itself are locked.
use Rattle.std.specs.Prelude.{◌≡◌, ℕ, zero, suc, ◌+◌, ◌*◌, ◌<◌, ◌≤◌, Bool, true, false, List, length, Ok, ◌≢◌, slice_index_or, slice_set}
use Rattle.std.specs.List.{ContainsAt as Has}
use Rattle.sets.specs.Sets.{size}
use Rattle.sets.specs.Scans.{Found}
use Rattle.sets.specs.Readings.{Memory, Reading, found, sealed, identified, reads}
use Rattle.rivals.specs.Memories.{Shaped}
use Rattle.effects.specs.Lists.{sealed_list}
use Rattle.effects.specs.Gaps.{OpenSet, ReadsAs}

-- n blocks from block p on, locked one after another
unfoldable pub lock_run : ℕ → ℕ → List Bool → List Bool
lock_run p zero locks = locks
lock_run p (suc n) locks = slice_set (lock_run p n locks) (p + n) true

abbrev pub locking : Memory → ℕ → ℕ → Memory
locking m p n = record { size = m.size; locks = lock_run p n m.locks; bytes = m.bytes }

-- an open set whose bytes, pad included, are exactly those of n blocks from block p on
pub record Fills (m : Memory) (f : Found) (p n : ℕ) : Type 0 where
  pub stands : OpenSet m f
  pub starts : f.at ≡ p * m.size
  pub long : size f.set ≡ n * m.size

-- the list is the same with that entry sealed; every other set, and every lock of another block, is as before
pub record Sealing (m : Memory) (r : Reading) (f : Found) (p n : ℕ) : Type 0 where
  pub inside : p + n ≤ length m.locks
  pub shaped : Shaped (locking m p n)
  pub list : ReadsAs (locking m p n) (sealed_list (identified f) r.entries)
  pub this : sealed (locking m p n) f ≡ true
  pub others : (g : Found) → Has (found m.bytes) g → (identified g ≢ identified f) → sealed (locking m p n) g ≡ sealed m g
  pub stay : (g : Found) → sealed m g ≡ true → sealed (locking m p n) g ≡ true
  pub locked : (k : ℕ) → p ≤ k → k < p + n → slice_index_or (locking m p n).locks k false ≡ true
  pub kept : (k : ℕ) → slice_index_or m.locks k false ≡ true → slice_index_or (locking m p n).locks k false ≡ true
  pub below : (k : ℕ) → k < p → slice_index_or (locking m p n).locks k false ≡ slice_index_or m.locks k false
  pub above : (k : ℕ) → p + n ≤ k → slice_index_or (locking m p n).locks k false ≡ slice_index_or m.locks k false

-- with its blocks locked, and every byte as before
abbrev pub Seal : Type 0
Seal = (m : Memory) (r : Reading) → Shaped m → reads m ≡ Ok r → (f : Found) (p n : ℕ) → Fills m f p n → Sealing m r f p n
