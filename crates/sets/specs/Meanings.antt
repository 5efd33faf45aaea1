-- What it means that a memory reads as a list, or is refused by 16 or 18, said of its blocks and sets.
use Rattle.std.specs.Prelude.{◌≡◌, ℕ, ◌/◌, ◌<◌, true, false, ◌⊎◌, map, length, get_or, Some, None, Ok, Err, Result, ◌≢◌, slice_index_or}
use Rattle.std.specs.List.{ContainsAt as Has}
use Rattle.sets.specs.Parsing.{plain}
use Rattle.sets.specs.Scans.{Refusal, scan, Found}
use Rattle.sets.specs.Objects.{unpacked}
use Rattle.sets.specs.Readings.{Memory, Reading, found, locked_at, sealed, byte_of, identified, entry}

-- no fault of a set; every byte of a locked block is a byte of a sealed set; no two sets have one identifier
pub record Lists (m : Memory) (r : Reading) : Type 0 where
  pub scanned : (scan unpacked m.bytes).fault ≡ None
  pub kept : (a : ℕ) → a < length m.bytes → locked_at m a ≡ true → (f : Found) × Has (found m.bytes) f × (byte_of f a ≡ true) × (sealed m f ≡ true)
  pub apart : (i j : ℕ) (d : Found) → i < j → j < length (found m.bytes) → identified (slice_index_or (found m.bytes) i d) ≢ identified (slice_index_or (found m.bytes) j d)
  pub entries : r.entries ≡ map (entry m) (found m.bytes)

-- block k is locked and has a byte that is of no set, or only of one that touches an open block; no lower block has
abbrev pub StrayByte : Memory → ℕ → Type 0
StrayByte m a = (a < length m.bytes) × (locked_at m a ≡ true) × ((f : Found) → Has (found m.bytes) f → byte_of f a ≡ true → sealed m f ≡ false)

pub record Strays (m : Memory) (k : ℕ) : Type 0 where
  pub some : (a : ℕ) × (a / m.size ≡ k) × StrayByte m a
  pub lowest : (a : ℕ) → a / m.size < k → StrayByte m a → ⊥

-- the set at `at` repeats the identifier of one before it, and no set before it does
pub record Repeats (m : Memory) (at : ℕ) : Type 0 where
  pub again : ℕ
  pub inside : again < length (found m.bytes)
  pub place : (d : Found) → (get_or (found m.bytes) again d).at ≡ at
  pub earlier : (i : ℕ) × (i < again) × ((d : Found) → identified (slice_index_or (found m.bytes) i d) ≡ identified (slice_index_or (found m.bytes) again d))
  pub first : (i j : ℕ) (d : Found) → i < j → j < again → identified (slice_index_or (found m.bytes) i d) ≢ identified (slice_index_or (found m.bytes) j d)

abbrev pub Meant : Memory → Result Reading Refusal → Type 0
Meant m (Ok r) = Lists m r
Meant m (Err f) =
    ((scan unpacked m.bytes).fault ≡ Some f)
    ⊎ (((f.flaw ≡ plain 16) × Strays m f.place)
    ⊎ ((f.flaw ≡ plain 18) × Repeats m f.place))
