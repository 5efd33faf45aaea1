-- What a memory reads as once one of its gaps is laid out anew; and why a gap that is too small is too small for all.
use Rattle.std.specs.Prelude.{◌≡◌, ℕ, suc, ◌+◌, ◌*◌, ◌%◌, ◌<◌, ◌≤◌, false, List, ◌∷◌, ◌++◌, map, length, take, drop, Ok}
use Rattle.std.specs.Int.Digits.{AllBelowBase}
use Rattle.std.specs.List.{AllByRecursion}
use Rattle.codes.specs.Numbers.{kind_number}
use Rattle.sets.specs.Sets.{Set, content, size}
use Rattle.sets.specs.Scans.{Found}
use Rattle.sets.specs.Readings.{Memory, Entry, Reading, found, identified, entry, reads}
use Rattle.rivals.specs.Memories.{Shaped, Rival, Gap, Alone, seals, gap_entries}
use Rattle.rivals.specs.Promises.{Lies, gap_before, gap_behind}
use Rattle.rivals.specs.Relaid.{relaid, list_around, Distinct}
use Rattle.writing.specs.Forms.{Wanted, Fit}
use Rattle.rivals.specs.Rooms.{whole}
use Rattle.layout.specs.declared.items.Behind.{Behind}
use Rattle.layout.specs.declared.items.Behind.TheVariants.{Locked, End}
use Rattle.layout.specs.Plans.{total, ready_need, nth}
use Rattle.layout.specs.Lays.{laid_gap, readied_gap}

-- the entry that a wanted set is, open
abbrev pub entry_of : Wanted → Entry
entry_of w = record { identifier = w.identifier; kind = kind_number w.kind; object = w.object; sealed = false }

-- what stands behind n blocks from block p on
abbrev pub Stands : Memory → ℕ → ℕ → Behind → Type 0
Stands m p n Locked = p + n < length m.locks
Stands m p n End = p + n ≡ length m.locks

-- a memory with the bytes ns in the place of a gap: it reads as the same list with just those entries in the gap, and every
-- byte outside the gap, and so every seal, is as before
pub record NowReads (m : Memory) (p n : ℕ) (ns : List ℕ) (es : List Entry) : Type 0 where
  pub list : Distinct (list_around m p n es) → reads (relaid m p n ns) ≡ Ok (record { entries = list_around m p n es })
  pub rival : Rival m (relaid m p n ns)
  pub seals : seals (relaid m p n ns) ≡ seals m

abbrev pub LaidReads : Type 0
LaidReads =
    (m : Memory) (r : Reading) → Shaped m → reads m ≡ Ok r → (p n : ℕ) → Gap m p n → (behind : Behind) → Stands m p n behind
    → (ws : List Wanted) → AllByRecursion Fit ws → total ws ≤ n * m.size → AllBelowBase 256 (laid_gap behind ws (n * m.size))
    → NowReads m p n (laid_gap behind ws (n * m.size)) (map entry_of ws)

-- a set of that item stands at an address where a block begins, and takes whole blocks
pub record OnBlocks (m : Memory) (at : ℕ) (w : Wanted) : Type 0 where
  pub set : Set
  pub before : List Found
  pub behind : List Found
  pub stands : found m.bytes ≡ before ++ (record { at = at; set = set } ∷ behind)
  pub is : content set.name ≡ w.identifier
  pub starts : at % m.size ≡ 0
  pub fills : size set % m.size ≡ 0

-- whatever rival has these entries in that gap has room for their smallest forms
abbrev pub RivalsNeed : Type 0
RivalsNeed =
    (m m' : Memory) (r' : Reading) → Shaped m → Rival m m' → reads m' ≡ Ok r' → (p n : ℕ) → Gap m p n
    → (ws : List Wanted) → gap_entries m' p n ≡ map entry_of ws → total ws ≤ n * m.size

-- the same of a gap with a readied set, which stands alone on whole blocks: where a block begins, and with whole blocks of bytes
abbrev pub ReadyReads : Type 0
ReadyReads =
    (m : Memory) (r : Reading) → Shaped m → reads m ≡ Ok r → (p n : ℕ) → Gap m p n → (behind : Behind) → Stands m p n behind
    → (ws : List Wanted) (k : ℕ) → AllByRecursion Fit ws → k < length ws → m.size ≤ 256
    → ready_need m.size (take k ws) (nth ws k) (drop (suc k) ws) ≤ n * m.size → AllBelowBase 256 (readied_gap behind m.size ws k (n * m.size))
    → NowReads m p n (readied_gap behind m.size ws k (n * m.size)) (map entry_of ws)
    × OnBlocks (relaid m p n (readied_gap behind m.size ws k (n * m.size))) (p * m.size + whole m.size (total (take k ws))) (nth ws k)

-- whatever rival has the list with that set, pad included, alone on whole blocks has room for as much
abbrev pub ReadyRivals : Type 0
ReadyRivals =
    (m : Memory) (r : Reading) → Shaped m → reads m ≡ Ok r → (fs : List Found) (f : Found) (gs : List Found) (p n : ℕ) → Lies m fs f gs p n
    → (m' : Memory) → Rival m m' → reads m' ≡ Ok r → Alone m' (identified f)
    → (ws : List Wanted) (k : ℕ) → map entry_of (take k ws) ≡ gap_before m fs → entry_of (nth ws k) ≡ entry m f → map entry_of (drop (suc k) ws) ≡ gap_behind m gs
    → ready_need m.size (take k ws) (nth ws k) (drop (suc k) ws) ≤ n * m.size
