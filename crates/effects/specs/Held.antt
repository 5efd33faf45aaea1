-- What stands in a gap can be laid out again: the items of a gap, and which of them an open set is.
use Rattle.std.specs.Prelude.{◌≡◌, ℕ, zero, suc, ◌<◌, ◌≤◌, List, map, length, Ok}
use Rattle.codes.specs.declared.kind.Kind.{Kind}
use Rattle.codes.specs.declared.kind.Kind.TheVariants.{Application, Compact, Utf8}
use Rattle.sets.specs.Scans.{Found}
use Rattle.sets.specs.Readings.{Memory, Entry, Reading, identified, reads}
use Rattle.rivals.specs.Memories.{Shaped, Gap, gap_entries}
use Rattle.rivals.specs.Promises.{Lies}
use Rattle.writing.specs.Forms.{Wanted}
use Rattle.layout.specs.Plans.{nth}
use Rattle.layout.specs.Anew.{entry_of}
use Rattle.effects.specs.Gaps.{Items}
use Rattle.effects.specs.Changes.{ItemAt}

-- the kind of a number, and the item of an entry
abbrev pub kind_of : ℕ → Kind
kind_of zero = Application
kind_of (suc zero) = Compact
kind_of (suc (suc k)) = Utf8

abbrev pub wanted_of : Entry → Wanted
wanted_of e = record { identifier = e.identifier; kind = kind_of e.kind; object = e.object }

unfoldable pub items_of : Memory → ℕ → ℕ → List Wanted
items_of m p n = map wanted_of (gap_entries m p n)

-- these are the items of the gap, each of them can be laid out again, and there are no others
abbrev pub ItemsHeld : Type 0
ItemsHeld = (m : Memory) (r : Reading) → Shaped m → length m.bytes ≤ 1024 → reads m ≡ Ok r → (p n : ℕ) → Gap m p n → Items m r p n (items_of m p n)

abbrev pub ItemsOnly : Type 0
ItemsOnly = (m : Memory) (p n : ℕ) (ws : List Wanted) → map entry_of ws ≡ gap_entries m p n → ws ≡ items_of m p n

-- the item with the identifier of an open set is that set's
abbrev pub ItemNamed : Type 0
ItemNamed =
    (m : Memory) (r : Reading) (fs : List Found) (f : Found) (gs : List Found) (p n : ℕ) (ws : List Wanted) → Items m r p n ws → Lies m fs f gs p n
    → (k : ℕ) → k < length ws → (nth ws k).identifier ≡ identified f → ItemAt m r fs f gs p n ws k
