-- Which set and which entry an identifier names.
use Rattle.std.specs.Prelude.{◌≡◌, ℕ, List, Ok, ◌≢◌}
use Rattle.std.specs.List.{ContainsAt as Has}
use Rattle.sets.specs.Scans.{Found}
use Rattle.sets.specs.Readings.{Memory, Entry, Reading, found, identified, entry, reads}
use Rattle.effects.specs.Lists.{Absent}

-- one set at most has an identifier
abbrev pub OneSet : Type 0
OneSet = (m : Memory) (r : Reading) → reads m ≡ Ok r → (f g : Found) → Has (found m.bytes) f → Has (found m.bytes) g → identified f ≡ identified g → f ≡ g

-- the entries of the list are those of the sets
abbrev pub SetListed : Type 0
SetListed = (m : Memory) (r : Reading) → reads m ≡ Ok r → (f : Found) → Has (found m.bytes) f → Has r.entries (entry m f)

abbrev pub ListedSet : Type 0
ListedSet = (m : Memory) (r : Reading) → reads m ≡ Ok r → (e : Entry) → Has r.entries e → (f : Found) × Has (found m.bytes) f × (entry m f ≡ e)

-- an identifier that no set has, no entry has
abbrev pub NoneListed : Type 0
NoneListed = (m : Memory) (r : Reading) → reads m ≡ Ok r → (id : List ℕ) → ((f : Found) → Has (found m.bytes) f → id ≢ identified f) → Absent id r.entries
