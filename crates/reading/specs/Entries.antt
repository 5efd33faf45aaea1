-- What the entry of a set shows.
use Rattle.std.specs.Prelude.{◌≡◌, ℕ, ◌<◌, ◌⊎◌, length, drop, Some, None, Option}
use Rattle.sets.specs.Sets.{Set, content, holds}
use Rattle.sets.specs.Parsing.{tile}
use Rattle.sets.specs.Scans.{next}
use Rattle.sets.specs.Objects.{unpacked}
use Rattle.sets.specs.Readings.{Memory, sealed, entry}
use Rattle.scan.specs.Views.{name_of, recorded}
use Rattle.reading.specs.declared.entries.Entry.{Entry}

-- the record of a set at an address, and the identifier, object and seal of its entry in the memory's reading
pub record Says (m : Memory) (at : ℕ) (e : Entry) (s : Set) : Type 0 where
  pub stands : next unpacked (drop at m.bytes) ≡ tile (holds s)
  pub place : e.place ≡ recorded at s
  pub code : e.place.code ≡ s.code
  pub identifier : content (name_of e.identifier) ≡ (entry m (record { at = at; set = s })).identifier
  pub object : e.object.now ≡ (entry m (record { at = at; set = s })).object
  pub sealed : e.sealed ≡ sealed m (record { at = at; set = s })

-- there is one unless no set stands there, blocks have no bytes, or the object is longer than the scratch
abbrev pub Entered : Memory → ℕ → ℕ → Option Entry → Type 0
Entered m at room (Some e) = (s : Set) × Says m at e s
Entered m at room None = (s : Set) → next unpacked (drop at m.bytes) ≡ tile (holds s) → (m.size ≡ 0) ⊎ (room < length (entry m (record { at = at; set = s })).object)
