-- The part of a list that stands in a gap, and the room that it needs.
use Rattle.std.specs.Prelude.{◌≡◌, ℕ, zero, suc, ◌+◌, ◌-◌, ◌%◌, ◌≤◌, Bool, cond, List, [], ◌∷◌, length, Ok}
use Rattle.std.specs.List.{AllByRecursion}
use Rattle.codes.specs.Table.{code}
use Rattle.sets.specs.Sets.{content, Set, size}
use Rattle.sets.specs.Laws.{Proper}
use Rattle.sets.specs.Objects.{unpacked}
use Rattle.sets.specs.Objects as objects
use Rattle.sets.specs.Readings.{Memory, Entry, Reading, said, reads}

-- the form of an entry with so many bytes of offset and pad
abbrev pub form : ℕ → Entry → Set
form extra e = objects.form extra e.identifier e.kind e.object

-- the bytes of the smallest form, and of those of some entries together
unfoldable pub least : Entry → ℕ
least e = size (form 0 e)

abbrev pub total : List Entry → ℕ
total [] = 0
total (e ∷ es) = least e + total es

-- an entry that a set can hold: a whole identifier, a kind of the table, an object of 1 to 2,048 bytes
pub record Fit (e : Entry) : Type 0 where
  pub identifier : Proper e.identifier
  pub kind : e.kind ≤ 2
  pub some : 1 ≤ length e.object
  pub few : length e.object ≤ 2048

-- what a set says, sealed or not
abbrev pub told : Set → Bool → Entry
told s sealed = record {
  identifier = content s.name;
  kind = (code s.code).kind;
  object = said (unpacked s.code s.object);
  sealed = sealed;
}

-- what a memory of at most 1,024 bytes reads as can be held again
abbrev pub EntriesFit : Type 0
EntriesFit = (m : Memory) (r : Reading) → length m.bytes ≤ 1024 → reads m ≡ Ok r → AllByRecursion Fit r.entries

-- the form of such an entry, with whatever offset and pad, says the entry
abbrev pub FormSays : Type 0
FormSays = (e : Entry) (extra : ℕ) → Fit e → (unpacked (form extra e).code (form extra e).object ≡ Ok e.object) × (told (form extra e) e.sealed ≡ e)

-- the open entries between the k-th sealed entry of a list and the next sealed one
abbrev pub part : ℕ → List Entry → List Entry
part k [] = []
part zero (e ∷ es) = cond e.sealed [] (e ∷ part zero es)
part (suc k) (e ∷ es) = cond e.sealed (part k es) (part (suc k) es)

-- how many entries of a list are sealed, and those after the last of them
abbrev pub seal_count : List Entry → ℕ
seal_count [] = 0
seal_count (e ∷ es) = cond e.sealed (suc (seal_count es)) (seal_count es)

abbrev pub after_last : List Entry → List Entry
after_last es = part (seal_count es) es

-- the bytes up to the next start of a block of b bytes, none at a start; and n bytes with those
abbrev pub to_block : ℕ → ℕ → ℕ
to_block b n = (b - n % b) % b

abbrev pub whole : ℕ → ℕ → ℕ
whole b n = n + to_block b n
