-- The list of a tag's entries, and what each call makes of it.
use Rattle.std.specs.Prelude.{ℕ, Bool, true, cond, not, List, [], ◌∷◌, ◌++◌, map, filter, ◌≢◌}
use Rattle.std.specs.List.{AllByRecursion}
use Rattle.std.specs.Str.{bytes_eq}
use Rattle.sets.specs.Readings.{Entry}

-- identifiers compare by content
abbrev pub named : List ℕ → Entry → Bool
named id e = bytes_eq id e.identifier

-- none has that identifier
abbrev pub Absent : List ℕ → List Entry → Type 0
Absent id l = AllByRecursion (λ e. id ≢ e.identifier) l

-- an entry with another kind and object, and one that is sealed
abbrev pub with_object : ℕ → List ℕ → Entry → Entry
with_object kind object e = record { identifier = e.identifier; kind = kind; object = object; sealed = e.sealed }

abbrev pub as_sealed : Entry → Entry
as_sealed e = record { identifier = e.identifier; kind = e.kind; object = e.object; sealed = true }

-- each entry of that identifier becomes another, the others stay
unfoldable pub each_named : List ℕ → (Entry → Entry) → List Entry → List Entry
each_named id become l = map (λ e. cond (named id e) (become e) e) l

-- a put, a change, a drop and a seal
abbrev pub put_list : List Entry → Entry → List Entry
put_list l e = l ++ (e ∷ [])

unfoldable pub changed : List ℕ → ℕ → List ℕ → List Entry → List Entry
changed id kind object l = each_named id (with_object kind object) l

unfoldable pub dropped : List ℕ → List Entry → List Entry
dropped id l = filter (λ e. not (named id e)) l

unfoldable pub sealed_list : List ℕ → List Entry → List Entry
sealed_list id l = each_named id as_sealed l
