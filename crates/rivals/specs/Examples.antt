-- A gap of eight bytes between two seals, worked out.
use Rattle.std.specs.Prelude.{◌≡◌, ℕ, Bool, true, false, List, [], ◌∷◌, Ok, ◌≢◌}
use Rattle.sets.specs.Readings.{Memory, Entry, reads}
use Rattle.rivals.specs.Memories.{Rival, Gap}
use Rattle.rivals.specs.Rooms.{least}

abbrev pub held : ℕ → List ℕ → Bool → Entry
held n object sealed = record { identifier = n ∷ []; kind = 0; object = object; sealed = sealed }

-- identifiers 1 and 2 are sealed; identifier 3 between them has six bytes
abbrev pub between : Memory
between = record {
  size = 4;
  locks = true ∷ false ∷ false ∷ true ∷ [];
  bytes = 0x01 ∷ 0x02 ∷ 0xaa ∷ 0xbb ∷ 0x03 ∷ 0x06 ∷ 0x61 ∷ 0x62 ∷ 0x63 ∷ 0x64 ∷ 0x65 ∷ 0x66 ∷ 0x02 ∷ 0x02 ∷ 0xcc ∷ 0xdd ∷ [];
}

abbrev pub with_three : List ℕ → List Entry
with_three object = held 1 (0xaa ∷ 0xbb ∷ []) true ∷ held 3 object false ∷ held 2 (0xcc ∷ 0xdd ∷ []) true ∷ []

abbrev pub six : List ℕ
six = 0x61 ∷ 0x62 ∷ 0x63 ∷ 0x64 ∷ 0x65 ∷ 0x66 ∷ []

-- six fill the gap, and no rival reads as the list with seven
abbrev pub SevenTooMany : Type 0
SevenTooMany =
    (reads between ≡ Ok (record { entries = with_three six })) × Gap between 1 2 × (least (held 3 six false) ≡ 8)
    × ((m' : Memory) → Rival between m' → reads m' ≢ Ok (record { entries = with_three (0x60 ∷ six) }))
