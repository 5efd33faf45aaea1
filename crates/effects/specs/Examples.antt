-- A gap of eight bytes between two seals, changed, emptied, readied and sealed.
use Rattle.std.specs.Prelude.{◌≡◌, ℕ, true, List, [], ◌∷◌, ◌++◌, replicate}
use Rattle.codes.specs.declared.kind.Kind.TheVariants.{Application}
use Rattle.sets.specs.Sets.{bare}
use Rattle.sets.specs.Scans.{Found}
use Rattle.rivals.specs.Examples.{between, with_three, six}
use Rattle.writing.specs.Forms.{Wanted}
use Rattle.effects.specs.Gaps.{OpenSet}
use Rattle.effects.specs.Seals.{locking}
use Rattle.effects.specs.Made.{set_room, change_wants, change_made, drop_made, ready_wants, ready_made, ready_first, ready_blocks}
use Rattle.effects.specs.Laws.{Legible}

-- the set of identifier 3, whose six bytes fill the gap; and what it may be changed to
abbrev pub three : Found
three = record { at = 4; set = record { extra = 0; name = bare 3; code = 0; object = six } }

abbrev pub three_of : List ℕ → Wanted
three_of object = record { identifier = 3 ∷ []; kind = Application; object = object }

abbrev pub five : List ℕ
five = 0x61 ∷ 0x62 ∷ 0x63 ∷ 0x64 ∷ 0x65 ∷ []

-- the memory with other bytes between the seals
abbrev pub around : List ℕ → List ℕ
around inner = 0x01 ∷ 0x02 ∷ 0xaa ∷ 0xbb ∷ (inner ++ (0x02 ∷ 0x02 ∷ 0xcc ∷ 0xdd ∷ []))

abbrev pub BetweenMade : Type 0
BetweenMade =
    Legible between (record { entries = with_three six }) × OpenSet between three × (set_room between three ≡ 8)
    -- five bytes leave one for the offset, six fit without, seven do not
    × (change_wants between three (three_of five) ≡ 7) × ((change_made between three (three_of five)).bytes ≡ around (0x83 ∷ 0x00 ∷ 0x05 ∷ five))
    × (change_wants between three (three_of six) ≡ 8) × ((change_made between three (three_of six)).bytes ≡ around (0x03 ∷ 0x06 ∷ six))
    × (change_wants between three (three_of (0x60 ∷ six)) ≡ 9)
    -- dropped, the gap is fillers
    × ((drop_made between three).bytes ≡ around (replicate 8 0x80))
    -- readied, the set has both blocks, and with these locked every block is
    × (ready_wants between three ≡ 8) × ((ready_made between three).bytes ≡ around (0x03 ∷ 0x06 ∷ six))
    × (ready_first between three ≡ 1) × (ready_blocks between three ≡ 2) × ((locking between 1 2).locks ≡ replicate 4 true)
