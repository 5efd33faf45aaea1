-- Worked examples, as statements.
use Rattle.std.specs.Prelude.{◌≡◌, ℕ, List, [], ◌∷◌, map}
use Rattle.std.specs.List.{AllByRecursion}
use Rattle.sets.specs.Sets.{bare, led, Set, filler, holds}
use Rattle.sets.specs.Parsing.{plain, Step, end, tile, wrong, got, identifier, size_of_object, parse}
use Rattle.sets.specs.Writing.{shortest, nibble, name_bytes, length_bytes}
use Rattle.sets.specs.Scans.{clean, scan, placed}
use Rattle.sets.specs.Objects.{unpacked}

-- an identifier's content with its nibble and the bytes behind; a length with its bytes
pub data Spelling : Type 0 where
  arc : List ℕ → ℕ → List ℕ → Spelling
  count : ℕ → List ℕ → Spelling

-- it is written so in smallest form, and read back
abbrev pub Right : Spelling → Type 0
Right (arc c n bs) = (nibble (shortest c) ≡ n) × (name_bytes (shortest c) ≡ bs) × (identifier n bs ≡ got (shortest c) [])
Right (count n bs) = (length_bytes n ≡ bs) × (size_of_object bs ≡ got n [])

abbrev pub spellings : List Spelling
spellings =
    arc (14 ∷ []) 0xe []
    ∷ arc (15 ∷ []) 0xf (0x00 ∷ [])
    ∷ arc (127 ∷ []) 0xf (0x70 ∷ [])
    ∷ arc (0x81 ∷ 0x00 ∷ []) 0xf (0x81 ∷ 0x81 ∷ 0x00 ∷ [])
    ∷ count 127 (0x7f ∷ [])
    ∷ count 128 (0x81 ∷ 0x00 ∷ [])
    ∷ []

abbrev pub SpellingsRight : Type 0
SpellingsRight = AllByRecursion Right spellings

-- bytes and what stands at their front
pub record Example : Type 0 where
  pub bytes : List ℕ
  pub step : Step

abbrev pub example : List ℕ → Step → Example
example bs st = record { bytes = bs; step = st }

abbrev pub refused : ℕ → Step
refused n = wrong (plain n)

abbrev pub one_set : Set
one_set = record { extra = 3; name = bare 1; code = 1; object = 0xbc ∷ 0x61 ∷ 0x4e ∷ [] }

abbrev pub two_set : Set
two_set = record { extra = 0; name = bare 5; code = 4; object = 0x04 ∷ 0x2b ∷ 0x71 ∷ 0xca ∷ [] }

abbrev pub led_set : Set
led_set = record { extra = 0; name = led (0x81 ∷ 0x00 ∷ []); code = 1; object = 0x0a ∷ [] }

abbrev pub steps : List Example
steps =
    example [] end
    ∷ example (0x00 ∷ 0x11 ∷ []) end
    ∷ example (0x80 ∷ []) (tile filler)
    ∷ example (0x91 ∷ 0x02 ∷ 0x03 ∷ 0xbc ∷ 0x61 ∷ 0x4e ∷ 0x00 ∷ 0x00 ∷ 0x45 ∷ []) (tile (holds one_set))
    ∷ example (0x1f ∷ 0x81 ∷ 0x81 ∷ 0x00 ∷ 0x01 ∷ 0x0a ∷ []) (tile (holds led_set))
    ∷ example (0x90 ∷ []) (refused 7)
    ∷ example (0x91 ∷ []) (refused 8)
    ∷ example (0x1f ∷ 0x71 ∷ []) (refused 9)
    ∷ example (0x1f ∷ 0xa0 ∷ []) (refused 9)
    ∷ example (0x1f ∷ 0x81 ∷ 0x80 ∷ []) (refused 8)
    ∷ example (0x1f ∷ 0x81 ∷ 0x80 ∷ 0x00 ∷ []) (refused 10)
    ∷ example (0x1f ∷ 0x80 ∷ 0x81 ∷ []) (refused 10)
    ∷ example (0x11 ∷ 0x80 ∷ []) (refused 8)
    ∷ example (0x11 ∷ 0x80 ∷ 0x7f ∷ []) (refused 11)
    ∷ example (0x11 ∷ 0x81 ∷ 0x80 ∷ []) (refused 11)
    ∷ example (0x11 ∷ 0x00 ∷ []) (refused 12)
    ∷ example (0x11 ∷ 0x02 ∷ 0x01 ∷ []) (refused 8)
    ∷ example (0x91 ∷ 0x01 ∷ 0x01 ∷ 0x0a ∷ []) (refused 8)
    ∷ []

abbrev pub StepsRight : Type 0
StepsRight = map (λ e. parse e.bytes) steps ≡ map (λ e. e.step) steps

-- a memory of two sets, with a filler between them and bytes behind the end
abbrev pub memory : List ℕ
memory = 0x91 ∷ 0x02 ∷ 0x03 ∷ 0xbc ∷ 0x61 ∷ 0x4e ∷ 0x00 ∷ 0x00 ∷ 0x80 ∷ 0x45 ∷ 0x04 ∷ 0x04 ∷ 0x2b ∷ 0x71 ∷ 0xca ∷ 0x00 ∷ 0x00 ∷ 0x07 ∷ []

abbrev pub MemoryRight : Type 0
MemoryRight =
    (scan unpacked memory ≡ clean (holds one_set ∷ filler ∷ holds two_set ∷ []))
    × (placed 0 (holds one_set ∷ filler ∷ holds two_set ∷ []) ≡ record { at = 0; set = one_set } ∷ record { at = 9; set = two_set } ∷ [])
