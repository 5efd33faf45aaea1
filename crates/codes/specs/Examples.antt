-- Worked examples, as statements.
use Rattle.std.specs.Prelude.{◌≡◌, ℕ, List, [], ◌∷◌, Ok, codes}
use Rattle.std.specs.List.{AllByRecursion}
use Rattle.codes.specs.Table.{first_code, packed_code, unpacked_code}

pub record Example : Type 0 where
  pub object : List ℕ
  pub code : ℕ
  pub bytes : List ℕ

-- the code is the first permitted, packs the object so, and these bytes say the object
abbrev pub Right : Example → Type 0
Right e = (first_code 1 e.object ≡ e.code) × (packed_code e.code e.object ≡ e.bytes) × (unpacked_code e.code e.bytes ≡ Ok e.object)

abbrev pub example : List ℕ → ℕ → List ℕ → Example
example x k bs = record { object = x; code = k; bytes = bs }

abbrev pub examples : List Example
examples =
    example (codes "10") 1 (0x0a ∷ [])
    ∷ example (codes "7") 6 (0x37 ∷ [])
    ∷ example (codes "007") 2 (0x00 ∷ 0x7f ∷ [])
    ∷ example (codes "9999999999999999999") 1 (0x8a ∷ 0xc7 ∷ 0x23 ∷ 0x04 ∷ 0x89 ∷ 0xe7 ∷ 0xff ∷ 0xff ∷ [])
    ∷ example (codes "ABC") 3 (0x08 ∷ 0x86 ∷ [])
    ∷ example (codes "AB-12") 4 (0x04 ∷ 0x2b ∷ 0x71 ∷ 0xca ∷ [])
    ∷ []

abbrev pub ExamplesHold : Type 0
ExamplesHold = AllByRecursion Right examples
