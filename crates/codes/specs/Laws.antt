-- What holds of the codes, as statements.
use Rattle.std.specs.Prelude.{◌≡◌, ℕ, ◌*◌, ◌/◌, ◌%◌, ◌^◌, ◌<◌, ◌≤◌, true, false, ◌⊎◌, List, map, length, Ok, Err, slice_index}
use Rattle.std.specs.Int.Digits.{AllBelowBase, digits_of, number_from_digits}
use Rattle.codes.specs.declared.fault.Fault.{Fault}
use Rattle.codes.specs.declared.fault.Fault.TheVariants.{TooLarge, NoCharacter, NoPadding}
use Rattle.codes.specs.Table.{value, largest, blank_end, letter, remaining, pad_behind, Way, integer, letters, octets, code, permitted, packed_code, unpacked_code, first_code}

-- a code unpacks what it packed
abbrev pub ComesBack : Type 0
ComesBack = (k : ℕ) (x : List ℕ) → k < 8 → permitted k x ≡ true → unpacked_code k (packed_code k x) ≡ Ok x

-- the first code is a permitted one of its kind, and none that is permitted packs shorter
abbrev pub FirstPermitted : Type 0
FirstPermitted = (kind : ℕ) (x : List ℕ) → kind ≤ 2 → (first_code kind x < 8) × (permitted (first_code kind x) x ≡ true) × ((code (first_code kind x)).kind ≡ kind)

abbrev pub FirstShortest : Type 0
FirstShortest = (k : ℕ) (x : List ℕ) → k < 8 → permitted k x ≡ true → length (packed_code (first_code (code k).kind x) x) ≤ length (packed_code k x)

-- bytes that say an object, permitted or not, are no fewer than its first code packs
abbrev pub NoneShorter : Type 0
NoneShorter = (k : ℕ) (bs x : List ℕ) → k < 8 → AllBelowBase 256 bs → 0 < length bs → unpacked_code k bs ≡ Ok x → length (packed_code (first_code (code k).kind x) x) ≤ length bs

-- no bytes of code 4 say an object that the code is not for because of its end
abbrev pub NoBlankEnd : Type 0
NoBlankEnd = (bs x : List ℕ) → unpacked_code 4 bs ≡ Ok x → blank_end x ≡ false

-- the integer's bytes: at most eight, at most the largest value, no fewer than the value takes
pub record Integer (bs x : List ℕ) : Type 0 where
  pub eight : length bs ≤ 8
  pub most : number_from_digits 256 bs ≤ largest
  pub same : value x ≡ number_from_digits 256 bs
  pub fewest : length (digits_of 256 (value x)) ≤ length bs

abbrev pub Integers : Type 0
Integers = (bs x : List ℕ) → AllBelowBase 256 bs → unpacked_code 1 bs ≡ Ok x → Integer bs x

-- a fault tells the lowest group that stands for no character, or else that the bits behind the whole groups are no padding
abbrev pub LettersUpto : ℕ → List ℕ → ℕ → Type 0
LettersUpto hi x n = (j : ℕ) → j < n → slice_index x j ≤ hi

abbrev pub Told : Way → List ℕ → Fault → Type 0
Told integer bs f = (f ≡ TooLarge) × ((8 < length bs) ⊎ (largest < number_from_digits 256 bs))
Told (letters w p lo hi) bs TooLarge = ⊥
Told (letters w p lo hi) bs (NoCharacter i) =
    let x = map (letter w lo) (remaining w p bs) in
    (i < length x) × (hi < slice_index x i) × LettersUpto hi x i
Told (letters w p lo hi) bs (NoPadding n) =
    let x = map (letter w lo) (remaining w p bs) in
    (n ≡ length bs * 8 / w) × (pad_behind w p bs ≡ false) × LettersUpto hi x (length x)
Told octets bs f = ⊥

abbrev pub FaultsTold : Type 0
FaultsTold = (k : ℕ) (bs : List ℕ) (f : Fault) → unpacked_code k bs ≡ Err f → Told (code k).way bs f

-- a letter has its group for low bits, and no other byte of the alphabet has
abbrev pub Stands : ℕ → ℕ → ℕ → Type 0
Stands w lo hi = (g : ℕ) → g < 2 ^ w → (letter w lo g % 2 ^ w ≡ g) × ((b : ℕ) → lo ≤ b → b ≤ hi → b % 2 ^ w ≡ g → b ≡ letter w lo g)

abbrev pub LettersStand : Type 0
LettersStand = Stands 4 0x30 0x39 × Stands 5 0x41 0x5f × Stands 6 0x20 0x5f × Stands 7 0x00 0x7e
