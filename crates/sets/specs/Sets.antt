-- What a set is, how many bytes it takes and where its parts stand.
use Rattle.std.specs.Prelude.{ℕ, zero, suc, ◌+◌, cond, List, [], ◌∷◌, length, nat_lt}

-- An identifier as it is written: a number in the precursor's nibble, a number in one byte, or content behind a lead byte.
pub data Name : Type 0 where
  bare : ℕ → Name
  byte : ℕ → Name
  led : List ℕ → Name

-- A set: one identified object on a tag. `extra` counts its offset byte and its pad, and is 0 without an offset byte; `object` is packed by `code`.
pub record Set : Type 0 where
  pub extra : ℕ
  pub name : Name
  pub code : ℕ
  pub object : List ℕ

-- What a memory is laid with: sets, and fillers, which are one byte 80 that says nothing.
pub data Tile : Type 0 where
  filler : Tile
  holds : Set → Tile

-- the content of an identifier, by which identifiers compare
abbrev pub content : Name → List ℕ
content (bare n) = n ∷ []
content (byte n) = n ∷ []
content (led c) = c

-- without a lead byte an identifier is a number, and shows no part of the memory; with one it is a part, and its number is 0
abbrev pub number : Name → ℕ
number (bare n) = n
number (byte n) = n
number (led c) = 0

abbrev pub part : Name → List ℕ
part (bare n) = []
part (byte n) = []
part (led c) = c

-- how many bytes an identifier, an offset byte and the length n take
abbrev pub name_size : Name → ℕ
name_size (bare n) = 0
name_size (byte n) = 1
name_size (led c) = suc (length c)

abbrev pub offset_size : ℕ → ℕ
offset_size zero = 0
offset_size (suc v) = 1

abbrev pub long : ℕ → ℕ
long n = cond (nat_lt n 0x80) 1 2

-- the bytes of a set, with its pad
abbrev pub size : Set → ℕ
size s = suc (s.extra + name_size s.name + long (length s.object) + length s.object)

abbrev pub wide : Tile → ℕ
wide filler = 1
wide (holds s) = size s

-- of a set at an address: where the part of its identifier begins (0 where it has none), and where its object
abbrev pub name_at : ℕ → ℕ → Name → ℕ
name_at at extra (bare n) = 0
name_at at extra (byte n) = 0
name_at at extra (led c) = at + 2 + offset_size extra

abbrev pub object_at : ℕ → Set → ℕ
object_at at s = at + 1 + offset_size s.extra + name_size s.name + long (length s.object)
