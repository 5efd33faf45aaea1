-- What stands at the front of a memory: the end, a filler, a set or a fault.
use Rattle.std.specs.Prelude.{ℕ, suc, ◌+◌, ◌-◌, ◌*◌, ◌/◌, ◌%◌, Bool, true, cond, not, ◌&&◌, ◌||◌, List, [], ◌∷◌, length, take, drop, ◌==◌, nat_le, nat_lt}
use Rattle.sets.specs.Sets.{Name, bare, byte, led, Set, Tile, filler, holds}

-- the number of a refusal, and the group that a code tells (0 where none)
pub record Flaw : Type 0 where
  pub number : ℕ
  pub group : ℕ

abbrev pub plain : ℕ → Flaw
plain n = record { number = n; group = 0 }

pub data Step : Type 0 where
  end : Step
  tile : Tile → Step
  wrong : Flaw → Step

-- A part that was read, with the bytes behind it; or the number of a refusal. Parts are read in the order of their bytes.
pub data Read (A : Type 0) : Type 0 where
  got : A → List ℕ → Read A
  bad : ℕ → Read A

abbrev pub then : {A B : Type 0} → Read A → (A → List ℕ → Read B) → Read B
then (got a rest) f = f a rest
then (bad n) f = bad n

-- one byte, and a run of n bytes: 8 where one is missing
abbrev pub one : List ℕ → Read ℕ
one [] = bad 8
one (b ∷ bs) = got b bs

abbrev pub run : ℕ → List ℕ → Read (List ℕ)
run n bs = cond (nat_lt (length bs) n) (bad 8) (got (take n bs) (drop n bs))

-- the offset byte v, where the precursor p has bit 8, announces v bytes of pad
abbrev pub offset : ℕ → List ℕ → Read ℕ
offset p bs = cond (nat_lt p 0x80) (got 0 bs) (then (one bs) (λ v rest. got (suc v) rest))

-- whole arcs: none begins with 80, and the last byte is below 80
unfoldable pub arcs : Bool → List ℕ → Bool
arcs begins [] = begins
arcs begins (b ∷ bs) = not (begins && b == 0x80) && arcs (nat_lt b 0x80) bs

abbrev pub whole_arcs : List ℕ → List ℕ → Read Name
whole_arcs c rest = cond (arcs true c) (got (led c) rest) (bad 10)

-- behind nibble 15: 00 to 70 is a number less 15, 80 to 9F leads 1 to 32 bytes of content
abbrev pub lead : ℕ → List ℕ → Read Name
lead b bs = cond (nat_le b 0x70) (got (byte (b + 15)) bs) (cond (nat_lt b 0x80 || nat_lt 0x9f b) (bad 9) (then (run (b - 0x7f) bs) whole_arcs))

abbrev pub identifier : ℕ → List ℕ → Read Name
identifier nibble bs = cond (nat_lt nibble 15) (got (bare nibble) bs) (then (one bs) lead)

-- one byte to 127; otherwise 80 plus the high seven bits, then the low seven
abbrev pub second : ℕ → ℕ → List ℕ → Read ℕ
second high low bs = cond (nat_lt low 0x80 && nat_le 0x80 (high * 0x80 + low)) (got (high * 0x80 + low) bs) (bad 11)

abbrev pub first_length : ℕ → List ℕ → Read ℕ
first_length n bs = cond (nat_lt n 0x80) (cond (n == 0) (bad 12) (got n bs)) (then (one bs) (second (n - 0x80)))

abbrev pub size_of_object : List ℕ → Read ℕ
size_of_object bs = then (one bs) first_length

-- a set behind its precursor: bit 8 is the offset, bits 7 to 5 are the code, bits 4 to 1 the nibble
unfoldable pub body : ℕ → List ℕ → Read Set
body p bs =
    then (offset p bs) (λ extra bs₁.
    then (identifier (p % 16) bs₁) (λ name bs₂.
    then (size_of_object bs₂) (λ n bs₃.
    then (run n bs₃) (λ object bs₄.
    then (run (extra - 1) bs₄) (λ pad bs₅.
    got (record { extra = extra; name = name; code = p / 16 % 8; object = object }) bs₅)))))

abbrev pub told : Read Set → Step
told (got s rest) = tile (holds s)
told (bad n) = wrong (plain n)

unfoldable pub parse : List ℕ → Step
parse [] = end
parse (p ∷ bs) = cond (p == 0) end (cond (p == 0x80) (tile filler) (cond (p % 16 == 0) (wrong (plain 7)) (told (body p bs))))
