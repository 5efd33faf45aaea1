-- How a set is written, and the smallest form of an identifier, a code and a packed object.
use Rattle.std.specs.Prelude.{ℕ, zero, suc, ◌+◌, ◌-◌, ◌*◌, ◌/◌, ◌%◌, cond, List, [], ◌∷◌, ◌++◌, length, replicate, ◌==◌, nat_lt}
use Rattle.sets.specs.Sets.{Name, bare, byte, led, Set, offset_size}

-- 1 to 14 in the nibble, 15 to 127 in one byte, every other behind a lead byte
abbrev pub shortest : List ℕ → Name
shortest [] = led []
shortest (n ∷ []) = cond (n == 0) (led (n ∷ [])) (cond (nat_lt n 15) (bare n) (byte n))
shortest (n ∷ m ∷ c) = led (n ∷ m ∷ c)

abbrev pub smallest : List ℕ → ℕ → List ℕ → Set
smallest c code object = record { extra = 0; name = shortest c; code = code; object = object }

abbrev pub nibble : Name → ℕ
nibble (bare n) = n
nibble (byte n) = 15
nibble (led c) = 15

abbrev pub name_bytes : Name → List ℕ
name_bytes (bare n) = []
name_bytes (byte n) = (n - 15) ∷ []
name_bytes (led c) = (0x7f + length c) ∷ c

abbrev pub length_bytes : ℕ → List ℕ
length_bytes n = cond (nat_lt n 0x80) (n ∷ []) ((0x80 + n / 0x80) ∷ (n % 0x80) ∷ [])

abbrev pub offset_bytes : ℕ → List ℕ
offset_bytes zero = []
offset_bytes (suc v) = v ∷ []

abbrev pub first_byte : Set → ℕ
first_byte s = 0x80 * offset_size s.extra + 16 * s.code + nibble s.name

-- pad is written as 00, and read as anything
unfoldable pub encode : Set → List ℕ
encode s =
    first_byte s
    ∷ (offset_bytes s.extra ++ (name_bytes s.name ++ (length_bytes (length s.object) ++ (s.object ++ replicate (s.extra - 1) 0))))
