-- What a word of a case says.
use Rattle.std.specs.Prelude.{ℕ, ◌+◌, ◌-◌, ◌*◌, ◌/◌, ◌%◌, Bool, cond, not, ◌&&◌, ◌||◌, nat_le, List, [], length, map, position, slice_index, Option, Some, None, codes, Result, Ok, Err}
use Rattle.std.specs.Str.{bytes_eq}
use Rattle.std.specs.Simd.{first_chunks}
use Rattle.vectors.specs.declared.faults.WordFault.{WordFault}
use Rattle.vectors.specs.declared.faults.WordFault.TheVariants.{NotHexadecimal}

-- the word for no bytes
abbrev pub none_word : List ℕ
none_word = codes "-"

-- a hexadecimal digit, its letter a capital
abbrev pub is_digit : ℕ → Bool
is_digit b = nat_le 48 b && nat_le b 57 || nat_le 65 b && nat_le b 70

-- what a digit counts
abbrev pub digit_value : ℕ → ℕ
digit_value b = (b - cond (nat_le b 57) 48 55) % 16

abbrev pub byte_of : ℕ → ℕ → ℕ
byte_of high low = digit_value high * 16 + digit_value low

-- the bytes of pairs of digits; one that is left over says nothing
abbrev pub in_pairs : List ℕ → List ℕ
in_pairs word = map (λ pair. byte_of (slice_index pair 0) (slice_index pair 1)) (first_chunks 2 (length word / 2) word)

-- the place of the first character that is no digit
abbrev pub wrong_in : List ℕ → Option ℕ
wrong_in word = position (λ b. not (is_digit b)) word

-- the bytes of the pairs of a word, unless a character is no digit
abbrev pub pairs_of : List ℕ → Option ℕ → Result (List ℕ) WordFault
pairs_of word (Some i) = Err (NotHexadecimal (slice_index word i) i)
pairs_of word None = Ok (in_pairs word)

-- the bytes of a word, or what is wrong with its digits
abbrev pub bytes_of : List ℕ → Result (List ℕ) WordFault
bytes_of word = cond (bytes_eq word none_word) (Ok []) (pairs_of word (wrong_in word))
