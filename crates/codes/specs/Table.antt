-- The table of codes: what each is for, how it packs an object, what its bytes say.
use Rattle.std.specs.Prelude.{ℕ, suc, ◌+◌, ◌-◌, ◌*◌, ◌/◌, ◌%◌, ◌^◌, Bool, true, false, cond, not, ◌&&◌, List, [], ◌∷◌, map, length, take, drop, Ok, Err, Result, ◌==◌, nat_le, nat_lt, slice_index, slice_index_or}
use Rattle.std.specs.List.{list_all}
use Rattle.std.specs.Int.Digits.{digits_of, number_from_digits}
use Rattle.codes.specs.Bits.{bits, val, spread, groups, packed, trimmed}
use Rattle.codes.specs.declared.fault.Fault.{Fault}
use Rattle.codes.specs.declared.fault.Fault.TheVariants.{TooLarge, NoCharacter, NoPadding}

-- every byte of an object lies from lo to hi
abbrev pub within : ℕ → ℕ → List ℕ → Bool
within lo hi bs = list_all (λ b. nat_le lo b && nat_le b hi) bs

-- Integer: the value of decimal digits, and the decimal digits of a value.
abbrev pub value : List ℕ → ℕ
value x = number_from_digits 10 (map (λ b. b - 0x30) x)

abbrev pub decimal : ℕ → List ℕ
decimal n = cond (n == 0) (0x30 ∷ []) (map (λ d. 0x30 + d) (digits_of 10 n))

abbrev pub largest : ℕ
largest = 9999999999999999999

abbrev pub unpacked_integer : List ℕ → Result (List ℕ) Fault
unpacked_integer bs = cond (nat_le (length bs) 8 && nat_le (number_from_digits 256 bs) largest) (Ok (decimal (number_from_digits 256 bs))) (Err TooLarge)

-- Letters of w bits from lo to hi: a character gives its low bits.
abbrev pub low_bits : ℕ → List ℕ → List ℕ
low_bits w bs = map (λ b. b % 2 ^ w) bs

-- the whole groups that bytes write, the bits behind them, and the groups without a last one that is padding
abbrev pub whole : ℕ → List ℕ → List ℕ
whole w bs = groups w (length bs * 8 / w) (spread 8 bs)

abbrev pub behind : ℕ → List ℕ → List ℕ
behind w bs = drop (length bs * 8 / w * w) (spread 8 bs)

abbrev pub remaining : ℕ → ℕ → List ℕ → List ℕ
remaining w p bs = trimmed w p (length bs * 8 % w) (whole w bs)

-- the bits behind are the front of the padding group
abbrev pub pad_behind : ℕ → ℕ → List ℕ → Bool
pad_behind w p bs = val (behind w bs) == val (take (length bs * 8 % w) (bits w p))

-- the byte, lo or the next above it, whose low w bits are g
abbrev pub letter : ℕ → ℕ → ℕ → ℕ
letter w lo g = lo + (g + (2 ^ w - lo % 2 ^ w)) % 2 ^ w

-- how many bytes stand before the first above hi
abbrev pub upto : ℕ → List ℕ → ℕ
upto hi [] = 0
upto hi (b ∷ bs) = cond (nat_le b hi) (suc (upto hi bs)) 0

-- the lowest group that stands for no character first, then the bits behind
abbrev pub told : ℕ → List ℕ → Bool → ℕ → Result (List ℕ) Fault
told hi x right n = cond (nat_lt (upto hi x) (length x)) (Err (NoCharacter (upto hi x))) (cond right (Ok x) (Err (NoPadding n)))

unfoldable pub unpacked_letters : ℕ → ℕ → ℕ → ℕ → List ℕ → Result (List ℕ) Fault
unpacked_letters w p lo hi bs = told hi (map (letter w lo) (remaining w p bs)) (pad_behind w p bs) (length bs * 8 / w)

-- The ways of packing: letters have a width, a padding group, a first and a last byte.
pub data Way : Type 0 where
  integer : Way
  letters : ℕ → ℕ → ℕ → ℕ → Way
  octets : Way

abbrev pub packing : Way → List ℕ → List ℕ
packing integer x = digits_of 256 (value x)
packing (letters w p lo hi) x = packed w p (low_bits w x)
packing octets x = x

abbrev pub unpacking : Way → List ℕ → Result (List ℕ) Fault
unpacking integer bs = unpacked_integer bs
unpacking (letters w p lo hi) bs = unpacked_letters w p lo hi bs
unpacking octets bs = Ok bs

-- The table: the kind of object that a code is for, its way, and the objects that it permits.
pub record Row : Type 0 where
  pub kind : ℕ
  pub way : Way
  pub permits : List ℕ → Bool

abbrev pub row : ℕ → Way → (List ℕ → Bool) → Row
row k w p = record { kind = k; way = w; permits = p }

abbrev pub many : ℕ → List ℕ → Bool
many n x = nat_le n (length x)

-- the count divides by 4 and the last byte is 20
abbrev pub blank_end : List ℕ → Bool
blank_end x = length x % 4 == 0 && slice_index x (length x - 1) == 0x20

abbrev pub table : List Row
table =
    row 0 octets (λ x. true)
    ∷ row 1 integer (λ x. (many 2 x && nat_le (length x) 19) && (within 0x30 0x39 x && not (slice_index x 0 == 0x30)))
    ∷ row 1 (letters 4 15 0x30 0x39) (λ x. many 2 x && within 0x30 0x39 x)
    ∷ row 1 (letters 5 0 0x41 0x5f) (λ x. many 3 x && within 0x41 0x5f x)
    ∷ row 1 (letters 6 32 0x20 0x5f) (λ x. (many 4 x && within 0x20 0x5f x) && not (blank_end x))
    ∷ row 1 (letters 7 127 0x00 0x7e) (λ x. many 8 x && within 0x00 0x7e x)
    ∷ row 1 octets (λ x. true)
    ∷ row 2 octets (λ x. true)
    ∷ []

abbrev pub code : ℕ → Row
code k = slice_index_or table k (row 3 octets (λ x. false))

unfoldable pub permitted : ℕ → List ℕ → Bool
permitted k x = (code k).permits x

unfoldable pub packed_code : ℕ → List ℕ → List ℕ
packed_code k x = packing (code k).way x

unfoldable pub unpacked_code : ℕ → List ℕ → Result (List ℕ) Fault
unpacked_code k bs = unpacking (code k).way bs

-- the first code of a kind that is permitted
abbrev pub first_from : ℕ → List ℕ → ℕ → List Row → ℕ
first_from kind x k [] = k
first_from kind x k (r ∷ rs) = cond (r.kind == kind && r.permits x) k (first_from kind x (suc k) rs)

unfoldable pub first_code : ℕ → List ℕ → ℕ
first_code kind x = first_from kind x 0 table
