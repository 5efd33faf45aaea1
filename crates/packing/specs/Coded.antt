-- What one text needs of every code.
use Rattle.std.specs.Prelude.{ℕ, ◌*◌, ◌/◌, Bool, true, false, cond, not, ◌&&◌, ◌||◌, List, [], ◌∷◌, map, length, Ok, Err, Result, ◌==◌, nat_lt}
use Rattle.codes.specs.declared.fault.Fault.{Fault}
use Rattle.codes.specs.declared.fault.Fault.TheVariants.{NoCharacter, NoPadding}
use Rattle.codes.specs.Table.{letter, upto, remaining, pad_behind}

-- the object that groups mean, unless the bits behind them are no padding
abbrev pub closed : Result (List ℕ) Fault → Bool → ℕ → Result (List ℕ) Fault
closed (Ok x) right n = cond right (Ok x) (Err (NoPadding n))
closed (Err f) right n = Err f

unfoldable pub unpacked_by : ℕ → ℕ → (List ℕ → Result (List ℕ) Fault) → List ℕ → Result (List ℕ) Fault
unpacked_by w p meant bs = closed (meant (remaining w p bs)) (pad_behind w p bs) (length bs * 8 / w)

-- the letters that groups stand for
unfoldable pub lettered : ℕ → ℕ → ℕ → List ℕ → Result (List ℕ) Fault
lettered w lo hi gs =
    let x = map (letter w lo) gs in
    cond (nat_lt (upto hi x) (length x)) (Err (NoCharacter (upto hi x))) (Ok x)

-- the alphabets of the table: code, width, padding group, least count, first and last byte, and whether the end of an object matters
abbrev pub alike : List ℕ → List ℕ → Bool
alike [] [] = true
alike [] (y ∷ ys) = false
alike (x ∷ xs) [] = false
alike (x ∷ xs) (y ∷ ys) = x == y && alike xs ys

abbrev pub is_alphabet : ℕ → ℕ → ℕ → ℕ → ℕ → ℕ → Bool → Bool
is_alphabet k w p least lo hi blank =
    let this = k ∷ w ∷ p ∷ least ∷ lo ∷ hi ∷ [] in
    (alike this (2 ∷ 4 ∷ 15 ∷ 2 ∷ 0x30 ∷ 0x39 ∷ []) && not blank)
    || ((alike this (3 ∷ 5 ∷ 0 ∷ 3 ∷ 0x41 ∷ 0x5f ∷ []) && not blank)
    || ((alike this (4 ∷ 6 ∷ 32 ∷ 4 ∷ 0x20 ∷ 0x5f ∷ []) && blank)
    || (alike this (5 ∷ 7 ∷ 127 ∷ 8 ∷ 0x00 ∷ 0x7e ∷ []) && not blank)))

-- the codes that keep the bytes
abbrev pub is_plain : ℕ → Bool
is_plain k = k == 0 || (k == 6 || k == 7)
