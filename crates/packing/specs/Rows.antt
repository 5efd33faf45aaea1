-- An alphabet is a row of the table of codes, and packs and unpacks as that row says.
use Rattle.std.proofs.Common.{◌≡◌, ℕ, ◌+◌, ◌*◌, ◌/◌, ◌^◌, ◌<◌, ◌≤◌, Bool, true, false, cond, not, ◌&&◌, eqb, ltb, List, [], ◌∷◌, map, length, Ok, Err, sym, refl, ap, ◌∙◌, ⊎_elim, mod-lt, arith, pow_pos}
use mathlib.Core.Path.{transport}
use Rattle.std.specs.Int.Digits.{AllBelowBase}
use Rattle.std.proofs.lemmas.Bool.{and_parts, or_cases, eqb-true, not-true}
use Rattle.codes.specs.Table.{within, low_bits}
use Rattle.codes.specs.Bits.{packed}
use Rattle.codes.specs.declared.fault.Fault.TheVariants.{NoCharacter, NoPadding}
use Rattle.codes.specs.Table.{letter, upto, told, remaining, pad_behind, many, blank_end, letters, code, permitted, packing, packed_code, unpacking, unpacked_code, unpacked_letters}
use Rattle.packing.specs.Coded.{alike, is_alphabet, closed, unpacked_by, lettered}

-- an alphabet is a row of the table
pub record Listed (k w p least lo hi : ℕ) (blank : Bool) : Type 0 where
  pub wide : 4 ≤ w
  pub narrow : w ≤ 7
  pub fits : p < 2 ^ w
  pub some : 2 ≤ least
  pub byte : lo + 2 ^ w ≤ 256
  pub way : (code k).way ≡ letters w p lo hi
  pub permits : (x : List ℕ) → permitted k x ≡ ((many least x && within lo hi x) && not (blank && blank_end x))

same-six : (k w p least lo hi k' w' p' least' lo' hi' : ℕ) (b b' : Bool) → alike (k ∷ w ∷ p ∷ least ∷ lo ∷ hi ∷ []) (k' ∷ w' ∷ p' ∷ least' ∷ lo' ∷ hi' ∷ []) ≡ true → b ≡ b' → Listed k' w' p' least' lo' hi' b' → Listed k w p least lo hi b
same-six k w p least lo hi k' w' p' least' lo' hi' b b' h e l =
    let q1 = and_parts (eqb k k') _ h in
    let q2 = and_parts (eqb w w') _ q1.1 in
    let q3 = and_parts (eqb p p') _ q2.1 in
    let q4 = and_parts (eqb least least') _ q3.1 in
    let q5 = and_parts (eqb lo lo') _ q4.1 in
    let q6 = and_parts (eqb hi hi') _ q5.1 in
    transport (λ j. Listed (sym (eqb-true k k' q1.0) j) (sym (eqb-true w w' q2.0) j) (sym (eqb-true p p' q3.0) j) (sym (eqb-true least least' q4.0) j) (sym (eqb-true lo lo' q5.0) j) (sym (eqb-true hi hi' q6.0) j) (sym e j)) l

and-true : (b : Bool) → b ≡ (b && true)
and-true true = refl
and-true false = refl

pub listed : (k w p least lo hi : ℕ) (blank : Bool) → is_alphabet k w p least lo hi blank ≡ true → Listed k w p least lo hi blank
unfolding permitted
listed k w p least lo hi blank h =
    let this : List ℕ = k ∷ w ∷ p ∷ least ∷ lo ∷ hi ∷ [] in
    ⊎_elim
    (λ a. let q = and_parts (alike this (2 ∷ 4 ∷ 15 ∷ 2 ∷ 0x30 ∷ 0x39 ∷ [])) (not blank) a in same-six k w p least lo hi 2 4 15 2 0x30 0x39 blank false q.0 (not-true _ q.1) (record { wide = omega arith; narrow = omega arith; fits = omega arith; some = omega arith; byte = omega arith; way = refl; permits = λ x. and-true _ }))
    (λ o. ⊎_elim
    (λ a. let q = and_parts (alike this (3 ∷ 5 ∷ 0 ∷ 3 ∷ 0x41 ∷ 0x5f ∷ [])) (not blank) a in same-six k w p least lo hi 3 5 0 3 0x41 0x5f blank false q.0 (not-true _ q.1) (record { wide = omega arith; narrow = omega arith; fits = omega arith; some = omega arith; byte = omega arith; way = refl; permits = λ x. and-true _ }))
    (λ o. ⊎_elim
    (λ a. let q = and_parts (alike this (4 ∷ 6 ∷ 32 ∷ 4 ∷ 0x20 ∷ 0x5f ∷ [])) blank a in same-six k w p least lo hi 4 6 32 4 0x20 0x5f blank true q.0 q.1 (record { wide = omega arith; narrow = omega arith; fits = omega arith; some = omega arith; byte = omega arith; way = refl; permits = λ x. refl }))
    (λ a. let q = and_parts (alike this (5 ∷ 7 ∷ 127 ∷ 8 ∷ 0x00 ∷ 0x7e ∷ [])) (not blank) a in same-six k w p least lo hi 5 7 127 8 0x00 0x7e blank false q.0 (not-true _ q.1) (record { wide = omega arith; narrow = omega arith; fits = omega arith; some = omega arith; byte = omega arith; way = refl; permits = λ x. and-true _ }))
    (or_cases _ _ o))
    (or_cases _ _ o))
    (or_cases _ _ h)

-- what the table's row gives of packing and unpacking
under_low : (w : ℕ) (x : List ℕ) → AllBelowBase (2 ^ w) (low_bits w x)
under_low w [] = tt
under_low w (b ∷ x) = (mod-lt b (pow_pos w), under_low w x)

told-closed : (hi : ℕ) (x : List ℕ) (right : Bool) (n : ℕ) → told hi x right n ≡ closed (cond (ltb (upto hi x) (length x)) (Err (NoCharacter (upto hi x))) (Ok x)) right n
told-closed hi x right n = elim (ltb (upto hi x) (length x)) as (λ b. cond b (Err (NoCharacter (upto hi x))) (cond right (Ok x) (Err (NoPadding n))) ≡ closed (cond b (Err (NoCharacter (upto hi x))) (Ok x)) right n) [ true ↦ refl | false ↦ refl ]

module _ {k w p least lo hi : ℕ} {blank : Bool} (l : Listed k w p least lo hi blank) where
  pub row_sized : (4 ≤ w) × (w ≤ 8) × (p < 2 ^ w)
  row_sized = (l.wide, omega (arith, l.narrow), l.fits)

  pub row_packs : (x : List ℕ) → AllBelowBase (2 ^ w) (low_bits w x) × (packed w p (low_bits w x) ≡ packed_code k x)
  unfolding packed_code
  row_packs x = (under_low w x, ap (λ y. packing y x) (sym l.way))

  pub row_unpacks : (bs : List ℕ) → unpacked_code k bs ≡ unpacked_by w p (lettered w lo hi) bs
  unfolding unpacked_code unpacked_by lettered unpacked_letters
  row_unpacks bs = ap (λ y. unpacking y bs) l.way ∙ told-closed hi (map (letter w lo) (remaining w p bs)) (pad_behind w p bs) (length bs * 8 / w)
