-- The integer code: digits, value, fewest bytes.
use Rattle.std.proofs.Common.{◌≡◌, ℕ, zero, suc, ◌+◌, ◌-◌, ◌*◌, ◌/◌, ◌%◌, ◌^◌, ◌<◌, ◌≤◌, true, not, ◌&&◌, eqb, leb, List, [], ◌∷◌, ◌++◌, map, length, get_or, Ok, Err, sym, refl, ap, ◌∙◌, subst, ⊎_elim, append_assoc, append-nil, mul-le-mul_right, mod-eq_of_lt, suc-mul, div-lt_iff_lt-mul, one-mul, pow-suc, zero-mul, arith, pow_mono, pow-add}
use native.Mathlib.Nat.{pow-zero, pow-le-pow_right, pow-le-pow_left, div-eq_of_lt}
use lib.Arith.{digits_div, digits_mod}
use Rattle.std.specs.Int.Digits.{digits_with_fuel, digits_of, number_from_digits, number_from_digits_after, AllBelowBase}
use Rattle.std.proofs.lemmas.Int.Digits.{digits_of_step, length-digits_of_step, length-digits_of-le, all_below_base_digits_of, first_digits_of, number_digits_of, number_lt, number_after_ge}
use Rattle.std.proofs.lemmas.List.{length-map, get_or-map}
use Rattle.std.proofs.lemmas.Bool.{cases_lt, cases_eq, cases_Bool, ne_eqb, le-leb, leb-true, eqb-false, not-true, not_from_false, and_parts, and_from, cond-true, cond-false}
use Rattle.codes.specs.Table.{within}
use Rattle.codes.specs.declared.fault.Fault.TheVariants.{TooLarge}
use Rattle.codes.specs.Table.{value, decimal, largest, unpacked_integer, permitted}
use Rattle.codes.specs.Laws.{Integer}

-- as many turns as the number has digits are enough
pub digits_enough : (b f n : ℕ) → 2 ≤ b → n < b ^ f → digits_with_fuel b f n ≡ digits_of b n
digits_enough b zero n two h = let z : n ≡ 0 = omega (arith, pow-zero b) in subst (λ k. [] ≡ digits_of b k) (sym z) refl
digits_enough b (suc f) n two h = ⊎_elim
    (λ z. subst (λ k. digits_with_fuel b (suc f) k ≡ digits_of b k) (sym z) refl)
    (λ ne.
    let pos : 0 < b = omega arith in
    let low : n / b < b ^ f = (div-lt_iff_lt-mul pos).1 (subst (λ m. n < m) (pow-suc b f) h) in
    let some : 0 < n = ⊎_elim (λ l. l) (λ g. absurd (ne (omega arith))) (cases_lt 0 n) in
    cond-false (eqb n 0) [] (digits_with_fuel b f (n / b) ++ (n % b ∷ [])) (ne_eqb n 0 ne) ∙ ap (λ l. l ++ (n % b ∷ [])) (digits_enough b f (n / b) two low) ∙ sym (digits_of_step b n two some))
    (cases_eq n 0)

-- digits behind a number's digits
digits_after : (b n : ℕ) (ds : List ℕ) → 2 ≤ b → 0 < n → AllBelowBase b ds → digits_of b (number_from_digits_after b n ds) ≡ digits_of b n ++ ds
digits_after b n [] two some u = sym (append-nil (digits_of b n))
digits_after b n (d ∷ ds) two some u =
    let more : 0 < n * b + d = let one : 1 ≤ n = omega arith in omega (arith, mul-le-mul_right b one, one-mul b) in
    let one : digits_of b (n * b + d) ≡ digits_of b n ++ (d ∷ []) = digits_of_step b (n * b + d) two more ∙ (λ i. digits_of b (digits_div n u.0 i) ++ (digits_mod n u.0 i ∷ [])) in
    digits_after b (n * b + d) ds two more u.1 ∙ ap (λ l. l ++ ds) one ∙ append_assoc (digits_of b n) (d ∷ []) ds

pub digits_number : (b d : ℕ) (ds : List ℕ) → 2 ≤ b → 0 < d → AllBelowBase b (d ∷ ds) → digits_of b (number_from_digits b (d ∷ ds)) ≡ d ∷ ds
digits_number b d ds two some u =
    let z : 0 * b + d ≡ d = omega (arith, zero-mul b) in
    let one : digits_of b d ≡ d ∷ [] = digits_of_step b d two some ∙ (λ i. digits_of b (div-eq_of_lt u.0 i) ++ (mod-eq_of_lt u.0 i ∷ [])) in
    ap (λ n. digits_of b (number_from_digits_after b n ds)) z ∙ digits_after b d ds two some u.1 ∙ ap (λ l. l ++ ds) one

-- bytes of digits
digit_parts : (b : ℕ) (x : List ℕ) → within 0x30 0x39 (b ∷ x) ≡ true → (0x30 ≤ b) × (b ≤ 0x39) × (within 0x30 0x39 x ≡ true)
digit_parts b x h =
    let p = and_parts (leb 0x30 b && leb b 0x39) (within 0x30 0x39 x) h in
    let q = and_parts (leb 0x30 b) (leb b 0x39) p.0 in
    (leb-true 0x30 b q.0, leb-true b 0x39 q.1, p.1)

pub under_ten : (x : List ℕ) → within 0x30 0x39 x ≡ true → AllBelowBase 10 (map (λ b. b - 0x30) x)
under_ten [] h = tt
under_ten (b ∷ x) h = let p = digit_parts b x h in (omega arith, under_ten x p.2)

written : (x : List ℕ) → within 0x30 0x39 x ≡ true → map (λ d. 0x30 + d) (map (λ b. b - 0x30) x) ≡ x
written [] h = refl
written (b ∷ x) h = let p = digit_parts b x h in let e : 0x30 + (b - 0x30) ≡ b = omega arith in (λ i. e i ∷ written x p.2 i)

read : (ds : List ℕ) → map (λ b. b - 0x30) (map (λ d. 0x30 + d) ds) ≡ ds
read [] = refl
read (d ∷ ds) = let e : 0x30 + d - 0x30 ≡ d = omega arith in (λ i. e i ∷ read ds i)

within_digits : (ds : List ℕ) → AllBelowBase 10 ds → within 0x30 0x39 (map (λ d. 0x30 + d) ds) ≡ true
within_digits [] u = refl
within_digits (d ∷ ds) u =
    let lo : 0x30 ≤ 0x30 + d = omega arith in
    let hi : 0x30 + d ≤ 0x39 = omega (arith, u.0) in
    and_from _ _ (and_from _ _ (le-leb 0x30 (0x30 + d) lo) (le-leb (0x30 + d) 0x39 hi)) (within_digits ds u.1)

-- the value of digits, and its digits
pub value-lt : (x : List ℕ) → within 0x30 0x39 x ≡ true → value x < 10 ^ length x
value-lt x h = subst (λ n. value x < 10 ^ n) (length-map x (λ b. b - 0x30)) (number_lt 10 (map (λ b. b - 0x30) x) (under_ten x h))

decimal-value : (b : ℕ) (x : List ℕ) → within 0x30 0x39 (b ∷ x) ≡ true → 0x30 < b → decimal (value (b ∷ x)) ≡ b ∷ x
decimal-value b x h first =
    let d : 0 < b - 0x30 = omega arith in
    let v : ℕ = value (b ∷ x) in
    let some : value (b ∷ x) ≡ 0 → ⊥ = λ z. let low = number_after_ge 10 (0 * 10 + (b - 0x30)) (map (λ b. b - 0x30) x) (omega arith) in omega (arith, low, z) in
    cond-false (eqb v 0) (0x30 ∷ []) (map (λ d. 0x30 + d) (digits_of 10 v)) (ne_eqb v 0 some) ∙ ap (map (λ d. 0x30 + d)) (digits_number 10 (b - 0x30) (map (λ b. b - 0x30) x) (omega arith) d (under_ten (b ∷ x) h)) ∙ written (b ∷ x) h

pub value-decimal : (n : ℕ) → value (decimal n) ≡ n
value-decimal n = ⊎_elim
    (λ z. subst (λ k. value (decimal k) ≡ k) (sym z) refl)
    (λ ne. ap value (cond-false (eqb n 0) (0x30 ∷ []) (map (λ d. 0x30 + d) (digits_of 10 n)) (ne_eqb n 0 ne)) ∙ ap (number_from_digits 10) (read (digits_of 10 n)) ∙ number_digits_of 10 n (omega arith))
    (cases_eq n 0)

-- the object comes back
back_from : (x : List ℕ) (v : ℕ) → v ≤ largest → decimal v ≡ x → unpacked_integer (digits_of 256 v) ≡ Ok x
back_from x v most e =
    let same = number_digits_of 256 v (omega arith) in
    let few : length (digits_of 256 v) ≤ 8 = length-digits_of-le 256 8 v (omega arith) (omega arith) in
    let le : number_from_digits 256 (digits_of 256 v) ≤ largest = omega arith in
    cond-true (leb (length (digits_of 256 v)) 8 && leb (number_from_digits 256 (digits_of 256 v)) largest) (Ok (decimal (number_from_digits 256 (digits_of 256 v)))) (Err TooLarge) (and_from _ _ (le-leb _ 8 few) (le-leb _ largest le)) ∙ ap (λ n. Ok (decimal n)) same ∙ ap Ok e

pub integer-parts : (x : List ℕ) → permitted 1 x ≡ true → (2 ≤ length x) × (length x ≤ 19) × (within 0x30 0x39 x ≡ true) × (get_or x 0 0 ≡ 0x30 → ⊥)
unfolding permitted
integer-parts x h =
    let p = and_parts (leb 2 (length x) && leb (length x) 19) (within 0x30 0x39 x && not (eqb (get_or x 0 0) 0x30)) h in
    let q = and_parts (leb 2 (length x)) (leb (length x) 19) p.0 in
    let r = and_parts (within 0x30 0x39 x) (not (eqb (get_or x 0 0) 0x30)) p.1 in
    (leb-true 2 (length x) q.0, leb-true (length x) 19 q.1, r.0, eqb-false (get_or x 0 0) 0x30 (not-true _ r.1))

pub integer-back : (x : List ℕ) → permitted 1 x ≡ true → unpacked_integer (digits_of 256 (value x)) ≡ Ok x
integer-back [] h = absurd (omega (arith, (integer-parts [] h).0))
integer-back (b ∷ x) h =
    let p = integer-parts (b ∷ x) h in
    let d = digit_parts b x p.2 in
    let first : 0x30 < b = ⊎_elim (λ l. l) (λ g. absurd (p.3 (omega (arith, d.0)))) (cases_lt 0x30 b) in
    let top : 10 ^ length (b ∷ x) ≤ 10 ^ 19 = let ten : 0 < 10 = omega arith in pow-le-pow_right ten p.1 in
    back_from (b ∷ x) (value (b ∷ x)) (omega (arith, value-lt (b ∷ x) p.2, top)) (decimal-value b x p.2 first)

-- what bytes say
pub integer-says : (bs x : List ℕ) → unpacked_integer bs ≡ Ok x → (length bs ≤ 8) × (number_from_digits 256 bs ≤ largest) × (x ≡ decimal (number_from_digits 256 bs))
integer-says bs x e = ⊎_elim
    (λ t.
    let p = and_parts (leb (length bs) 8) (leb (number_from_digits 256 bs) largest) t in
    let s : Ok (decimal (number_from_digits 256 bs)) ≡ Ok x = sym (cond-true _ (Ok (decimal (number_from_digits 256 bs))) (Err TooLarge) t) ∙ e in
    (leb-true (length bs) 8 p.0, leb-true (number_from_digits 256 bs) largest p.1, cc))
    (λ f. let s : Err TooLarge ≡ Ok x = sym (cond-false _ (Ok (decimal (number_from_digits 256 bs))) (Err TooLarge) f) ∙ e in let z : ◌≡◌ {A = ℕ} 0 1 = cc in absurd (omega arith))
    (cases_Bool (leb (length bs) 8 && leb (number_from_digits 256 bs) largest))

pub integer-fewest : (bs : List ℕ) → AllBelowBase 256 bs → length (digits_of 256 (number_from_digits 256 bs)) ≤ length bs
integer-fewest bs u = length-digits_of-le 256 (length bs) (number_from_digits 256 bs) (omega arith) (number_lt 256 bs u)

pub integers : (bs x : List ℕ) → AllBelowBase 256 bs → unpacked_integer bs ≡ Ok x → Integer bs x
integers bs x u e =
    let p = integer-says bs x e in
    let same : value x ≡ number_from_digits 256 bs = ap value p.2 ∙ value-decimal (number_from_digits 256 bs) in
    record { eight = p.0; most = p.1; same = same; fewest = subst (λ v. length (digits_of 256 v) ≤ length bs) (sym same) (integer-fewest bs u) }

-- two digits or more, with no leading 0, are an object of this code
pub decimal-permitted : (n : ℕ) → 10 ≤ n → n ≤ largest → permitted 1 (decimal n) ≡ true
unfolding permitted
decimal-permitted n ten most =
    let ds : List ℕ = digits_of 10 n in
    let is : decimal n ≡ map (λ d. 0x30 + d) (digits_of 10 n) = cond-false (eqb n 0) (0x30 ∷ []) (map (λ d. 0x30 + d) (digits_of 10 n)) (ne_eqb n 0 (λ z. omega arith)) in
    let long : length (map (λ d. 0x30 + d) (digits_of 10 n)) ≡ length (digits_of 10 n) = length-map (digits_of 10 n) (λ d. 0x30 + d) in
    let two : 2 ≤ length (map (λ d. 0x30 + d) (digits_of 10 n)) = omega (arith, long, length-digits_of_step 10 n (omega arith) (omega arith), length-digits_of_step 10 (n / 10) (omega arith) (omega arith)) in
    let most19 : length (map (λ d. 0x30 + d) (digits_of 10 n)) ≤ 19 = omega (arith, long, length-digits_of-le 10 19 n (omega arith) (omega arith)) in
    let first : get_or (map (λ d. 0x30 + d) (digits_of 10 n)) 0 0 ≡ 0x30 → ⊥ = λ e. omega (arith, e, get_or-map (λ d. 0x30 + d) (digits_of 10 n) 0 0 0 (omega arith), first_digits_of 10 n (omega arith) (omega arith)) in
    ap (permitted 1) is ∙ and_from _ _ (and_from _ _ (le-leb 2 _ two) (le-leb _ 19 most19)) (and_from _ _ (within_digits (digits_of 10 n) (all_below_base_digits_of 10 n (omega arith))) (not_from_false _ (ne_eqb _ 0x30 first)))

pub decimal-one : (n : ℕ) → n < 10 → length (decimal n) ≤ 1
decimal-one n h = ⊎_elim
    (λ z. subst (λ k. length (decimal k) ≤ 1) (sym z) (omega arith))
    (λ ne. subst (λ l. length l ≤ 1) (sym (cond-false (eqb n 0) (0x30 ∷ []) (map (λ d. 0x30 + d) (digits_of 10 n)) (ne_eqb n 0 ne))) (omega (arith, length-map (digits_of 10 n) (λ d. 0x30 + d), length-digits_of-le 10 1 n (omega arith) (omega arith))))
    (cases_eq n 0)

-- bytes of a value of digits are no more than their four bits each
pow-pow : (k n : ℕ) → (2 ^ k) ^ n ≡ 2 ^ (n * k)
pow-pow k zero = pow-zero (2 ^ k) ∙ ap (λ m. 2 ^ m) (sym (zero-mul k))
pow-pow k (suc n) = pow-suc (2 ^ k) n ∙ ap (λ m. m * 2 ^ k) (pow-pow k n) ∙ sym (pow-add 2 (n * k) k) ∙ ap (λ m. 2 ^ m) (sym (suc-mul n k))

pub integer-under_numeric : (x : List ℕ) → within 0x30 0x39 x ≡ true → length (digits_of 256 (value x)) ≤ (length x * 4 + 7) / 8
integer-under_numeric x h =
    let n : ℕ = length x in
    let m : ℕ = (length x * 4 + 7) / 8 in
    let ten : 10 ^ length x ≤ 16 ^ length x = let le : 10 ≤ 16 = omega arith in pow-le-pow_left le (length x) in
    let bits : 2 ^ (length x * 4) ≤ 2 ^ ((length x * 4 + 7) / 8 * 8) = let le : length x * 4 ≤ (length x * 4 + 7) / 8 * 8 = omega arith in pow_mono le in
    length-digits_of-le 256 m (value x) (omega arith) (omega (arith, value-lt x h, ten, bits, pow-pow 4 (length x), pow-pow 8 ((length x * 4 + 7) / 8)))

-- an object and its bytes, where the digits are worked out in turns enough
pub example_of : (x bs : List ℕ) → permitted 1 x ≡ true → value x < 256 ^ 8 → digits_with_fuel 256 8 (value x) ≡ bs → (digits_of 256 (value x) ≡ bs) × (unpacked_integer bs ≡ Ok x)
example_of x bs h low e =
    let same : digits_of 256 (value x) ≡ bs = sym (digits_enough 256 8 (value x) (omega arith) low) ∙ e in
    (same, subst (λ l. unpacked_integer l ≡ Ok x) same (integer-back x h))
