-- Laws over the whole table.
use Rattle.std.proofs.Common.{◌≡◌, ℕ, zero, suc, ◌%◌, ◌^◌, ◌<◌, ◌≤◌, Bool, true, false, cond, not, ◌&&◌, List, [], ◌∷◌, length, Ok, refl, ap, ◌∙◌, subst, ⊎_elim, le_trans, arith}
use Rattle.std.specs.Int.Digits.{digits_of, number_from_digits, AllBelowBase}
use Rattle.std.proofs.lemmas.Int.Digits.{length-digits_of_step}
use Rattle.std.proofs.lemmas.List.{length-map}
use Rattle.std.proofs.lemmas.Bool.{false≢true, cases_lt, le-leb, not-true, not_from_false, and_parts, and_from, cond_both}
use Rattle.codes.specs.Bits.{packed, bytes_for}
use Rattle.codes.specs.Table.{within, low_bits}
use Rattle.codes.proofs.BitLaws.{length-packed}
use Rattle.codes.specs.Table.{value, unpacked_integer, blank_end, many, code, permitted, packed_code, unpacked_code, first_code}
use Rattle.codes.specs.Laws.{ComesBack, FirstPermitted, FirstShortest, NoneShorter}
use Rattle.codes.proofs.Integers.{integer-back, integer-parts, integer-says, integers, decimal-permitted, decimal-one, integer-under_numeric}
use Rattle.codes.proofs.Letters.{letters-back, letters_say, letters-fewest, no_pad-letter, blank-kept, no_blank}

-- one statement for each code
by_code : (P : ℕ → Type 0) → P 0 → P 1 → P 2 → P 3 → P 4 → P 5 → P 6 → P 7 → (k : ℕ) → k < 8 → P k
by_code P p0 p1 p2 p3 p4 p5 p6 p7 zero h = p0
by_code P p0 p1 p2 p3 p4 p5 p6 p7 (suc zero) h = p1
by_code P p0 p1 p2 p3 p4 p5 p6 p7 (suc (suc zero)) h = p2
by_code P p0 p1 p2 p3 p4 p5 p6 p7 (suc (suc (suc zero))) h = p3
by_code P p0 p1 p2 p3 p4 p5 p6 p7 (suc (suc (suc (suc zero)))) h = p4
by_code P p0 p1 p2 p3 p4 p5 p6 p7 (suc (suc (suc (suc (suc zero))))) h = p5
by_code P p0 p1 p2 p3 p4 p5 p6 p7 (suc (suc (suc (suc (suc (suc zero)))))) h = p6
by_code P p0 p1 p2 p3 p4 p5 p6 p7 (suc (suc (suc (suc (suc (suc (suc zero))))))) h = p7
by_code P p0 p1 p2 p3 p4 p5 p6 p7 (suc (suc (suc (suc (suc (suc (suc (suc k)))))))) h = absurd (omega arith)

-- an object comes back
pub comes_back : ComesBack
unfolding permitted packed_code unpacked_code first_code
comes_back k x low = by_code (λ k. permitted k x ≡ true → unpacked_code k (packed_code k x) ≡ Ok x)
    (λ h. refl)
    (integer-back x)
    (λ h. let p = and_parts (many 2 x) (within 0x30 0x39 x) h in letters-back 4 15 0x30 0x39 x (omega arith) (omega arith) (λ b lo hi. omega arith) p.1 (λ few. no_pad-letter 4 15 0x30 0x39 x p.1 (λ b lo hi e. omega arith)))
    (λ h. let p = and_parts (many 3 x) (within 0x41 0x5f x) h in letters-back 5 0 0x41 0x5f x (omega arith) (omega arith) (λ b lo hi. omega arith) p.1 (λ few. no_pad-letter 5 0 0x41 0x5f x p.1 (λ b lo hi e. omega arith)))
    (λ h.
    let q = and_parts (many 4 x && within 0x20 0x5f x) (not (blank_end x)) h in
    let p = and_parts (many 4 x) (within 0x20 0x5f x) q.0 in
    letters-back 6 32 0x20 0x5f x (omega arith) (omega arith) (λ b lo hi. omega arith) p.1 (blank-kept x p.1 (not-true _ q.1)))
    (λ h. let p = and_parts (many 8 x) (within 0x00 0x7e x) h in letters-back 7 127 0x00 0x7e x (omega arith) (omega arith) (λ b lo hi. omega arith) p.1 (λ few. no_pad-letter 7 127 0x00 0x7e x p.1 (λ b lo hi e. omega arith)))
    (λ h. refl)
    (λ h. refl)
    k low

-- the first of six codes whose bytes do not fall
least : (f : ℕ → ℕ) (b1 b2 b3 b4 b5 : Bool) → (b1 ≡ true → f 1 ≤ f 2) → f 2 ≤ f 3 → f 3 ≤ f 4 → f 4 ≤ f 5 → f 5 ≤ f 6 →
    let n = f (cond b1 1 (cond b2 2 (cond b3 3 (cond b4 4 (cond b5 5 6))))) in
    (b1 ≡ true → n ≤ f 1) × (b2 ≡ true → n ≤ f 2) × (b3 ≡ true → n ≤ f 3) × (b4 ≡ true → n ≤ f 4) × (b5 ≡ true → n ≤ f 5) × (n ≤ f 6)
least f true b2 b3 b4 b5 c1 c2 c3 c4 c5 = let h = c1 refl in (λ e. omega arith, λ e. omega arith, λ e. omega arith, λ e. omega arith, λ e. omega arith, omega arith)
least f false true b3 b4 b5 c1 c2 c3 c4 c5 = (λ e. absurd (false≢true e), λ e. omega arith, λ e. omega arith, λ e. omega arith, λ e. omega arith, omega arith)
least f false false true b4 b5 c1 c2 c3 c4 c5 = (λ e. absurd (false≢true e), λ e. absurd (false≢true e), λ e. omega arith, λ e. omega arith, λ e. omega arith, omega arith)
least f false false false true b5 c1 c2 c3 c4 c5 = (λ e. absurd (false≢true e), λ e. absurd (false≢true e), λ e. absurd (false≢true e), λ e. omega arith, λ e. omega arith, omega arith)
least f false false false false true c1 c2 c3 c4 c5 = (λ e. absurd (false≢true e), λ e. absurd (false≢true e), λ e. absurd (false≢true e), λ e. absurd (false≢true e), λ e. omega arith, omega arith)
least f false false false false false c1 c2 c3 c4 c5 = (λ e. absurd (false≢true e), λ e. absurd (false≢true e), λ e. absurd (false≢true e), λ e. absurd (false≢true e), λ e. absurd (false≢true e), omega arith)

-- the bytes that an alphabet packs
letters-cost : (w p : ℕ) (x : List ℕ) → 4 ≤ w → length (packed w p (low_bits w x)) ≡ bytes_for w (length x)
letters-cost w p x low = length-packed w p (low_bits w x) low ∙ ap (bytes_for w) (length-map x (λ b. b % 2 ^ w))

abbrev cost : List ℕ → ℕ → ℕ
cost x k = length (packed_code k x)

compact_least : (x : List ℕ) → let n = cost x (first_code 1 x) in
    (permitted 1 x ≡ true → n ≤ cost x 1) × (permitted 2 x ≡ true → n ≤ cost x 2) × (permitted 3 x ≡ true → n ≤ cost x 3) × (permitted 4 x ≡ true → n ≤ cost x 4) × (permitted 5 x ≡ true → n ≤ cost x 5) × (n ≤ cost x 6)
unfolding permitted packed_code unpacked_code first_code
compact_least x =
    let four = letters-cost 4 15 x (omega arith) in
    let five = letters-cost 5 0 x (omega arith) in
    let six = letters-cost 6 32 x (omega arith) in
    let seven = letters-cost 7 127 x (omega arith) in
    least (cost x) (permitted 1 x) (permitted 2 x) (permitted 3 x) (permitted 4 x) (permitted 5 x)
    (λ h. omega (arith, four, integer-under_numeric x (integer-parts x h).2))
    (omega arith) (omega arith) (omega arith) (omega arith)

pub first-shortest : FirstShortest
unfolding permitted packed_code unpacked_code first_code
first-shortest k x low =
    let c = compact_least x in
    by_code (λ k. permitted k x ≡ true → length (packed_code (first_code (code k).kind x) x) ≤ length (packed_code k x))
    (λ h. omega arith) c.0 c.1 c.2 c.3 c.4 (λ h. c.5) (λ h. omega arith) k low

pub first-permitted : FirstPermitted
unfolding permitted packed_code unpacked_code first_code
first-permitted zero x h = (omega arith, refl, refl)
first-permitted (suc zero) x h =
    let P : ℕ → Type 0 = λ k. (k < 8) × (permitted k x ≡ true) × ((code k).kind ≡ 1) in
    cond_both (permitted 1 x) 1 (cond (permitted 2 x) 2 (cond (permitted 3 x) 3 (cond (permitted 4 x) 4 (cond (permitted 5 x) 5 6)))) P (λ e. (omega arith, e, refl)) (λ _.
    cond_both (permitted 2 x) 2 (cond (permitted 3 x) 3 (cond (permitted 4 x) 4 (cond (permitted 5 x) 5 6))) P (λ e. (omega arith, e, refl)) (λ _.
    cond_both (permitted 3 x) 3 (cond (permitted 4 x) 4 (cond (permitted 5 x) 5 6)) P (λ e. (omega arith, e, refl)) (λ _.
    cond_both (permitted 4 x) 4 (cond (permitted 5 x) 5 6) P (λ e. (omega arith, e, refl)) (λ _.
    cond_both (permitted 5 x) 5 6 P (λ e. (omega arith, e, refl)) (λ _. (omega arith, refl, refl))))))
first-permitted (suc (suc zero)) x h = (omega arith, refl, refl)
first-permitted (suc (suc (suc k))) x h = absurd (omega arith)

-- bytes that say an object
integer-floor : (bs x : List ℕ) → AllBelowBase 256 bs → 0 < length bs → unpacked_integer bs ≡ Ok x → cost x (first_code 1 x) ≤ length bs
unfolding permitted packed_code unpacked_code first_code
integer-floor bs x u some e =
    let s = integer-says bs x e in
    let v : ℕ = number_from_digits 256 bs in
    let few = (integers bs x u e).fewest in
    ⊎_elim
    (λ one. omega (arith, (compact_least x).5, ap length s.2, decimal-one (number_from_digits 256 bs) one))
    (λ more. le_trans ((compact_least x).0 (ap (permitted 1) s.2 ∙ decimal-permitted (number_from_digits 256 bs) more s.1)) few)
    (cases_lt (number_from_digits 256 bs) 10)

pub none_shorter : NoneShorter
unfolding permitted packed_code unpacked_code first_code
none_shorter k bs x low u some =
    let c = compact_least x in
    by_code (λ k. unpacked_code k bs ≡ Ok x → length (packed_code (first_code (code k).kind x) x) ≤ length bs)
    (λ e. let s : x ≡ bs = cc in omega (arith, ap length s))
    (integer-floor bs x u some)
    (λ e.
    let s = letters_say 4 15 0x30 0x39 bs x e in
    let fit = letters-fewest 4 15 0x30 0x39 bs x (omega arith) e in
    ⊎_elim (λ few. omega (arith, c.5, fit, few)) (λ h. omega (arith, c.1 (and_from _ _ (le-leb 2 (length x) h) s.1), letters-cost 4 15 x (omega arith), fit)) (cases_lt (length x) 2))
    (λ e.
    let s = letters_say 5 0 0x41 0x5f bs x e in
    let fit = letters-fewest 5 0 0x41 0x5f bs x (omega arith) e in
    ⊎_elim (λ few. omega (arith, c.5, fit, few)) (λ h. omega (arith, c.2 (and_from _ _ (le-leb 3 (length x) h) s.1), letters-cost 5 0 x (omega arith), fit)) (cases_lt (length x) 3))
    (λ e.
    let s = letters_say 6 32 0x20 0x5f bs x e in
    let fit = letters-fewest 6 32 0x20 0x5f bs x (omega arith) e in
    ⊎_elim (λ few. omega (arith, c.5, fit, few)) (λ h. omega (arith, c.3 (and_from _ _ (and_from _ _ (le-leb 4 (length x) h) s.1) (not_from_false _ (no_blank bs x e))), letters-cost 6 32 x (omega arith), fit)) (cases_lt (length x) 4))
    (λ e.
    let s = letters_say 7 127 0x00 0x7e bs x e in
    let fit = letters-fewest 7 127 0x00 0x7e bs x (omega arith) e in
    ⊎_elim (λ few. omega (arith, c.5, fit, few)) (λ h. omega (arith, c.4 (and_from _ _ (le-leb 8 (length x) h) s.1), letters-cost 7 127 x (omega arith), fit)) (cases_lt (length x) 8))
    (λ e. let s : x ≡ bs = cc in omega (arith, ap length s, c.5))
    (λ e. let s : x ≡ bs = cc in omega (arith, ap length s))
    k low

-- an object of some bytes packs to some
integer-some : (x : List ℕ) → permitted 1 x ≡ true → 1 ≤ length (digits_of 256 (value x))
integer-some x h = ⊎_elim
    (λ some. omega (arith, length-digits_of_step 256 (value x) (omega arith) some))
    (λ none.
    let z : value x ≡ 0 = omega arith in
    let back : unpacked_integer (digits_of 256 0) ≡ Ok x = subst (λ v. unpacked_integer (digits_of 256 v) ≡ Ok x) z (integer-back x h) in
    let one : Ok (0x30 ∷ []) ≡ Ok x = back in
    let is : 0x30 ∷ [] ≡ x = cc in
    absurd (omega (arith, (integer-parts x h).0, ap length is)))
    (cases_lt 0 (value x))

pub packed-some : (k : ℕ) (x : List ℕ) → k < 8 → permitted k x ≡ true → 1 ≤ length x → 1 ≤ length (packed_code k x)
unfolding permitted packed_code unpacked_code first_code
packed-some k x low h some =
    by_code (λ k. permitted k x ≡ true → 1 ≤ length (packed_code k x))
    (λ h. some) (integer-some x)
    (λ h. omega (arith, letters-cost 4 15 x (omega arith)))
    (λ h. omega (arith, letters-cost 5 0 x (omega arith)))
    (λ h. omega (arith, letters-cost 6 32 x (omega arith)))
    (λ h. omega (arith, letters-cost 7 127 x (omega arith)))
    (λ h. some) (λ h. some) k low h
