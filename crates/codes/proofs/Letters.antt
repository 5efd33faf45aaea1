-- The four alphabets: what bytes say, and what comes back.
use Rattle.std.proofs.Common.{◌≡◌, ℕ, zero, suc, ◌+◌, ◌-◌, ◌*◌, ◌/◌, ◌%◌, ◌^◌, ◌<◌, ◌≤◌, Bool, true, false, cond, ◌&&◌, eqb, ltb, leb, ◌⊎◌, List, [], ◌∷◌, map, length, get_or, take, drop, Ok, Err, sym, refl, ap, ◌∙◌, subst, inl, inr, ⊎_elim, lt_of_lt_of_le, mod-lt, arith, length-take, pow_pos, pow_mono}
use Rattle.std.specs.List.{AllByRecursion}
use Rattle.std.specs.Int.Digits.{AllBelowBase}
use Rattle.std.proofs.lemmas.List.{length-map, get_or-map, get_or_default, length-take-le}
use Rattle.std.proofs.ByRecursion.{All-get_or, All-take, All-drop}
use Rattle.std.proofs.lemmas.Bool.{cases_lt, cases_Bool, ne_eqb, eq-eqb, le-leb, le-ltb, leb-true, leb-false, ltb-false, eqb-true, eqb-false, and_parts, and_cases, and_from, both_ways, cond-true, cond-false, cond_both}
use Rattle.codes.specs.Bits.{spread, groups, packed, trimmed, ends, spare, bytes_for}
use Rattle.codes.specs.Table.{within, low_bits}
use Rattle.codes.proofs.BitLaws.{unpacked, round, shortest, val-lt, under-spread, length-groups}
use Rattle.codes.specs.declared.fault.Fault.TheVariants.{NoCharacter, NoPadding}
use Rattle.codes.specs.Table.{whole, remaining, pad_behind, letter, upto, told, unpacked_letters, blank_end}

-- tests of all bytes
pub all-within : (lo hi : ℕ) (x : List ℕ) → within lo hi x ≡ true → AllByRecursion (λ b. (lo ≤ b) × (b ≤ hi)) x
all-within lo hi [] h = tt
all-within lo hi (b ∷ x) h =
    let p = and_parts (leb lo b && leb b hi) (within lo hi x) h in
    let q = and_parts (leb lo b) (leb b hi) p.0 in
    ((leb-true lo b q.0, leb-true b hi q.1), all-within lo hi x p.1)

upto_all : (lo hi : ℕ) (x : List ℕ) → AllByRecursion (λ b. (lo ≤ b) × (b ≤ hi)) x → upto hi x ≡ length x
upto_all lo hi [] a = refl
upto_all lo hi (b ∷ x) a = cond-true (leb b hi) (suc (upto hi x)) 0 (le-leb b hi a.0.1) ∙ ap suc (upto_all lo hi x a.1)

letters-within : (w lo hi : ℕ) (gs : List ℕ) → length (map (letter w lo) gs) ≤ upto hi (map (letter w lo) gs) → within lo hi (map (letter w lo) gs) ≡ true
letters-within w lo hi [] h = refl
letters-within w lo hi (g ∷ gs) h = ⊎_elim
    (λ t.
    let more : upto hi (map (letter w lo) (g ∷ gs)) ≡ suc (upto hi (map (letter w lo) gs)) = cond-true (leb (letter w lo g) hi) (suc (upto hi (map (letter w lo) gs))) 0 t in
    let low : lo ≤ letter w lo g = omega arith in
    and_from _ _ (and_from _ _ (le-leb lo (letter w lo g) low) t) (letters-within w lo hi gs (omega (arith, h, more))))
    (λ f. let none : upto hi (map (letter w lo) (g ∷ gs)) ≡ 0 = cond-false (leb (letter w lo g) hi) (suc (upto hi (map (letter w lo) gs))) 0 f in absurd (omega (arith, h, none)))
    (cases_Bool (leb (letter w lo g) hi))

-- what bytes say
says : (hi : ℕ) (x y : List ℕ) (right : Bool) (n : ℕ) → told hi x right n ≡ Ok y → (y ≡ x) × (length x ≤ upto hi x) × (right ≡ true)
says hi x y right n e = ⊎_elim
    (λ t. let s : Err (NoCharacter (upto hi x)) ≡ Ok y = sym (cond-true _ (Err (NoCharacter (upto hi x))) (cond right (Ok x) (Err (NoPadding n))) t) ∙ e in let z : ◌≡◌ {A = ℕ} 0 1 = cc in absurd (omega arith))
    (λ f.
    let s : cond right (Ok x) (Err (NoPadding n)) ≡ Ok y = sym (cond-false _ (Err (NoCharacter (upto hi x))) (cond right (Ok x) (Err (NoPadding n))) f) ∙ e in
    ⊎_elim
    (λ t. let o : Ok x ≡ Ok y = sym (cond-true right (Ok x) (Err (NoPadding n)) t) ∙ s in (cc, ltb-false _ _ f, t))
    (λ g. let o : Err (NoPadding n) ≡ Ok y = sym (cond-false right (Ok x) (Err (NoPadding n)) g) ∙ s in let z : ◌≡◌ {A = ℕ} 0 1 = cc in absurd (omega arith))
    (cases_Bool right))
    (cases_Bool (ltb (upto hi x) (length x)))

pub letters_say : (w p lo hi : ℕ) (bs x : List ℕ) → unpacked_letters w p lo hi bs ≡ Ok x → (x ≡ map (letter w lo) (remaining w p bs)) × (within lo hi x ≡ true) × (unpacked w p bs ≡ Ok (remaining w p bs))
unfolding unpacked_letters unpacked
letters_say w p lo hi bs x e =
    let s = says hi (map (letter w lo) (remaining w p bs)) x (pad_behind w p bs) (length bs * 8 / w) e in
    (s.0, subst (λ y. within lo hi y ≡ true) (sym s.0) (letters-within w lo hi (remaining w p bs) s.1), cond-true (pad_behind w p bs) (Ok (remaining w p bs)) (Err (length (whole w bs))) s.2)

pub letters-fewest : (w p lo hi : ℕ) (bs x : List ℕ) → 0 < w → unpacked_letters w p lo hi bs ≡ Ok x → bytes_for w (length x) ≤ length bs
letters-fewest w p lo hi bs x pos e =
    let s = letters_say w p lo hi bs x e in
    let long : length x ≡ length (remaining w p bs) = ap length s.0 ∙ length-map (remaining w p bs) (letter w lo) in
    subst (λ n. bytes_for w n ≤ length bs) (sym long) (shortest w p bs (remaining w p bs) pos s.2)

-- what comes back
reads : (w p : ℕ) (bs gs : List ℕ) → unpacked w p bs ≡ Ok gs → (remaining w p bs ≡ gs) × (pad_behind w p bs ≡ true)
unfolding unpacked
reads w p bs gs e = ⊎_elim
    (λ t. let o : Ok (remaining w p bs) ≡ Ok gs = sym (cond-true (pad_behind w p bs) (Ok (remaining w p bs)) (Err (length (whole w bs))) t) ∙ e in (cc, t))
    (λ f. let o : Err (length (whole w bs)) ≡ Ok gs = sym (cond-false (pad_behind w p bs) (Ok (remaining w p bs)) (Err (length (whole w bs))) f) ∙ e in let z : ◌≡◌ {A = ℕ} 0 1 = cc in absurd (omega arith))
    (cases_Bool (pad_behind w p bs))

under_low : (w : ℕ) (x : List ℕ) → AllBelowBase (2 ^ w) (low_bits w x)
under_low w [] = tt
under_low w (b ∷ x) = (mod-lt b (pow_pos w), under_low w x)

spelled : (w lo hi : ℕ) (x : List ℕ) → ((b : ℕ) → lo ≤ b → b ≤ hi → letter w lo (b % 2 ^ w) ≡ b) → AllByRecursion (λ b. (lo ≤ b) × (b ≤ hi)) x → map (letter w lo) (low_bits w x) ≡ x
spelled w lo hi [] one a = refl
spelled w lo hi (b ∷ x) one a = (λ i. one b a.0.0 a.0.1 i ∷ spelled w lo hi x one a.1 i)

pub letters-back : (w p lo hi : ℕ) (x : List ℕ) → 4 ≤ w → p < 2 ^ w → ((b : ℕ) → lo ≤ b → b ≤ hi → letter w lo (b % 2 ^ w) ≡ b) → within lo hi x ≡ true → (w + spare w (length x) ≤ 7 → ends p (low_bits w x) ≡ false) → unpacked_letters w p lo hi (packed w p (low_bits w x)) ≡ Ok x
unfolding unpacked_letters
letters-back w p lo hi x low fits one h keep =
    let gs : List ℕ = low_bits w x in
    let bs : List ℕ = packed w p (low_bits w x) in
    let a = all-within lo hi x h in
    let n = length-map x (λ b. b % 2 ^ w) in
    let r = reads w p bs gs (round w p gs low fits (under_low w x) (λ few. keep (subst (λ k. w + spare w k ≤ 7) n few))) in
    let same : map (letter w lo) (remaining w p bs) ≡ x = ap (map (letter w lo)) r.0 ∙ spelled w lo hi x one a in
    let all : length x ≤ upto hi x = omega (arith, upto_all lo hi x a) in
    (λ i. told hi (same i) (r.1 i) (length bs * 8 / w)) ∙ cond-false (ltb (upto hi x) (length x)) (Err (NoCharacter (upto hi x))) (Ok x) (le-ltb (upto hi x) (length x) all)

-- the last byte's group is none that padding could be
pub last-group : (w p : ℕ) (x : List ℕ) → (0 < length x → get_or x (length x - 1) 0 % 2 ^ w ≡ p → ⊥) → ends p (low_bits w x) ≡ false
last-group w p x never =
    let n = length-map x (λ b. b % 2 ^ w) in
    ne_eqb _ p (λ e. ⊎_elim
    (λ some.
    let f : ℕ → ℕ = λ b. b % 2 ^ w in
    let is : get_or (low_bits w x) (length (low_bits w x) - 1) (suc p) ≡ get_or x (length x - 1) 0 % 2 ^ w = ap (λ k. get_or (low_bits w x) (k - 1) (suc p)) n ∙ get_or-map (λ b. b % 2 ^ w) x (length x - 1) 0 (suc p) (omega arith) in
    never some (sym is ∙ e))
    (λ none. absurd (empty x none e))
    (cases_lt 0 (length x)))
  where
    empty : (x : List ℕ) → length x ≤ 0 → get_or (low_bits w x) (length (low_bits w x) - 1) (suc p) ≡ p → ⊥
    empty [] none e = omega (arith, e)
    empty (b ∷ x) none e = omega (arith, none)

pub no_pad-letter : (w p lo hi : ℕ) (x : List ℕ) → within lo hi x ≡ true → ((b : ℕ) → lo ≤ b → b ≤ hi → b % 2 ^ w ≡ p → ⊥) → ends p (low_bits w x) ≡ false
no_pad-letter w p lo hi x h never =
    last-group w p x (λ some e. let q = All-get_or (λ b. (lo ≤ b) × (b ≤ hi)) x (length x - 1) 0 (omega arith) (all-within lo hi x h) in never (get_or x (length x - 1) 0) q.0 q.1 e)

-- width 6: the end that could be taken for padding
blank-parts : (x : List ℕ) → blank_end x ≡ true → (length x % 4 ≡ 0) × (get_or x (length x - 1) 0 ≡ 0x20)
blank-parts x h =
    let p = and_parts (eqb (length x % 4) 0) (eqb (get_or x (length x - 1) 0) 0x20) h in
    (eqb-true (length x % 4) 0 p.0, eqb-true (get_or x (length x - 1) 0) 0x20 p.1)

by_four : (n : ℕ) → (n ≡ 4 * (n / 4)) ⊎ ((n ≡ 4 * (n / 4) + 1) ⊎ ((n ≡ 4 * (n / 4) + 2) ⊎ (n ≡ 4 * (n / 4) + 3)))
by_four n = ⊎_elim (λ a. inl (omega arith)) (λ a. inr (⊎_elim (λ b. inl (omega arith)) (λ b. inr (⊎_elim (λ d. inl (omega arith)) (λ d. inr (omega arith)) (cases_lt (n % 4) 3))) (cases_lt (n % 4) 2))) (cases_lt (n % 4) 1)

-- no byte is left over only behind four groups
tight : (m j q : ℕ) → 1 ≤ j → j ≤ 7 → 24 * m + j ≤ 8 * q → 8 * q ≤ 24 * m + 7 → ⊥
tight m j q a b lo hi = omega arith

even_end : (n : ℕ) → 6 + spare 6 n ≤ 7 → n % 4 ≡ 0
even_end n few = ⊎_elim
    (λ e. omega arith)
    (⊎_elim
    (λ e. absurd (tight (n / 4) 6 ((n * 6 + 7) / 8) (omega arith) (omega arith) (omega arith) (omega arith)))
    (⊎_elim
    (λ e. absurd (tight (n / 4) 4 ((n * 6 + 7) / 8 - 1) (omega arith) (omega arith) (omega arith) (omega arith)))
    (λ e. absurd (tight (n / 4) 2 ((n * 6 + 7) / 8 - 2) (omega arith) (omega arith) (omega arith) (omega arith)))))
    (by_four n)

odd_end : (k m : ℕ) → k * 8 / 6 ≡ 4 * m + 1 → 6 + k * 8 % 6 ≤ 7 → ⊥
odd_end k m e few = tight m 6 k (omega arith) (omega arith) (omega arith) (omega arith)

pub blank-kept : (x : List ℕ) → within 0x20 0x5f x ≡ true → blank_end x ≡ false → 6 + spare 6 (length x) ≤ 7 → ends 32 (low_bits 6 x) ≡ false
blank-kept x h b few =
    let four : length x % 4 ≡ 0 = even_end (length x) few in
    last-group 6 32 x (λ some e.
    let q = All-get_or (λ b. (0x20 ≤ b) × (b ≤ 0x5f)) x (length x - 1) 0 (omega arith) (all-within 0x20 0x5f x h) in
    ⊎_elim (λ f. eqb-false _ 0 f four) (λ f. eqb-false _ 0x20 f (omega (arith, q.0, q.1, e))) (and_cases (eqb (length x % 4) 0) (eqb (get_or x (length x - 1) 0) 0x20) b))

under-groups : (w n : ℕ) (bs : List ℕ) → AllBelowBase 2 bs → AllBelowBase (2 ^ w) (groups w n bs)
unfolding groups
under-groups w zero bs u = tt
under-groups w (suc n) bs u =
    let le : length (take w bs) ≤ w = simp length-take (omega arith) in
    (lt_of_lt_of_le (val-lt (take w bs) (All-take (λ d. d < 2) w bs u)) (pow_mono le), under-groups w n (drop w bs) (All-drop (λ d. d < 2) w bs u))

last_letter : (gs : List ℕ) → 0 < length gs → get_or (map (letter 6 0x20) gs) (length (map (letter 6 0x20) gs) - 1) 0 ≡ letter 6 0x20 (get_or gs (length gs - 1) 0)
last_letter gs some = ap (λ k. get_or (map (letter 6 0x20) gs) (k - 1) 0) (length-map gs (letter 6 0x20)) ∙ get_or-map (letter 6 0x20) gs (length gs - 1) 0 0 (omega arith)

no_blank-groups : (all : List ℕ) (k : ℕ) → AllBelowBase 64 all → length all ≡ k * 8 / 6 → length (trimmed 6 32 (k * 8 % 6) all) % 4 ≡ 0 → 0 < length (trimmed 6 32 (k * 8 % 6) all) → get_or (map (letter 6 0x20) (trimmed 6 32 (k * 8 % 6) all)) (length (map (letter 6 0x20) (trimmed 6 32 (k * 8 % 6) all)) - 1) 0 ≡ 0x20 → ⊥
no_blank-groups all k u long =
    cond_both (leb (6 + k * 8 % 6) 7 && ends 32 all) (take (length all - 1) all) all (λ gs. length gs % 4 ≡ 0 → 0 < length gs → get_or (map (letter 6 0x20) gs) (length (map (letter 6 0x20) gs) - 1) 0 ≡ 0x20 → ⊥)
    (λ t four some e.
    let few = leb-true (6 + k * 8 % 6) 7 (and_parts (leb (6 + k * 8 % 6) 7) (ends 32 all) t).0 in
    let n : length (take (length all - 1) all) ≡ length all - 1 = length-take-le (length all - 1) all (omega arith) in
    odd_end k (length all / 4) (omega (arith, n, four, some, long)) few)
    (λ f four some e.
    let low = All-get_or (λ d. d < 64) all (length all - 1) 0 (omega arith) u in
    let pad : get_or all (length all - 1) 0 ≡ 32 = omega (arith, low, last_letter all some, e) in
    let ended : ends 32 all ≡ true = eq-eqb _ 32 (get_or_default all (length all - 1) 33 0 (omega arith) ∙ pad) in
    ⊎_elim (λ g. let more = leb-false (6 + k * 8 % 6) 7 g in tight (length all / 4) 2 k (omega arith) (omega arith) (omega arith) (omega arith)) (λ g. both_ways _ g ended) (and_cases (leb (6 + k * 8 % 6) 7) (ends 32 all) f))

pub no_blank : (bs x : List ℕ) → unpacked_letters 6 32 0x20 0x5f bs ≡ Ok x → blank_end x ≡ false
no_blank bs x e =
    let gs : List ℕ = remaining 6 32 bs in
    let s = letters_say 6 32 0x20 0x5f bs x e in
    ⊎_elim
    (λ t.
    let p = blank-parts (map (letter 6 0x20) (remaining 6 32 bs)) (ap blank_end (sym s.0) ∙ t) in
    let n = length-map (remaining 6 32 bs) (letter 6 0x20) in
    let some : 0 < length (remaining 6 32 bs) = ⊎_elim (λ l. l) (λ none. absurd (nothing (remaining 6 32 bs) none p.1)) (cases_lt 0 (length (remaining 6 32 bs))) in
    absurd (no_blank-groups (whole 6 bs) (length bs) (under-groups 6 (length bs * 8 / 6) (spread 8 bs) (under-spread 8 bs)) (length-groups 6 (length bs * 8 / 6) (spread 8 bs)) (ap (λ k. k % 4) (sym n) ∙ p.0) some p.1))
    (λ f. f)
    (cases_Bool (blank_end x))
  where
    nothing : (gs : List ℕ) → length gs ≤ 0 → get_or (map (letter 6 0x20) gs) (length (map (letter 6 0x20) gs) - 1) 0 ≡ 0x20 → ⊥
    nothing [] none e = omega (arith, e)
    nothing (g ∷ gs) none e = omega (arith, none)
