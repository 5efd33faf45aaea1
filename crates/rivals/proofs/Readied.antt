-- The room of a gap in which one set stands alone on whole blocks.
use Rattle.std.proofs.Common.{◌≡◌, ℕ, zero, ◌+◌, ◌-◌, ◌*◌, ◌/◌, ◌%◌, ◌<◌, ◌≤◌, Bool, true, false, ◌⊎◌, List, [], ◌∷◌, ◌++◌, length, sym, ap, ◌∙◌, subst, ⊎_elim, mul-le-mul_right, mod-eq_of_lt, add-mul, one-mul, div-mul-le_self, arith, length-append}
use native.Mathlib.Nat.{mul-add-div_right, mod_self}
use Rattle.std.proofs.lemmas.Bool.{cases_Bool, cases_eq, cond-true, cond-false}
use Rattle.std.proofs.lemmas.Nat.{le-div, div-add-mod', div-mul-add, mod_below}
use Rattle.sets.specs.Sets.{Tile, filler, holds}
use Rattle.sets.specs.Readings.{Entry}
use Rattle.rivals.specs.Rooms.{least, total, part, whole}
use Rattle.rivals.proofs.Format.{Format, shown, shut, listed, Whole}
use Rattle.rivals.proofs.Walks.{Walk, filler_on, set_on, set-floor}
use Rattle.rivals.proofs.Parts.{filler_by, set_by, fits}

-- whole blocks, counted
abbrev blocks : ℕ → ℕ → ℕ
blocks b n = (n + (b - 1)) / b

whole-blocks : (b n : ℕ) → 0 < b → whole b n ≡ blocks b n * b
whole-blocks b n some =
    let q : ℕ = n / b in
    let r : ℕ = n % b in
    let sum : q * b + r ≡ n = div-add-mod' n b in
    let low : r < b = mod_below n b some in
    let next : (q + 1) * b ≡ q * b + b = add-mul q 1 b ∙ ap (λ x. q * b + x) (one-mul b) in
    ⊎_elim (λ (z : r ≡ 0).
    let all : b - r ≡ b = omega arith in
    let none : (b - r) % b ≡ 0 = ap (λ x. x % b) all ∙ mod_self b in
    let up : blocks b n ≡ q = ap (λ x. x / b) (let same : n + (b - 1) ≡ q * b + (b - 1) = omega arith in same) ∙ div-mul-add q b (b - 1) (omega arith) in
    ap (λ x. n + x) none ∙ (let same : n + 0 ≡ q * b = omega arith in same) ∙ ap (λ x. x * b) (sym up))
    (λ (ne : r ≡ 0 → ⊥).
    let rest : (b - r) % b ≡ b - r = mod-eq_of_lt (omega arith) in
    let up : blocks b n ≡ q + 1 = ap (λ x. x / b) (let same : n + (b - 1) ≡ (q + 1) * b + (r - 1) = omega arith in same) ∙ div-mul-add (q + 1) b (r - 1) (omega arith) in
    ap (λ x. n + x) rest ∙ (let same : n + (b - r) ≡ (q + 1) * b = omega arith in same) ∙ ap (λ x. x * b) (sym up))
    (cases_eq r 0)

pub whole_mono : (b m n : ℕ) → 0 < b → m ≤ n → whole b m ≤ whole b n
whole_mono b m n some h =
    let up : blocks b m * b ≤ blocks b n * b = mul-le-mul_right b (le-div (blocks b m) (n + (b - 1)) b some (omega (arith, div-mul-le_self (m + (b - 1)) b))) in
    subst (λ x. x ≤ whole b n) (sym (whole-blocks b m some)) (subst (λ x. blocks b m * b ≤ x) (sym (whole-blocks b n some)) up)

pub whole-least : (b m n : ℕ) → 0 < b → m ≤ n → n % b ≡ 0 → whole b m ≤ n
whole-least b m n some h e =
    let all : b - n % b ≡ b = omega arith in
    let same : whole b n ≡ n = ap (λ x. n + x % b) all ∙ ap (λ x. n + x) (mod_self b) ∙ (let none : n + 0 ≡ n = omega arith in none) in
    subst (λ x. whole b m ≤ x) same (whole_mono b m n some h)

pub whole_shift : (b p n : ℕ) → 0 < b → whole b (p * b + n) ≡ p * b + whole b n
whole_shift b p n some =
    let regroup : p * b + n + (b - 1) ≡ p * b + (n + (b - 1)) = omega arith in
    whole-blocks b (p * b + n) some ∙ ap (λ x. x / b * b) regroup ∙ ap (λ x. x * b) (mul-add-div_right some p (n + (b - 1))) ∙ add-mul p (blocks b n) b ∙ ap (λ x. p * b + x) (sym (whole-blocks b n some))

nothing : {X : Type 0} (xs : List X) (e : X) (ys : List X) → [] ≡ xs ++ (e ∷ ys) → ⊥
nothing xs e ys p = omega (arith, ap length p, length-append xs (e ∷ ys))

module _ (F : Format) (lock : ℕ → Bool) (bs : List ℕ) (h : ℕ) (stop : (h ≡ length bs) ⊎ (lock h ≡ true)) (b : ℕ) (some : 0 < b) where
  pub readied_fits : (ts : List Tile) (at : ℕ) (xs : List Entry) (e : Entry) (ys : List Entry) → at ≤ h → part zero (listed F lock at ts) ≡ xs ++ (e ∷ ys) → Whole F b e.identifier at ts → Walk F lock bs at ts → whole b (at + total xs) + whole b (least e) + total ys ≤ h
  readied_fits [] at xs e ys le p alone w = absurd (nothing xs e ys p)
  readied_fits (filler ∷ ts) at xs e ys le p alone w =
      omega (arith, whole_mono b (at + total xs) (at + 1 + total xs) some (omega arith), readied_fits ts (at + 1) xs e ys (filler_by F lock bs h stop at ts le w) p alone (filler_on F lock bs at ts w))
  readied_fits (holds s ∷ ts) at [] e ys le p alone w =
      let n : ℕ = F.bytes s in
      let rest : List Entry = part zero (listed F lock (at + n) ts) in
      ⊎_elim (λ (t : shut lock at n ≡ true). absurd (nothing [] e ys (sym (cond-true (shut lock at n) [] (shown F s (shut lock at (F.bytes s)) ∷ rest) t) ∙ p))) (λ (f : shut lock at n ≡ false).
      let both : shown F s (shut lock at (F.bytes s)) ∷ rest ≡ e ∷ ys = sym (cond-false (shut lock at n) [] (shown F s (shut lock at (F.bytes s)) ∷ rest) f) ∙ p in
      let this : shown F s (shut lock at (F.bytes s)) ≡ e = cc in
      let those : rest ≡ ys = cc in
      let stands = alone.0 (ap (λ x. x.identifier) this) in
      let size : least e ≤ n = subst (λ x. least x ≤ n) this (set-floor F lock bs at s ts (shut lock at (F.bytes s)) w) in
      let back : at + n + total rest ≤ h = fits F lock bs h stop ts (at + n) (set_by F lock bs h stop at s ts le w f) (set_on F lock bs at s ts w) in
      omega (arith, whole-least b (at + 0) at some (omega arith) stands.0, whole-least b (least e) n some size stands.1, ap total those))
      (cases_Bool (shut lock at n))
  readied_fits (holds s ∷ ts) at (x ∷ xs) e ys le p alone w =
      let n : ℕ = F.bytes s in
      let rest : List Entry = part zero (listed F lock (at + n) ts) in
      ⊎_elim (λ (t : shut lock at n ≡ true). absurd (nothing (x ∷ xs) e ys (sym (cond-true (shut lock at n) [] (shown F s (shut lock at (F.bytes s)) ∷ rest) t) ∙ p))) (λ (f : shut lock at n ≡ false).
      let both : shown F s (shut lock at (F.bytes s)) ∷ rest ≡ x ∷ (xs ++ (e ∷ ys)) = sym (cond-false (shut lock at n) [] (shown F s (shut lock at (F.bytes s)) ∷ rest) f) ∙ p in
      let this : shown F s (shut lock at (F.bytes s)) ≡ x = cc in
      let those : rest ≡ xs ++ (e ∷ ys) = cc in
      let size : least x ≤ n = subst (λ y. least y ≤ n) this (set-floor F lock bs at s ts (shut lock at (F.bytes s)) w) in
      let back = readied_fits ts (at + n) xs e ys (set_by F lock bs h stop at s ts le w f) those alone.1 (set_on F lock bs at s ts w) in
      omega (arith, whole_mono b (at + (least x + total xs)) (at + n + total xs) some (omega arith)))
      (cases_Bool (shut lock at n))
