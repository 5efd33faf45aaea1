-- Tests of each number below a bound, the lowest that passes, and tests of some element.
use Rattle.std.proofs.Common.{◌≡◌, ℕ, zero, suc, ◌<◌, Bool, true, false, cond, ◌⊎◌, List, [], ◌∷◌, ◌++◌, length, Some, None, sym, refl, ap, ◌∙◌, inl, inr, ⊎_elim, arith}
use Rattle.std.specs.List.{ContainsAt as Has, AllByRecursion}
use Rattle.std.proofs.ByRecursion.{All-append, all-has}
use Rattle.std.proofs.lemmas.Bool.{and_from, and_left, and_right, and_parts, or_from, or_parts, cond-true, cond-false, cases_lt, cases_Bool, or_cases}
use Rattle.sets.specs.Readings.{every, either, lowest, any}

-- every
pub every-from : (p : ℕ → Bool) (n : ℕ) → ((i : ℕ) → i < n → p i ≡ true) → every p n ≡ true
every-from p zero h = refl
every-from p (suc n) h = and_from (every p n) (p n) (every-from p n (λ i g. h i (omega arith))) (h n (omega arith))

pub every-not : (p : ℕ → Bool) (n i : ℕ) → i < n → p i ≡ false → every p n ≡ false
every-not p zero i h e = absurd (omega arith)
every-not p (suc n) i h e =
    ⊎_elim (λ l. and_left (every p n) (p n) (every-not p n i l e)) (λ g. and_right (every p n) (p n) (ap p (omega arith) ∙ e)) (cases_lt i n)

pub every-at : (p : ℕ → Bool) (n i : ℕ) → every p n ≡ true → i < n → p i ≡ true
every-at p zero i e h = absurd (omega arith)
every-at p (suc n) i e h =
    let both = and_parts (every p n) (p n) e in
    ⊎_elim (λ l. every-at p n i both.0 l) (λ g. ap p (omega arith) ∙ both.1) (cases_lt i n)

-- the lowest
pub lowest-none : (p : ℕ → Bool) (n : ℕ) → ((i : ℕ) → i < n → p i ≡ false) → lowest p n ≡ None
lowest-none p zero h = refl
lowest-none p (suc n) h = ap (λ o. either o (cond (p n) (Some n) None)) (lowest-none p n (λ i g. h i (omega arith))) ∙ cond-false (p n) (Some n) None (h n (omega arith))

pub lowest-some : (p : ℕ → Bool) (n i : ℕ) → i < n → p i ≡ true → ((j : ℕ) → j < i → p j ≡ false) → lowest p n ≡ Some i
lowest-some p zero i h e low = absurd (omega arith)
lowest-some p (suc n) i h e low =
    ⊎_elim (λ l. ap (λ o. either o (cond (p n) (Some n) None)) (lowest-some p n i l e low))
    (λ g.
    let is : i ≡ n = omega arith in
    ap (λ o. either o (cond (p n) (Some n) None)) (lowest-none p n (λ j k. low j (omega arith))) ∙ cond-true (p n) (Some n) None (ap p (sym is) ∙ e) ∙ ap Some (sym is))
    (cases_lt i n)

-- what the lowest is, and that none passes
pub record Lowest (p : ℕ → Bool) (n i : ℕ) : Type 0 where
  pub within : i < n
  pub passes : p i ≡ true
  pub none : (j : ℕ) → j < i → p j ≡ false

pub lowest_cases : (p : ℕ → Bool) (n : ℕ) → ((lowest p n ≡ None) × ((i : ℕ) → i < n → p i ≡ false)) ⊎ ((i : ℕ) × (lowest p n ≡ Some i) × Lowest p n i)
lowest_cases p zero = inl (refl, λ i h. absurd (omega arith))
lowest_cases p (suc n) =
    ⊎_elim
    (λ none. ⊎_elim
    (λ t. inr (n, lowest-some p (suc n) n (omega arith) t none.1, record { within = omega arith; passes = t; none = none.1 }))
    (λ f. let all : (i : ℕ) → i < suc n → p i ≡ false = λ i h. ⊎_elim (λ l. none.1 i l) (λ g. ap p (omega arith) ∙ f) (cases_lt i n) in inl (lowest-none p (suc n) all, all))
    (cases_Bool (p n)))
    (λ s. let in' : s.0 < n = s.2.within in inr (s.0, lowest-some p (suc n) s.0 (omega arith) s.2.passes s.2.none, record { within = omega arith; passes = s.2.passes; none = s.2.none }))
    (lowest_cases p n)

-- some element
pub true-false : true ≡ false → ⊥
true-false e = let z : ◌≡◌ {A = ℕ} 0 1 = cc in omega arith

module _ {A : Type 0} (p : A → Bool) where
  pub any_none : (xs : List A) → AllByRecursion (λ x. p x ≡ false) xs → any p xs ≡ false
  any_none [] h = refl
  any_none (x ∷ xs) h = or_from (p x) (any p xs) h.0 (any_none xs h.1)

  pub any-not : (xs : List A) → any p xs ≡ false → AllByRecursion (λ x. p x ≡ false) xs
  any-not [] e = tt
  any-not (y ∷ xs) e = let b = or_parts (p y) (any p xs) e in (b.0, any-not xs b.1)

  pub any-has : (xs : List A) (x : A) → Has xs x → p x ≡ true → any p xs ≡ true
  any-has xs x h e =
      ⊎_elim (λ t. t) (λ f. let q = all-has (λ y. p y ≡ false) xs x (any-not xs f) h in absurd (true-false (sym e ∙ q))) (cases_Bool (any p xs))

  pub any_some : (xs : List A) → any p xs ≡ true → (x : A) × Has xs x × (p x ≡ true)
  any_some [] e = absurd (true-false (sym e))
  any_some (y ∷ xs) e =
      ⊎_elim (λ q. (y, (0, omega arith, λ d. refl), q)) (λ q. let r = any_some xs q in let in' : r.1.0 < length xs = r.1.1 in (r.0, (suc r.1.0, omega arith, λ d. r.1.2 d), r.2)) (or_cases (p y) (any p xs) e)

  pub any_append : (xs ys : List A) → any p xs ≡ false → any p ys ≡ false → any p (xs ++ ys) ≡ false
  any_append xs ys e f = any_none (xs ++ ys) (All-append (λ x. p x ≡ false) xs ys (any-not xs e) (any-not ys f))
