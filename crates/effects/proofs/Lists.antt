-- Lists in which no identifier stands twice, around one of their entries.
use Rattle.std.proofs.Common.{◌≡◌, ℕ, zero, suc, ◌<◌, true, false, not, List, [], ◌∷◌, ◌++◌, length, get_or, take, drop, sym, refl, ap, ◌∙◌, subst, ⊎_elim, arith}
use Rattle.std.specs.List.{AllByRecursion}
use Rattle.std.proofs.lemmas.Slice.Eq.{bytes_eq-Decides}
use Rattle.std.proofs.lemmas.List.Elements.{filter-append}
use Rattle.std.proofs.ByRecursion.{All-append}
use Rattle.std.proofs.lemmas.Bool.{cases_Bool, cond-true, cond-false, not_from_true, not_from_false}
use Rattle.sets.specs.Readings.{Entry}
use Rattle.rivals.specs.Relaid.{Distinct}
use Rattle.effects.specs.Lists.{named, Absent, with_object, as_sealed, each_named, changed, dropped, sealed_list}

-- what has an identifier, and what has not
pub is-named : (e : Entry) → named e.identifier e ≡ true
is-named e = (bytes_eq-Decides e.identifier e.identifier).1 refl

pub not_named : (id : List ℕ) (e : Entry) → (id ≡ e.identifier → ⊥) → named id e ≡ false
not_named id e differ =
    ⊎_elim (λ (t : named id e ≡ true). absurd (differ ((bytes_eq-Decides id e.identifier).0 t))) (λ (f : named id e ≡ false). f) (cases_Bool (named id e))

-- a list around one that it has
pub parted : {A : Type 0} (xs : List A) (x : A) (k : ℕ) → k < length xs → ((d : A) → get_or xs k d ≡ x) → xs ≡ take k xs ++ (x ∷ drop (suc k) xs)
parted [] x k h is = absurd (omega arith)
parted (y ∷ xs) x zero h is = ap (λ z. z ∷ xs) (is y)
parted (y ∷ xs) x (suc k) h is = ap (λ l. y ∷ l) (parted xs x k (omega arith) is)

-- a part of a list
pub all_left : {A : Type 0} (P : A → Type 0) (xs ys : List A) → AllByRecursion P (xs ++ ys) → AllByRecursion P xs
all_left P [] ys a = tt
all_left P (x ∷ xs) ys a = (a.0, all_left P xs ys a.1)

pub all_right : {A : Type 0} (P : A → Type 0) (xs ys : List A) → AllByRecursion P (xs ++ ys) → AllByRecursion P ys
all_right P [] ys a = a
all_right P (x ∷ xs) ys a = all_right P xs ys a.1

-- where no identifier stands twice, the others have another than an entry's
pub absent_before : (e : Entry) (xs ys : List Entry) → Distinct (xs ++ (e ∷ ys)) → Absent e.identifier xs
absent_before e [] ys d = tt
absent_before e (x ∷ xs) ys d =
    let others : AllByRecursion (λ d. x.identifier ≡ d.identifier → ⊥) (e ∷ ys) = all_right (λ d. x.identifier ≡ d.identifier → ⊥) xs (e ∷ ys) d.0 in
    ((λ same. others.0 (sym same)), absent_before e xs ys d.1)

pub distinct_left : (xs ys : List Entry) → Distinct (xs ++ ys) → Distinct xs
distinct_left [] ys d = tt
distinct_left (x ∷ xs) ys d = (all_left (λ e. x.identifier ≡ e.identifier → ⊥) xs ys d.0, distinct_left xs ys d.1)

pub distinct_right : (xs ys : List Entry) → Distinct (xs ++ ys) → Distinct ys
distinct_right [] ys d = d
distinct_right (x ∷ xs) ys d = distinct_right xs ys d.1

pub absent_behind : (e : Entry) (xs ys : List Entry) → Distinct (xs ++ (e ∷ ys)) → Absent e.identifier ys
absent_behind e xs ys d = (distinct_right xs (e ∷ ys) d).0

-- one more whose identifier is absent; another of the same identifier; and one less
pub distinct_put : (l : List Entry) (e : Entry) → Distinct l → Absent e.identifier l → Distinct (l ++ (e ∷ []))
distinct_put [] e d a = (tt, tt)
distinct_put (x ∷ l) e d a = (All-append (λ y. x.identifier ≡ y.identifier → ⊥) l (e ∷ []) d.0 ((λ same. a.0 (sym same)), tt), distinct_put l e d.1 a.1)

pub distinct_change : (e e' : Entry) → e'.identifier ≡ e.identifier → (xs ys : List Entry) → Distinct (xs ++ (e ∷ ys)) → Distinct (xs ++ (e' ∷ ys))
distinct_change e e' same [] ys d = (subst (λ id. AllByRecursion (λ y. id ≡ y.identifier → ⊥) ys) (sym same) d.0, d.1)
distinct_change e e' same (x ∷ xs) ys d =
    let P : Entry → Type 0 = λ y. x.identifier ≡ y.identifier → ⊥ in
    let others : AllByRecursion P (e ∷ ys) = all_right P xs (e ∷ ys) d.0 in
    (All-append P xs (e' ∷ ys) (all_left P xs (e ∷ ys) d.0) ((λ q. others.0 (q ∙ same)), others.1), distinct_change e e' same xs ys d.1)

pub distinct_drop : (e : Entry) (xs ys : List Entry) → Distinct (xs ++ (e ∷ ys)) → Distinct (xs ++ ys)
distinct_drop e [] ys d = d.1
distinct_drop e (x ∷ xs) ys d =
    let P : Entry → Type 0 = λ y. x.identifier ≡ y.identifier → ⊥ in
    let others : AllByRecursion P (e ∷ ys) = all_right P xs (e ∷ ys) d.0 in
    (All-append P xs ys (all_left P xs (e ∷ ys) d.0) others.1, distinct_drop e xs ys d.1)

-- each entry of an identifier becomes another: none where it is absent, and one where it stands
module _ (id : List ℕ) (become : Entry → Entry) where
  pub none-becomes : (l : List Entry) → Absent id l → each_named id become l ≡ l
  unfolding each_named
  none-becomes [] a = refl
  none-becomes (x ∷ l) a = (λ i. cond-false (named id x) (become x) x (not_named id x a.0) i ∷ none-becomes l a.1 i)

  pub one-becomes : (e : Entry) (xs ys : List Entry) → id ≡ e.identifier → Distinct (xs ++ (e ∷ ys)) → each_named id become (xs ++ (e ∷ ys)) ≡ xs ++ (become e ∷ ys)
  unfolding each_named
  one-becomes e [] ys same d =
      (λ i. cond-true (named id e) (become e) e (subst (λ n. named n e ≡ true) (sym same) (is-named e)) i ∷ none-becomes ys (subst (λ n. Absent n ys) (sym same) d.0) i)
  one-becomes e (x ∷ xs) ys same d =
      let other = absent_before e (x ∷ xs) ys d in
      (λ i. cond-false (named id x) (become x) x (not_named id x (λ q. other.0 (sym same ∙ q))) i ∷ one-becomes e xs ys same d.1 i)

-- a change, a seal and a drop of one of its entries
pub changed-at : (kind : ℕ) (object : List ℕ) (e : Entry) (xs ys : List Entry) → Distinct (xs ++ (e ∷ ys)) → changed e.identifier kind object (xs ++ (e ∷ ys)) ≡ xs ++ (with_object kind object e ∷ ys)
unfolding changed
changed-at kind object e xs ys d = one-becomes e.identifier (with_object kind object) e xs ys refl d

pub sealed-at : (e : Entry) (xs ys : List Entry) → Distinct (xs ++ (e ∷ ys)) → sealed_list e.identifier (xs ++ (e ∷ ys)) ≡ xs ++ (as_sealed e ∷ ys)
unfolding sealed_list
sealed-at e xs ys d = one-becomes e.identifier as_sealed e xs ys refl d

none_dropped : (id : List ℕ) (l : List Entry) → Absent id l → dropped id l ≡ l
unfolding dropped
none_dropped id [] a = refl
none_dropped id (x ∷ l) a =
    let rest : List Entry = dropped id l in
    cond-true (not (named id x)) (x ∷ dropped id l) (dropped id l) (not_from_false (named id x) (not_named id x a.0)) ∙ ap (λ l. x ∷ l) (none_dropped id l a.1)

pub dropped-at : (e : Entry) (xs ys : List Entry) → Distinct (xs ++ (e ∷ ys)) → dropped e.identifier (xs ++ (e ∷ ys)) ≡ xs ++ ys
unfolding dropped
dropped-at e xs ys d =
    filter-append (λ x. not (named e.identifier x)) xs (e ∷ ys)
    ∙ (λ i. none_dropped e.identifier xs (absent_before e xs ys d) i ++ cond-false (not (named e.identifier e)) (e ∷ dropped e.identifier ys) (dropped e.identifier ys) (not_from_true (named e.identifier e) (is-named e)) i)
    ∙ ap (λ l. xs ++ l) (none_dropped e.identifier ys (absent_behind e xs ys d))
