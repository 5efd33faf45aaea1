-- The first row that holds, and what a declined call answers.
use Rattle.std.proofs.Common.{◌≡◌, ℕ, Bool, true, false, List, [], ◌∷◌, ◌++◌, Some, None, Ok, Err, Option, Result, sym, refl, ap, ◌∙◌, subst, arith}
use Rattle.sets.specs.Scans.{Refusal}
use Rattle.states.specs.declared.faults.CallFault.{CallFault}
use Rattle.states.specs.Faults.{refusal_of}
use Rattle.calls.specs.Rows.{Row, row, first, Answers}
use Rattle.calls.specs.Working.{unless}

-- rows behind others count where none of those holds
pub first_on : (rows more : List Row) → first rows ≡ None → first (rows ++ more) ≡ first more
first_on [] more e = refl
first_on (Some f ∷ rows) more e = absurd (let z : ◌≡◌ {A = ℕ} 0 1 = cc in omega arith)
first_on (None ∷ rows) more e = first_on rows more e

pub first_stays : (rows more : List Row) (f : Refusal) → first rows ≡ Some f → first (rows ++ more) ≡ Some f
first_stays [] more f e = absurd (let z : ◌≡◌ {A = ℕ} 0 1 = cc in omega arith)
first_stays (Some g ∷ rows) more f e = e
first_stays (None ∷ rows) more f e = first_stays rows more f e

pub first_one : (r : Row) → first (r ∷ []) ≡ r
first_one (Some f) = refl
first_one None = refl

pub none_of : (r : Row) (rows : List Row) → first (r ∷ rows) ≡ None → (r ≡ None) × (first rows ≡ None)
none_of (Some f) rows e = absurd (let z : ◌≡◌ {A = ℕ} 0 1 = cc in omega arith)
none_of None rows e = (refl, e)

pub row_fails : (n p : ℕ) (b : Bool) → row n p b ≡ None → b ≡ false
row_fails n p true e = absurd (let z : ◌≡◌ {A = ℕ} 0 1 = cc in omega arith)
row_fails n p false e = refl

-- what the exit of a `?` answers, by the fault that came
pub declined : {A : Type 0} (rows : List Row) (grants : A → Type 0) (r : Result A CallFault) (y e : CallFault) → r ≡ Err y → y ≡ e → first rows ≡ Some (refusal_of e) → Answers rows grants r
declined rows grants r y e is same h = subst (Answers rows grants) (sym (is ∙ ap Err same)) h

-- rows with one first row give one answer
pub answers_same : {A : Type 0} (rows more : List Row) (grants : A → Type 0) (r : Result A CallFault) → first more ≡ first rows → Answers rows grants r → Answers more grants r
answers_same rows more grants (Ok a) e h = (e ∙ h.0, h.1)
answers_same rows more grants (Err f) e h = e ∙ h

pub unless-some : {A : Type 0} (o : Option Refusal) (f : Refusal) (x y : A) → o ≡ Some f → unless o x y ≡ x
unless-some o f x y e = ap (λ q. unless q x y) e

pub unless-none : {A : Type 0} (o : Option Refusal) (x y : A) → o ≡ None → unless o x y ≡ y
unless-none o x y e = ap (λ q. unless q x y) e
