-- When a call is granted or refused, and what it then leaves.
use Rattle.std.proofs.Common.{◌≡◌, ℕ, ◌<◌, Bool, true, false, cond, List, length, is_ok, Ok, Err, Result, sym, refl, ap, ◌∙◌}
use Rattle.std.proofs.lemmas.Bool.{lt-ltb, eq-eqb, cond-true, cond-false}
use Rattle.tags.specs.Tags.{Tag}
use Rattle.drivers.specs.declared.faults.DriverFault.{DriverFault}
use Rattle.drivers.specs.declared.faults.DriverFault.TheVariants.{Locked}
use Rattle.drivers.specs.Questions.{shut, block, locked_answer, read_answer, read_buffer}
use Rattle.drivers.specs.Changes.{with_block, with_lock, write_answer, write_tag, lock_answer, lock_tag}

pub cond_of : {X Y : Type 0} (f : X → Y) (b : Bool) (x y : X) → f (cond b x y) ≡ cond b (f x) (f y)
cond_of f true x y = refl
cond_of f false x y = refl

module _ (t : Tag) (k : ℕ) (h : k < t.count) where
  pub locked-told : Ok (shut t k) ≡ locked_answer t k
  locked-told = sym (cond-true _ _ _ (lt-ltb k t.count h))

  pub read_granted : (m : ℕ) → m ≡ t.size → Ok tt ≡ read_answer t k m
  read_granted m e = sym (cond-true _ _ _ (lt-ltb k t.count h) ∙ cond-true _ _ _ (eq-eqb m t.size e))

  pub write_granted : (m : ℕ) → m ≡ t.size → shut t k ≡ false → Ok tt ≡ write_answer t k m
  write_granted m e o = sym (cond-true _ _ _ (lt-ltb k t.count h) ∙ cond-true _ _ _ (eq-eqb m t.size e) ∙ cond-false _ _ _ o)

  pub write_refused : (m : ℕ) → m ≡ t.size → shut t k ≡ true → Err (Locked k) ≡ write_answer t k m
  write_refused m e o = sym (cond-true _ _ _ (lt-ltb k t.count h) ∙ cond-true _ _ _ (eq-eqb m t.size e) ∙ cond-true _ _ _ o)

  pub lock_granted : Ok tt ≡ lock_answer t k
  lock_granted = sym (cond-true _ _ _ (lt-ltb k t.count h))

-- what a call leaves, by what it answered
module _ (t : Tag) (k : ℕ) (r : Result (Unit {0}) DriverFault) where
  pub read_leaves : (b : List ℕ) → r ≡ read_answer t k (length b) → cond (is_ok r) (block t k) b ≡ read_buffer t k b
  read_leaves b e = ap (λ a. cond (is_ok a) (block t k) b) e

  pub write_leaves : (b : List ℕ) → r ≡ write_answer t k (length b) → cond (is_ok r) (with_block t k b) t ≡ write_tag t k b
  write_leaves b e = ap (λ a. cond (is_ok a) (with_block t k b) t) e

  pub lock_leaves : r ≡ lock_answer t k → cond (is_ok r) (with_lock t k) t ≡ lock_tag t k
  lock_leaves e = ap (λ a. cond (is_ok a) (with_lock t k) t) e

-- what a granted read leaves
pub read_ok : (t : Tag) (k : ℕ) (b out : List ℕ) (r : Result (Unit {0}) DriverFault) → r ≡ Ok tt → r ≡ read_answer t k (length b) → out ≡ read_buffer t k b → out ≡ block t k
read_ok t k b out r ok answer after = after ∙ sym (read_leaves t k r b answer) ∙ ap (λ a. cond (is_ok a) (block t k) b) ok
