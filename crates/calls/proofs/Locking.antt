-- Locks read one after another.
use Rattle.std.proofs.Common.{◌≡◌, ℕ, ◌+◌, ◌<◌, Bool, true, false, List, [], ◌∷◌, ◌++◌, map, length, get_or, take, set, Ok, Err, Result, sym, refl, ap, ◌∙◌, arith}
use Rattle.std.specs.Int.{from_bool}
use Rattle.std.proofs.lemmas.List.{take_more, take_more_set, map-append}
use Rattle.std.proofs.Math.Seq.{take-append_seam}
use Rattle.tags.specs.Tags.{Tag}
use Rattle.tags.specs.Dumps.{nonzero}
use Rattle.drivers.specs.declared.faults.DriverFault.{DriverFault}
use Rattle.drivers.specs.Questions.{shut, locked_answer}
use Rattle.drivers.proofs.Granted.{locked-told}

pub lock_more : (xs : List ℕ) (ls : List Bool) (k b : ℕ) → k < length xs → k < length ls → map nonzero (take k xs) ≡ take k ls → nonzero b ≡ get_or ls k false → map nonzero (take (k + 1) (set xs k b)) ≡ take (k + 1) ls
lock_more xs ls k b h g e f =
    ap (map nonzero) (take_more_set xs k b h) ∙ map-append nonzero (take k xs) (b ∷ []) ∙ (λ i. e i ++ f i ∷ []) ∙ sym (take_more ls k false g)

-- all locks stand at the front of a longer list
pub front_told : (xs ys : List ℕ) (n : ℕ) (ls : List Bool) → length xs ≡ n → map nonzero xs ≡ ls → map nonzero (take n (xs ++ ys)) ≡ ls
front_told xs ys n ls e h = ap (map nonzero) (ap (λ k. take k (xs ++ ys)) (sym e) ∙ take-append_seam xs ys) ∙ h

pub nonzero-bool : (b : Bool) → nonzero (from_bool b) ≡ b
nonzero-bool true = refl
nonzero-bool false = refl

-- a block that there is tells its lock
module _ (t : Tag) (k : ℕ) (h : k < t.count) where
  pub lock_told : (b : Bool) (r : Result Bool DriverFault) → r ≡ Ok b → r ≡ locked_answer t k → b ≡ shut t k
  lock_told b r is e = let l = locked-told t k h in cc

  pub lock_tells : (f : DriverFault) → Err f ≡ locked_answer t k → ⊥
  lock_tells f e = let l = locked-told t k h in let z : ◌≡◌ {A = ℕ} 0 1 = cc in omega arith
