-- Blocks locked one after another.
use Rattle.std.proofs.Common.{◌≡◌, ℕ, zero, suc, ◌+◌, ◌<◌, ◌≤◌, Bool, true, false, ◌⊎◌, List, length, get_or, set, refl, ap, ◌∙◌, inl, inr, ⊎_elim, arith, length-set}
use Rattle.std.proofs.lemmas.List.{get_or-set_same, get_or-set_other}
use Rattle.std.proofs.lemmas.Bool.{cases_lt, cases_eq}
use Rattle.effects.specs.Seals.{lock_run}

pub lock_long : (p n : ℕ) (locks : List Bool) → length (lock_run p n locks) ≡ length locks
unfolding lock_run
lock_long p zero locks = refl
lock_long p (suc n) locks = length-set (lock_run p n locks) (p + n) true ∙ lock_long p n locks

pub lock_outside : (p n : ℕ) (locks : List Bool) (k : ℕ) → (k < p) ⊎ (p + n ≤ k) → get_or (lock_run p n locks) k false ≡ get_or locks k false
unfolding lock_run
lock_outside p zero locks k out = refl
lock_outside p (suc n) locks k out =
    let other : (k ≡ p + n) → ⊥ = λ e. ⊎_elim (λ (l : k < p). omega arith) (λ (g : p + suc n ≤ k). omega arith) out in
    get_or-set_other (lock_run p n locks) (p + n) k true false other ∙ lock_outside p n locks k (⊎_elim (λ (l : k < p). inl l) (λ (g : p + suc n ≤ k). inr (omega arith)) out)

pub lock_inside : (p n : ℕ) (locks : List Bool) → p + n ≤ length locks → (k : ℕ) → p ≤ k → k < p + n → get_or (lock_run p n locks) k false ≡ true
unfolding lock_run
lock_inside p zero locks fits k low high = absurd (omega arith)
lock_inside p (suc n) locks fits k low high =
    ⊎_elim
    (λ (e : k ≡ p + n). ap (λ j. get_or (set (lock_run p n locks) (p + n) true) j false) e ∙ get_or-set_same (lock_run p n locks) (p + n) true false (omega (arith, lock_long p n locks)))
    (λ (ne : k ≡ p + n → ⊥). get_or-set_other (lock_run p n locks) (p + n) k true false ne ∙ lock_inside p n locks (omega arith) k low (⊎_elim (λ (l : k < p + n). l) (λ (g : p + n ≤ k). absurd (ne (omega arith))) (cases_lt k (p + n))))
    (cases_eq k (p + n))

-- one more
pub lock_more : (p n : ℕ) (locks : List Bool) → lock_run p (n + 1) locks ≡ set (lock_run p n locks) (p + n) true
unfolding lock_run
lock_more p n locks = let e : n + 1 ≡ suc n = omega arith in ap (λ k. lock_run p k locks) e
