-- Borders of locked runs are borders of tiles.
use Rattle.std.proofs.Common.{◌≡◌, ℕ, ◌+◌, ◌*◌, Bool, false, List, get_or, inl, inr, ⊎_elim, add-mul, one-mul, arith}
use Rattle.std.proofs.ByRecursion.{All-weaker}
use Rattle.std.proofs.lemmas.Bool.{cases_lt}
use Rattle.sets.specs.Sets.{size}
use Rattle.sets.specs.Scans.{Found}
use Rattle.sets.specs.Layouts.{Apart}
use Rattle.sets.specs.Blocks.{Unmixed, Borders}

across : (b : ℕ) (locks : List Bool) (k : ℕ) (f : Found) → Unmixed b locks f → (get_or locks k false ≡ get_or locks (k + 1) false → ⊥) → Apart ((k + 1) * b) f
across b locks k f same differ =
    let up : (k + 1) * b ≡ k * b + b = omega (arith, add-mul k 1 b, one-mul b) in
    ⊎_elim
    (λ h. ⊎_elim
    (λ g. absurd (differ (same k (k + 1) (omega arith, omega arith) (omega arith, omega arith))))
    (λ g. inl g)
    (cases_lt ((k + 1) * b) (f.at + size f.set)))
    (λ h. inr h)
    (cases_lt f.at ((k + 1) * b))

pub borders : Borders
borders b locks fs u = (λ k differ. All-weaker (Unmixed b locks) (Apart ((k + 1) * b)) (λ f h. across b locks k f h differ) fs u, All-weaker (Unmixed b locks) (Apart 0) (λ f h. inr (omega arith)) fs u)
