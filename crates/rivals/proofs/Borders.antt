-- Where locked and open bytes meet, a tile begins or ends.
use Rattle.std.proofs.Common.{◌≡◌, ℕ, ◌+◌, ◌-◌, ◌<◌, ◌≤◌, Bool, true, false, List, [], ◌∷◌, sym, ◌∙◌, inl, inr, ⊎_elim, arith}
use Rattle.std.proofs.lemmas.Bool.{cases_Bool, cases_lt, cases_eq}
use Rattle.sets.specs.Sets.{Tile, filler, holds}
use Rattle.rivals.proofs.Format.{Format, Border, shut}
use Rattle.rivals.proofs.Walks.{sealed-each, Walk, walk_end, filler_on, set_on, set_open}

pub edge : (F : Format) (lock : ℕ → Bool) (bs : List ℕ) (b : ℕ) (ts : List Tile) (at : ℕ) → at ≤ b → (at < b → lock (b - 1) ≡ lock b → ⊥) → Walk F lock bs at ts → Border F at ts b
edge F lock bs b [] at h differ w =
    ⊎_elim (λ (e : at ≡ b). e) (λ (ne : at ≡ b → ⊥). absurd (differ (omega arith) (walk_end F lock bs at w (b - 1) (omega arith) ∙ sym (walk_end F lock bs at w b h)))) (cases_eq at b)
edge F lock bs b (filler ∷ ts) at h differ w =
    ⊎_elim (λ (e : at ≡ b). inl e) (λ (ne : at ≡ b → ⊥). inr (edge F lock bs b ts (at + 1) (omega arith) (λ k. differ (omega arith)) (filler_on F lock bs at ts w))) (cases_eq at b)
edge F lock bs b (holds s ∷ ts) at h differ w =
    let n : ℕ = F.bytes s in
    ⊎_elim (λ (e : at ≡ b). inl e) (λ (ne : at ≡ b → ⊥).
    ⊎_elim (λ (in' : b < at + n).
    ⊎_elim (λ (t : shut lock at n ≡ true). absurd (differ (omega arith) (sealed-each lock at n t (b - 1) (omega arith) (omega arith) ∙ sym (sealed-each lock at n t b h in')))) (λ (f : shut lock at n ≡ false). absurd (differ (omega arith) (set_open F lock bs at s ts w f (b - 1) (omega arith) (omega arith) ∙ sym (set_open F lock bs at s ts w f b h in')))) (cases_Bool (shut lock at n)))
    (λ (out : at + n ≤ b). inr (edge F lock bs b ts (at + n) out (λ k. differ (omega arith)) (set_on F lock bs at s ts w)))
    (cases_lt b (at + n)))
    (cases_eq at b)
