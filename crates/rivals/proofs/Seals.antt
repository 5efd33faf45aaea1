-- Two clean memories with the same locked blocks have the same sealed sets.
use Rattle.std.proofs.Common.{◌≡◌, ℕ, zero, suc, ◌+◌, ◌<◌, ◌≤◌, Bool, true, false, List, [], ◌∷◌, length, get_or, take, drop, sym, refl, ap, ◌∙◌, subst, ⊎_elim, arith, length-drop}
use Rattle.std.proofs.lemmas.List.{length-take, get_or-take, get_or-drop, ext_get_or}
use Rattle.std.proofs.lemmas.Bool.{cases_Bool, both_ways, cases_lt, cond-true, cond-false}
use Rattle.sets.specs.Sets.{Set, Tile, filler, holds}
use Rattle.sets.specs.Parsing.{end, tile}
use Rattle.rivals.proofs.Format.{Format, shut, sealed_sets}
use Rattle.rivals.proofs.Walks.{sealed-each, Walk, walk_end, filler_on, filler_open, set_on, set_open, set-some}

-- the same length, and the same bytes in locked blocks
pub record Alike (lock : ℕ → Bool) (bs bs' : List ℕ) : Type 0 where
  pub long : length bs ≡ length bs'
  pub each : (i : ℕ) → lock i ≡ true → get_or bs i 0 ≡ get_or bs' i 0

pub alike-back : {lock : ℕ → Bool} {bs bs' : List ℕ} → Alike lock bs bs' → Alike lock bs' bs
alike-back a = record { long = sym a.long; each = λ i e. sym (a.each i e) }

same_bytes : (lock : ℕ → Bool) (bs bs' : List ℕ) (at n : ℕ) → Alike lock bs bs' → shut lock at n ≡ true → take n (drop at bs) ≡ take n (drop at bs')
same_bytes lock bs bs' at n a e =
    let d = length-drop at bs in
    let d' = length-drop at bs' in
    let t = length-take n (drop at bs) in
    let t' = length-take n (drop at bs') in
    ext_get_or 0 (take n (drop at bs)) (take n (drop at bs')) (omega (arith, a.long)) (λ i h.
    get_or-take n (drop at bs) i 0 (omega arith) ∙ get_or-drop at bs i 0 ∙ a.each (at + i) (sealed-each lock at n e (at + i) (omega arith) (omega arith)) ∙ sym (get_or-drop at bs' i 0) ∙ sym (get_or-take n (drop at bs') i 0 (omega arith)))

module _ (F : Format) (lock : ℕ → Bool) where
  -- without a locked byte no set is sealed
  none : (bs : List ℕ) (ts : List Tile) (at : ℕ) → ((i : ℕ) → at ≤ i → lock i ≡ false) → Walk F lock bs at ts → sealed_sets F lock at ts ≡ []
  none bs [] at op w = refl
  none bs (filler ∷ ts) at op w = none bs ts (at + 1) (λ i h. op i (omega arith)) (filler_on F lock bs at ts w)
  none bs (holds s ∷ ts) at op w =
      ⊎_elim (λ (t : shut lock at (F.bytes s) ≡ true). absurd (both_ways (lock at) (op at (omega arith)) (sealed-each lock at (F.bytes s) t at (omega arith) (omega (arith, set-some F lock bs at s ts w))))) (λ (f : shut lock at (F.bytes s) ≡ false).
      cond-false (shut lock at (F.bytes s)) (record { at = at; set = s } ∷ sealed_sets F lock (at + F.bytes s) ts) (sealed_sets F lock (at + F.bytes s) ts) f ∙ none bs ts (at + F.bytes s) (λ i h. op i (omega arith)) (set_on F lock bs at s ts w))
      (cases_Bool (shut lock at (F.bytes s)))

  -- where the bytes hold a set, the tiling has it
  meets : (bs : List ℕ) (at : ℕ) (s : Set) (ts : List Tile) → Walk F lock bs at ts → F.parse (drop at bs) ≡ tile (holds s) → (us : List Tile) × (ts ≡ holds s ∷ us)
  meets bs at s [] w e = let o : F.parse (drop at bs) ≡ end = w.tiled in let z : ◌≡◌ {A = ℕ} 0 1 = cc in absurd (omega arith)
  meets bs at s (filler ∷ ts) w e = let o : F.parse (drop at bs) ≡ tile filler = w.tiled.0 in let z : ◌≡◌ {A = ℕ} 0 1 = cc in absurd (omega arith)
  meets bs at s (holds s' ∷ ts) w e = let o : F.parse (drop at bs) ≡ tile (holds s') = w.tiled.0 in let z : s' ≡ s = cc in (ts, ap (λ x. holds x ∷ ts) z)

  -- what is open between the places of two walks plays no part
  same : (n : ℕ) (bs bs' : List ℕ) (at at' : ℕ) (ts ts' : List Tile) → length ts + length ts' ≤ n → at ≤ at' → ((i : ℕ) → at ≤ i → i < at' → lock i ≡ false) → Alike lock bs bs' → Walk F lock bs at ts → Walk F lock bs' at' ts' → sealed_sets F lock at ts ≡ sealed_sets F lock at' ts'
  same zero bs bs' at at' [] ts' len le op a w w' =
      sym (none bs' ts' at' (λ i h. walk_end F lock bs at w i (omega arith)) w')
  same zero bs bs' at at' (t ∷ ts) ts' len le op a w w' = absurd (omega arith)
  same (suc n) bs bs' at at' [] ts' len le op a w w' =
      sym (none bs' ts' at' (λ i h. walk_end F lock bs at w i (omega arith)) w')
  same (suc n) bs bs' at at' (filler ∷ ts) ts' len le op a w w' =
      ⊎_elim (λ (lt : at' < at + 1). sym (same n bs' bs at' (at + 1) ts' ts (omega arith) (omega arith) (λ i h k. filler_open F lock bs at ts w i (omega arith) k) (alike-back a) w' (filler_on F lock bs at ts w))) (λ (ge : at + 1 ≤ at'). same n bs bs' (at + 1) at' ts ts' (omega arith) ge (λ i h k. op i (omega arith) k) a (filler_on F lock bs at ts w) w') (cases_lt at' (at + 1))
  same (suc n) bs bs' at at' (holds s ∷ ts) ts' len le op a w w' =
      let e : ℕ = at + F.bytes s in
      let b : Bool = shut lock at (F.bytes s) in
      let some : 0 < F.bytes s = set-some F lock bs at s ts w in
      ⊎_elim (λ (t : shut lock at (F.bytes s) ≡ true).
      let p : at' ≡ at = ⊎_elim (λ (lt : at < at'). absurd (both_ways (lock at) (op at (omega arith) lt) (sealed-each lock at (F.bytes s) t at (omega arith) (omega arith)))) (λ (ge : at' ≤ at). omega arith) (cases_lt at at') in
      let here : Walk F lock bs' at ts' = subst (λ x. Walk F lock bs' x ts') p w' in
      let found : (us : List Tile) × (ts' ≡ holds s ∷ us) = meets bs' at s ts' here (F.own (drop at bs) (drop at bs') s w.tiled.0 (same_bytes lock bs bs' at (F.bytes s) a t)) in
      let us : List Tile = found.0 in
      let q : ts' ≡ holds s ∷ us = found.1 in
      let v : Walk F lock bs' at (holds s ∷ us) = subst (λ x. Walk F lock bs' at x) q here in
      let count : length ts' ≡ suc (length us) = ap length q in
      let rest : sealed_sets F lock e ts ≡ sealed_sets F lock e us = same n bs bs' e e ts us (omega arith) (omega arith) (λ i h k. absurd (omega arith)) a (set_on F lock bs at s ts w) (set_on F lock bs' at s us v) in
      cond-true (shut lock at (F.bytes s)) (record { at = at; set = s } ∷ sealed_sets F lock e ts) (sealed_sets F lock e ts) t ∙ ap (λ r. record { at = at; set = s } ∷ r) rest ∙ sym (cond-true (shut lock at (F.bytes s)) (record { at = at; set = s } ∷ sealed_sets F lock e us) (sealed_sets F lock e us) t) ∙ ap (λ x. sealed_sets F lock at x) (sym q) ∙ ap (λ x. sealed_sets F lock x ts') (sym p))
      (λ (f : shut lock at (F.bytes s) ≡ false).
      cond-false (shut lock at (F.bytes s)) (record { at = at; set = s } ∷ sealed_sets F lock e ts) (sealed_sets F lock e ts) f ∙ ⊎_elim (λ (lt : at' < e). sym (same n bs' bs at' e ts' ts (omega arith) (omega arith) (λ i h k. set_open F lock bs at s ts w f i (omega arith) k) (alike-back a) w' (set_on F lock bs at s ts w))) (λ (ge : e ≤ at'). same n bs bs' e at' ts ts' (omega arith) ge (λ i h k. op i (omega arith) k) a (set_on F lock bs at s ts w) w') (cases_lt at' e))
      (cases_Bool (shut lock at (F.bytes s)))

  pub same-seals : (bs bs' : List ℕ) (ts ts' : List Tile) → Alike lock bs bs' → Walk F lock bs 0 ts → Walk F lock bs' 0 ts' → sealed_sets F lock 0 ts ≡ sealed_sets F lock 0 ts'
  same-seals bs bs' ts ts' a w w' = same (length ts + length ts') bs bs' 0 0 ts ts' (omega arith) (omega arith) (λ i h k. absurd (omega arith)) a w w'
