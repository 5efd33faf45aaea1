-- The place of a set in the list.
use Rattle.std.proofs.Common.{◌≡◌, ℕ, suc, ◌+◌, ◌-◌, ◌<◌, ◌≤◌, Bool, true, false, cond, ltb, List, [], ◌∷◌, ◌++◌, sym, refl, ap, ◌∙◌, subst, ⊎_elim, arith}
use Rattle.std.proofs.lemmas.Bool.{cases_Bool, both_ways, cases_lt, cond-true, cond-false, lt-ltb, le-ltb}
use Rattle.sets.specs.Sets.{Tile, filler, holds}
use Rattle.sets.specs.Scans.{Found}
use Rattle.rivals.specs.Memories.{below}
use Rattle.rivals.specs.Rooms.{seal_count}
use Rattle.rivals.proofs.Format.{Format, shut, listed, sealed_sets, after_sets}
use Rattle.rivals.proofs.Walks.{sealed-each, Walk, filler_on, filler_open, set_on, set-some}
use Rattle.rivals.proofs.Parts.{below_none}
use Rattle.rivals.proofs.Runs.{spread}

module _ (F : Format) (lock : ℕ → Bool) where
  -- an address moves over open bytes without meeting a sealed set
  pub below-same : (bs : List ℕ) (g a : ℕ) → g ≤ a → ((i : ℕ) → g ≤ i → i < a → lock i ≡ false) → (ts : List Tile) (at : ℕ) → Walk F lock bs at ts → below g (sealed_sets F lock at ts) ≡ below a (sealed_sets F lock at ts)
  below-same bs g a le op [] at w = refl
  below-same bs g a le op (filler ∷ ts) at w = below-same bs g a le op ts (at + 1) (filler_on F lock bs at ts w)
  below-same bs g a le op (holds s ∷ ts) at w =
      let n : ℕ = F.bytes s in
      let more : List Found = sealed_sets F lock (at + n) ts in
      let P : Found = record { at = at; set = s } in
      let rest : below g more ≡ below a more = below-same bs g a le op ts (at + n) (set_on F lock bs at s ts w) in
      ⊎_elim (λ (t : shut lock at n ≡ true).
      let same : ltb at g ≡ ltb at a =
      ⊎_elim (λ (lt : at < g). lt-ltb at g lt ∙ sym (lt-ltb at a (omega arith))) (λ (ge : g ≤ at).
      ⊎_elim (λ (in' : at < a). absurd (both_ways (lock at) (op at ge in') (sealed-each lock at n t at (omega arith) (omega (arith, set-some F lock bs at s ts w))))) (λ (out : a ≤ at). le-ltb at g ge ∙ sym (le-ltb at a out)) (cases_lt at a))
      (cases_lt at g) in
      ap (below g) (cond-true (shut lock at n) (P ∷ more) more t) ∙ (λ i. cond (same i) (suc (rest i)) (rest i)) ∙ ap (below a) (sym (cond-true (shut lock at n) (P ∷ more) more t)))
      (λ (f : shut lock at n ≡ false).
      ap (below g) (cond-false (shut lock at n) (P ∷ more) more f) ∙ rest ∙ ap (below a) (sym (cond-false (shut lock at n) (P ∷ more) more f)))
      (cases_Bool (shut lock at n))

  -- the sealed sets before an address where a tile begins are those of the tiles before it
  pub count-front : (bs : List ℕ) (a : ℕ) (vs us : List Tile) (at : ℕ) → at + spread F us ≡ a → Walk F lock bs at (us ++ vs) → below a (sealed_sets F lock at (us ++ vs)) ≡ seal_count (listed F lock at us)
  count-front bs a vs [] at sum w = below_none F lock bs a vs at (omega arith)
  count-front bs a vs (filler ∷ us) at sum w = count-front bs a vs us (at + 1) (omega arith) (filler_on F lock bs at (us ++ vs) w)
  count-front bs a vs (holds s ∷ us) at sum w =
      let n : ℕ = F.bytes s in
      let more : List Found = sealed_sets F lock (at + n) (us ++ vs) in
      let c : ℕ = seal_count (listed F lock (at + n) us) in
      let P : Found = record { at = at; set = s } in
      let rest : below a more ≡ c = count-front bs a vs us (at + n) (omega arith) (set_on F lock bs at s (us ++ vs) w) in
      let lt : at < a = omega (arith, set-some F lock bs at s (us ++ vs) w) in
      ⊎_elim (λ (t : shut lock at n ≡ true). ap (below a) (cond-true (shut lock at n) (P ∷ more) more t) ∙ cond-true (ltb at a) (suc (below a more)) (below a more) (lt-ltb at a lt) ∙ ap suc rest ∙ sym (cond-true (shut lock at n) (suc c) c t))
      (λ (f : shut lock at n ≡ false). ap (below a) (cond-false (shut lock at n) (P ∷ more) more f) ∙ rest ∙ sym (cond-false (shut lock at n) (suc c) c f))
      (cases_Bool (shut lock at n))

  -- the walk from a tile on
  pub walk-behind : (bs : List ℕ) (a : ℕ) (vs us : List Tile) (at : ℕ) → at + spread F us ≡ a → Walk F lock bs at (us ++ vs) → Walk F lock bs a vs
  walk-behind bs a vs [] at sum w = let p : at ≡ a = omega arith in subst (λ x. Walk F lock bs x vs) p w
  walk-behind bs a vs (filler ∷ us) at sum w = walk-behind bs a vs us (at + 1) (omega arith) (filler_on F lock bs at (us ++ vs) w)
  walk-behind bs a vs (holds s ∷ us) at sum w = walk-behind bs a vs us (at + F.bytes s) (omega arith) (set_on F lock bs at s (us ++ vs) w)

  -- what stands before a gap ends with a set, at the gap's start
  pub front-used : (bs : List ℕ) (g : ℕ) (vs us : List Tile) (at used : ℕ) → at + spread F us ≡ g → (at < g → lock (g - 1) ≡ true) → (at ≡ g → used ≡ g) → Walk F lock bs at (us ++ vs) → after_sets F used at us ≡ g
  front-used bs g vs [] at used sum locked here w = here (omega arith)
  front-used bs g vs (filler ∷ us) at used sum locked here w =
      front-used bs g vs us (at + 1) used (omega arith) (λ lt. locked (omega arith)) (λ e. absurd (both_ways (lock (g - 1)) (filler_open F lock bs at (us ++ vs) w (g - 1) (omega arith) (omega arith)) (locked (omega arith)))) (filler_on F lock bs at (us ++ vs) w)
  front-used bs g vs (holds s ∷ us) at used sum locked here w =
      let some = set-some F lock bs at s (us ++ vs) w in
      front-used bs g vs us (at + F.bytes s) (at + F.bytes s) (omega arith) (λ lt. locked (omega arith)) (λ e. e) (set_on F lock bs at s (us ++ vs) w)
