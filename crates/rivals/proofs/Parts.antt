-- The open sets of a gap are a part of the list, and take their room.
use Rattle.std.proofs.Common.{◌≡◌, ℕ, zero, suc, ◌+◌, ◌-◌, ◌<◌, ◌≤◌, Bool, true, false, cond, not, ◌&&◌, ltb, leb, ◌⊎◌, List, [], ◌∷◌, length, sym, refl, ap, ◌∙◌, subst, ⊎_elim, arith}
use Rattle.std.proofs.lemmas.Bool.{cases_Bool, both_ways, cases_lt, cases_eq, cond-true, cond-false, lt-ltb, le-ltb, lt-leb, le-leb, and_left, and_right, and_from, not_from_false}
use Rattle.sets.specs.Sets.{Set, Tile, filler, holds}
use Rattle.sets.specs.Scans.{Found}
use Rattle.sets.specs.Readings.{Entry}
use Rattle.rivals.specs.Memories.{below}
use Rattle.rivals.specs.Rooms.{total, part, seal_count}
use Rattle.rivals.proofs.Format.{Format, shown, shut, listed, sealed_sets, after_sets, opens, Whole}
use Rattle.rivals.proofs.Walks.{sealed-each, Walk, walk_end, filler_on, filler_open, filler_in, set_on, set_open, set-some, set_in, set-floor}

part_skip : (k : ℕ) (x : Entry) (l : List Entry) → x.sealed ≡ false → 0 < k → part k (x ∷ l) ≡ part k l
part_skip zero x l f h = absurd (omega arith)
part_skip (suc k) x l f h = cond-false x.sealed (part k l) (part (suc k) l) f

module _ (F : Format) (lock : ℕ → Bool) (bs : List ℕ) (g : ℕ) where
  pub below_none : (ts : List Tile) (at : ℕ) → g ≤ at → below g (sealed_sets F lock at ts) ≡ 0
  below_none [] at h = refl
  below_none (filler ∷ ts) at h = below_none ts (at + 1) (omega arith)
  below_none (holds s ∷ ts) at h =
      let more : List Found = sealed_sets F lock (at + F.bytes s) ts in
      let rest : below g more ≡ 0 = below_none ts (at + F.bytes s) (omega arith) in
      ⊎_elim (λ (t : shut lock at (F.bytes s) ≡ true). ap (below g) (cond-true (shut lock at (F.bytes s)) (record { at = at; set = s } ∷ more) more t) ∙ cond-false (ltb at g) (suc (below g more)) (below g more) (le-ltb at g h) ∙ rest) (λ (f : shut lock at (F.bytes s) ≡ false). ap (below g) (cond-false (shut lock at (F.bytes s)) (record { at = at; set = s } ∷ more) more f) ∙ rest) (cases_Bool (shut lock at (F.bytes s)))

  -- where the gap begins, a tile begins, and what is before it shows in the list up to a sealed entry
  pub record Reached (h at used : ℕ) (ts : List Tile) : Type 0 where
    pub rest : List Tile
    pub walk : Walk F lock bs g rest
    pub parts : part (below g (sealed_sets F lock at ts)) (listed F lock at ts) ≡ part zero (listed F lock g rest)
    pub some : at < g → 0 < below g (sealed_sets F lock at ts)
    pub useds : after_sets F used at ts ≡ after_sets F g g rest
    pub opened : opens F lock g h at ts ≡ opens F lock g h g rest
    pub alone : (b : ℕ) (name : List ℕ) → Whole F b name at ts → Whole F b name g rest

  reached_here : (h at used : ℕ) (ts : List Tile) → at ≡ g → used ≡ g → Walk F lock bs at ts → Reached h at used ts
  reached_here h at used ts p q w = record {
    rest = ts;
    walk = subst (λ x. Walk F lock bs x ts) p w;
    parts = ap (λ k. part k (listed F lock at ts)) (below_none ts at (omega arith)) ∙ ap (λ x. part zero (listed F lock x ts)) p;
    some = λ lt. absurd (omega arith);
    useds = λ i. after_sets F (q i) (p i) ts;
    opened = ap (λ x. opens F lock g h x ts) p;
    alone = λ b name a. subst (λ x. Whole F b name x ts) p a;
  }

  not_yet : (h at : ℕ) (s : Set) (more : List Entry) → at < g → cond (leb g at && (ltb at h && not (shut lock at (F.bytes s)))) (shown F s (shut lock at (F.bytes s)) ∷ more) more ≡ more
  not_yet h at s more lt =
      cond-false (leb g at && (ltb at h && not (shut lock at (F.bytes s)))) (shown F s (shut lock at (F.bytes s)) ∷ more) more (and_left (leb g at) (ltb at h && not (shut lock at (F.bytes s))) (lt-leb g at lt))

  pub reach : (h : ℕ) (ts : List Tile) (at used : ℕ) → at ≤ g → lock g ≡ false → (at < g → lock (g - 1) ≡ true) → (at ≡ g → used ≡ g) → Walk F lock bs at ts → Reached h at used ts
  reach h [] at used le op locked here w =
      ⊎_elim (λ (e : at ≡ g). reached_here h at used [] e (here e) w) (λ (ne : at ≡ g → ⊥). absurd (both_ways (lock (g - 1)) (walk_end F lock bs at w (g - 1) (omega arith)) (locked (omega arith)))) (cases_eq at g)
  reach h (filler ∷ ts) at used le op locked here w =
      ⊎_elim (λ (e : at ≡ g). reached_here h at used (filler ∷ ts) e (here e) w) (λ (ne : at ≡ g → ⊥).
      let yet : at + 1 < g = ⊎_elim (λ (lt : at + 1 < g). lt) (λ (ge : g ≤ at + 1). absurd (both_ways (lock (g - 1)) (filler_open F lock bs at ts w (g - 1) (omega arith) (omega arith)) (locked (omega arith)))) (cases_lt (at + 1) g) in
      let r : Reached h (at + 1) used ts = reach h ts (at + 1) used (omega arith) op (λ lt. locked (omega arith)) (λ e. absurd (omega arith)) (filler_on F lock bs at ts w) in
      record { rest = r.rest; walk = r.walk; parts = r.parts; some = λ lt. r.some yet; useds = r.useds; opened = r.opened; alone = r.alone })
      (cases_eq at g)
  reach h (holds s ∷ ts) at used le op locked here w =
      let n : ℕ = F.bytes s in
      let more : List Found = sealed_sets F lock (at + n) ts in
      let P : Found = record { at = at; set = s } in
      ⊎_elim (λ (e : at ≡ g). reached_here h at used (holds s ∷ ts) e (here e) w) (λ (ne : at ≡ g → ⊥).
      let lt : at < g = omega arith in
      ⊎_elim (λ (t : shut lock at n ≡ true).
      let yet : at + n ≤ g = ⊎_elim (λ (in' : g < at + n). absurd (both_ways (lock g) op (sealed-each lock at n t g le in'))) (λ (ge : at + n ≤ g). ge) (cases_lt g (at + n)) in
      let r : Reached h (at + n) (at + n) ts = reach h ts (at + n) (at + n) yet op (λ k. locked lt) (λ e. e) (set_on F lock bs at s ts w) in
      let one : below g (cond (shut lock at n) (P ∷ more) more) ≡ suc (below g more) = ap (below g) (cond-true (shut lock at n) (P ∷ more) more t) ∙ cond-true (ltb at g) (suc (below g more)) (below g more) (lt-ltb at g lt) in
      record {
        rest = r.rest;
        walk = r.walk;
        parts = ap (λ k. part k (shown F s (shut lock at n) ∷ listed F lock (at + n) ts)) one ∙ cond-true (shut lock at n) (part (below g more) (listed F lock (at + n) ts)) (part (suc (below g more)) (listed F lock (at + n) ts)) t ∙ r.parts;
        some = λ k. omega (arith, one);
        useds = r.useds;
        opened = not_yet h at s (opens F lock g h (at + n) ts) lt ∙ r.opened;
        alone = λ b name a. r.alone b name a.1;
      })
      (λ (f : shut lock at n ≡ false).
      let yet : at + n < g = ⊎_elim (λ (k : at + n < g). k) (λ (ge : g ≤ at + n). absurd (both_ways (lock (g - 1)) (set_open F lock bs at s ts w f (g - 1) (omega arith) (omega arith)) (locked lt))) (cases_lt (at + n) g) in
      let r : Reached h (at + n) (at + n) ts = reach h ts (at + n) (at + n) (omega arith) op (λ k. locked lt) (λ e. e) (set_on F lock bs at s ts w) in
      let none : below g (cond (shut lock at n) (P ∷ more) more) ≡ below g more = ap (below g) (cond-false (shut lock at n) (P ∷ more) more f) in
      record {
        rest = r.rest;
        walk = r.walk;
        parts = ap (λ k. part k (shown F s (shut lock at n) ∷ listed F lock (at + n) ts)) none ∙ part_skip (below g more) (shown F s (shut lock at n)) (listed F lock (at + n) ts) f (r.some yet) ∙ r.parts;
        some = λ k. omega (arith, none, r.some yet);
        useds = r.useds;
        opened = not_yet h at s (opens F lock g h (at + n) ts) lt ∙ r.opened;
        alone = λ b name a. r.alone b name a.1;
      })
      (cases_Bool (shut lock at n)))
      (cases_eq at g)

module _ (F : Format) (lock : ℕ → Bool) (bs : List ℕ) (h : ℕ) (stop : (h ≡ length bs) ⊎ (lock h ≡ true)) where
  -- a stretch of open bytes inside the memory that begins at or below h ends there
  ends_by : (at e : ℕ) → at ≤ h → at < e → e ≤ length bs → ((i : ℕ) → at ≤ i → i < e → lock i ≡ false) → e ≤ h
  ends_by at e le some in' op =
      ⊎_elim (λ (lt : h < e). absurd (⊎_elim (λ (p : h ≡ length bs). omega arith) (λ (t : lock h ≡ true). both_ways (lock h) (op h le lt) t) stop)) (λ (ge : e ≤ h). ge) (cases_lt h e)

  pub filler_by : (at : ℕ) (ts : List Tile) → at ≤ h → Walk F lock bs at (filler ∷ ts) → at + 1 ≤ h
  filler_by at ts le w = ends_by at (at + 1) le (omega arith) (omega (arith, filler_in F lock bs at ts w)) (filler_open F lock bs at ts w)

  pub set_by : (at : ℕ) (s : Set) (ts : List Tile) → at ≤ h → Walk F lock bs at (holds s ∷ ts) → shut lock at (F.bytes s) ≡ false → at + F.bytes s ≤ h
  set_by at s ts le w f = ends_by at (at + F.bytes s) le (omega (arith, set-some F lock bs at s ts w)) (set_in F lock bs at s ts w) (set_open F lock bs at s ts w f)

  -- the open sets up to h take at least the bytes of their smallest forms
  pub fits : (ts : List Tile) (at : ℕ) → at ≤ h → Walk F lock bs at ts → at + total (part zero (listed F lock at ts)) ≤ h
  fits [] at le w = omega arith
  fits (filler ∷ ts) at le w = omega (arith, fits ts (at + 1) (filler_by at ts le w) (filler_on F lock bs at ts w))
  fits (holds s ∷ ts) at le w =
      let n : ℕ = F.bytes s in
      let rest : List Entry = part zero (listed F lock (at + n) ts) in
      ⊎_elim (λ (t : shut lock at n ≡ true). omega (arith, ap total (cond-true (shut lock at n) [] (shown F s (shut lock at (F.bytes s)) ∷ rest) t))) (λ (f : shut lock at n ≡ false). omega (arith, ap total (cond-false (shut lock at n) [] (shown F s (shut lock at (F.bytes s)) ∷ rest) f), fits ts (at + n) (set_by at s ts le w f) (set_on F lock bs at s ts w), set-floor F lock bs at s ts (shut lock at (F.bytes s)) w)) (cases_Bool (shut lock at n))

  pub beyond : (g : ℕ) (ts : List Tile) (at : ℕ) → h ≤ at → opens F lock g h at ts ≡ []
  beyond g [] at le = refl
  beyond g (filler ∷ ts) at le = beyond g ts (at + 1) (omega arith)
  beyond g (holds s ∷ ts) at le =
      let more : List Entry = opens F lock g h (at + F.bytes s) ts in
      cond-false (leb g at && (ltb at h && not (shut lock at (F.bytes s)))) (shown F s (shut lock at (F.bytes s)) ∷ more) more (and_right (leb g at) (ltb at h && not (shut lock at (F.bytes s))) (and_left (ltb at h) (not (shut lock at (F.bytes s))) (le-ltb at h le))) ∙ beyond g ts (at + F.bytes s) (omega arith)

  -- the open sets of the gap are those up to the next sealed entry
  pub opens-are : (g : ℕ) (ts : List Tile) (at : ℕ) → g ≤ at → at ≤ h → ((i : ℕ) → at ≤ i → i < h → lock i ≡ false) → Walk F lock bs at ts → opens F lock g h at ts ≡ part zero (listed F lock at ts)
  opens-are g [] at from le op w = refl
  opens-are g (filler ∷ ts) at from le op w = opens-are g ts (at + 1) (omega arith) (filler_by at ts le w) (λ i a b. op i (omega arith) b) (filler_on F lock bs at ts w)
  opens-are g (holds s ∷ ts) at from le op w =
      let n : ℕ = F.bytes s in
      let b : Bool = leb g at && (ltb at h && not (shut lock at (F.bytes s))) in
      let more : List Entry = opens F lock g h (at + n) ts in
      let rest : List Entry = part zero (listed F lock (at + n) ts) in
      ⊎_elim (λ (t : shut lock at n ≡ true).
      let out : h ≤ at = ⊎_elim (λ (lt : at < h). absurd (both_ways (lock at) (op at (omega arith) lt) (sealed-each lock at n t at (omega arith) (omega (arith, set-some F lock bs at s ts w))))) (λ (ge : h ≤ at). ge) (cases_lt at h) in
      beyond g (holds s ∷ ts) at out ∙ sym (cond-true (shut lock at n) [] (shown F s (shut lock at (F.bytes s)) ∷ rest) t))
      (λ (f : shut lock at n ≡ false).
      let end : at + n ≤ h = set_by at s ts le w f in
      let yes' : b ≡ true = and_from (leb g at) (ltb at h && not (shut lock at (F.bytes s))) (le-leb g at from) (and_from (ltb at h) (not (shut lock at n)) (lt-ltb at h (omega (arith, set-some F lock bs at s ts w))) (not_from_false (shut lock at n) f)) in
      cond-true b (shown F s (shut lock at (F.bytes s)) ∷ more) more yes' ∙ ap (λ l. shown F s (shut lock at (F.bytes s)) ∷ l) (opens-are g ts (at + n) (omega arith) end (λ i a c. op i (omega arith) c) (set_on F lock bs at s ts w)) ∙ sym (cond-false (shut lock at n) [] (shown F s (shut lock at (F.bytes s)) ∷ rest) f))
      (cases_Bool (shut lock at n))

-- the gap that runs to the end
module _ (F : Format) (lock : ℕ → Bool) (bs : List ℕ) (g : ℕ) (op : (i : ℕ) → g ≤ i → lock i ≡ false) where
  pub last-used : (ts : List Tile) (at used : ℕ) → g ≤ at → used ≤ at → Walk F lock bs at ts → used + total (part zero (listed F lock at ts)) ≤ after_sets F used at ts
  last-used [] at used from le w = omega arith
  last-used (filler ∷ ts) at used from le w = last-used ts (at + 1) used (omega arith) (omega arith) (filler_on F lock bs at ts w)
  last-used (holds s ∷ ts) at used from le w =
      let n : ℕ = F.bytes s in
      let rest : List Entry = part zero (listed F lock (at + n) ts) in
      ⊎_elim (λ (t : shut lock at n ≡ true). absurd (both_ways (lock at) (op at from) (sealed-each lock at n t at (omega arith) (omega (arith, set-some F lock bs at s ts w))))) (λ (f : shut lock at n ≡ false). omega (arith, ap total (cond-false (shut lock at n) [] (shown F s (shut lock at (F.bytes s)) ∷ rest) f), last-used ts (at + n) (at + n) (omega arith) (omega arith) (set_on F lock bs at s ts w), set-floor F lock bs at s ts (shut lock at (F.bytes s)) w)) (cases_Bool (shut lock at n))

  -- every sealed set stands before it
  pub last-count : (ts : List Tile) (at : ℕ) → Walk F lock bs at ts → below g (sealed_sets F lock at ts) ≡ seal_count (listed F lock at ts)
  last-count [] at w = refl
  last-count (filler ∷ ts) at w = last-count ts (at + 1) (filler_on F lock bs at ts w)
  last-count (holds s ∷ ts) at w =
      let n : ℕ = F.bytes s in
      let more : List Found = sealed_sets F lock (at + n) ts in
      let P : Found = record { at = at; set = s } in
      let c : ℕ = seal_count (listed F lock (at + n) ts) in
      let rest : below g more ≡ c = last-count ts (at + n) (set_on F lock bs at s ts w) in
      ⊎_elim (λ (t : shut lock at n ≡ true).
      let lt : at < g = ⊎_elim (λ (k : at < g). k) (λ (ge : g ≤ at). absurd (both_ways (lock at) (op at ge) (sealed-each lock at n t at (omega arith) (omega (arith, set-some F lock bs at s ts w))))) (cases_lt at g) in
      ap (below g) (cond-true (shut lock at n) (P ∷ more) more t) ∙ cond-true (ltb at g) (suc (below g more)) (below g more) (lt-ltb at g lt) ∙ ap suc rest ∙ sym (cond-true (shut lock at n) (suc c) c t))
      (λ (f : shut lock at n ≡ false). ap (below g) (cond-false (shut lock at n) (P ∷ more) more f) ∙ rest ∙ sym (cond-false (shut lock at n) (suc c) c f))
      (cases_Bool (shut lock at n))
