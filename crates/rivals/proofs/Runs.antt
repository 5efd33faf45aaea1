-- Tiles before a border, in a gap and behind it, under other bytes.
use Rattle.std.proofs.Common.{◌≡◌, ℕ, zero, ◌+◌, ◌-◌, ◌<◌, ◌≤◌, Bool, true, false, not, ◌&&◌, ltb, leb, List, [], ◌∷◌, ◌++◌, length, take, drop, sym, refl, ap, ◌∙◌, subst, inl, inr, ⊎_elim, arith, length-drop}
use Rattle.std.proofs.lemmas.List.{drop-drop, drop-take, take-take, drop-append-le, take-append-le}
use Rattle.std.proofs.lemmas.Bool.{cases_Bool, both_ways, cond-false, lt-leb, and_left}
use Rattle.sets.specs.Sets.{Tile, filler, holds}
use Rattle.sets.specs.Parsing.{tile}
use Rattle.sets.specs.Scans.{behind}
use Rattle.sets.specs.Readings.{Entry}
use Rattle.rivals.specs.Rooms.{part}
use Rattle.rivals.proofs.Format.{Format, shown, width, Along, Border, shut, Covered, listed, after_sets, opens}
use Rattle.rivals.proofs.Walks.{sealed-each, covered_from}

-- tiles that fill some bytes from an address on to the last one
abbrev pub Fills : Format → List ℕ → ℕ → List Tile → Type 0
Fills F ns at [] = at ≡ length ns
Fills F ns at (t ∷ ts) = (F.parse (drop at ns) ≡ tile t) × Fills F ns (at + width F t) ts

-- what tiles say in open blocks
abbrev pub opened : Format → List Tile → List Entry
opened F [] = []
opened F (filler ∷ ts) = opened F ts
opened F (holds s ∷ ts) = shown F s false ∷ opened F ts

abbrev pub spread : Format → List Tile → ℕ
spread F [] = 0
spread F (t ∷ ts) = width F t + spread F ts

-- the tiles up to a border
pub cut : (F : Format) (b : ℕ) (ts : List Tile) (at : ℕ) → Border F at ts b → (us : List Tile) × (vs : List Tile) × (ts ≡ us ++ vs) × (at + spread F us ≡ b)
cut F b [] at e = ([], [], refl, omega arith)
cut F b (t ∷ ts) at e =
    ⊎_elim (λ (k : at ≡ b). ([], t ∷ ts, refl, omega arith)) (λ (k : Border F (at + width F t) ts b).
    let c = cut F b ts (at + width F t) k in
    let sum : at + width F t + spread F c.0 ≡ b = c.3 in
    (t ∷ c.0, c.1, ap (λ x. t ∷ x) c.2, omega arith))
    e

-- a window in a common front
window : (bs bs' : List ℕ) (g at n : ℕ) → take g bs ≡ take g bs' → at + n ≤ g → take n (drop at bs) ≡ take n (drop at bs')
window bs bs' g at n e h =
    sym (drop-take at n bs) ∙ ap (drop at) (sym (take-take (at + n) g bs h) ∙ ap (take (at + n)) e ∙ take-take (at + n) g bs' h) ∙ drop-take at n bs'

module _ (F : Format) where
  -- a tile is read again where its bytes stand again
  again : (l k : List ℕ) (t : Tile) → F.parse l ≡ tile t → take (width F t) l ≡ take (width F t) k → F.parse k ≡ tile t
  again l k filler p e = F.own_filler l k p e
  again l k (holds s) p e = F.own l k s p e

  -- a tile takes no more bytes than there are
  inside : (l : List ℕ) (t : Tile) → F.parse l ≡ tile t → width F t ≤ length l
  inside l filler p = F.one l p
  inside l (holds s) p = F.within l s p

  -- with a common front, other tiles behind
  pub front_kept : (bs bs' : List ℕ) (g : ℕ) (vs vs' : List Tile) → take g bs ≡ take g bs' → Along F bs' g vs' → (us : List Tile) (at : ℕ) → at + spread F us ≡ g → Along F bs at (us ++ vs) → Along F bs' at (us ++ vs')
  front_kept bs bs' g vs vs' e new [] at sum t = let p : g ≡ at = omega arith in subst (λ x. Along F bs' x vs') p new
  front_kept bs bs' g vs vs' e new (u ∷ us) at sum t =
      (again (drop at bs) (drop at bs') u t.0 (window bs bs' g at (width F u) e (omega arith)), front_kept bs bs' g vs vs' e new us (at + width F u) (omega arith) t.1)

  -- the tiles behind
  pub tiled-behind : (bs : List ℕ) (b : ℕ) (vs : List Tile) (us : List Tile) (at : ℕ) → at + spread F us ≡ b → Along F bs at (us ++ vs) → Along F bs b vs
  tiled-behind bs b vs [] at sum t = let p : at ≡ b = omega arith in subst (λ x. Along F bs x vs) p t
  tiled-behind bs b vs (u ∷ us) at sum t = tiled-behind bs b vs us (at + width F u) (omega arith) t.1

  -- the same bytes from an address on
  pub tiled-back : (bs bs' : List ℕ) (h : ℕ) → drop h bs ≡ drop h bs' → (ts : List Tile) (at : ℕ) → h ≤ at → Along F bs at ts → Along F bs' at ts
  tiled-back bs bs' h e ts at le t =
      go ts at le t
    where
      same : (at : ℕ) → h ≤ at → drop at bs ≡ drop at bs'
      same at le =
          let p : h + (at - h) ≡ at = omega arith in
          ap (λ x. drop x bs) (sym p) ∙ sym (drop-drop (at - h) h bs) ∙ ap (drop (at - h)) e ∙ drop-drop (at - h) h bs' ∙ ap (λ x. drop x bs') p

      go : (ts : List Tile) (at : ℕ) → h ≤ at → Along F bs at ts → Along F bs' at ts
      go [] at le t = ap F.parse (sym (same at le)) ∙ t
      go (u ∷ us) at le t = (ap F.parse (sym (same at le)) ∙ t.0, go us (at + width F u) (omega arith) t.1)

  -- tiles that fill some bytes, where these stand with others behind
  pub filled : (bs ns back : List ℕ) (g h : ℕ) (ws : List Tile) → drop g bs ≡ ns ++ back → g + length ns ≡ h → Along F bs h ws → (gs : List Tile) (at : ℕ) → at ≤ length ns → Fills F ns at gs → Along F bs (g + at) (gs ++ ws)
  filled bs ns back g h ws e sum behind [] at le f = let p : h ≡ g + at = omega arith in subst (λ x. Along F bs x ws) p behind
  filled bs ns back g h ws e sum behind (t ∷ gs) at le f =
      let few : width F t ≤ length (drop at ns) = inside (drop at ns) t f.0 in
      let here : drop (g + at) bs ≡ drop at ns ++ back = sym (drop-drop at g bs) ∙ ap (drop at) e ∙ drop-append-le at ns back le in
      let next : g + (at + width F t) ≡ g + at + width F t = omega arith in
      (again (drop at ns) (drop (g + at) bs) t f.0 (sym (ap (take (width F t)) here ∙ take-append-le (width F t) (drop at ns) back few)), subst (λ x. Along F bs x (gs ++ ws)) next (filled bs ns back g h ws e sum behind gs (at + width F t) (omega (arith, length-drop at ns)) f.1))

  -- any tiling of the last bytes
  pub shifted : (bs ns : List ℕ) (g : ℕ) → drop g bs ≡ ns → (gs : List Tile) (at : ℕ) → Along F ns at gs → Along F bs (g + at) gs
  shifted bs ns g e [] at t = ap F.parse (sym (drop-drop at g bs) ∙ ap (drop at) e) ∙ t
  shifted bs ns g e (u ∷ gs) at t =
      let next : g + (at + width F u) ≡ g + at + width F u = omega arith in
      (ap F.parse (sym (drop-drop at g bs) ∙ ap (drop at) e) ∙ t.0, subst (λ x. Along F bs x gs) next (shifted bs ns g e gs (at + width F u) t.1))

module _ (F : Format) (lock : ℕ → Bool) where
  pub listed-append : (b : ℕ) (vs : List Tile) (us : List Tile) (at : ℕ) → at + spread F us ≡ b → listed F lock at (us ++ vs) ≡ listed F lock at us ++ listed F lock b vs
  listed-append b vs [] at sum = let p : at ≡ b = omega arith in ap (λ x. listed F lock x vs) p
  listed-append b vs (filler ∷ us) at sum = listed-append b vs us (at + 1) (omega arith)
  listed-append b vs (holds s ∷ us) at sum =
      ap (λ l. shown F s (shut lock at (F.bytes s)) ∷ l) (listed-append b vs us (at + F.bytes s) (omega arith))

  -- tiles on open bytes show entries that are not sealed
  pub listed_open : (bs : List ℕ) (b : ℕ) (ws : List Tile) (gs : List Tile) (at : ℕ) → at + spread F gs ≤ b → ((i : ℕ) → at ≤ i → i < b → lock i ≡ false) → Along F bs at (gs ++ ws) → listed F lock at gs ≡ opened F gs
  listed_open bs b ws [] at sum op t = refl
  listed_open bs b ws (filler ∷ gs) at sum op t = listed_open bs b ws gs (at + 1) (omega arith) (λ i x y. op i (omega arith) y) t.1
  listed_open bs b ws (holds s ∷ gs) at sum op t =
      let some : 0 < F.bytes s = F.some (drop at bs) s t.0 in
      let f : shut lock at (F.bytes s) ≡ false = ⊎_elim (λ (k : shut lock at (F.bytes s) ≡ true). absurd (both_ways (lock at) (op at (omega arith) (omega arith)) (sealed-each lock at (F.bytes s) k at (omega arith) (omega arith)))) (λ (k : shut lock at (F.bytes s) ≡ false). k) (cases_Bool (shut lock at (F.bytes s))) in
      λ i. shown F s (f i) ∷ listed_open bs b ws gs (at + F.bytes s) (omega arith) (λ j x y. op j (omega arith) y) t.1 i

  -- sets before the gap are not in it
  pub opens-behind : (bs : List ℕ) (g h : ℕ) (vs : List Tile) (us : List Tile) (at : ℕ) → at + spread F us ≡ g → Along F bs at (us ++ vs) → opens F lock g h at (us ++ vs) ≡ opens F lock g h g vs
  opens-behind bs g h vs [] at sum t = let p : at ≡ g = omega arith in ap (λ x. opens F lock g h x vs) p
  opens-behind bs g h vs (filler ∷ us) at sum t = opens-behind bs g h vs us (at + 1) (omega arith) t.1
  opens-behind bs g h vs (holds s ∷ us) at sum t =
      let some : 0 < F.bytes s = F.some (drop at bs) s t.0 in
      let more : List Entry = opens F lock g h (at + F.bytes s) (us ++ vs) in
      cond-false (leb g at && (ltb at h && not (shut lock at (F.bytes s)))) (shown F s (shut lock at (F.bytes s)) ∷ more) more (and_left (leb g at) (ltb at h && not (shut lock at (F.bytes s))) (lt-leb g at (omega arith))) ∙ opens-behind bs g h vs us (at + F.bytes s) (omega arith) t.1

  -- a byte before the border stays covered, one behind it is covered behind
  pub covered_swap : (b : ℕ) (vs vs' : List Tile) (i : ℕ) → i < b → (us : List Tile) (at : ℕ) → at + spread F us ≡ b → Covered F lock at (us ++ vs) i → Covered F lock at (us ++ vs') i
  covered_swap b vs vs' i h [] at sum c = absurd (omega (arith, covered_from F lock at vs i c))
  covered_swap b vs vs' i h (filler ∷ us) at sum c = covered_swap b vs vs' i h us (at + 1) (omega arith) c
  covered_swap b vs vs' i h (holds s ∷ us) at sum c =
      ⊎_elim (λ (k : (at ≤ i) × (i < at + F.bytes s) × (shut lock at (F.bytes s) ≡ true)). inl k) (λ (k : Covered F lock (at + F.bytes s) (us ++ vs) i). inr (covered_swap b vs vs' i h us (at + F.bytes s) (omega arith) k)) c

  pub covered_behind : (b : ℕ) (vs : List Tile) (i : ℕ) → b ≤ i → (us : List Tile) (at : ℕ) → at + spread F us ≡ b → Covered F lock at (us ++ vs) i → Covered F lock b vs i
  covered_behind b vs i h [] at sum c = let p : at ≡ b = omega arith in subst (λ x. Covered F lock x vs i) p c
  covered_behind b vs i h (filler ∷ us) at sum c = covered_behind b vs i h us (at + 1) (omega arith) c
  covered_behind b vs i h (holds s ∷ us) at sum c =
      ⊎_elim (λ (k : (at ≤ i) × (i < at + F.bytes s) × (shut lock at (F.bytes s) ≡ true)). absurd (omega arith)) (λ (k : Covered F lock (at + F.bytes s) (us ++ vs) i). covered_behind b vs i h us (at + F.bytes s) (omega arith) k) c

  pub covered_after : (b : ℕ) (vs : List Tile) (i : ℕ) (us : List Tile) (at : ℕ) → at + spread F us ≡ b → Covered F lock b vs i → Covered F lock at (us ++ vs) i
  covered_after b vs i [] at sum c = let p : b ≡ at = omega arith in subst (λ x. Covered F lock x vs i) p c
  covered_after b vs i (filler ∷ us) at sum c = covered_after b vs i us (at + 1) (omega arith) c
  covered_after b vs i (holds s ∷ us) at sum c = inr (covered_after b vs i us (at + F.bytes s) (omega arith) c)

pub part_open : (F : Format) (ts : List Tile) (l : List Entry) → part zero (opened F ts ++ l) ≡ opened F ts ++ part zero l
part_open F [] l = refl
part_open F (filler ∷ ts) l = part_open F ts l
part_open F (holds s ∷ ts) l = ap (λ x. shown F s false ∷ x) (part_open F ts l)

pub after-append : (F : Format) (b : ℕ) (vs : List Tile) (us : List Tile) (at used : ℕ) → at + spread F us ≡ b → after_sets F used at (us ++ vs) ≡ after_sets F (after_sets F used at us) b vs
after-append F b vs [] at used sum = let p : at ≡ b = omega arith in ap (λ x. after_sets F used x vs) p
after-append F b vs (filler ∷ us) at used sum = after-append F b vs us (at + 1) used (omega arith)
after-append F b vs (holds s ∷ us) at used sum = after-append F b vs us (at + F.bytes s) (at + F.bytes s) (omega arith)
