-- From what a memory reads as to its tiles, and back.
use Rattle.std.proofs.Common.{◌≡◌, ℕ, ◌+◌, ◌*◌, ◌/◌, ◌%◌, ◌<◌, ◌≤◌, Bool, true, false, cond, not, ◌&&◌, ltb, leb, List, [], ◌∷◌, ◌++◌, map, length, drop, Some, None, Ok, filter, Option, sym, refl, ap, ◌∙◌, subst, inl, inr, ⊎_elim, append_assoc, arith, length-append, length-drop}
use Rattle.std.specs.Option.{option_map}
use Rattle.std.specs.List.{AllByRecursion}
use Rattle.std.proofs.lemmas.List.{drop_at, drop-drop}
use Rattle.std.proofs.lemmas.Bool.{cases_Bool, both_ways, cases_lt, lt-ltb, le-leb, leb-true, ltb-true, and_left, and_right, and_from, and_parts, not_from_false, not_from_true, or_cases, or_left, or_right}
use Rattle.sets.specs.Sets.{Tile, filler, holds, size, wide}
use Rattle.sets.specs.Parsing.{tile}
use Rattle.sets.specs.Scans.{next, Refusal, clean, scan, Found, placed, used_from}
use Rattle.sets.specs.Tilings.{Tiled, Ended, Halts}
use Rattle.sets.specs.Objects.{unpacked}
use Rattle.sets.specs.Readings.{Memory, Reading, lowest, any, found, locked_at, sealed, byte_of, stray, stray_block, identified, repeat, entry, judged, reads}
use Rattle.sets.proofs.Searching.{lowest_cases, lowest-none, true-false, Lowest}
use Rattle.sets.proofs.Tilings.{scan-tiles, tiles-scan, next-front, next-end, ends}
use Rattle.rivals.specs.Memories.{Shaped, opens_in}
use Rattle.rivals.proofs.Format.{Along, shut, Covered, Clean, listed, sealed_sets, after_sets, opens, Whole, Laid}
use Rattle.rivals.proofs.Blocks.{past_end}
use Rattle.rivals.proofs.Meets.{sets_format}
use Rattle.rivals.proofs.Runs.{spread, Fills}

-- what a reading without fault says
pub record Faultless (m : Memory) (r : Reading) : Type 0 where
  pub scanned : (scan unpacked m.bytes).fault ≡ None
  pub unstray : stray_block m (found m.bytes) ≡ None
  pub once : repeat (found m.bytes) ≡ None
  pub list : map (entry m) (found m.bytes) ≡ r.entries

judged-ok : (m : Memory) (r : Reading) (f : Option Refusal) (b a : Option ℕ) → (scan unpacked m.bytes).fault ≡ f → stray_block m (found m.bytes) ≡ b → repeat (found m.bytes) ≡ a
    → judged f b a (record { entries = map (entry m) (found m.bytes) }) ≡ Ok r → Faultless m r
judged-ok m r (Some f) b a hf hb ha e = let z : ◌≡◌ {A = ℕ} 0 1 = cc in absurd (omega arith)
judged-ok m r None (Some k) a hf hb ha e = let z : ◌≡◌ {A = ℕ} 0 1 = cc in absurd (omega arith)
judged-ok m r None None (Some at) hf hb ha e = let z : ◌≡◌ {A = ℕ} 0 1 = cc in absurd (omega arith)
judged-ok m r None None None hf hb ha e =
    let R : Reading = record { entries = map (entry m) (found m.bytes) } in
    let is : R ≡ r = cc in
    record { scanned = hf; unstray = hb; once = ha; list = ap (λ x. x.entries) is }

pub faultless : (m : Memory) (r : Reading) → reads m ≡ Ok r → Faultless m r
unfolding reads
faultless m r e = judged-ok m r (scan unpacked m.bytes).fault (stray_block m (found m.bytes)) (repeat (found m.bytes)) refl refl refl e

pub reads_ok : (m : Memory) (r : Reading) → Faultless m r → reads m ≡ Ok r
unfolding reads
reads_ok m r f =
    (λ i. judged (f.scanned i) (f.unstray i) (f.once i) (record { entries = map (entry m) (found m.bytes) })) ∙ ap (λ l. Ok (record { entries = l })) f.list

-- tiles end to end are tiles from an address on
pub along : (xs : List ℕ) (ts : List Tile) (at : ℕ) (bs rest : List ℕ) → Tiled unpacked ts bs → drop at xs ≡ bs ++ rest → Ended rest → Along sets_format xs at ts
unfolding Tiled
along xs [] at bs rest c h d = ap (next unpacked) (h ∙ ap (λ l. l ++ rest) c) ∙ ends unpacked rest d
along xs (filler ∷ ts) at bs rest c h d =
    let split = h ∙ ap (λ l. l ++ rest) c.2 ∙ append_assoc c.0 c.1 rest in
    (ap (next unpacked) split ∙ c.3.alone (c.1 ++ rest), along xs ts (at + 1) c.1 rest c.4 (sym (drop-drop 1 at xs) ∙ ap (drop 1) split ∙ drop_at c.0 (c.1 ++ rest) 1 c.3.all) d)
along xs (holds s ∷ ts) at bs rest c h d =
    let split = h ∙ ap (λ l. l ++ rest) c.2 ∙ append_assoc c.0 c.1 rest in
    (ap (next unpacked) split ∙ c.3.alone (c.1 ++ rest), along xs ts (at + size s) c.1 rest c.4 (sym (drop-drop (size s) at xs) ∙ ap (drop (size s)) split ∙ drop_at c.0 (c.1 ++ rest) (size s) c.3.all) d)

-- and back
abbrev Split : List ℕ → List Tile → Type 0
Split xs ts = (bs : List ℕ) × (rest : List ℕ) × (xs ≡ bs ++ rest) × Tiled unpacked ts bs × Ended rest

one_more : (xs : List ℕ) (t : Tile) (ts : List Tile) → next unpacked xs ≡ tile t → Split (drop (wide t) xs) ts → Split xs (t ∷ ts)
unfolding Tiled
one_more xs t ts e r =
    let f = next-front unpacked xs t e in
    let behind : drop (wide t) xs ≡ f.1 = ap (drop (wide t)) f.2 ∙ drop_at f.0 f.1 (wide t) f.3.all in
    (f.0 ++ r.0, r.1, f.2 ∙ ap (λ l. f.0 ++ l) (sym behind ∙ r.2) ∙ sym (append_assoc f.0 r.0 r.1), (f.0, r.0, refl, f.3, r.3), r.4)

split : (xs : List ℕ) (ts : List Tile) (at : ℕ) → Along sets_format xs at ts → Split (drop at xs) ts
unfolding Tiled
split xs [] at a = ([], drop at xs, refl, refl, next-end unpacked (drop at xs) a)
split xs (filler ∷ ts) at a = one_more (drop at xs) filler ts a.0 (subst (λ l. Split l ts) (sym (drop-drop 1 at xs)) (split xs ts (at + 1) a.1))
split xs (holds s ∷ ts) at a = one_more (drop at xs) (holds s) ts a.0 (subst (λ l. Split l ts) (sym (drop-drop (size s) at xs)) (split xs ts (at + size s) a.1))

pub scan_of : (xs : List ℕ) (ts : List Tile) → Along sets_format xs 0 ts → scan unpacked xs ≡ clean ts
scan_of xs ts a =
    let s = split xs ts 0 a in
    ap (scan unpacked) s.2 ∙ tiles-scan unpacked ts s.0 s.1 None s.3 s.4

pub fills : (ns : List ℕ) (ts : List Tile) (at : ℕ) (bs : List ℕ) → Tiled unpacked ts bs → drop at ns ≡ bs → at ≤ length ns → Fills sets_format ns at ts
unfolding Tiled
fills ns [] at bs c h le = omega (arith, length-drop at ns, ap length (h ∙ c))
fills ns (filler ∷ ts) at bs c h le =
    let split = h ∙ c.2 in
    (ap (next unpacked) split ∙ c.3.alone c.1, fills ns ts (at + 1) c.1 c.4 (sym (drop-drop 1 at ns) ∙ ap (drop 1) split ∙ drop_at c.0 c.1 1 c.3.all) (omega (arith, length-drop at ns, ap length split, length-append c.0 c.1, c.3.all)))
fills ns (holds s ∷ ts) at bs c h le =
    let split = h ∙ c.2 in
    (ap (next unpacked) split ∙ c.3.alone c.1, fills ns ts (at + size s) c.1 c.4 (sym (drop-drop (size s) at ns) ∙ ap (drop (size s)) split ∙ drop_at c.0 c.1 (size s) c.3.all) (omega (arith, length-drop at ns, ap length split, length-append c.0 c.1, c.3.all)))

-- locked blocks: no stray byte, and each byte of them is covered
module _ (m : Memory) (i : ℕ) where
  abbrev covers : Found → Bool
  covers f = byte_of f i && sealed m f

  covered_any : (ts : List Tile) (at : ℕ) → any covers (placed at ts) ≡ true → Covered sets_format (locked_at m) at ts i
  unfolding placed
  covered_any [] at e = absurd (true-false (sym e))
  covered_any (filler ∷ ts) at e = covered_any ts (at + 1) e
  covered_any (holds s ∷ ts) at e =
      let f : Found = record { at = at; set = s } in
      ⊎_elim (λ (h : covers f ≡ true).
      let both = and_parts (byte_of f i) (sealed m f) h in
      let ends = and_parts (leb at i) (ltb i (at + size s)) both.0 in
      inl (leb-true at i ends.0, ltb-true i (at + size s) ends.1, both.1))
      (λ (h : any covers (placed (at + size s) ts) ≡ true). inr (covered_any ts (at + size s) h))
      (or_cases (covers f) (any covers (placed (at + size s) ts)) e)

  any_covered : (ts : List Tile) (at : ℕ) → Covered sets_format (locked_at m) at ts i → any covers (placed at ts) ≡ true
  unfolding placed
  any_covered [] at c = absurd c
  any_covered (filler ∷ ts) at c = any_covered ts (at + 1) c
  any_covered (holds s ∷ ts) at c =
      let f : Found = record { at = at; set = s } in
      ⊎_elim (λ (h : (at ≤ i) × (i < at + size s) × (shut (locked_at m) at (size s) ≡ true)).
      or_left (covers f) (any covers (placed (at + size s) ts)) (and_from (byte_of f i) (sealed m f) (and_from (leb at i) (ltb i (at + size s)) (le-leb at i h.0) (lt-ltb i (at + size s) h.1)) h.2))
      (λ (h : Covered sets_format (locked_at m) (at + size s) ts i). or_right (covers f) (any covers (placed (at + size s) ts)) (any_covered ts (at + size s) h))
      c

mapped_none : (f : ℕ → ℕ) (o : Option ℕ) → option_map f o ≡ None → o ≡ None
mapped_none f None e = refl
mapped_none f (Some k) e = let z : ◌≡◌ {A = ℕ} 0 1 = cc in absurd (omega arith)

none_below : (p : ℕ → Bool) (n : ℕ) → lowest p n ≡ None → (i : ℕ) → i < n → p i ≡ false
none_below p n e i h =
    ⊎_elim (λ (k : (lowest p n ≡ None) × ((i : ℕ) → i < n → p i ≡ false)). k.1 i h)
    (λ (k : (j : ℕ) × (lowest p n ≡ Some j) × Lowest p n j). let some : lowest p n ≡ Some k.0 = k.1 in let z : ◌≡◌ {A = ℕ} 0 1 = cc in absurd (omega arith))
    (lowest_cases p n)

pub clean_of : (m : Memory) → Shaped m → (ts : List Tile) → stray_block m (placed 0 ts) ≡ None → Clean sets_format (locked_at m) 0 ts
clean_of m sh ts e i from t =
    let none = none_below (stray m (placed 0 ts)) (length m.bytes) (mapped_none (λ a. a / m.size) (lowest (stray m (placed 0 ts)) (length m.bytes)) e) in
    let some : Bool = any (covers m i) (placed 0 ts) in
    ⊎_elim (λ (lt : i < length m.bytes).
    ⊎_elim (λ (y : any (covers m i) (placed 0 ts) ≡ true). covered_any m i ts 0 y)
    (λ (n : any (covers m i) (placed 0 ts) ≡ false). absurd (both_ways (stray m (placed 0 ts) i) (none i lt) (and_from (locked_at m i) (not (any (covers m i) (placed 0 ts))) t (not_from_false (any (covers m i) (placed 0 ts)) n))))
    (cases_Bool (any (covers m i) (placed 0 ts))))
    (λ (ge : length m.bytes ≤ i). absurd (both_ways (locked_at m i) (past_end m sh i ge) t))
    (cases_lt i (length m.bytes))

pub stray_of : (m : Memory) (ts : List Tile) → Clean sets_format (locked_at m) 0 ts → stray_block m (placed 0 ts) ≡ None
stray_of m ts c =
    ap (option_map (λ a. a / m.size)) (lowest-none (stray m (placed 0 ts)) (length m.bytes) (λ i h.
    ⊎_elim (λ (t : locked_at m i ≡ true). and_right (locked_at m i) (not (any (covers m i) (placed 0 ts))) (not_from_true (any (covers m i) (placed 0 ts)) (any_covered m i ts 0 (c i (omega arith) t))))
    (λ (f : locked_at m i ≡ false). and_left (locked_at m i) (not (any (covers m i) (placed 0 ts))) f)
    (cases_Bool (locked_at m i))))

-- lists over the sets with their addresses are lists over the tiles
module _ (m : Memory) where
  pub list-is : (ts : List Tile) (at : ℕ) → map (entry m) (placed at ts) ≡ listed sets_format (locked_at m) at ts
  unfolding placed
  list-is [] at = refl
  list-is (filler ∷ ts) at = list-is ts (at + 1)
  list-is (holds s ∷ ts) at = ap (λ l. entry m (record { at = at; set = s }) ∷ l) (list-is ts (at + size s))

  pub seals-are : (ts : List Tile) (at : ℕ) → filter (sealed m) (placed at ts) ≡ sealed_sets sets_format (locked_at m) at ts
  unfolding placed
  seals-are [] at = refl
  seals-are (filler ∷ ts) at = seals-are ts (at + 1)
  seals-are (holds s ∷ ts) at = ap (λ l. cond (sealed m (record { at = at; set = s })) (record { at = at; set = s } ∷ l) l) (seals-are ts (at + size s))

  map-cond : (b : Bool) (f : Found) (fs : List Found) → map (entry m) (cond b (f ∷ fs) fs) ≡ cond b (entry m f ∷ map (entry m) fs) (map (entry m) fs)
  map-cond true f fs = refl
  map-cond false f fs = refl

  pub opens-are_in : (p n : ℕ) (ts : List Tile) (at : ℕ) → map (entry m) (filter (opens_in m p n) (placed at ts)) ≡ opens sets_format (locked_at m) (p * m.size) ((p + n) * m.size) at ts
  unfolding placed
  opens-are_in p n [] at = refl
  opens-are_in p n (filler ∷ ts) at = opens-are_in p n ts (at + 1)
  opens-are_in p n (holds s ∷ ts) at =
      let f : Found = record { at = at; set = s } in
      map-cond (opens_in m p n (record { at = at; set = s })) (record { at = at; set = s }) (filter (opens_in m p n) (placed (at + size s) ts))
      ∙ ap (λ l. cond (opens_in m p n (record { at = at; set = s })) (entry m (record { at = at; set = s }) ∷ l) l) (opens-are_in p n ts (at + size s))

pub used-is : (ts : List Tile) (at a : ℕ) → used_from a (placed at ts) ≡ after_sets sets_format a at ts
unfolding placed
used-is [] at a = refl
used-is (filler ∷ ts) at a = used-is ts (at + 1) a
used-is (holds s ∷ ts) at a = used-is ts (at + size s) (at + size s)

pub whole_is : (b : ℕ) (name : List ℕ) (ts : List Tile) (at : ℕ) → AllByRecursion (λ f. identified f ≡ name → (f.at % b ≡ 0) × (size f.set % b ≡ 0)) (placed at ts) → Whole sets_format b name at ts
unfolding placed
whole_is b name [] at a = tt
whole_is b name (filler ∷ ts) at a = whole_is b name ts (at + 1) a
whole_is b name (holds s ∷ ts) at a = (a.0, whole_is b name ts (at + size s) a.1)

-- a memory that reads, as the theory takes it
abbrev pub tiles_of : Memory → List Tile
tiles_of m = (scan unpacked m.bytes).tiles

pub tiled_of : (m : Memory) (r : Reading) → reads m ≡ Ok r → Along sets_format m.bytes 0 (tiles_of m)
tiled_of m r e =
    let t = scan-tiles unpacked m.bytes in
    along m.bytes (tiles_of m) 0 t.0 t.1 t.3 t.2 (subst (Halts unpacked t.1 (length t.0)) (faultless m r e).scanned t.4)

abbrev pub laid : (m : Memory) (r : Reading) → Shaped m → reads m ≡ Ok r → Laid sets_format m r.entries
laid m r sh e = record {
  shaped = sh;
  tiles = tiles_of m;
  tiled = tiled_of m r e;
  clean = clean_of m sh (tiles_of m) (faultless m r e).unstray;
  list = sym (list-is m (tiles_of m) 0) ∙ (faultless m r e).list;
}

-- the tiles around a set
pub record Around (ts : List Tile) (at : ℕ) (fs : List Found) (f : Found) (gs : List Found) : Type 0 where
  pub before : List Tile
  pub after : List Tile
  pub is : ts ≡ before ++ (holds f.set ∷ after)
  pub sum : at + spread sets_format before ≡ f.at
  pub front : placed at before ≡ fs
  pub back : placed (f.at + size f.set) after ≡ gs

pub around : (ts : List Tile) (at : ℕ) (fs : List Found) (f : Found) (gs : List Found) → placed at ts ≡ fs ++ (f ∷ gs) → Around ts at fs f gs
unfolding placed
around [] at fs f gs e = absurd (omega (arith, ap length e, length-append fs (f ∷ gs)))
around (filler ∷ ts) at fs f gs e =
    let a = around ts (at + 1) fs f gs e in
    let sum : at + 1 + spread sets_format a.before ≡ f.at = a.sum in
    record { before = filler ∷ a.before; after = a.after; is = ap (λ l. filler ∷ l) a.is; sum = omega arith; front = a.front; back = a.back }
around (holds s ∷ ts) at [] f gs e =
    let g : Found = record { at = at; set = s } in
    let this : g ≡ f = cc in
    let those : placed (at + size s) ts ≡ gs = cc in
    let here : at ≡ f.at = ap (λ x. x.at) this in
    record { before = []; after = ts; is = ap (λ x. holds x.set ∷ ts) this; sum = omega arith; front = refl; back = ap (λ x. placed (x.at + size x.set) ts) (sym this) ∙ those }
around (holds s ∷ ts) at (x ∷ fs) f gs e =
    let g : Found = record { at = at; set = s } in
    let this : g ≡ x = cc in
    let those : placed (at + size s) ts ≡ fs ++ (f ∷ gs) = cc in
    let a = around ts (at + size s) fs f gs those in
    let sum : at + size s + spread sets_format a.before ≡ f.at = a.sum in
    record { before = holds s ∷ a.before; after = a.after; is = ap (λ l. holds s ∷ l) a.is; sum = omega arith; front = (λ i. this i ∷ a.front i); back = a.back }
