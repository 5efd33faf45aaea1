-- A gap of a memory laid out anew.
use Rattle.std.proofs.Common.{◌≡◌, ℕ, ◌+◌, ◌*◌, ◌<◌, ◌≤◌, Bool, true, false, ltb, leb, List, [], ◌∷◌, ◌++◌, map, length, Some, None, Ok, filter, sym, refl, ap, ◌∙◌, subst, inl, inr, ⊎_elim, append_assoc, append-nil, arith}
use mathlib.Core.List.{map-append}
use Rattle.std.specs.List.{AllByRecursion}
use Rattle.std.specs.Str.{bytes_eq}
use Rattle.std.proofs.lemmas.List.Elements.{filter-append}
use Rattle.std.proofs.ByRecursion.{all-has, All-weaker, has_push}
use Rattle.std.proofs.lemmas.Bool.{cases_Bool, both_ways, cond-true, cond-false, lt-ltb, le-ltb, lt-leb, le-leb, or_from, or_parts}
use Rattle.std.proofs.lemmas.Slice.Eq.{bytes_eq-Decides}
use Rattle.sets.specs.Sets.{Tile, filler, holds, size}
use Rattle.sets.specs.Scans.{clean, scan, Found, placed, used_from}
use Rattle.sets.specs.Tilings.{Tiled, Ended}
use Rattle.sets.specs.Objects.{unpacked}
use Rattle.sets.specs.Readings.{Memory, Entry, Reading, any, found, locked_at, stray_block, identified, stood, repeat_from, repeat, entry, reads}
use Rattle.sets.proofs.Searching.{any_append, any-not}
use Rattle.rivals.specs.Memories.{Shaped, Gap, seals, gap_entries}
use Rattle.rivals.specs.Rooms.{form, told, least, total}
use Rattle.rivals.specs.Promises.{gap_before, gap_behind}
use Rattle.rivals.specs.Relaid.{open_entries, relaid, Suits, sets_before, sets_from, list_around, Distinct, ReadsDistinct, Relaid, GapLaidAnew, PlaceInGap, PlaceAtEnd, smallest_tiles, FreeAfter}
use Rattle.rivals.proofs.Relays.{Fitted, Stops, Parted, parted, Relaying, relaying}
use Rattle.rivals.proofs.Format.{listed, sealed_sets, after_sets, Laid}
use Rattle.rivals.proofs.Walks.{Walk, open_unless}
use Rattle.rivals.proofs.Blocks.{run_of, run-bytes, gap-start}
use Rattle.rivals.proofs.Places.{front-used}
use Rattle.rivals.proofs.Holds.{shaped-rival}
use Rattle.rivals.proofs.Meets.{sets_format}
use Rattle.rivals.proofs.Bridges.{faultless, reads_ok, along, scan_of, fills, stray_of, list-is, seals-are, opens-are_in, used-is, tiles_of, laid}
use Rattle.rivals.proofs.Promised.{list-with, gap-list}
use Rattle.rivals.proofs.Runs.{spread, after-append, opened}
use Rattle.rivals.proofs.Holds as theory

-- sets below an address, and from an address on
module _ (a : ℕ) where
  all_below : (ts : List Tile) (at : ℕ) → at + spread sets_format ts ≤ a → filter (λ f. ltb f.at a) (placed at ts) ≡ placed at ts
  unfolding placed
  all_below [] at h = refl
  all_below (filler ∷ ts) at h = all_below ts (at + 1) (omega arith)
  all_below (holds s ∷ ts) at h =
      let f : Found = record { at = at; set = s } in
      let more : List Found = filter (λ f. ltb f.at a) (placed (at + size s) ts) in
      cond-true (ltb at a) (record { at = at; set = s } ∷ more) more (lt-ltb at a (omega arith)) ∙ ap (λ l. record { at = at; set = s } ∷ l) (all_below ts (at + size s) (omega arith))

  none_below : (ts : List Tile) (at : ℕ) → a ≤ at → filter (λ f. ltb f.at a) (placed at ts) ≡ []
  unfolding placed
  none_below [] at h = refl
  none_below (filler ∷ ts) at h = none_below ts (at + 1) (omega arith)
  none_below (holds s ∷ ts) at h =
      let more : List Found = filter (λ f. ltb f.at a) (placed (at + size s) ts) in
      cond-false (ltb at a) (record { at = at; set = s } ∷ more) more (le-ltb at a h) ∙ none_below ts (at + size s) (omega arith)

  all_from : (ts : List Tile) (at : ℕ) → a ≤ at → filter (λ f. leb a f.at) (placed at ts) ≡ placed at ts
  unfolding placed
  all_from [] at h = refl
  all_from (filler ∷ ts) at h = all_from ts (at + 1) (omega arith)
  all_from (holds s ∷ ts) at h =
      let more : List Found = filter (λ f. leb a f.at) (placed (at + size s) ts) in
      cond-true (leb a at) (record { at = at; set = s } ∷ more) more (le-leb a at h) ∙ ap (λ l. record { at = at; set = s } ∷ l) (all_from ts (at + size s) (omega arith))

  none_from : (ts : List Tile) (at : ℕ) → at + spread sets_format ts ≤ a → filter (λ f. leb a f.at) (placed at ts) ≡ []
  unfolding placed
  none_from [] at h = refl
  none_from (filler ∷ ts) at h = none_from ts (at + 1) (omega arith)
  none_from (holds s ∷ ts) at h =
      let more : List Found = filter (λ f. leb a f.at) (placed (at + size s) ts) in
      cond-false (leb a at) (record { at = at; set = s } ∷ more) more (lt-leb a at (omega arith)) ∙ none_from ts (at + size s) (omega arith)

placed_at : (b : ℕ) (vs us : List Tile) (at : ℕ) → at + spread sets_format us ≡ b → placed at (us ++ vs) ≡ placed at us ++ placed b vs
unfolding placed
placed_at b vs [] at sum = let p : at ≡ b = omega arith in ap (λ k. placed k vs) p
placed_at b vs (filler ∷ us) at sum = placed_at b vs us (at + 1) (omega arith)
placed_at b vs (holds s ∷ us) at sum = ap (λ l. record { at = at; set = s } ∷ l) (placed_at b vs us (at + size s) (omega arith))

stops_by : (g h : ℕ) (xs ws : List Tile) → Stops sets_format g h xs ws → g + spread sets_format xs ≤ h
stops_by g h xs ws st = ⊎_elim (λ (e : g + spread sets_format xs ≡ h). omega arith) (λ (k : (ws ≡ []) × (g + spread sets_format xs ≤ h)). k.1) st

placed-stop : (g h : ℕ) (xs ws : List Tile) → Stops sets_format g h xs ws → placed g (xs ++ ws) ≡ placed g xs ++ placed h ws
unfolding placed
placed-stop g h xs ws st =
    ⊎_elim (λ (e : g + spread sets_format xs ≡ h). placed_at h ws xs g e)
    (λ (k : (ws ≡ []) × (g + spread sets_format xs ≤ h)).
    ap (λ l. placed g (xs ++ l)) k.0 ∙ ap (placed g) (append-nil xs) ∙ sym (append-nil (placed g xs)) ∙ ap (λ l. placed g xs ++ placed h l) (sym k.0))
    st

-- sets around a gap, from its first address g to its last h
module _ (g h : ℕ) (us xs ws : List Tile) (sum : 0 + spread sets_format us ≡ g) (st : Stops sets_format g h xs ws) where
  pub placed-around : placed 0 (us ++ (xs ++ ws)) ≡ placed 0 us ++ (placed g xs ++ placed h ws)
  placed-around = placed_at g (xs ++ ws) us 0 sum ∙ ap (λ l. placed 0 us ++ l) (placed-stop g h xs ws st)

  before-is : filter (λ f. ltb f.at g) (placed 0 (us ++ (xs ++ ws))) ≡ placed 0 us
  before-is =
      ap (filter (λ f. ltb f.at g)) (placed_at g (xs ++ ws) us 0 sum) ∙ filter-append (λ f. ltb f.at g) (placed 0 us) (placed g (xs ++ ws))
      ∙ (λ i. all_below g us 0 (omega arith) i ++ none_below g (xs ++ ws) g (omega arith) i) ∙ append-nil (placed 0 us)

  from_is : filter (λ f. leb h f.at) (placed 0 (us ++ (xs ++ ws))) ≡ placed h ws
  from_is =
      ap (filter (λ f. leb h f.at)) placed-around ∙ filter-append (λ f. leb h f.at) (placed 0 us) (placed g xs ++ placed h ws)
      ∙ (λ i. none_from h us 0 (omega (arith, stops_by g h xs ws st)) i ++ filter-append (λ f. leb h f.at) (placed g xs) (placed h ws) i)
      ∙ (λ i. none_from h xs g (stops_by g h xs ws st) i ++ all_from h ws h (omega arith) i)

any-front : {A : Type 0} (p : A → Bool) (xs ys : List A) → any p (xs ++ ys) ≡ false → any p xs ≡ false
any-front p [] ys e = refl
any-front p (x ∷ xs) ys e = let b = or_parts (p x) (any p (xs ++ ys)) e in or_from (p x) (any p xs) b.0 (any-front p xs ys b.1)

-- no identifier stands twice: of sets, and of entries
module _ (m : Memory) where
  same_not : (f g : Found) → (identified f ≡ identified g → ⊥) → bytes_eq (identified f) (identified g) ≡ false
  same_not f g differ = open_unless (bytes_eq (identified f) (identified g)) (λ t. differ ((bytes_eq-Decides (identified f) (identified g)).0 t))

  stood-more : (seen : List Found) (f : Found) (fs : List Found) → AllByRecursion (λ g. stood seen g ≡ false) fs → AllByRecursion (λ d. identified f ≡ d.identifier → ⊥) (map (entry m) fs) → AllByRecursion (λ g. stood (seen ++ f ∷ []) g ≡ false) fs
  stood-more seen f [] a b = tt
  stood-more seen f (g ∷ fs) a b =
      (any_append (λ x. bytes_eq (identified x) (identified g)) seen (f ∷ []) a.0 (or_from (bytes_eq (identified f) (identified g)) false (same_not f g b.0) refl), stood-more seen f fs a.1 b.1)

  once-from : (seen fs : List Found) → AllByRecursion (λ f. stood seen f ≡ false) fs → Distinct (map (entry m) fs) → repeat_from seen fs ≡ None
  once-from seen [] a d = refl
  once-from seen (f ∷ fs) a d =
      cond-false (stood seen f) (Some f.at) (repeat_from (seen ++ f ∷ []) fs) a.0 ∙ once-from (seen ++ f ∷ []) fs (stood-more seen f fs a.1 d.0) d.1

  none-stood : (fs : List Found) → AllByRecursion (λ f. stood [] f ≡ false) fs
  none-stood [] = tt
  none-stood (f ∷ fs) = (refl, none-stood fs)

  pub once_of : (fs : List Found) → Distinct (map (entry m) fs) → repeat fs ≡ None
  once_of fs d = once-from [] fs (none-stood fs) d

  -- and back
  stood_less : (seen : List Found) (f : Found) (fs : List Found) → AllByRecursion (λ g. stood (seen ++ f ∷ []) g ≡ false) fs → AllByRecursion (λ d. identified f ≡ d.identifier → ⊥) (map (entry m) fs)
  stood_less seen f [] a = tt
  stood_less seen f (g ∷ fs) a =
      let each = any-not (λ x. bytes_eq (identified x) (identified g)) (seen ++ f ∷ []) a.0 in
      let last : bytes_eq (identified f) (identified g) ≡ false = all-has (λ x. bytes_eq (identified x) (identified g) ≡ false) (seen ++ f ∷ []) f each (has_push seen f) in
      ((λ e. both_ways (bytes_eq (identified f) (identified g)) last ((bytes_eq-Decides (identified f) (identified g)).1 e)), stood_less seen f fs a.1)

  stood-from : (seen fs : List Found) → repeat_from seen fs ≡ None → AllByRecursion (λ f. stood seen f ≡ false) fs
  stood-from seen [] e = tt
  stood-from seen (f ∷ fs) e =
      ⊎_elim (λ (t : stood seen f ≡ true).
      let some : Some f.at ≡ None = sym (cond-true (stood seen f) (Some f.at) (repeat_from (seen ++ f ∷ []) fs) t) ∙ e in
      let z : ◌≡◌ {A = ℕ} 0 1 = cc in absurd (omega arith))
      (λ (n : stood seen f ≡ false).
      let more : AllByRecursion (λ g. stood (seen ++ f ∷ []) g ≡ false) fs = stood-from (seen ++ f ∷ []) fs (sym (cond-false (stood seen f) (Some f.at) (repeat_from (seen ++ f ∷ []) fs) n) ∙ e) in
      (n, All-weaker (λ g. stood (seen ++ f ∷ []) g ≡ false) (λ g. stood seen g ≡ false) (λ g k. any-front (λ x. bytes_eq (identified x) (identified g)) seen (f ∷ []) k) fs more))
      (cases_Bool (stood seen f))

  distinct_from : (seen fs : List Found) → repeat_from seen fs ≡ None → Distinct (map (entry m) fs)
  distinct_from seen [] e = tt
  distinct_from seen (f ∷ fs) e =
      let a : AllByRecursion (λ g. stood seen g ≡ false) (f ∷ fs) = stood-from seen (f ∷ fs) e in
      let rest : repeat_from (seen ++ f ∷ []) fs ≡ None = sym (cond-false (stood seen f) (Some f.at) (repeat_from (seen ++ f ∷ []) fs) a.0) ∙ e in
      (stood_less seen f fs (stood-from (seen ++ f ∷ []) fs rest), distinct_from (seen ++ f ∷ []) fs rest)

pub reads_distinct : ReadsDistinct
reads_distinct m r e = subst Distinct (faultless m r e).list (distinct_from m [] (found m.bytes) (faultless m r e).once)

opened-is : (ts : List Tile) → opened sets_format ts ≡ open_entries ts
opened-is [] = refl
opened-is (filler ∷ ts) = opened-is ts
opened-is (holds s ∷ ts) = ap (λ l. told s false ∷ l) (opened-is ts)

map-three : {A B : Type 0} (f : A → B) (xs ys zs : List A) → map f (xs ++ (ys ++ zs)) ≡ map f xs ++ (map f ys ++ map f zs)
map-three f xs ys zs = map-append f xs (ys ++ zs) ∙ ap (λ l. map f xs ++ l) (map-append f ys zs)

fitted : (m : Memory) (p n : ℕ) (ns : List ℕ) (ts : List Tile) → Suits m p n ns ts → Fitted sets_format m (p + n) ns ts
fitted m p n ns ts suits =
    ⊎_elim (λ (k : (p + n < length m.locks) × Tiled unpacked ts ns). inr (k.0, fills ns ts 0 ns k.1 refl (omega arith)))
    (λ (k : (p + n ≡ length m.locks) × ((bs : List ℕ) × (rest : List ℕ) × (ns ≡ bs ++ rest) × Tiled unpacked ts bs × Ended rest)). let s = k.1 in inl (k.0, along ns ts 0 s.0 s.1 s.3 s.2 s.4))
    suits

-- the tiles of a memory around a gap
module _ (m : Memory) (r : Reading) (sh : Shaped m) (e : reads m ≡ Ok r) (p n : ℕ) (o : Parted sets_format m r.entries (laid m r sh e) p (p + n)) where
  before : sets_before m p ≡ placed 0 o.front
  before = ap (λ x. filter (λ f. ltb f.at (p * m.size)) (placed 0 x)) o.was ∙ before-is (p * m.size) ((p + n) * m.size) o.front o.inner o.back o.start o.stop

  from : sets_from m (p + n) ≡ placed ((p + n) * m.size) o.back
  from = ap (λ x. filter (λ f. leb ((p + n) * m.size) f.at) (placed 0 x)) o.was ∙ from_is (p * m.size) ((p + n) * m.size) o.front o.inner o.back o.start o.stop

  -- the sets before, in the gap and behind it, and what they say
  around_with : (fs : List Found) (es : List Entry) → map (entry m) fs ≡ es → map (entry m) (placed 0 o.front ++ (fs ++ placed ((p + n) * m.size) o.back)) ≡ list_around m p n es
  around_with fs es is =
      map-three (entry m) (placed 0 o.front) fs (placed ((p + n) * m.size) o.back) ∙ (λ i. map (entry m) (sym before i) ++ (is i ++ map (entry m) (sym from i)))

  was : r.entries ≡ list_around m p n (gap_entries m p n)
  was =
      sym (faultless m r e).list
      ∙ ap (map (entry m)) (ap (placed 0) o.was ∙ placed-around (p * m.size) ((p + n) * m.size) o.front o.inner o.back o.start o.stop)
      ∙ around_with (placed (p * m.size) o.inner) (gap_entries m p n) (list-is m o.inner (p * m.size) ∙ o.said ∙ sym o.shows ∙ sym (opens-are_in m p n (tiles_of m) 0))

  none_behind : p + n ≡ length m.locks → sets_from m (p + n) ≡ []
  unfolding placed
  none_behind last = from ∙ ap (placed ((p + n) * m.size)) (o.last last)

  -- with other bytes in the gap
  module _ (ns : List ℕ) (ts : List Tile) (R : Relaying sets_format m r.entries (laid m r sh e) p (p + n) o ns ts) where
    abbrev tiles-now : List Tile
    tiles-now = o.front ++ (ts ++ o.back)

    scanned : scan unpacked (relaid m p n ns).bytes ≡ clean tiles-now
    scanned = scan_of (relaid m p n ns).bytes tiles-now R.tiled

    now-found : found (relaid m p n ns).bytes ≡ placed 0 o.front ++ (placed (p * m.size) ts ++ placed ((p + n) * m.size) o.back)
    now-found = ap (λ s. placed 0 s.tiles) scanned ∙ placed-around (p * m.size) ((p + n) * m.size) o.front ts o.back o.start R.fits

    now-list : map (entry m) (found (relaid m p n ns).bytes) ≡ list_around m p n (open_entries ts)
    now-list = ap (map (entry m)) now-found ∙ around_with (placed (p * m.size) ts) (open_entries ts) (list-is m ts (p * m.size) ∙ R.says ∙ opened-is ts)

    abbrev now-laid : Laid sets_format (relaid m p n ns) (listed sets_format (locked_at m) 0 tiles-now)
    now-laid = record { shaped = shaped-rival m (relaid m p n ns) R.rival sh; tiles = tiles-now; tiled = R.tiled; clean = R.clean; list = refl }

    now-seals : seals (relaid m p n ns) ≡ seals m
    now-seals =
        seals-are (relaid m p n ns) (tiles_of (relaid m p n ns)) 0
        ∙ ap (λ s. sealed_sets sets_format (locked_at m) 0 s.tiles) scanned
        ∙ theory.seals-alike sets_format m (relaid m p n ns) r.entries (listed sets_format (locked_at m) 0 tiles-now) (laid m r sh e) now-laid R.rival
        ∙ sym (seals-are m (tiles_of m) 0)

    now-reads : Distinct (list_around m p n (open_entries ts)) → reads (relaid m p n ns) ≡ Ok (record { entries = list_around m p n (open_entries ts) })
    now-reads d =
        reads_ok (relaid m p n ns) (record { entries = list_around m p n (open_entries ts) }) (record {
          scanned = ap (λ s. s.fault) scanned;
          unstray = ap (λ s. stray_block (relaid m p n ns) (placed 0 s.tiles)) scanned ∙ stray_of (relaid m p n ns) tiles-now R.clean;
          once = once_of m (found (relaid m p n ns).bytes) (subst Distinct (sym now-list) d);
          list = now-list;
        })

    anew : Relaid m r p n ns ts
    anew = record {
      was = was;
      rival = R.rival;
      seals = now-seals;
      sets = now-found ∙ (λ i. sym before i ++ (placed (p * m.size) ts ++ sym from i));
      now = now-reads;
    }

abbrev parted_at : (m : Memory) (r : Reading) (sh : Shaped m) (e : reads m ≡ Ok r) (p n : ℕ) → Gap m p n → Parted sets_format m r.entries (laid m r sh e) p (p + n)
parted_at m r sh e p n gap = parted sets_format m r.entries (laid m r sh e) p (p + n) (run_of m p n gap)

pub gap-laid_anew : GapLaidAnew
gap-laid_anew m r sh e p n gap ns ts len small suits =
    anew m r sh e p n (parted_at m r sh e p n gap) ns ts
    (relaying sets_format m r.entries (laid m r sh e) p (p + n) (run_of m p n gap) (parted_at m r sh e p n gap) ns (omega (arith, run-bytes m p n, len)) small ts (fitted m p n ns ts suits))

-- the free bytes behind smallest forms
smallest-used : (es : List Entry) (at used : ℕ) → used ≡ at → after_sets sets_format used at (smallest_tiles es) ≡ at + total es
unfolding least
smallest-used [] at used e = omega arith
smallest-used (x ∷ es) at used e = smallest-used es (at + size (form 0 x)) (at + size (form 0 x)) refl ∙ omega arith

front-full : (m : Memory) (r : Reading) (sh : Shaped m) (e : reads m ≡ Ok r) (p n : ℕ) (gap : Gap m p n) (o : Parted sets_format m r.entries (laid m r sh e) p (p + n)) → after_sets sets_format 0 0 o.front ≡ p * m.size
front-full m r sh e p n gap o =
    front-used sets_format (locked_at m) m.bytes (p * m.size) (o.inner ++ o.back) o.front 0 0 o.start (gap-start m sh p (p + n) (run_of m p n gap)) (λ z. z)
    (subst (λ x. Walk sets_format (locked_at m) m.bytes 0 x) o.was (theory.walk_of sets_format m r.entries (laid m r sh e)))

pub free-after : FreeAfter
free-after m r sh e p n gap last ns es len small suits =
    let o = parted_at m r sh e p n gap in
    let ts : List Tile = smallest_tiles es in
    let R = relaying sets_format m r.entries (laid m r sh e) p (p + n) (run_of m p n gap) (parted_at m r sh e p n gap) ns (omega (arith, run-bytes m p n, len)) small ts (fitted m p n ns ts suits) in
    let tiles : scan unpacked (relaid m p n ns).bytes ≡ clean (o.front ++ (ts ++ o.back)) = scanned m r sh e p n (parted_at m r sh e p n gap) ns ts R in
    let all : used_from 0 (found (relaid m p n ns).bytes) ≡ p * m.size + total es =
    ap (λ s. used_from 0 (placed 0 s.tiles)) tiles ∙ used-is (o.front ++ (ts ++ o.back)) 0 0
    ∙ ap (λ l. after_sets sets_format 0 0 (o.front ++ l)) (ap (λ l. ts ++ l) (o.last last) ∙ append-nil ts)
    ∙ after-append sets_format (p * m.size) ts o.front 0 0 o.start
    ∙ smallest-used es (p * m.size) (after_sets sets_format 0 0 o.front) (front-full m r sh e p n gap (parted_at m r sh e p n gap)) in
    omega (arith, all)

-- a list parts at an entry in one way only
once_in : (x : Entry) (ys zs : List Entry) → AllByRecursion (λ d. x.identifier ≡ d.identifier → ⊥) (ys ++ (x ∷ zs)) → ⊥
once_in x [] zs a = a.0 refl
once_in x (y ∷ ys) zs a = once_in x ys zs a.1

part-once : (x : Entry) (xs ys xs' ys' : List Entry) → Distinct (xs ++ (x ∷ ys)) → xs ++ (x ∷ ys) ≡ xs' ++ (x ∷ ys') → (xs ≡ xs') × (ys ≡ ys')
part-once x [] ys [] ys' d e = (refl, cc)
part-once x [] ys (a ∷ xs') ys' d e =
    let those : ys ≡ xs' ++ (x ∷ ys') = cc in
    absurd (once_in x xs' ys' (subst (AllByRecursion (λ d. x.identifier ≡ d.identifier → ⊥)) those d.0))
part-once x (a ∷ xs) ys [] ys' d e =
    let this : a ≡ x = cc in
    absurd (once_in x xs ys (subst (λ b. AllByRecursion (λ d. b.identifier ≡ d.identifier → ⊥) (xs ++ (x ∷ ys))) this d.0))
part-once x (a ∷ xs) ys (b ∷ xs') ys' d e =
    let this : a ≡ b = cc in
    let those : xs ++ (x ∷ ys) ≡ xs' ++ (x ∷ ys') = cc in
    let both = part-once x xs ys xs' ys' d.1 those in
    ((λ i. this i ∷ both.0 i), both.1)

regroup : (as' gb es gh bs : List Entry) → as' ++ ((gb ++ (es ++ gh)) ++ bs) ≡ (as' ++ gb) ++ (es ++ (gh ++ bs))
regroup as' gb es gh bs =
    ap (λ l. as' ++ l) (append_assoc gb (es ++ gh) bs ∙ ap (λ l. gb ++ l) (append_assoc es gh bs)) ∙ sym (append_assoc as' gb (es ++ (gh ++ bs)))

pub place_in-gap : PlaceInGap
place_in-gap m r sh e fs f gs p n in' =
    let x : Entry = entry m f in
    let B : List Entry = map (entry m) (sets_before m p) in
    let F : List Entry = map (entry m) (sets_from m (p + n)) in
    let gb : List Entry = gap_before m fs in
    let gh : List Entry = gap_behind m gs in
    let inner : gap_entries m p n ≡ gb ++ (x ∷ gh) = gap-list m r sh e fs f gs p n in' in
    let all : r.entries ≡ map (entry m) fs ++ (x ∷ map (entry m) gs) = list-with m r sh e fs f gs p n in' in
    let both = part-once x (map (entry m) fs) (map (entry m) gs) (B ++ gb) (gh ++ F) (subst Distinct all (reads_distinct m r e))
    (sym all ∙ was m r sh e p n (parted_at m r sh e p n in'.gap) ∙ ap (λ l. B ++ (l ++ F)) inner ∙ regroup B gb (x ∷ []) gh F) in
    (inner, λ es. regroup B gb es gh F ∙ (λ i. sym both.0 i ++ (es ++ sym both.1 i)))

pub place-at-end : PlaceAtEnd
place-at-end m r sh e p n gap last es =
    let o = parted_at m r sh e p n gap in
    let B : List Entry = map (entry m) (sets_before m p) in
    let G : List Entry = gap_entries m p n in
    let nothing : map (entry m) (sets_from m (p + n)) ≡ [] = ap (map (entry m)) (none_behind m r sh e p n (parted_at m r sh e p n gap) last) in
    ap (λ l. B ++ ((G ++ es) ++ l)) nothing ∙ ap (λ l. B ++ l) (append-nil (G ++ es)) ∙ sym (append_assoc B G es)
    ∙ ap (λ l. l ++ es) (sym (was m r sh e p n (parted_at m r sh e p n gap) ∙ ap (λ l. B ++ (G ++ l)) nothing ∙ ap (λ l. B ++ l) (append-nil G)))
