-- A gap laid out anew, for a format that meets the laws.
use Rattle.std.proofs.Common.{◌≡◌, ℕ, zero, ◌+◌, ◌-◌, ◌*◌, ◌<◌, ◌≤◌, true, false, ◌⊎◌, List, [], ◌∷◌, ◌++◌, length, get_or, take, drop, sym, refl, ap, ◌∙◌, subst, inl, inr, ⊎_elim, append-nil, mul-lt-mul_of_pos_right, mul-div_cancel, arith, length-append, length-drop}
use Rattle.std.specs.Int.Digits.{AllBelowBase}
use Rattle.std.proofs.lemmas.List.{length-take-le, get_or-take, get_or-drop, get_or_past, get_or_append_left, drop_at, take_at, drop-drop, drop_all}
use Rattle.std.proofs.ByRecursion.{All-append, All-take, All-drop}
use Rattle.std.proofs.lemmas.Bool.{both_ways, cases_lt}
use Rattle.sets.specs.Sets.{Tile, filler, holds}
use Rattle.sets.specs.Readings.{Memory, Entry, locked_at}
use Rattle.rivals.specs.Memories.{Rival}
use Rattle.rivals.specs.Rooms.{part}
use Rattle.rivals.proofs.Format.{Format, width, Along, Border, Covered, Clean, listed, opens, Laid}
use Rattle.rivals.proofs.Walks.{Walk}
use Rattle.rivals.proofs.Borders.{edge}
use Rattle.rivals.proofs.Parts.{beyond, opens-are}
use Rattle.rivals.proofs.Blocks.{Run, past_end, gap-order, gap-inside, gap-clear, gap-stop}
use Rattle.rivals.proofs.Holds.{gaps_are-cut, open_behind}
use Rattle.rivals.proofs.Runs.{spread, cut, front_kept, tiled-behind, tiled-back, filled, shifted, listed-append, listed_open, opens-behind, covered_swap, covered_behind, covered_after, part_open, Fills, opened}

fills-spread : (F : Format) (ns : List ℕ) (gs : List Tile) (at : ℕ) → Fills F ns at gs → at + spread F gs ≡ length ns
fills-spread F ns [] at f = omega arith
fills-spread F ns (t ∷ gs) at f = omega (arith, fills-spread F ns gs (at + width F t) f.1)

-- other bytes between two addresses
module _ (bs ns : List ℕ) (g h : ℕ) (order : g ≤ h) (inside : h ≤ length bs) (len : length ns ≡ h - g) where
  abbrev new : List ℕ
  new = take g bs ++ (ns ++ drop h bs)

  new-front : take g bs ≡ take g new
  new-front = sym (take_at (take g bs) (ns ++ drop h bs) g (length-take-le g bs (omega arith)))

  new-gap : drop g new ≡ ns ++ drop h bs
  new-gap = drop_at (take g bs) (ns ++ drop h bs) g (length-take-le g bs (omega arith))

  new-back : drop h bs ≡ drop h new
  new-back =
      let sum : h ≡ g + length ns = omega arith in
      sym (ap (λ x. drop x new) sum ∙ sym (drop-drop (length ns) g new) ∙ ap (drop (length ns)) new-gap ∙ drop_at ns (drop h bs) (length ns) refl)

  new-long : length new ≡ length bs
  new-long = omega (arith, length-append (take g bs) (ns ++ drop h bs), length-append ns (drop h bs), length-drop h bs, length-take-le g bs (omega arith))

  new-below : (i : ℕ) → i < g → get_or new i 0 ≡ get_or bs i 0
  new-below i k =
      get_or_append_left (take g bs) (ns ++ drop h bs) 0 i (omega (arith, length-take-le g bs (omega arith))) ∙ get_or-take g bs i 0 k

  new-above : (i : ℕ) → h ≤ i → get_or new i 0 ≡ get_or bs i 0
  new-above i k =
      let p : h + (i - h) ≡ i = omega arith in
      ap (λ x. get_or new x 0) (sym p) ∙ sym (get_or-drop h new (i - h) 0) ∙ ap (λ x. get_or x (i - h) 0) (sym new-back) ∙ get_or-drop h bs (i - h) 0 ∙ ap (λ x. get_or bs x 0) p

  new-small : AllBelowBase 256 bs → AllBelowBase 256 ns → AllBelowBase 256 new
  new-small b c =
      let P : ℕ → Type 0 = λ d. d < 256 in
      All-append P (take g bs) (ns ++ drop h bs) (All-take P g bs b) (All-append P ns (drop h bs) c (All-drop P h bs b))

-- bytes that suit a gap
abbrev pub Fitted : Format → Memory → ℕ → List ℕ → List Tile → Type 0
Fitted F m q ns gs = ((q ≡ length m.locks) × Along F ns 0 gs) ⊎ ((q < length m.locks) × Fills F ns 0 gs)

-- other bytes between the blocks p and q
abbrev pub other : Memory → ℕ → ℕ → List ℕ → Memory
other m p q ns = record {
  size = m.size;
  locks = m.locks;
  bytes = take (p * m.size) m.bytes ++ (ns ++ drop (q * m.size) m.bytes);
}

-- tiles from g up to h with others behind them, or with none
abbrev pub Stops : Format → ℕ → ℕ → List Tile → List Tile → Type 0
Stops F g h xs ws = (g + spread F xs ≡ h) ⊎ ((ws ≡ []) × (g + spread F xs ≤ h))

-- the tiles before a gap, in it and behind it
pub record Parted (F : Format) (m : Memory) (l : List Entry) (r : Laid F m l) (p q : ℕ) : Type 0 where
  pub front : List Tile
  pub inner : List Tile
  pub back : List Tile
  pub was : r.tiles ≡ front ++ (inner ++ back)
  pub start : 0 + spread F front ≡ p * m.size
  pub stop : Stops F (p * m.size) (q * m.size) inner back
  pub last : q ≡ length m.locks → back ≡ []
  pub full : q < length m.locks → p * m.size + spread F inner ≡ q * m.size
  pub shows : opens F (locked_at m) (p * m.size) (q * m.size) 0 r.tiles ≡ opened F inner
  pub said : listed F (locked_at m) (p * m.size) inner ≡ opened F inner

along_within : (F : Format) (bs : List ℕ) (ts : List Tile) (at : ℕ) → at ≤ length bs → Along F bs at ts → at + spread F ts ≤ length bs
along_within F bs [] at h t = omega arith
along_within F bs (filler ∷ ts) at h t = omega (arith, along_within F bs ts (at + 1) (omega (arith, F.one (drop at bs) t.0, length-drop at bs)) t.1)
along_within F bs (holds s ∷ ts) at h t =
    omega (arith, along_within F bs ts (at + F.bytes s) (omega (arith, F.within (drop at bs) s t.0, F.some (drop at bs) s t.0, length-drop at bs)) t.1)

module _ (F : Format) (m : Memory) (l : List Entry) (r : Laid F m l) (p q : ℕ) (gap : Run m p q) where
  order : p * m.size ≤ q * m.size
  order = gap-order m r.shaped p q gap

  inside : q * m.size ≤ length m.bytes
  inside = gap-inside m r.shaped p q gap

  module _ (us vs : List Tile) (is : r.tiles ≡ us ++ vs) (sum : 0 + spread F us ≡ p * m.size) where
    tiled-old : Along F m.bytes 0 (us ++ vs)
    tiled-old = subst (λ x. Along F m.bytes 0 x) is r.tiled

    clean-old : Clean F (locked_at m) 0 (us ++ vs)
    clean-old = subst (λ x. Clean F (locked_at m) 0 x) is r.clean

    -- the walk from the gap on
    walk-gap : Walk F (locked_at m) m.bytes (p * m.size) vs
    walk-gap = record {
      tiled = tiled-behind F m.bytes (p * m.size) vs us 0 sum tiled-old;
      clean = λ i h e. covered_behind F (locked_at m) (p * m.size) vs i h us 0 sum (clean-old i (omega arith) e);
      past = past_end m r.shaped;
      small = r.shaped.small;
    }

    -- the entries of the gap are what its tiles show
    gap-shows : opens F (locked_at m) (p * m.size) (q * m.size) 0 r.tiles ≡ part zero (listed F (locked_at m) (p * m.size) vs)
    gap-shows =
        ap (opens F (locked_at m) (p * m.size) (q * m.size) 0) is ∙ opens-behind F (locked_at m) m.bytes (p * m.size) (q * m.size) vs us 0 sum tiled-old ∙ opens-are F (locked_at m) m.bytes (q * m.size) (gap-stop m r.shaped p q gap) (p * m.size) vs (p * m.size) (omega arith) order (gap-clear m r.shaped p q gap) walk-gap

    -- at the end of the memory
    parted-end : q ≡ length m.locks → Parted F m l r p q
    parted-end last =
        let op : (i : ℕ) → p * m.size ≤ i → locked_at m i ≡ false = open_behind m r.shaped p (subst (λ x. Run m p x) last gap) in
        let full : q * m.size ≡ length m.bytes = ap (λ x. x * m.size) last ∙ sym r.shaped.whole in
        let old' : Along F m.bytes (p * m.size) (vs ++ []) = subst (λ x. Along F m.bytes (p * m.size) x) (sym (append-nil vs)) walk-gap.tiled in
        let said' : listed F (locked_at m) (p * m.size) vs ≡ opened F vs = listed_open F (locked_at m) m.bytes (p * m.size + spread F vs) [] vs (p * m.size) (omega arith) (λ i a b. op i a) old' in
        record {
          front = us;
          inner = vs;
          back = [];
          was = is ∙ ap (λ x. us ++ x) (sym (append-nil vs));
          start = sum;
          stop = inr (refl, omega (arith, along_within F m.bytes vs (p * m.size) (omega (arith, order, inside)) walk-gap.tiled));
          last = λ _. refl;
          full = λ lt. absurd (omega arith);
          shows = gap-shows ∙ ap (part zero) (said' ∙ sym (append-nil (opened F vs))) ∙ part_open F vs [] ∙ append-nil (opened F vs);
          said = said';
        }

    -- before a locked block
    parted-lock : (xs ws : List Tile) → q < length m.locks → vs ≡ xs ++ ws → p * m.size + spread F xs ≡ q * m.size → Parted F m l r p q
    parted-lock xs ws short e spread' =
        let old : Along F m.bytes (p * m.size) (xs ++ ws) = subst (λ x. Along F m.bytes (p * m.size) x) e walk-gap.tiled in
        let walk : Walk F (locked_at m) m.bytes (q * m.size) ws = record {
          tiled = tiled-behind F m.bytes (q * m.size) ws xs (p * m.size) spread' old;
          clean = λ i b t. covered_behind F (locked_at m) (q * m.size) ws i b xs (p * m.size) spread' (subst (λ x. Covered F (locked_at m) (p * m.size) x i) e (walk-gap.clean i (omega (arith, order)) t));
          past = past_end m r.shaped;
          small = r.shaped.small;
        } in
        let nothing : part zero (listed F (locked_at m) (q * m.size) ws) ≡ [] = sym (opens-are F (locked_at m) m.bytes (q * m.size) (gap-stop m r.shaped p q gap) (p * m.size) ws (q * m.size) order (omega arith) (λ i a b. absurd (omega arith)) walk) ∙ beyond F (locked_at m) m.bytes (q * m.size) (gap-stop m r.shaped p q gap) (p * m.size) ws (q * m.size) (omega arith) in
        let said' : listed F (locked_at m) (p * m.size) xs ≡ opened F xs = listed_open F (locked_at m) m.bytes (q * m.size) ws xs (p * m.size) (omega arith) (gap-clear m r.shaped p q gap) old in
        let both : listed F (locked_at m) (p * m.size) vs ≡ opened F xs ++ listed F (locked_at m) (q * m.size) ws =
        ap (listed F (locked_at m) (p * m.size)) e ∙ listed-append F (locked_at m) (q * m.size) ws xs (p * m.size) spread' ∙ ap (λ x. x ++ listed F (locked_at m) (q * m.size) ws) said' in
        record {
          front = us;
          inner = xs;
          back = ws;
          was = is ∙ ap (λ x. us ++ x) e;
          start = sum;
          stop = inl spread';
          last = λ z. absurd (omega arith);
          full = λ _. spread';
          shows = gap-shows ∙ ap (part zero) both ∙ part_open F xs (listed F (locked_at m) (q * m.size) ws) ∙ ap (λ x. opened F xs ++ x) nothing ∙ append-nil (opened F xs);
          said = said';
        }

    parted-by : Parted F m l r p q
    parted-by =
        ⊎_elim (λ (e : q ≡ length m.locks). parted-end e) (λ (lock : (p < q) × (get_or m.locks q false ≡ true)).
        let sh = r.shaped in
        let short : q < length m.locks = ⊎_elim (λ (lt : q < length m.locks). lt) (λ (ge : length m.locks ≤ q). absurd (both_ways (get_or m.locks q false) (get_or_past m.locks q false ge) lock.1)) (cases_lt q (length m.locks)) in
        let big : p * m.size < q * m.size = mul-lt-mul_of_pos_right lock.0 sh.some in
        let locked : locked_at m (q * m.size) ≡ true = ap (λ x. get_or m.locks x false) (mul-div_cancel q sh.some) ∙ lock.1 in
        let border : Border F (p * m.size) vs (q * m.size) = edge F (locked_at m) m.bytes (q * m.size) vs (p * m.size) order (λ some e. both_ways (locked_at m (q * m.size)) (sym e ∙ gap-clear m sh p q gap (q * m.size - 1) (omega arith) (omega arith)) locked) walk-gap in
        let c = cut F (q * m.size) vs (p * m.size) border in
        parted-lock c.0 c.1 short c.2 c.3)
        gap.stop

  pub parted : Parted F m l r p q
  parted = let c = cut F (p * m.size) r.tiles 0 (gaps_are-cut F m l r p q gap).0 in parted-by c.0 c.1 c.2 c.3

-- other tiles in the gap
pub record Relaying (F : Format) (m : Memory) (l : List Entry) (r : Laid F m l) (p q : ℕ) (o : Parted F m l r p q) (ns : List ℕ) (gs : List Tile) : Type 0 where
  pub fits : Stops F (p * m.size) (q * m.size) gs o.back
  pub says : listed F (locked_at m) (p * m.size) gs ≡ opened F gs
  pub rival : Rival m (other m p q ns)
  pub tiled : Along F (other m p q ns).bytes 0 (o.front ++ (gs ++ o.back))
  pub clean : Clean F (locked_at m) 0 (o.front ++ (gs ++ o.back))

module _ (F : Format) (m : Memory) (l : List Entry) (r : Laid F m l) (p q : ℕ) (gap : Run m p q) (o : Parted F m l r p q) (ns : List ℕ) (len : length ns ≡ q * m.size - p * m.size) (small : AllBelowBase 256 ns) where
  -- outside the gap nothing changes, so that locked blocks keep their bytes
  rival : Rival m (other m p q ns)
  rival = record {
    size = refl;
    locks = refl;
    long = new-long m.bytes ns (p * m.size) (q * m.size) (order F m l r p q gap) (inside F m l r p q gap) len;
    small = new-small m.bytes ns (p * m.size) (q * m.size) (order F m l r p q gap) (inside F m l r p q gap) len r.shaped.small small;
    alike = λ i t. ⊎_elim (λ (a : i < p * m.size). new-below m.bytes ns (p * m.size) (q * m.size) (order F m l r p q gap) (inside F m l r p q gap) len i a) (λ (a : p * m.size ≤ i). ⊎_elim (λ (b : i < q * m.size). absurd (both_ways (locked_at m i) (gap-clear m r.shaped p q gap i a b) t)) (λ (b : q * m.size ≤ i). new-above m.bytes ns (p * m.size) (q * m.size) (order F m l r p q gap) (inside F m l r p q gap) len i b) (cases_lt i (q * m.size))) (cases_lt i (p * m.size));
  }

  old_walk : Walk F (locked_at m) m.bytes (p * m.size) (o.inner ++ o.back)
  old_walk = walk-gap F m l r p q gap o.front (o.inner ++ o.back) o.was o.start

  -- other tiles from the gap on
  tiled-new : (xs : List Tile) → Along F (other m p q ns).bytes (p * m.size) xs → Along F (other m p q ns).bytes 0 (o.front ++ xs)
  tiled-new xs t =
      front_kept F m.bytes (other m p q ns).bytes (p * m.size) (o.inner ++ o.back) xs (new-front m.bytes ns (p * m.size) (q * m.size) (order F m l r p q gap) (inside F m l r p q gap) len) t o.front 0 o.start (tiled-old F m l r p q gap o.front (o.inner ++ o.back) o.was o.start)

  clean-new : (xs : List Tile) → Clean F (locked_at m) (p * m.size) xs → Clean F (locked_at m) 0 (o.front ++ xs)
  clean-new xs c i h t =
      ⊎_elim (λ (a : i < p * m.size). covered_swap F (locked_at m) (p * m.size) (o.inner ++ o.back) xs i a o.front 0 o.start (clean-old F m l r p q gap o.front (o.inner ++ o.back) o.was o.start i h t)) (λ (a : p * m.size ≤ i). covered_after F (locked_at m) (p * m.size) xs i o.front 0 o.start (c i a t)) (cases_lt i (p * m.size))

  -- at the end of the memory
  at-end : (gs : List Tile) → q ≡ length m.locks → Along F ns 0 gs → Relaying F m l r p q o ns gs
  at-end gs last t =
      let op : (i : ℕ) → p * m.size ≤ i → locked_at m i ≡ false = open_behind m r.shaped p (subst (λ x. Run m p x) last gap) in
      let full : q * m.size ≡ length m.bytes = ap (λ x. x * m.size) last ∙ sym r.shaped.whole in
      let only : drop (p * m.size) (other m p q ns).bytes ≡ ns =
      new-gap m.bytes ns (p * m.size) (q * m.size) (order F m l r p q gap) (inside F m l r p q gap) len ∙ ap (λ x. ns ++ x) (drop_all (q * m.size) m.bytes (omega arith)) ∙ append-nil ns in
      let zero' : p * m.size + 0 ≡ p * m.size = omega arith in
      let tiled' : Along F (other m p q ns).bytes (p * m.size) gs = subst (λ x. Along F (other m p q ns).bytes x gs) zero' (shifted F (other m p q ns).bytes ns (p * m.size) only gs 0 t) in
      let alone : gs ≡ gs ++ o.back = sym (append-nil gs) ∙ ap (λ x. gs ++ x) (sym (o.last last)) in
      let tiled : Along F (other m p q ns).bytes (p * m.size) (gs ++ o.back) = subst (λ x. Along F (other m p q ns).bytes (p * m.size) x) alone tiled' in
      record {
        fits = inr (o.last last, omega (arith, along_within F (other m p q ns).bytes gs (p * m.size) (omega (arith, order F m l r p q gap, inside F m l r p q gap, rival.long)) tiled', rival.long));
        says = listed_open F (locked_at m) (other m p q ns).bytes (p * m.size + spread F gs) o.back gs (p * m.size) (omega arith) (λ i a b. op i a) tiled;
        rival = rival;
        tiled = tiled-new (gs ++ o.back) tiled;
        clean = clean-new (gs ++ o.back) (λ i a e. absurd (both_ways (locked_at m i) (op i a) e));
      }

  -- before a locked block
  before_lock : (gs : List Tile) → q < length m.locks → Fills F ns 0 gs → Relaying F m l r p q o ns gs
  before_lock gs short f =
      let sum : p * m.size + spread F o.inner ≡ q * m.size = o.full short in
      let long : p * m.size + spread F gs ≡ q * m.size = omega (arith, fills-spread F ns gs 0 f, order F m l r p q gap, len) in
      let behind : Along F (other m p q ns).bytes (q * m.size) o.back =
      tiled-back F m.bytes (other m p q ns).bytes (q * m.size) (new-back m.bytes ns (p * m.size) (q * m.size) (order F m l r p q gap) (inside F m l r p q gap) len) o.back (q * m.size) (omega arith) (tiled-behind F m.bytes (q * m.size) o.back o.inner (p * m.size) sum old_walk.tiled) in
      let zero' : p * m.size + 0 ≡ p * m.size = omega arith in
      let tiled : Along F (other m p q ns).bytes (p * m.size) (gs ++ o.back) =
      subst (λ x. Along F (other m p q ns).bytes x (gs ++ o.back)) zero' (filled F (other m p q ns).bytes ns (drop (q * m.size) m.bytes) (p * m.size) (q * m.size) o.back (new-gap m.bytes ns (p * m.size) (q * m.size) (order F m l r p q gap) (inside F m l r p q gap) len) (omega (arith, order F m l r p q gap, len)) behind gs 0 (omega arith) f) in
      record {
        fits = inl long;
        says = listed_open F (locked_at m) (other m p q ns).bytes (q * m.size) o.back gs (p * m.size) (omega arith) (gap-clear m r.shaped p q gap) tiled;
        rival = rival;
        tiled = tiled-new (gs ++ o.back) tiled;
        clean = clean-new (gs ++ o.back) (λ i a t.
            ⊎_elim (λ (b : i < q * m.size). absurd (both_ways (locked_at m i) (gap-clear m r.shaped p q gap i a b) t)) (λ (b : q * m.size ≤ i).
            covered_after F (locked_at m) (q * m.size) o.back i gs (p * m.size) long (covered_behind F (locked_at m) (q * m.size) o.back i b o.inner (p * m.size) sum (old_walk.clean i a t)))
            (cases_lt i (q * m.size)));
      }

  pub relaying : (gs : List Tile) → Fitted F m q ns gs → Relaying F m l r p q o ns gs
  relaying gs suits =
      ⊎_elim (λ (k : (q ≡ length m.locks) × Along F ns 0 gs). at-end gs k.0 k.1) (λ (k : (q < length m.locks) × Fills F ns 0 gs). before_lock gs k.0 k.1) suits
