-- Each promise for a format that meets the laws, from the walks and the blocks.
use Rattle.std.proofs.Common.{◌≡◌, ℕ, zero, suc, ◌+◌, ◌-◌, ◌*◌, ◌/◌, ◌<◌, ◌≤◌, Bool, true, false, cond, ◌⊎◌, List, [], ◌∷◌, ◌++◌, length, get_or, sym, refl, ap, ◌∙◌, subst, inl, inr, ⊎_elim, mul-le-mul_right, add-mul, mul-lt-mul_of_pos_right, one-mul, div-mul-le_self, mul-div_cancel, arith}
use native.Mathlib.Nat.{lt-div-mul-add}
use Rattle.std.proofs.lemmas.Bool.{both_ways, cases_lt, cond-true, cond-false}
use Rattle.std.proofs.lemmas.Nat.{div_below}
use Rattle.sets.specs.Sets.{Set, Tile, holds}
use Rattle.sets.specs.Readings.{Memory, Entry, locked_at}
use Rattle.rivals.specs.Memories.{Shaped, Rival, Gap, below}
use Rattle.rivals.specs.Rooms.{least, total, part, seal_count, after_last, whole}
use Rattle.rivals.proofs.Format.{Format, Border, shut, listed, sealed_sets, after_sets, opens, Whole, Laid}
use Rattle.rivals.proofs.Walks.{Walk, set_open, set-some, set_in}
use Rattle.rivals.proofs.Borders.{edge}
use Rattle.rivals.proofs.Seals.{same-seals}
use Rattle.rivals.proofs.Parts.{Reached, reach, set_by, fits, opens-are, last-used, last-count}
use Rattle.rivals.proofs.Readied.{whole_shift, readied_fits}
use Rattle.rivals.proofs.Blocks.{Run, run_of, past_end, gap-order, gap-clear, gap_first, gap-start, gap-stop, gap-around}
use Rattle.rivals.proofs.Places.{below-same, count-front, walk-behind}
use Rattle.rivals.proofs.Runs.{spread}

-- the walk over a whole memory
pub walk_of : (F : Format) (m : Memory) (l : List Entry) (r : Laid F m l) → Walk F (locked_at m) m.bytes 0 r.tiles
walk_of F m l r = record { tiled = r.tiled; clean = r.clean; past = past_end m r.shaped; small = r.shaped.small }

-- both borders of a gap are borders of tiles; the second may be the end of the memory
pub gaps_are-cut : (F : Format) (m : Memory) (l : List Entry) (r : Laid F m l) (p q : ℕ) → Run m p q → Border F 0 r.tiles (p * m.size) × (Border F 0 r.tiles (q * m.size) ⊎ (q ≡ length m.locks))
gaps_are-cut F m l r p q gap =
    let w = walk_of F m l r in
    let sh = r.shaped in
    let g : ℕ = p * m.size in
    let h : ℕ = q * m.size in (
      edge F (locked_at m) m.bytes g r.tiles 0 (omega arith) (λ k e. both_ways (locked_at m g) (gap_first m sh p q gap) (sym e ∙ gap-start m sh p q gap k)) w,
      ⊎_elim (λ (e : q ≡ length m.locks). inr e) (λ (k : (p < q) × (get_or m.locks q false ≡ true)).
          let big : p * m.size < q * m.size = mul-lt-mul_of_pos_right k.0 sh.some in
          let locked : locked_at m h ≡ true = ap (λ x. get_or m.locks x false) (mul-div_cancel q sh.some) ∙ k.1 in
          inl (edge F (locked_at m) m.bytes h r.tiles 0 (omega arith) (λ some e. both_ways (locked_at m h) (sym e ∙ gap-clear m sh p q gap (h - 1) (omega arith) (omega arith)) locked) w))
          gap.stop,
    )

-- a set that is not sealed lies within one gap
pub set_in-gap : (F : Format) (m : Memory) (l : List Entry) (r : Laid F m l) (a : ℕ) (s : Set) (us vs : List Tile) → r.tiles ≡ us ++ (holds s ∷ vs) → 0 + spread F us ≡ a → shut (locked_at m) a (F.bytes s) ≡ false → (p : ℕ) × (n : ℕ) × Gap m p n × (p * m.size ≤ a) × (a + F.bytes s ≤ (p + n) * m.size)
set_in-gap F m l r a s us vs is sum f =
    let sh = r.shaped in
    let v : Walk F (locked_at m) m.bytes a (holds s ∷ vs) = walk-behind F (locked_at m) m.bytes a (holds s ∷ vs) us 0 sum (subst (λ x. Walk F (locked_at m) m.bytes 0 x) is (walk_of F m l r)) in
    let some = set-some F (locked_at m) m.bytes a s vs v in
    let in' = set_in F (locked_at m) m.bytes a s vs v in
    let k : ℕ = a / m.size in
    let small : k < length m.locks = div_below a m.size (length m.locks) sh.some (omega (arith, sh.whole)) in
    let around = gap-around m k small (set_open F (locked_at m) m.bytes a s vs v f a (omega arith) (omega arith)) in
    let p : ℕ = around.0 in
    let n : ℕ = around.1 in
    let gap : Gap m p n = around.2 in
    let pk : p ≤ k = around.3 in
    let kq : k < p + n = around.4 in
    let from : p * m.size ≤ a = omega (arith, mul-le-mul_right m.size pk, div-mul-le_self a m.size) in
    let next : (k + 1) * m.size ≤ (p + n) * m.size = mul-le-mul_right m.size (omega arith) in
    let to : a ≤ (p + n) * m.size = omega (arith, add-mul k 1 m.size, one-mul m.size, lt-div-mul-add {a = a} {b = m.size} sh.some) in
    (p, n, gap, from, set_by F (locked_at m) m.bytes ((p + n) * m.size) (gap-stop m sh p (p + n) (run_of m p n gap)) a s vs to v f)

-- a rival, seen by the locks of the memory that it rivals
lock_same : (m m' : Memory) → Rival m m' → locked_at m' ≡ locked_at m
lock_same m m' v i at = get_or (v.locks i) (at / v.size i) false

walk-rival : (F : Format) (m m' : Memory) (l : List Entry) (r : Laid F m' l) → Rival m m' → Walk F (locked_at m) m'.bytes 0 r.tiles
walk-rival F m m' l r v = subst (λ σ. Walk F σ m'.bytes 0 r.tiles) (lock_same m m' v) (walk_of F m' l r)

pub shaped-rival : (m m' : Memory) → Rival m m' → Shaped m → Shaped m'
shaped-rival m m' v sh = record {
  some = subst (λ x. 0 < x) (sym v.size) sh.some;
  whole = v.long ∙ sh.whole ∙ (λ i. length (sym v.locks i) * sym v.size i);
  small = v.small;
}

list-rival : (F : Format) (m m' : Memory) (l : List Entry) (r : Laid F m' l) → Rival m m' → listed F (locked_at m) 0 r.tiles ≡ l
list-rival F m m' l r v = ap (λ σ. listed F σ 0 r.tiles) (sym (lock_same m m' v)) ∙ r.list

-- its sealed sets
seals-rival : (F : Format) (m m' : Memory) (l l' : List Entry) (r : Laid F m l) (r' : Laid F m' l') → Rival m m' → sealed_sets F (locked_at m) 0 r'.tiles ≡ sealed_sets F (locked_at m) 0 r.tiles
seals-rival F m m' l l' r r' v =
    same-seals F (locked_at m) m'.bytes m.bytes r'.tiles r.tiles (record { long = v.long; each = v.alike }) (walk-rival F m m' l' r' v) (walk_of F m l r)

pub seals-alike : (F : Format) (m m' : Memory) (l l' : List Entry) (r : Laid F m l) (r' : Laid F m' l') → Rival m m' → sealed_sets F (locked_at m') 0 r'.tiles ≡ sealed_sets F (locked_at m) 0 r.tiles
seals-alike F m m' l l' r r' v = ap (λ σ. sealed_sets F σ 0 r'.tiles) (lock_same m m' v) ∙ seals-rival F m m' l l' r r' v

-- any content under the locks of m
module _ (F : Format) (m : Memory) (sh : Shaped m) (p q : ℕ) (gap : Run m p q) (bs : List ℕ) (long : length bs ≡ length m.bytes) (ts : List Tile) (w : Walk F (locked_at m) bs 0 ts) where
  stop-at : (q * m.size ≡ length bs) ⊎ (locked_at m (q * m.size) ≡ true)
  stop-at = ⊎_elim (λ (e : q * m.size ≡ length m.bytes). inl (e ∙ sym long)) (λ (t : locked_at m (q * m.size) ≡ true). inr t) (gap-stop m sh p q gap)

  at_gap : Reached F (locked_at m) bs (p * m.size) (q * m.size) 0 0 ts
  at_gap = reach F (locked_at m) bs (p * m.size) (q * m.size) ts 0 0 (omega arith) (gap_first m sh p q gap) (gap-start m sh p q gap) (λ e. e) w

  gap-part : opens F (locked_at m) (p * m.size) (q * m.size) 0 ts ≡ part (below (p * m.size) (sealed_sets F (locked_at m) 0 ts)) (listed F (locked_at m) 0 ts)
  gap-part =
      at_gap.opened ∙ opens-are F (locked_at m) bs (q * m.size) stop-at (p * m.size) at_gap.rest (p * m.size) (omega arith) (gap-order m sh p q gap) (gap-clear m sh p q gap) at_gap.walk ∙ sym at_gap.parts

  gap-room : p * m.size + total (part (below (p * m.size) (sealed_sets F (locked_at m) 0 ts)) (listed F (locked_at m) 0 ts)) ≤ q * m.size
  gap-room =
      subst (λ es. p * m.size + total es ≤ q * m.size) (sym at_gap.parts) (fits F (locked_at m) bs (q * m.size) stop-at at_gap.rest (p * m.size) (gap-order m sh p q gap) at_gap.walk)

  gap_readied : (xs : List Entry) (e : Entry) (ys : List Entry) → part (below (p * m.size) (sealed_sets F (locked_at m) 0 ts)) (listed F (locked_at m) 0 ts) ≡ xs ++ (e ∷ ys) → Whole F m.size e.identifier 0 ts → whole m.size (p * m.size + total xs) + whole m.size (least e) + total ys ≤ q * m.size
  gap_readied xs e ys is alone =
      readied_fits F (locked_at m) bs (q * m.size) stop-at m.size sh.some at_gap.rest (p * m.size) xs e ys (gap-order m sh p q gap) (sym at_gap.parts ∙ is) (at_gap.alone m.size e.identifier alone) at_gap.walk

-- the part of a rival's list
part-rival : (F : Format) (m : Memory) (l₀ : List Entry) (r₀ : Laid F m l₀) (p : ℕ) (m' : Memory) (l : List Entry) (r : Laid F m' l) → Rival m m' → part (below (p * m.size) (sealed_sets F (locked_at m) 0 r.tiles)) (listed F (locked_at m) 0 r.tiles) ≡ part (below (p * m.size) (sealed_sets F (locked_at m) 0 r₀.tiles)) l
part-rival F m l₀ r₀ p m' l r v i = part (below (p * m.size) (seals-rival F m m' l₀ l r₀ r v i)) (list-rival F m m' l r v i)

-- the entries of a rival's gap
pub gap-rival : (F : Format) (m m' : Memory) (l : List Entry) (r : Laid F m' l) → Shaped m → Rival m m' → (p q : ℕ) → Run m p q → opens F (locked_at m') (p * m'.size) (q * m'.size) 0 r.tiles ≡ part (below (p * m.size) (sealed_sets F (locked_at m) 0 r.tiles)) (listed F (locked_at m) 0 r.tiles)
gap-rival F m m' l r sh v p q gap =
    (λ i. opens F (lock_same m m' v i) (p * v.size i) (q * v.size i) 0 r.tiles) ∙ gap-part F m sh p q gap m'.bytes v.long r.tiles (walk-rival F m m' l r v)

pub gap-is-part : (F : Format) (m m' : Memory) (l₀ l : List Entry) (r₀ : Laid F m l₀) (r : Laid F m' l) → Rival m m' → (p q : ℕ) → Run m p q → opens F (locked_at m') (p * m'.size) (q * m'.size) 0 r.tiles ≡ part (below (p * m.size) (sealed_sets F (locked_at m) 0 r₀.tiles)) l
gap-is-part F m m' l₀ l r₀ r v p q gap = gap-rival F m m' l r r₀.shaped v p q gap ∙ part-rival F m l₀ r₀ p m' l r v

-- the smallest forms of a gap's entries
pub room : (F : Format) (m m' : Memory) (l : List Entry) (r : Laid F m' l) → Shaped m → Rival m m' → (p q : ℕ) → Run m p q → p * m.size + total (opens F (locked_at m') (p * m'.size) (q * m'.size) 0 r.tiles) ≤ q * m.size
room F m m' l r sh v p q gap =
    subst (λ es. p * m.size + total es ≤ q * m.size) (sym (gap-rival F m m' l r sh v p q gap)) (gap-room F m sh p q gap m'.bytes v.long r.tiles (walk-rival F m m' l r v))

pub room_readied : (F : Format) (m m' : Memory) (l₀ l : List Entry) (r₀ : Laid F m l₀) (r : Laid F m' l) → Rival m m' → (p q : ℕ) → Run m p q → (xs : List Entry) (e : Entry) (ys : List Entry) → part (below (p * m.size) (sealed_sets F (locked_at m) 0 r₀.tiles)) l ≡ xs ++ (e ∷ ys) → Whole F m.size e.identifier 0 r.tiles → p * m.size + whole m.size (total xs) + whole m.size (least e) + total ys ≤ q * m.size
room_readied F m m' l₀ l r₀ r v p q gap xs e ys is alone =
    omega (arith, whole_shift m.size p (total xs) r₀.shaped.some, gap_readied F m r₀.shaped p q gap m'.bytes v.long r.tiles (walk-rival F m m' l r v) xs e ys (part-rival F m l₀ r₀ p m' l r v ∙ is) alone)

-- the gap that runs to the end
pub open_behind : (m : Memory) → Shaped m → (p : ℕ) → Run m p (length m.locks) → (i : ℕ) → p * m.size ≤ i → locked_at m i ≡ false
open_behind m sh p gap i h =
    ⊎_elim (λ (lt : i < length m.locks * m.size). gap-clear m sh p (length m.locks) gap i h lt) (λ (ge : length m.locks * m.size ≤ i). past_end m sh i (omega (arith, sh.whole))) (cases_lt i (length m.locks * m.size))

pub last-part : (F : Format) (m : Memory) → Shaped m → (p : ℕ) → Run m p (length m.locks) → (m' : Memory) (l : List Entry) (r : Laid F m' l) → Rival m m' → part (below (p * m.size) (sealed_sets F (locked_at m) 0 r.tiles)) (listed F (locked_at m) 0 r.tiles) ≡ after_last l
last-part F m sh p gap m' l r v =
    ap (λ k. part k (listed F (locked_at m) 0 r.tiles)) (last-count F (locked_at m) m'.bytes (p * m.size) (open_behind m sh p gap) r.tiles 0 (walk-rival F m m' l r v)) ∙ ap after_last (list-rival F m m' l r v)

pub last-is-rest : (F : Format) (m m' : Memory) (l : List Entry) (r : Laid F m' l) → Shaped m → Rival m m' → (p : ℕ) → Run m p (length m.locks) → opens F (locked_at m') (p * m'.size) (length m.locks * m'.size) 0 r.tiles ≡ after_last l
last-is-rest F m m' l r sh v p gap = gap-rival F m m' l r sh v p (length m.locks) gap ∙ last-part F m sh p gap m' l r v

pub most-free : (F : Format) (m m' : Memory) (l : List Entry) (r : Laid F m' l) → Shaped m → Rival m m' → (p : ℕ) → Run m p (length m.locks) → p * m.size + total (after_last l) ≤ after_sets F 0 0 r.tiles
most-free F m m' l r sh v p gap =
    let w = walk-rival F m m' l r v in
    let x = at_gap F m sh p (length m.locks) gap m'.bytes v.long r.tiles w in
    let same : part zero (listed F (locked_at m) (p * m.size) x.rest) ≡ after_last l = sym x.parts ∙ last-part F m sh p gap m' l r v in
    omega (arith, x.useds, ap total same, last-used F (locked_at m) m'.bytes (p * m.size) (open_behind m sh p gap) x.rest (p * m.size) (p * m.size) (omega arith) (omega arith) x.walk)

-- one open entry between others
module _ (e : Entry) (open' : e.sealed ≡ false) (vs : List Entry) where
  skip_at : (k : ℕ) (a : Entry) (l l' : List Entry) → a.sealed ≡ false → part k l' ≡ part k l ++ (e ∷ part zero vs) → part k (a ∷ l') ≡ part k (a ∷ l) ++ (e ∷ part zero vs)
  skip_at zero a l l' f h =
      cond-false a.sealed [] (a ∷ part zero l') f ∙ ap (λ x. a ∷ x) h ∙ ap (λ x. x ++ (e ∷ part zero vs)) (sym (cond-false a.sealed [] (a ∷ part zero l) f))
  skip_at (suc k) a l l' f h =
      cond-false a.sealed (part k l') (part (suc k) l') f ∙ h ∙ ap (λ x. x ++ (e ∷ part zero vs)) (sym (cond-false a.sealed (part k l) (part (suc k) l) f))

  step-at : (a : Entry) (b : Bool) → a.sealed ≡ b → (l l' : List Entry) → part (seal_count l) l' ≡ part (seal_count l) l ++ (e ∷ part zero vs) → part (cond b (suc (seal_count l)) (seal_count l)) (a ∷ l') ≡ part (cond b (suc (seal_count l)) (seal_count l)) (a ∷ l) ++ (e ∷ part zero vs)
  step-at a true t l l' h =
      cond-true a.sealed (part (seal_count l) l') (part (suc (seal_count l)) l') t ∙ h ∙ ap (λ x. x ++ (e ∷ part zero vs)) (sym (cond-true a.sealed (part (seal_count l) l) (part (suc (seal_count l)) l) t))
  step-at a false f l l' h = skip_at (seal_count l) a l l' f h

  pub part_at : (us : List Entry) → part (seal_count us) (us ++ (e ∷ vs)) ≡ after_last us ++ (e ∷ part zero vs)
  part_at [] = cond-false e.sealed [] (e ∷ part zero vs) open'
  part_at (r ∷ us) = step-at r r.sealed refl us (us ++ (e ∷ vs)) (part_at us)

count-put : (e : Entry) → e.sealed ≡ false → (l : List Entry) → seal_count (l ++ (e ∷ [])) ≡ seal_count l
count-put e f [] = cond-false e.sealed 1 0 f
count-put e f (r ∷ l) = ap (λ c. cond r.sealed (suc c) c) (count-put e f l)

pub total-at : (e : Entry) (ys xs : List Entry) → total (xs ++ (e ∷ ys)) ≡ total xs + least e + total ys
total-at e ys [] = omega arith
total-at e ys (x ∷ xs) = omega (arith, total-at e ys xs)

-- what a put wants after the last sealed entry: the entries there, and the new one
pub put_wants : (l : List Entry) (e : Entry) → e.sealed ≡ false → total (after_last (l ++ (e ∷ []))) ≡ total (after_last l) + least e
put_wants l e f =
    ap total (ap (λ k. part k (l ++ (e ∷ []))) (count-put e f l) ∙ part_at e f [] l) ∙ total-at e [] (after_last l) ∙ omega arith

-- the seals before a set's gap are those of the list before the set
pub seals-to : (F : Format) (m : Memory) (l : List Entry) (r : Laid F m l) (a p q : ℕ) (us vs : List Tile) → r.tiles ≡ us ++ vs → 0 + spread F us ≡ a → Run m p q → p * m.size ≤ a → a < q * m.size → below (p * m.size) (sealed_sets F (locked_at m) 0 r.tiles) ≡ seal_count (listed F (locked_at m) 0 us)
seals-to F m l r a p q us vs is sum gap from to =
    below-same F (locked_at m) m.bytes (p * m.size) a from (λ i x y. gap-clear m r.shaped p q gap i x (omega arith)) r.tiles 0 (walk_of F m l r)
    ∙ ap (λ x. below a (sealed_sets F (locked_at m) 0 x)) is
    ∙ count-front F (locked_at m) m.bytes a vs us 0 sum (subst (λ x. Walk F (locked_at m) m.bytes 0 x) is (walk_of F m l r))
