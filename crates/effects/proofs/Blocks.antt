-- The gaps of a memory, found.
use Rattle.std.proofs.Common.{◌≡◌, ℕ, zero, suc, ◌+◌, ◌-◌, ◌*◌, ◌/◌, ◌<◌, ◌≤◌, Bool, true, false, ltb, ◌⊎◌, List, [], ◌∷◌, length, get_or, drop, sym, refl, ap, ◌∙◌, subst, inl, inr, ⊎_elim, arith, length-drop}
use Rattle.std.proofs.lemmas.Nat.{le-div, div_below}
use Rattle.std.proofs.lemmas.List.{get_or-drop}
use Rattle.std.proofs.lemmas.Bool.{cases_Bool, cases_lt, both_ways, cond-true, cond-false, lt-ltb, le-ltb}
use Rattle.sets.specs.Sets.{size}
use Rattle.sets.specs.Readings.{Memory}
use Rattle.rivals.specs.Memories.{Gap}
use Rattle.rivals.specs.Promises.{Lies}
use Rattle.rivals.proofs.Promised.{open_in_gap}
use Rattle.layout.specs.declared.items.Behind.TheVariants.{Locked, End}
use Rattle.layout.specs.Anew.{Stands}
use Rattle.effects.specs.Blocks.{open_from, open_front, end_first, end_blocks, gap_first, gap_blocks, behind_of, EndGap, BlockGap, OneEnd, OneGap, SetGap, StandsBehind}

-- the open blocks right before a block
record Before (locks : List Bool) (k s : ℕ) : Type 0 where
  low : s ≤ k
  clear : (j : ℕ) → s ≤ j → j < k → get_or locks j false ≡ false
  wall : (s ≡ 0) ⊎ ((0 < s) × (get_or locks (s - 1) false ≡ true))

before : (locks : List Bool) (k : ℕ) → Before locks k (open_from locks k)
unfolding open_from
before locks zero = record { low = omega arith; clear = λ j a b. absurd (omega arith); wall = inl refl }
before locks (suc k) =
    let less = before locks k in
    let low : open_from locks k ≤ k = less.low in
    ⊎_elim
    (λ (t : get_or locks k false ≡ true).
    subst (Before locks (suc k)) (sym (cond-true (get_or locks k false) (suc k) (open_from locks k) t))
    (record { low = omega arith; clear = λ j a b. absurd (omega arith); wall = inr (omega arith, ap (λ j. get_or locks j false) (omega arith) ∙ t) }))
    (λ (f : get_or locks k false ≡ false).
    subst (Before locks (suc k)) (sym (cond-false (get_or locks k false) (suc k) (open_from locks k) f))
    (record {
      low = omega arith;
      clear = λ j a b. ⊎_elim (λ (l : j < k). less.clear j a l) (λ (g : k ≤ j). ap (λ i. get_or locks i false) (omega arith) ∙ f) (cases_lt j k);
      wall = less.wall;
    }))
    (cases_Bool (get_or locks k false))

-- the open blocks at the front
record Front (locks : List Bool) (n : ℕ) : Type 0 where
  few : n ≤ length locks
  clear : (j : ℕ) → j < n → get_or locks j false ≡ false
  wall : (n ≡ length locks) ⊎ (get_or locks n false ≡ true)

front : (locks : List Bool) → Front locks (open_front locks)
unfolding open_front
front [] = record { few = omega arith; clear = λ j a. absurd (omega arith); wall = inl refl }
front (true ∷ locks) = record { few = omega arith; clear = λ j a. absurd (omega arith); wall = inr refl }
front (false ∷ locks) =
    let less = front locks in
    let few : open_front locks ≤ length locks = less.few in
    record { few = omega arith; clear = λ j a. first j a less.clear; wall = ⊎_elim (λ (e : open_front locks ≡ length locks). inl (ap suc e)) (λ (t : get_or locks (open_front locks) false ≡ true). inr t) less.wall }
  where
    first : (j : ℕ) → j < suc (open_front locks) → ((i : ℕ) → i < open_front locks → get_or locks i false ≡ false) → get_or (false ∷ locks) j false ≡ false
    first zero a clear = refl
    first (suc j) a clear = clear j (omega arith)

pub end-gap : EndGap
unfolding end_first end_blocks
end-gap m =
    let b = before m.locks (length m.locks) in
    let low : end_first m ≤ length m.locks = b.low in
    (record { inside = omega arith; clear = λ k a c. b.clear k a (omega arith); start = b.wall; stop = inl (omega arith) }, omega arith)

pub block-gap : BlockGap
unfolding gap_first gap_blocks
block-gap m k in' free =
    let locks : List Bool = m.locks in
    let b = before m.locks k in
    let f = front (drop k m.locks) in
    let low : open_from m.locks k ≤ k = b.low in
    let few : open_front (drop k m.locks) ≤ length (drop k m.locks) = f.few in
    let long : length (drop k m.locks) ≡ length m.locks - k = length-drop k m.locks in
    let some : 0 < open_front (drop k m.locks) =
    ⊎_elim (λ (l : 0 < open_front (drop k m.locks)). l) (λ (g : open_front (drop k m.locks) ≤ 0).
    let none : open_front (drop k m.locks) ≡ 0 = omega arith in
    ⊎_elim (λ (e : open_front (drop k m.locks) ≡ length (drop k m.locks)). omega arith)
    (λ (t : get_or (drop k m.locks) (open_front (drop k m.locks)) false ≡ true).
    let here : k + open_front (drop k m.locks) ≡ k = omega arith in
    absurd (both_ways (get_or m.locks k false) free (ap (λ j. get_or m.locks j false) (sym here) ∙ sym (get_or-drop k m.locks (open_front (drop k m.locks)) false) ∙ t)))
    f.wall) (cases_lt 0 (open_front (drop k m.locks))) in (
      record {
        inside = omega arith;
        clear = λ j a c. ⊎_elim (λ (l : j < k). b.clear j a l) (λ (g : k ≤ j).
            let at : k + (j - k) ≡ j = omega arith in
            ap (λ i. get_or m.locks i false) (sym at) ∙ sym (get_or-drop k m.locks (j - k) false) ∙ f.clear (j - k) (omega arith))
            (cases_lt j k);
        start = b.wall;
        stop = ⊎_elim (λ (e : open_front (drop k m.locks) ≡ length (drop k m.locks)). inl (omega arith))
            (λ (t : get_or (drop k m.locks) (open_front (drop k m.locks)) false ≡ true).
            let at : gap_first m k + gap_blocks m k ≡ k + open_front (drop k m.locks) = omega arith in
            inr (omega arith, ap (λ i. get_or m.locks i false) at ∙ sym (get_or-drop k m.locks (open_front (drop k m.locks)) false) ∙ t))
            f.wall;
      },
      low,
      omega arith,
    )

-- a gap does not begin inside of another, nor end there
module _ (m : Memory) where
  no_start : (p n q l : ℕ) → Gap m p n → Gap m q l → p < q → q ≤ p + n → ⊥
  no_start p n q l g h lt le =
      ⊎_elim (λ (z : q ≡ 0). omega arith) (λ (k : (0 < q) × (get_or m.locks (q - 1) false ≡ true)). both_ways (get_or m.locks (q - 1) false) (g.clear (q - 1) (omega arith) (omega arith)) k.1) h.start

  no_stop : (p n q l : ℕ) → Gap m p n → Gap m q l → q ≤ p + n → p + n < q + l → ⊥
  no_stop p n q l g h le lt =
      let fits : q + l ≤ length m.locks = h.inside in
      ⊎_elim (λ (e : p + n ≡ length m.locks). omega arith) (λ (k : (0 < n) × (get_or m.locks (p + n) false ≡ true)). both_ways (get_or m.locks (p + n) false) (h.clear (p + n) le lt) k.1) g.stop

  pub same_gap : (p n q l k : ℕ) → Gap m p n → Gap m q l → p ≤ k → k < p + n → q ≤ k → k < q + l → (p ≡ q) × (n ≡ l)
  same_gap p n q l k g h a b c d =
      let start : p ≡ q = ⊎_elim (λ (lt : p < q). absurd (no_start p n q l g h lt (omega arith))) (λ (ge : q ≤ p). ⊎_elim (λ (lt : q < p). absurd (no_start q l p n h g lt (omega arith))) (λ (le : p ≤ q). omega arith) (cases_lt q p)) (cases_lt p q) in
      let stop : p + n ≡ q + l = ⊎_elim (λ (lt : p + n < q + l). absurd (no_stop p n q l g h (omega arith) lt)) (λ (ge : q + l ≤ p + n). ⊎_elim (λ (lt : q + l < p + n). absurd (no_stop q l p n h g (omega arith) lt)) (λ (le : p + n ≤ q + l). omega arith) (cases_lt (q + l) (p + n))) (cases_lt (p + n) (q + l)) in
      (start, omega arith)

  same_end : (p n q l : ℕ) → Gap m p n → Gap m q l → p + n ≡ length m.locks → q + l ≡ length m.locks → (p ≡ q) × (n ≡ l)
  same_end p n q l g h a b =
      let start : p ≡ q = ⊎_elim (λ (lt : p < q). absurd (no_start p n q l g h lt (omega arith))) (λ (ge : q ≤ p). ⊎_elim (λ (lt : q < p). absurd (no_start q l p n h g lt (omega arith))) (λ (le : p ≤ q). omega arith) (cases_lt q p)) (cases_lt p q) in
      (start, omega arith)

pub one_end : OneEnd
one_end m p n gap last = let e = end-gap m in same_end m p n (end_first m) (end_blocks m) gap e.0 last e.1

pub one-gap : OneGap
one-gap m p n k gap low high =
    let fits : p + n ≤ length m.locks = gap.inside in
    let b = block-gap m k (omega arith) (gap.clear k low high) in
    same_gap m p n (gap_first m k) (gap_blocks m k) k gap b.0 low high b.1 b.2

pub set-gap : SetGap
set-gap m r sh e fs f gs among free =
    let g = open_in_gap m r sh e fs f gs among free in
    let p : ℕ = g.0 in
    let n : ℕ = g.1 in
    let low : p * m.size ≤ f.at = g.3 in
    let high : f.at + size f.set ≤ (p + n) * m.size = g.4 in
    let k : ℕ = f.at / m.size in
    let below : f.at < (p + n) * m.size = omega arith in
    let one = one-gap m p n (f.at / m.size) g.2 (le-div p f.at m.size sh.some low) (div_below f.at m.size (p + n) sh.some below) in
    let lies : Lies m fs f gs p n = record { among = among; unsealed = free; gap = g.2; from = low; to = below } in
    subst (λ q. Lies m fs f gs q (gap_blocks m (f.at / m.size))) one.0 (subst (λ l. Lies m fs f gs p l) one.1 lies)

pub stands-behind : StandsBehind
unfolding behind_of
stands-behind m p n gap =
    let fits : p + n ≤ length m.locks = gap.inside in
    ⊎_elim (λ (lt : p + n < length m.locks). subst (Stands m p n) (sym (cond-true (ltb (p + n) (length m.locks)) Locked End (lt-ltb (p + n) (length m.locks) lt))) lt)
    (λ (ge : length m.locks ≤ p + n).
    let is : p + n ≡ length m.locks = omega arith in
    subst (Stands m p n) (sym (cond-false (ltb (p + n) (length m.locks)) Locked End (le-ltb (p + n) (length m.locks) ge))) is)
    (cases_lt (p + n) (length m.locks))
