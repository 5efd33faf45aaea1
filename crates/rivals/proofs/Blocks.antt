-- Blocks and bytes.
use Rattle.std.proofs.Common.{◌≡◌, ℕ, zero, suc, ◌+◌, ◌-◌, ◌*◌, ◌/◌, ◌<◌, ◌≤◌, Bool, true, false, ◌⊎◌, List, length, get_or, sym, refl, ap, ◌∙◌, inl, inr, ⊎_elim, mul-le-mul_right, add-mul, mul-lt-mul_of_pos_right, zero-mul, mul-div_cancel, arith}
use lib.Arith.{mul_pred}
use Rattle.std.proofs.lemmas.List.{get_or_past}
use Rattle.std.proofs.lemmas.Bool.{cases_Bool, cases_lt}
use Rattle.std.proofs.lemmas.Nat.{le-div, div_below, div-mul-add}
use Rattle.sets.specs.Readings.{Memory, locked_at}
use Rattle.rivals.specs.Memories.{Shaped, Gap}

-- the blocks of a gap, from the block p up to the block q
pub record Run (m : Memory) (p q : ℕ) : Type 0 where
  pub order : p ≤ q
  pub inside : q ≤ length m.locks
  pub clear : (k : ℕ) → p ≤ k → k < q → get_or m.locks k false ≡ false
  pub start : (p ≡ 0) ⊎ ((0 < p) × (get_or m.locks (p - 1) false ≡ true))
  pub stop : (q ≡ length m.locks) ⊎ ((p < q) × (get_or m.locks q false ≡ true))

pub run_of : (m : Memory) (p n : ℕ) → Gap m p n → Run m p (p + n)
run_of m p n g = record {
  order = omega arith;
  inside = g.inside;
  clear = g.clear;
  start = g.start;
  stop = ⊎_elim (λ (e : p + n ≡ length m.locks). inl e) (λ (k : (0 < n) × (get_or m.locks (p + n) false ≡ true)). inr (omega (arith, k.0), k.1)) g.stop;
}

pub run-bytes : (m : Memory) (p n : ℕ) → (p + n) * m.size ≡ p * m.size + n * m.size
run-bytes m p n = add-mul p n m.size

module _ (m : Memory) (shape : Shaped m) where
  -- past the end nothing is locked
  pub past_end : (i : ℕ) → length m.bytes ≤ i → locked_at m i ≡ false
  past_end i h = get_or_past m.locks (i / m.size) false (le-div (length m.locks) i m.size shape.some (omega (arith, shape.whole)))

  module _ (p q : ℕ) (gap : Run m p q) where
    pub gap-order : p * m.size ≤ q * m.size
    gap-order = mul-le-mul_right m.size gap.order

    pub gap-inside : q * m.size ≤ length m.bytes
    gap-inside = omega (arith, mul-le-mul_right m.size gap.inside, shape.whole)

    pub gap-clear : (i : ℕ) → p * m.size ≤ i → i < q * m.size → locked_at m i ≡ false
    gap-clear i a b = gap.clear (i / m.size) (le-div p i m.size shape.some a) (div_below i m.size q shape.some b)

    pub gap_first : locked_at m (p * m.size) ≡ false
    gap_first =
        ⊎_elim (λ (lt : p < q). gap-clear (p * m.size) (omega arith) (mul-lt-mul_of_pos_right lt shape.some)) (λ (ge : q ≤ p).
        past_end (p * m.size) (⊎_elim (λ (e : q ≡ length m.locks). omega (arith, shape.whole, mul-le-mul_right m.size (le_of e ge))) (λ (k : (p < q) × (get_or m.locks q false ≡ true)). absurd (omega arith)) gap.stop))
        (cases_lt p q)
      where
        le_of : q ≡ length m.locks → q ≤ p → length m.locks ≤ p
        le_of e h = omega arith

    pub gap-start : 0 < p * m.size → locked_at m (p * m.size - 1) ≡ true
    gap-start h =
        ⊎_elim (λ (z : p ≡ 0). absurd (omega (arith, ap (λ x. x * m.size) z, zero-mul m.size))) (λ (k : (0 < p) × (get_or m.locks (p - 1) false ≡ true)).
        ap (λ x. get_or m.locks x false) (ap (λ x. x / m.size) (mul_pred k.0 shape.some) ∙ div-mul-add (p - 1) m.size (m.size - 1) (omega (arith, shape.some))) ∙ k.1)
        gap.start

    pub gap-stop : (q * m.size ≡ length m.bytes) ⊎ (locked_at m (q * m.size) ≡ true)
    gap-stop =
        ⊎_elim (λ (e : q ≡ length m.locks). inl (ap (λ x. x * m.size) e ∙ sym shape.whole)) (λ (k : (p < q) × (get_or m.locks q false ≡ true)). inr (ap (λ x. get_or m.locks x false) (mul-div_cancel q shape.some) ∙ k.1)) gap.stop

-- every open block lies in a gap
module _ (locks : List Bool) where
  down : (k : ℕ) → get_or locks k false ≡ false → (p : ℕ) × (p ≤ k) × ((j : ℕ) → p ≤ j → j ≤ k → get_or locks j false ≡ false) × ((p ≡ 0) ⊎ ((0 < p) × (get_or locks (p - 1) false ≡ true)))
  down zero e = (0, omega arith, (λ j a b. ap (λ x. get_or locks x false) (omega arith) ∙ e), inl refl)
  down (suc k) e =
      ⊎_elim (λ (t : get_or locks k false ≡ true). (suc k, omega arith, (λ j a b. ap (λ x. get_or locks x false) (omega arith) ∙ e), inr (omega arith, ap (λ x. get_or locks x false) (omega arith) ∙ t))) (λ (f : get_or locks k false ≡ false).
      let r = down k f in
      (r.0, omega (arith, r.1), (λ j a b. ⊎_elim (λ (lt : j < suc k). r.2 j a (omega arith)) (λ (ge : suc k ≤ j). ap (λ x. get_or locks x false) (omega arith) ∙ e) (cases_lt j (suc k))), r.3))
      (cases_Bool (get_or locks k false))

  up : (n k : ℕ) → k + n ≡ length locks → (q : ℕ) × (k ≤ q) × (q ≤ length locks) × ((j : ℕ) → k ≤ j → j < q → get_or locks j false ≡ false) × ((q ≡ length locks) ⊎ (get_or locks q false ≡ true))
  up zero k e = (k, omega arith, omega arith, (λ j a b. absurd (omega arith)), inl (omega arith))
  up (suc n) k e =
      ⊎_elim (λ (t : get_or locks k false ≡ true). (k, omega arith, omega arith, (λ j a b. absurd (omega arith)), inr t)) (λ (f : get_or locks k false ≡ false).
      let r = up n (suc k) (omega arith) in
      (r.0, omega (arith, r.1), r.2, (λ j a b. ⊎_elim (λ (lt : k < j). r.3 j (omega arith) b) (λ (ge : j ≤ k). ap (λ x. get_or locks x false) (omega arith) ∙ f) (cases_lt k j)), r.4))
      (cases_Bool (get_or locks k false))

pub gap-around : (m : Memory) (k : ℕ) → k < length m.locks → get_or m.locks k false ≡ false → (p : ℕ) × (n : ℕ) × Gap m p n × (p ≤ k) × (k < p + n)
gap-around m k h e =
    let a = down m.locks k e in
    let b = up m.locks (length m.locks - suc k) (suc k) (omega arith) in
    let p : ℕ = a.0 in
    let q : ℕ = b.0 in
    let pk : p ≤ k = a.1 in
    let kq : suc k ≤ q = b.1 in
    let far : p + (q - p) ≡ q = omega arith in (
      p,
      q - p,
      record {
        inside = omega (arith, b.2);
        clear = λ j x y. ⊎_elim (λ (lt : k < j). b.3 j (omega arith) (omega arith)) (λ (ge : j ≤ k). a.2 j x ge) (cases_lt k j);
        start = a.3;
        stop = ⊎_elim (λ (l : q ≡ length m.locks). inl (far ∙ l)) (λ (t : get_or m.locks q false ≡ true). inr (omega arith, ap (λ x. get_or m.locks x false) far ∙ t)) b.4;
      },
      pk,
      omega arith,
    )
