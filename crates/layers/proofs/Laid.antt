-- A layer laid on a window with two orders gives such a pile again.
use Rattle.std.proofs.Common.{◌≡◌, ℕ, ◌+◌, ◌-◌, ◌^◌, ◌<◌, ◌≤◌, min, Bool, true, false, not, List, [], ◌∷◌, map, length, take, drop, sym, refl, ap, ◌∙◌, ⊎_elim, arith}
use mathlib.Core.List.{reverse_aux}
use Rattle.std.proofs.lemmas.List.{take-map, drop-map, take-take, take_all, drop-take, drop-drop, drop_all, length-take}
use Rattle.std.proofs.lemmas.Bool.{cases_lt}
use Rattle.tags.specs.Tags.{Tag, Shaped}
use Rattle.drivers.specs.Layers.{turn_tag, window_tag, mirror, by_bytes, by_bits}
use Rattle.drivers.proofs.Turning.{turn_twice, bytes_twice, bits_twice}
use Rattle.layers.specs.Piles.{turn_if}

-- an order once more
turn_more : (f : List ℕ → List ℕ) → ((b : List ℕ) → f (f b) ≡ b) → (on : Bool) (t : Tag) → turn_if (not on) f t ≡ turn_tag f (turn_if on f t)
turn_more f twice true t = sym (turn_twice f twice t)
turn_more f twice false t = refl

-- a window of turned blocks
window_turn : (f : List ℕ → List ℕ) (on : Bool) (k n : ℕ) (t : Tag) → turn_if on f (window_tag k n t) ≡ window_tag k n (turn_if on f t)
window_turn f true k n t = λ i. record {
  count = min n (t.count - k);
  size = t.size;
  system = t.system;
  blocks = (sym (ap (take n) (drop-map f k t.blocks) ∙ take-map f n (drop k t.blocks))) i;
  locks = take n (drop k t.locks);
}
window_turn f false k n t = refl

-- the two orders
orders_turn : (on : Bool) (t : Tag) → turn_if on by_bits (turn_tag by_bytes t) ≡ turn_tag by_bytes (turn_if on by_bits t)
orders_turn true t = λ i. record { count = t.count; size = t.size; system = t.system; blocks = all t.blocks i; locks = t.locks }
  where
    onto : (b r : List ℕ) → map mirror (reverse_aux b r) ≡ reverse_aux (map mirror b) (map mirror r)
    onto [] r = refl
    onto (x ∷ b) r = onto b (x ∷ r)

    all : (bs : List (List ℕ)) → map by_bits (map by_bytes bs) ≡ map by_bytes (map by_bits bs)
    all [] = refl
    all (b ∷ bs) = λ i. onto b [] i ∷ all bs i
orders_turn false t = refl

-- two windows
take_twice : {X : Type 0} (m n : ℕ) (xs : List X) → take m (take n xs) ≡ take (min m n) xs
take_twice m n xs =
    ⊎_elim (λ (h : m < n). take-take m n xs (omega arith) ∙ ap (λ j. take j xs) (omega arith))
    (λ (h : n ≤ m). take_all m (take n xs) (omega (arith, length-take n xs)) ∙ ap (λ j. take j xs) (omega arith))
    (cases_lt m n)

drop-taken : {X : Type 0} (k n : ℕ) (xs : List X) → drop k (take n xs) ≡ take (n - k) (drop k xs)
drop-taken k n xs =
    ⊎_elim (λ (h : k < n). let e : n ≡ k + (n - k) = omega arith in ap (λ j. drop k (take j xs)) e ∙ drop-take k (n - k) xs)
    (λ (h : n ≤ k). let e : 0 ≡ n - k = omega arith in drop_all k (take n xs) (omega (arith, length-take n xs)) ∙ ap (λ j. take j (drop k xs)) e)
    (cases_lt k n)

-- none of a few is left past the largest number
drop-far : {X : Type 0} (k : ℕ) (xs : List X) → length xs ≤ 256 → drop (min k (2 ^ 64 - 1)) xs ≡ drop k xs
drop-far k xs few =
    ⊎_elim (λ (h : k < 2 ^ 64). ap (λ j. drop j xs) (omega arith))
    (λ (h : 2 ^ 64 ≤ k). drop_all (min k (2 ^ 64 - 1)) xs (omega arith) ∙ sym (drop_all k xs (omega arith)))
    (cases_lt k (2 ^ 64))

part-more : {X : Type 0} (k n j m : ℕ) (xs : List X) → length xs ≤ 256 → take (min m (n - j)) (drop (min (k + j) (2 ^ 64 - 1)) xs) ≡ take m (drop j (take n (drop k xs)))
part-more k n j m xs few =
    ap (take (min m (n - j))) (drop-far (k + j) xs few ∙ sym (drop-drop j k xs))
    ∙ sym (take_twice m (n - j) (drop j (drop k xs)))
    ∙ ap (take m) (sym (drop-taken j n (drop k xs)))

window_more : (k n j m : ℕ) (t : Tag) → Shaped t → window_tag (min (k + j) (2 ^ 64 - 1)) (min m (n - j)) t ≡ window_tag j m (window_tag k n t)
window_more k n j m t s =
    let e : min (min m (n - j)) (t.count - min (k + j) (2 ^ 64 - 1)) ≡ min m (min n (t.count - k) - j) = omega (arith, s.few) in
    λ i. record {
      count = e i;
      size = t.size;
      system = t.system;
      blocks = part-more k n j m t.blocks (omega (arith, s.many, s.few)) i;
      locks = part-more k n j m t.locks (omega (arith, s.flags, s.few)) i;
    }

-- a pile of the window from k on of n blocks, with the byte order by y and the bit order by x
module _ (k n : ℕ) (y x : Bool) (t : Tag) where
  abbrev pile : Tag
  pile = turn_if x by_bits (turn_if y by_bytes (window_tag k n t))

  pub laid-bits : turn_if (not x) by_bits (turn_if y by_bytes (window_tag k n t)) ≡ turn_tag by_bits pile
  laid-bits = turn_more by_bits bits_twice x (turn_if y by_bytes (window_tag k n t))

  pub laid-bytes : turn_if x by_bits (turn_if (not y) by_bytes (window_tag k n t)) ≡ turn_tag by_bytes pile
  laid-bytes =
      ap (turn_if x by_bits) (turn_more by_bytes bytes_twice y (window_tag k n t)) ∙ orders_turn x (turn_if y by_bytes (window_tag k n t))

  pub laid_window : (j m a b : ℕ) → Shaped t → a ≡ min (k + j) (2 ^ 64 - 1) → b ≡ min m (n - j) → turn_if x by_bits (turn_if y by_bytes (window_tag a b t)) ≡ window_tag j m pile
  laid_window j m a b s p q =
      (λ i. turn_if x by_bits (turn_if y by_bytes (window_tag (p i) (q i) t)))
      ∙ ap (λ w. turn_if x by_bits (turn_if y by_bytes w)) (window_more k n j m t s)
      ∙ ap (turn_if x by_bits) (window_turn by_bytes y j m (window_tag k n t))
      ∙ window_turn by_bits x j m (turn_if y by_bytes (window_tag k n t))
