-- What a window makes of a driver's calls.
use Rattle.std.proofs.Common.{◌≡◌, ℕ, ◌+◌, ◌-◌, ◌<◌, ◌≤◌, min, true, false, cond, eqb, ltb, List, [], length, take, drop, set, is_ok, Ok, Err, Result, sym, refl, ap, ◌∙◌, arith}
use lib.Seq.{take-set-lt, drop-set-add}
use Rattle.std.proofs.lemmas.List.{get_or-take, get_or-drop, length-take, length-drop, take_all}
use Rattle.std.proofs.lemmas.Bool.{lt-ltb, cond-true}
use Rattle.tags.specs.Tags.{Tag, Shaped}
use Rattle.drivers.specs.declared.faults.DriverFault.{DriverFault}
use Rattle.drivers.specs.declared.faults.DriverFault.TheVariants.{NoBlock, WrongBuffer, Locked}
use Rattle.drivers.specs.Questions.{shut, locked_answer, read_answer, read_buffer}
use Rattle.drivers.specs.Changes.{with_block, with_lock, write_answer, write_tag, lock_answer, lock_tag}
use Rattle.drivers.specs.Layers.{window_tag, told_at}
use Rattle.drivers.proofs.Granted.{cond_of}

pub window_shaped : (k n : ℕ) (t : Tag) → Shaped t → Shaped (window_tag k n t)
window_shaped k n t s = record {
  many = simp (length-take, length-drop) (ap (λ m. min n (m - k)) s.many);
  each = λ i h. ap length (get_or-take n (drop k t.blocks) i [] (omega arith) ∙ get_or-drop k t.blocks i []) ∙ s.each (k + i) (omega arith);
  flags = simp (length-take, length-drop) (ap (λ m. min n (m - k)) s.flags);
  few = omega (arith, s.few);
  small = s.small;
}

-- a window of all blocks
pub window_all : (n : ℕ) (t : Tag) → Shaped t → t.count ≤ n → window_tag 0 n t ≡ t
window_all n t s h = λ i. record {
  count = (let e : min n (t.count - 0) ≡ t.count = omega arith in e) i;
  size = t.size;
  system = t.system;
  blocks = take_all n t.blocks (omega (arith, s.many)) i;
  locks = take_all n t.locks (omega (arith, s.flags)) i;
}

ok-told : {X : Type 0} (k : ℕ) (r : Result X DriverFault) → is_ok (told_at k r) ≡ is_ok r
ok-told k (Ok x) = refl
ok-told k (Err e) = refl

module _ (t : Tag) (f n k : ℕ) (h : k < min n (t.count - f)) where
  abbrev w : Tag
  w = window_tag f n t

  here : {X : Type 0} (x y : X) → cond (ltb k (min n (t.count - f))) x y ≡ x
  here x y = cond-true (ltb k (min n (t.count - f))) x y (lt-ltb k (min n (t.count - f)) h)

  there : {X : Type 0} (x y : X) → cond (ltb (f + k) t.count) x y ≡ x
  there x y = cond-true (ltb (f + k) t.count) x y (lt-ltb (f + k) t.count (omega arith))

  same_lock : shut w k ≡ shut t (f + k)
  same_lock = get_or-take n (drop f t.locks) k false (omega arith) ∙ get_or-drop f t.locks k false

  in_window : {X : Type 0} (xs : List X) (x : X) → take n (drop f (set xs (f + k) x)) ≡ set (take n (drop f xs)) k x
  in_window xs x = ap (take n) (drop-set-add f xs k x) ∙ take-set-lt n (drop f xs) k x (omega arith)

  pub window_locked : told_at k (locked_answer t (f + k)) ≡ locked_answer w k
  window_locked =
      ap (told_at k) (there (Ok (shut t (f + k))) (Err (NoBlock (f + k)))) ∙ ap Ok (sym same_lock) ∙ sym (here (Ok (shut w k)) (Err (NoBlock k)))

  pub window_read_answer : (m : ℕ) → told_at k (read_answer t (f + k) m) ≡ read_answer w k m
  window_read_answer m =
      ap (told_at k) (there (cond (eqb m t.size) (Ok tt) (Err (WrongBuffer (f + k)))) (Err (NoBlock (f + k))))
      ∙ cond_of (told_at k) (eqb m t.size) (Ok tt) (Err (WrongBuffer (f + k)))
      ∙ sym (here (cond (eqb m t.size) (Ok tt) (Err (WrongBuffer k))) (Err (NoBlock k)))

  pub window_read : (b : List ℕ) → read_buffer t (f + k) b ≡ read_buffer w k b
  window_read b = λ i.
      cond ((sym (ok-told k (read_answer t (f + k) (length b))) ∙ ap is_ok (window_read_answer (length b))) i)
      ((sym (get_or-take n (drop f t.blocks) k [] (omega arith) ∙ get_or-drop f t.blocks k [])) i) b

  pub window_write_answer : (m : ℕ) → told_at k (write_answer t (f + k) m) ≡ write_answer w k m
  window_write_answer m =
      ap (told_at k) (there (cond (eqb m t.size) (cond (shut t (f + k)) (Err (Locked (f + k))) (Ok tt)) (Err (WrongBuffer (f + k)))) (Err (NoBlock (f + k))))
      ∙ cond_of (told_at k) (eqb m t.size) (cond (shut t (f + k)) (Err (Locked (f + k))) (Ok tt)) (Err (WrongBuffer (f + k)))
      ∙ ap (λ a. cond (eqb m t.size) a (Err (WrongBuffer k))) (cond_of (told_at k) (shut t (f + k)) (Err (Locked (f + k))) (Ok tt) ∙ ap (λ s. cond s (Err (Locked k)) (Ok tt)) (sym same_lock))
      ∙ sym (here (cond (eqb m t.size) (cond (shut w k) (Err (Locked k)) (Ok tt)) (Err (WrongBuffer k))) (Err (NoBlock k)))

  pub window_write : (b : List ℕ) → window_tag f n (write_tag t (f + k) b) ≡ write_tag w k b
  window_write b =
      cond_of (window_tag f n) (is_ok (write_answer t (f + k) (length b))) (with_block t (f + k) b) t
      ∙ (λ i. cond ((sym (ok-told k (write_answer t (f + k) (length b))) ∙ ap is_ok (window_write_answer (length b))) i)
      (record { count = min n (t.count - f); size = t.size; system = t.system; blocks = in_window t.blocks b i; locks = take n (drop f t.locks) }) w)

  pub window_lock_answer : told_at k (lock_answer t (f + k)) ≡ lock_answer w k
  window_lock_answer = ap (told_at k) (there (Ok tt) (Err (NoBlock (f + k)))) ∙ sym (here (Ok tt) (Err (NoBlock k)))

  pub window_lock : window_tag f n (lock_tag t (f + k)) ≡ lock_tag w k
  window_lock =
      cond_of (window_tag f n) (is_ok (lock_answer t (f + k))) (with_lock t (f + k)) t
      ∙ (λ i. cond ((sym (ok-told k (lock_answer t (f + k))) ∙ ap is_ok window_lock_answer) i)
      (record { count = min n (t.count - f); size = t.size; system = t.system; blocks = take n (drop f t.blocks); locks = in_window t.locks true i }) w)
