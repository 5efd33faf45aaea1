-- Blocks zeroed one after another, and the free count of what is left.
use Rattle.std.proofs.Common.{◌≡◌, ℕ, zero, suc, ◌+◌, ◌-◌, ◌*◌, ◌<◌, ◌≤◌, false, List, [], ◌∷◌, ◌++◌, length, get_or, take, drop, set, replicate, Ok, Err, Result, sym, refl, ap, ◌∙◌, append_assoc, suc-mul, arith}
use Rattle.std.specs.List.{flat_map}
use Rattle.std.proofs.lemmas.List.{drop_more, drop_all, set_at, replicate_more, replicate-append-replicate, length-replicate, take-replicate, append-nil}
use Rattle.tags.specs.Tags.{Tag, Shaped}
use Rattle.drivers.specs.declared.faults.DriverFault.{DriverFault}
use Rattle.drivers.specs.Questions.{shut}
use Rattle.drivers.specs.Changes.{with_block, write_answer, write_tag}
use Rattle.drivers.proofs.Granted.{write_granted, write_leaves}
use Rattle.sets.specs.Parsing.{parse}
use Rattle.sets.specs.Scans.{scan_by, next, placed, free}
use Rattle.sets.specs.Readings.{found}
use Rattle.calls.specs.Starts.{free_count}
use Rattle.calls.specs.Openings.{zeros, erased, formatted}

-- the first k blocks are zeros
abbrev pub erased_to : Tag → ℕ → Tag
erased_to t k = record { count = t.count; size = t.size; system = t.system; blocks = replicate k (zeros t.size) ++ drop k t.blocks; locks = t.locks }

set_more : (z : List ℕ) (bs : List (List ℕ)) (k : ℕ) → k < length bs → set (replicate k z ++ drop k bs) k z ≡ replicate (k + 1) z ++ drop (k + 1) bs
set_more z bs k h =
    ap (λ q. set (replicate k z ++ q) k z) (drop_more bs k [] h)
    ∙ set_at (replicate k z) (get_or bs k []) (drop (k + 1) bs) z k (length-replicate k z)
    ∙ sym (append_assoc (replicate k z) (z ∷ []) (drop (k + 1) bs))
    ∙ ap (λ q. q ++ drop (k + 1) bs) (replicate_more k z)

-- one block more
module _ (t : Tag) (s : Shaped t) (k : ℕ) (h : k < t.count) (unlocked : shut t k ≡ false) (u : Tag) (is : u ≡ erased_to t k) (z : List ℕ) (zs : z ≡ zeros t.size) where
  granted : Ok tt ≡ write_answer (erased_to t k) k (length z)
  granted = write_granted (erased_to t k) k h (length z) (ap length zs ∙ length-replicate t.size 0) unlocked

  pub erases_more : write_tag u k z ≡ erased_to t (k + 1)
  erases_more =
      ap (λ v. write_tag v k z) is
      ∙ sym (write_leaves (erased_to t k) k (Ok tt) z granted)
      ∙ ap (with_block (erased_to t k) k) zs
      ∙ ap (λ q. record { count = t.count; size = t.size; system = t.system; blocks = q; locks = t.locks }) (set_more (zeros t.size) t.blocks k (omega (arith, s.many)))

  pub erases : (f : DriverFault) → Err f ≡ write_answer u k (length z) → ⊥
  erases f e =
      let q : ◌≡◌ {A = Result (Unit {0}) DriverFault} (Err f) (Ok tt) = e ∙ ap (λ v. write_answer v k (length z)) is ∙ sym granted in
      let y : ◌≡◌ {A = ℕ} 0 1 = cc in
      omega arith

pub erased-none : (t : Tag) → t ≡ erased_to t 0
erased-none t = refl

pub erased-all : (t : Tag) → Shaped t → (k : ℕ) → k ≡ t.count → erased_to t k ≡ erased t
erased-all t s k e =
    ap (λ q. record { count = t.count; size = t.size; system = t.system; blocks = q; locks = t.locks })
    ((λ i. replicate (e i) (zeros t.size) ++ drop (e i) t.blocks) ∙ ap (λ q. replicate t.count (zeros t.size) ++ q) (drop_all t.count t.blocks (omega (arith, s.many))) ∙ append-nil (replicate t.count (zeros t.size)))

-- zeros hold no set
joined_zeros : (n m : ℕ) → flat_map (λ b. b) (replicate n (zeros m)) ≡ zeros (n * m)
joined_zeros zero m = let none : 0 ≡ 0 * m = omega arith in ap zeros none
joined_zeros (suc n) m =
    let more : m + n * m ≡ suc n * m = omega (arith, suc-mul n m) in
    ap (λ q. zeros m ++ q) (joined_zeros n m) ∙ replicate-append-replicate m (n * m) 0 ∙ ap zeros more

found-zeros : (n : ℕ) → found (zeros n) ≡ []
unfolding scan_by next placed parse
found-zeros zero = refl
found-zeros (suc n) = refl

pub all-free : (t : Tag) (byte : ℕ) → t.count * t.size ≡ free_count (formatted t byte)
all-free t byte =
    let n = t.count * t.size in
    let none : n ≡ length (zeros n) - 0 = omega (arith, length-replicate {A = ℕ} n 0) in
    none ∙ ap (λ fs. free (length (zeros n)) fs) (sym (found-zeros n)) ∙ ap (λ xs. free (length xs) (found xs)) (sym (joined_zeros t.count t.size))

pub zeros-are : (size n : ℕ) → size ≤ 32 → size ≡ n → take size (zeros 32) ≡ zeros n
zeros-are size n h e = take-replicate size 32 0 (omega arith) ∙ ap zeros e
