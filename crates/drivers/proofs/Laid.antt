-- What a driver's calls do where the tag lies in memory.
use Rattle.std.proofs.Common.{◌≡◌, ℕ, ◌+◌, ◌*◌, ◌<◌, ◌≤◌, Bool, true, false, List, ◌++◌, length, get_or, take, drop, set, Ok, Err, sym, ap, ◌∙◌, arith, length-append}
use lib.Seq.{take-set-lt}
use borrow.Rule.Slice.PartMut.{put_mid}
use Rattle.std.proofs.lemmas.List.{get_or-take, drop-drop, length-take-le, length-drop}
use Rattle.tags.specs.Tags.{Tag, Shaped, cut, laid, fits}
use Rattle.tags.proofs.Cuts.{get_or-cut, set-cut, put, block-end, laid-shaped}
use Rattle.tags.proofs.Limits.{fits-parts}
use Rattle.drivers.specs.declared.faults.DriverFault.TheVariants.{Locked}
use Rattle.drivers.specs.Questions.{shut, locked_answer, read_answer, read_buffer}
use Rattle.drivers.specs.Changes.{write_answer, write_tag, lock_answer, lock_tag}
use Rattle.drivers.proofs.Granted.{locked-told, read_granted, read_leaves, write_granted, write_refused, write_leaves, lock_granted, lock_leaves}

-- on memory and flags of exactly its size
pub fit_shaped : (n b s : ℕ) (m : List ℕ) (l : List Bool) → fits n b (length m) (length l) ≡ true → Shaped (laid n b s m l)
fit_shaped n b s m l e =
    let p = fits-parts n b (length m) (length l) e in
    laid-shaped n b s m l (omega (arith, p.2)) (omega (arith, p.3)) p.0 p.1

put_is : (from got m : List ℕ) (a b k z : ℕ) → length from ≡ b → got ≡ from → a ≡ k * b → z ≡ b → put_mid a z m got ≡ put m (k * b) from
put_is from got m a b k z e is at long =
    (λ i. take (at i) m ++ (is i ++ drop (long i) (drop (at i) m)))
    ∙ ap (λ r. take (k * b) m ++ (from ++ r)) (drop-drop b (k * b) m ∙ ap (λ j. drop j m) (omega arith))

-- z bytes written into memory at a are block k written
pub laid_write : (n b s : ℕ) (m : List ℕ) (l : List Bool) (k : ℕ) → k < n → n * b ≤ length m → (from got : List ℕ) (a z : ℕ) → length from ≡ b → get_or l k false ≡ false → got ≡ from → a ≡ k * b → z ≡ b → laid n b s (put_mid a z m got) l ≡ write_tag (laid n b s m l) k from
laid_write n b s m l k h room from got a z e unlocked is at long =
    let t = laid n b s m l in
    let g = write_granted t k h (length from) e (get_or-take n l k false h ∙ unlocked) in
    ap (λ q. laid n b s q l) (put_is from got m a b k z e is at long)
    ∙ ap (λ q. record { count = n; size = b; system = s; blocks = q; locks = take n l }) (sym (set-cut n b k m from room e h))
    ∙ write_leaves t k (Ok tt) from g

module _ (n b s : ℕ) (m : List ℕ) (l : List Bool) (k : ℕ) (h : k < n) (room : n * b ≤ length m) where
  abbrev t : Tag
  t = laid n b s m l

  pub block_inside : k * b + b ≤ length m
  block_inside = omega (arith, block-end k n b h)

  same_lock : shut t k ≡ get_or l k false
  same_lock = get_or-take n l k false h

  pub laid-locked : Ok (get_or l k false) ≡ locked_answer t k
  laid-locked = ap Ok (sym same_lock) ∙ locked-told t k h

  -- the part of z bytes from a on was read
  pub laid-read : (out got : List ℕ) (a z : ℕ) → length out ≡ b → got ≡ take z (drop a m) → a ≡ k * b → z ≡ b → (Ok tt ≡ read_answer t k (length out)) × (got ≡ read_buffer t k out)
  laid-read out got a z e is at long =
      let g = read_granted t k h (length out) e in
      (g, is ∙ (λ i. take (long i) (drop (at i) m)) ∙ sym (get_or-cut n b k m h) ∙ read_leaves t k (Ok tt) out g)

  pub laid-refused : (from : List ℕ) → length from ≡ b → get_or l k false ≡ true → (Err (Locked k) ≡ write_answer t k (length from)) × (t ≡ write_tag t k from)
  laid-refused from e locked =
      let g = write_refused t k h (length from) e (same_lock ∙ locked) in
      (g, write_leaves t k (Err (Locked k)) from g)

  -- the part of z bytes from a on was written: this is granted, leaves the block written, and keeps the memory's length
  pub laid_written : (from got : List ℕ) (a z : ℕ) → length from ≡ b → get_or l k false ≡ false → got ≡ from → a ≡ k * b → z ≡ b → (Ok tt ≡ write_answer t k (length from)) × (laid n b s (put_mid a z m got) l ≡ write_tag t k from) × (length (put_mid a z m got) ≡ length m)
  laid_written from got a z e unlocked is at long =
      let inside = block_inside in
      let len : length (put m (k * b) from) ≡ length m =
      omega (arith, length-append (take (k * b) m) (from ++ drop (k * b + length from) m), length-append from (drop (k * b + length from) m), length-take-le (k * b) m (omega arith), length-drop (k * b + length from) m) in (
        write_granted t k h (length from) e (same_lock ∙ unlocked),
        laid_write n b s m l k h room from got a z e unlocked is at long,
        ap length (put_is from got m a b k z e is at long) ∙ len,
      )

  pub laid_lock : (Ok tt ≡ lock_answer t k) × (laid n b s m (set l k true) ≡ lock_tag t k)
  laid_lock =
      let g = lock_granted t k h in
      (g, ap (λ q. record { count = n; size = b; system = s; blocks = cut n b m; locks = q }) (take-set-lt n l k true h) ∙ lock_leaves t k (Ok tt) g)
