-- A set part by part, at an address of a memory.
use Rattle.std.proofs.Common.{◌≡◌, ℕ, ◌+◌, ◌-◌, ◌%◌, ◌<◌, ◌≤◌, cond, eqb, List, ◌∷◌, length, get_or, take, drop, sym, ap, ◌∙◌, arith, length-append, length-drop}
use Rattle.std.proofs.lemmas.List.{at_drop_more, at_drop_all}
use Rattle.std.proofs.lemmas.Bool.{eq-eqb, ne_eqb, cond-true, cond-false}
use Rattle.sets.specs.Sets.{Name, name_size, long, offset_size, filler}
use Rattle.sets.specs.Parsing.{plain, Step, end, tile, wrong, Read, got, bad, then, offset, identifier, size_of_object, body, told, parse}
use Rattle.sets.proofs.Parts.{Owned, offset_owned, identifier_owned, length_owned}
use Rattle.sets.proofs.Fronts.{made, pad_on, object_on, length_on, name_on, is_set, is-filler, is-end}
use Rattle.sets.proofs.Here.{run_here, run_past}

-- the parts, one after the other
module _ (p : ℕ) where
  pub body_on : (e : ℕ) (l m : List ℕ) → got e m ≡ offset p l → body p l ≡ name_on p e m
  unfolding body
  body_on e l m h = ap (λ q. then q (λ e r. name_on p e r)) (sym h)

  pub body-bad : (n : ℕ) (l : List ℕ) → bad n ≡ offset p l → body p l ≡ bad n
  unfolding body
  body-bad n l h = ap (λ q. then q (λ e r. name_on p e r)) (sym h)

  pub name-next : (e : ℕ) (n : Name) (l m : List ℕ) → got n m ≡ identifier (p % 16) l → name_on p e l ≡ length_on p e n m
  name-next e n l m h = ap (λ q. then q (λ n r. length_on p e n r)) (sym h)

  pub name-bad : (e n : ℕ) (l : List ℕ) → bad n ≡ identifier (p % 16) l → name_on p e l ≡ bad n
  name-bad e n l h = ap (λ q. then q (λ n r. length_on p e n r)) (sym h)

  pub length-next : (e : ℕ) (n : Name) (k : ℕ) (l m : List ℕ) → got k m ≡ size_of_object l → length_on p e n l ≡ object_on p e n k m
  length-next e n k l m h = ap (λ q. then q (λ k r. object_on p e n k r)) (sym h)

  pub length-bad : (e : ℕ) (n : Name) (w : ℕ) (l : List ℕ) → bad w ≡ size_of_object l → length_on p e n l ≡ bad w
  length-bad e n w l h = ap (λ q. then q (λ k r. object_on p e n k r)) (sym h)

  pub to-object : (e : ℕ) (n : Name) (k : ℕ) (l a b c : List ℕ) → got e a ≡ offset p l → got n b ≡ identifier (p % 16) a → got k c ≡ size_of_object b → body p l ≡ object_on p e n k c
  to-object e n k l a b c x y z = body_on e l a x ∙ name-next e n a b y ∙ length-next e n k b c z

  pub object-next : (e : ℕ) (n : Name) (k : ℕ) (xs : List ℕ) (at : ℕ) → k ≤ length xs - at → object_on p e n k (drop at xs) ≡ pad_on p e n (take k (drop at xs)) (drop (at + k) xs)
  object-next e n k xs at h = ap (λ q. then q (λ o r. pad_on p e n o r)) (run_here k xs at h)

  pub object-bad : (e : ℕ) (n : Name) (k : ℕ) (xs : List ℕ) (at : ℕ) → length xs - at < k → object_on p e n k (drop at xs) ≡ bad 8
  object-bad e n k xs at h = ap (λ q. then q (λ o r. pad_on p e n o r)) (run_past k xs at h)

  pub pad-next : (e : ℕ) (n : Name) (o xs : List ℕ) (at : ℕ) → e - 1 ≤ length xs - at → pad_on p e n o (drop at xs) ≡ got (made p e n o) (drop (at + (e - 1)) xs)
  pad-next e n o xs at h = ap (λ q. then q (λ pad r. got (made p e n o) r)) (run_here (e - 1) xs at h)

  pub pad-bad : (e : ℕ) (n : Name) (o xs : List ℕ) (at : ℕ) → length xs - at < e - 1 → pad_on p e n o (drop at xs) ≡ bad 8
  pad-bad e n o xs at h = ap (λ q. then q (λ pad r. got (made p e n o) r)) (run_past (e - 1) xs at h)

-- where what follows a part begins
next-is : {A : Type 0} (r : List ℕ → Read A) (xs : List ℕ) (at next k : ℕ) (a : A) → at ≤ length xs → next ≤ length xs → Owned A r (drop at xs) a (drop next xs) (λ _ n. n ≡ k) → next ≡ at + k
next-is r xs at next k a h g o =
    omega (arith, ap length o.cut, length-append o.own (drop next xs), length-drop at xs, length-drop next xs, o.kept)

module _ (xs : List ℕ) (at next : ℕ) (h : at ≤ length xs) (g : next ≤ length xs) where
  pub offset-next : (p e : ℕ) → got e (drop next xs) ≡ offset p (drop at xs) → next ≡ at + offset_size e
  offset-next p e q =
      let o = offset_owned p (drop at xs) (drop next xs) e (sym q) in
      next-is (offset p) xs at next (offset_size e) e h g (record { own = o.own; cut = o.cut; kept = o.kept; takes = o.takes })

  pub id_next : (b : ℕ) (n : Name) → 1 ≤ b → got n (drop next xs) ≡ identifier b (drop at xs) → next ≡ at + name_size n
  id_next b n some q =
      let o = identifier_owned b (drop at xs) (drop next xs) n some (sym q) in
      next-is (identifier b) xs at next (name_size n) n h g (record { own = o.own; cut = o.cut; kept = o.kept.0; takes = o.takes })

  pub long-next : (k : ℕ) → got k (drop next xs) ≡ size_of_object (drop at xs) → next ≡ at + long k
  long-next k q =
      let o = length_owned (drop at xs) (drop next xs) k (sym q) in
      next-is size_of_object xs at next (long k) k h g (record { own = o.own; cut = o.cut; kept = o.kept.0; takes = o.takes })

-- a step at an address
pub step_end : (xs : List ℕ) (at : ℕ) → length xs ≤ at → end ≡ parse (drop at xs)
unfolding parse
step_end xs at h = sym (at_drop_all parse xs at h)

module _ (xs : List ℕ) (at : ℕ) (h : at < length xs) where
  here : parse (drop at xs) ≡ parse (get_or xs at 0 ∷ drop (at + 1) xs)
  here = at_drop_more parse xs at 0 h

  pub step-zero : get_or xs at 0 ≡ 0 → end ≡ parse (drop at xs)
  step-zero e = sym (here ∙ ap (λ p. parse (p ∷ drop (at + 1) xs)) e ∙ is-end (drop (at + 1) xs))

  pub step-filler : get_or xs at 0 ≡ 0x80 → tile filler ≡ parse (drop at xs)
  step-filler e = sym (here ∙ ap (λ p. parse (p ∷ drop (at + 1) xs)) e ∙ is-filler (drop (at + 1) xs))

  pub step_set : 1 ≤ get_or xs at 0 % 16 → parse (drop at xs) ≡ told (body (get_or xs at 0) (drop (at + 1) xs))
  step_set some = here ∙ is_set (get_or xs at 0) (drop (at + 1) xs) some

  pub step-nibble : (get_or xs at 0 ≡ 0 → ⊥) → (get_or xs at 0 ≡ 0x80 → ⊥) → get_or xs at 0 % 16 ≡ 0 → wrong (plain 7) ≡ parse (drop at xs)
  unfolding parse
  step-nibble a b c =
      let p : ℕ = get_or xs at 0 in
      let l : List ℕ = drop (at + 1) xs in
      let seven : Step = wrong (plain 7) in
      sym (here
      ∙ cond-false (eqb p 0) end (cond (eqb p 0x80) (tile filler) (cond (eqb (p % 16) 0) seven (told (body p l)))) (ne_eqb p 0 a)
      ∙ cond-false (eqb p 0x80) (tile filler) (cond (eqb (p % 16) 0) seven (told (body p l))) (ne_eqb p 0x80 b)
      ∙ cond-true (eqb (p % 16) 0) seven (told (body p l)) (eq-eqb (p % 16) 0 c))
