-- A set part by part: what each part leaves to read, and the set as far as it is read.
use Rattle.std.proofs.Common.{◌≡◌, ℕ, ◌+◌, ◌-◌, ◌≤◌, List, length, take, drop, sym, ap, ◌∙◌, arith, length-append, length-drop}
use Rattle.std.proofs.lemmas.List.{take_all}
use Rattle.sets.specs.Sets.{Name, name_size, long, offset_size}
use Rattle.sets.specs.Parsing.{Read, got, bad, then, run, offset, identifier, size_of_object}
use Rattle.sets.proofs.Parts.{offset_owned, identifier_owned, length_owned, run_owned}
use Rattle.sets.proofs.Fronts.{made, pad_on, object_on}

-- a slice to the end of the image is what stands from there on
pub from-here : (p : ℕ) (xs : List ℕ) (k : ℕ) (q : Read ℕ) → q ≡ offset p (take (length xs - k) (drop k xs)) → q ≡ offset p (drop k xs)
from-here p xs k q h = h ∙ ap (offset p) (take_all (length xs - k) (drop k xs) (omega (arith, length-drop k xs)))

-- how many bytes a part takes
module _ (l m : List ℕ) where
  pub offset-left : (p e : ℕ) → got e m ≡ offset p l → length l ≡ offset_size e + length m
  offset-left p e q =
      let o = offset_owned p l m e (sym q) in
      omega (arith, ap length o.cut, length-append o.own m, o.kept)

  pub name-left : (b : ℕ) (n : Name) → 1 ≤ b → got n m ≡ identifier b l → length l ≡ name_size n + length m
  name-left b n some q =
      let o = identifier_owned b l m n some (sym q) in
      omega (arith, ap length o.cut, length-append o.own m, o.kept.0)

  pub length-left : (k : ℕ) → got k m ≡ size_of_object l → length l ≡ long k + length m
  length-left k q =
      let o = length_owned l m k (sym q) in
      omega (arith, ap length o.cut, length-append o.own m, o.kept.0)

  pub run-many : (k : ℕ) (o : List ℕ) → got o m ≡ run k l → length o ≡ k
  run-many k o q = (run_owned k l m o (sym q)).kept.1

-- object and pad, by the runs that hold them
module _ (p e : ℕ) (n : Name) where
  pub object-read : (k : ℕ) (o l m : List ℕ) → got o m ≡ run k l → object_on p e n k l ≡ pad_on p e n o m
  object-read k o l m h = ap (λ q. then q (λ o r. pad_on p e n o r)) (sym h)

  pub object-missed : (k w : ℕ) (l : List ℕ) → bad w ≡ run k l → object_on p e n k l ≡ bad w
  object-missed k w l h = ap (λ q. then q (λ o r. pad_on p e n o r)) (sym h)

  pub pad-read : (k : ℕ) (o pad l m : List ℕ) → k ≡ e - 1 → got pad m ≡ run k l → pad_on p e n o l ≡ got (made p e n o) m
  pad-read k o pad l m is h = ap (λ j. then (run j l) (λ pad r. got (made p e n o) r)) (sym is) ∙ ap (λ q. then q (λ pad r. got (made p e n o) r)) (sym h)

  pub pad-missed : (k w : ℕ) (o l : List ℕ) → k ≡ e - 1 → bad w ≡ run k l → pad_on p e n o l ≡ bad w
  pad-missed k w o l is h = ap (λ j. then (run j l) (λ pad r. got (made p e n o) r)) (sym is) ∙ ap (λ q. then q (λ pad r. got (made p e n o) r)) (sym h)
