-- Readers at an address of a memory.
use Rattle.std.proofs.Common.{◌≡◌, ℕ, suc, ◌+◌, ◌-◌, ◌*◌, ◌<◌, ◌≤◌, Bool, true, false, cond, not, ◌&&◌, ◌||◌, eqb, ltb, leb, ◌⊎◌, List, length, get_or, take, drop, sym, ap, ◌∙◌, ⊎_elim, add-one, arith, length-drop}
use Rattle.std.proofs.lemmas.List.{drop_more, drop_all, drop-drop, at_drop_more, at_drop_all}
use Rattle.std.proofs.lemmas.Bool.{eq-eqb, ne_eqb, lt-ltb, le-ltb, le-leb, lt-leb, cond-true, cond-false, and_from, and_left, and_right, or_from, or_left, or_right}
use Rattle.sets.specs.Sets.{Name, bare, byte, led}
use Rattle.sets.specs.Parsing.{Read, got, bad, then, one, run, offset, arcs, whole_arcs, lead, identifier, second, first_length, size_of_object}

pub one_here : (xs : List ℕ) (at : ℕ) → at < length xs → one (drop at xs) ≡ got (get_or xs at 0) (drop (at + 1) xs)
one_here xs at h = ap one (drop_more xs at 0 h)

pub one-past : (xs : List ℕ) (at : ℕ) → length xs ≤ at → one (drop at xs) ≡ bad 8
one-past xs at h = ap one (drop_all at xs h)

pub run_here : (n : ℕ) (xs : List ℕ) (at : ℕ) → n ≤ length xs - at → run n (drop at xs) ≡ got (take n (drop at xs)) (drop (at + n) xs)
run_here n xs at h =
    cond-false (ltb (length (drop at xs)) n) (bad 8) (got (take n (drop at xs)) (drop n (drop at xs))) (le-ltb (length (drop at xs)) n (omega (arith, length-drop at xs)))
    ∙ ap (got (take n (drop at xs))) (drop-drop n at xs)

pub run_past : (n : ℕ) (xs : List ℕ) (at : ℕ) → length xs - at < n → run n (drop at xs) ≡ bad 8
run_past n xs at h = cond-true (ltb (length (drop at xs)) n) (bad 8) (got (take n (drop at xs)) (drop n (drop at xs))) (lt-ltb (length (drop at xs)) n (omega (arith, length-drop at xs)))

-- the offset byte
module _ (p : ℕ) (xs : List ℕ) (at : ℕ) (bit : 0x80 ≤ p) where
  offset-is : offset p (drop at xs) ≡ then (one (drop at xs)) (λ v r. got (suc v) r)
  offset-is = cond-false (ltb p 0x80) (got 0 (drop at xs)) (then (one (drop at xs)) (λ v r. got (suc v) r)) (le-ltb p 0x80 bit)

  pub offset-past : length xs ≤ at → bad 8 ≡ offset p (drop at xs)
  offset-past h = sym (offset-is ∙ ap (λ q. then q (λ v r. got (suc v) r)) (one-past xs at h))

  pub offset_here : at < length xs → got (get_or xs at 0 + 1) (drop (at + 1) xs) ≡ offset p (drop at xs)
  offset_here h = ap (λ v. got v (drop (at + 1) xs)) (add-one (get_or xs at 0)) ∙ sym (offset-is ∙ ap (λ q. then q (λ v r. got (suc v) r)) (one_here xs at h))

-- the identifier
module _ (n : ℕ) (xs : List ℕ) (at : ℕ) (full : 15 ≤ n) where
  id_is : identifier n (drop at xs) ≡ then (one (drop at xs)) lead
  id_is = cond-false (ltb n 15) (got (bare n) (drop at xs)) (then (one (drop at xs)) lead) (le-ltb n 15 full)

  pub id_past : length xs ≤ at → bad 8 ≡ identifier n (drop at xs)
  id_past h = sym (id_is ∙ ap (λ q. then q lead) (one-past xs at h))

  pub id_here : at < length xs → identifier n (drop at xs) ≡ lead (get_or xs at 0) (drop (at + 1) xs)
  id_here h = id_is ∙ ap (λ q. then q lead) (one_here xs at h)

module _ (b : ℕ) (l : List ℕ) where
  abbrev ran : Read Name
  ran = then (run (b - 0x7f) l) whole_arcs

  abbrev more : Read Name
  more = cond (ltb b 0x80 || ltb 0x9f b) (bad 9) ran

  pub lead-byte : b ≤ 0x70 → lead b l ≡ got (byte (b + 15)) l
  lead-byte h = cond-true (leb b 0x70) (got (byte (b + 15)) l) more (le-leb b 0x70 h)

  pub lead-wrong : 0x70 < b → (b < 0x80) ⊎ (0x9f < b) → lead b l ≡ bad 9
  lead-wrong h w =
      cond-false (leb b 0x70) (got (byte (b + 15)) l) more (lt-leb b 0x70 h)
      ∙ cond-true (ltb b 0x80 || ltb 0x9f b) (bad 9) ran (⊎_elim (λ a. or_left (ltb b 0x80) (ltb 0x9f b) (lt-ltb b 0x80 a)) (λ a. or_right (ltb b 0x80) (ltb 0x9f b) (lt-ltb 0x9f b a)) w)

  pub lead_runs : 0x80 ≤ b → b ≤ 0x9f → lead b l ≡ then (run (b - 0x7f) l) whole_arcs
  lead_runs h g =
      cond-false (leb b 0x70) (got (byte (b + 15)) l) more (lt-leb b 0x70 (omega arith))
      ∙ cond-false (ltb b 0x80 || ltb 0x9f b) (bad 9) ran (or_from (ltb b 0x80) (ltb 0x9f b) (le-ltb b 0x80 h) (le-ltb 0x9f b g))

-- every exit of the identifier behind a lead byte
module _ (n : ℕ) (xs : List ℕ) (at : ℕ) (full : 15 ≤ n) (in' : at < length xs) where
  abbrev b : ℕ
  b = get_or xs at 0

  pub id_byte : b ≤ 0x70 → got (byte (b + 15)) (drop (at + 1) xs) ≡ identifier n (drop at xs)
  id_byte h = sym (id_here n xs at full in' ∙ lead-byte b (drop (at + 1) xs) h)

  pub id_wrong : 0x70 < b → (b < 0x80) ⊎ (0x9f < b) → bad 9 ≡ identifier n (drop at xs)
  id_wrong h w = sym (id_here n xs at full in' ∙ lead-wrong b (drop (at + 1) xs) h w)

  module _ (low : 0x80 ≤ b) (high : b ≤ 0x9f) where
    id-runs : identifier n (drop at xs) ≡ then (run (b - 0x7f) (drop (at + 1) xs)) whole_arcs
    id-runs = id_here n xs at full in' ∙ lead_runs b (drop (at + 1) xs) low high

    pub id-short : length xs - (at + 1) < b - 0x7f → bad 8 ≡ identifier n (drop at xs)
    id-short h = sym (id-runs ∙ ap (λ q. then q whole_arcs) (run_past (b - 0x7f) xs (at + 1) h))

    module _ (whole : b - 0x7f ≤ length xs - (at + 1)) (c : List ℕ) (is : c ≡ take (b - 0x7f) (drop (at + 1) xs)) where
      id-reads : identifier n (drop at xs) ≡ whole_arcs c (drop (at + 1 + (b - 0x7f)) xs)
      id-reads = id-runs ∙ ap (λ q. then q whole_arcs) (run_here (b - 0x7f) xs (at + 1) whole) ∙ ap (λ q. whole_arcs q (drop (at + 1 + (b - 0x7f)) xs)) (sym is)

      pub id-arcs : arcs true c ≡ false → bad 10 ≡ identifier n (drop at xs)
      id-arcs h = sym (id-reads ∙ cond-false (arcs true c) (got (led c) (drop (at + 1 + (b - 0x7f)) xs)) (bad 10) h)

      pub id-led : arcs true c ≡ true → got (led c) (drop (at + 1 + (b - 0x7f)) xs) ≡ identifier n (drop at xs)
      id-led h = sym (id-reads ∙ cond-true (arcs true c) (got (led c) (drop (at + 1 + (b - 0x7f)) xs)) (bad 10) h)

-- the length
pub length-past : (xs : List ℕ) (at : ℕ) → length xs ≤ at → bad 8 ≡ size_of_object (drop at xs)
length-past xs at h = sym (ap (λ q. then q first_length) (one-past xs at h))

module _ (xs : List ℕ) (at : ℕ) (in' : at < length xs) where
  abbrev f : ℕ
  f = get_or xs at 0

  abbrev l : List ℕ
  l = drop (at + 1) xs

  length_here : size_of_object (drop at xs) ≡ first_length f l
  length_here = ap (λ q. then q first_length) (one_here xs at in')

  short-one : f < 0x80 → first_length f l ≡ cond (eqb f 0) (bad 12) (got f l)
  short-one h = cond-true (ltb f 0x80) (cond (eqb f 0) (bad 12) (got f l)) (then (one l) (second (f - 0x80))) (lt-ltb f 0x80 h)

  pub length_empty : f ≡ 0 → bad 12 ≡ size_of_object (drop at xs)
  length_empty h = sym (length_here ∙ short-one (omega arith) ∙ cond-true (eqb f 0) (bad 12) (got f l) (eq-eqb f 0 h))

  pub length-one : f < 0x80 → (f ≡ 0 → ⊥) → got f l ≡ size_of_object (drop at xs)
  length-one h g = sym (length_here ∙ short-one h ∙ cond-false (eqb f 0) (bad 12) (got f l) (ne_eqb f 0 g))

  module _ (two : 0x80 ≤ f) where
    long-is : size_of_object (drop at xs) ≡ then (one l) (second (f - 0x80))
    long-is = length_here ∙ cond-false (ltb f 0x80) (cond (eqb f 0) (bad 12) (got f l)) (then (one l) (second (f - 0x80))) (le-ltb f 0x80 two)

    pub length-short : length xs ≤ at + 1 → bad 8 ≡ size_of_object (drop at xs)
    length-short h = sym (long-is ∙ ap (λ q. then q (second (f - 0x80))) (one-past xs (at + 1) h))

    module _ (there : at + 1 < length xs) (m : ℕ) (is : m ≡ get_or xs (at + 1) 0) where
      abbrev v : ℕ
      v = (f - 0x80) * 0x80 + m

      rest : List ℕ
      rest = drop (at + 1 + 1) xs

      second_is : size_of_object (drop at xs) ≡ second (f - 0x80) m (drop (at + 1 + 1) xs)
      second_is = long-is ∙ ap (λ q. then q (second (f - 0x80))) (one_here xs (at + 1) there) ∙ ap (λ q. second (f - 0x80) q (drop (at + 1 + 1) xs)) (sym is)

      pub length-wrong : (0x80 ≤ m) ⊎ (v < 0x80) → bad 11 ≡ size_of_object (drop at xs)
      length-wrong w =
          sym (second_is ∙ cond-false (ltb m 0x80 && leb 0x80 v) (got v (drop (at + 1 + 1) xs)) (bad 11) (⊎_elim (λ a. and_left (ltb m 0x80) (leb 0x80 v) (le-ltb m 0x80 a)) (λ a. and_right (ltb m 0x80) (leb 0x80 v) (lt-leb 0x80 v a)) w))

      pub length_two : m < 0x80 → 0x80 ≤ v → got v (drop (at + 2) xs) ≡ size_of_object (drop at xs)
      length_two h g =
          ap (λ k. got v (drop k xs)) (omega arith) ∙ sym (second_is ∙ cond-true (ltb m 0x80 && leb 0x80 v) (got v (drop (at + 1 + 1) xs)) (bad 11) (and_from (ltb m 0x80) (leb 0x80 v) (lt-ltb m 0x80 h) (le-leb 0x80 v g)))

-- arcs from an index on
pub arcs-more : (begins : Bool) (xs : List ℕ) (i : ℕ) → i < length xs → arcs begins (drop i xs) ≡ (not (begins && eqb (get_or xs i 0) 0x80) && arcs (ltb (get_or xs i 0) 0x80) (drop (i + 1) xs))
unfolding arcs
arcs-more begins xs i h = at_drop_more (arcs begins) xs i 0 h

pub arcs-all : (begins : Bool) (xs : List ℕ) (i : ℕ) → length xs ≤ i → arcs begins (drop i xs) ≡ begins
unfolding arcs
arcs-all begins xs i h = at_drop_all (arcs begins) xs i h

pub arcs-next : (begins : Bool) (xs : List ℕ) (i : ℕ) → i < length xs → (begins && eqb (get_or xs i 0) 0x80) ≡ false → arcs begins (drop i xs) ≡ arcs (ltb (get_or xs i 0) 0x80) (drop (i + 1) xs)
arcs-next begins xs i h e = arcs-more begins xs i h ∙ ap (λ t. not t && arcs (ltb (get_or xs i 0) 0x80) (drop (i + 1) xs)) e

pub arcs-stop : (begins : Bool) (xs : List ℕ) (i : ℕ) → i < length xs → begins ≡ true → get_or xs i 0 ≡ 0x80 → arcs begins (drop i xs) ≡ false
arcs-stop begins xs i h e g = arcs-more begins xs i h ∙ ap (λ t. not t && arcs (ltb (get_or xs i 0) 0x80) (drop (i + 1) xs)) (and_from begins (eqb (get_or xs i 0) 0x80) e (eq-eqb (get_or xs i 0) 0x80 g))
