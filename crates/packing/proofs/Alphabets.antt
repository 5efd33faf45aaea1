-- An alphabet's row of the table, and what its loops keep.
use Rattle.std.proofs.Common.{◌≡◌, ℕ, zero, suc, ◌+◌, ◌-◌, ◌*◌, ◌%◌, ◌^◌, ◌<◌, ◌≤◌, Bool, true, false, not, ◌&&◌, eqb, ltb, leb, List, [], ◌∷◌, map, length, get_or, take, Ok, Err, sym, ap, ◌∙◌, subst, ⊎_elim, mod-lt, arith, pow_pos}
use Rattle.std.proofs.lemmas.List.{length-map, length-take-le, get_or-take, get_or-map}
use Rattle.std.proofs.lemmas.Nat.{one_shl}
use Rattle.std.proofs.lemmas.Bool.{and_left, and_right, le-leb, lt-leb, le-ltb, lt-ltb, ne_eqb, eq-eqb, cases_Bool, cond-true, cond-false, cond_both}
use Rattle.codes.specs.Table.{within}
use Rattle.codes.specs.declared.fault.Fault.TheVariants.{NoCharacter}
use Rattle.codes.specs.Table.{letter, upto, many, blank_end, permitted}
use Rattle.packing.specs.Packing.{said, Measured}
use Rattle.packing.proofs.Meaning.{measured_by}
use Rattle.packing.specs.Coded.{lettered}
use Rattle.packing.specs.Rows.{Listed}

module _ {k w p least lo hi : ℕ} {blank : Bool} (l : Listed k w p least lo hi blank) where
  -- which objects the code is for, as the code finds it
  module _ (x : List ℕ) where
    pub suit-few : length x < least → false ≡ permitted k x
    suit-few h = sym (l.permits x ∙ and_left _ _ (and_left _ _ (lt-leb least (length x) h)))

    pub suit-other : false ≡ within lo hi x → false ≡ permitted k x
    suit-other h = sym (l.permits x ∙ and_left _ _ (and_right (many least x) _ (sym h)))

    module _ (enough : least ≤ length x) (all : true ≡ within lo hi x) where
      rest : permitted k x ≡ not (blank && blank_end x)
      rest = l.permits x ∙ (λ j. (le-leb least (length x) enough j && sym all j) && not (blank && blank_end x))

      pub suit-end : blank ≡ true → length x % 4 ≡ 0 → not (eqb (get_or x (length x - 1) 0) 0x20) ≡ permitted k x
      suit-end b four = sym (rest ∙ (λ j. not (b j && (eq-eqb (length x % 4) 0 four j && eqb (get_or x (length x - 1) 0) 0x20))))

      pub suit-plain : blank ≡ false → true ≡ permitted k x
      suit-plain b = sym (rest ∙ (λ j. not (b j && blank_end x)))

      pub suit-odd : (length x % 4 ≡ 0 → ⊥) → true ≡ permitted k x
      suit-odd odd = sym (rest ∙ ap not (and_right blank (blank_end x) (and_left _ _ (ne_eqb (length x % 4) 0 odd))))

-- the letters of groups, up to the first above hi
pub upto-more : (hi : ℕ) (x : List ℕ) (i : ℕ) → i ≤ upto hi x → i < length x → get_or x i 0 ≤ hi → i + 1 ≤ upto hi x
upto-more hi [] i h lt le = absurd (omega arith)
upto-more hi (b ∷ x) zero h lt le = omega (arith, cond-true (leb b hi) (suc (upto hi x)) 0 (le-leb b hi le))
upto-more hi (b ∷ x) (suc j) h lt le = ⊎_elim
    (λ t. let e = cond-true (leb b hi) (suc (upto hi x)) 0 t in omega (arith, e, upto-more hi x j (omega (arith, e)) (omega arith) le))
    (λ f. absurd (omega (arith, cond-false (leb b hi) (suc (upto hi x)) 0 f)))
    (cases_Bool (leb b hi))

pub upto-front : (hi : ℕ) (x : List ℕ) (i : ℕ) → i ≤ length x → ((j : ℕ) → j < i → get_or x j 0 ≤ hi) → i ≤ upto hi x
upto-front hi x zero h p = omega arith
upto-front hi x (suc i) h p = omega (arith, upto-more hi x i (upto-front hi x i (omega arith) (λ j l. p j (omega arith))) (omega arith) (p i (omega arith)))

upto-stop : (hi : ℕ) (x : List ℕ) (i : ℕ) → i ≤ upto hi x → i < length x → hi < get_or x i 0 → upto hi x ≡ i
upto-stop hi [] i h lt gt = absurd (omega arith)
upto-stop hi (b ∷ x) zero h lt gt = cond-false (leb b hi) (suc (upto hi x)) 0 (lt-leb b hi gt)
upto-stop hi (b ∷ x) (suc j) h lt gt = ⊎_elim
    (λ t. let e = cond-true (leb b hi) (suc (upto hi x)) 0 t in e ∙ ap suc (upto-stop hi x j (omega (arith, e)) (omega arith) gt))
    (λ f. absurd (omega (arith, cond-false (leb b hi) (suc (upto hi x)) 0 f)))
    (cases_Bool (leb b hi))

module _ (w lo hi : ℕ) (gs : List ℕ) (n : ℕ) (in' : n ≤ length gs) where
  abbrev pub spelt : List ℕ
  spelt = map (letter w lo) (take n gs)

  pub spelt-long : length (map (letter w lo) (take n gs)) ≡ n
  spelt-long = length-map (take n gs) (letter w lo) ∙ length-take-le n gs in'

  pub letter_at : (i : ℕ) → i < n → get_or (map (letter w lo) (take n gs)) i 0 ≡ letter w lo (get_or gs i 0)
  letter_at i lt = get_or-map (letter w lo) (take n gs) i 0 0 (omega (arith, length-take-le n gs in')) ∙ ap (letter w lo) (get_or-take n gs i 0 lt)

  -- the letters before one
  pub lettered-front : (i : ℕ) → i ≤ n → ((j : ℕ) → j < i → letter w lo (get_or gs j 0) ≤ hi) → i ≤ upto hi (map (letter w lo) (take n gs))
  lettered-front i le h = upto-front hi (map (letter w lo) (take n gs)) i (omega (arith, spelt-long)) (λ j l. subst (λ b. b ≤ hi) (sym (letter_at j (omega arith))) (h j l))

  pub lettered-stop : (i : ℕ) → i ≤ upto hi (map (letter w lo) (take n gs)) → i < n → hi < letter w lo (get_or gs i 0) → lettered w lo hi (take n gs) ≡ Err (NoCharacter i)
  unfolding lettered
  lettered-stop i h lt gt =
      let x : List ℕ = map (letter w lo) (take n gs) in
      let at : upto hi (map (letter w lo) (take n gs)) ≡ i = upto-stop hi (map (letter w lo) (take n gs)) i h (omega (arith, spelt-long)) (subst (λ b. hi < b) (sym (letter_at i lt)) gt) in
      cond-true (ltb (upto hi x) (length x)) (Err (NoCharacter (upto hi x))) (Ok x) (lt-ltb (upto hi x) (length x) (omega (arith, at, spelt-long))) ∙ ap (λ k. Err (NoCharacter k)) at

  pub lettered-all : n ≤ upto hi (map (letter w lo) (take n gs)) → Measured (lettered w lo hi (take n gs)) (Ok n)
  unfolding lettered
  lettered-all h =
      let x : List ℕ = map (letter w lo) (take n gs) in
      measured_by (lettered w lo hi (take n gs)) x n (cond-false (ltb (upto hi x) (length x)) (Err (NoCharacter (upto hi x))) (Ok x) (le-ltb (upto hi x) (length x) (omega (arith, spelt-long)))) (sym spelt-long)

  -- where groups mean an object, it is their letters
  pub lettered-said : (i : ℕ) → i < length (said (lettered w lo hi (take n gs))) → (i < n) × (letter w lo (get_or gs i 0) ≡ get_or (said (lettered w lo hi (take n gs))) i 0)
  unfolding lettered
  lettered-said i =
      let x : List ℕ = map (letter w lo) (take n gs) in
      cond_both (ltb (upto hi x) (length x)) (Err (NoCharacter (upto hi x))) (Ok x) (λ r. i < length (said r) → (i < n) × (letter w lo (get_or gs i 0) ≡ get_or (said r) i 0))
      (λ t h. absurd (omega arith))
      (λ f h. (omega (arith, spelt-long), sym (letter_at i (omega (arith, spelt-long)))))

-- as the code works a letter out
pub letter_by : (w lo first g group : ℕ) → w < 32 → first ≡ lo → group ≡ g → first + (group + (1 * 2 ^ w % 2 ^ 32 - first % (1 * 2 ^ w % 2 ^ 32))) % (1 * 2 ^ w % 2 ^ 32) ≡ letter w lo g
letter_by w lo first g group h a b = (λ j. a j + (b j + (one_shl w 32 h j - a j % one_shl w 32 h j)) % one_shl w 32 h j)

pub letter-lt : (w lo g : ℕ) → lo + 2 ^ w ≤ 256 → letter w lo g < 256
letter-lt w lo g h = omega (arith, mod-lt (g + (2 ^ w - lo % 2 ^ w)) (pow_pos w))
