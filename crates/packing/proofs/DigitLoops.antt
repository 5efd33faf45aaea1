-- What the loops over digits keep.
use Rattle.std.proofs.Common.{◌≡◌, ℕ, suc, ◌+◌, ◌-◌, ◌*◌, ◌/◌, ◌%◌, ◌^◌, ◌<◌, ◌≤◌, true, ◌&&◌, eqb, leb, List, [], ◌∷◌, map, length, get_or, take, Ok, Err, sym, refl, ap, ◌∙◌, subst, ⊎_elim, mul_comm, pow-suc, arith}
use native.Mathlib.Nat.{pow-le-pow_right, pow-le-pow_left}
use Rattle.std.specs.List.{AllByRecursion}
use Rattle.std.specs.Int.Digits.{digits_of, number_from_digits, AllBelowBase}
use Rattle.std.proofs.lemmas.Int.Digits.{digits_of_step, length-digits_of_step, length-digits_of-le, all_below_base_digits_of, number_digits_of, number_lt, number_more}
use Rattle.std.proofs.lemmas.List.{length-map, length-take-le, get_or-map, get_or-take, get_or_push, take_all, take_at, take-take}
use Rattle.std.proofs.ByRecursion.{All-get_or, All-take}
use Rattle.std.proofs.lemmas.Bool.{cases_eq, cases_lt, ne_eqb, le-leb, lt-leb, leb-true, and_parts, and_from, and_left, and_right, cond-true, cond-false, cond_both}
use Rattle.codes.specs.Table.{within}
use Rattle.codes.specs.declared.fault.Fault.TheVariants.{TooLarge}
use Rattle.codes.specs.Table.{decimal, largest, unpacked_integer}
use Rattle.codes.proofs.Letters.{all-within}
use Rattle.packing.specs.Packing.{said, Measured}
use Rattle.packing.proofs.Meaning.{measured_by}

-- the number so far is under a power of the base
pub front-lt : (b m i : ℕ) (ds : List ℕ) → 0 < b → AllBelowBase b ds → i ≤ length ds → i ≤ m → number_from_digits b (take i ds) < b ^ m
front-lt b m i ds pos u in' le =
    let small : number_from_digits b (take i ds) < b ^ length (take i ds) = number_lt b (take i ds) (All-take (λ d. d < b) i ds u) in
    let n = length-take-le i ds in' in
    let top : b ^ i ≤ b ^ m = pow-le-pow_right pos le in
    omega (arith, top, subst (λ k. number_from_digits b (take i ds) < b ^ k) n small)

-- digits that are counted from the byte that stands for zero
module _ (base zero : ℕ) (x : List ℕ) (some : 1 ≤ base) (h : within zero (zero + base - 1) x ≡ true) where
  abbrev pub counts : List ℕ
  counts = map (λ b. b - zero) x

  counts-long : length (map (λ b. b - zero) x) ≡ length x
  counts-long = length-map x (λ b. b - zero)

  pub digit_here : (i : ℕ) → i < length x → (zero ≤ get_or x i 0) × (get_or x i 0 ≤ zero + base - 1)
  digit_here i in' = All-get_or (λ b. (zero ≤ b) × (b ≤ zero + base - 1)) x i 0 in' (all-within zero (zero + base - 1) x h)

  under_base : AllBelowBase base (map (λ b. b - zero) x)
  under_base = All-map x (all-within zero (zero + base - 1) x h)
    where
      All-map : (y : List ℕ) → AllByRecursion (λ b. (zero ≤ b) × (b ≤ zero + base - 1)) y → AllBelowBase base (map (λ b. b - zero) y)
      All-map [] a = tt
      All-map (b ∷ y) a = (omega (arith, a.0, some), All-map y a.1)

  module _ (i v : ℕ) (in' : i < length x) (e : v ≡ number_from_digits base (take i (map (λ b. b - zero) x))) where
    pub digit-more : v * base + (get_or x i 0 - zero) ≡ number_from_digits base (take (i + 1) (map (λ b. b - zero) x))
    digit-more = (λ j. e j * base + sym (get_or-map (λ b. b - zero) x i 0 0 in') j) ∙ sym (number_more base (map (λ b. b - zero) x) i (omega (arith, counts-long)))

    pub digit-fits : base ^ length x ≤ 2 ^ 64 → v * base + (get_or x i 0 - zero) < 2 ^ 64
    digit-fits few = omega (arith, few, digit-more, front-lt base (length x) (i + 1) (map (λ b. b - zero) x) some under_base (omega (arith, counts-long)) (omega arith))

  pub digits-all : (i v : ℕ) → length x ≤ i → v ≡ number_from_digits base (take i (map (λ b. b - zero) x)) → v ≡ number_from_digits base (map (λ b. b - zero) x)
  digits-all i v le e = e ∙ ap (number_from_digits base) (take_all i (map (λ b. b - zero) x) (omega (arith, counts-long)))

-- bytes are digits to the base 256
pub bytes_within : (x : List ℕ) → ((i : ℕ) → i < length x → get_or x i 0 < 256) → within 0 (0 + 256 - 1) x ≡ true
bytes_within [] h = refl
bytes_within (b ∷ x) h = and_from _ _ (and_from _ _ (le-leb 0 b (omega arith)) (le-leb b 255 (omega (arith, h 0 (omega arith))))) (bytes_within x (λ i in'. h (suc i) (omega arith)))

pub less_none : (x : List ℕ) → map (λ b. b - 0) x ≡ x
less_none [] = refl
less_none (b ∷ x) = let e : b - 0 ≡ b = omega arith in (λ j. e j ∷ less_none x j)

-- a number between two powers of the base has one digit more than the lower power says
pub digits-between : (b n k : ℕ) → 2 ≤ b → b ^ k ≤ n → n < b * b ^ k → k + 1 ≡ length (digits_of b n)
digits-between b n k two low high =
    let next : b * b ^ k ≡ b ^ suc k = mul_comm b (b ^ k) ∙ sym (pow-suc b k) in
    let most : length (digits_of b n) ≤ suc k = length-digits_of-le b (suc k) n two (subst (λ m. n < m) next high) in
    let under : n < b ^ length (digits_of b n) = subst (λ m. m < b ^ length (digits_of b n)) (number_digits_of b n two) (number_lt b (digits_of b n) (all_below_base_digits_of b n two)) in
    ⊎_elim
    (λ more. omega (arith, most, more))
    (λ less. let top : b ^ length (digits_of b n) ≤ b ^ k = pow-le-pow_right (omega (arith, two)) less in absurd (omega (arith, top, under, low)))
    (cases_lt k (length (digits_of b n)))

pub at-most_64 : (b n : ℕ) → 2 ≤ b → n < 2 ^ 64 → length (digits_of b n) ≤ 64
at-most_64 b n two small = length-digits_of-le b 64 n two (omega (arith, pow-le-pow_left two 64))

some_digits : (b v : ℕ) → 0 < length (digits_of b v) → 0 < v
some_digits b v h = ⊎_elim (λ z. absurd (omega (arith, h, ap (λ n. length (digits_of b n)) z))) (λ ne. ⊎_elim (λ l. l) (λ g. absurd (ne (omega arith))) (cases_lt 0 v)) (cases_eq v 0)

-- the front of a number's digits
module _ (b v k : ℕ) (ds : List ℕ) (two : 2 ≤ b) (e : digits_of b v ≡ take k ds) (in' : k ≤ length ds) (some : 0 < k) where
  long : length (digits_of b v) ≡ k
  long = ap length e ∙ length-take-le k ds in'

  positive : 0 < v
  positive = some_digits b v (omega (arith, long))

  shorter : length (digits_of b (v / b)) ≡ k - 1
  shorter = omega (arith, long, length-digits_of_step b v two positive)

  pub front_cut : digits_of b (v / b) ≡ take (k - 1) ds
  front_cut =
      sym (take_at (digits_of b (v / b)) (v % b ∷ []) (k - 1) shorter) ∙ ap (take (k - 1)) (sym (digits_of_step b v two positive) ∙ e) ∙ take-take (k - 1) k ds (omega arith)

  pub front-last : v % b ≡ get_or ds (k - 1) 0
  front-last =
      sym (get_or_push (digits_of b (v / b)) (v % b) 0 (k - 1) shorter) ∙ ap (λ l. get_or l (k - 1) 0) (sym (digits_of_step b v two positive) ∙ e) ∙ get_or-take k ds (k - 1) 0 (omega arith)

-- decimal digits as they are written
pub decimal-some : (n : ℕ) → (n ≡ 0 → ⊥) → decimal n ≡ map (λ d. 0x30 + d) (digits_of 10 n)
decimal-some n ne = cond-false (eqb n 0) (0x30 ∷ []) (map (λ d. 0x30 + d) (digits_of 10 n)) (ne_eqb n 0 ne)

pub decimal-long : (n : ℕ) → (n ≡ 0 → ⊥) → length (decimal n) ≡ length (digits_of 10 n)
decimal-long n ne = ap length (decimal-some n ne) ∙ length-map (digits_of 10 n) (λ d. 0x30 + d)

pub decimal-get_or : (n i : ℕ) → (n ≡ 0 → ⊥) → i < length (digits_of 10 n) → 0x30 + get_or (digits_of 10 n) i 0 ≡ get_or (decimal n) i 0
decimal-get_or n i ne h = sym (ap (λ l. get_or l i 0) (decimal-some n ne) ∙ get_or-map (λ d. 0x30 + d) (digits_of 10 n) i 0 0 h)

pub digit_lt : (n i : ℕ) → i < length (digits_of 10 n) → get_or (digits_of 10 n) i 0 < 10
digit_lt n i h = All-get_or (λ d. d < 10) (digits_of 10 n) i 0 h (all_below_base_digits_of 10 n (omega arith))

pub decimal-zero : (n i : ℕ) → n ≡ 0 → i < length (decimal n) → 0x30 ≡ get_or (decimal n) i 0
decimal-zero n i z h =
    let one : decimal n ≡ 0x30 ∷ [] = ap decimal z in
    let first : i ≡ 0 = omega (arith, ap length one) in
    sym ((λ j. get_or (one j) (first j) 0))

-- what the first n bytes say as an integer
module _ (bs : List ℕ) (n v : ℕ) (in' : n ≤ length bs) (e : v ≡ number_from_digits 256 (take n bs)) where
  said_by : n ≤ 8 → v ≤ largest → unpacked_integer (take n bs) ≡ Ok (decimal v)
  said_by few le =
      cond-true (leb (length (take n bs)) 8 && leb (number_from_digits 256 (take n bs)) largest) (Ok (decimal (number_from_digits 256 (take n bs)))) (Err TooLarge) (and_from _ _ (le-leb (length (take n bs)) 8 (omega (arith, length-take-le n bs in'))) (le-leb (number_from_digits 256 (take n bs)) largest (omega (arith, e)))) ∙ ap (λ m. Ok (decimal m)) (sym e)

  pub integer-object : (r : ℕ) → n ≤ 8 → v ≤ largest → r ≡ length (decimal v) → Measured (unpacked_integer (take n bs)) (Ok r)
  integer-object r few le long = measured_by (unpacked_integer (take n bs)) (decimal v) r (said_by few le) long

  pub integer_large : largest < v → unpacked_integer (take n bs) ≡ Err TooLarge
  integer_large gt = cond-false (leb (length (take n bs)) 8 && leb (number_from_digits 256 (take n bs)) largest) (Ok (decimal (number_from_digits 256 (take n bs)))) (Err TooLarge) (and_right _ _ (lt-leb (number_from_digits 256 (take n bs)) largest (omega (arith, e))))

pub integer-long : (bs : List ℕ) (n : ℕ) → n ≤ length bs → 8 < n → unpacked_integer (take n bs) ≡ Err TooLarge
integer-long bs n in' gt = cond-false (leb (length (take n bs)) 8 && leb (number_from_digits 256 (take n bs)) largest) (Ok (decimal (number_from_digits 256 (take n bs)))) (Err TooLarge) (and_left _ _ (lt-leb (length (take n bs)) 8 (omega (arith, length-take-le n bs in'))))

-- where bytes say an integer at all, they are few, and it is its decimal digits
pub integer-said : (gs : List ℕ) (i : ℕ) → i < length (said (unpacked_integer gs)) → (length gs ≤ 8) × (said (unpacked_integer gs) ≡ decimal (number_from_digits 256 gs))
integer-said gs i =
    cond_both (leb (length gs) 8 && leb (number_from_digits 256 gs) largest) (Ok (decimal (number_from_digits 256 gs))) (Err TooLarge) (λ r. i < length (said r) → (length gs ≤ 8) × (said r ≡ decimal (number_from_digits 256 gs)))
    (λ t h. (leb-true _ 8 (and_parts _ _ t).0, refl))
    (λ f h. absurd (omega arith))
