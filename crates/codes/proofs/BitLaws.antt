-- Laws of bits, groups and packing, for every width.
use Rattle.std.proofs.Common.{◌≡◌, ℕ, zero, suc, ◌+◌, ◌-◌, ◌*◌, ◌/◌, ◌%◌, ◌^◌, ◌<◌, ◌≤◌, Bool, true, false, cond, ◌&&◌, eqb, leb, List, [], ◌∷◌, ◌++◌, length, take, drop, Ok, Err, Result, sym, refl, ap, ◌∙◌, ⊎_elim, append_assoc, le_trans, add-suc, mul-le-mul_right, mod-eq_of_lt, mul_assoc, suc-mul, mul_comm, add_comm, suc-add, pow-suc, zero-add, zero-mul, div-mul-le_self, add-one, arith, length-append, length-drop, length-take, pow_pos, pow-add, shr-shr}
use native.Mathlib.Nat.{mul-add-mod_self_right, pow-succ', mul-add-div_right, mod-one}
use lib.Arith.{digits_lt, digits_div, digits_mod}
use lib.Pow.{high, mod-pow-add}
use Rattle.std.specs.Int.Digits.{AllBelowBase}
use Rattle.std.proofs.lemmas.List.{take_at, drop_at, drop-drop, length-take-le, take-append-le, get_or_push, take-append-drop, length_push, take-take, drop-take, nil_from_length}
use Rattle.std.proofs.ByRecursion.{All-take, All-drop, All-append}
use Rattle.std.proofs.lemmas.Bool.{cases_lt, eq-eqb, le-leb, and_left, and_right, and_from, cond-true, cond-false, cond_both, lt-leb}
use Rattle.codes.specs.Bits.{bits, val, spread, groups, bytes_for, spare, padding, packed, ends, trimmed}

-- the whole groups of bs, or the count of them where the bits behind are no padding
abbrev pub checked : ℕ → ℕ → ℕ → List ℕ → List ℕ → Result (List ℕ) ℕ
checked w p r gs rest = cond (eqb (val rest) (val (take r (bits w p)))) (Ok (trimmed w p r gs)) (Err (length gs))

unfoldable pub unpacked : ℕ → ℕ → List ℕ → Result (List ℕ) ℕ
unpacked w p bs =
    let n = (length bs * 8) / w in
    checked w p ((length bs * 8) % w) (groups w n (spread 8 bs)) (drop (n * w) (spread 8 bs))

pub length-bits : (k n : ℕ) → length (bits k n) ≡ k
unfolding bits
length-bits zero n = refl
length-bits (suc k) n = ap suc (length-bits k n)

-- bits above the k-th do not count
pow_up : (d k : ℕ) → 2 ^ (d + suc k) ≡ 2 ^ d * 2 * 2 ^ k
pow_up d k = pow-add 2 d (suc k) ∙ ap (λ m. 2 ^ d * m) (pow-suc 2 k ∙ mul_comm (2 ^ k) 2) ∙ sym (mul_assoc (2 ^ d) 2 (2 ^ k))

pub bits-low : (k d x y : ℕ) → bits k (x * 2 ^ (d + k) + y) ≡ bits k y
unfolding bits
bits-low zero d x y = refl
bits-low (suc k) d x y =
    let e : x * 2 ^ (d + suc k) + y ≡ (x * 2 ^ d * 2) * 2 ^ k + y = ap (λ m. x * m + y) (pow_up d k) ∙ ap (λ m. m + y) (sym (mul_assoc x (2 ^ d * 2) (2 ^ k)) ∙ ap (λ m. m * 2 ^ k) (sym (mul_assoc x (2 ^ d) 2))) in
    let top : (x * 2 ^ (d + suc k) + y) / 2 ^ k % 2 ≡ y / 2 ^ k % 2 =
    ap (λ m. m / 2 ^ k % 2) e ∙ ap (λ m. m % 2) (mul-add-div_right (pow_pos k) (x * 2 ^ d * 2) y) ∙ mul-add-mod_self_right (x * 2 ^ d) 2 (y / 2 ^ k) in
    let rest : bits k (x * 2 ^ (d + suc k) + y) ≡ bits k y = ap (λ m. bits k (x * 2 ^ m + y)) (add-suc d k ∙ sym (suc-add d k)) ∙ bits-low k (suc d) x y in
    λ i. top i ∷ rest i

-- bits of two numbers written one behind the other
pub bits_join : (a b x y : ℕ) → y < 2 ^ b → bits (a + b) (x * 2 ^ b + y) ≡ bits a x ++ bits b y
unfolding bits
bits_join zero b x y h =
    ap (λ m. bits m (x * 2 ^ b + y)) (zero-add b) ∙ ap (λ m. bits b (x * 2 ^ m + y)) (sym (zero-add b)) ∙ bits-low b 0 x y
bits_join (suc a) b x y h =
    let top : (x * 2 ^ b + y) / 2 ^ (a + b) % 2 ≡ x / 2 ^ a % 2 =
    ap (λ m. m % 2) (ap (λ m. (x * 2 ^ b + y) / 2 ^ m) (add_comm a b) ∙ sym (shr-shr (x * 2 ^ b + y) b a) ∙ ap (λ m. m / 2 ^ a) (high x b h)) in
    ap (λ m. bits m (x * 2 ^ b + y)) (suc-add a b) ∙ (λ i. top i ∷ bits_join a b x y h i)

pub val-bits : (k n : ℕ) → val (bits k n) ≡ n % 2 ^ k
unfolding bits val
val-bits zero n = sym (mod-one n)
val-bits (suc k) n =
    (λ i. n / 2 ^ k % 2 * 2 ^ length-bits k n i + val-bits k n i) ∙ sym (mod-pow-add n 1 k) ∙ ap (λ m. n % 2 ^ m) (omega arith)

pub val-bits-lt : (k n : ℕ) → n < 2 ^ k → val (bits k n) ≡ n
val-bits-lt k n h = val-bits k n ∙ mod-eq_of_lt h

pub val-lt : (bs : List ℕ) → AllBelowBase 2 bs → val bs < 2 ^ length bs
unfolding val
val-lt [] u = omega arith
val-lt (b ∷ bs) u = rw (pow-succ' 2 (length bs)) (digits_lt u.0 (val-lt bs u.1))

-- the other way round
pub bits-val : (bs : List ℕ) → AllBelowBase 2 bs → bits (length bs) (val bs) ≡ bs
unfolding bits val
bits-val [] u = refl
bits-val (b ∷ bs) u =
    let n = length bs in
    let top : (b * 2 ^ length bs + val bs) / 2 ^ length bs % 2 ≡ b =
    ap (λ m. m % 2) (high b (length bs) (val-lt bs u.1)) ∙ mod-eq_of_lt u.0 in
    let rest : bits (length bs) (b * 2 ^ length bs + val bs) ≡ bs =
    ap (λ m. bits (length bs) (b * 2 ^ m + val bs)) (sym (zero-add (length bs))) ∙ bits-low (length bs) 0 b (val bs) ∙ bits-val bs u.1 in
    λ i. top i ∷ rest i

pub under-bits : (k n : ℕ) → AllBelowBase 2 (bits k n)
unfolding bits
under-bits zero n = tt
under-bits (suc k) n = (omega arith, under-bits k n)

pub under-spread : (w : ℕ) (gs : List ℕ) → AllBelowBase 2 (spread w gs)
unfolding spread
under-spread w [] = tt
under-spread w (g ∷ gs) = All-append (λ d. d < 2) (bits w g) (spread w gs) (under-bits w g) (under-spread w gs)

pub length-spread : (w : ℕ) (gs : List ℕ) → length (spread w gs) ≡ length gs * w
unfolding spread
length-spread w [] = sym (zero-mul w)
length-spread w (g ∷ gs) =
    length-append (bits w g) (spread w gs) ∙ (λ i. length-bits w g i + length-spread w gs i) ∙ add_comm w (length gs * w) ∙ sym (suc-mul (length gs) w)

pub length-groups : (w n : ℕ) (bs : List ℕ) → length (groups w n bs) ≡ n
unfolding groups
length-groups w zero bs = refl
length-groups w (suc n) bs = ap suc (length-groups w n (drop w bs))

-- groups read what spread wrote, whatever follows
pub groups-spread : (w : ℕ) (gs rest : List ℕ) → AllBelowBase (2 ^ w) gs → groups w (length gs) (spread w gs ++ rest) ≡ gs
unfolding groups spread
groups-spread w [] rest u = refl
groups-spread w (g ∷ gs) rest u =
    let same : (bits w g ++ spread w gs) ++ rest ≡ bits w g ++ (spread w gs ++ rest) = append_assoc (bits w g) (spread w gs) rest in
    let top : val (take w ((bits w g ++ spread w gs) ++ rest)) ≡ g =
    ap (λ l. val (take w l)) same ∙ ap val (take_at (bits w g) (spread w gs ++ rest) w (length-bits w g)) ∙ val-bits-lt w g u.0 in
    let more : drop w ((bits w g ++ spread w gs) ++ rest) ≡ spread w gs ++ rest =
    ap (drop w) same ∙ drop_at (bits w g) (spread w gs ++ rest) w (length-bits w g) in
    λ i. top i ∷ (ap (groups w (length gs)) more ∙ groups-spread w gs rest u.1) i

-- spread writes what groups read, where nothing is left over
pub spread-groups : (w n : ℕ) (bs : List ℕ) → AllBelowBase 2 bs → length bs ≡ n * w → spread w (groups w n bs) ≡ bs
unfolding groups spread
spread-groups w zero bs u e = sym (nil_from_length bs (e ∙ zero-mul w))
spread-groups w (suc n) bs u e =
    let long : length bs ≡ n * w + w = e ∙ suc-mul n w in
    let front : bits w (val (take w bs)) ≡ take w bs =
    ap (λ m. bits m (val (take w bs))) (sym (length-take-le w bs (omega arith))) ∙ bits-val (take w bs) (All-take (λ d. d < 2) w bs u) in
    let back : spread w (groups w n (drop w bs)) ≡ drop w bs =
    spread-groups w n (drop w bs) (All-drop (λ d. d < 2) w bs u) (length-drop w bs ∙ omega arith) in
    (λ i. front i ++ back i) ∙ take-append-drop w bs

pub groups-add : (w n m : ℕ) (bs : List ℕ) → groups w (n + m) bs ≡ groups w n bs ++ groups w m (drop (n * w) bs)
unfolding groups
groups-add w zero m bs = ap (λ k. groups w k bs) (zero-add m) ∙ ap (λ k. groups w m (drop k bs)) (sym (zero-mul w))
groups-add w (suc n) m bs =
    ap (λ k. groups w k bs) (suc-add n m) ∙ ap (λ l. val (take w bs) ∷ l) (groups-add w n m (drop w bs) ∙ ap (λ l. groups w n (drop w bs) ++ groups w m l) (drop-drop (n * w) w bs ∙ ap (λ k. drop k bs) (add_comm w (n * w) ∙ sym (suc-mul n w))))

-- what is packed, bit for bit
module _ (w p : ℕ) (gs : List ℕ) (low : 4 ≤ w) where
  pub spare-fits : (length gs * w + spare w (length gs) ≡ bytes_for w (length gs) * 8) × (spare w (length gs) ≤ 7)
  spare-fits = (omega arith, omega arith)

  length-padding : length (padding w p (spare w (length gs))) ≡ spare w (length gs)
  length-padding =
      let two : length (bits w p ++ bits w p) ≡ w + w = length-append (bits w p) (bits w p) ∙ (λ i. length-bits w p i + length-bits w p i) in
      length-take-le (spare w (length gs)) (bits w p ++ bits w p) (omega (arith, spare-fits.1))

  pub spread-packed : spread 8 (packed w p gs) ≡ spread w gs ++ padding w p (spare w (length gs))
  unfolding packed
  spread-packed =
      spread-groups 8 (bytes_for w (length gs)) (spread w gs ++ padding w p (spare w (length gs)))
      (All-append (λ d. d < 2) (spread w gs) _ (under-spread w gs) (All-take (λ d. d < 2) (spare w (length gs)) (bits w p ++ bits w p) (All-append (λ d. d < 2) (bits w p) (bits w p) (under-bits w p) (under-bits w p))))
      (length-append (spread w gs) _ ∙ (λ i. length-spread w gs i + length-padding i) ∙ spare-fits.0)

  pub length-packed : length (packed w p gs) ≡ bytes_for w (length gs)
  unfolding packed
  length-packed = length-groups 8 (bytes_for w (length gs)) _

-- unpacking reads the bits
reads : ℕ → ℕ → ℕ → List ℕ → Result (List ℕ) ℕ
reads w p k all = checked w p (k % w) (groups w (k / w) all) (drop (k / w * w) all)

trims : (w p r : ℕ) (gs : List ℕ) → (w + r ≤ 7 → ends p gs ≡ false) → trimmed w p r gs ≡ gs
trims w p r gs keep =
    cond-false (leb (w + r) 7 && ends p gs) (take (length gs - 1) gs) gs
    (⊎_elim (λ h. and_left (leb (w + r) 7) (ends p gs) (lt-leb (w + r) 7 h)) (λ h. and_right (leb (w + r) 7) (ends p gs) (keep h)) (cases_lt 7 (w + r)))

good : (w p r : ℕ) (gs rest out : List ℕ) → rest ≡ take r (bits w p) → trimmed w p r gs ≡ out → checked w p r gs rest ≡ Ok out
good w p r gs rest out e t = cond-true _ _ _ (eq-eqb _ _ (ap val e)) ∙ ap Ok t

-- fewer spare bits than a group
narrow : (w p s : ℕ) (gs : List ℕ) → s < w → AllBelowBase (2 ^ w) gs → (w + s ≤ 7 → ends p gs ≡ false) → reads w p (length gs * w + s) (spread w gs ++ padding w p s) ≡ Ok gs
unfolding reads
narrow w p s gs h small keep =
    let all : List ℕ = spread w gs ++ padding w p s in
    let rest : drop (length gs * w) all ≡ take s (bits w p) =
    drop_at (spread w gs) (padding w p s) (length gs * w) (length-spread w gs) ∙ take-append-le s (bits w p) (bits w p) (omega (arith, length-bits w p)) in
    (λ i. checked w p (digits_mod (length gs) h i) (groups w (digits_div (length gs) h i) all) (drop (digits_div (length gs) h i * w) all)) ∙ ap (λ l. checked w p s l (drop (length gs * w) all)) (groups-spread w gs (padding w p s) small) ∙ good w p s gs (drop (length gs * w) all) gs rest (trims w p s gs keep)

-- a whole group and r bits to spare
wide : (w p r : ℕ) (gs : List ℕ) → r < w → w + r ≤ 7 → p < 2 ^ w → AllBelowBase (2 ^ w) gs → reads w p (suc (length gs) * w + r) (spread w gs ++ padding w p (w + r)) ≡ Ok gs
unfolding reads groups
wide w p r gs h seven fits small =
    let n : ℕ = length gs in
    let all : List ℕ = spread w gs ++ padding w p (w + r) in
    let behind : drop (n * w) all ≡ padding w p (w + r) = drop_at (spread w gs) (padding w p (w + r)) (n * w) (length-spread w gs) in
    let last : val (take w (drop (n * w) all)) ≡ p =
    ap (λ l. val (take w l)) behind ∙ ap val (take-take w (w + r) (bits w p ++ bits w p) (omega arith) ∙ take_at (bits w p) (bits w p) w (length-bits w p)) ∙ val-bits-lt w p fits in
    let whole : groups w (suc n) all ≡ gs ++ (p ∷ []) =
    ap (λ k. groups w k all) (sym (add-one n)) ∙ groups-add w n 1 all ∙ (λ i. groups-spread w gs (padding w p (w + r)) small i ++ (last i ∷ [])) in
    let rest : drop (suc n * w) all ≡ take r (bits w p) =
    ap (λ k. drop k all) (suc-mul n w) ∙ sym (drop-drop w (n * w) all) ∙ ap (drop w) behind ∙ drop-take w r (bits w p ++ bits w p) ∙ ap (take r) (drop_at (bits w p) (bits w p) w (length-bits w p)) in
    let one : length (gs ++ (p ∷ [])) - 1 ≡ n = omega (arith, length_push gs p) in
    let trim : trimmed w p r (gs ++ (p ∷ [])) ≡ gs =
    cond-true _ _ _ (and_from _ _ (le-leb (w + r) 7 seven) (eq-eqb _ _ (get_or_push gs p (suc p) _ (sym one)))) ∙ ap (λ k. take k (gs ++ (p ∷ []))) one ∙ take_at gs (p ∷ []) n refl in
    (λ i. checked w p (digits_mod (suc n) h i) (groups w (digits_div (suc n) h i) all) (drop (digits_div (suc n) h i * w) all)) ∙ ap (λ l. checked w p r l (drop (suc n * w) all)) whole ∙ good w p r (gs ++ (p ∷ [])) (drop (suc n * w) all) gs rest trim

-- the object comes back: a group fits its width, and a last group that would be taken for padding is none
pub round : (w p : ℕ) (gs : List ℕ) → 4 ≤ w → p < 2 ^ w → AllBelowBase (2 ^ w) gs → (w + spare w (length gs) ≤ 7 → ends p gs ≡ false) → unpacked w p (packed w p gs) ≡ Ok gs
unfolding unpacked reads
round w p gs low fits small keep =
    let n : ℕ = length gs in
    let s : ℕ = spare w (length gs) in
    let all : List ℕ = spread w gs ++ padding w p s in
    let long : length (packed w p gs) * 8 ≡ n * w + s = ap (λ k. k * 8) (length-packed w p gs low) ∙ sym (spare-fits w p gs low).0 in
    let at : unpacked w p (packed w p gs) ≡ reads w p (n * w + s) all = (λ i. reads w p (long i) (spread-packed w p gs low i)) in
    at ∙ ⊎_elim (λ h. narrow w p s gs h small keep)
    (λ h.
    let split : w + (s - w) ≡ s = omega arith in
    let total : suc n * w + (s - w) ≡ n * w + s = omega (arith, suc-mul n w) in
    (λ i. reads w p (sym total i) (spread w gs ++ padding w p (sym split i))) ∙ wide w p (s - w) gs (omega (arith, (spare-fits w p gs low).1)) (omega (arith, (spare-fits w p gs low).1)) fits small)
    (cases_lt s w)

-- and takes no fewer bytes in any other packing that reads so
trimmed-le : (w p r : ℕ) (gs : List ℕ) → length (trimmed w p r gs) ≤ length gs
trimmed-le w p r gs = cond_both (leb (w + r) 7 && ends p gs) (take (length gs - 1) gs) gs (λ l. length l ≤ length gs) (λ e. simp length-take (omega arith)) (λ e. omega arith)

count-le : (w p r : ℕ) (gs rest out : List ℕ) (b : Bool) → cond {A = Result (List ℕ) ℕ} b (Ok (trimmed w p r gs)) (Err (length gs)) ≡ Ok out → length out ≤ length gs
count-le w p r gs rest out true e = let s : out ≡ trimmed w p r gs = cc in omega (arith, ap length s, trimmed-le w p r gs)
count-le w p r gs rest out false e = let z : ◌≡◌ {A = ℕ} 0 1 = cc in omega arith

pub shortest : (w p : ℕ) (bs gs : List ℕ) → 0 < w → unpacked w p bs ≡ Ok gs → bytes_for w (length gs) ≤ length bs
unfolding unpacked
shortest w p bs gs pos e =
    let n : ℕ = length bs * 8 / w in
    let few : length gs ≤ n = omega (arith, count-le w p (length bs * 8 % w) (groups w n (spread 8 bs)) [] gs _ e, length-groups w n (spread 8 bs)) in
    let room : length gs * w ≤ length bs * 8 = le_trans (mul-le-mul_right w few) (div-mul-le_self (length bs * 8) w) in
    omega arith
