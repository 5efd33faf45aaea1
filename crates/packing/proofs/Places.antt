-- Groups by their places: what the code's arithmetic comes to.
use Rattle.std.proofs.Common.{◌≡◌, ℕ, zero, suc, ◌+◌, ◌-◌, ◌*◌, ◌/◌, ◌%◌, ◌^◌, ◌<◌, ◌≤◌, List, [], ◌∷◌, ◌++◌, length, get_or, sym, refl, ap, ◌∙◌, subst, mul-le-mul_right, mod-lt, add-mul, mul-le-mul_left, one-mul, div-add-mod', div-mul-le_self, arith, pow_mono}
use Rattle.std.specs.Int.Digits.{AllBelowBase}
use Rattle.std.proofs.lemmas.List.{get_or-append_right}
use Rattle.std.proofs.lemmas.Nat.{shl_whole, shl_below, div_below}
use Rattle.codes.specs.Bits.{packed, bytes_for}
use Rattle.codes.specs.Table.{whole}
use Rattle.codes.proofs.BitLaws.{length-packed}
use Rattle.codes.proofs.Cuts.{three, cut_at, packed-cut}

-- three groups shifted together
pub shifted : (f a b c : ℕ) → f ≤ 8 → a < 256 → b < 256 → (a * 2 ^ f % 2 ^ 32 + b) * 2 ^ f % 2 ^ 32 + c ≡ three f a b c
shifted f a b c narrow ha hb =
    let one : a * 2 ^ f % 2 ^ 32 ≡ a * 2 ^ f = shl_whole a 8 f 32 ha (omega arith) in
    let top : 2 ^ (8 + f) ≤ 2 ^ 16 = let le : 8 + f ≤ 16 = omega arith in pow_mono le in
    let low : a * 2 ^ f + b < 2 ^ 17 = omega (arith, shl_below a 8 f ha, top) in
    ap (λ m. (m + b) * 2 ^ f % 2 ^ 32 + c) one ∙ ap (λ m. m + c) (shl_whole (a * 2 ^ f + b) 17 f 32 low (omega arith))

-- a whole group ends inside the bytes
pub inside-bits : (i n w : ℕ) → i < n * 8 / w → i * w + w ≤ n * 8
inside-bits i n w h = let most : (i + 1) * w ≤ n * 8 / w * w = mul-le-mul_right w (omega arith) in omega (arith, add-mul i 1 w, one-mul w, div-mul-le_self (n * 8) w)

pub group-fits : (i n w : ℕ) → n < 2 ^ 63 → i < n * 8 / w → 0 < w → i * w / 8 < n
group-fits i n w long h pos = omega (arith, inside-bits i n w h)

pub group-is : (w i : ℕ) (bs : List ℕ) (k s : ℕ) → 4 ≤ w → w ≤ 8 → AllBelowBase 256 bs → i < length bs * 8 / w → k ≡ i * w / 8 → s ≡ i * w % 8 → three 8 (get_or bs k 0) (get_or bs (k + 1) 0) (get_or bs (k + 2) 0) / 2 ^ (8 + 8 + 8 - s - w) % 2 ^ w ≡ get_or (whole w bs) i 0
group-is w i bs k s low narrow under h ek es = sym (cut_at 8 w (length bs * 8 / w) i k s bs (omega arith) under h (omega arith) (omega arith) (inside-bits i (length bs) w h))

-- counts of groups and bytes fit
pub whole-fits : (n w : ℕ) → n < 2 ^ 63 → 4 ≤ w → n * 8 / w < 2 ^ 64
whole-fits n w long low = div_below (n * 8) w (2 ^ 64) (omega arith) (omega (arith, mul-le-mul_left (2 ^ 64) low))

pub bytes_fit : (n w : ℕ) → w ≤ 8 → n * w / 8 ≤ n
bytes_fit n w narrow = omega (arith, mul-le-mul_left n narrow)

pub bytes-more : (n w : ℕ) → w ≤ 8 → 0 < n * w % 8 → n * w / 8 < n
bytes-more n w narrow some = omega (arith, mul-le-mul_left n narrow)

-- behind an object's groups stands the padding group
padded_two : (p i : ℕ) → i < 2 → get_or (p ∷ p ∷ []) i 0 ≡ p
padded_two p zero h = refl
padded_two p (suc zero) h = refl
padded_two p (suc (suc i)) h = absurd (omega arith)

pub padded_behind : (gs : List ℕ) (p i : ℕ) → length gs ≤ i → i < length gs + 2 → p ≡ get_or (gs ++ (p ∷ p ∷ [])) i 0
padded_behind gs p i ge lt = sym (get_or-append_right gs (p ∷ p ∷ []) (length gs) i 0 refl ge ∙ padded_two p (i - length gs) (omega arith))

-- a byte begins in one of the groups
pub byte_begins : (n w j : ℕ) → 4 ≤ w → j < bytes_for w n → j * 8 / w < n
byte_begins n w j low h = div_below (j * 8) w n (omega arith) (omega arith)

pub byte-is : (w p : ℕ) (gs : List ℕ) (j k s : ℕ) → 4 ≤ w → p < 2 ^ w → AllBelowBase (2 ^ w) gs → j < bytes_for w (length gs) → k ≡ j * 8 / w → s ≡ j * 8 % w → three w (get_or (gs ++ (p ∷ p ∷ [])) k 0) (get_or (gs ++ (p ∷ p ∷ [])) (k + 1) 0) (get_or (gs ++ (p ∷ p ∷ [])) (k + 2) 0) / 2 ^ (w + w + w - s - 8) % 2 ^ 8 ≡ get_or (packed w p gs) j 0
byte-is w p gs j k s low fits small h ek es =
    let at : j * 8 ≡ k * w + s = sym (div-add-mod' (j * 8) w) ∙ (λ i. sym ek i * w + sym es i) in
    let pos : 0 < w = omega arith in
    sym (packed-cut w p gs j k s low fits small h at (subst (λ r. r < w) (sym es) (mod-lt (j * 8) pos)))

pub packed-long : (w' w p n m : ℕ) (gs bytes : List ℕ) → w' ≡ w → n ≡ length gs → 4 ≤ w → packed w p gs ≡ bytes → m ≡ bytes_for w' n → m ≡ length bytes
packed-long w' w p n m gs bytes ew en low is em = em ∙ (λ j. bytes_for (ew j) (en j)) ∙ sym (length-packed w p gs low) ∙ ap length is
