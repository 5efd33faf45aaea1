-- One group of t bits, out of three neighbouring groups of f bits.
use Rattle.std.proofs.Common.{◌≡◌, ℕ, zero, suc, ◌+◌, ◌-◌, ◌*◌, ◌/◌, ◌%◌, ◌^◌, ◌<◌, ◌≤◌, List, [], ◌∷◌, ◌++◌, length, get_or, take, drop, sym, refl, ap, ◌∙◌, subst, ⊎_elim, append_assoc, append-nil, mul-le-mul_right, mod-lt, mul_assoc, suc-mul, mul_comm, add-mul, add_comm, suc-add, div-add-mod', zero-add, zero-mul, arith, length-append, length-drop, pow_pos, shr_lt}
use native.Mathlib.Nat.{mul-add-div_right, mul-add-mod_self_right}
use lib.Pow.{split}
use lib.Seq.{take-append-add}
use Rattle.std.specs.Int.Digits.{AllBelowBase}
use Rattle.std.proofs.lemmas.List.{take_at, drop_at, drop-drop, drop_more, take-append-le, drop-append-le, drop_all, take-take, drop-take, get_or_append_left, get_or-append_right, get_or_past}
use Rattle.std.proofs.ByRecursion.{All-get_or, All-append}
use Rattle.std.proofs.lemmas.Bool.{cases_lt}
use Rattle.codes.specs.Bits.{bits, val, spread, groups, bytes_for, spare, padding, packed}
use Rattle.codes.proofs.BitLaws.{length-bits, bits_join, val-bits, val-bits-lt, length-spread, spare-fits}

-- the back and the front of a number's bits
pub drop_bits : (a b x : ℕ) → drop a (bits (a + b) x) ≡ bits b x
unfolding bits
drop_bits zero b x = ap (λ k. bits k x) (zero-add b)
drop_bits (suc a) b x = ap (λ k. drop (suc a) (bits k x)) (suc-add a b) ∙ drop_bits a b x

pub take-bits : (a b x : ℕ) → take a (bits (a + b) x) ≡ bits a (x / 2 ^ b)
take-bits a b x =
    ap (λ n. take a (bits (a + b) n)) (sym (split x b)) ∙ ap (take a) (bits_join a b (x / 2 ^ b) (x % 2 ^ b) (mod-lt x (pow_pos b))) ∙ take_at (bits a (x / 2 ^ b)) (bits b (x % 2 ^ b)) a (length-bits a (x / 2 ^ b))

-- groups look no further than their bits
pub get_or-groups : (w n i : ℕ) (bs : List ℕ) → i < n → get_or (groups w n bs) i 0 ≡ val (take w (drop (i * w) bs))
unfolding groups
get_or-groups w zero i bs h = absurd (omega arith)
get_or-groups w (suc n) zero bs h = ap (λ k. val (take w (drop k bs))) (sym (zero-mul w))
get_or-groups w (suc n) (suc i) bs h = get_or-groups w n i (drop w bs) (omega arith) ∙ ap (λ l. val (take w l)) (drop-drop (i * w) w bs ∙ ap (λ k. drop k bs) (omega (arith, suc-mul i w)))

pub spread-append : (w : ℕ) (xs ys : List ℕ) → spread w (xs ++ ys) ≡ spread w xs ++ spread w ys
unfolding spread
spread-append w [] ys = refl
spread-append w (x ∷ xs) ys = ap (λ l. bits w x ++ l) (spread-append w xs ys) ∙ sym (append_assoc (bits w x) (spread w xs) (spread w ys))

pub drop-spread : (w k : ℕ) (gs : List ℕ) → k ≤ length gs → drop (k * w) (spread w gs) ≡ spread w (drop k gs)
unfolding spread
drop-spread w zero gs h = ap (λ k. drop k (spread w gs)) (zero-mul w)
drop-spread w (suc k) [] h = absurd (omega arith)
drop-spread w (suc k) (g ∷ gs) h =
    ap (λ n. drop n (bits w g ++ spread w gs)) (suc-mul k w ∙ add_comm (k * w) w) ∙ sym (drop-drop (k * w) w (bits w g ++ spread w gs)) ∙ ap (drop (k * w)) (drop_at (bits w g) (spread w gs) w (length-bits w g)) ∙ drop-spread w k gs (omega arith)

-- three groups as one number
abbrev pub three : ℕ → ℕ → ℕ → ℕ → ℕ
three f a b c = (a * 2 ^ f + b) * 2 ^ f + c

spread-three : (f a b c : ℕ) (rest : List ℕ) → b < 2 ^ f → c < 2 ^ f → spread f (a ∷ b ∷ c ∷ rest) ≡ bits (f + f + f) (three f a b c) ++ spread f rest
unfolding spread
spread-three f a b c rest hb hc =
    sym (append_assoc (bits f a) (bits f b) (bits f c ++ spread f rest)) ∙ ap (λ l. l ++ (bits f c ++ spread f rest)) (sym (bits_join f f a b hb)) ∙ sym (append_assoc (bits (f + f) (a * 2 ^ f + b)) (bits f c) (spread f rest)) ∙ ap (λ l. l ++ spread f rest) (sym (bits_join (f + f) f (a * 2 ^ f + b) c hc))

field : (m s t x : ℕ) (rest : List ℕ) → s + t ≤ m → val (take t (drop s (bits m x ++ rest))) ≡ x / 2 ^ (m - s - t) % 2 ^ t
field m s t x rest fits =
    let one : s + (m - s) ≡ m = omega arith in
    let two : t + (m - s - t) ≡ m - s = omega arith in
    ap (λ l. val (take t l)) (drop-append-le s (bits m x) rest (omega (arith, length-bits m x)) ∙ ap (λ k. drop s (bits k x) ++ rest) (sym one) ∙ ap (λ l. l ++ rest) (drop_bits s (m - s) x)) ∙ ap val (take-append-le t (bits (m - s) x) rest (omega (arith, length-bits (m - s) x)) ∙ ap (λ k. take t (bits k x)) (sym two) ∙ take-bits t (m - s - t) x) ∙ val-bits t (x / 2 ^ (m - s - t))

-- behind a list stand zeros
abbrev zeros : List ℕ
zeros = 0 ∷ 0 ∷ 0 ∷ []

get_or-zeros : (i : ℕ) → get_or zeros i 0 ≡ 0
get_or-zeros zero = refl
get_or-zeros (suc zero) = refl
get_or-zeros (suc (suc zero)) = refl
get_or-zeros (suc (suc (suc i))) = refl

behind-zero : (gs : List ℕ) (i : ℕ) → get_or (gs ++ zeros) i 0 ≡ get_or gs i 0
behind-zero gs i = ⊎_elim
    (λ h. get_or_append_left gs zeros 0 i h)
    (λ h. get_or-append_right gs zeros (length gs) i 0 refl h ∙ get_or-zeros (i - length gs) ∙ sym (get_or_past gs i 0 h))
    (cases_lt i (length gs))

-- the group of t bits that begins s bits into group k
pub cut_at : (f t n i k s : ℕ) (gs : List ℕ) → 0 < t → AllBelowBase (2 ^ f) gs → i < n → i * t ≡ k * f + s → s + t ≤ f + f + f → i * t + t ≤ length gs * f → get_or (groups t n (spread f gs)) i 0 ≡ three f (get_or gs k 0) (get_or gs (k + 1) 0) (get_or gs (k + 2) 0) / 2 ^ (f + f + f - s - t) % 2 ^ t
cut_at f t n i k s gs pos small lt is fits in' =
    let all : List ℕ = gs ++ zeros in
    let long : length (gs ++ zeros) ≡ length gs + 3 = length-append gs zeros in
    let below : k < length gs = ⊎_elim (λ h. h) (λ h. let more : length gs * f ≤ k * f = mul-le-mul_right f h in absurd (omega arith)) (cases_lt k (length gs)) in
    let under : AllBelowBase (2 ^ f) (gs ++ zeros) = All-append (λ d. d < 2 ^ f) gs zeros small (pow_pos f, (pow_pos f, (pow_pos f, tt))) in
    let b = All-get_or (λ d. d < 2 ^ f) (gs ++ zeros) (k + 1) 0 (omega arith) under in
    let c = All-get_or (λ d. d < 2 ^ f) (gs ++ zeros) (k + 1 + 1) 0 (omega arith) under in
    let opened : drop k (gs ++ zeros) ≡ get_or (gs ++ zeros) k 0 ∷ get_or (gs ++ zeros) (k + 1) 0 ∷ get_or (gs ++ zeros) (k + 1 + 1) 0 ∷ drop (k + 1 + 1 + 1) (gs ++ zeros) =
    drop_more (gs ++ zeros) k 0 (omega arith) ∙ ap (λ l. get_or (gs ++ zeros) k 0 ∷ l) (drop_more (gs ++ zeros) (k + 1) 0 (omega arith) ∙ ap (λ l. get_or (gs ++ zeros) (k + 1) 0 ∷ l) (drop_more (gs ++ zeros) (k + 1 + 1) 0 (omega arith))) in
    let wider : take t (drop (i * t) (spread f gs)) ≡ take t (drop (i * t) (spread f (gs ++ zeros))) =
    sym (ap (λ l. take t (drop (i * t) l)) (spread-append f gs zeros) ∙ ap (take t) (drop-append-le (i * t) (spread f gs) (spread f zeros) (omega (arith, length-spread f gs))) ∙ take-append-le t (drop (i * t) (spread f gs)) (spread f zeros) (omega (arith, length-drop (i * t) (spread f gs), length-spread f gs))) in
    let here : drop (i * t) (spread f (gs ++ zeros)) ≡ drop s (spread f (drop k (gs ++ zeros))) =
    ap (λ m. drop m (spread f (gs ++ zeros))) is ∙ sym (drop-drop s (k * f) (spread f (gs ++ zeros))) ∙ ap (drop s) (drop-spread f k (gs ++ zeros) (omega arith)) in
    let two : k + 1 + 1 ≡ k + 2 = omega arith in
    get_or-groups t n i (spread f gs) lt ∙ ap val (wider ∙ ap (take t) (here ∙ ap (λ l. drop s (spread f l)) opened ∙ ap (drop s) (spread-three f _ _ _ (drop (k + 1 + 1 + 1) (gs ++ zeros)) b c))) ∙ field (f + f + f) s t (three f (get_or (gs ++ zeros) k 0) (get_or (gs ++ zeros) (k + 1) 0) (get_or (gs ++ zeros) (k + 1 + 1) 0)) (spread f (drop (k + 1 + 1 + 1) (gs ++ zeros))) fits
    ∙ (λ j. three f (behind-zero gs k j) (behind-zero gs (k + 1) j) ((behind-zero gs (k + 1 + 1) ∙ ap (λ m. get_or gs m 0) two) j) / 2 ^ (f + f + f - s - t) % 2 ^ t)

-- where the i-th group of t bits begins among groups of f bits, by numbers that stay small
pub place-group : (i t f : ℕ) → 0 < f → i / f * t + i % f * t / f ≡ i * t / f
place-group i t f pos =
    sym (ap (λ m. m * t / f) (sym (div-add-mod' i f)) ∙ ap (λ m. m / f) (add-mul (i / f * f) (i % f) t ∙ ap (λ m. m + i % f * t) (mul_assoc (i / f) f t ∙ ap (λ m. i / f * m) (mul_comm f t) ∙ sym (mul_assoc (i / f) t f))) ∙ mul-add-div_right pos (i / f * t) (i % f * t))

pub place_bit : (i t f : ℕ) → i % f * t % f ≡ i * t % f
place_bit i t f =
    sym (ap (λ m. m * t % f) (sym (div-add-mod' i f)) ∙ ap (λ m. m % f) (add-mul (i / f * f) (i % f) t ∙ ap (λ m. m + i % f * t) (mul_assoc (i / f) f t ∙ ap (λ m. i / f * m) (mul_comm f t) ∙ sym (mul_assoc (i / f) t f))) ∙ mul-add-mod_self_right (i / f * t) f (i % f * t))

-- a byte of packed groups, behind which the padding group stands twice
pub packed-cut : (w p : ℕ) (gs : List ℕ) (j k s : ℕ) → 4 ≤ w → p < 2 ^ w → AllBelowBase (2 ^ w) gs → j < bytes_for w (length gs) → j * 8 ≡ k * w + s → s < w → get_or (packed w p gs) j 0 ≡ three w (get_or (gs ++ (p ∷ p ∷ [])) k 0) (get_or (gs ++ (p ∷ p ∷ [])) (k + 1) 0) (get_or (gs ++ (p ∷ p ∷ [])) (k + 2) 0) / 2 ^ (w + w + w - s - 8) % 2 ^ 8
unfolding packed spread
packed-cut w p gs j k s low fits small lt is few =
    let n : ℕ = bytes_for w (length gs) in
    let more : List ℕ = bits w p ++ bits w p in
    let sum = spare-fits w p gs low in
    let front : take (length (spread w gs) + spare w (length gs)) (spread w gs ++ (bits w p ++ bits w p)) ≡ spread w gs ++ padding w p (spare w (length gs)) = take-append-add (spread w gs) (bits w p ++ bits w p) (spare w (length gs)) in
    let long : length (spread w gs) ≡ length gs * w = length-spread w gs in
    let here : j * 8 + 8 ≤ length gs * w + spare w (length gs) = omega (arith, sum.0) in
    let m : ℕ = length (spread w gs) + spare w (length gs) in
    let split' : j * 8 + (length (spread w gs) + spare w (length gs) - j * 8) ≡ length (spread w gs) + spare w (length gs) = omega arith in
    let same : take 8 (drop (j * 8) (spread w gs ++ padding w p (spare w (length gs)))) ≡ take 8 (drop (j * 8) (spread w gs ++ (bits w p ++ bits w p))) =
    ap (λ l. take 8 (drop (j * 8) l)) (sym front) ∙ ap (λ q. take 8 (drop (j * 8) (take q (spread w gs ++ (bits w p ++ bits w p))))) (sym split') ∙ ap (take 8) (drop-take (j * 8) (length (spread w gs) + spare w (length gs) - j * 8) (spread w gs ++ (bits w p ++ bits w p))) ∙ take-take 8 (length (spread w gs) + spare w (length gs) - j * 8) (drop (j * 8) (spread w gs ++ (bits w p ++ bits w p))) (omega arith) in
    let pads : spread w (gs ++ (p ∷ p ∷ [])) ≡ spread w gs ++ (bits w p ++ bits w p) = spread-append w gs (p ∷ p ∷ []) ∙ ap (λ l. spread w gs ++ (bits w p ++ l)) (append-nil (bits w p)) in
    let two : length (gs ++ (p ∷ p ∷ [])) ≡ length gs + 2 = length-append gs (p ∷ p ∷ []) in
    let wide : length (gs ++ (p ∷ p ∷ [])) * w ≡ length gs * w + 2 * w = ap (λ q. q * w) two ∙ add-mul (length gs) 2 w in
    get_or-groups 8 n j (spread w gs ++ padding w p (spare w (length gs))) lt ∙ ap val (same ∙ ap (λ l. take 8 (drop (j * 8) l)) (sym pads)) ∙ sym (get_or-groups 8 n j (spread w (gs ++ (p ∷ p ∷ []))) lt) ∙ cut_at w 8 n j k s (gs ++ (p ∷ p ∷ [])) (omega arith) (All-append (λ d. d < 2 ^ w) gs (p ∷ p ∷ []) small (fits, (fits, tt))) lt is (omega arith) (omega (arith, sum.1))

-- the bits behind the whole groups lie in the last byte
pub last-bits : (bs : List ℕ) (r n : ℕ) → r ≤ 8 → 0 < length bs → n + r ≡ length bs * 8 → val (drop n (spread 8 bs)) ≡ get_or bs (length bs - 1) 0 % 2 ^ r
unfolding spread
last-bits bs r n few some is =
    let k : ℕ = length bs - 1 in
    let one : length bs - 1 + 1 ≡ length bs = omega arith in
    let last : drop (length bs - 1) bs ≡ get_or bs (length bs - 1) 0 ∷ [] =
    drop_more bs (length bs - 1) 0 (omega arith) ∙ ap (λ l. get_or bs (length bs - 1) 0 ∷ l) (drop_all (length bs - 1 + 1) bs (omega arith)) in
    let cut : n ≡ (length bs - 1) * 8 + (8 - r) = omega arith in
    let eight : 8 - r + r ≡ 8 = omega arith in
    ap (λ m. val (drop m (spread 8 bs))) cut ∙ ap val (sym (drop-drop (8 - r) ((length bs - 1) * 8) (spread 8 bs)) ∙ ap (drop (8 - r)) (drop-spread 8 (length bs - 1) bs (omega arith) ∙ ap (spread 8) last ∙ append-nil (bits 8 (get_or bs (length bs - 1) 0))) ∙ ap (λ m. drop (8 - r) (bits m (get_or bs (length bs - 1) 0))) (sym eight) ∙ drop_bits (8 - r) r (get_or bs (length bs - 1) 0)) ∙ val-bits r (get_or bs (length bs - 1) 0)

-- the front of the padding group, as a number
pub front-bits : (w p r : ℕ) → p < 2 ^ w → r ≤ w → val (take r (bits w p)) ≡ p / 2 ^ (w - r)
front-bits w p r fits le =
    let sum : r + (w - r) ≡ w = omega arith in
    ap (λ k. val (take r (bits k p))) (sym sum) ∙ ap val (take-bits r (w - r) p) ∙ val-bits-lt r (p / 2 ^ (w - r)) (shr_lt r (w - r) (subst (λ k. p < 2 ^ k) (sym sum) fits))
