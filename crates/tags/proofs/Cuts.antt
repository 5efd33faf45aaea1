-- Memory cut into blocks: where each lies, and what a write to one does.
use Rattle.std.proofs.Common.{◌≡◌, ℕ, zero, suc, ◌+◌, ◌*◌, ◌<◌, ◌≤◌, Bool, List, [], ◌∷◌, ◌++◌, length, get_or, take, drop, set, sym, refl, ap, ◌∙◌, append_assoc, mul-le-mul_right, suc-mul, zero-mul, arith, take-append-drop}
use lib.Seq.{take-append-add, drop-append-add}
use Rattle.std.proofs.lemmas.List.{drop-drop, take_at, drop_at, length-take-le, length-drop, take_all}
use Rattle.std.specs.List.{flat_map}
use Rattle.tags.specs.Tags.{Shaped, bytes, cut, laid}

pub block-end : (k n b : ℕ) → k < n → k * b + b ≤ n * b
block-end k n b h = omega (arith, suc-mul k b, mul-le-mul_right {m = suc k} {n = n} b h)

pub length_cut : (n b : ℕ) (xs : List ℕ) → length (cut n b xs) ≡ n
length_cut zero b xs = refl
length_cut (suc n) b xs = ap suc (length_cut n b (drop b xs))

pub get_or-cut : (n b k : ℕ) (xs : List ℕ) → k < n → get_or (cut n b xs) k [] ≡ take b (drop (k * b) xs)
get_or-cut zero b k xs h = absurd (omega arith)
get_or-cut (suc n) b zero xs h = ap (λ m. take b (drop m xs)) (sym (zero-mul b))
get_or-cut (suc n) b (suc k) xs h = get_or-cut n b k (drop b xs) (omega arith) ∙ ap (take b) (drop-drop (k * b) b xs ∙ ap (λ m. drop m xs) (omega (arith, suc-mul k b)))

-- xs with the bytes from a on replaced by ys
abbrev pub put : List ℕ → ℕ → List ℕ → List ℕ
put xs a ys = take a xs ++ (ys ++ drop (a + length ys) xs)

cut-front : (n b : ℕ) (p q : List ℕ) → length p ≡ b → cut (suc n) b (p ++ q) ≡ p ∷ cut n b q
cut-front n b p q e = λ i. take_at p q b e i ∷ cut n b (drop_at p q b e i)

put-behind : (p q ys : List ℕ) (a : ℕ) → put (p ++ q) (length p + a) ys ≡ p ++ put q a ys
put-behind p q ys a =
    (λ i. take-append-add p q a i ++ (ys ++ (ap (λ m. drop m (p ++ q)) (shift p ys a) ∙ drop-append-add p q (a + length ys)) i))
    ∙ append_assoc p (take a q) (ys ++ drop (a + length ys) q)
  where
    shift : (p ys : List ℕ) (a : ℕ) → length p + a + length ys ≡ length p + (a + length ys)
    shift p ys a = omega arith

set_front : (n b k : ℕ) (p q ys : List ℕ) → length p ≡ b → length ys ≡ b → k < suc n → ((j : ℕ) → j < n → set (cut n b q) j ys ≡ cut n b (put q (j * b) ys)) → set (p ∷ cut n b q) k ys ≡ cut (suc n) b (put (p ++ q) (k * b) ys)
set_front n b zero p q ys e f h ih =
    sym (
    ap (λ m. cut (suc n) b (put (p ++ q) m ys)) (zero-mul b)
    ∙ ap (λ l. cut (suc n) b (ys ++ l)) (drop_at p q (0 + length ys) (omega arith))
    ∙ cut-front n b ys q f)
set_front n b (suc k) p q ys e f h ih =
    ap (λ l. p ∷ l) (ih k (omega arith))
    ∙ sym (
    ap (λ m. cut (suc n) b (put (p ++ q) m ys)) (omega (arith, suc-mul k b))
    ∙ ap (cut (suc n) b) (put-behind p q ys (k * b))
    ∙ cut-front n b p (put q (k * b) ys) e)

pub set-cut : (n b k : ℕ) (xs ys : List ℕ) → n * b ≤ length xs → length ys ≡ b → k < n → set (cut n b xs) k ys ≡ cut n b (put xs (k * b) ys)
set-cut zero b k xs ys m f h = absurd (omega arith)
set-cut (suc n) b k xs ys m f h =
    let rest : n * b ≤ length (drop b xs) = omega (arith, suc-mul n b, length-drop b xs) in
    set_front n b k (take b xs) (drop b xs) ys (length-take-le b xs (omega (arith, suc-mul n b))) f h (λ j l. set-cut n b j (drop b xs) ys rest f l)
    ∙ ap (λ l. cut (suc n) b (put l (k * b) ys)) (take-append-drop b xs)

-- the blocks put together again
pub joined_cut : (n b : ℕ) (xs : List ℕ) → n * b ≤ length xs → flat_map (λ p. p) (cut n b xs) ≡ take (n * b) xs
joined_cut zero b xs h = ap (λ m. take m xs) (sym (zero-mul b))
joined_cut (suc n) b xs h =
    let long : b ≤ length xs = omega (arith, suc-mul n b) in
    ap (λ l. take b xs ++ l) (joined_cut n b (drop b xs) (omega (arith, suc-mul n b, length-drop b xs)))
    ∙ sym (
    ap (λ m. take m xs) (omega (arith, suc-mul n b, length-take-le b xs long))
    ∙ ap (take (length (take b xs) + n * b)) (sym (take-append-drop b xs))
    ∙ take-append-add (take b xs) (drop b xs) (n * b))

pub bytes-laid : (n b s : ℕ) (m : List ℕ) (l : List Bool) → n * b ≡ length m → bytes (laid n b s m l) ≡ m
bytes-laid n b s m l e = joined_cut n b m (omega arith) ∙ take_all (n * b) m (omega arith)

-- a tag at the front of memory and flags that have room for it
pub laid-shaped : (n b s : ℕ) (m : List ℕ) (l : List Bool) → n * b ≤ length m → n ≤ length l → n ≤ 256 → b ≤ 256 → Shaped (laid n b s m l)
laid-shaped n b s m l content flags few small = record {
  many = length_cut n b m;
  each = λ k h. ap length (get_or-cut n b k m h) ∙ length-take-le b (drop (k * b) m) (omega (arith, length-drop (k * b) m, block-end k n b h));
  flags = length-take-le n l flags;
  few = few;
  small = small;
}
