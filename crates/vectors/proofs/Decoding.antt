-- Where no character is wrong, the bytes of a word are those that the toolchain's `hex` decodes.
use Rattle.std.proofs.Common.{◌≡◌, ℕ, suc, ◌+◌, ◌*◌, ◌/◌, ◌%◌, true, List, [], ◌∷◌, length, take, None, Some, Ok, refl, arith}
use Rattle.std.proofs.lemmas.List.{length-take-le}
use Rattle.hex.specs.Hex.{hex_digit_value, pair_value, decode_pairs, decode_of}
use Rattle.vectors.specs.Words.{is_digit, digit_value, byte_of, in_pairs, wrong_in}

digit_is : (b : ℕ) → is_digit b ≡ true → hex_digit_value b ≡ Some (digit_value b)
digit_is b h = grind (arith)

first_digit : (a : ℕ) (xs : List ℕ) → wrong_in (a ∷ xs) ≡ None → (is_digit a ≡ true) × (wrong_in xs ≡ None)
first_digit a xs h = grind (arith)

pair_is : (i a b : ℕ) → is_digit a ≡ true → is_digit b ≡ true → pair_value a b i ≡ Ok (byte_of a b)
pair_is i a b p q = rw (digit_is a p, digit_is b q) refl

one_more : (i a b v : ℕ) (rest r : List ℕ) → pair_value a b i ≡ Ok v → decode_pairs (i + 2) rest ≡ Ok r → decode_pairs i (a ∷ b ∷ rest) ≡ Ok (v ∷ r)
unfolding decode_pairs
one_more i a b v rest r e f = rw (e, f) refl

pairs_are : (i : ℕ) (word : List ℕ) → wrong_in word ≡ None → decode_pairs i (take (length word / 2 * 2) word) ≡ Ok (in_pairs word)
unfolding decode_pairs
pairs_are i [] h = refl
pairs_are i (a ∷ []) h = refl
pairs_are i (a ∷ b ∷ rest) h =
    let p = first_digit a (b ∷ rest) h in
    let q = first_digit b rest p.1 in
    let half : suc (suc (length rest)) / 2 ≡ suc (length rest / 2) = omega arith in
    let long : suc (length rest / 2) * 2 ≡ suc (suc (length rest / 2 * 2)) = omega arith in
    rw half (rw long (one_more i a b (byte_of a b) (take (length rest / 2 * 2) rest) (in_pairs rest) (pair_is i a b p.0 q.0) (pairs_are (i + 2) rest q.1)))

-- the digit that may be left over is not decoded
pub in_pairs-decoded : (word : List ℕ) → wrong_in word ≡ None → decode_of (take (length word / 2 * 2) word) ≡ Ok (in_pairs word)
in_pairs-decoded word h =
    let even : length (take (length word / 2 * 2) word) % 2 ≡ 0 = omega (arith, length-take-le (length word / 2 * 2) word (omega arith)) in
    rw even (pairs_are 0 word h)
