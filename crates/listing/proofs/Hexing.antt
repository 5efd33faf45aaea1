-- Bytes in hexadecimal, one after the other.
use Rattle.std.proofs.Common.{◌≡◌, ℕ, ◌+◌, ◌/◌, ◌%◌, ◌<◌, true, List, [], ◌∷◌, ◌++◌, length, get_or, take, sym, refl, ap, ◌∙◌}
use Rattle.std.specs.Fmt.{digit_glyph}
use Rattle.std.proofs.lemmas.List.{take_more}
use Rattle.listing.specs.Lines.{hex}

hex-append : (xs ys : List ℕ) → hex (xs ++ ys) ≡ hex xs ++ hex ys
hex-append [] ys = refl
hex-append (x ∷ xs) ys = ap (λ l. digit_glyph true (x / 16) ∷ digit_glyph true (x % 16) ∷ l) (hex-append xs ys)

pub hex-more : (xs : List ℕ) (i : ℕ) → i < length xs → hex (take i xs) ++ hex (get_or xs i 0 ∷ []) ≡ hex (take (i + 1) xs)
hex-more xs i h = sym (hex-append (take i xs) (get_or xs i 0 ∷ [])) ∙ ap hex (sym (take_more xs i 0 h))
