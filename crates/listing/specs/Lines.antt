-- The lines of a listing.
use Rattle.std.specs.Prelude.{ℕ, ◌/◌, ◌%◌, Bool, true, cond, List, [], ◌∷◌, ◌++◌, codes, decimal}
use Rattle.std.specs.Fmt.{digit_glyph}
use Rattle.listing.specs.Fills.{percent}

-- two upper-case hexadecimal digits for each byte
abbrev pub hex : List ℕ → List ℕ
hex [] = []
hex (b ∷ bs) = digit_glyph true (b / 16) ∷ digit_glyph true (b % 16) ∷ hex bs

abbrev pub state : Bool → List ℕ
state sealed = cond sealed (codes "sealed") (codes "open")

abbrev pub tag_text : ℕ → ℕ → ℕ → List ℕ
tag_text count size format = codes "tag blocks " ++ (decimal count ++ (codes " size " ++ (decimal size ++ (codes " format " ++ decimal format))))

abbrev pub set_text : ℕ → ℕ → Bool → List ℕ → ℕ → List ℕ → List ℕ
set_text at size sealed identifier code object =
    codes "set " ++ (decimal at ++ (codes " " ++ (decimal size ++ (codes " " ++ (state sealed ++ (codes " " ++ (hex identifier ++ (codes " " ++ (decimal code ++ (codes " " ++ hex object))))))))))

abbrev pub used_text : ℕ → ℕ → List ℕ
used_text used total = codes "used " ++ (decimal used ++ (codes " of " ++ (decimal total ++ (codes " fill " ++ decimal (percent used total)))))

abbrev pub refused_text : ℕ → ℕ → ℕ → List ℕ
refused_text number place group = codes "refused " ++ (decimal number ++ (codes " " ++ (decimal place ++ (codes " " ++ decimal group))))
