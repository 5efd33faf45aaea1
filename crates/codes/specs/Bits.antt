-- Groups of w bits, written one behind the other and cut into groups of another width.
use Rattle.std.specs.Prelude.{ℕ, zero, suc, ◌+◌, ◌-◌, ◌*◌, ◌/◌, ◌%◌, ◌^◌, Bool, cond, ◌&&◌, List, [], ◌∷◌, ◌++◌, length, take, drop, ◌==◌, nat_le, slice_index_or}

-- the low k bits of n, the highest first
unfoldable pub bits : ℕ → ℕ → List ℕ
bits zero n = []
bits (suc k) n = (n / 2 ^ k) % 2 ∷ bits k n

-- the number that bits write
unfoldable pub val : List ℕ → ℕ
val [] = 0
val (b ∷ bs) = b * 2 ^ length bs + val bs

-- the bits of groups of width w, one group after the other
unfoldable pub spread : ℕ → List ℕ → List ℕ
spread w [] = []
spread w (g ∷ gs) = bits w g ++ spread w gs

-- the first n groups of width w that bits write
unfoldable pub groups : ℕ → ℕ → List ℕ → List ℕ
groups w zero bs = []
groups w (suc n) bs = val (take w bs) ∷ groups w n (drop w bs)

-- the bytes that n groups of width w take, and the bits of them that are left over
abbrev pub bytes_for : ℕ → ℕ → ℕ
bytes_for w n = (n * w + 7) / 8

abbrev pub spare : ℕ → ℕ → ℕ
spare w n = 8 * bytes_for w n - n * w

-- the front s bits of the padding group p, repeated
abbrev pub padding : ℕ → ℕ → ℕ → List ℕ
padding w p s = take s (bits w p ++ bits w p)

-- groups as bytes: their bits, and padding in the spare bits of the last byte
unfoldable pub packed : ℕ → ℕ → List ℕ → List ℕ
packed w p gs = groups 8 (bytes_for w (length gs)) (spread w gs ++ padding w p (spare w (length gs)))

-- a last group equal to the padding group is dropped if it and the r bits behind it fit seven
abbrev pub ends : ℕ → List ℕ → Bool
ends p gs = slice_index_or gs (length gs - 1) (suc p) == p

abbrev pub trimmed : ℕ → ℕ → ℕ → List ℕ → List ℕ
trimmed w p r gs = cond (nat_le (w + r) 7 && ends p gs) (take (length gs - 1) gs) gs
