-- A dump: B, N, the system byte, N lock bytes, then N times B bytes of content.
use Rattle.std.specs.Prelude.{◌≡◌, ℕ, ◌+◌, ◌*◌, Bool, cond, not, List, map, length, take, drop, Some, None, Option, ◌==◌, nat_lt, slice_index}
use Rattle.tags.specs.declared.faults.DumpFault.{DumpFault}
use Rattle.tags.specs.declared.faults.DumpFault.TheVariants.{Short, Shape, Size}
use Rattle.tags.specs.declared.parts.Dump.{Dump}
use Rattle.tags.specs.Tags.{Tag, laid, in_limits, fits, held}

abbrev pub size_of : List ℕ → ℕ
size_of xs = slice_index xs 0

abbrev pub count_of : List ℕ → ℕ
count_of xs = slice_index xs 1

-- a lock byte that is not zero says locked
abbrev pub nonzero : ℕ → Bool
nonzero b = not (b == 0)

-- the first fault of a dump, if any
abbrev pub dump_fault : List ℕ → Option DumpFault
dump_fault xs =
    cond (nat_lt (length xs) 3) (Some Short)
    (cond (in_limits (count_of xs) (size_of xs))
    (cond (length xs == 3 + count_of xs + count_of xs * size_of xs) None (Some Size))
    (Some Shape))

-- the tag of a dump that has no fault
abbrev pub dump_tag : List ℕ → Tag
dump_tag xs = laid (count_of xs) (size_of xs) (slice_index xs 2) (drop (3 + count_of xs) xs) (map nonzero (drop 3 xs))

-- what a dump that was read means: a tag on its parts, of no blocks were they not of its shape
abbrev pub dump_fits : Dump → Bool
dump_fits d = fits d.shape.count d.shape.size (length d.content.now) (length d.locks.now)

abbrev pub dump_means : Dump → Tag
dump_means d = laid (held (dump_fits d) d.shape.count) (held (dump_fits d) d.shape.size) d.system d.content.now (map nonzero d.locks.now)

-- what is so of a dump that was read from the bytes xs
pub record Read (xs : List ℕ) (d : Dump) : Type 0 where
  pub sound : dump_fault xs ≡ None
  pub means : dump_means d ≡ dump_tag xs
  pub shape : (d.shape.count ≡ count_of xs) × (d.shape.size ≡ size_of xs)
  pub locks : d.locks.now ≡ take (count_of xs) (drop 3 xs)
  pub content : d.content.now ≡ drop (3 + count_of xs) xs
