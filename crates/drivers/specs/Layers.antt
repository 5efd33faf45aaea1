-- What each layer makes of the tag below it.
use Rattle.std.specs.Prelude.{◌≡◌, ℕ, zero, suc, ◌+◌, ◌-◌, ◌*◌, ◌/◌, ◌%◌, ◌≤◌, min, cond, List, map, reverse, take, drop, Ok, Err, Result, nat_lt}
use Rattle.tags.specs.Tags.{Tag}
use Rattle.drivers.specs.declared.faults.DriverFault.{DriverFault}
use Rattle.drivers.specs.declared.faults.DriverFault.TheVariants.{NoBlock, WrongBuffer, Locked}

-- two tags of one shape, and so of the same limits
pub record Alike (t u : Tag) : Type 0 where
  pub count : t.count ≡ u.count
  pub size : t.size ≡ u.size

-- a tag of no more blocks than another, of the same size
pub record Narrower (t u : Tag) : Type 0 where
  pub count : t.count ≤ u.count
  pub size : t.size ≡ u.size

-- the tag with each block turned
abbrev pub turn_tag : (List ℕ → List ℕ) → Tag → Tag
turn_tag f t = record { count = t.count; size = t.size; system = t.system; blocks = map f t.blocks; locks = t.locks }

-- the last k bits of x, last to first, put behind a
abbrev pub turned_onto : ℕ → ℕ → ℕ → ℕ
turned_onto zero x a = a
turned_onto (suc k) x a = turned_onto k (x / 2) (a * 2 + x % 2)

-- the bits of a byte from last to first; what is no byte stays
abbrev pub mirror : ℕ → ℕ
mirror x = cond (nat_lt x 256) (turned_onto 8 x 0) x

-- byte order: the bytes of a block from last to first
abbrev pub by_bytes : List ℕ → List ℕ
by_bytes b = reverse b

-- bit order: the bits of each byte from last to first
abbrev pub by_bits : List ℕ → List ℕ
by_bits b = map mirror b

-- a window: n blocks from block k on, or as many as there are
abbrev pub window_tag : ℕ → ℕ → Tag → Tag
window_tag k n t = record { count = min n (t.count - k); size = t.size; system = t.system; blocks = take n (drop k t.blocks); locks = take n (drop k t.locks) }

-- a lower driver's refusal, told of block k
abbrev pub refused_at : ℕ → DriverFault → DriverFault
refused_at k (NoBlock j) = NoBlock k
refused_at k (WrongBuffer j) = WrongBuffer k
refused_at k (Locked j) = Locked k

-- its answer, told so
abbrev pub told_at : {X : Type 0} → ℕ → Result X DriverFault → Result X DriverFault
told_at k (Ok x) = Ok x
told_at k (Err e) = Err (refused_at k e)
