-- A tag read whole, into the front of an image.
use Rattle.std.specs.Prelude.{ℕ, ◌*◌, cond, List, ◌++◌, length, drop, Ok, Err, Result, nat_lt}
use Rattle.tags.specs.Tags.{Tag, bytes}
use Rattle.drivers.specs.declared.faults.WholeFault.{WholeFault}
use Rattle.drivers.specs.declared.faults.WholeFault.TheVariants.{Room}

-- an image of m bytes that has no room for the tag is refused with the bytes that are needed
abbrev pub whole_answer : Tag → ℕ → Result (Unit {0}) WholeFault
whole_answer t m = cond (nat_lt m (t.count * t.size)) (Err (Room (t.count * t.size))) (Ok tt)

-- the image then: the tag's bytes in front and the rest as it was, or all as it was
abbrev pub whole_image : Tag → List ℕ → List ℕ
whole_image t xs = cond (nat_lt (length xs) (t.count * t.size)) xs (bytes t ++ drop (t.count * t.size) xs)
