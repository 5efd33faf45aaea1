-- Which identifiers can stand.
use Rattle.std.specs.Prelude.{ℕ, Bool, true, ◌&&◌, List, length, nat_le}
use Rattle.sets.specs.Parsing.{arcs}

-- the content of an identifier is 1 to 32 bytes of whole arcs
abbrev pub is_proper : List ℕ → Bool
is_proper c = nat_le 1 (length c) && nat_le (length c) 32 && arcs true c
