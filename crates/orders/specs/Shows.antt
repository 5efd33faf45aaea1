-- What an order layer shows: the tag of the driver below it, each block turned.
use Rattle.std.specs.Prelude.{ℕ, List}
use Rattle.tags.specs.Tags.{Tag}
use Rattle.drivers.specs.Layers.{turn_tag}
use Rattle.orders.specs.declared.Turned.{Turned}

-- by the way to turn, and by what the driver below means
abbrev pub shown : {T D : Type 0} → (List ℕ → List ℕ) → (D → Tag) → Turned T D → Tag
shown turned tag s = turn_tag turned (tag s.lower)
