-- What one of two drivers shows, and what a driver with a pile on it does.
use Rattle.std.specs.Prelude.{ℕ, List}
use Rattle.tags.specs.Tags.{Tag}
use Rattle.drivers.specs.Layers.{by_bytes, by_bits}
use Rattle.orders.specs.Shows.{shown as turned-shown}
use Rattle.orders.specs.declared.Turned.{Turned}
use Rattle.orders.specs.declared.turns.Bytes.{Bytes}
use Rattle.orders.specs.declared.turns.Bits.{Bits}
use Rattle.windows.specs.Shows.{shown as window-shown}
use Rattle.windows.specs.declared.Window.{Window}
use Rattle.layers.specs.declared.either.Either.{Either}
use Rattle.layers.specs.declared.either.Either.TheVariants.{Left, Right}

-- the tag of the one that it is, by what each means
abbrev pub either_tag : {A B : Type 0} → (A → Tag) → (B → Tag) → Either A B → Tag
either_tag left right (Left d) = left d
either_tag left right (Right d) = right d

-- a driver with or without a layer that turns each block, by the way to turn and by what the driver means
abbrev pub perhaps : {T D : Type 0} → (List ℕ → List ℕ) → (D → Tag) → Either D (Turned T D) → Tag
perhaps turned tag s = either_tag tag (turned-shown turned tag) s

abbrev Perhaps : Type 0 → Type 0 → Type 0
Perhaps T D = Either D (Turned T D)

-- a driver with a pile on it, by what the driver means
abbrev pub shown : {D : Type 0} → (D → Tag) → Perhaps Bits (Perhaps Bytes (Window D)) → Tag
shown tag s = perhaps by_bits (perhaps by_bytes (window-shown tag)) s
