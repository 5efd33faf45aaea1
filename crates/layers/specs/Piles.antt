-- What a pile of layers shows of a tag, and what a window with two orders does.
use Rattle.std.specs.Prelude.{ℕ, Bool, cond, List, [], ◌∷◌}
use Rattle.tags.specs.Tags.{Tag}
use Rattle.drivers.specs.Layers.{turn_tag, window_tag, by_bytes, by_bits}
use Rattle.layers.specs.declared.piles.Added.{Added}
use Rattle.layers.specs.declared.piles.Added.TheVariants.{Window, Bytes, Bits}
use Rattle.layers.specs.declared.piles.Pile.{Pile}

-- one layer
abbrev pub layer_tag : Added → Tag → Tag
layer_tag (Window from most) t = window_tag from most t
layer_tag Bytes t = turn_tag by_bytes t
layer_tag Bits t = turn_tag by_bits t

-- any layers, the first of them lowest
abbrev pub pile_tag : List Added → Tag → Tag
pile_tag [] t = t
pile_tag (l ∷ ls) t = pile_tag ls (layer_tag l t)

-- each block turned, or the tag as it is
abbrev pub turn_if : Bool → (List ℕ → List ℕ) → Tag → Tag
turn_if on f t = cond on (turn_tag f t) t

-- a window, then the byte order, then the bit order
abbrev pub brought_tag : Pile → Tag → Tag
brought_tag p t = turn_if p.bits by_bits (turn_if p.bytes by_bytes (window_tag p.from p.most t))
