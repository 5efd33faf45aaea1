-- What measuring answers.
use Rattle.std.specs.Prelude.{◌≡◌, ℕ, ◌<◌, ◌≤◌, List, map, Ok, Err, Result}
use Rattle.writing.specs.declared.items.Item.{Item}
use Rattle.writing.specs.Forms.{wanted}
use Rattle.layout.specs.declared.items.LayoutFault.{LayoutFault}
use Rattle.layout.specs.declared.items.LayoutFault.TheVariants.{Unfit, TooSmall, NoPlace}
use Rattle.layout.specs.declared.measured.Measured.{Measured}
use Rattle.layout.specs.Plans.{total}
use Rattle.layout.specs.Lays.{FirstUnfit}

-- the items, whose smallest forms take no more than a room
abbrev pub Measures : List Item → ℕ → Result Measured LayoutFault → Type 0
Measures items room (Ok m) = (m.items.now ≡ items) × (m.sum ≤ room)
Measures items room (Err (Unfit i)) = FirstUnfit (map wanted items) i
Measures items room (Err TooSmall) = room < total (map wanted items)
Measures items room (Err NoPlace) = ⊥
