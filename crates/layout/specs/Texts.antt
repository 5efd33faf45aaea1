-- What is said of a gap that is not laid out.
use Rattle.std.specs.Prelude.{List, ◌++◌, codes, decimal}
use Rattle.layout.specs.declared.items.LayoutFault.{LayoutFault}
use Rattle.layout.specs.declared.items.LayoutFault.TheVariants.{Unfit, TooSmall, NoPlace}
use Rattle.std.specs.Prelude.{ℕ}

abbrev pub fault_text : LayoutFault → List ℕ
fault_text (Unfit i) = codes "item " ++ (decimal i ++ codes " unfit")
fault_text TooSmall = codes "too small"
fault_text NoPlace = codes "no place"
