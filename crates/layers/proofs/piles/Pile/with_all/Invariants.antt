use Rattle.std.proofs.Common.{◌≡◌, drop}
use Rattle.tags.specs.Tags.{Tag, Shaped}
use Rattle.layers.specs.Piles.{pile_tag, brought_tag}
use Rattle.layers.proofs.piles.Pile.with_all.Given as goal

-- what is left, laid on the pile so far, shows what all of it shows on the first
abbrev pub invariant-loop-added : goal.invariant-loop-added
invariant-loop-added l = (t : Tag) → Shaped t → pile_tag (drop l.added-index l.layers) (brought_tag l.pile t) ≡ pile_tag l.layers (brought_tag l.initial.pile t)
