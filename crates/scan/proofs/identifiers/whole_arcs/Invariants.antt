use Rattle.std.proofs.Common.{◌≡◌, true, drop}
use Rattle.sets.specs.Parsing.{arcs}
use Rattle.scan.proofs.identifiers.whole_arcs.Given as goal

abbrev pub invariant-loop-b : goal.invariant-loop-b
invariant-loop-b l = arcs l.begins (drop l.b-index l.content) ≡ arcs true l.content
