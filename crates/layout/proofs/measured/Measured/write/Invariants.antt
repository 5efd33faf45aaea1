use Rattle.std.proofs.Common.{map, take}
use Rattle.sets.specs.Layouts.{laid}
use Rattle.writing.specs.Forms.{wanted}
use Rattle.writing.specs.Puts.{Puts}
use Rattle.layout.specs.Plans.{run}
use Rattle.layout.proofs.measured.Measured.write.Given as goal

abbrev pub invariant-loop-item : goal.invariant-loop-item
invariant-loop-item l = Puts 0 (laid (run (take l.item-index (map wanted l.front)) 0)) l.initial.gap l.gap l.at
