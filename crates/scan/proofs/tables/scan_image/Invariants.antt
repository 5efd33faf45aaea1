use Rattle.std.proofs.Common.{◌-◌, length}
use Rattle.scan.proofs.Turns.{Sofar}
use Rattle.scan.proofs.tables.scan_image.Given as goal

abbrev pub invariant-loop-at : goal.invariant-loop-at
invariant-loop-at l = Sofar l.image l.initial.table l.table l.sets l.at l.used

abbrev pub decreases-loop-at : goal.decreases-loop-at
decreases-loop-at l = length l.image - l.at
