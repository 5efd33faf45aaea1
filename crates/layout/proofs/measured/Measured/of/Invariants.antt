use Rattle.std.proofs.Common.{◌≡◌, ◌≤◌, map, take}
use Rattle.std.specs.List.{AllByRecursion}
use Rattle.writing.specs.Forms.{wanted, Fit}
use Rattle.layout.specs.Plans.{total}
use Rattle.layout.proofs.measured.Measured.of.Given as goal

abbrev pub invariant-loop-i : goal.invariant-loop-i
invariant-loop-i l = record {
  fit : AllByRecursion Fit (take l.i (map wanted l.items));
  summed : l.sum ≡ total (take l.i (map wanted l.items));
  small : l.sum ≤ l.room;
}
