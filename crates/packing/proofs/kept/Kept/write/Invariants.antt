use Rattle.std.proofs.Common.{◌≡◌, take}
use Rattle.codes.specs.Table.{unpacked_code}
use Rattle.packing.specs.Packing.{said}
use Rattle.packing.proofs.kept.Kept.write.Given as goal

abbrev pub invariant-loop-i : goal.invariant-loop-i
invariant-loop-i g l = take l.i l.out ≡ take l.i (said (unpacked_code (g.C.Code.listed l.self.code.now) l.self.bytes.now))
