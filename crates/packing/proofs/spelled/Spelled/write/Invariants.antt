use Rattle.std.proofs.Common.{◌≡◌, take}
use Rattle.codes.specs.Table.{packed_code}
use Rattle.packing.proofs.spelled.Spelled.write.Given as goal

abbrev pub invariant-loop-j : goal.invariant-loop-j
invariant-loop-j g l = take l.j l.out ≡ take l.j (packed_code (g.C.Code.listed l.self.code.now) l.self.object.now)
