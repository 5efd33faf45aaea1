use Rattle.std.proofs.Common.{◌<◌, length, sym, ap, ◌∙◌, arith}
use Rattle.std.proofs.ByRecursion.{All-from_get_or}
use Rattle.codes.specs.Bits.{bytes_for}
use Rattle.codes.proofs.BitLaws.{length-packed}
use Rattle.packing.proofs.Meaning.{filled_more, filled_all}
use Rattle.packing.proofs.spelled.Spelled.write.Goals as goal

pub byte-requires : goal.byte-requires
byte-requires g c =
    let m = g.C.Code in
    let s = c.args.self.now in
    let groups = g.met.C.Code.packs s.code.now s.object.now s.suited (All-from_get_or (λ d. d < 256) s.object.now 0 s.bytes) in
    let long = ap length (sym groups.1) ∙ length-packed (m.wide s.code.now) (m.pad s.code.now) (m.spelled s.code.now s.object.now) (g.met.C.Code.sized s.code.now).0 ∙ ap (bytes_for (m.wide s.code.now)) (sym s.counted) in
    omega (arith, c.loop-j-test.true, c.requires, long)

pub loop-j-preserved : goal.loop-j-preserved
loop-j-preserved g c = filled_more _ _ _ c.loop-j.invariant c.byte.result c.byte.ensures (omega arith) (omega arith)

pub returns : goal.returns
returns g c = filled_all _ _ _ c.loop-j.invariant (omega arith) (omega arith)
