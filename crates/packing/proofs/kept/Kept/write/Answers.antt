use Rattle.std.proofs.Common.{◌<◌, length, get_or, sym, ap, ◌∙◌, subst, arith}
use Rattle.std.proofs.ByRecursion.{All-from_get_or}
use Rattle.packing.proofs.Meaning.{same_object, filled_more, filled_all}
use Rattle.packing.proofs.kept.Kept.write.Goals as goal

pub byte-requires : goal.byte-requires
byte-requires g c =
    let m = g.C.Code in
    let s = c.args.self.now in
    let law = g.met.C.Code.unpacks s.code.now s.bytes.now (All-from_get_or (λ d. d < 256) s.bytes.now 0 s.octets) in
    let same = same_object (m.wide s.code.now) (m.pad s.code.now) (m.meant s.code.now) s.bytes.now s.count s.left _ law _ c.requires in
    record { inside = s.inside; here = subst (λ x. c.loop-i.i < length x) (sym same) (omega (arith, c.requires.1)) }

pub loop-i-preserved : goal.loop-i-preserved
loop-i-preserved g c =
    let m = g.C.Code in
    let s = c.args.self.now in
    let law = g.met.C.Code.unpacks s.code.now s.bytes.now (All-from_get_or (λ d. d < 256) s.bytes.now 0 s.octets) in
    let same = same_object (m.wide s.code.now) (m.pad s.code.now) (m.meant s.code.now) s.bytes.now s.count s.left _ law _ c.requires in
    filled_more _ _ _ c.loop-i.invariant c.byte.result (c.byte.ensures ∙ ap (λ x. get_or x c.loop-i.i 0) same) (omega (arith, c.requires.1)) (omega arith)

pub returns : goal.returns
returns g c = filled_all _ _ _ c.loop-i.invariant (omega arith) (omega (arith, c.requires.1))
