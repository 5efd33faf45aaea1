use Rattle.std.proofs.Common.{[], ◌∷◌, sym, ◌∙◌, arith}
use Rattle.std.proofs.lemmas.List.{get_or_append_left}
use Rattle.packing.proofs.Places.{padded_behind}
use Rattle.packing.proofs.spelled.Spelled.group_or_pad.Goals as goal

pub returns-then-i-self : goal.returns-then-i-self
returns-then-i-self g c =
    let gs = g.C.Code.spelled c.args.self.now.code.now c.args.self.now.object.now in
    let p = g.C.Code.pad c.args.self.now.code.now in
    c.group.ensures ∙ sym (get_or_append_left gs (p ∷ p ∷ []) 0 c.args.i (omega (arith, c.args.self.now.counted, c.if-i-self.true)))

pub returns-else-i-self : goal.returns-else-i-self
returns-else-i-self g c = c.padding.ensures ∙ padded_behind (g.C.Code.spelled c.args.self.now.code.now c.args.self.now.object.now) (g.C.Code.pad c.args.self.now.code.now) c.args.i (omega (arith, c.args.self.now.counted)) (omega (arith, c.args.self.now.counted, c.requires))
