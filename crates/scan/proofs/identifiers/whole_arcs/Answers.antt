use Rattle.std.proofs.Common.{◌≡◌, false, ◌&&◌, eqb, get_or, sym, ◌∙◌, arith}
use Rattle.std.proofs.lemmas.Bool.{ne_eqb, and_left, and_right}
use Rattle.sets.proofs.Here.{arcs-next, arcs-stop, arcs-all}
use Rattle.scan.proofs.identifiers.whole_arcs.Goals as goal
use Rattle.scan.proofs.identifiers.whole_arcs.Goals.{else-begins-via-then-begins+else-b, else-begins-via-else-begins}

pub returns-then-b : goal.returns-then-b
returns-then-b c = record { value = sym (arcs-stop c.loop-b.begins c.args.content.now c.loop-b.b-index (omega arith) c.if-begins.true c.if-b.true) ∙ c.loop-b.invariant }

pub loop-b-preserved : goal.loop-b-preserved
loop-b-preserved c =
    let t = c.loop-b.begins in
    let b = get_or c.args.content.now c.loop-b.b-index 0 in
    let no : (t && eqb b 0x80) ≡ false =
    elim c.else-begins.branch [ else-begins-via-then-begins+else-b w ↦ and_right t (eqb b 0x80) (ne_eqb b 0x80 w.if-b.false) | else-begins-via-else-begins w ↦ and_left t (eqb b 0x80) w.if-begins.false ] in
    sym (arcs-next t c.args.content.now c.loop-b.b-index (omega arith) no) ∙ c.loop-b.invariant

pub returns : goal.returns
returns c = record { value = sym (arcs-all c.loop-b.begins c.args.content.now c.loop-b.b-index (omega arith)) ∙ c.loop-b.invariant }
