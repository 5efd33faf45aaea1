use Rattle.std.proofs.Common.{◌<◌, length, get_or, set, ap, ◌∙◌, arith}
use Rattle.std.proofs.lemmas.List.{get_or_default}
use Rattle.std.proofs.lemmas.List.Edits.{map_over_more}
use Rattle.drivers.specs.Layers.{mirror}
use Rattle.orders.proofs.turns.BitsTurn.turn.Goals as goal

pub loop-byte-preserved : goal.loop-byte-preserved
loop-byte-preserved c =
    let xs = c.args.block.now in
    let ys = c.loop-byte.block in
    let i = c.loop-byte.byte-index in
    let x = get_or ys i 0 in
    let lt : i < length xs = omega arith in
    ap (set ys i) c.mirrored.ensures.value ∙ map_over_more mirror xs ys i x lt c.loop-byte.invariant (get_or_default ys i 0 x (omega arith))
