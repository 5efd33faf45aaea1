use Rattle.std.proofs.Common.{◌<◌, sym, ◌∙◌, rules}
use Rattle.std.specs.Int.{reverse_bits_onto}
use Rattle.std.proofs.lemmas.Bool.{cond-true, lt-ltb}
use Rattle.orders.proofs.turns.mirrored.Goals as goal

pub returns : goal.returns
unfolding reverse_bits_onto
returns c =
    let byte : c.args.byte < 256 = search rules in
    record { value = c.reverse_bits.ensures ∙ sym (cond-true _ _ _ (lt-ltb c.args.byte 256 byte)) }
