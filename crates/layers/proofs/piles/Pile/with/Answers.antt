use Rattle.std.proofs.Common.{sym, ap, ◌∙◌}
use Rattle.layers.specs.Piles.{layer_tag, brought_tag}
use Rattle.layers.proofs.Laid.{laid-bytes, laid-bits}
use Rattle.layers.proofs.piles.Pile.with.Goals as goal

pub returns-in-Bytes : goal.returns-in-Bytes
returns-in-Bytes c =
    let p = c.args.self in
    record { value = λ t _. laid-bytes p.from p.most p.bytes p.bits t ∙ ap (λ l. layer_tag l (brought_tag p t)) (sym c.in-Bytes.is) }

pub returns-in-Bits : goal.returns-in-Bits
returns-in-Bits c =
    let p = c.args.self in
    record { value = λ t _. laid-bits p.from p.most p.bytes p.bits t ∙ ap (λ l. layer_tag l (brought_tag p t)) (sym c.in-Bits.is) }
