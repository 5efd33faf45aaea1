use Rattle.std.proofs.Common.{min, ap, ◌∙◌}
use Rattle.layers.proofs.Laid.{laid_window}
use Rattle.layers.proofs.piles.Pile.with_window.Goals as goal

pub returns : goal.returns
returns c =
    let p = c.args.self in
    let most = c.min.ensures ∙ ap (min c.args.most) c.saturating_sub.ensures in
    record { value = λ t s. laid_window p.from p.most p.bytes p.bits t c.args.from c.args.most _ _ s c.saturating_add.ensures most }
