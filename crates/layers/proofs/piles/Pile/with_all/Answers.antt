use Rattle.std.proofs.Common.{◌+◌, drop, sym, ap, ◌∙◌}
use Rattle.std.proofs.lemmas.List.{at_drop_more, at_drop_all}
use Rattle.layers.specs.declared.piles.Added.TheVariants.{Window}
use Rattle.layers.specs.Piles.{pile_tag, brought_tag}
use Rattle.layers.proofs.piles.Pile.with_all.Goals as goal

pub loop-added-preserved : goal.loop-added-preserved
loop-added-preserved c t s =
    let xs = c.args.layers.now in
    let i = c.loop-added.added-index in
    ap (pile_tag (drop (i + 1) xs)) (c.with-pile.ensures.value t s)
    ∙ sym (at_drop_more (λ l. pile_tag l (brought_tag c.loop-added.pile t)) xs i (Window 0 0) c.loop-added-test.true)
    ∙ c.loop-added.invariant t s

pub returns : goal.returns
returns c = record {
  value = λ t s. sym (at_drop_all (λ l. pile_tag l (brought_tag c.loop-added.pile t)) c.args.layers.now c.loop-added.added-index c.loop-added-test.false) ∙ c.loop-added.invariant t s;
}
