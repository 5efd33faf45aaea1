use Rattle.std.proofs.Common.{ℕ, ap, ◌∙◌, rules, tests}
use Rattle.std.specs.Option.{option_map}
use Rattle.std.proofs.lemmas.Iterator.{YieldsList-from_slice}
use Rattle.std.proofs.lemmas.Iterator.Consumers.{YieldsList-from_enumerate}
use Rattle.std.proofs.lemmas.Iterator.Search.{find_from_yields_List}
use Rattle.reading.specs.Inner.{stood_at}
use Rattle.scan.specs.declared.views.SetRecord.{SetRecord}
use Rattle.reading.proofs.Sweeps.{mapped, map_again}
use Rattle.reading.proofs.repeats.first_repeat.Goals as goal

pub returns : goal.returns
returns c =
    let xs = c.args.image.now in
    let rs = c.args.sets.now in
    let first = find_from_yields_List (stood_at xs rs) _ _ c.find.result c.find.ensures.ran (YieldsList-from_enumerate (YieldsList-from_slice rs (cc)) (cc)) (λ x b q k. search (rules, tests)) in
    record {
      value = mapped c.find.result c.map.result _ (λ p. p.1.now.at) (λ a k p. search rules) c.map.ensures.cases ∙ map_again (λ p. p.1.at) (λ p. (p.0, p.1.now)) c.find.result ∙ ap (option_map (λ (p : ℕ × SetRecord). p.1.at)) first;
    }
