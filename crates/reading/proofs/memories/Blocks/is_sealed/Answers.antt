use Rattle.std.proofs.Common.{◌+◌, refl, ◌∙◌, arith, rules, tests}
use Rattle.std.proofs.lemmas.Iterator.{YieldsList-from_range}
use Rattle.std.proofs.lemmas.Iterator.Search.{all_from_yields_List}
use Rattle.sets.specs.Readings.{locked_at}
use Rattle.reading.specs.Checks.{memory_of}
use Rattle.reading.proofs.Sweeps.{all-every}
use Rattle.reading.proofs.memories.Blocks.is_sealed.Goals as goal

pub returns : goal.returns
returns c =
    let p = locked_at (memory_of c.args.self.memory) in
    let at = c.args.set.now.at in
    let long = c.args.set.now.size in
    record {
      value = all_from_yields_List p _ _ _ c.all.ensures.ran (YieldsList-from_range at (at + long) long refl (omega arith)) (λ x b q k. search (rules, tests)) ∙ all-every p at long;
    }
