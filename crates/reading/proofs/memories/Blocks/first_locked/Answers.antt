use Rattle.std.proofs.Common.{◌≡◌, true, false, rules, tests}
use Rattle.std.proofs.lemmas.Iterator.{first_from_Range}
use Rattle.sets.specs.Readings.{locked_at}
use Rattle.reading.specs.Checks.{memory_of}
use Rattle.reading.proofs.memories.Blocks.first_locked.Goals as goal

pub returns : goal.returns
returns c =
    let m = memory_of c.args.self.memory in
    record { cases = first_from_Range _ _ _ _ (λ a. locked_at m a ≡ true) (λ a. locked_at m a ≡ false) c.find.ensures.ran (λ x q k. search (rules, tests)) (λ x q k. search (rules, tests)) }
