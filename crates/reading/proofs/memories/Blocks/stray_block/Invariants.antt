use Rattle.sets.specs.Readings.{found}
use Rattle.sets.proofs.Sweeping.{Swept}
use Rattle.reading.specs.Checks.{memory_of}
use Rattle.reading.proofs.memories.Blocks.stray_block.Given as goal

abbrev pub invariant-loop-set : goal.invariant-loop-set
invariant-loop-set l = Swept (memory_of l.self.memory) (found l.self.memory.image.now) l.set-index l.from
