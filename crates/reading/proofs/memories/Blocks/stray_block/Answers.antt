use Rattle.std.proofs.Common.{◌+◌, ◌/◌, sym, ◌∙◌, subst, arith, rules}
use Rattle.sets.specs.Readings.{found}
use Rattle.sets.proofs.Sweeping.{Swept}
use Rattle.reading.specs.Checks.{memory_of}
use Rattle.reading.proofs.Sweeps.{starts, turn-fits, turn-met, turn-passed, turn-went, mapped, end-is}
use Rattle.reading.proofs.memories.Blocks.stray_block.Goals as goal
use Rattle.reading.proofs.memories.Blocks.stray_block.Goals.{then-is_sealed+in_default, else-is_sealed}

pub loop-set-init : goal.loop-set-init
loop-set-init c = starts (memory_of c.args.self.memory) c.args.sets.now c.requires

pub is_sealed-requires : goal.is_sealed-requires
is_sealed-requires c = omega (arith, turn-fits (memory_of c.args.self.memory) c.args.sets.now c.requires c.loop-set.set-index c.loop-set.from c.loop-set.invariant c.loop-set-test.true)

pub returns-in-Some : goal.returns-in-Some
returns-in-Some c = record {
  value = turn-met (memory_of c.args.self.memory) c.args.sets.now c.requires c.loop-set.set-index c.loop-set.from c.loop-set.invariant c.loop-set-test.true c.in-Some.at c.in-Some.ensures.cases;
}

pub overflow_add-from : goal.overflow_add-from
overflow_add-from c =
    let h = turn-fits (memory_of c.args.self.memory) c.args.sets.now c.requires c.loop-set.set-index c.loop-set.from c.loop-set.invariant c.loop-set-test.true in
    search rules

pub loop-set-preserved : goal.loop-set-preserved
loop-set-preserved c =
    let m = memory_of c.args.self.memory in
    let rs = c.args.sets.now in
    let j = c.loop-set.set-index in
    let S = Swept m (found c.args.self.memory.image.now) (j + 1) in
    elim c.if-is_sealed.branch [ then-is_sealed+in_default w ↦ subst S (sym w.from-is) (turn-went m rs c.requires j c.loop-set.from c.loop-set.invariant c.loop-set-test.true (sym w.if-is_sealed.ensures.value) w.in_default.ensures.cases) | else-is_sealed w ↦ subst S (sym w.from-is) (turn-passed m rs c.requires j c.loop-set.from c.loop-set.invariant c.loop-set-test.true (sym w.if-is_sealed.ensures.value)) ]

pub returns : goal.returns
returns c = record {
  value = mapped c.first_locked-2.result c.map.result _ (λ a. a / c.args.self.memory.size) (λ a k p. search rules) c.map.ensures.cases ∙ end-is (memory_of c.args.self.memory) c.args.sets.now c.requires c.loop-set.set-index c.loop-set.from c.loop-set.invariant c.loop-set-test.false c.first_locked-2.result c.first_locked-2.ensures.cases;
}
