use Rattle.std.proofs.Common.{arith}
use Rattle.sets.specs.Layouts.{laid}
use Rattle.writing.proofs.Puttings.{puts_none}
use Rattle.layout.specs.Plans.{run}
use Rattle.layout.proofs.Totals.{blank}
use Rattle.layout.proofs.Runs.{put_none, fit-last, fit_at, room_at, put-more, room-last, put-last}
use Rattle.layout.proofs.measured.Measured.write.Goals as goal

pub returns-in_default : goal.returns-in_default
returns-in_default c = put_none c.args.self.items.now c.args.extra c.args.gap.now c.in_default.ensures.cases

pub loop-item-init : goal.loop-item-init
unfolding laid run
loop-item-init c = puts_none 0 c.args.gap.now (omega arith)

pub write_at-at-requires : goal.write_at-at-requires
write_at-at-requires c = record {
  fit = fit_at c.args.self.items.now c.in-Some.front.now c.in-Some.last.now c.in-Some.ensures.cases.0 c.args.extra c.requires.few c.args.self.fit c.loop-item.item-index blank c.loop-item-test.true;
  few = omega arith;
  room = room_at c.args.self.items.now c.in-Some.front.now c.in-Some.last.now c.in-Some.ensures.cases.0 c.args.extra c.requires.few c.args.self.fit c.loop-item.item-index blank c.loop-item-test.true _ _ c.loop-item.invariant.ends (omega (arith, c.requires.room, c.loop-item.auto.gap));
}

pub loop-item-preserved : goal.loop-item-preserved
loop-item-preserved c =
    put-more c.args.self.items.now c.in-Some.front.now c.in-Some.last.now c.in-Some.ensures.cases.0 c.args.extra c.requires.few c.args.self.fit c.loop-item.item-index blank c.loop-item-test.true
    c.loop-item.at c.write_at-at.result c.args.gap.now c.loop-item.gap c.write_at-at.new.gap c.loop-item.invariant c.write_at-at.ensures

pub write_at-requires : goal.write_at-requires
write_at-requires c = record {
  fit = fit-last c.args.self.items.now c.in-Some.front.now c.in-Some.last.now c.in-Some.ensures.cases.0 c.args.extra c.requires.few c.args.self.fit;
  few = c.requires.few;
  room = room-last c.args.self.items.now c.in-Some.front.now c.in-Some.last.now c.in-Some.ensures.cases.0 c.args.extra c.requires.few c.args.self.fit c.loop-item.item-index c.loop-item-test.false _ _ c.loop-item.invariant.ends (omega (arith, c.requires.room, c.loop-item.auto.gap));
}

pub returns : goal.returns
returns c =
    put-last c.args.self.items.now c.in-Some.front.now c.in-Some.last.now c.in-Some.ensures.cases.0 c.args.extra c.requires.few c.args.self.fit c.loop-item.item-index c.loop-item-test.false
    c.loop-item.at c.write_at.result c.args.gap.now c.loop-item.gap c.write_at.new.gap c.loop-item.invariant c.write_at.ensures
