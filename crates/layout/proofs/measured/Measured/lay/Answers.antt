use Rattle.std.proofs.Common.{◌-◌, ◌≤◌, ◌++◌, map, length, replicate, sym, ap, ◌∙◌, subst, arith}
use Rattle.sets.specs.Layouts.{laid}
use Rattle.writing.specs.Forms.{wanted}
use Rattle.layout.specs.Plans.{total, run, taken}
use Rattle.layout.specs.Lays.{laid_gap}
use Rattle.layout.proofs.Runs.{taken-few, taken-bytes, plain-bytes, put_rest, gap-locked}
use Rattle.layout.proofs.measured.Measured.lay.Goals as goal

pub write-at-requires : goal.write-at-requires
write-at-requires c =
    let m = c.args.self in
    let ws = map wanted c.args.self.items.now in
    let left = length c.args.gap.now - c.args.self.sum in
    let few = taken-few ws left in
    record {
      few = omega (arith, c.take_over.ensures, few.0);
      room = subst (λ x. length (laid (run ws x)) ≤ length c.args.gap.now) (sym c.take_over.ensures) (omega (arith, taken-bytes ws left m.fit, few.1, m.summed, c.requires));
    }

pub write-at-requires-in-End-clause-room : goal.write-at-requires-in-End-clause-room
write-at-requires-in-End-clause-room c = omega (arith, plain-bytes (map wanted c.args.self.items.now) c.args.self.fit, c.args.self.summed, c.requires)

pub returns-in-Locked : goal.returns-in-Locked
returns-in-Locked c =
    let m = c.args.self in
    let ws = map wanted c.args.self.items.now in
    let g = length c.args.gap.now in
    let left = length c.args.gap.now - c.args.self.sum in
    let e = c.take_over.ensures in
    let few = taken-few ws left in
    let bytes = taken-bytes ws left m.fit in
    let over = ap (λ x. length (laid (run ws x))) c.take_over.ensures in
    let is = put_rest c.write-at.result (left - taken ws left) 0x80 (laid (run ws c.take_over.result)) c.args.gap.now c.write-at.new.gap c.fill_from.new.gap c.write-at.auto.gap c.write-at.ensures c.fill_from.ensures (omega (arith, over, bytes, few.1, m.summed, c.requires)) in
    is ∙ ap (λ x. laid (run ws x) ++ replicate (left - taken ws left) 0x80) e ∙ gap-locked ws g left (ap (λ n. g - n) m.summed) ∙ ap (λ b. laid_gap b ws g) (sym c.in-Locked.is)

pub returns-in-End : goal.returns-in-End
returns-in-End c =
    let m = c.args.self in
    let ws = map wanted c.args.self.items.now in
    let g = length c.args.gap.now in
    let is = put_rest c.write-at-in-End.result (g - total ws) 0 (laid (run ws 0)) c.args.gap.now c.write-at-in-End.new.gap c.fill_from-in-End.new.gap c.write-at-in-End.auto.gap c.write-at-in-End.ensures c.fill_from-in-End.ensures (ap (λ n. g - n) (sym (plain-bytes ws m.fit))) in
    is ∙ ap (λ b. laid_gap b ws g) (sym c.in-End.is)
