use Rattle.std.proofs.Common.{◌≡◌, drop, sym, ◌∙◌, arith}
use Rattle.sets.specs.Parsing.{end, parse}
use Rattle.sets.proofs.Bodies.{step_end, step-zero, step-filler, step_set, step-nibble}
use Rattle.scan.proofs.steps.frame.Goals as goal
use Rattle.scan.proofs.steps.frame.Goals.{then-at-image-via-then-at-image, then-at-image-via-else-at-image+then-image-at-eq0}

pub returns-then-at-image : goal.returns-then-at-image
returns-then-at-image c =
    let xs = c.args.image.now in
    let e : end ≡ parse (drop c.args.at xs) =
    elim c.then-at-image.branch [ then-at-image-via-then-at-image w ↦ step_end xs c.args.at w.if-at-image.true | then-at-image-via-else-at-image+then-image-at-eq0 w ↦ step-zero xs c.args.at w.if-at-image.false w.if-image-at-eq0.true ] in
    record { value = e; cases = tt }

pub returns-then-image-at : goal.returns-then-image-at
returns-then-image-at c = record { value = step-filler c.args.image.now c.args.at (omega arith) c.if-image-at.true; cases = tt }

pub returns-then-image-at-eq0-2 : goal.returns-then-image-at-eq0-2
returns-then-image-at-eq0-2 c = record {
  value = step-nibble c.args.image.now c.args.at (omega arith) c.if-image-at-eq0.false c.if-image-at.false c.if-image-at-eq0-2.true;
  cases = tt;
}

pub returns : goal.returns
returns c = record {
  value = c.read_set.ensures.value ∙ sym (step_set c.args.image.now c.args.at (omega arith) (omega arith));
  cases = c.read_set.ensures.cases;
}
