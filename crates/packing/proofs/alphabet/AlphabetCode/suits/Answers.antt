use Rattle.packing.specs.Any.{row}
use Rattle.packing.proofs.Alphabets.{suit-few, suit-other, suit-end, suit-plain, suit-odd}
use Rattle.packing.proofs.alphabet.AlphabetCode.suits.Goals as goal
use Rattle.packing.proofs.alphabet.AlphabetCode.suits.Goals.{then-n-self-via-then-n-self, then-n-self-via-else-n-self+then-not-all_within, else-self-via-then-self+else-n-eq0, else-self-via-else-self}

pub returns-then-n-self : goal.returns-then-n-self
returns-then-n-self c =
    let l = row c.args.self.now in
    elim c.then-n-self.branch [
      | then-n-self-via-then-n-self v ↦ suit-few l c.args.object.now v.if-n-self.true
      | then-n-self-via-else-n-self+then-not-all_within v ↦ suit-other l c.args.object.now v.if-not-all_within.ensures
    ]

pub returns-then-n-eq0 : goal.returns-then-n-eq0
returns-then-n-eq0 c = suit-end (row c.args.self.now) c.args.object.now c.if-n-self.false c.if-not-all_within.ensures c.if-self.true c.if-n-eq0.true

pub returns : goal.returns
returns c =
    let l = row c.args.self.now in
    elim c.else-self.branch [
      | else-self-via-then-self+else-n-eq0 v ↦ suit-odd l c.args.object.now c.if-n-self.false c.if-not-all_within.ensures v.if-n-eq0.false
      | else-self-via-else-self v ↦ suit-plain l c.args.object.now c.if-n-self.false c.if-not-all_within.ensures v.if-self.false
    ]
