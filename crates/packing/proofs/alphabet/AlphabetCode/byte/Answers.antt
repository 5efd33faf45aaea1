use Rattle.std.proofs.Common.{refl, ap, ◌∙◌, arith}
use Rattle.codes.specs.Table.{whole, letter}
use Rattle.packing.proofs.Meaning.{many-whole}
use Rattle.packing.proofs.Alphabets.{lettered-said}
use Rattle.packing.proofs.alphabet.AlphabetCode.byte.Goals as goal

pub group_of-requires : goal.group_of-requires
group_of-requires c =
    let s = c.args.self.now in
    let in' = lettered-said s.width.bits s.first s.last (whole s.width.bits c.args.bytes.now) c.args._n (omega (arith, many-whole s.width.bits c.args.bytes.now _ refl)) c.args.i c.requires.here in
    omega (arith, in'.0, c.requires.inside)

pub returns : goal.returns
returns c =
    let s = c.args.self.now in
    c.letter.ensures ∙ ap (letter s.width.bits s.first) c.group_of.ensures ∙ (lettered-said s.width.bits s.first s.last (whole s.width.bits c.args.bytes.now) c.args._n (omega (arith, many-whole s.width.bits c.args.bytes.now _ refl)) c.args.i c.requires.here).1
