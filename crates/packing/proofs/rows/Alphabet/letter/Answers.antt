use Rattle.std.proofs.Common.{◌<◌, sym, subst, arith}
use Rattle.packing.proofs.Alphabets.{letter_by, letter-lt}
use Rattle.packing.specs.Any.{row}
use Rattle.packing.proofs.rows.Alphabet.letter.Goals as goal

pub overflow_cast-result : goal.overflow_cast-result
overflow_cast-result c =
    let s = c.args.self.now in
    record { fits = subst (λ v. v < 256) (sym (letter_by s.width.bits s.first c.from-first.result c.args.group c.from.result (omega (arith, (row s).narrow)) c.from-first.ensures c.from.ensures)) (letter-lt s.width.bits s.first c.args.group (row s).byte) }

pub returns : goal.returns
returns c = let s = c.args.self.now in letter_by s.width.bits s.first c.from-first.result c.args.group c.from.result (omega (arith, (row s).narrow)) c.from-first.ensures c.from.ensures
