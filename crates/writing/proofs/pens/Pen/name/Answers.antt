use Rattle.std.proofs.Common.{◌+◌, [], ◌∷◌, length}
use Rattle.writing.proofs.Puttings.{wrote_then}
use Rattle.writing.proofs.pens.Pen.name.Goals as goal

pub returns-in-Led : goal.returns-in-Led
returns-in-Led c =
    rw c.in-Led.is
    (wrote_then ((0x7f + length c.in-Led.content.now) ∷ []) c.in-Led.content.now c.args.self.now c.byte-in-Led.new.self c.run.new.self c.byte-in-Led.ensures c.run.ensures)
