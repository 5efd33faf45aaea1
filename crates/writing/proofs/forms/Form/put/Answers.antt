use Rattle.std.proofs.Common.{[], ◌∷◌, replicate, subst, arith}
use Rattle.sets.specs.Writing.{name_bytes, length_bytes}
use Rattle.writing.specs.Forms.{wanted, formed}
use Rattle.writing.specs.Pens.{Wrote}
use Rattle.writing.proofs.Formed.{name_fits, object_few}
use Rattle.writing.proofs.Puttings.{wrote_set}
use Rattle.writing.proofs.forms.Form.put.Goals as goal

pub name-requires-clause-fits : goal.name-requires-clause-fits
name-requires-clause-fits c = name_fits c.args.self

pub length-requires-clause-few : goal.length-requires-clause-few
length-requires-clause-few c = omega (arith, object_few c.args.self)

pub returns : goal.returns
returns c =
    let f = c.args.self in
    wrote_set (formed c.args.self.extra (wanted c.args.self.item)) c.args.pen.now c.byte.new.self c.put_offset.new.pen c.name.new.self c.length.new.self c.object.new.self c.zeros.new.self
    (subst (λ b. Wrote (b ∷ []) c.args.pen.now c.byte.new.self) c.first.ensures c.byte.ensures)
    c.put_offset.ensures
    (subst (λ n. Wrote (name_bytes n) c.put_offset.new.pen c.name.new.self) f.spelled c.name.ensures)
    (subst (λ n. Wrote (length_bytes n) c.name.new.self c.length.new.self) f.planned.long c.length.ensures)
    c.object.ensures
    (subst (λ k. Wrote (replicate k 0) c.object.new.self c.zeros.new.self) c.saturating_sub.ensures c.zeros.ensures)
