use Rattle.std.proofs.Common.{◌*◌, ◌/◌, ◌<◌, length, Err, sym, ap, ◌∙◌, subst}
use Rattle.std.proofs.ByRecursion.{All-from_get_or}
use Rattle.std.proofs.lemmas.Result.{err_from_is_err_and}
use Rattle.codes.specs.declared.fault.Fault.TheVariants.{NoPadding}
use Rattle.codes.specs.Table.{pad_behind, unpacked_code}
use Rattle.packing.specs.Packing.{Measured}
use Rattle.packing.proofs.Meaning.{measured_fault, measured_pad, measured_object}
use Rattle.packing.proofs.kept.Kept.length.Goals as goal

pub returns-in_err-length : goal.returns-in_err-length
returns-in_err-length g c =
    let m = g.C.Code in
    let law = g.met.C.Code.unpacks c.args.self.now.code.now c.args.self.now.bytes.now (All-from_get_or (λ d. d < 256) c.args.self.now.bytes.now 0 c.args.self.now.octets) in
    let is = c.args.self.now.left in
    let q = err_from_is_err_and c.from_residual.result c.from_residual.ensures.1 in
    subst (Measured (unpacked_code (m.listed c.args.self.now.code.now) c.args.self.now.bytes.now)) (sym q.1)
    (measured_fault (m.wide c.args.self.now.code.now) (m.pad c.args.self.now.code.now) (m.meant c.args.self.now.code.now) c.args.self.now.bytes.now c.args.self.now.count is _ law q.0 (c.in_err-length.ensures ∙ ap Err (sym q.2)))

pub returns-then-not-ends_padded : goal.returns-then-not-ends_padded
returns-then-not-ends_padded g c =
    let m = g.C.Code in
    let law = g.met.C.Code.unpacks c.args.self.now.code.now c.args.self.now.bytes.now (All-from_get_or (λ d. d < 256) c.args.self.now.bytes.now 0 c.args.self.now.octets) in
    let is = c.args.self.now.left in
    measured_pad (m.wide c.args.self.now.code.now) (m.pad c.args.self.now.code.now) (m.meant c.args.self.now.code.now) c.args.self.now.bytes.now c.args.self.now.count is _ law c.in_ok-length.length c.in_ok-length.ensures ((λ j. pad_behind (sym c.width-width.ensures j) (sym c.padding.ensures j) c.args.self.now.bytes.now) ∙ sym c.if-not-ends_padded.ensures)
    ∙ ap (λ k. Err (NoPadding k)) (ap (λ w. length c.args.self.now.bytes.now * 8 / w) (sym c.width-width.ensures) ∙ sym c.whole_groups.ensures.group)

pub returns : goal.returns
returns g c =
    let m = g.C.Code in
    let law = g.met.C.Code.unpacks c.args.self.now.code.now c.args.self.now.bytes.now (All-from_get_or (λ d. d < 256) c.args.self.now.bytes.now 0 c.args.self.now.octets) in
    let is = c.args.self.now.left in
    measured_object (m.wide c.args.self.now.code.now) (m.pad c.args.self.now.code.now) (m.meant c.args.self.now.code.now) c.args.self.now.bytes.now c.args.self.now.count is _ law c.in_ok-length.length c.in_ok-length.ensures ((λ j. pad_behind (sym c.width-width.ensures j) (sym c.padding.ensures j) c.args.self.now.bytes.now) ∙ sym c.if-not-ends_padded.ensures)
