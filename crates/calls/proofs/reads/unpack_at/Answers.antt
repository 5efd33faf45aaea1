use Rattle.std.proofs.Common.{◌≡◌, drop, Ok, Err, sym, ap, ◌∙◌, subst}
use Rattle.codes.specs.Table.{unpacked_code}
use Rattle.packing.specs.Packing as packing
use Rattle.sets.specs.Sets.{holds}
use Rattle.sets.specs.Parsing.{tile}
use Rattle.sets.specs.Scans.{next}
use Rattle.sets.specs.Objects.{unpacked}
use Rattle.scan.specs.Views.{set_of, told, Shows}
use Rattle.calls.proofs.Taking.{no_fault}
use Rattle.calls.proofs.reads.unpack_at.Goals as goal

pub unpack_set-requires : goal.unpack_set-requires
unpack_set-requires c =
    (subst (Shows c.args.image.now c.args.at) (c.in-Ok-Set.is ∙ ap Ok c.in-Ok-Set.field-0-is) c.step.ensures.cases).seven

pub unreachable-requires-in-Err-Code : goal.unreachable-requires-in-Err-Code
unreachable-requires-in-Err-Code c =
    let xs = c.args.image.now in
    let v = c.in-Ok-Set.set in
    let stands : tile (holds (set_of v)) ≡ next unpacked (drop c.args.at xs) = ap told (sym (c.in-Ok-Set.is ∙ ap Ok c.in-Ok-Set.field-0-is)) ∙ c.step.ensures.value in
    let u = subst (packing.Unpacks (unpacked_code v.place.code v.object.now) c.args.output.now c.unpack_set.new.output) (c.in-Err-Code.is ∙ ap Err c.in-Err-Code.field-0-is) c.unpack_set.ensures in
    no_fault xs c.args.at v stands c.in-Err-Code.field-0-0 u.0
