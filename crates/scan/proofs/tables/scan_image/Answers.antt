use Rattle.std.proofs.Common.{ℕ, Ok, Err, sym, ap, ◌∙◌, subst, arith}
use Rattle.std.proofs.lemmas.Result.{err_from_is_err_and}
use Rattle.sets.specs.Objects.{unpacked}
use Rattle.sets.proofs.Tilings.{scan-tiles, tiles-scan}
use Rattle.scan.specs.Faults.{scan_flaw}
use Rattle.scan.specs.Views.{set_of, told, Shows}
use Rattle.scan.specs.Tables.{answered}
use Rattle.scan.proofs.Codes.{found_code}
use Rattle.scan.proofs.Turns.{begun, skipped, kept, ended, failed, refused}
use Rattle.scan.proofs.tables.scan_image.Goals as goal

pub returns-then-table-image : goal.returns-then-table-image
returns-then-table-image c =
    let w = refused c.args.image.now c.args.table.now c.if-table-image.true in
    record { value = w.0; after = w.1; codes = found_code c.args.image.now; tiling = scan-tiles unpacked c.args.image.now; tiled = tiles-scan }

pub loop-at-init : goal.loop-at-init
loop-at-init c = begun c.args.image.now c.args.table.now

pub returns-in_err-step : goal.returns-in_err-step
returns-in_err-step c =
    let xs = c.args.image.now in
    let f = c.in_err-step.field-0.0 in
    let p = err_from_is_err_and c.from_residual.result c.from_residual.ensures.1 in
    let k = c.in_err-step.ensures in
    let w = failed c.loop-at.invariant c.if-table-image.false (scan_flaw f) k.value in
    record {
      value = ap answered (p.1 ∙ ap Err p.2) ∙ ap (λ (q : ℕ). Err (record { place = q; flaw = scan_flaw f })) k.cases ∙ w.0;
      after = w.1;
      codes = found_code xs;
      tiling = scan-tiles unpacked xs;
      tiled = tiles-scan;
    }

pub returns-in-End : goal.returns-in-End
returns-in-End c =
    let w = ended c.loop-at.invariant c.if-table-image.false (ap (λ s. told (Ok s)) (sym c.in-End.is) ∙ c.in_ok-step.ensures.value) in
    record { value = w.0; after = w.1; codes = found_code c.args.image.now; tiling = scan-tiles unpacked c.args.image.now; tiled = tiles-scan }

pub loop-at-preserved-in-Filler : goal.loop-at-preserved-in-Filler
loop-at-preserved-in-Filler c =
    let xs = c.args.image.now in
    skipped c.loop-at.invariant (ap (λ s. told (Ok s)) (sym c.in-Filler.is) ∙ c.in_ok-step.ensures.value) (subst (λ s. Shows xs c.loop-at.at (Ok s)) c.in-Filler.is c.in_ok-step.ensures.cases)

pub loop-at-preserved : goal.loop-at-preserved
loop-at-preserved c =
    let xs = c.args.image.now in
    let v = c.in-Set.set in
    let w = subst (λ s. Shows xs c.loop-at.at (Ok s)) c.in-Set.is c.in_ok-step.ensures.cases in
    kept c.loop-at.invariant (set_of v) v.place (ap (λ s. told (Ok s)) (sym c.in-Set.is) ∙ c.in_ok-step.ensures.value) w.place w.three w.inside (omega (arith, c.loop-at.invariant.thrice, c.if-table-image.false, w.three, w.inside))
