use Rattle.std.proofs.Common.{◌≡◌, ◌<◌, drop, Ok, Err, sym, refl, ap, ◌∙◌, subst, arith, rules}
use Rattle.std.proofs.ByRecursion.{All-from_get_or}
use Rattle.std.proofs.lemmas.Result.{err_from_is_err_and}
use Rattle.sets.specs.Parsing.{parse}
use Rattle.sets.proofs.Written.{smallest-back}
use Rattle.scan.specs.declared.faults.ScanFault.TheVariants as faults
use Rattle.scan.specs.declared.views.Scanned.{Scanned}
use Rattle.scan.specs.declared.views.Scanned.TheVariants.{End, Filler, Set}
use Rattle.scan.specs.Views.{told, Shows}
use Rattle.scan.specs.Inner.{framed, Frames}
use Rattle.scan.proofs.Stepping.{unturned-err, unturned-ok, malformed, plainly, flawed-set, shown-set}
use Rattle.scan.proofs.steps.step.Goals as goal

pub returns-in-Err : goal.returns-in-Err
returns-in-Err c = record {
  value = ap (λ f. told (Err f)) c.from.ensures ∙ malformed c.args.image.now c.args.at c.in-Err.fault c.in-Err.ensures.value;
  cases = subst (λ f. Shows c.args.image.now c.args.at (Err f)) (sym c.from.ensures) refl;
  written = smallest-back;
}

pub returns-in-Ok-End : goal.returns-in-Ok-End
returns-in-Ok-End c =
    let k = plainly c.args.image.now c.args.at End (λ v e. absurd (let z : ◌≡◌ {A = Scanned} End (Set v) = e in cc)) (ap (λ s. framed (Ok s)) (sym c.in-Ok-End.field-0-is) ∙ c.in-Ok-End.ensures.value) in
    record { value = k.0; cases = k.1; written = smallest-back }

pub returns-in-Ok-Filler : goal.returns-in-Ok-Filler
returns-in-Ok-Filler c =
    let k = plainly c.args.image.now c.args.at Filler (λ v e. absurd (let z : ◌≡◌ {A = Scanned} Filler (Set v) = e in cc)) (ap (λ s. framed (Ok s)) (sym c.in-Ok-Filler.field-0-is) ∙ c.in-Ok-Filler.ensures.value) in
    record { value = k.0; cases = k.1; written = smallest-back }

pub returns-in_err-map_err-in-Ok-Set : goal.returns-in_err-map_err-in-Ok-Set
returns-in_err-map_err-in-Ok-Set c =
    let xs = c.args.image.now in
    let at = c.args.at in
    let v = c.in-Ok-Set.set in
    let a = c.in_err-map_err-in-Ok-Set.field-0.0 in
    let w = unturned-err c.examine.result c.map_err.result _ a c.map_err.ensures.cases c.in_err-map_err-in-Ok-Set.was in
    let p = err_from_is_err_and c.from_residual.result c.from_residual.ensures.1 in
    let q : a ≡ record { at = at; fault = w.0 } = let t = w.2 in search rules in
    let e = p.1 ∙ ap Err p.2 ∙ ap (λ a. Err (faults.Code a)) q in
    record {
      value = ap told e ∙ flawed-set xs at v (ap (λ s. framed (Ok s)) (sym c.in-Ok-Set.field-0-is) ∙ c.in-Ok-Set.ensures.value) w.0 (rw w.1 at c.examine.ensures);
      cases = subst (Shows xs at) (sym e) refl;
      written = smallest-back;
    }

pub returns-in_ok-map_err-in-Ok-Set : goal.returns-in_ok-map_err-in-Ok-Set
returns-in_ok-map_err-in-Ok-Set c =
    let xs = c.args.image.now in
    let at = c.args.at in
    let v = c.in-Ok-Set.set in
    let stands : framed (Ok (Set v)) ≡ parse (drop at xs) = ap (λ s. framed (Ok s)) (sym c.in-Ok-Set.field-0-is) ∙ c.in-Ok-Set.ensures.value in
    let frames : Frames at (Ok (Set v)) = subst (λ s. Frames at (Ok s)) c.in-Ok-Set.field-0-is c.in-Ok-Set.ensures.cases in
    let good = unturned-ok c.examine.result c.map_err.result _ _ c.map_err.ensures.cases c.in_ok-map_err-in-Ok-Set.was in
    let k = shown-set xs at v stands _ (rw good at c.examine.ensures) frames.0 (All-from_get_or (λ d. d < 256) xs 0 (λ i h. omega (arith, c.type_inv.image i))) in
    record { value = k.0; cases = k.1; written = smallest-back }
