-- From a step whose code is not looked at, and what its code is at fault for, to the step.
use Rattle.std.proofs.Common.{◌≡◌, ℕ, List, drop, Ok, Err, Result, sym, refl, ap, ◌∙◌, subst}
use Rattle.std.specs.Result.{MatchResult, IsErrAnd}
use Rattle.std.specs.Int.Digits.{AllBelowBase}
use Rattle.codes.specs.declared.fault.Fault.{Fault}
use Rattle.codes.specs.Table.{unpacked_code}
use Rattle.packing.specs.Packing.{Measured, said}
use Rattle.sets.specs.Sets.{filler, holds}
use Rattle.sets.specs.Parsing.{plain, end, tile, wrong, parse}
use Rattle.sets.specs.Scans.{examined, next}
use Rattle.sets.specs.Objects.{flawed, unpacked}
use Rattle.sets.proofs.Places.{next-is, filler-within}
use Rattle.scan.specs.declared.faults.Malformed.{Malformed}
use Rattle.scan.specs.declared.faults.ScanFault.TheVariants as faults
use Rattle.scan.specs.declared.views.SetView.{SetView}
use Rattle.scan.specs.declared.views.Scanned.{Scanned}
use Rattle.scan.specs.declared.views.Scanned.TheVariants.{End, Filler, Set}
use Rattle.scan.specs.Faults.{malformed_number}
use Rattle.scan.specs.Views.{set_of, recorded, told, Shows}
use Rattle.scan.specs.Inner.{framed}
use Rattle.scan.proofs.Shown.{shown}

-- what a result was before its error was turned
pub unturned-err : {T E D : Type 0} (r : Result T E) (s : Result T D) (P : E → D → Type 0) (d : D) → MatchResult r (λ x. s ≡ Ok x) (λ e. IsErrAnd s (P e)) → s ≡ Err d → (e : E) × (r ≡ Err e) × P e d
unturned-err {T = T} {D = D} (Ok x) s P d h is = absurd (let z : ◌≡◌ {A = Result T D} (Ok x) (Err d) = sym h ∙ is in cc)
unturned-err (Err e) (Ok y) P d h is = absurd (cc)
unturned-err (Err e) (Err b) P d h is = (e, refl, subst (P e) (cc) h)

pub unturned-ok : {T E D : Type 0} (r : Result T E) (s : Result T D) (P : E → D → Type 0) (x : T) → MatchResult r (λ x. s ≡ Ok x) (λ e. IsErrAnd s (P e)) → s ≡ Ok x → r ≡ Ok x
unturned-ok {T = T} {D = D} (Ok y) s P x h is = let same : ◌≡◌ {A = Result T D} (Ok y) (Ok x) = sym h ∙ is in ap Ok (cc)
unturned-ok (Err e) (Ok y) P x h is = absurd h
unturned-ok (Err e) (Err b) P x h is = absurd (cc)

module _ (xs : List ℕ) (at : ℕ) where
  pub malformed : (w : Malformed) → framed (Err w) ≡ parse (drop at xs) → told (Err (faults.Set (record { at = at; fault = w }))) ≡ next unpacked (drop at xs)
  malformed w e = sym (next-is unpacked (wrong (plain (malformed_number w))) (drop at xs) e)

  -- no set
  pub plainly : (s : Scanned) → ((v : SetView) → s ≡ Set v → ⊥) → framed (Ok s) ≡ parse (drop at xs) → (told (Ok s) ≡ next unpacked (drop at xs)) × Shows xs at (Ok s)
  plainly End none e = (sym (next-is unpacked end (drop at xs) e), tt)
  plainly Filler none e = (sym (next-is unpacked (tile filler) (drop at xs) e), filler-within xs at e)
  plainly (Set v) none e = absurd (none v refl)

  module _ (v : SetView) (e : framed (Ok (Set v)) ≡ parse (drop at xs)) where
    looked : next unpacked (drop at xs) ≡ examined (set_of v) (unpacked v.place.code v.object.now)
    looked = next-is unpacked (tile (holds (set_of v))) (drop at xs) e

    pub flawed-set : (f : Fault) → unpacked_code v.place.code v.object.now ≡ Err f → told (Err (faults.Code (record { at = at; fault = f }))) ≡ next unpacked (drop at xs)
    flawed-set f h = sym (looked ∙ ap (λ r. examined (set_of v) (flawed r)) h)

    pub shown-set : (n : ℕ) → Measured (unpacked_code v.place.code v.object.now) (Ok n) → v.place ≡ recorded at (set_of v) → AllBelowBase 256 xs → (told (Ok (Set v)) ≡ next unpacked (drop at xs)) × Shows xs at (Ok (Set v))
    shown-set n h place under =
        let object : List ℕ = said (unpacked_code v.place.code v.object.now) in
        (sym (looked ∙ ap (λ r. examined (set_of v) (flawed r)) h.0), shown xs at v object e place (ap flawed h.0) under)
