-- The entry of a set from what its step shows and its code says.
use Rattle.std.proofs.Common.{◌≡◌, ℕ, ◌<◌, ◌≤◌, ◌⊎◌, List, length, take, drop, Some, None, Ok, Err, Option, Result, sym, refl, ap, ◌∙◌, subst, inr, arith, length-append}
use Rattle.std.specs.Result.{result_ok}
use Rattle.std.proofs.lemmas.List.{take_at}
use Rattle.codes.specs.declared.fault.Fault.{Fault}
use Rattle.codes.specs.Table.{unpacked_code}
use Rattle.packing.specs.declared.choice.UnpackFault.{UnpackFault}
use Rattle.packing.specs.declared.choice.UnpackFault.TheVariants.{Code, Short}
use Rattle.packing.specs.Packing.{Unpacks}
use Rattle.packing.specs.Packing as packing
use Rattle.sets.specs.Sets.{Set, Tile, filler, holds}
use Rattle.sets.specs.Parsing.{Flaw, Step, end, tile, wrong, parse}
use Rattle.sets.specs.Scans.{Unpack, examined, checked, next}
use Rattle.sets.specs.Objects.{flawed, unpacked}
use Rattle.sets.specs.Readings.{Memory, sealed, said}
use Rattle.scan.specs.declared.views.SetRecord.{SetRecord}
use Rattle.scan.specs.declared.views.SetView.{SetView}
use Rattle.scan.specs.Views.{set_of, recorded}
use Rattle.reading.specs.Inner.{locked_run}

-- a set that stands there has an object
examined_good : (s : Set) (r : Result (List ℕ) Flaw) (t : Tile) → examined s r ≡ tile t → (o : List ℕ) × (r ≡ Ok o)
examined_good s (Ok o) t e = (o, refl)
examined_good s (Err f) t e = let z : ◌≡◌ {A = ℕ} 0 1 = cc in absurd (omega arith)

checked_good : (u : Unpack) (st : Step) (s : Set) → checked u st ≡ tile (holds s) → (o : List ℕ) × (u s.code s.object ≡ Ok o)
checked_good u end s e = let z : ◌≡◌ {A = ℕ} 0 1 = cc in absurd (omega arith)
checked_good u (tile filler) s e = let z : ◌≡◌ {A = ℕ} 0 1 = cc in absurd (omega arith)
checked_good u (tile (holds r)) s e =
    let g = examined_good r (u r.code r.object) (holds s) e in
    let same : tile (holds r) ≡ tile (holds s) = ap (examined r) (sym g.1) ∙ e in
    let is : r ≡ s = cc in
    (g.0, subst (λ q. u q.code q.object ≡ Ok g.0) is g.1)
checked_good u (wrong f) s e = let z : ◌≡◌ {A = ℕ} 0 1 = cc in absurd (omega arith)

stands_good : (u : Unpack) (xs : List ℕ) (s : Set) → next u xs ≡ tile (holds s) → (o : List ℕ) × (u s.code s.object ≡ Ok o)
unfolding next
stands_good u xs s e = checked_good u (parse xs) s e

same-said : (r : Result (List ℕ) Fault) → said (flawed r) ≡ packing.said r
same-said (Ok x) = refl
same-said (Err f) = refl

not_both : (r : Result (List ℕ) Fault) (f : Fault) (o : List ℕ) → r ≡ Err f → flawed r ≡ Ok o → ⊥
not_both (Ok x) f o e g = let z : ◌≡◌ {A = ℕ} 0 1 = cc in omega arith
not_both (Err h) f o e g = let z : ◌≡◌ {A = ℕ} 0 1 = cc in omega arith

-- what a result was whose error was dropped
pub was_ok : {T E : Type 0} (r : Result T E) (o : Option T) (x : T) → o ≡ result_ok r → o ≡ Some x → r ≡ Ok x
was_ok {T = T} (Ok y) o x h is = let same : ◌≡◌ {A = Option T} (Some y) (Some x) = sym h ∙ is in ap Ok (cc)
was_ok {T = T} (Err e) o x h is = absurd (let same : ◌≡◌ {A = Option T} None (Some x) = sym h ∙ is in cc)

pub was_err : {T E : Type 0} (r : Result T E) (o : Option T) → o ≡ result_ok r → o ≡ None → (e : E) × (r ≡ Err e)
was_err {T = T} (Ok y) o h is = absurd (let same : ◌≡◌ {A = Option T} (Some y) None = sym h ∙ is in cc)
was_err (Err e) o h is = (e, refl)

module _ (b : ℕ) (xs : List ℕ) (at : ℕ) (v : SetView) (stands : tile (holds (set_of v)) ≡ next unpacked (drop at xs)) where
  abbrev k : ℕ
  k = v.place.code

  abbrev bs : List ℕ
  bs = v.object.now

  -- the code does not say the object only where the scratch is too short
  pub no_entry : (old new : List ℕ) (e : UnpackFault) → Unpacks (unpacked_code k bs) old new (Err e)
      → (s : Set) → next unpacked (drop at xs) ≡ tile (holds s) → (b ≡ 0) ⊎ (length old < length (said (unpacked s.code s.object)))
  no_entry old new (Code f) u s h =
      let good = stands_good unpacked (drop at xs) (set_of v) (sym stands) in
      absurd (not_both (unpacked_code k bs) f good.0 u.0 good.1)
  no_entry old new (Short m) u s h =
      let same : tile (holds (set_of v)) ≡ tile (holds s) = stands ∙ h in
      let it : set_of v ≡ s = cc in
      let long : length (said (unpacked s.code s.object)) ≡ m =
      ap (λ (q : Set). length (said (unpacked q.code q.object))) (sym it) ∙ ap length (same-said (unpacked_code k bs)) ∙ sym u.1.0 in
      inr (omega (arith, u.1.1))

  -- the object stands at the front of the scratch
  pub object-is : (old new : List ℕ) (m : ℕ) → Unpacks (unpacked_code k bs) old new (Ok m) → take m new ≡ said (unpacked k bs)
  object-is old new m u = ap (take m) u.1.1 ∙ take_at (packing.said (unpacked_code k bs)) (drop m old) m (sym u.1.0) ∙ sym (same-said (unpacked_code k bs))

  pub object-fits : (old new : List ℕ) (m : ℕ) → Unpacks (unpacked_code k bs) old new (Ok m) → m ≤ length new
  object-fits old new m u = omega (arith, u.1.0, ap length u.1.1, length-append (packing.said (unpacked_code k bs)) (drop m old))

-- the seal, by the record of the set
pub sealed-is : (m : Memory) (at : ℕ) (s : Set) (r : SetRecord) → r ≡ recorded at s → locked_run m r.at r.size ≡ sealed m (record { at = at; set = s })
sealed-is m at s r place = λ i. locked_run m (place i).at (place i).size
