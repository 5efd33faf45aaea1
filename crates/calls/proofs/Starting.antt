-- From the parts of a call's beginning to its rows, and back.
use Rattle.std.proofs.Common.{◌≡◌, ℕ, ◌*◌, ◌≤◌, true, ltb, List, [], ◌∷◌, length, Some, None, Ok, Err, Option, Result, sym, ap, ◌∙◌, arith}
use Rattle.std.proofs.lemmas.Bool.{not-false, ltb-false, le-ltb, cond-false}
use Rattle.tags.specs.Tags.{Tag, in_limits}
use Rattle.tags.specs.declared.shapes.Shape.{Shape}
use Rattle.drivers.specs.declared.faults.WholeFault.{WholeFault}
use Rattle.drivers.specs.declared.faults.WholeFault.TheVariants.{Room}
use Rattle.drivers.specs.Wholes.{whole_answer, whole_image}
use Rattle.sets.specs.Scans.{Refusal}
use Rattle.states.specs.declared.holding.Noted.{Noted}
use Rattle.calls.specs.declared.admission.Rooms.{Rooms}
use Rattle.calls.specs.Rows.{first, shape_row, row, room_rows, entry_row, start_rows, seen}
use Rattle.calls.specs.Working.{imaged}
use Rattle.calls.proofs.Firsts.{first_on, first_stays, none_of, row_fails}

-- the shape and the system byte as the driver told them
module _ (t : Tag) (n : Option Noted) (w : Rooms) (s : Shape) (is : (s.count ≡ t.count) × (s.size ≡ t.size)) where
  rooms-are : first (room_rows s.count s.size w) ≡ first (room_rows t.count t.size w)
  rooms-are = λ i. first (room_rows (is.0 i) (is.1 i) w)

  pub no_room : (f : Refusal) → first (room_rows s.count s.size w) ≡ Some f → first (start_rows t n w) ≡ Some f
  unfolding start_rows
  no_room f e = first_stays (room_rows t.count t.size w) (entry_row (seen t) n ∷ []) f (sym rooms-are ∙ e)

  module _ (room : first (room_rows s.count s.size w) ≡ None) (system : ℕ) (same : system ≡ t.system) where
    pub seen-is : record { shape = s; system = system } ≡ seen t
    seen-is = λ i. record { shape = record { count = is.0 i; size = is.1 i }; system = same i }

    pub starts : (o : Option Refusal) → first (entry_row (record { shape = s; system = system }) n ∷ []) ≡ o → first (start_rows t n w) ≡ o
    unfolding start_rows
    starts o e = first_on (room_rows t.count t.size w) (entry_row (seen t) n ∷ []) (sym rooms-are ∙ room) ∙ ap (λ v. first (entry_row v n ∷ [])) (sym seen-is) ∙ e

-- what is so where none of the first rows holds
pub record Started (t : Tag) (w : Rooms) : Type 0 where
  pub limits : in_limits t.count t.size ≡ true
  pub image : t.count * t.size ≤ w.image
  pub table : 341 ≤ w.table
  pub scratch : 3072 ≤ w.scratch

pub started : (t : Tag) (n : Option Noted) (w : Rooms) → first (start_rows t n w) ≡ None → Started t w
unfolding start_rows
started t n w e =
    let a = none_of (shape_row t.count t.size) _ e in
    let b = none_of (row 4 1 (ltb w.image (t.count * t.size))) _ a.1 in
    let c = none_of (row 4 2 (ltb w.table 341)) _ b.1 in
    let d = none_of (row 4 3 (ltb w.scratch 3072)) _ c.1 in
    record {
      limits = not-false _ (row_fails 2 0 _ a.0);
      image = ltb-false _ _ (row_fails 4 1 _ b.0);
      table = ltb-false _ _ (row_fails 4 2 _ c.0);
      scratch = ltb-false _ _ (row_fails 4 3 _ d.0);
    }

-- then the tag is read whole
module _ (t : Tag) (m : ℕ) (h : t.count * t.size ≤ m) where
  pub reads_whole : (f : WholeFault) → Err f ≡ whole_answer t m → ⊥
  reads_whole f e =
      let q : ◌≡◌ {A = Result (Unit {0}) WholeFault} (Err f) (Ok tt) = e ∙ cond-false (ltb m (t.count * t.size)) (Err (Room (t.count * t.size))) (Ok tt) (le-ltb m (t.count * t.size) h) in
      let z : ◌≡◌ {A = ℕ} 0 1 = cc in
      omega arith

pub whole-imaged : (t : Tag) (xs : List ℕ) → t.count * t.size ≤ length xs → whole_image t xs ≡ imaged t xs
whole-imaged t xs h = cond-false (ltb (length xs) (t.count * t.size)) xs (imaged t xs) (le-ltb (length xs) (t.count * t.size) h)
