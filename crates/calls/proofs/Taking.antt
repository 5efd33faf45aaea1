-- An object unpacked to the front of an output, or too long for it.
use Rattle.std.proofs.Common.{◌≡◌, ℕ, ◌<◌, ◌≤◌, List, [], ◌∷◌, ◌++◌, length, drop, Some, None, Ok, Err, Option, Result, sym, refl, ap, ◌∙◌, ⊎_elim, arith, length-append, length-drop}
use Rattle.std.specs.Option.{ok_or}
use Rattle.std.specs.Result.{result_ok}
use Rattle.std.proofs.ByRecursion.{All-get_or}
use Rattle.std.proofs.lemmas.Bool.{lt-ltb, le-ltb}
use Rattle.codes.specs.declared.fault.Fault.{Fault}
use Rattle.codes.specs.Table.{unpacked_code}
use Rattle.packing.specs.declared.choice.UnpackFault.TheVariants.{Code}
use Rattle.packing.specs.Packing.{Stored, Lacks}
use Rattle.packing.specs.Packing as packing
use Rattle.sets.specs.Sets.{holds}
use Rattle.sets.specs.Parsing.{tile, plain}
use Rattle.sets.specs.Scans.{Refusal, Found, next}
use Rattle.sets.specs.Objects.{flawed, unpacked}
use Rattle.sets.specs.Readings.{found, said}
use Rattle.scan.specs.declared.views.SetView.{SetView}
use Rattle.scan.specs.Views.{set_of}
use Rattle.reading.proofs.Entering.{no_entry}
use Rattle.sets.proofs.Repeats.{found-next}
use Rattle.scan.specs.declared.views.SetRecord.{SetRecord}
use Rattle.scan.specs.Tables.{records}
use Rattle.reading.proofs.Sweeps.{count-is, record_at}
use Rattle.states.specs.declared.faults.CallFault.{CallFault}
use Rattle.states.specs.declared.faults.CallFault.TheVariants.{Absent}
use Rattle.calls.specs.declared.finds.Hit.{Hit}
use Rattle.calls.specs.Rows.{row, first}
use Rattle.calls.specs.Finds.{identifier_row, set_in, record_in, hit_in}
use Rattle.calls.specs.Reads.{object_of, object_shown, object_at, object_named, absent_row, output_row, take_rows, put_out}
use Rattle.calls.proofs.Firsts.{first_on, first_stays}

same-said : (r : Result (List ℕ) Fault) → said (flawed r) ≡ packing.said r
same-said (Ok x) = refl
same-said (Err f) = refl

-- a set that a step showed, and the code that unpacks it
module _ (xs : List ℕ) (at : ℕ) (v : SetView) (stands : tile (holds (set_of v)) ≡ next unpacked (drop at xs)) where
  abbrev n : ℕ
  n = v.place.code

  pub shown-is : object_shown (next unpacked (drop at xs)) ≡ packing.said (unpacked_code n v.object.now)
  shown-is = ap object_shown (sym stands) ∙ same-said (unpacked_code n v.object.now)

  -- the scan has found no fault in it
  pub no_fault : (f : Fault) → unpacked_code n v.object.now ≡ Err f → ⊥
  no_fault f e =
      let x = object_of (set_of v) in
      ⊎_elim (λ (h : 1 ≡ 0). omega arith) (λ (h : length x < length x). omega arith) (no_entry 1 xs at v stands x x (Code f) (e, refl) (set_of v) (sym stands))

module _ (x y old new : List ℕ) (n : ℕ) (is : x ≡ y) where
  pub takes : Stored y old new n → length new ≡ length old → (first (output_row x (length old) ∷ []) ≡ None) × (n ≡ length x) × (new ≡ put_out (first (output_row x (length old) ∷ [])) x old)
  takes s kept =
      let long : n ≡ length x = s.0 ∙ ap length (sym is) in
      let room : length x ≤ length old = omega (arith, ap length s.1, length-append y (drop n old), length-drop n old, ap length is) in
      let none : first (output_row x (length old) ∷ []) ≡ None = ap (λ b. first (row 26 (length x) b ∷ [])) (le-ltb (length old) (length x) room) in (
        none,
        long,
        s.1 ∙ (λ i. sym is i ++ drop (long i) old) ∙ ap (λ o. put_out o x old) (sym none),
      )

  pub lacks : Lacks y old new n → (first (output_row x (length old) ∷ []) ≡ Some (record { place = n; flaw = plain 26 })) × (new ≡ put_out (first (output_row x (length old) ∷ [])) x old)
  lacks s =
      let long : length x ≡ n = ap length is ∙ sym s.0 in
      let holds-so : first (output_row x (length old) ∷ []) ≡ Some (record { place = n; flaw = plain 26 }) =
      ap (λ b. first (row 26 (length x) b ∷ [])) (lt-ltb (length old) (length x) (omega (arith, s.1))) ∙ ap (λ k. Some (record { place = k; flaw = plain 26 })) long in
      (holds-so, s.2 ∙ ap (λ o. put_out o x old) (sym holds-so))

-- the set that a record stands for
pub stands_at : (xs : List ℕ) (rs : List SetRecord) → rs ≡ records (found xs) → (i : ℕ) → i < length rs → next unpacked (drop (record_in rs i).at xs) ≡ tile (holds (set_in (found xs) i).set)
stands_at xs rs e i h =
    ap (λ (r : SetRecord). next unpacked (drop r.at xs)) (record_at (found xs) rs i _ e h)
    ∙ All-get_or (λ f. next unpacked (drop f.at xs) ≡ tile (holds f.set)) (found xs) i _ (omega (arith, count-is (found xs) rs e)) (found-next xs)

-- whether a set was found, by what is answered for one that was not
pub was_missed : (o : Option Hit) (r : Result Hit CallFault) (y : CallFault) → r ≡ ok_or o Absent → r ≡ Err y → (None ≡ o) × (y ≡ Absent)
was_missed None r y e is = (refl, cc)
was_missed (Some h) r y e is = absurd (let z : ◌≡◌ {A = ℕ} 0 1 = cc in omega arith)

pub was_found : (o : Option Hit) (r : Result Hit CallFault) (h : Hit) → o ≡ result_ok r → r ≡ Ok h → Some h ≡ o
was_found o r h e is = sym (e ∙ ap result_ok is)

-- the rows of the arguments, one after another
module _ (c : List ℕ) (fs : List Found) (room : ℕ) where
  pub not_proper : (f : Refusal) → first (identifier_row c ∷ []) ≡ Some f → first (take_rows c fs room) ≡ Some f
  unfolding take_rows
  not_proper f e = first_stays (identifier_row c ∷ []) (absent_row (hit_in c fs) ∷ output_row (object_named c fs) room ∷ []) f e

  by_hit : first (identifier_row c ∷ []) ≡ None → (h : Option Hit) → h ≡ hit_in c fs → first (take_rows c fs room) ≡ first (absent_row h ∷ output_row (object_at fs h) room ∷ [])
  unfolding take_rows
  by_hit e h is =
      first_on (identifier_row c ∷ []) (absent_row (hit_in c fs) ∷ output_row (object_named c fs) room ∷ []) e
      ∙ ap (λ q. first (absent_row q ∷ output_row (object_at fs q) room ∷ [])) (sym is)

  pub not_there : first (identifier_row c ∷ []) ≡ None → None ≡ hit_in c fs → first (take_rows c fs room) ≡ Some (record { place = 0; flaw = plain 23 })
  not_there e is = by_hit e None is

  -- the object of the set that is there
  module _ (e : first (identifier_row c ∷ []) ≡ None) (h : Hit) (is : Some h ≡ hit_in c fs) (x : List ℕ) (shown : x ≡ object_of (set_in fs h.index).set) where
    pub named-is : x ≡ object_named c fs
    named-is = shown ∙ ap (object_at fs) is

    pub by-output : first (take_rows c fs room) ≡ first (output_row x room ∷ [])
    by-output = by_hit e (Some h) is ∙ ap (λ q. first (output_row q room ∷ [])) (sym shown)

    pub put_same : (old new : List ℕ) → new ≡ put_out (first (output_row x room ∷ [])) x old → new ≡ put_out (first (take_rows c fs room)) (object_named c fs) old
    put_same old new p = p ∙ (λ i. put_out (sym by-output i) (named-is i) old)
