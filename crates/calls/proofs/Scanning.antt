-- From the scan of an image to the rows of a read of the tag that was read into it.
use Rattle.std.proofs.Common.{◌≡◌, ℕ, false, List, ◌∷◌, length, Some, None, Ok, Err, Option, refl, ap, ◌∙◌, arith}
use Rattle.std.proofs.lemmas.Bool.{cond-false}
use Rattle.tags.specs.Tags.{Tag, bytes}
use Rattle.sets.specs.Parsing.{plain}
use Rattle.sets.specs.Scans.{Refusal, scan}
use Rattle.sets.specs.Objects.{unpacked}
use Rattle.sets.specs.Readings.{found}
use Rattle.scan.specs.declared.views.SetRecord.{SetRecord}
use Rattle.scan.specs.declared.tables.Tally.{Tally}
use Rattle.scan.specs.Tables.{tally, short, judged, answer, after}
use Rattle.calls.specs.declared.admission.Rooms.{Rooms}
use Rattle.calls.specs.Rows.{Row, first, start_rows}
use Rattle.calls.specs.Working.{tabled}
use Rattle.calls.specs.Reads.{take_rows, read_rows}
use Rattle.calls.proofs.Firsts.{first_on, first_stays}

-- the rows of a read, part by part
module _ (t : Tag) (w : Rooms) (c : List ℕ) (room : ℕ) where
  abbrev fault : Row
  fault = (scan unpacked (bytes t)).fault

  abbrev rest : List Row
  rest = take_rows c (found (bytes t)) room

  pub starts_no_more : (f : Refusal) → first (start_rows t None w) ≡ Some f → first (read_rows t w c room) ≡ Some f
  unfolding read_rows
  starts_no_more f e = first_stays (start_rows t None w) (fault ∷ rest) f e

  module _ (none : first (start_rows t None w) ≡ None) where
    by-fault : (o : Row) → fault ≡ o → first (read_rows t w c room) ≡ first (o ∷ rest)
    unfolding read_rows
    by-fault o e = first_on (start_rows t None w) (fault ∷ rest) none ∙ ap (λ q. first (q ∷ rest)) e

    pub scan-fails : (f : Refusal) → fault ≡ Some f → first (read_rows t w c room) ≡ Some f
    scan-fails f e = by-fault (Some f) e

    pub scan-passes : fault ≡ None → first (read_rows t w c room) ≡ first (take_rows c (found (bytes t)) room)
    scan-passes e = by-fault None e

-- the scan of an image in a table with room
judged-err : (o : Option Refusal) (u : Tally) (f : Refusal) → Err f ≡ judged o u → o ≡ Some f
judged-err None u f e = absurd (let z : ◌≡◌ {A = ℕ} 0 1 = cc in omega arith)
judged-err (Some g) u f e = cc

judged-ok : (o : Option Refusal) (u v : Tally) → Ok v ≡ judged o u → o ≡ None
judged-ok None u v e = refl
judged-ok (Some g) u v e = absurd (let z : ◌≡◌ {A = ℕ} 0 1 = cc in omega arith)

module _ (t : Tag) (room : ℕ) (fits : short room (bytes t) ≡ false) (xs : List ℕ) (is : xs ≡ bytes t) where
  judged-is : answer room xs ≡ judged (scan unpacked (bytes t)).fault (tally (length (bytes t)) (found (bytes t)))
  judged-is = ap (answer room) is ∙ cond-false (short room (bytes t)) (Err (record { place = 2; flaw = plain 4 })) (judged (scan unpacked (bytes t)).fault (tally (length (bytes t)) (found (bytes t)))) fits

  pub fault-told : (f : Refusal) → Err f ≡ answer room xs → (scan unpacked (bytes t)).fault ≡ Some f
  fault-told f e = judged-err (scan unpacked (bytes t)).fault (tally (length (bytes t)) (found (bytes t))) f (e ∙ judged-is)

  pub fault-none : (u : Tally) → Ok u ≡ answer room xs → (scan unpacked (bytes t)).fault ≡ None
  fault-none u e = judged-ok (scan unpacked (bytes t)).fault (tally (length (bytes t)) (found (bytes t))) u (e ∙ judged-is)

  pub table_left : (old new : List SetRecord) → length old ≡ room → new ≡ after xs old → new ≡ tabled t old
  table_left old new long e = e ∙ ap (λ q. after q old) is ∙ cond-false (short (length old) (bytes t)) old (tabled t old) (ap (λ k. short k (bytes t)) long ∙ fits)
