-- From the answers of the scan, the sweep and the identifiers to the answer of the check.
use Rattle.std.proofs.Common.{◌≡◌, ℕ, ◌<◌, ◌≤◌, Bool, true, false, cond, eqb, List, map, length, take, drop, Some, None, Ok, Err, Option, sym, refl, ap, ◌∙◌, arith, length-append}
use Rattle.std.proofs.lemmas.List.{take_at}
use Rattle.std.proofs.lemmas.Bool.{eq-eqb, ne_eqb, cond-true, cond-false}
use Rattle.sets.specs.Parsing.{plain}
use Rattle.sets.specs.Scans.{Refusal, scan}
use Rattle.sets.specs.Objects.{unpacked}
use Rattle.sets.specs.Readings.{Memory, Reading, found, entry, stray_block, repeat, judged, reads}
use Rattle.scan.specs.declared.views.SetRecord.{SetRecord}
use Rattle.scan.specs.declared.tables.Tally.{Tally}
use Rattle.scan.specs.Tables.{records, tally, short, filled}
use Rattle.scan.specs.Tables as tables
use Rattle.reading.specs.declared.memories.Memory as lent
use Rattle.reading.specs.Checks.{counted, answer, after}

abbrev small : Refusal
small = record { place = 2; flaw = plain 4 }

abbrev shapeless : Refusal
shapeless = record { place = 0; flaw = plain 2 }

-- blocks that have bytes are those of the memory
pub has-bytes : (b m : lent.Memory) → b ≡ m → 0 < b.size → m.size ≡ 0 → ⊥
has-bytes b m e h z = omega (arith, ap (λ (q : lent.Memory). q.size) e)

-- a scan that found no fault, in a table with room
pub record Clean (room : ℕ) (xs : List ℕ) (t : Tally) : Type 0 where
  pub fits : short room xs ≡ false
  pub none : (scan unpacked xs).fault ≡ None
  pub is : t ≡ tally (length xs) (found xs)

clean_by : (room : ℕ) (xs : List ℕ) (t : Tally) (b : Bool) (f : Option Refusal) → short room xs ≡ b → (scan unpacked xs).fault ≡ f → Ok t ≡ cond b (Err small) (tables.judged f (tally (length xs) (found xs))) → Clean room xs t
clean_by room xs t true f hb hf e = let z : ◌≡◌ {A = ℕ} 0 1 = cc in absurd (omega arith)
clean_by room xs t false None hb hf e = record { fits = hb; none = hf; is = cc }
clean_by room xs t false (Some f) hb hf e = let z : ◌≡◌ {A = ℕ} 0 1 = cc in absurd (omega arith)

pub clean : (room : ℕ) (xs : List ℕ) (t : Tally) → Ok t ≡ tables.answer room xs → Clean room xs t
clean room xs t e = clean_by room xs t (short room xs) (scan unpacked xs).fault refl refl e

-- what the table then begins with
module _ (xs : List ℕ) (old new : List SetRecord) (t : Tally) (h : Clean (length old) xs t) (e : new ≡ tables.after xs old) where
  abbrev rs : List SetRecord
  rs = records (found xs)

  filled_is : new ≡ filled rs old
  filled_is = e ∙ cond-false (short (length old) xs) old (filled rs old) h.fits

  count : t.sets ≡ length rs
  count = ap (λ (q : Tally). q.sets) h.is

  pub begins : take t.sets new ≡ records (found xs)
  begins = (λ i. take (count i) (filled_is i)) ∙ take_at rs (drop (length rs) old) (length rs) refl

  pub reaches : t.sets ≤ length new
  reaches = omega (arith, count, ap length filled_is, length-append rs (drop (length rs) old))

-- the answer, where blocks have bytes
module _ (room : ℕ) (m : Memory) (some : m.size ≡ 0 → ⊥) where
  abbrev t : Tally
  t = tally (length m.bytes) (found m.bytes)

  abbrev all : Reading
  all = record { entries = map (entry m) (found m.bytes) }

  past-shape : cond (short room m.bytes) (Err small) (counted t (reads m)) ≡ answer room m
  past-shape = sym (cond-false (eqb m.size 0) (Err shapeless) (cond (short room m.bytes) (Err small) (counted t (reads m))) (ne_eqb m.size 0 some))

  with_room : short room m.bytes ≡ false → (f : Option Refusal) (k a : Option ℕ) → f ≡ (scan unpacked m.bytes).fault → k ≡ stray_block m (found m.bytes) → a ≡ repeat (found m.bytes) → counted t (judged f k a all) ≡ answer room m
  unfolding reads
  with_room fits f k a hf hk ha =
      (λ i. counted t (judged (hf i) (hk i) (ha i) all)) ∙ sym (cond-false (short room m.bytes) (Err small) (counted t (reads m)) fits) ∙ past-shape

  pub strays : (u : Tally) → Clean room m.bytes u → (k : ℕ) → Some k ≡ stray_block m (found m.bytes) → Err (record { place = k; flaw = plain 16 }) ≡ answer room m
  strays u h k e = with_room h.fits None (Some k) (repeat (found m.bytes)) (sym h.none) e refl

  pub repeats : (u : Tally) → Clean room m.bytes u → (a : ℕ) → None ≡ stray_block m (found m.bytes) → Some a ≡ repeat (found m.bytes) → Err (record { place = a; flaw = plain 18 }) ≡ answer room m
  repeats u h a e g = with_room h.fits None None (Some a) (sym h.none) e g

  pub reads_on : (u : Tally) → Clean room m.bytes u → None ≡ stray_block m (found m.bytes) → None ≡ repeat (found m.bytes) → Ok u ≡ answer room m
  reads_on u h e g = ap Ok h.is ∙ with_room h.fits None None None (sym h.none) e g

  fails_by : (r : Refusal) (b : Bool) (f : Option Refusal) → short room m.bytes ≡ b → (scan unpacked m.bytes).fault ≡ f → Err r ≡ cond b (Err small) (tables.judged f t) → Err r ≡ answer room m
  fails_by r true f hb hf e = e ∙ sym (cond-true (short room m.bytes) (Err small) (counted t (reads m)) hb) ∙ past-shape
  fails_by r false None hb hf e = let z : ◌≡◌ {A = ℕ} 0 1 = cc in absurd (omega arith)
  fails_by r false (Some f) hb hf e = e ∙ with_room hb (Some f) (stray_block m (found m.bytes)) (repeat (found m.bytes)) (sym hf) refl refl

  pub fails : (r : Refusal) → Err r ≡ tables.answer room m.bytes → Err r ≡ answer room m
  fails r e = fails_by r (short room m.bytes) (scan unpacked m.bytes).fault refl refl e

  pub table_is : (old : List SetRecord) → tables.after m.bytes old ≡ after m old
  table_is old = sym (cond-false (eqb m.size 0) old (tables.after m.bytes old) (ne_eqb m.size 0 some))

-- and where they have none
pub no_shape : (room : ℕ) (m : Memory) (old : List SetRecord) → m.size ≡ 0 → (Err shapeless ≡ answer room m) × (old ≡ after m old)
no_shape room m old e = (
  sym (cond-true (eqb m.size 0) (Err shapeless) (cond (short room m.bytes) (Err small) (counted (tally (length m.bytes) (found m.bytes)) (reads m))) (eq-eqb m.size 0 e)),
  sym (cond-true (eqb m.size 0) old (tables.after m.bytes old) (eq-eqb m.size 0 e)),
)
