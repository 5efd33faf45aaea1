-- From the check of an image to the rows of the tag that was read into it.
use Rattle.std.proofs.Common.{◌≡◌, ℕ, ◌*◌, ◌/◌, ◌≤◌, false, cond, eqb, List, [], ◌∷◌, map, length, take, drop, replicate, Some, None, Ok, Err, Option, Result, sym, refl, ap, ◌∙◌, arith}
use Rattle.std.proofs.lemmas.List.{take_at, length-take-le}
use Rattle.std.proofs.lemmas.Bool.{ne_eqb, le-ltb, cond-false}
use Rattle.tags.specs.Tags.{Tag, Shaped, bytes}
use Rattle.tags.specs.Dumps.{nonzero}
use Rattle.tags.proofs.Limits.{limits-parts}
use Rattle.drivers.proofs.Fronts.{length_front, front-all}
use Rattle.sets.specs.Parsing.{plain}
use Rattle.sets.specs.Scans.{Refusal}
use Rattle.sets.specs.Readings.{Memory, Reading, found, reads}
use Rattle.scan.specs.declared.views.SetRecord.{SetRecord}
use Rattle.scan.specs.declared.tables.Tally.{Tally}
use Rattle.scan.specs.Tables.{records, tally, short, filled}
use Rattle.scan.specs.Tables as tables
use Rattle.reading.specs.Checks.{memory, counted, answer, after}
use Rattle.states.specs.declared.holding.Noted.{Noted}
use Rattle.calls.specs.declared.admission.Rooms.{Rooms}
use Rattle.calls.specs.Rows.{first, fault_of, start_rows, seen}
use Rattle.calls.specs.Working.{Work, rooms_of, imaged, tabled, zeroed, renewed, unless, work}
use Rattle.calls.specs.Starts.{memory_of, begin_rows, worked}
use Rattle.calls.proofs.Firsts.{first_on, first_stays, first_one, unless-some, unless-none}
use Rattle.calls.proofs.Starting.{Started, started}

pub length_bytes : (t : Tag) → Shaped t → length (bytes t) ≡ t.count * t.size
length_bytes t s = ap length (sym (front-all t s t.count refl)) ∙ length_front t s t.count (omega arith)

-- the front of an image that a tag was read into
pub front-is : (t : Tag) → Shaped t → (old image : List ℕ) (n : ℕ) → image ≡ imaged t old → n ≡ t.count * t.size → take n image ≡ bytes t
front-is t s old image n is e = (λ i. take (e i) (is i)) ∙ take_at (bytes t) (drop (t.count * t.size) old) (t.count * t.size) (length_bytes t s)

-- counts are told of a memory that reads as a list
counted-ok : (u v : Tally) (r : Result Reading Refusal) → Ok u ≡ counted v r → (fault_of r ≡ None) × (u ≡ v)
counted-ok u v (Ok r) e = (refl, cc)
counted-ok u v (Err f) e = absurd (let z : ◌≡◌ {A = ℕ} 0 1 = cc in omega arith)

counted-err : (f : Refusal) (v : Tally) (r : Result Reading Refusal) → Err f ≡ counted v r → fault_of r ≡ Some f
counted-err f v (Ok r) e = absurd (let z : ◌≡◌ {A = ℕ} 0 1 = cc in omega arith)
counted-err f v (Err g) e = cc

module _ (t : Tag) (s : Shaped t) (n : Option Noted) (w : Rooms) (none : first (start_rows t n w) ≡ None) where
  go : Started t w
  go = started t n w none

  some : t.size ≡ 0 → ⊥
  some e = omega (arith, (limits-parts t.count t.size go.limits).0)

  pub fits : short w.table (bytes t) ≡ false
  fits = le-ltb w.table (length (bytes t) / 3) (omega (arith, go.table, length_bytes t s, (limits-parts t.count t.size go.limits).4))

  abbrev all : Tally
  all = tally (length (bytes t)) (found (bytes t))

  answer-is : answer w.table (memory_of t) ≡ counted all (reads (memory_of t))
  answer-is =
      cond-false (eqb t.size 0) (Err (record { place = 0; flaw = plain 2 })) (cond (short w.table (bytes t)) (Err (record { place = 2; flaw = plain 4 })) (counted all (reads (memory_of t)))) (ne_eqb t.size 0 some)
      ∙ cond-false (short w.table (bytes t)) (Err (record { place = 2; flaw = plain 4 })) (counted all (reads (memory_of t))) fits

  rows_on : first (begin_rows t n w) ≡ fault_of (reads (memory_of t))
  unfolding begin_rows
  rows_on = first_on (start_rows t n w) (fault_of (reads (memory_of t)) ∷ []) none ∙ first_one (fault_of (reads (memory_of t)))

  -- by what the check of a memory, which is the tag's, answered and left
  module _ (m : Memory) (is : m ≡ memory_of t) where
    told : (r : Result Tally Refusal) → r ≡ answer w.table m → r ≡ counted all (reads (memory_of t))
    told r e = e ∙ ap (answer w.table) is ∙ answer-is

    pub refuses : (f : Refusal) → Err f ≡ answer w.table m → first (begin_rows t n w) ≡ Some f
    refuses f e = rows_on ∙ counted-err f all (reads (memory_of t)) (told (Err f) e)

    pub grants : (u : Tally) → Ok u ≡ answer w.table m → (first (begin_rows t n w) ≡ None) × (u ≡ all)
    grants u e = let c = counted-ok u all (reads (memory_of t)) (told (Ok u) e) in (rows_on ∙ c.0, c.1)

    pub leaves : (old new : List SetRecord) → length old ≡ w.table → new ≡ after m old → new ≡ tabled t old
    leaves old new long e =
        e
        ∙ ap (λ q. after q old) is
        ∙ cond-false (eqb t.size 0) old (tables.after (bytes t) old) (ne_eqb t.size 0 some)
        ∙ cond-false (short (length old) (bytes t)) old (tabled t old) (ap (λ k. short k (bytes t)) long ∙ fits)

-- what is so once a call is prepared
pub record Prepared (t : Tag) (n : Option Noted) (w : Work) (here : Noted) (image scratch : List ℕ) : Type 0 where
  pub none : first (start_rows t n (rooms_of w)) ≡ None
  pub told : here ≡ seen t
  pub read : image ≡ imaged t w.image
  pub zeros : scratch ≡ zeroed w.scratch
  pub room : here.shape.count * here.shape.size ≤ length w.image
  pub front : take (here.shape.count * here.shape.size) image ≡ bytes t
  pub few : length {A = ℕ} (take here.shape.count (replicate 256 0)) ≡ here.shape.count

pub prepared : (t : Tag) → Shaped t → (n : Option Noted) (w : Work) (here : Noted) (image scratch : List ℕ) → (first (start_rows t n (rooms_of w)) ≡ None) × (here ≡ seen t)
    → image ≡ unless (first (start_rows t n (rooms_of w))) w.image (imaged t w.image) → scratch ≡ unless (first (start_rows t n (rooms_of w))) w.scratch (zeroed w.scratch) → Prepared t n w here image scratch
prepared t s n w here image scratch h a b =
    let o = first (start_rows t n (rooms_of w)) in
    let read-so : image ≡ imaged t w.image = a ∙ unless-none o w.image (imaged t w.image) h.0 in
    let all = ap (λ (v : Noted). v.shape.count * v.shape.size) h.1 in
    record {
      none = h.0;
      told = h.1;
      read = read-so;
      zeros = b ∙ unless-none o w.scratch (zeroed w.scratch) h.0;
      room = omega (arith, (started t n (rooms_of w) h.0).image);
      front = front-is t s w.image image (here.shape.count * here.shape.size) read-so (omega arith);
      few = length-take-le {A = ℕ} here.shape.count (replicate 256 0) (omega (arith, (limits-parts t.count t.size (started t n (rooms_of w) h.0).limits).3, ap (λ (v : Noted). v.shape.count) h.1));
    }

-- the lock bytes and the front of the image make the tag's memory
pub memory-is : (t : Tag) (n : Option Noted) (w : Work) (here : Noted) (image scratch : List ℕ) → Prepared t n w here image scratch → (locks : List ℕ) → map nonzero (take here.shape.count locks) ≡ t.locks
    → memory here.shape.size (take (here.shape.count) locks) (take (here.shape.count * here.shape.size) image) ≡ memory_of t
memory-is t n w here image scratch p locks flags =
    λ i. record { size = (p.told i).shape.size; locks = flags i; bytes = p.front i }

-- the first rows come first
pub begins_no_more : (t : Tag) (n : Option Noted) (w : Rooms) (f : Refusal) → first (start_rows t n w) ≡ Some f → first (begin_rows t n w) ≡ Some f
unfolding begin_rows
begins_no_more t n w f e = first_stays (start_rows t n w) (fault_of (reads (memory_of t)) ∷ []) f e

-- working memory, where the first rows decline and where they do not
pub untouched : (t : Tag) (n : Option Noted) (w : Work) (f : Refusal) → first (start_rows t n (rooms_of w)) ≡ Some f → w ≡ worked t n t w
unfolding worked
untouched t n w f e = sym (unless-some (first (start_rows t n (rooms_of w))) f w (renewed t w) e)

pub touched : (t : Tag) (n : Option Noted) (w v : Work) → first (start_rows t n (rooms_of w)) ≡ None → v.image ≡ imaged t w.image → v.table ≡ tabled t w.table → v.scratch ≡ zeroed w.scratch → v ≡ worked t n t w
unfolding worked
touched t n w v e a b c = (λ i. work (a i) (b i) (c i)) ∙ sym (unless-none (first (start_rows t n (rooms_of w))) w (renewed t w) e)
