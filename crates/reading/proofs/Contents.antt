-- Identifiers by the records of their sets.
use Rattle.std.proofs.Common.{◌≡◌, ℕ, zero, suc, ◌+◌, ◌<◌, ◌≤◌, Bool, true, false, cond, ◌||◌, eqb, List, [], ◌∷◌, length, get_or, take, drop, Some, None, Option, sym, refl, ap, ◌∙◌, ⊎_elim, arith}
use Rattle.std.specs.List.{AllByRecursion, list_any, find, enumerate_from}
use Rattle.std.specs.Option.{option_map}
use Rattle.std.specs.Str.{bytes_eq}
use Rattle.std.proofs.ByRecursion.{All-get_or, All-take, All-weaker}
use Rattle.std.proofs.lemmas.List.{take-map, drop_more, drop_all}
use Rattle.std.proofs.lemmas.Bool.{ne_eqb, cond-true, cond-false, cases_Bool}
use Rattle.sets.specs.Sets.{Name, bare, byte, led, content, number, part, name_at, holds}
use Rattle.sets.specs.Parsing.{tile, parse}
use Rattle.sets.specs.Scans.{next, Found}
use Rattle.sets.specs.Objects.{unpacked}
use Rattle.sets.specs.Readings.{any, found, identified, stood, repeat_from, repeat}
use Rattle.sets.specs.Laws.{Fitting}
use Rattle.sets.proofs.Fronts.{front}
use Rattle.sets.proofs.Spelled.{parts_stand}
use Rattle.sets.proofs.Repeats.{found-next, next-parse, repeat_here, repeat_on, repeat-end}
use Rattle.scan.specs.declared.views.SetRecord.{SetRecord}
use Rattle.scan.specs.Views.{recorded, content_in}
use Rattle.scan.specs.Tables.{records}
use Rattle.reading.specs.Inner.{same_content, stood_at, first_again}
use Rattle.reading.proofs.Sweeps.{no_record, set_at, is_at, count-is, record_at}

-- the record of a set says its identifier
name-is : (xs : List ℕ) (at e : ℕ) (n : Name) → Fitting n → part n ≡ take (length (part n)) (drop (name_at at e n) xs) → cond (eqb (number n) 0) (take (length (part n)) (drop (name_at at e n) xs)) (number n ∷ []) ≡ content n
name-is xs at e (bare n) fit h = cond-false (eqb n 0) [] (n ∷ []) (ne_eqb n 0 (λ z. omega (arith, fit.0)))
name-is xs at e (byte n) fit h = cond-false (eqb n 0) [] (n ∷ []) (ne_eqb n 0 (λ z. omega (arith, fit.0)))
name-is xs at e (led c) fit h = sym h

pub set_says : (xs : List ℕ) (f : Found) → next unpacked (drop f.at xs) ≡ tile (holds f.set) → content_in xs (recorded f.at f.set) ≡ identified f
set_says xs f e =
    let p : parse (drop f.at xs) ≡ tile (holds f.set) = next-parse unpacked (drop f.at xs) (holds f.set) e in
    name-is xs f.at f.set.extra f.set.name (front (drop f.at xs) (holds f.set) p).1.0 (parts_stand xs f.at f.set p).name

says : (xs : List ℕ) → AllByRecursion (λ f. content_in xs (recorded f.at f.set) ≡ identified f) (found xs)
says xs = All-weaker (λ f. next unpacked (drop f.at xs) ≡ tile (holds f.set)) (λ f. content_in xs (recorded f.at f.set) ≡ identified f) (set_says xs) (found xs) (found-next xs)

-- what stood before a set, by records and by sets
any-records : (xs c : List ℕ) (fs : List Found) → AllByRecursion (λ f. content_in xs (recorded f.at f.set) ≡ identified f) fs → list_any (λ g. bytes_eq (content_in xs g) c) (records fs) ≡ any (λ f. bytes_eq (identified f) c) fs
any-records xs c [] h = refl
any-records xs c (f ∷ fs) h = λ i. bytes_eq (h.0 i) c || any-records xs c fs h.1 i

module _ (xs : List ℕ) (rs : List SetRecord) (all : rs ≡ records (found xs)) (i : ℕ) (in' : i < length rs) where
  abbrev fs : List Found
  fs = found xs

  abbrev f : Found
  f = set_at (found xs) i

  abbrev r : SetRecord
  r = get_or rs i no_record

  inside : i < length fs
  inside = omega (arith, count-is fs rs all)

  record_is : r ≡ recorded f.at f.set
  record_is = record_at fs rs i no_record all in'

  says_i : content_in xs r ≡ identified f
  says_i = ap (content_in xs) record_is ∙ All-get_or (λ g. content_in xs (recorded g.at g.set) ≡ identified g) fs i _ inside (says xs)

  stood-is : list_any (λ g. same_content xs g r) (take i rs) ≡ stood (take i fs) f
  stood-is =
      (λ k. list_any (λ g. bytes_eq (content_in xs g) (says_i k)) (take i (all k)))
      ∙ ap (list_any (λ g. bytes_eq (content_in xs g) (identified f))) (take-map (λ (g : Found). recorded g.at g.set) i fs)
      ∙ any-records xs (identified f) (take i fs) (All-take (λ g. content_in xs (recorded g.at g.set) ≡ identified g) i fs (says xs))

  again : list_any (λ g. same_content xs g r) (take i rs) ≡ true → Some r.at ≡ repeat_from (take i fs) (drop i fs)
  again e = ap (λ (q : SetRecord). Some q.at) record_is ∙ repeat_here fs i f inside (is_at fs i inside) (sym stood-is ∙ e)

  onward : list_any (λ g. same_content xs g r) (take i rs) ≡ false → repeat_from (take i fs) (drop i fs) ≡ repeat_from (take (i + 1) fs) (drop (i + 1) fs)
  onward e = repeat_on fs i f inside (is_at fs i inside) (sym stood-is ∙ e)

over : (xs : List ℕ) (rs : List SetRecord) → rs ≡ records (found xs) → (i : ℕ) → length rs ≤ i → None ≡ repeat_from (take i (found xs)) (drop i (found xs))
over xs rs all i h = repeat-end (found xs) i (omega (arith, count-is (found xs) rs all))

-- the first of the sets from i on that stood
first_from : (xs : List ℕ) (rs : List SetRecord) → rs ≡ records (found xs) → (n i : ℕ) → i + n ≡ length rs
    → option_map (λ (p : ℕ × SetRecord). p.1.at) (find (stood_at xs rs) (enumerate_from i (drop i rs))) ≡ repeat_from (take i (found xs)) (drop i (found xs))
first_from xs rs all zero i e = ap (λ l. option_map (λ (p : ℕ × SetRecord). p.1.at) (find (stood_at xs rs) (enumerate_from i l))) (drop_all i rs (omega arith)) ∙ over xs rs all i (omega arith)
first_from xs rs all (suc n) i e =
    let in' : i < length rs = omega arith in
    let r : SetRecord = get_or rs i no_record in
    let here : drop i rs ≡ r ∷ drop (i + 1) rs = drop_more rs i no_record in' in
    let at_of : Option (ℕ × SetRecord) → Option ℕ = option_map (λ (p : ℕ × SetRecord). p.1.at) in
    let rest : Option (ℕ × SetRecord) = find (stood_at xs rs) (enumerate_from (i + 1) (drop (i + 1) rs)) in
    let t : Bool = stood_at xs rs (i, r) in
    ap (λ l. at_of (find (stood_at xs rs) (enumerate_from i l))) here
    ∙ ⊎_elim
    (λ y. ap at_of (cond-true t (Some (i, r)) rest y) ∙ again xs rs all i in' y)
    (λ z. ap at_of (cond-false t (Some (i, r)) rest z) ∙ first_from xs rs all n (i + 1) (omega arith) ∙ sym (onward xs rs all i in' z))
    (cases_Bool t)

pub first_again-is : (xs : List ℕ) (rs : List SetRecord) → rs ≡ records (found xs) → first_again xs rs ≡ repeat (found xs)
first_again-is xs rs all = first_from xs rs all (length rs) 0 (omega arith)
