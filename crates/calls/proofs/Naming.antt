-- Identifiers by the records of their sets.
use Rattle.std.proofs.Common.{◌≡◌, ℕ, zero, suc, ◌+◌, ◌<◌, Bool, cond, ltb, List, [], ◌∷◌, length, drop, is_some, Some, None, sym, refl, ap, ◌∙◌, ⊎_elim, arith}
use Rattle.std.specs.List.{AllByRecursion, position, position_or_len}
use Rattle.std.specs.Str.{bytes_eq}
use Rattle.std.proofs.ByRecursion.{All-get_or, All-weaker}
use Rattle.std.proofs.lemmas.List.{drop-map}
use Rattle.std.proofs.lemmas.Bool.{lt-ltb, le-ltb, cond-true, cond-false, cases_lt}
use Rattle.std.proofs.lemmas.List.Sums.{passes_at_first, fails_before_first}
use Rattle.sets.proofs.Searching.{lowest-none, lowest-some}
use Rattle.sets.specs.Sets.{holds}
use Rattle.sets.specs.Parsing.{tile}
use Rattle.sets.specs.Scans.{next, Found}
use Rattle.sets.specs.Objects.{unpacked}
use Rattle.sets.specs.Readings.{either, lowest, found, identified}
use Rattle.sets.proofs.Repeats.{found-next}
use Rattle.scan.specs.declared.views.SetRecord.{SetRecord}
use Rattle.scan.specs.Views.{recorded, content_in}
use Rattle.scan.specs.Tables.{records}
use Rattle.reading.proofs.Contents.{set_says}
use Rattle.reading.proofs.Sweeps.{count-is, record_at}
use Rattle.calls.specs.Finds.{set_in, record_in, place_in, place_among, hit, hit_in, hit_among}

abbrev pub Says : List ℕ → Found → Type 0
Says xs f = content_in xs (recorded f.at f.set) ≡ identified f

pub all_say : (xs : List ℕ) → AllByRecursion (Says xs) (found xs)
all_say xs = All-weaker (λ f. next unpacked (drop f.at xs) ≡ tile (holds f.set)) (Says xs) (set_says xs) (found xs) (found-next xs)

-- so the place of an identifier is the same among records and among sets
lowest-same : (p q : ℕ → Bool) (n : ℕ) → ((i : ℕ) → i < n → p i ≡ q i) → lowest p n ≡ lowest q n
lowest-same p q zero h = refl
lowest-same p q (suc n) h = λ j. either (lowest-same p q n (λ i l. h i (omega arith)) j) (cond (h n (omega arith) j) (Some n) None)

pub place_same : (xs c : List ℕ) (fs : List Found) (rs : List SetRecord) → AllByRecursion (Says xs) fs → rs ≡ records fs → place_among xs c rs ≡ place_in c fs
place_same xs c fs rs all e =
    lowest-same (λ i. bytes_eq (content_in xs (record_in rs i)) c) (λ i. bytes_eq (identified (set_in fs i)) c) (length rs)
    (λ i h. ap (λ d. bytes_eq d c) (ap (content_in xs) (record_at fs rs i _ e h) ∙ All-get_or (Says xs) fs i _ (omega (arith, count-is fs rs e)) all))
    ∙ ap (lowest (λ i. bytes_eq (identified (set_in fs i)) c)) (count-is fs rs e)

all_drop : (P : Found → Type 0) (n : ℕ) (fs : List Found) → AllByRecursion P fs → AllByRecursion P (drop n fs)
all_drop P zero fs all = all
all_drop P (suc n) [] all = all
all_drop P (suc n) (f ∷ fs) all = all_drop P n fs all.1

pub hit_same : (xs c : List ℕ) (rs : List SetRecord) → rs ≡ records (found xs) → hit_among xs c rs ≡ hit_in c (found xs)
hit_same xs c rs e =
    let fs = found xs in
    λ j. hit (place_same xs c fs rs (all_say xs) e j) (λ i. is_some (place_same xs c (drop (i + 1) fs) (drop (i + 1) rs) (all_drop (Says xs) (i + 1) fs (all_say xs)) (ap (drop (i + 1)) e ∙ drop-map (λ (f : Found). recorded f.at f.set) (i + 1) fs) j))

-- the first record that passes is the lowest
pub place-is : (xs c : List ℕ) (rs : List SetRecord) → position (λ r. bytes_eq (content_in xs r) c) rs ≡ place_among xs c rs
place-is xs c rs =
    let p : SetRecord → Bool = λ r. bytes_eq (content_in xs r) c in
    let n = position_or_len p rs in
    ⊎_elim
    (λ l. cond-true (ltb n (length rs)) (Some n) None (lt-ltb n (length rs) l) ∙ sym (lowest-some (λ i. p (record_in rs i)) (length rs) n l (passes_at_first p rs _ l) (λ k h. fails_before_first p rs k _ h)))
    (λ g. cond-false (ltb n (length rs)) (Some n) None (le-ltb n (length rs) g) ∙ sym (lowest-none (λ i. p (record_in rs i)) (length rs) (λ k h. fails_before_first p rs k _ (omega arith))))
    (cases_lt n (length rs))

-- what is found, by where the first stands
module _ (xs c : List ℕ) (rs : List SetRecord) where
  pub hit-none : None ≡ place_among xs c rs → None ≡ hit_among xs c rs
  hit-none e = ap (λ o. hit o (λ i. is_some (place_among xs c (drop (i + 1) rs)))) e

  pub hit-some : (i : ℕ) (b : Bool) → Some i ≡ place_among xs c rs → b ≡ is_some (place_among xs c (drop (i + 1) rs)) → Some (record { index = i; again = b }) ≡ hit_among xs c rs
  hit-some i b e g = ap (λ q. Some (record { index = i; again = q })) g ∙ ap (λ o. hit o (λ k. is_some (place_among xs c (drop (k + 1) rs)))) e
