-- Sets by their records, and runs of locked blocks.
use Rattle.std.proofs.Common.{◌≡◌, ℕ, zero, suc, ◌+◌, ◌/◌, ◌<◌, ◌≤◌, Bool, true, false, ◌&&◌, List, [], length, get_or, Some, None, Option, sym, refl, ap, ◌∙◌, subst, arith}
use lib.ListN.{length-map}
use Rattle.std.specs.List.{list_all, range_with_len}
use Rattle.std.specs.Option.{MatchOption, IsSomeAnd, option_map}
use Rattle.std.proofs.Math.Bool.{and_assoc}
use Rattle.std.proofs.lemmas.List.{get_or-map, get_or_default}
use Rattle.std.proofs.ByRecursion.{All-get_or}
use Rattle.sets.specs.Sets.{bare, size}
use Rattle.sets.specs.Scans.{Found, behind}
use Rattle.sets.specs.Readings.{Memory, every, found, sealed, stray_block}
use Rattle.sets.proofs.Sweeping.{found_inside, found_ascending, Swept, swept_none, met, cleared, set-ahead, passed, went, all-ahead}
use Rattle.scan.specs.declared.views.SetRecord.{SetRecord}
use Rattle.scan.specs.Views.{recorded}
use Rattle.scan.specs.Tables.{records}
use Rattle.reading.specs.Inner.{locked_run, FirstLocked}

-- a test of each number of a run
every-first : (p : ℕ → Bool) (n : ℕ) → every p (suc n) ≡ (p 0 && every (λ i. p (suc i)) n)
every-first p zero = and_true (p 0)
  where
    and_true : (b : Bool) → (true && b) ≡ (b && true)
    and_true true = refl
    and_true false = refl
every-first p (suc n) = ap (λ b. b && p (suc n)) (every-first p n) ∙ and_assoc (p 0) (every (λ i. p (suc i)) n) (p (suc n))

pub all-every : (p : ℕ → Bool) (a n : ℕ) → list_all p (range_with_len a n) ≡ every (λ i. p (a + i)) n
all-every p a zero = refl
all-every p a (suc n) =
    let here : p a ≡ p (a + 0) = ap p (omega arith) in
    let on : list_all p (range_with_len (a + 1) n) ≡ every (λ i. p (a + suc i)) n =
    all-every p (a + 1) n ∙ ap (λ (q : ℕ → Bool). every q n) (λ k i. p (shift i k)) in
    (λ i. here i && on i) ∙ sym (every-first (λ i. p (a + i)) n)
  where
    shift : (i : ℕ) → a + 1 + i ≡ a + suc i
    shift i = omega arith

-- what an option was mapped to
pub mapped : {A B : Type 0} (o : Option A) (r : Option B) (P : A → B → Type 0) (f : A → B) → ((a : A) (b : B) → P a b → b ≡ f a) → MatchOption o (r ≡ None) (λ a. IsSomeAnd r (P a)) → r ≡ option_map f o
mapped None r P f by e = e
mapped (Some a) None P f by e = absurd e
mapped (Some a) (Some b) P f by e = ap Some (by a b e)

pub map_again : {A B C : Type 0} (g : B → C) (f : A → B) (o : Option A) → option_map (λ a. g (f a)) o ≡ option_map g (option_map f o)
map_again g f None = refl
map_again g f (Some a) = refl

-- the set of a record
abbrev no_set : Found
no_set = record { at = 0; set = record { extra = 0; name = bare 0; code = 0; object = [] } }

abbrev pub set_at : List Found → ℕ → Found
set_at fs j = get_or fs j no_set

pub is_at : (fs : List Found) (j : ℕ) → j < length fs → set_at fs j ≡ get_or fs j (set_at fs j)
is_at fs j h = get_or_default fs j no_set (set_at fs j) h

pub count-is : (fs : List Found) (rs : List SetRecord) → rs ≡ records fs → length rs ≡ length fs
count-is fs rs e = ap length e ∙ length-map fs (λ (f : Found). recorded f.at f.set)

pub record_at : (fs : List Found) (rs : List SetRecord) (j : ℕ) (d : SetRecord) → rs ≡ records fs → j < length rs → get_or rs j d ≡ recorded (set_at fs j).at (set_at fs j).set
record_at fs rs j d e h =
    ap (λ l. get_or l j d) e ∙ get_or-map (λ (f : Found). recorded f.at f.set) fs j no_set d (omega (arith, count-is fs rs e))

pub ends-inside : (xs : List ℕ) (j : ℕ) → j < length (found xs) → behind (set_at (found xs) j) ≤ length xs
ends-inside xs j h = All-get_or (λ f. behind f ≤ length xs) (found xs) j no_set h (found_inside xs)

abbrev pub no_record : SetRecord
no_record = record { number = 0; id_at = 0; id_len = 0; object_at = 0; object_len = 0; at = 0; size = 0; code = 0 }

-- one turn of the sweep
module _ (m : Memory) (rs : List SetRecord) (all : rs ≡ records (found m.bytes)) where
  abbrev fs : List Found
  fs = found m.bytes

  pub starts : Swept m fs 0 0
  starts = swept_none m fs (found_ascending m.bytes)

  module _ (j from : ℕ) (h : Swept m fs j from) where
    module _ (in' : j < length rs) where
      abbrev f : Found
      f = set_at fs j

      abbrev r : SetRecord
      r = get_or rs j no_record

      inside : j < length fs
      inside = omega (arith, count-is fs rs all)

      at-is : r.at ≡ f.at
      at-is = ap (λ (q : SetRecord). q.at) (record_at fs rs j no_record all in')

      size_is : r.size ≡ size f.set
      size_is = ap (λ (q : SetRecord). q.size) (record_at fs rs j no_record all in')

      pub turn-fits : r.at + r.size ≤ length m.bytes
      turn-fits = omega (arith, at-is, size_is, ends-inside m.bytes j inside)

      same-run : locked_run m r.at r.size ≡ sealed m f
      same-run = λ i. locked_run m (at-is i) (size_is i)

      pub turn-met : (a : ℕ) → FirstLocked m from r.at (Some a) → Some (a / m.size) ≡ stray_block m fs
      turn-met a w = met h f.at a (set-ahead h f inside (is_at fs j inside)) w.0 (omega (arith, at-is, w.1)) (omega (arith, ends-inside m.bytes j inside)) w.2 w.3

      pub turn-passed : locked_run m r.at r.size ≡ false → Swept m fs (j + 1) from
      turn-passed e = passed h f inside (is_at fs j inside) (sym same-run ∙ e)

      pub turn-went : locked_run m r.at r.size ≡ true → FirstLocked m from r.at None → Swept m fs (j + 1) (r.at + r.size)
      turn-went e none =
          subst (Swept m fs (j + 1)) (λ i. sym at-is i + sym size_is i) (went h f inside (is_at fs j inside) (sym same-run ∙ e) (λ a low high. none a low (omega (arith, at-is))))

    -- behind the last set
    pub end-met : (a : ℕ) → length rs ≤ j → FirstLocked m from (length m.bytes) (Some a) → Some (a / m.size) ≡ stray_block m fs
    end-met a done w = met h (length m.bytes) a (all-ahead h (length m.bytes) (omega (arith, count-is fs rs all))) w.0 w.1 (omega arith) w.2 w.3

    pub end-clear : length rs ≤ j → FirstLocked m from (length m.bytes) None → None ≡ stray_block m fs
    end-clear done none = cleared h none (omega (arith, count-is fs rs all))

    pub end-is : length rs ≤ j → (o : Option ℕ) → FirstLocked m from (length m.bytes) o → option_map (λ a. a / m.size) o ≡ stray_block m fs
    end-is done None w = end-clear done w
    end-is done (Some a) w = end-met a done w
