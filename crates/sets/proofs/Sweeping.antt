-- Stray bytes are found in one sweep over the sets, upwards.
use Rattle.std.proofs.Common.{◌≡◌, ℕ, ◌+◌, ◌/◌, ◌<◌, ◌≤◌, Bool, true, false, not, ◌&&◌, ltb, leb, List, [], ◌∷◌, length, get_or, take, drop, Some, None, sym, refl, ap, ◌∙◌, subst, ⊎_elim, arith, length-append}
use Rattle.std.specs.Option.{option_map}
use Rattle.std.specs.List.{ContainsAt as Has, AllByRecursion}
use Rattle.std.proofs.lemmas.List.{take-append-drop, drop_more, drop_all}
use Rattle.std.proofs.ByRecursion.{All-weaker, All-more, has_get_or}
use Rattle.std.proofs.lemmas.Bool.{le-leb, lt-leb, lt-ltb, le-ltb, and_from, and_left, and_right, cases_lt, cases_Bool}
use Rattle.sets.specs.Sets.{Tile, filler, holds, size}
use Rattle.sets.specs.Scans.{scan, Found, placed, behind}
use Rattle.sets.specs.Tilings.{span}
use Rattle.sets.specs.Objects.{unpacked}
use Rattle.sets.specs.Readings.{Memory, any, found, locked_at, sealed, byte_of, stray, stray_block}
use Rattle.sets.proofs.Tilings.{scan-tiles, tiled-span}
use Rattle.sets.proofs.Searching.{lowest-none, lowest-some, any_none, any-has, any_append, true-false}

-- sets stand upwards from an address, none over another
abbrev pub Ascending : ℕ → List Found → Type 0
Ascending a [] = Unit {0}
Ascending a (f ∷ fs) = (a ≤ f.at) × Ascending (behind f) fs

pub ascending_from : (a b : ℕ) (fs : List Found) → a ≤ b → Ascending b fs → Ascending a fs
ascending_from a b [] h g = tt
ascending_from a b (f ∷ fs) h g = (omega (arith, g.0), g.1)

all_from : (a : ℕ) (fs : List Found) → Ascending a fs → AllByRecursion (λ f. a ≤ f.at) fs
all_from a [] h = tt
all_from a (f ∷ fs) h = (h.0, all_from a fs (ascending_from a (behind f) fs (omega (arith, h.0)) h.1))

pub placed_ascending : (at : ℕ) (ts : List Tile) → Ascending at (placed at ts)
unfolding placed
placed_ascending at [] = tt
placed_ascending at (filler ∷ ts) = ascending_from at (at + 1) (placed (at + 1) ts) (omega arith) (placed_ascending (at + 1) ts)
placed_ascending at (holds s ∷ ts) = (omega arith, placed_ascending (at + size s) ts)

-- and end inside
pub placed-inside : (at : ℕ) (ts : List Tile) (n : ℕ) → at + span ts ≤ n → AllByRecursion (λ f. behind f ≤ n) (placed at ts)
unfolding placed span
placed-inside at [] n h = tt
placed-inside at (filler ∷ ts) n h = placed-inside (at + 1) ts n (omega arith)
placed-inside at (holds s ∷ ts) n h = (omega arith, placed-inside (at + size s) ts n (omega arith))

pub found_ascending : (xs : List ℕ) → Ascending 0 (found xs)
found_ascending xs = placed_ascending 0 (scan unpacked xs).tiles

pub found_inside : (xs : List ℕ) → AllByRecursion (λ f. behind f ≤ length xs) (found xs)
found_inside xs =
    let t = scan-tiles unpacked xs in
    placed-inside 0 (scan unpacked xs).tiles (length xs) (omega (arith, ap length t.2, length-append t.0 t.1, tiled-span unpacked (scan unpacked xs).tiles t.0 t.3))

-- an address below a set, or behind it, is no byte of it
below : (f : Found) (a : ℕ) → a < f.at → byte_of f a ≡ false
below f a h = and_left (leb f.at a) (ltb a (behind f)) (lt-leb f.at a h)

above : (f : Found) (a : ℕ) → behind f ≤ a → byte_of f a ≡ false
above f a h = and_right (leb f.at a) (ltb a (behind f)) (le-ltb a (behind f) h)

not-shut : (m : Memory) (f : Found) (a from : ℕ) → from ≤ a → (sealed m f ≡ true → behind f ≤ from) → (byte_of f a && sealed m f) ≡ false
not-shut m f a from low g =
    ⊎_elim (λ t. and_left (byte_of f a) (sealed m f) (above f a (omega (arith, g t)))) (λ t. and_right (byte_of f a) (sealed m f) t) (cases_Bool (sealed m f))

and-true : (b : Bool) → (b && not false) ≡ b
and-true true = refl
and-true false = refl

-- The sets before j were swept: those that are sealed end by `from`, the others stand from there on, and no byte below it is stray.
pub record Swept (m : Memory) (fs : List Found) (j from : ℕ) : Type 0 where
  pub ahead : Ascending from (drop j fs)
  pub shut : AllByRecursion (λ f. sealed m f ≡ true → behind f ≤ from) (take j fs)
  pub clear : (a : ℕ) → a < from → stray m fs a ≡ false

pub swept_none : (m : Memory) (fs : List Found) → Ascending 0 fs → Swept m fs 0 0
swept_none m fs h = record { ahead = h; shut = tt; clear = λ a g. absurd (omega arith) }

module _ {m : Memory} {fs : List Found} {j from : ℕ} (h : Swept m fs j from) where
  -- in a run before the sets to come a byte is stray where it lies in a locked block
  in_run : (a to : ℕ) → from ≤ a → a < to → Ascending to (drop j fs) → stray m fs a ≡ locked_at m a
  in_run a to low high later =
      let p : Found → Bool = λ f. byte_of f a && sealed m f in
      let swept : any p (take j fs) ≡ false =
      any_none p (take j fs) (All-weaker (λ f. sealed m f ≡ true → behind f ≤ from) (λ f. p f ≡ false) (λ f g. not-shut m f a from low g) (take j fs) h.shut) in
      let ahead : any p (drop j fs) ≡ false =
      any_none p (drop j fs) (All-weaker (λ f. to ≤ f.at) (λ f. p f ≡ false) (λ f g. and_left (byte_of f a) (sealed m f) (below f a (omega arith))) (drop j fs) (all_from to (drop j fs) later)) in
      let none : any p fs ≡ false = ap (any p) (sym (take-append-drop j fs)) ∙ any_append p (take j fs) (drop j fs) swept ahead in
      ap (λ t. locked_at m a && not t) none ∙ and-true (locked_at m a)

  -- no locked block in the run up to `to`
  extended : (to : ℕ) → Ascending to (drop j fs) → ((a : ℕ) → from ≤ a → a < to → locked_at m a ≡ false) → (a : ℕ) → a < to → stray m fs a ≡ false
  extended to later none a high = ⊎_elim (λ l. h.clear a l) (λ g. in_run a to g high later ∙ none a g high) (cases_lt a from)

  -- the lowest address of a locked block in the run
  pub met : (to a : ℕ) → Ascending to (drop j fs) → from ≤ a → a < to → to ≤ length m.bytes → locked_at m a ≡ true → ((b : ℕ) → from ≤ b → b < a → locked_at m b ≡ false) → Some (a / m.size) ≡ stray_block m fs
  met to a later low high in' is none =
      sym (ap (option_map (λ b. b / m.size)) (lowest-some (stray m fs) (length m.bytes) a (omega arith) (in_run a to low high later ∙ is)
      (λ b g. ⊎_elim (λ l. h.clear b l) (λ k. in_run b to k (omega arith) later ∙ none b k g) (cases_lt b from))))

  pub all-ahead : (to : ℕ) → length fs ≤ j → Ascending to (drop j fs)
  all-ahead to all = subst (Ascending to) (sym (drop_all j fs all)) tt

  pub cleared : ((a : ℕ) → from ≤ a → a < length m.bytes → locked_at m a ≡ false) → length fs ≤ j → None ≡ stray_block m fs
  cleared none all =
      sym (ap (option_map (λ b. b / m.size)) (lowest-none (stray m fs) (length m.bytes) (extended (length m.bytes) (all-ahead (length m.bytes) all) none)))

  module _ (f : Found) (in' : j < length fs) (is : f ≡ get_or fs j f) where
    next-ahead : Ascending from (f ∷ drop (j + 1) fs)
    next-ahead = subst (Ascending from) (drop_more fs j f in' ∙ ap (λ g. g ∷ drop (j + 1) fs) (sym is)) h.ahead

    pub set-ahead : Ascending f.at (drop j fs)
    set-ahead = subst (Ascending f.at) (sym (drop_more fs j f in' ∙ ap (λ g. g ∷ drop (j + 1) fs) (sym is))) (omega arith, next-ahead.1)

    pub set-low : from ≤ f.at
    set-low = next-ahead.0

    -- a set that is not sealed is left where it is
    pub passed : sealed m f ≡ false → Swept m fs (j + 1) from
    passed e = record {
      ahead = ascending_from from (behind f) (drop (j + 1) fs) (omega (arith, next-ahead.0)) next-ahead.1;
      shut = All-more (λ g. sealed m g ≡ true → behind g ≤ from) fs j f in' h.shut (subst (λ g. sealed m g ≡ true → behind g ≤ from) is (λ t. absurd (true-false (sym t ∙ e))));
      clear = h.clear;
    }

    of-set : (a : ℕ) → f.at ≤ a → a < behind f → sealed m f ≡ true → stray m fs a ≡ false
    of-set a low high e =
        let p : Found → Bool = λ g. byte_of g a && sealed m g in
        let here : byte_of f a ≡ true = and_from (leb f.at a) (ltb a (behind f)) (le-leb f.at a low) (lt-ltb a (behind f) high) in
        let some : any p fs ≡ true = any-has p fs f (subst (Has fs) (sym is) (has_get_or fs j f in')) (and_from (byte_of f a) (sealed m f) here e) in
        ap (λ t. locked_at m a && not t) some ∙ and_right (locked_at m a) false refl

    -- a sealed set behind a run with no locked block
    pub went : sealed m f ≡ true → ((a : ℕ) → from ≤ a → a < f.at → locked_at m a ≡ false) → Swept m fs (j + 1) (behind f)
    went e none = record {
      ahead = next-ahead.1;
      shut = All-more (λ g. sealed m g ≡ true → behind g ≤ behind f) fs j f in' (All-weaker (λ g. sealed m g ≡ true → behind g ≤ from) (λ g. sealed m g ≡ true → behind g ≤ behind f) (λ g k t. omega (arith, k t, next-ahead.0)) (take j fs) h.shut) (subst (λ g. sealed m g ≡ true → behind g ≤ behind f) is (λ t. omega arith));
      clear = λ a high. ⊎_elim (λ l. extended f.at set-ahead none a l) (λ g. of-set a g high e) (cases_lt a f.at);
    }
