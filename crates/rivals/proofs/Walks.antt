-- A walk over the tiles of a clean memory, tile by tile.
use Rattle.std.proofs.Common.{◌≡◌, ℕ, ◌+◌, ◌-◌, ◌<◌, ◌≤◌, Bool, true, false, List, [], ◌∷◌, length, drop, sym, refl, ap, ◌∙◌, ⊎_elim, arith, length-drop}
use Rattle.std.specs.Int.Digits.{AllBelowBase}
use Rattle.std.proofs.ByRecursion.{All-drop}
use Rattle.std.proofs.lemmas.Bool.{both_ways}
use Rattle.sets.specs.Sets.{Set, Tile, filler, holds}
use Rattle.sets.proofs.Searching.{every-at}
use Rattle.rivals.specs.Rooms.{least}
use Rattle.rivals.proofs.Format.{Format, shown, Along, shut, Covered, Clean}

-- each byte of a sealed stretch is in a locked block
pub sealed-each : (lock : ℕ → Bool) (at n : ℕ) → shut lock at n ≡ true → (i : ℕ) → at ≤ i → i < at + n → lock i ≡ true
sealed-each lock at n e i h k =
    let far : at + (i - at) ≡ i = omega arith in
    ap lock (sym far) ∙ every-at (λ j. lock (at + j)) n (i - at) e (omega arith)

-- what a tiling and a clean memory say from an address on
pub record Walk (F : Format) (lock : ℕ → Bool) (bs : List ℕ) (at : ℕ) (ts : List Tile) : Type 0 where
  pub tiled : Along F bs at ts
  pub clean : Clean F lock at ts
  -- past the end nothing is locked
  pub past : (i : ℕ) → length bs ≤ i → lock i ≡ false
  pub small : AllBelowBase 256 bs

pub covered_from : (F : Format) (lock : ℕ → Bool) (at : ℕ) (ts : List Tile) (i : ℕ) → Covered F lock at ts i → at ≤ i
covered_from F lock at [] i c = absurd c
covered_from F lock at (filler ∷ ts) i c = omega (arith, covered_from F lock (at + 1) ts i c)
covered_from F lock at (holds s ∷ ts) i c =
    ⊎_elim (λ (h : (at ≤ i) × (i < at + F.bytes s) × (shut lock at (F.bytes s) ≡ true)). h.0) (λ (h : Covered F lock (at + F.bytes s) ts i). omega (arith, covered_from F lock (at + F.bytes s) ts i h)) c

pub open_unless : (b : Bool) → (b ≡ true → ⊥) → b ≡ false
open_unless true h = absurd (h refl)
open_unless false h = refl

module _ (F : Format) (lock : ℕ → Bool) (bs : List ℕ) (at : ℕ) where
  -- behind the last tile all is open
  pub walk_end : Walk F lock bs at [] → (i : ℕ) → at ≤ i → lock i ≡ false
  walk_end w i h = open_unless (lock i) (λ e. w.clean i h e)

  pub filler_on : (ts : List Tile) → Walk F lock bs at (filler ∷ ts) → Walk F lock bs (at + 1) ts
  filler_on ts w = record { tiled = w.tiled.1; clean = λ i h e. w.clean i (omega arith) e; past = w.past; small = w.small }

  pub filler_open : (ts : List Tile) → Walk F lock bs at (filler ∷ ts) → (i : ℕ) → at ≤ i → i < at + 1 → lock i ≡ false
  filler_open ts w i h k = open_unless (lock i) (λ e. omega (arith, covered_from F lock (at + 1) ts i (w.clean i h e)))

  pub filler_in : (ts : List Tile) → Walk F lock bs at (filler ∷ ts) → at < length bs
  filler_in ts w = omega (arith, F.one (drop at bs) w.tiled.0, length-drop at bs)

  pub set_on : (s : Set) (ts : List Tile) → Walk F lock bs at (holds s ∷ ts) → Walk F lock bs (at + F.bytes s) ts
  set_on s ts w = record {
    tiled = w.tiled.1;
    clean = λ i h e. ⊎_elim (λ (c : (at ≤ i) × (i < at + F.bytes s) × (shut lock at (F.bytes s) ≡ true)). absurd (omega arith)) (λ (c : Covered F lock (at + F.bytes s) ts i). c) (w.clean i (omega arith) e);
    past = w.past;
    small = w.small;
  }

  pub set-some : (s : Set) (ts : List Tile) → Walk F lock bs at (holds s ∷ ts) → 0 < F.bytes s
  set-some s ts w = F.some (drop at bs) s w.tiled.0

  pub set_in : (s : Set) (ts : List Tile) → Walk F lock bs at (holds s ∷ ts) → at + F.bytes s ≤ length bs
  set_in s ts w = omega (arith, F.within (drop at bs) s w.tiled.0, F.some (drop at bs) s w.tiled.0, length-drop at bs)

  -- a set that is not sealed has no byte in a locked block
  pub set_open : (s : Set) (ts : List Tile) → Walk F lock bs at (holds s ∷ ts) → shut lock at (F.bytes s) ≡ false → (i : ℕ) → at ≤ i → i < at + F.bytes s → lock i ≡ false
  set_open s ts w f i h k =
      open_unless (lock i) (λ e. ⊎_elim (λ (c : (at ≤ i) × (i < at + F.bytes s) × (shut lock at (F.bytes s) ≡ true)). both_ways (shut lock at (F.bytes s)) f c.2) (λ (c : Covered F lock (at + F.bytes s) ts i). omega (arith, covered_from F lock (at + F.bytes s) ts i c)) (w.clean i h e))

  -- a set is no shorter than the smallest form of what it says
  pub set-floor : (s : Set) (ts : List Tile) (b : Bool) → Walk F lock bs at (holds s ∷ ts) → least (shown F s b) ≤ F.bytes s
  set-floor s ts b w = F.floor (drop at bs) s b (All-drop (λ d. d < 256) at bs w.small) w.tiled.0
