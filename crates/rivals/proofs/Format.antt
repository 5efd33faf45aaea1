-- The laws of a format of sets that the theory of rivals rests on, and its tiles from an address on.
use Rattle.std.proofs.Common.{◌≡◌, ℕ, ◌+◌, ◌%◌, ◌<◌, ◌≤◌, Bool, true, cond, not, ◌&&◌, ltb, leb, ◌⊎◌, List, [], ◌∷◌, length, take, drop}
use Rattle.std.specs.Int.Digits.{AllBelowBase}
use Rattle.sets.specs.Sets.{Set, Tile, filler, holds}
use Rattle.sets.specs.Parsing.{Step, end, tile}
use Rattle.sets.specs.Scans.{Found}
use Rattle.sets.specs.Readings.{Memory, Entry, every, locked_at}
use Rattle.rivals.specs.Memories.{Shaped}
use Rattle.rivals.specs.Rooms.{least}

-- What the theory asks of a format: a tile depends on its own bytes only, and no set is below the smallest form of what it says.
-- `bytes` counts a set's bytes, pad included.
pub record Format : Type 0 where
  pub parse : List ℕ → Step
  pub bytes : Set → ℕ
  pub identifier : Set → List ℕ
  pub kind : Set → ℕ
  pub object : Set → List ℕ
  pub some : (l : List ℕ) (s : Set) → parse l ≡ tile (holds s) → 0 < bytes s
  pub within : (l : List ℕ) (s : Set) → parse l ≡ tile (holds s) → bytes s ≤ length l
  pub one : (l : List ℕ) → parse l ≡ tile filler → 0 < length l
  pub own : (l k : List ℕ) (s : Set) → parse l ≡ tile (holds s) → take (bytes s) l ≡ take (bytes s) k → parse k ≡ tile (holds s)
  pub own_filler : (l k : List ℕ) → parse l ≡ tile filler → take 1 l ≡ take 1 k → parse k ≡ tile filler
  pub floor : (l : List ℕ) (s : Set) (b : Bool) → AllBelowBase 256 l → parse l ≡ tile (holds s) → least (record { identifier = identifier s; kind = kind s; object = object s; sealed = b }) ≤ bytes s

abbrev pub shown : Format → Set → Bool → Entry
shown F s b = record { identifier = F.identifier s; kind = F.kind s; object = F.object s; sealed = b }

abbrev pub width : Format → Tile → ℕ
width F filler = 1
width F (holds s) = F.bytes s

-- the bytes from an address on scan as these tiles, and then the list ends
abbrev pub Along : Format → List ℕ → ℕ → List Tile → Type 0
Along F bs at [] = F.parse (drop at bs) ≡ end
Along F bs at (t ∷ ts) = (F.parse (drop at bs) ≡ tile t) × Along F bs (at + width F t) ts

-- an address where a tile begins or ends
abbrev pub Border : Format → ℕ → List Tile → ℕ → Type 0
Border F at [] b = at ≡ b
Border F at (t ∷ ts) b = (at ≡ b) ⊎ Border F (at + width F t) ts b

-- n bytes from an address on all lie in locked blocks
abbrev pub shut : (ℕ → Bool) → ℕ → ℕ → Bool
shut lock at n = every (λ i. lock (at + i)) n

-- the byte at i belongs to a sealed set, and so does every byte of a locked block from an address on
abbrev pub Covered : Format → (ℕ → Bool) → ℕ → List Tile → ℕ → Type 0
Covered F lock at [] i = ⊥
Covered F lock at (filler ∷ ts) i = Covered F lock (at + 1) ts i
Covered F lock at (holds s ∷ ts) i =
    ((at ≤ i) × (i < at + F.bytes s) × (shut lock at (F.bytes s) ≡ true)) ⊎ Covered F lock (at + F.bytes s) ts i

abbrev pub Clean : Format → (ℕ → Bool) → ℕ → List Tile → Type 0
Clean F lock at ts = (i : ℕ) → at ≤ i → lock i ≡ true → Covered F lock at ts i

-- what the sets say, the sealed sets, and the address after the last set (`used` where there is none)
abbrev pub listed : Format → (ℕ → Bool) → ℕ → List Tile → List Entry
listed F lock at [] = []
listed F lock at (filler ∷ ts) = listed F lock (at + 1) ts
listed F lock at (holds s ∷ ts) = shown F s (shut lock at (F.bytes s)) ∷ listed F lock (at + F.bytes s) ts

abbrev pub sealed_sets : Format → (ℕ → Bool) → ℕ → List Tile → List Found
sealed_sets F lock at [] = []
sealed_sets F lock at (filler ∷ ts) = sealed_sets F lock (at + 1) ts
sealed_sets F lock at (holds s ∷ ts) =
    let more = sealed_sets F lock (at + F.bytes s) ts in
    cond (shut lock at (F.bytes s)) (record { at = at; set = s } ∷ more) more

abbrev pub after_sets : Format → ℕ → ℕ → List Tile → ℕ
after_sets F used at [] = used
after_sets F used at (filler ∷ ts) = after_sets F used (at + 1) ts
after_sets F used at (holds s ∷ ts) = after_sets F (at + F.bytes s) (at + F.bytes s) ts

-- what the open sets say that begin at or after the address g and below h
abbrev pub opens : Format → (ℕ → Bool) → ℕ → ℕ → ℕ → List Tile → List Entry
opens F lock g h at [] = []
opens F lock g h at (filler ∷ ts) = opens F lock g h (at + 1) ts
opens F lock g h at (holds s ∷ ts) =
    let more = opens F lock g h (at + F.bytes s) ts in
    cond (leb g at && (ltb at h && not (shut lock at (F.bytes s)))) (shown F s (shut lock at (F.bytes s)) ∷ more) more

-- each set of an identifier stands on whole blocks
abbrev pub Whole : Format → ℕ → List ℕ → ℕ → List Tile → Type 0
Whole F size name at [] = Unit {0}
Whole F size name at (filler ∷ ts) = Whole F size name (at + 1) ts
Whole F size name at (holds s ∷ ts) =
    (F.identifier s ≡ name → (at % size ≡ 0) × (F.bytes s % size ≡ 0)) × Whole F size name (at + F.bytes s) ts

-- a memory reads as a list
pub record Laid (F : Format) (m : Memory) (l : List Entry) : Type 0 where
  pub shaped : Shaped m
  pub tiles : List Tile
  pub tiled : Along F m.bytes 0 tiles
  pub clean : Clean F (locked_at m) 0 tiles
  pub list : listed F (locked_at m) 0 tiles ≡ l
