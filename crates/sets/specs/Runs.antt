-- Bytes that two memories share, and bytes that are bytes.
use Rattle.std.specs.Prelude.{◌≡◌, ℕ, ◌+◌, ◌≤◌, List, ◌++◌, take, drop}
use Rattle.std.specs.List.{AllByRecursion}
use Rattle.std.specs.Int.Digits.{AllBelowBase}
use Rattle.sets.specs.Sets.{content, Set, Tile}
use Rattle.sets.specs.Writing.{encode}
use Rattle.sets.specs.Scans.{Unpack, clean, scan, placed}
use Rattle.sets.specs.Tilings.{span}
use Rattle.sets.specs.Laws.{Writable}
use Rattle.sets.specs.Layouts.{Apart}

-- tiles of a run of n bytes from a on, between others
pub record Between (ts : List Tile) (a n : ℕ) (run : List Tile) : Type 0 where
  pub before : List Tile
  pub after : List Tile
  pub is : ts ≡ before ++ (run ++ after)
  pub start : span before ≡ a
  pub long : span run ≡ n

-- a run that no set lies across reads alike in every memory that has its bytes
abbrev pub RunAlike : Type 0
RunAlike =
    (u : Unpack) (xs ys : List ℕ) (ts rs : List Tile) (a n : ℕ)
    → scan u xs ≡ clean ts → scan u ys ≡ clean rs → a + n ≤ span ts → a + n ≤ span rs
    → AllByRecursion (Apart a) (placed 0 ts) → AllByRecursion (Apart (a + n)) (placed 0 ts) → AllByRecursion (Apart a) (placed 0 rs) → AllByRecursion (Apart (a + n)) (placed 0 rs)
    → take n (drop a xs) ≡ take n (drop a ys)
    → (run : List Tile) × Between ts a n run × Between rs a n run

-- a set of bytes is written in bytes
abbrev pub WrittenBytes : Type 0
WrittenBytes = (s : Set) → Writable s → AllBelowBase 256 (content s.name) → AllBelowBase 256 s.object → AllBelowBase 256 (encode s)
