-- What a step of the scan shows.
use Rattle.std.specs.Prelude.{◌≡◌, ℕ, ◌+◌, ◌≤◌, cond, List, [], ◌∷◌, ◌++◌, length, take, drop, Ok, Err, Result, ◌==◌, slice_index_or}
use Rattle.codes.specs.declared.kind.Compaction.{Compaction}
use Rattle.codes.specs.declared.kind.Compaction.TheVariants.{ApplicationDefined, Integer, Numeric, FiveBit, SixBit, SevenBit, OctetString, Utf8String}
use Rattle.codes.specs.Table.{code}
use Rattle.sets.specs.Sets.{Name, bare, byte, led, content, number, part, name_at, object_at, size, filler, holds}
use Rattle.sets.specs.Sets as sets
use Rattle.sets.specs.Parsing.{Step, end, tile, wrong}
use Rattle.sets.specs.Scans.{next}
use Rattle.sets.specs.Objects.{unpacked, smallest_of}
use Rattle.scan.specs.declared.faults.ScanFault.{ScanFault}
use Rattle.scan.specs.declared.views.Identifier.{Identifier}
use Rattle.scan.specs.declared.views.Identifier.TheVariants.{Bare, Byte, Led}
use Rattle.scan.specs.declared.views.SetRecord.{SetRecord}
use Rattle.scan.specs.declared.views.SetView.{SetView}
use Rattle.scan.specs.declared.views.Scanned.{Scanned}
use Rattle.scan.specs.declared.views.Scanned.TheVariants.{End, Filler, Set}
use Rattle.scan.specs.Faults.{scan_flaw, scan_place}

abbrev pub name_of : Identifier → Name
name_of (Bare n) = bare n
name_of (Byte n) = byte n
name_of (Led c) = led c.now

abbrev pub set_of : SetView → sets.Set
set_of v = record { extra = v.extra; name = name_of v.identifier; code = v.place.code; object = v.object.now }

-- the code of a number below 8
unfoldable pub code_of : ℕ → Compaction
code_of n =
    slice_index_or (ApplicationDefined ∷ Integer ∷ Numeric ∷ FiveBit ∷ SixBit ∷ SevenBit ∷ OctetString ∷ Utf8String ∷ []) n Utf8String

-- the record of a set at an address
abbrev pub recorded : ℕ → sets.Set → SetRecord
recorded at s = record {
  number = number s.name;
  id_at = name_at at s.extra s.name;
  id_len = length (part s.name);
  object_at = object_at at s;
  object_len = length s.object;
  at = at;
  size = size s;
  code = s.code;
}

-- the content of the identifier of a set with a record
abbrev pub content_in : List ℕ → SetRecord → List ℕ
content_in xs r = cond (r.number == 0) (take r.id_len (drop r.id_at xs)) (r.number ∷ [])

-- a step, as it is told
abbrev pub told : Result Scanned ScanFault → Step
told (Ok End) = end
told (Ok Filler) = tile filler
told (Ok (Set v)) = tile (holds (set_of v))
told (Err f) = wrong (scan_flaw f)

-- A set that is shown at an address of the image xs: its record says where it stands, and the parts are those of the image;
-- it lies inside; it is the same set whatever follows its bytes; and the smallest form of what it shows has no more bytes.
pub record Shown (xs : List ℕ) (at : ℕ) (v : SetView) : Type 0 where
  pub place : v.place ≡ recorded at (set_of v)
  pub identifier : part (name_of v.identifier) ≡ take v.place.id_len (drop v.place.id_at xs)
  pub object : v.object.now ≡ take v.place.object_len (drop v.place.object_at xs)
  pub seven : v.place.code ≤ 7
  pub three : 3 ≤ v.place.size
  pub inside : at + v.place.size ≤ length xs
  pub alone : (ys : List ℕ) → next unpacked (take v.place.size (drop at xs) ++ ys) ≡ tile (holds (set_of v))
  pub least : (object : List ℕ) → unpacked v.place.code v.object.now ≡ Ok object → size (smallest_of (content (name_of v.identifier)) (code v.place.code).kind object) ≤ v.place.size

abbrev pub Shows : List ℕ → ℕ → Result Scanned ScanFault → Type 0
Shows xs at (Ok End) = Unit {0}
Shows xs at (Ok Filler) = at + 1 ≤ length xs
Shows xs at (Ok (Set v)) = Shown xs at v
Shows xs at (Err f) = scan_place f ≡ at
