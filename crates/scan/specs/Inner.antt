-- What the inner functions of the scan answer.
use Rattle.std.specs.Prelude.{◌≡◌, ℕ, ◌-◌, ◌≤◌, List, length, Ok, Err, Result}
use Rattle.sets.specs.Sets.{Name, bare, byte, led, filler, holds}
use Rattle.sets.specs.Parsing.{plain, Step, end, tile, wrong, Read, got, bad}
use Rattle.scan.specs.declared.faults.Malformed.{Malformed}
use Rattle.scan.specs.declared.views.Scanned.{Scanned}
use Rattle.scan.specs.declared.views.Scanned.TheVariants.{End, Filler, Set}
use Rattle.scan.specs.Faults.{malformed_number}
use Rattle.scan.specs.Views.{set_of, recorded}

-- a part that was read, with the bytes behind it
abbrev pub read_as : {A B : Type 0} → (A → B) → Result A Malformed → List ℕ → Read B
read_as f (Ok a) rest = got (f a) rest
read_as f (Err w) rest = bad (malformed_number w)

-- where the part of an identifier begins that ends at `next`
abbrev pub begin : ℕ → Name → ℕ
begin next (bare n) = 0
begin next (byte n) = 0
begin next (led c) = next - length c

-- a step whose code is not looked at
abbrev pub framed : Result Scanned Malformed → Step
framed (Ok End) = end
framed (Ok Filler) = tile filler
framed (Ok (Set v)) = tile (holds (set_of v))
framed (Err w) = wrong (plain (malformed_number w))

abbrev pub Frames : ℕ → Result Scanned Malformed → Type 0
Frames at (Ok End) = Unit {0}
Frames at (Ok Filler) = Unit {0}
Frames at (Ok (Set v)) = (v.place ≡ recorded at (set_of v)) × (v.place.code ≤ 7)
Frames at (Err w) = Unit {0}
