-- What a scan of an image answers, and what it leaves in the table.
use Rattle.std.specs.Prelude.{◌≡◌, ℕ, ◌/◌, Bool, cond, List, ◌++◌, map, length, drop, Some, None, Ok, Err, Option, Result, nat_lt}
use Rattle.std.specs.List.{AllByRecursion}
use Rattle.codes.specs.Numbers.{code_number}
use Rattle.sets.specs.Parsing.{plain}
use Rattle.sets.specs.Scans.{Refusal, scan, Found, free}
use Rattle.sets.specs.Tilings.{Tiled, Halts}
use Rattle.sets.specs.Objects.{unpacked}
use Rattle.sets.specs.Readings.{found}
use Rattle.scan.specs.declared.faults.ScanFault.{ScanFault}
use Rattle.scan.specs.declared.views.SetRecord.{SetRecord}
use Rattle.scan.specs.declared.tables.Tally.{Tally}
use Rattle.scan.specs.Faults.{scan_refusal}
use Rattle.scan.specs.Views.{code_of, recorded}

abbrev pub records : List Found → List SetRecord
records fs = map (λ f. recorded f.at f.set) fs

abbrev pub tally : ℕ → List Found → Tally
tally n fs = record { sets = length (records fs); free = free n fs }

-- a third of the image's bytes is the most sets that it can hold
abbrev pub short : ℕ → List ℕ → Bool
short room xs = nat_lt room (length xs / 3)

-- the count of sets and of free bytes, or the refusal
abbrev pub judged : Option Refusal → Tally → Result Tally Refusal
judged None t = Ok t
judged (Some f) t = Err f

abbrev pub answer : ℕ → List ℕ → Result Tally Refusal
answer room xs = cond (short room xs) (Err (record { place = 2; flaw = plain 4 })) (judged (scan unpacked xs).fault (tally (length xs) (found xs)))

abbrev pub answered : Result Tally ScanFault → Result Tally Refusal
answered (Ok t) = Ok t
answered (Err f) = Err (scan_refusal f)

-- a table that begins with records, and is as before behind them
abbrev pub filled : List SetRecord → List SetRecord → List SetRecord
filled rs table = rs ++ drop (length rs) table

abbrev pub after : List ℕ → List SetRecord → List SetRecord
after xs table = cond (short (length table) xs) table (filled (records (found xs)) table)

-- the record of each set tells the number of its code
abbrev pub CodesTold : List ℕ → Type 0
CodesTold xs = AllByRecursion (λ f. code_number (code_of f.set.code) ≡ f.set.code) (found xs)

-- the bytes of an image are tiles, end to end, up to its end or to the first fault
abbrev pub Tiling : List ℕ → Type 0
Tiling xs = (bs : List ℕ) × (rest : List ℕ) × (xs ≡ bs ++ rest) × Tiled unpacked (scan unpacked xs).tiles bs × Halts unpacked rest (length bs) (scan unpacked xs).fault
