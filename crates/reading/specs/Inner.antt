-- What the inner functions of the check answer.
use Rattle.std.specs.Prelude.{◌≡◌, ℕ, ◌+◌, ◌<◌, ◌≤◌, Bool, true, false, List, take, Option, MatchOption}
use Rattle.std.specs.List.{find, list_any, enumerate_from}
use Rattle.std.specs.Option.{option_map}
use Rattle.std.specs.Str.{bytes_eq}
use Rattle.sets.specs.Readings.{Memory, locked_at, every}
use Rattle.scan.specs.declared.views.SetRecord.{SetRecord}
use Rattle.scan.specs.Views.{content_in}

abbrev pub locked_run : Memory → ℕ → ℕ → Bool
locked_run m at long = every (λ i. locked_at m (at + i)) long

-- the lowest address of a run that lies in a locked block
abbrev pub FirstLocked : Memory → ℕ → ℕ → Option ℕ → Type 0
FirstLocked m from to r =
    MatchOption r ((a : ℕ) → from ≤ a → a < to → locked_at m a ≡ false)
    (λ at. (from ≤ at) × (at < to) × (locked_at m at ≡ true) × ((a : ℕ) → from ≤ a → a < at → locked_at m a ≡ false))

abbrev pub same_content : List ℕ → SetRecord → SetRecord → Bool
same_content xs a b = bytes_eq (content_in xs a) (content_in xs b)

-- whether the identifier of a record stands in one before its place, and the address of the first whose does
abbrev pub stood_at : List ℕ → List SetRecord → ℕ × SetRecord → Bool
stood_at xs rs p = list_any (λ g. same_content xs g p.1) (take p.0 rs)

abbrev pub first_again : List ℕ → List SetRecord → Option ℕ
first_again xs rs = option_map (λ p. p.1.at) (find (stood_at xs rs) (enumerate_from 0 rs))
