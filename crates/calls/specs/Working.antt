-- What the lent working memory holds.
use Rattle.std.specs.Prelude.{ℕ, ◌*◌, List, ◌++◌, length, drop, replicate, Some, None, Option}
use Rattle.tags.specs.Tags.{Tag, bytes}
use Rattle.sets.specs.Scans.{Refusal}
use Rattle.sets.specs.Readings.{found}
use Rattle.scan.specs.declared.views.SetRecord.{SetRecord}
use Rattle.scan.specs.Tables.{records, filled}
use Rattle.calls.specs.declared.admission.Rooms.{Rooms}
use Rattle.calls.specs.Rows.{rooms}

pub record Work : Type 0 where
  pub image : List ℕ
  pub table : List SetRecord
  pub scratch : List ℕ

abbrev pub work : List ℕ → List SetRecord → List ℕ → Work
work image table scratch = record { image = image; table = table; scratch = scratch }

abbrev pub rooms_of : Work → Rooms
rooms_of w = rooms (length w.image) (length w.table) (length w.scratch)

-- the image begins with the tag's bytes, and is as before behind them
abbrev pub imaged : Tag → List ℕ → List ℕ
imaged t image = bytes t ++ drop (t.count * t.size) image

-- the table begins with the records of the tag's sets, up to its first fault, and is as before behind them
abbrev pub tabled : Tag → List SetRecord → List SetRecord
tabled t table = filled (records (found (bytes t))) table

abbrev pub zeroed : List ℕ → List ℕ
zeroed xs = replicate (length xs) 0

abbrev pub renewed : Tag → Work → Work
renewed t w = record { image = imaged t w.image; table = tabled t w.table; scratch = zeroed w.scratch }

-- one thing after a refusal, another without
abbrev pub unless : {A : Type 0} → Option Refusal → A → A → A
unless (Some f) refused granted = refused
unless None refused granted = granted
