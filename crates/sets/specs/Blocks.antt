-- Blocks of memory, locked or open.
use Rattle.std.specs.Prelude.{◌≡◌, ℕ, ◌+◌, ◌*◌, ◌<◌, Bool, false, List, ◌≢◌, slice_index_or}
use Rattle.std.specs.List.{AllByRecursion}
use Rattle.sets.specs.Sets.{size}
use Rattle.sets.specs.Scans.{Found}
use Rattle.sets.specs.Layouts.{Apart}

-- a set has a byte of block k, of blocks of b bytes
abbrev pub Touches : ℕ → ℕ → Found → Type 0
Touches b k f = (f.at < k * b + b) × (k * b < f.at + size f.set)

-- a set touches locked blocks only, or open ones only
abbrev pub Unmixed : ℕ → List Bool → Found → Type 0
Unmixed b locks f = (j k : ℕ) → Touches b j f → Touches b k f → slice_index_or locks j false ≡ slice_index_or locks k false

-- then no set lies across the border of a locked and an open block, nor across either end of memory
abbrev pub Borders : Type 0
Borders =
    (b : ℕ) (locks : List Bool) (fs : List Found) → AllByRecursion (Unmixed b locks) fs
    → ((k : ℕ) → (slice_index_or locks k false ≢ slice_index_or locks (k + 1) false) → AllByRecursion (Apart ((k + 1) * b)) fs) × AllByRecursion (Apart 0) fs
