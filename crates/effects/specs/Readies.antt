-- A ready: the same list, with one set alone on whole blocks.
use Rattle.std.specs.Prelude.{◌≡◌, ℕ, suc, ◌+◌, ◌*◌, ◌/◌, ◌<◌, ◌≤◌, List, take, drop}
use Rattle.sets.specs.Scans.{Found}
use Rattle.sets.specs.Readings.{Memory, Entry, Reading, identified}
use Rattle.rivals.specs.Memories.{Rival, Alone}
use Rattle.rivals.specs.Relaid.{relaid}
use Rattle.writing.specs.Forms.{Wanted}
use Rattle.rivals.specs.Rooms.{whole}
use Rattle.layout.specs.declared.items.Behind.{Behind}
use Rattle.layout.specs.Plans.{least, total, ready_need, nth}
use Rattle.layout.specs.Lays.{readied_gap}
use Rattle.layout.specs.Anew.{Stands, OnBlocks}
use Rattle.effects.specs.Gaps.{ReadsAs, Becomes}
use Rattle.effects.specs.Changes.{ItemAt}
use Rattle.effects.specs.Seals.{Fills}

-- that gap with the k-th of its items alone on whole blocks; where it then stands
abbrev pub with_readied : Memory → ℕ → ℕ → Behind → List Wanted → ℕ → Memory
with_readied m p n behind ws k = relaid m p n (readied_gap behind m.size ws k (n * m.size))

abbrev pub readied_at : Memory → ℕ → List Wanted → ℕ → ℕ
readied_at m p ws k = p * m.size + whole m.size (total (take k ws))

abbrev pub readied_need : Memory → List Wanted → ℕ → ℕ
readied_need m ws k = ready_need m.size (take k ws) (nth ws k) (drop (suc k) ws)

-- its blocks: the first, and how many
abbrev pub readied_first : Memory → ℕ → List Wanted → ℕ → ℕ
readied_first m p ws k = p + whole m.size (total (take k ws)) / m.size

abbrev pub readied_blocks : Memory → List Wanted → ℕ → ℕ
readied_blocks m ws k = whole m.size (least (nth ws k)) / m.size

-- A memory that reads as the same list, with the set of an identifier, pad included, alone on whole blocks. Its bytes are
-- exactly those of n blocks from block p on, so that with these pledged its seal is granted.
pub record Ready (m m' : Memory) (l : List Entry) (id : List ℕ) (p n : ℕ) : Type 0 where
  pub becomes : Becomes m m' l
  pub alone : Alone m' id
  pub pledged : (f : Found) × (identified f ≡ id) × Fills m' f p n

-- where there is room, the set stands at the first block behind those before it
abbrev pub ReadyWithRoom : Type 0
ReadyWithRoom =
    (m : Memory) (r : Reading) (fs : List Found) (f : Found) (gs : List Found) (p n : ℕ) (ws : List Wanted) (k : ℕ) → ItemAt m r fs f gs p n ws k
    → (behind : Behind) → Stands m p n behind → m.size ≤ 256 → readied_need m ws k ≤ n * m.size
    → Ready m (with_readied m p n behind ws k) r.entries (identified f) (readied_first m p ws k) (readied_blocks m ws k)
    × OnBlocks (with_readied m p n behind ws k) (readied_at m p ws k) (nth ws k)

-- where there is none, no rival that reads as the same list has the set so
abbrev pub ReadyWithoutRoom : Type 0
ReadyWithoutRoom =
    (m : Memory) (r : Reading) (fs : List Found) (f : Found) (gs : List Found) (p n : ℕ) (ws : List Wanted) (k : ℕ) → ItemAt m r fs f gs p n ws k
    → n * m.size < readied_need m ws k → (m' : Memory) → Rival m m' → ReadsAs m' r.entries → Alone m' (identified f) → ⊥
