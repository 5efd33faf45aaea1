-- A format: every byte is 0, and no block is locked.
use Rattle.std.specs.Prelude.{◌≡◌, false, [], length}
use Rattle.std.specs.List.{AllByRecursion}
use Rattle.sets.specs.Readings.{Memory}
use Rattle.rivals.specs.Memories.{seals}
use Rattle.effects.specs.Gaps.{ReadsAs, free_of}

pub record Blank (m : Memory) : Type 0 where
  pub zeros : AllByRecursion (λ b. b ≡ 0) m.bytes
  pub unlocked : AllByRecursion (λ l. l ≡ false) m.locks

-- it reads as the empty list, without seals, and every byte is free
abbrev pub Format : Type 0
Format = (m : Memory) → Blank m → ReadsAs m [] × (seals m ≡ []) × (free_of m ≡ length m.bytes)
