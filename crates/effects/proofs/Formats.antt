-- A blank memory reads as the empty list.
use Rattle.std.proofs.Common.{◌≡◌, ℕ, zero, suc, ◌-◌, ◌/◌, Bool, false, not, ◌&&◌, List, [], ◌∷◌, map, length, get_or, None, filter, refl, ap, ◌∙◌, arith}
use Rattle.std.specs.Option.{option_map}
use Rattle.std.specs.List.{AllByRecursion}
use Rattle.std.proofs.lemmas.Bool.{and_left}
use Rattle.sets.specs.Objects.{unpacked}
use Rattle.sets.specs.Scans.{Found, clean, scan, placed, used_from}
use Rattle.sets.specs.Tilings.{Ended}
use Rattle.sets.specs.Readings.{Memory, any, found, locked_at, sealed, byte_of, stray, stray_block, repeat, entry}
use Rattle.sets.proofs.Searching.{lowest-none}
use Rattle.sets.proofs.Tilings.{ends, scan-end}
use Rattle.rivals.proofs.Bridges.{reads_ok}
use Rattle.effects.specs.Formats.{Blank, Format}

zeros-end : (bs : List ℕ) → AllByRecursion (λ b. b ≡ 0) bs → Ended bs
zeros-end [] a = tt
zeros-end (b ∷ bs) a = a.0

open_at : (locks : List Bool) (k : ℕ) → AllByRecursion (λ l. l ≡ false) locks → get_or locks k false ≡ false
open_at [] k a = refl
open_at (l ∷ locks) zero a = a.0
open_at (l ∷ locks) (suc k) a = open_at locks k a.1

module _ (m : Memory) (blank : Blank m) where
  scanned : scan unpacked m.bytes ≡ clean []
  scanned = scan-end unpacked 0 m.bytes (ends unpacked m.bytes (zeros-end m.bytes blank.zeros))

  none : found m.bytes ≡ []
  unfolding placed
  none = ap (λ s. placed 0 s.tiles) scanned

  unstray : (fs : List Found) → stray_block m fs ≡ None
  unstray fs =
      ap (option_map (λ a. a / m.size)) (lowest-none (stray m fs) (length m.bytes) (λ a h. and_left (locked_at m a) (not (any (λ f. byte_of f a && sealed m f) fs)) (open_at m.locks (a / m.size) blank.unlocked)))

pub format : Format
format m blank = (
  reads_ok m (record { entries = [] }) (record { scanned = ap (λ s. s.fault) (scanned m blank); unstray = unstray m blank (found m.bytes); once = ap repeat (none m blank); list = ap (map (entry m)) (none m blank) }),
  ap (filter (sealed m)) (none m blank),
  ap (λ fs. length m.bytes - used_from 0 fs) (none m blank) ∙ omega arith,
)
