-- The worked gap.
use Rattle.std.proofs.Common.{◌≡◌, ℕ, zero, suc, ◌<◌, ◌≤◌, false, List, [], ◌∷◌, get_or, Ok, refl, inr, arith}
use Rattle.codes.specs.Bits.{bits, val, spread, groups}
use Rattle.codes.specs.Table.{permitted, packed_code, first_code, unpacked_letters, unpacked_code}
use Rattle.sets.specs.Sets.{bare}
use Rattle.sets.specs.Parsing.{arcs, body, parse}
use Rattle.sets.specs.Scans.{next, scan_by, Found, placed}
use Rattle.sets.specs.Readings.{reads}
use Rattle.rivals.specs.Memories.{Shaped, Gap}
use Rattle.rivals.specs.Rooms.{least}
use Rattle.rivals.specs.Promises.{Lies}
use Rattle.rivals.specs.Examples.{held, between, with_three, six, SevenTooMany}
use Rattle.rivals.proofs.Promised.{no_room-to_change}

read : reads between ≡ Ok (record { entries = with_three six })
unfolding reads arcs body parse next scan_by placed bits val spread groups unpacked_letters unpacked_code
read = refl

shaped : Shaped between
shaped = record { some = omega arith; whole = refl; small = (omega arith, (omega arith, (omega arith, (omega arith, (omega arith, (omega arith, (omega arith, (omega arith, (omega arith, (omega arith, (omega arith, (omega arith, (omega arith, (omega arith, (omega arith, (omega arith, tt)))))))))))))))) }

clear : (k : ℕ) → 1 ≤ k → k < 3 → get_or between.locks k false ≡ false
clear zero h g = absurd (omega arith)
clear (suc zero) h g = refl
clear (suc (suc zero)) h g = refl
clear (suc (suc (suc k))) h g = absurd (omega arith)

gap : Gap between 1 2
gap = record { inside = omega arith; clear = clear; start = inr (omega arith, refl); stop = inr (omega arith, refl) }

set_of : ℕ → ℕ → List ℕ → Found
set_of at n object = record { at = at; set = record { extra = 0; name = bare n; code = 0; object = object } }

lies : Lies between (set_of 0 1 (0xaa ∷ 0xbb ∷ []) ∷ []) (set_of 4 3 six) (set_of 12 2 (0xcc ∷ 0xdd ∷ []) ∷ []) 1 2
unfolding set_of arcs body parse next scan_by placed bits val spread groups unpacked_letters unpacked_code
lies = record { among = refl; unsealed = refl; gap = gap; from = omega arith; to = omega arith }

eight : least (held 3 six false) ≡ 8
unfolding least permitted packed_code first_code
eight = refl

nine : least (held 3 (0x60 ∷ six) false) ≡ 9
unfolding least permitted packed_code first_code
nine = refl

pub seven_too_many : SevenTooMany
unfolding set_of unpacked_code
seven_too_many = (read, gap, eight, λ m' v e. no_room-to_change between (record { entries = with_three six }) shaped read (set_of 0 1 (0xaa ∷ 0xbb ∷ []) ∷ []) (set_of 4 3 six) (set_of 12 2 (0xcc ∷ 0xdd ∷ []) ∷ []) 1 2 lies (held 3 (0x60 ∷ six) false) refl (omega (arith, nine)) m' v e)
