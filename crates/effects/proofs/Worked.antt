-- The worked gap.
use Rattle.std.proofs.Common.{◌≡◌, Ok, refl, arith}
use Rattle.codes.specs.Bits.{bits, val, spread, groups}
use Rattle.codes.specs.Table.{permitted, packed_code, first_code, unpacked_letters, unpacked_code}
use Rattle.sets.specs.Parsing.{arcs, body, parse}
use Rattle.sets.specs.Scans.{next, scan_by, placed}
use Rattle.sets.specs.Writing.{encode}
use Rattle.sets.specs.Layouts.{laid}
use Rattle.sets.specs.Readings.{reads}
use Rattle.rivals.specs.Examples.{between, with_three, six}
use Rattle.layout.specs.Plans.{total, run}
use Rattle.effects.specs.Gaps.{OpenSet}
use Rattle.effects.specs.Seals.{lock_run}
use Rattle.effects.specs.Blocks.{open_from, open_front, gap_first, gap_blocks, behind_of}
use Rattle.effects.specs.Held.{items_of}
use Rattle.effects.specs.Made.{set_first, set_blocks, set_room, set_behind, set_items, place_of, set_place, change_wants, change_made, drop_made, ready_wants, ready_made, ready_first, ready_blocks}
use Rattle.effects.specs.Laws.{Legible}
use Rattle.effects.specs.Examples.{three, BetweenMade}

read : reads between ≡ Ok (record { entries = with_three six })
unfolding reads arcs body parse next scan_by placed bits val spread groups unpacked_letters unpacked_code
read = refl

legible : Legible between (record { entries = with_three six })
legible = record {
  shaped = record { some = omega arith; whole = refl; small = (omega arith, (omega arith, (omega arith, (omega arith, (omega arith, (omega arith, (omega arith, (omega arith, (omega arith, (omega arith, (omega arith, (omega arith, (omega arith, (omega arith, (omega arith, (omega arith, tt)))))))))))))))) };
  few = omega arith;
  read = read;
}

stands : OpenSet between three
unfolding arcs body parse next scan_by placed bits val spread groups unpacked_letters unpacked_code
stands = record { has = (1, omega arith, λ d. refl); unsealed = refl }

pub between-made : BetweenMade
unfolding arcs body parse next scan_by placed bits val spread groups unpacked_letters unpacked_code permitted packed_code first_code encode laid total run open_from open_front gap_first gap_blocks behind_of items_of lock_run place_of set_first set_blocks set_room set_behind set_items set_place change_wants change_made drop_made ready_wants ready_made ready_first ready_blocks
between-made = (legible, stands, refl, refl, refl, refl, refl, refl, refl, refl, refl, refl, refl, refl)
