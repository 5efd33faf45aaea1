use Rattle.std.proofs.Common.{refl}
use Rattle.codes.specs.Bits.{bits, val, spread, groups}
use Rattle.codes.specs.Table.{unpacked_letters, unpacked_code}
use Rattle.sets.specs.Parsing.{arcs, body, parse}
use Rattle.sets.specs.Scans.{next, scan_by, placed}
use Rattle.sets.specs.Examples.{SpellingsRight, StepsRight, MemoryRight}
use Rattle.sets.proofs.examples_hold.Goals as goal

spelled : SpellingsRight
unfolding arcs
spelled = ((refl, refl, refl), ((refl, refl, refl), ((refl, refl, refl), ((refl, refl, refl), ((refl, refl), ((refl, refl), tt))))))

stepped : StepsRight
unfolding arcs body parse
stepped = refl

scanned : MemoryRight
unfolding arcs body parse next scan_by placed bits val spread groups unpacked_letters unpacked_code
scanned = (refl, refl)

pub returns : goal.returns
returns c = record { value = refl; spelled = spelled; stepped = stepped; scanned = scanned }
