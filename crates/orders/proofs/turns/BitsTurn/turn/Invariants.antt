use Rattle.std.proofs.Common.{◌≡◌, ◌++◌, map, take, drop}
use Rattle.drivers.specs.Layers.{mirror}
use Rattle.orders.proofs.turns.BitsTurn.turn.Given as goal

abbrev pub invariant-loop-byte : goal.invariant-loop-byte
invariant-loop-byte l = l.block ≡ map mirror (take l.byte-index l.initial.block) ++ drop l.byte-index l.initial.block
