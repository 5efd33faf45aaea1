use Rattle.std.proofs.Common.{◌+◌, ◌-◌, ◌/◌, ◌%◌, ◌^◌, ◌<◌, length, ◌∙◌, arith}
use Rattle.std.proofs.ByRecursion.{All-from_get_or}
use Rattle.codes.proofs.Cuts.{three}
use Rattle.packing.proofs.Places.{group-fits, group-is}
use Rattle.packing.proofs.widths.Width.group_of.Goals as goal

pub begins-from-requires : goal.begins-from-requires
begins-from-requires c = omega (arith, group-fits c.args.i (length c.args.bytes.now) c.args.self.bits (omega arith) c.requires (omega arith))

pub overflow_add-k : goal.overflow_add-k
overflow_add-k c = record { fits = omega (arith, c.begins-from.ensures.group, group-fits c.args.i (length c.args.bytes.now) c.args.self.bits (omega arith) c.requires (omega arith)) }

pub overflow_add-k-2 : goal.overflow_add-k-2
overflow_add-k-2 c = record { fits = omega (arith, c.begins-from.ensures.group, group-fits c.args.i (length c.args.bytes.now) c.args.self.bits (omega arith) c.requires (omega arith)) }

pub returns : goal.returns
returns c =
    let w = c.args.self.bits in
    let bs = c.args.bytes.now in
    let s = c.begins-from.result.bit in
    c.cut.ensures ∙ (λ j. three 8 (c.byte_or_zero-a.ensures j) (c.byte_or_zero-b.ensures j) (c.byte_or_zero-c.ensures j) / 2 ^ (8 + 8 + 8 - s - w) % 2 ^ w)
    ∙ group-is w c.args.i bs c.begins-from.result.group s (omega arith) (omega arith) (All-from_get_or (λ d. d < 256) c.args.bytes.now 0 (λ i h. (c.type_inv.bytes i).fits)) c.requires c.begins-from.ensures.group c.begins-from.ensures.bit
