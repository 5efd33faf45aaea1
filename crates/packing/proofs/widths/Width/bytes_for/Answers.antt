use Rattle.std.proofs.Common.{arith}
use Rattle.packing.proofs.Places.{bytes_fit, bytes-more}
use Rattle.packing.proofs.widths.Width.bytes_for.Goals as goal

pub begins-end-requires : goal.begins-end-requires
begins-end-requires c = omega (arith, bytes_fit c.args.count c.args.self.bits (omega arith))

pub overflow_add-result : goal.overflow_add-result
overflow_add-result c = record { fits = omega (arith, c.begins-end.ensures.group, bytes-more c.args.count c.args.self.bits (omega arith) (omega (arith, c.begins-end.ensures.bit))) }
