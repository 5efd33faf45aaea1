use Rattle.std.proofs.Common.{arith}
use Rattle.codes.proofs.Cuts.{place-group, place_bit}
use Rattle.packing.proofs.widths.Width.begins.Goals as goal

pub overflow_mul-result : goal.overflow_mul-result
overflow_mul-result c = record { fits = omega (arith, place-group c.args.i c.args.self.bits c.args.among.bits (omega arith)) }

pub overflow_add-result : goal.overflow_add-result
overflow_add-result c = record { fits = omega (arith, place-group c.args.i c.args.self.bits c.args.among.bits (omega arith)) }

pub returns : goal.returns
returns c = record { group = place-group c.args.i c.args.self.bits c.args.among.bits (omega arith); bit = place_bit c.args.i c.args.self.bits c.args.among.bits }
