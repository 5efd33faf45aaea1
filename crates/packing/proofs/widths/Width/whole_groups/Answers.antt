use Rattle.std.proofs.Common.{length, arith}
use Rattle.packing.proofs.Places.{whole-fits}
use Rattle.packing.proofs.widths.Width.whole_groups.Goals as goal

pub begins-requires : goal.begins-requires
begins-requires c = whole-fits (length c.args.bytes.now) c.args.self.bits (omega arith) (omega arith)
