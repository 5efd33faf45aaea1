use Rattle.std.proofs.Common.{subst}
use Rattle.codes.specs.Numbers.{code_number}
use Rattle.codes.specs.Table.{unpacked_code}
use Rattle.packing.specs.Packing.{Measured}
use Rattle.packing.proofs.Choosing.{told_by}
use Rattle.packing.proofs.choice.measure.Goals as goal

pub returns : goal.returns
returns c =
    let is = subst (λ k. Measured (unpacked_code k c.args.bytes.now) c.measure.result) c.from.ensures c.measure.ensures in
    record { value = is; told = told_by (code_number c.args.code) c.args.bytes.now c.measure.result is }
