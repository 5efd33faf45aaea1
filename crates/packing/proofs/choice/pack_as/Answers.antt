use Rattle.std.proofs.Common.{subst}
use Rattle.codes.specs.Numbers.{code_number}
use Rattle.packing.specs.Packing.{Packs}
use Rattle.packing.proofs.Choosing.{packs_back, below-eight}
use Rattle.packing.proofs.choice.pack_as.Goals as goal

pub returns : goal.returns
returns c =
    let is = subst (λ k. Packs k c.args.object.now c.args.out.now c.pack.new.out c.pack.result) c.from.ensures c.pack.ensures in
    record { value = is; back = packs_back (code_number c.args.code) c.args.object.now c.args.out.now c.pack.new.out c.pack.result (below-eight c.args.code) is }
