use Rattle.std.proofs.Common.{Ok, subst}
use Rattle.codes.specs.Numbers.{kind_number}
use Rattle.packing.specs.Packing.{Packs}
use Rattle.packing.proofs.Choosing.{none_by}
use Rattle.packing.proofs.choice.pack.Goals as goal

pub returns : goal.returns
returns c =
    let n = c.in_ok-length.length in
    let x = c.args.object.now in
    let stored = subst (λ k. Packs k x c.args.out.now c.pack_as.new.out (Ok n)) c.choose-code.ensures.value c.in_ok-length.ensures.value in
    record { value = (c.choose-code.ensures.value, stored); least = none_by (kind_number c.args.kind) n x stored.2.0 }
