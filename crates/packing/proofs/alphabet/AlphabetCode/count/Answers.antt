use Rattle.std.proofs.Common.{sym, arith}
use Rattle.std.proofs.lemmas.List.{length-map}
use Rattle.packing.proofs.alphabet.AlphabetCode.count.Goals as goal

pub returns : goal.returns
returns c = record { value = sym (length-map c.args.object.now _); bound = omega arith }
