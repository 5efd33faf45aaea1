use Rattle.std.proofs.Common.{rules}
use Rattle.rivals.proofs.Anew.{free-after}
use Rattle.rivals.proofs.Promised as law
use Rattle.rivals.proofs.most_free.Goals as goal

pub returns : goal.returns
returns c = record { value = search rules; most = law.most-free; reached = free-after }
