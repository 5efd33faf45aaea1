use Rattle.codes.specs.Numbers.{code_number}
use Rattle.packing.specs.Plain.{plain}
use Rattle.packing.proofs.octets.OctetsCode.suits.Goals as goal

pub returns : goal.returns
returns c = (plain (code_number c.args.self.now.code) c.args.self.now.ok).permits c.args._object.now
