use Rattle.rivals.proofs.Promised.{readied_needs}
use Rattle.rivals.proofs.whole_blocks.Goals as goal

pub returns-in-0-clause-needs : goal.returns-in-0-clause-needs
returns-in-0-clause-needs c = readied_needs

pub returns-in_default-clause-needs : goal.returns-in_default-clause-needs
returns-in_default-clause-needs c = readied_needs
