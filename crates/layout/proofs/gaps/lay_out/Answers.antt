use Rattle.layout.proofs.Anews.{laid-reads, rivals_need}
use Rattle.layout.proofs.gaps.lay_out.Goals as goal

pub returns-in_err-of-clause-reads : goal.returns-in_err-of-clause-reads
returns-in_err-of-clause-reads c = laid-reads

pub returns-in_err-of-clause-rivals : goal.returns-in_err-of-clause-rivals
returns-in_err-of-clause-rivals c = rivals_need

pub returns-clause-reads : goal.returns-clause-reads
returns-clause-reads c = laid-reads

pub returns-clause-rivals : goal.returns-clause-rivals
returns-clause-rivals c = rivals_need
