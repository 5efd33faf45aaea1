use Rattle.std.proofs.Common.{ap, ◌∙◌}
use Rattle.std.specs.Prelude.{unwrap_or}
use Rattle.codes.specs.declared.kind.Compaction.TheVariants.{OctetString}
use Rattle.codes.specs.Numbers.{code_number}
use Rattle.packing.proofs.Choosing.{first_tried}
use Rattle.packing.proofs.choice.choose_compact.Goals as goal

pub returns : goal.returns
returns c = ap code_number (c.unwrap_or.ensures ∙ ap (λ o. unwrap_or o OctetString) c.first_suited.ensures) ∙ first_tried c.args.object.now
