use Rattle.std.proofs.Common.{length, ap, ◌∙◌, rules}
use Rattle.codes.specs.Table.{permitted, packed_code}
use Rattle.packing.proofs.Choosing.{permitted_by}
use Rattle.packing.proofs.choice.plan.Goals as goal

pub packed_length-length-requires : goal.packed_length-length-requires
packed_length-length-requires c = ap (λ k. permitted k c.args.object.now) c.from.ensures ∙ permitted_by c.args.kind c.args.object.now _ c.choose-code.ensures.value

pub returns : goal.returns
returns c = (search rules, c.choose-code.ensures.value, c.packed_length-length.ensures ∙ ap (λ k. length (packed_code k c.args.object.now)) (c.from.ensures ∙ c.choose-code.ensures.value))
