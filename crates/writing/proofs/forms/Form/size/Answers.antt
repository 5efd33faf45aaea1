use Rattle.std.proofs.Common.{arith}
use Rattle.writing.proofs.Formed.{object_few}
use Rattle.writing.proofs.forms.Form.size.Goals as goal

pub overflow_add-result-4 : goal.overflow_add-result-4
overflow_add-result-4 c = record { fits = omega (arith, object_few c.args.self, c.name_size.ensures.bound, c.length_size.ensures.bound) }
