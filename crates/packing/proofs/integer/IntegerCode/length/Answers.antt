use Rattle.std.proofs.Common.{◌<◌, Ok, sym, ap, ◌∙◌, subst, arith}
use Rattle.std.proofs.ByRecursion.{All-from_get_or}
use Rattle.codes.specs.Table.{unpacked_integer}
use Rattle.packing.specs.Packing.{Measured}
use Rattle.packing.specs.Plain.{front_bytes}
use Rattle.packing.proofs.DigitLoops.{integer-object, integer_large, integer-long}
use Rattle.packing.proofs.integer.IntegerCode.length.Goals as goal

pub returns-then-n-gt8 : goal.returns-then-n-gt8
returns-then-n-gt8 c = ap unpacked_integer (sym (front_bytes c.args.n c.args.bytes.now (All-from_get_or (λ d. d < 256) c.args.bytes.now 0 (λ i h. (c.type_inv.bytes i).fits)))) ∙ integer-long c.args.bytes.now c.args.n (omega (arith, c.requires)) c.if-n-gt8.true

pub returns-then-v-gt-LARGEST : goal.returns-then-v-gt-LARGEST
returns-then-v-gt-LARGEST c = ap unpacked_integer (sym (front_bytes c.args.n c.args.bytes.now (All-from_get_or (λ d. d < 256) c.args.bytes.now 0 (λ i h. (c.type_inv.bytes i).fits)))) ∙ integer_large c.args.bytes.now c.args.n c.number_of-v.result (omega (arith, c.requires)) c.number_of-v.ensures (omega arith)

pub returns : goal.returns
returns c = subst (λ gs. Measured (unpacked_integer gs) (Ok c.decimal_length.result)) (front_bytes c.args.n c.args.bytes.now (All-from_get_or (λ d. d < 256) c.args.bytes.now 0 (λ i h. (c.type_inv.bytes i).fits))) (integer-object c.args.bytes.now c.args.n c.number_of-v.result (omega (arith, c.requires)) c.number_of-v.ensures c.decimal_length.result (omega arith) (omega arith) c.decimal_length.ensures)
