use Rattle.std.proofs.Common.{◌%◌, ◌^◌, ◌<◌, length, sym, ap, ◌∙◌, arith}
use Rattle.std.proofs.lemmas.List.{length-map, get_or-map}
use Rattle.std.proofs.lemmas.Nat.{one_shl, pow_pos}
use Rattle.packing.specs.Any.{row}
use Rattle.packing.proofs.alphabet.AlphabetCode.group.Goals as goal

pub bounds-object-i : goal.bounds-object-i
bounds-object-i c = omega (arith, length-map c.args.object.now (λ b. b % 2 ^ c.args.self.now.width.bits))

pub overflow_shl-result : goal.overflow_shl-result
overflow_shl-result c = let s = c.args.self.now in omega (arith, (row s).narrow)

pub nonzero_rem-result : goal.nonzero_rem-result
nonzero_rem-result c =
    let s = c.args.self.now in
    omega (arith, one_shl s.width.bits 32 (omega (arith, (row s).narrow)), pow_pos s.width.bits)

pub returns : goal.returns
returns c =
    let s = c.args.self.now in
    let w = c.args.self.now.width.bits in
    let l = row s in
    let h : c.args.i < length c.args.object.now = omega (arith, length-map c.args.object.now (λ b. b % 2 ^ c.args.self.now.width.bits)) in
    ap (λ m. c.from.result % m) (one_shl w 32 (omega (arith, l.narrow))) ∙ ap (λ b. b % 2 ^ w) c.from.ensures ∙ sym (get_or-map (λ b. b % 2 ^ w) c.args.object.now c.args.i 0 0 h)
