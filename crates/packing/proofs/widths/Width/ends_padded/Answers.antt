use Rattle.std.proofs.Common.{◌-◌, ◌*◌, ◌/◌, ◌%◌, ◌^◌, ◌<◌, eqb, length, sym, ◌∙◌, subst, arith}
use Rattle.std.proofs.lemmas.Nat.{one_shl, mod_below}
use Rattle.packing.proofs.Meaning.{pads_none, pads_some}
use Rattle.packing.proofs.widths.Width.ends_padded.Goals as goal

pub returns-then-bit-eq0 : goal.returns-then-bit-eq0
returns-then-bit-eq0 c = pads_none c.args.self.bits c.args.padding c.args.bytes.now (omega arith) (sym c.whole_groups-bit.ensures.bit ∙ c.if-bit-eq0.true)

pub returns : goal.returns
returns c =
    let w = c.args.self.bits in
    let r = c.whole_groups-bit.result.bit in
    let few : c.whole_groups-bit.result.bit < c.args.self.bits = subst (λ k. k < w) (sym c.whole_groups-bit.ensures.bit) (mod_below (length c.args.bytes.now * 8) w (omega arith)) in
    (λ j. eqb (c.from-last.result % one_shl r 32 (omega arith) j) (c.from.ensures j / 2 ^ (w - r)))
    ∙ pads_some w c.args.padding c.args.bytes.now (omega arith) r c.from-last.result c.whole_groups-bit.ensures.bit (omega arith) c.requires (omega arith) c.from-last.ensures
