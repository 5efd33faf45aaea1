use Rattle.std.proofs.Common.{◌*◌, ◌%◌, length, sym, ◌∙◌, arith}
use Rattle.codes.specs.Table.{whole}
use Rattle.packing.proofs.Meaning.{trim_none, trim_wide, trim_drop, trim_keep, many-whole}
use Rattle.packing.proofs.widths.Width.kept.Goals as goal
use Rattle.packing.proofs.widths.Width.kept.Goals.{then-n-eq0-via-then-n-eq0, then-n-eq0-via-else-n-eq0+then-self-end-gt7}

pub returns-then-n-eq0 : goal.returns-then-n-eq0
returns-then-n-eq0 c =
    let w = c.args.self.bits in
    let bs = c.args.bytes.now in
    let end = c.whole_groups-end.result in
    let many = many-whole w bs end.group c.whole_groups-end.ensures.group in
    elim c.then-n-eq0.branch [
      | then-n-eq0-via-then-n-eq0 v ↦ record { bound = omega (arith, c.whole_groups-end.ensures.group); value = trim_none w c.args.padding (length bs * 8 % w) end.group (whole w bs) many v.if-n-eq0.true }
      | then-n-eq0-via-else-n-eq0+then-self-end-gt7 v ↦ record { bound = omega (arith, c.whole_groups-end.ensures.group); value = trim_wide w c.args.padding (length bs * 8 % w) end.group (whole w bs) many (omega (arith, c.whole_groups-end.ensures.bit, v.if-self-end-gt7.true)) }
    ]

pub returns-then-group_of-padding : goal.returns-then-group_of-padding
returns-then-group_of-padding c =
    let w = c.args.self.bits in
    let bs = c.args.bytes.now in
    let end = c.whole_groups-end.result in
    record { bound = omega (arith, c.whole_groups-end.ensures.group); value = trim_drop w c.args.padding (length bs * 8 % w) end.group (whole w bs) (many-whole w bs end.group c.whole_groups-end.ensures.group) (omega (arith, c.whole_groups-end.ensures.bit, c.if-self-end-gt7.false)) (omega arith) (sym c.group_of.ensures ∙ c.if-group_of-padding.true) }

pub returns : goal.returns
returns c =
    let w = c.args.self.bits in
    let bs = c.args.bytes.now in
    let end = c.whole_groups-end.result in
    record { bound = omega (arith, c.whole_groups-end.ensures.group); value = trim_keep w c.args.padding (length bs * 8 % w) end.group (whole w bs) (many-whole w bs end.group c.whole_groups-end.ensures.group) (omega arith) (λ e. c.if-group_of-padding.false (c.group_of.ensures ∙ e)) }
