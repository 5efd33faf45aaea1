use Rattle.std.proofs.ByRecursion.{All-from_get_or}
use Rattle.std.proofs.Common.{◌+◌, ◌-◌, ◌*◌, ◌/◌, ◌%◌, ◌^◌, ◌<◌, get_or, sym, ap, ◌∙◌, subst, arith}
use Rattle.codes.specs.Bits.{bytes_for}
use Rattle.codes.proofs.Cuts.{three}
use Rattle.packing.proofs.Places.{byte_begins, byte-is}
use Rattle.packing.proofs.spelled.Spelled.byte.Goals as goal

pub begins-from-requires : goal.begins-from-requires
begins-from-requires g c =
    let sized = g.met.C.Code.sized c.args.self.now.code.now in
    let e = c.width-width.ensures in
    let in' = byte_begins c.args.self.now.count (g.C.Code.wide c.args.self.now.code.now) c.args.j sized.0 c.requires in
    let here = subst (λ w. c.args.j * 8 / w < c.args.self.now.count) (sym e) in' in
    omega (arith, here, c.args.self.now.few)

pub group_or_pad-a-requires : goal.group_or_pad-a-requires
group_or_pad-a-requires g c =
    let in' = byte_begins c.args.self.now.count (g.C.Code.wide c.args.self.now.code.now) c.args.j (g.met.C.Code.sized c.args.self.now.code.now).0 c.requires in
    let here = subst (λ w. c.args.j * 8 / w < c.args.self.now.count) (sym c.width-width.ensures) in' in
    omega (arith, here, c.begins-from.ensures.group)

pub group_or_pad-b-requires : goal.group_or_pad-b-requires
group_or_pad-b-requires g c =
    let in' = byte_begins c.args.self.now.count (g.C.Code.wide c.args.self.now.code.now) c.args.j (g.met.C.Code.sized c.args.self.now.code.now).0 c.requires in
    let here = subst (λ w. c.args.j * 8 / w < c.args.self.now.count) (sym c.width-width.ensures) in' in
    omega (arith, here, c.begins-from.ensures.group)

pub group_or_pad-c-requires : goal.group_or_pad-c-requires
group_or_pad-c-requires g c =
    let in' = byte_begins c.args.self.now.count (g.C.Code.wide c.args.self.now.code.now) c.args.j (g.met.C.Code.sized c.args.self.now.code.now).0 c.requires in
    let here = subst (λ w. c.args.j * 8 / w < c.args.self.now.count) (sym c.width-width.ensures) in' in
    omega (arith, here, c.begins-from.ensures.group)

pub returns : goal.returns
returns g c =
    let gs = g.C.Code.spelled c.args.self.now.code.now c.args.self.now.object.now in
    let p = g.C.Code.pad c.args.self.now.code.now in
    let w = g.C.Code.wide c.args.self.now.code.now in
    let e = c.width-width.ensures in
    let k = c.begins-from.result.group in
    let s = c.begins-from.result.bit in
    let sized = g.met.C.Code.sized c.args.self.now.code.now in
    let groups = g.met.C.Code.packs c.args.self.now.code.now c.args.self.now.object.now c.args.self.now.suited (All-from_get_or (λ d. d < 256) c.args.self.now.object.now 0 c.args.self.now.bytes) in
    c.cut.ensures
    ∙ (λ i. three (e i) (c.group_or_pad-a.ensures i) (c.group_or_pad-b.ensures i) (c.group_or_pad-c.ensures i) / 2 ^ (e i + e i + e i - s - 8) % 2 ^ 8)
    ∙ byte-is w p gs c.args.j k s sized.0 sized.2 groups.0 (subst (λ n. c.args.j < bytes_for w n) c.args.self.now.counted c.requires) (c.begins-from.ensures.group ∙ ap (λ w. c.args.j * 8 / w) e) (c.begins-from.ensures.bit ∙ ap (λ w. c.args.j * 8 % w) e)
    ∙ ap (λ bytes. get_or bytes c.args.j 0) groups.1
