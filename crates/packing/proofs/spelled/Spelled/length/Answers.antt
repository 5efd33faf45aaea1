use Rattle.std.proofs.ByRecursion.{All-from_get_or}
use Rattle.std.proofs.Common.{◌<◌}
use Rattle.packing.proofs.Places.{packed-long}
use Rattle.packing.proofs.spelled.Spelled.length.Goals as goal

pub returns : goal.returns
returns g c =
    let m = g.C.Code in
    let groups = g.met.C.Code.packs c.args.self.now.code.now c.args.self.now.object.now c.args.self.now.suited (All-from_get_or (λ d. d < 256) c.args.self.now.object.now 0 c.args.self.now.bytes) in
    packed-long _ (m.wide c.args.self.now.code.now) (m.pad c.args.self.now.code.now) _ c.bytes_for.result (m.spelled c.args.self.now.code.now c.args.self.now.object.now) _ c.width.ensures c.args.self.now.counted (g.met.C.Code.sized c.args.self.now.code.now).0 groups.1 c.bytes_for.ensures
