use Rattle.std.proofs.Common.{◌+◌, ◌-◌, drop, arith, length-drop}
use Rattle.std.proofs.lemmas.List.{length-take-le}
use Rattle.writing.proofs.Formed.{never_refused}
use Rattle.writing.proofs.pens.Pen.object.Goals as goal

pub unwrap-requires : goal.unwrap-requires
unwrap-requires c =
    let pen = c.args.self.now in
    let long = length-take-le (c.args.self.now.at + c.args.n - c.args.self.now.at) (drop c.args.self.now.at c.args.self.now.out.now) (omega (arith, length-drop c.args.self.now.at c.args.self.now.out.now, c.requires.room)) in
    never_refused c.args.kind c.args.object.now _ c.pack.new.out c.pack.result c.requires.sized (omega (arith, long, c.requires.planned)) c.pack.ensures.value
