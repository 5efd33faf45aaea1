use Rattle.writing.proofs.Formed.{put_form}
use Rattle.writing.proofs.items.Item.write.Goals as goal

pub returns : goal.returns
returns c =
    let is = c.in_ok-form.ensures in
    put_form c.in_ok-form.form c.args.extra c.args.self c.args.out.now c.write.new.out c.write.result is.0 is.1 c.write.ensures
