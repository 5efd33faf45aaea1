use Rattle.std.proofs.Common.{sym, ap, ◌∙◌}
use Rattle.codes.specs.Table.{first_code}
use Rattle.codes.specs.Numbers.{code_number, kind_number}
use Rattle.packing.proofs.Choosing.{first_0, first_7, shortest_by}
use Rattle.packing.proofs.choice.choose.Goals as goal

pub returns-in-Application : goal.returns-in-Application
returns-in-Application c =
    let e = first_0 c.args.object.now ∙ ap (λ k. first_code k c.args.object.now) (sym (ap kind_number c.in-Application.is)) in
    record { value = e; least = shortest_by 0 (kind_number c.args.kind) c.args.object.now e }

pub returns-in-Compact : goal.returns-in-Compact
returns-in-Compact c =
    let e = c.choose_compact.ensures ∙ ap (λ k. first_code k c.args.object.now) (sym (ap kind_number c.in-Compact.is)) in
    record { value = e; least = shortest_by (code_number c.choose_compact.result) (kind_number c.args.kind) c.args.object.now e }

pub returns-in-Utf8 : goal.returns-in-Utf8
returns-in-Utf8 c =
    let e = first_7 c.args.object.now ∙ ap (λ k. first_code k c.args.object.now) (sym (ap kind_number c.in-Utf8.is)) in
    record { value = e; least = shortest_by 7 (kind_number c.args.kind) c.args.object.now e }
