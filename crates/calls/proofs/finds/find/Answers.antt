use Rattle.std.proofs.Common.{◌+◌, ◌-◌, length, take, drop, is_some, ap, ◌∙◌}
use Rattle.std.proofs.lemmas.List.{take_rest}
use Rattle.std.proofs.lemmas.Option.{MatchOption-from_none}
use Rattle.calls.specs.Finds.{place_among}
use Rattle.calls.proofs.Naming.{place-is, hit-none, hit-some, hit_same}
use Rattle.calls.proofs.finds.find.Goals as goal

pub returns-in_err-index : goal.returns-in_err-index
returns-in_err-index c =
    let xs = c.args.image.now in
    let n = c.args.identifier.now in
    let rs = c.args.sets.now in
    let h = c.from_residual.ensures ∙ hit-none xs n rs (c.in_err-index.ensures.value ∙ place-is xs n rs) in
    record { value = h; found = λ e. h ∙ hit_same xs n rs e; cases = MatchOption-from_none c.from_residual.result _ c.from_residual.ensures }

pub returns : goal.returns
returns c =
    let xs = c.args.image.now in
    let n = c.args.identifier.now in
    let rs = c.args.sets.now in
    let i = c.in_ok-index.index in
    let again = c.is_some.ensures ∙ ap is_some (c.place-2.ensures.value ∙ place-is xs n (take (length rs - (i + 1)) (drop (i + 1) rs)) ∙ ap (place_among xs n) (take_rest rs (i + 1))) in
    let h = hit-some xs n rs i c.is_some.result (c.in_ok-index.ensures.value ∙ place-is xs n rs) again in
    record { value = h; found = λ e. h ∙ hit_same xs n rs e; cases = c.in_ok-index.ensures.cases }
