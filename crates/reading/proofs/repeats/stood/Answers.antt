use Rattle.std.proofs.Common.{◌≡◌, take, ap, ◌∙◌}
use Rattle.std.specs.List.{list_any}
use Rattle.std.specs.Str.{bytes_eq}
use Rattle.std.proofs.lemmas.List.{take_min}
use Rattle.scan.specs.Views.{content_in}
use Rattle.reading.proofs.repeats.stood.Goals as goal

pub returns : goal.returns
returns c =
    let rs = c.args.sets.now in
    let front : take c.min.result rs ≡ take c.args.count rs = ap (λ n. take n rs) c.min.ensures ∙ take_min c.args.count rs in
    record { value = c.has_named.ensures ∙ (λ i. list_any (λ g. bytes_eq (content_in c.args.image.now g) (c.content.ensures.value i)) (front i)) }
