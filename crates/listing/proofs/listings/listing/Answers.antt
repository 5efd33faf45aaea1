use Rattle.std.proofs.Common.{◌≡◌, ◌-◌, length, string_bytes, ap, ◌∙◌}
use Rattle.tags.specs.Tags.{Tag}
use Rattle.listing.specs.Listings.{content_of}
use Rattle.listing.specs.Verdicts.{verdict}
use Rattle.listing.proofs.Passing.{framed}
use Rattle.listing.proofs.listings.listing.Goals as goal

pub returns : goal.returns
returns c =
    let xs = c.args.bytes.now in
    let h = c.in-Ok.ensures.read in
    let all : length c.content-total.result.now ≡ length (content_of xs) = ap length (c.content-total.ensures.value ∙ h.content) in
    record {
      made = framed string_bytes c.format-2.result xs (verdict 341 xs) c.in-Ok.passed.tally c.shape-shape.result.count c.shape-shape.result.size c.system.result c.saturating_sub.result (length c.content-total.result.now) (string_bytes c.in_ok-sets.sets) c.format-2.ensures.ok c.in-Ok.ensures.value (c.shape-shape.ensures.value.0 ∙ ap (λ (t : Tag). t.count) h.means) (c.shape-shape.ensures.value.1 ∙ ap (λ (t : Tag). t.size) h.means) (c.system.ensures.value ∙ ap (λ (t : Tag). t.system) h.means) (c.saturating_sub.ensures ∙ ap (λ k. k - c.in-Ok.passed.tally.free) all) all;
    }
