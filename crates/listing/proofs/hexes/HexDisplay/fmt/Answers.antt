use Rattle.std.proofs.Common.{◌≡◌, ◌-◌, ◌^◌, ◌<◌, true, false, [], ◌∷◌, get_or, take, is_ok, Some, ap, ◌∙◌, arith}
use Rattle.std.specs.Fmt.{padded_integral, styled_digits_output, format_spec}
use Rattle.std.specs.Option.{option_map}
use Rattle.std.proofs.Output.{has_written_append, has_written_of_eq}
use Rattle.std.proofs.lemmas.Fmt.{hex_byte}
use Rattle.listing.specs.Lines.{hex}
use Rattle.listing.proofs.Hexing.{hex-more}
use Rattle.listing.proofs.hexes.HexDisplay.fmt.Goals as goal

pub loop-b-preserved : goal.loop-b-preserved
loop-b-preserved g c plain =
    let bs = c.args.self.now.0.now in
    let i = c.loop-b.b-index in
    let b = get_or bs i 0 in
    let small : b < 256 = omega arith in
    let text : styled_digits_output c.in_radix.result c.laid_out.result ≡ Some (hex (b ∷ [])) =
    ap (styled_digits_output c.in_radix.result) c.laid_out.ensures ∙ ap (option_map (padded_integral (format_spec 32 0 4 2 (2 ^ 64 - 1)) false [])) c.in_radix.ensures ∙ ap Some (hex_byte true b small) in
    let took = g.W.Write.write_str_gives in
    let x = c.loop-b.invariant plain in
    let y = let h = rw text at c.write.ensures.writes in h x.plain (ap is_ok c.in_ok-write.was) in
    has_written_of_eq took _ _ _ _ (hex-more bs i c.loop-b-test.true) (has_written_append took _ (hex (take i bs)) c.loop-b.f (hex (b ∷ [])) _ x y)
