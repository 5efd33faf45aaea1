-- What is so of a set that a step shows.
use Rattle.std.proofs.Common.{◌≡◌, ℕ, List, ◌++◌, take, drop, Ok, sym, ap, ◌∙◌, arith}
use Rattle.std.specs.Int.Digits.{AllBelowBase}
use Rattle.sets.specs.Sets.{holds, size}
use Rattle.sets.specs.Sets as sets
use Rattle.sets.specs.Parsing.{tile, parse}
use Rattle.sets.specs.Scans.{next}
use Rattle.sets.specs.Objects.{unpacked}
use Rattle.sets.proofs.Spelled.{parts_stand}
use Rattle.sets.proofs.Least.{shows-least}
use Rattle.sets.proofs.Places.{set-within, set-alone}
use Rattle.scan.specs.declared.views.SetRecord.{SetRecord}
use Rattle.scan.specs.declared.views.SetView.{SetView}
use Rattle.scan.specs.Views.{set_of, recorded, Shown}
use Rattle.scan.proofs.Codes.{set_code}

pub shown : (xs : List ℕ) (at : ℕ) (v : SetView) (o : List ℕ) → tile (holds (set_of v)) ≡ parse (drop at xs) → v.place ≡ recorded at (set_of v) → unpacked v.place.code v.object.now ≡ Ok o → AllBelowBase 256 xs → Shown xs at v
shown xs at v o e place good under =
    let s : sets.Set = set_of v in
    let parts = parts_stand xs at s (sym e) in
    let within = set-within xs at s e in
    let seven = set_code (drop at xs) s (sym e) in
    let many : v.place.size ≡ size s = ap (λ (r : SetRecord). r.size) place in
    record {
      place = place;
      identifier = parts.name ∙ (λ i. take (sym place i).id_len (drop (sym place i).id_at xs));
      object = parts.object ∙ (λ i. take (sym place i).object_len (drop (sym place i).object_at xs));
      seven = seven;
      three = omega (arith, many, within.0);
      inside = omega (arith, many, within.1);
      alone = λ ys. ap (λ k. next unpacked (take k (drop at xs) ++ ys)) many ∙ set-alone unpacked xs at s o e good ys;
      least = λ x says. omega (arith, many, shows-least xs at s x under (omega (arith, seven)) (sym e) says);
    }
