use Rattle.std.proofs.Common.{rules, ◌≡◌, take, drop, Ok, sym, refl, ap, ◌∙◌, subst, arith}
use Rattle.codes.specs.Numbers.{code_number}
use Rattle.codes.specs.Table.{unpacked_code}
use Rattle.packing.specs.Packing.{Unpacks}
use Rattle.sets.specs.Sets.{holds}
use Rattle.sets.specs.Parsing.{tile}
use Rattle.sets.specs.Scans.{next}
use Rattle.sets.specs.Objects.{unpacked}
use Rattle.scan.specs.Views.{set_of, told, Shows}
use Rattle.reading.specs.Checks.{memory_of}
use Rattle.reading.proofs.Entering.{was_ok, was_err, no_entry, object-is, sealed-is}
use Rattle.reading.proofs.memories.Memory.entry_at.Goals as goal

pub unwrap-code-requires : goal.unwrap-code-requires
unwrap-code-requires c =
    let was = was_ok c.step.result c.ok.result c.in_ok-set.field-0 c.ok.ensures.value c.in_ok-set.was ∙ ap Ok c.in-Set.is in
    let shown = subst (Shows c.args.self.image.now c.args.at) was c.step.ensures.cases in
    let seven = shown.seven in search rules

pub returns-in_err-long : goal.returns-in_err-long
returns-in_err-long c =
    let xs = c.args.self.image.now in
    let v = c.in-Set.set in
    let was = was_ok c.step.result c.ok.result c.in_ok-set.field-0 c.ok.ensures.value c.in_ok-set.was ∙ ap Ok c.in-Set.is in
    let stands : tile (holds (set_of v)) ≡ next unpacked (drop c.args.at xs) = ap told (sym was) ∙ c.step.ensures.value in
    let same : code_number c.unwrap-code.result ≡ v.place.code = rw c.unwrap-code.ensures at c.try_from.ensures in
    let u = subst (λ k. Unpacks (unpacked_code k v.object.now) c.args.scratch.now c.unpack.new.out c.unpack.result) same c.unpack.ensures in
    let w = was_err c.unpack.result c.ok-2.result c.ok-2.ensures.value c.in_err-long.was in
    record {
      cases = rw c.from_residual-in_err-long.ensures (no_entry c.args.self.size xs c.args.at v stands c.args.scratch.now c.unpack.new.out w.0 (rw w.1 at u));
    }

pub returns : goal.returns
returns c =
    let xs = c.args.self.image.now in
    let at = c.args.at in
    let v = c.in-Set.set in
    let was = was_ok c.step.result c.ok.result c.in_ok-set.field-0 c.ok.ensures.value c.in_ok-set.was ∙ ap Ok c.in-Set.is in
    let stands : tile (holds (set_of v)) ≡ next unpacked (drop at xs) = ap told (sym was) ∙ c.step.ensures.value in
    let shown = subst (Shows xs at) was c.step.ensures.cases in
    let same : code_number c.unwrap-code.result ≡ v.place.code = rw c.unwrap-code.ensures at c.try_from.ensures in
    let u = subst (λ k. Unpacks (unpacked_code k v.object.now) c.args.scratch.now c.unpack.new.out c.unpack.result) same c.unpack.ensures in
    let long = was_ok c.unpack.result c.ok-2.result c.in_ok-long.long c.ok-2.ensures.value c.in_ok-long.was in
    record {
      cases = (
        set_of v,
        record {
          stands = sym stands;
          place = shown.place;
          code = refl;
          identifier = refl;
          object = ap (λ n. take n c.unpack.new.out) (omega arith) ∙ object-is c.args.self.size xs at v stands c.args.scratch.now c.unpack.new.out c.in_ok-long.long (rw long at u);
          sealed = rw c.in_ok-blocks.ensures.cases at c.is_sealed.ensures.value ∙ sealed-is (memory_of c.args.self) at (set_of v) v.place shown.place;
        },
      );
    }
