use Rattle.std.proofs.Common.{◌≡◌, ℕ, ◌+◌, ◌-◌, ◌%◌, List, length, get_or, drop, Err, sym, ap, ◌∙◌, subst, arith, length-drop}
use Rattle.std.proofs.lemmas.Result.{err_from_is_err_and}
use Rattle.sets.specs.Sets.{offset_size, name_size, long}
use Rattle.sets.specs.Parsing.{told}
use Rattle.sets.proofs.Fronts.{made}
use Rattle.scan.specs.Views.{name_of}
use Rattle.scan.specs.Inner.{framed, Frames}
use Rattle.sets.proofs.Bodies.{body_on, body-bad, name-next, name-bad, length-bad, to-object}
use Rattle.scan.proofs.Partwise.{from-here, offset-left, name-left, length-left, run-many, object-read, object-missed, pad-read, pad-missed}
use Rattle.scan.proofs.Records.{part-fits, record_is}
use Rattle.scan.proofs.steps.read_set.Goals as goal

pub returns-in_err-extra : goal.returns-in_err-extra
returns-in_err-extra c =
    let xs = c.args.image.now in
    let p = err_from_is_err_and c.from_residual.result c.from_residual.ensures.1 in
    let e = p.1 ∙ ap Err p.2 in
    record {
      value = ap framed e ∙ ap told (sym (body-bad (get_or xs c.args.at 0) _ (drop (c.args.at + 1) xs) (from-here (get_or xs c.args.at 0) xs (c.args.at + 1) _ c.in_err-extra.ensures)));
      cases = subst (Frames c.args.at) (sym e) tt;
    }

pub returns-in_err-identifier : goal.returns-in_err-identifier
returns-in_err-identifier c =
    let xs = c.args.image.now in
    let first = get_or xs c.args.at 0 in
    let begins = from-here first xs (c.args.at + 1) _ c.in_ok-extra.ensures in
    let extra = c.in_ok-extra.extra in
    let a = c.offset.new.self.rest.now in
    let p = err_from_is_err_and c.from_residual-in_err-identifier.result c.from_residual-in_err-identifier.ensures.1 in
    let e = p.1 ∙ ap Err p.2 in
    record {
      value = ap framed e ∙ ap told (sym (body_on first extra (drop (c.args.at + 1) xs) a begins ∙ name-bad first extra _ a c.in_err-identifier.ensures));
      cases = subst (Frames c.args.at) (sym e) tt;
    }

pub returns-in_err-object_len : goal.returns-in_err-object_len
returns-in_err-object_len c =
    let xs = c.args.image.now in
    let first = get_or xs c.args.at 0 in
    let begins = from-here first xs (c.args.at + 1) _ c.in_ok-extra.ensures in
    let extra = c.in_ok-extra.extra in
    let n = name_of c.in_ok-identifier.identifier in
    let a = c.offset.new.self.rest.now in
    let b = c.identifier.new.self.rest.now in
    let p = err_from_is_err_and c.from_residual-in_err-object_len.result c.from_residual-in_err-object_len.ensures.1 in
    let e = p.1 ∙ ap Err p.2 in
    record {
      value =
          ap framed e ∙ ap told (sym (body_on first extra (drop (c.args.at + 1) xs) a begins ∙ name-next first extra n a b c.in_ok-identifier.ensures ∙ length-bad first extra n _ b c.in_err-object_len.ensures));
      cases = subst (Frames c.args.at) (sym e) tt;
    }

pub overflow_sub-object_at : goal.overflow_sub-object_at
overflow_sub-object_at c =
    let xs = c.args.image.now in
    let a = c.offset.new.self.rest.now in
    let b = c.identifier.new.self.rest.now in
    let first = get_or xs c.args.at 0 in
    let begins = from-here first xs (c.args.at + 1) _ c.in_ok-extra.ensures in
    omega (
      arith,
      length-drop (c.args.at + 1) xs,
      offset-left (drop (c.args.at + 1) xs) a first c.in_ok-extra.extra begins,
      name-left a b (first % 16) (name_of c.in_ok-identifier.identifier) c.requires.nibble c.in_ok-identifier.ensures,
      length-left b c.length.new.self.rest.now c.in_ok-object_len.object_len c.in_ok-object_len.ensures,
    )

pub returns-in_err-object : goal.returns-in_err-object
returns-in_err-object c =
    let xs = c.args.image.now in
    let first = get_or xs c.args.at 0 in
    let begins = from-here first xs (c.args.at + 1) _ c.in_ok-extra.ensures in
    let extra = c.in_ok-extra.extra in
    let n = name_of c.in_ok-identifier.identifier in
    let k = c.in_ok-object_len.object_len in
    let rest = c.length.new.self.rest.now in
    let p = err_from_is_err_and c.from_residual-in_err-object.result c.from_residual-in_err-object.ensures.1 in
    let e = p.1 ∙ ap Err p.2 in
    record {
      value =
          ap framed e ∙ ap told (sym (to-object first extra n k (drop (c.args.at + 1) xs) c.offset.new.self.rest.now c.identifier.new.self.rest.now rest begins c.in_ok-identifier.ensures c.in_ok-object_len.ensures ∙ object-missed first extra n k _ rest c.in_err-object.ensures));
      cases = subst (Frames c.args.at) (sym e) tt;
    }

pub returns-in_err-run : goal.returns-in_err-run
returns-in_err-run c =
    let xs = c.args.image.now in
    let first = get_or xs c.args.at 0 in
    let begins = from-here first xs (c.args.at + 1) _ c.in_ok-extra.ensures in
    let extra = c.in_ok-extra.extra in
    let n = name_of c.in_ok-identifier.identifier in
    let k = c.in_ok-object_len.object_len in
    let rest = c.length.new.self.rest.now in
    let behind = c.run.new.self.rest.now in
    let object = c.in_ok-object.object.now in
    let p = err_from_is_err_and c.from_residual-in_err-run.result c.from_residual-in_err-run.ensures.1 in
    let e = p.1 ∙ ap Err p.2 in
    record {
      value =
          ap framed e ∙ ap told (sym (to-object first extra n k (drop (c.args.at + 1) xs) c.offset.new.self.rest.now c.identifier.new.self.rest.now rest begins c.in_ok-identifier.ensures c.in_ok-object_len.ensures ∙ object-read first extra n k object rest behind c.in_ok-object.ensures ∙ pad-missed first extra n c.saturating_sub-pad.result _ object behind c.saturating_sub-pad.ensures c.in_err-run.ensures));
      cases = subst (Frames c.args.at) (sym e) tt;
    }

pub part_at-requires : goal.part_at-requires
part_at-requires c =
    let xs = c.args.image.now in
    let first = get_or xs c.args.at 0 in
    let begins = from-here first xs (c.args.at + 1) _ c.in_ok-extra.ensures in
    let a = c.offset.new.self.rest.now in
    let n = name_of c.in_ok-identifier.identifier in
    omega (
      arith,
      part-fits n,
      length-drop (c.args.at + 1) xs,
      offset-left (drop (c.args.at + 1) xs) a first c.in_ok-extra.extra begins,
      name-left a c.identifier.new.self.rest.now (first % 16) n c.requires.nibble c.in_ok-identifier.ensures,
    )

pub overflow_sub-place : goal.overflow_sub-place
overflow_sub-place c =
    let xs = c.args.image.now in
    let a = c.offset.new.self.rest.now in
    let b = c.identifier.new.self.rest.now in
    let first = get_or xs c.args.at 0 in
    let begins = from-here first xs (c.args.at + 1) _ c.in_ok-extra.ensures in
    omega (
      arith,
      length-drop (c.args.at + 1) xs,
      offset-left (drop (c.args.at + 1) xs) a first c.in_ok-extra.extra begins,
      name-left a b (first % 16) (name_of c.in_ok-identifier.identifier) c.requires.nibble c.in_ok-identifier.ensures,
      length-left b c.length.new.self.rest.now c.in_ok-object_len.object_len c.in_ok-object_len.ensures,
    )

pub returns : goal.returns
returns c =
    let xs = c.args.image.now in
    let at = c.args.at in
    let first = get_or xs at 0 in
    let begins = from-here first xs (at + 1) _ c.in_ok-extra.ensures in
    let e = c.in_ok-extra.extra in
    let n = name_of c.in_ok-identifier.identifier in
    let k = c.in_ok-object_len.object_len in
    let pad = c.saturating_sub-pad.result in
    let object = c.in_ok-object.object.now in
    let l : List ℕ = drop (at + 1) xs in
    let a = c.offset.new.self.rest.now in
    let b = c.identifier.new.self.rest.now in
    let rest = c.length.new.self.rest.now in
    let behind = c.run.new.self.rest.now in
    let hl : length l ≡ length xs - (at + 1) = length-drop (at + 1) xs in
    let ha : length l ≡ offset_size e + length a = offset-left l a first e begins in
    let hb : length a ≡ name_size n + length b = name-left a b (first % 16) n c.requires.nibble c.in_ok-identifier.ensures in
    let hf : length b ≡ long k + length rest = length-left b rest k c.in_ok-object_len.ensures in
    let many : length object ≡ k = run-many rest behind k object c.in_ok-object.ensures in
    record {
      value =
          sym (ap told (to-object first e n k l a b rest begins c.in_ok-identifier.ensures c.in_ok-object_len.ensures ∙ object-read first e n k object rest behind c.in_ok-object.ensures ∙ pad-read first e n pad object _ behind _ c.saturating_sub-pad.ensures c.in_ok-run.ensures));
      cases = (record_is at (made first e n object) (length xs - length a) (length xs - length b) (length xs - length rest) k pad _ _ _ (omega arith) (omega arith) (omega arith) many c.saturating_sub-pad.ensures c.number.ensures.value c.part_at.ensures.value c.len.ensures.value, omega arith);
    }
