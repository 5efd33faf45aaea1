use Rattle.std.proofs.Common.{length, take, Err, ap, ◌∙◌}
use Rattle.std.proofs.lemmas.Result.{err_from_is_err_and}
use Rattle.scan.specs.Faults.{scan_refusal}
use Rattle.reading.specs.Checks.{memory_of}
use Rattle.sets.proofs.Meaning.{meant}
use Rattle.reading.specs.Checks.{answered}
use Rattle.reading.proofs.Judging.{has-bytes, no_shape, clean, begins, strays, repeats, reads_on, fails, table_is}
use Rattle.scan.proofs.Codes.{found_code}
use Rattle.reading.proofs.Contents.{first_again-is}
use Rattle.reading.proofs.memories.Memory.check.Goals as goal

pub returns-in_default : goal.returns-in_default
returns-in_default c =
    let m = memory_of c.args.self in
    let old = c.args.table.now in
    let w = no_shape (length old) m old c.in_default.ensures.cases in
    record { value = w.0; after = w.1; codes = found_code m.bytes; meaning = meant m }

pub returns-in_err-tally : goal.returns-in_err-tally
returns-in_err-tally c =
    let m = memory_of c.args.self in
    let old = c.args.table.now in
    let some = has-bytes c.in-Some.blocks.memory c.args.self c.in-Some.ensures.cases c.in-Some.blocks.some in
    let f = c.in_err-tally.field-0.0 in
    let p = err_from_is_err_and c.from_residual.result c.from_residual.ensures.1 in
    record {
      value = ap answered (p.1 ∙ ap Err p.2) ∙ fails (length old) m some (scan_refusal f) c.in_err-tally.ensures.value;
      after = c.in_err-tally.ensures.after ∙ table_is (length old) m some old;
      codes = found_code m.bytes;
      meaning = meant m;
    }

pub returns-in-Some-stray_block : goal.returns-in-Some-stray_block
returns-in-Some-stray_block c =
    let m = memory_of c.args.self in
    let old = c.args.table.now in
    let some = has-bytes c.in-Some.blocks.memory c.args.self c.in-Some.ensures.cases c.in-Some.blocks.some in
    let t = c.in_ok-tally.tally in
    let k = c.in_ok-tally.ensures in
    record {
      value = strays (length old) m some t (clean (length old) c.args.self.image.now t k.value) c.in-Some-stray_block.block (rw c.in-Some.ensures.cases at c.in-Some-stray_block.ensures.value);
      after = k.after ∙ table_is (length old) m some old;
      codes = found_code m.bytes;
      meaning = meant m;
    }

pub returns-in-Some-first_repeat : goal.returns-in-Some-first_repeat
returns-in-Some-first_repeat c =
    let m = memory_of c.args.self in
    let old = c.args.table.now in
    let some = has-bytes c.in-Some.blocks.memory c.args.self c.in-Some.ensures.cases c.in-Some.blocks.some in
    let new = c.scan_image.new.table in
    let t = c.in_ok-tally.tally in
    let k = c.in_ok-tally.ensures in
    let found-all = clean (length old) m.bytes t k.value in
    record {
      value = repeats (length old) m some t found-all c.in-Some-first_repeat.at (rw c.in-Some.ensures.cases at c.in_default-stray_block.ensures.value) (c.in-Some-first_repeat.ensures.value ∙ first_again-is m.bytes (take t.sets new) (begins m.bytes old new t found-all k.after));
      after = k.after ∙ table_is (length old) m some old;
      codes = found_code m.bytes;
      meaning = meant m;
    }

pub returns : goal.returns
returns c =
    let m = memory_of c.args.self in
    let old = c.args.table.now in
    let some = has-bytes c.in-Some.blocks.memory c.args.self c.in-Some.ensures.cases c.in-Some.blocks.some in
    let new = c.scan_image.new.table in
    let t = c.in_ok-tally.tally in
    let k = c.in_ok-tally.ensures in
    let found-all = clean (length old) m.bytes t k.value in
    record {
      value = reads_on (length old) m some t found-all (rw c.in-Some.ensures.cases at c.in_default-stray_block.ensures.value) (c.in_default-first_repeat.ensures.value ∙ first_again-is m.bytes (take t.sets new) (begins m.bytes old new t found-all k.after));
      after = k.after ∙ table_is (length old) m some old;
      codes = found_code m.bytes;
      meaning = meant m;
    }
