use Rattle.std.proofs.Common.{◌≡◌, ◌<◌, true, is_ok, sym, ap, ◌∙◌, arith, rules}
use Rattle.std.proofs.lemmas.Bool.{cond-true}
use Rattle.tags.specs.Dumps.{dump_means}
use Rattle.tables.specs.Tables.{under}
use Rattle.tables.proofs.Under.{under_few, under_refused, under_write}
use Rattle.rehearsal.proofs.RehearsalDriver.write.Goals as goal

pub returns-then-is_locked : goal.returns-then-is_locked
returns-then-is_locked c =
    let s = c.args.self.now in
    let t = dump_means s.dump in
    let v = c.shape.ensures.value in
    let p = c.in_ok-check_buffer.ensures.cases in
    let w = under_refused t s.table s.system s.room c.args.k (omega (arith, p.0, v.0)) c.args.from.now (p.1 ∙ v.1) (sym c.if-is_locked.ensures.value) in
    record { answer = w.0; after = w.1 }

pub returns : goal.returns
returns c =
    let s = c.args.self.now in
    let k = c.args.k in
    let t = dump_means s.dump in
    let v = c.shape.ensures.value in
    let p = c.in_ok-check_buffer.ensures.cases in
    let below : k < t.count = omega (arith, p.0, v.0) in
    let few = under_few t s.table s.system s.room k below in
    let put : is_ok c.put.result ≡ true = search rules in
    let w = under_write t s.table s.system s.room k below c.args.from.now (p.1 ∙ v.1) (sym c.if-is_locked.ensures.value) (omega (arith, few, c.put.ensures.shape.rows)) in
    record { answer = w.0; after = ap (λ u. under t u s.system) (c.put.ensures.after ∙ cond-true _ _ _ put) ∙ w.1 }
