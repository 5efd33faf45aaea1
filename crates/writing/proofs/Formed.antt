-- Forms of sets: what their parts come to.
use Rattle.std.proofs.Common.{◌≡◌, ℕ, ◌+◌, ◌≤◌, List, ◌++◌, length, drop, Ok, Err, Result, IsOk, sym, refl, ap, ◌∙◌, subst, append-nil, arith}
use Rattle.std.proofs.lemmas.List.{drop_all}
use Rattle.std.proofs.lemmas.Bool.{both_ways}
use Rattle.codes.specs.declared.kind.Kind.{Kind}
use Rattle.codes.specs.declared.kind.Kind.TheVariants.{Application, Compact, Utf8}
use Rattle.codes.specs.Table.{permitted, packed_code, first_code}
use Rattle.codes.specs.Numbers.{kind_number}
use Rattle.codes.proofs.Choice.{first-permitted, first-shortest, packed-some}
use Rattle.packing.proofs.Choosing.{kind-below, permitted_by}
use Rattle.packing.specs.declared.choice.Packed.{Packed}
use Rattle.packing.specs.declared.choice.PackFault.{PackFault}
use Rattle.packing.specs.declared.choice.PackFault.TheVariants.{Size, NotPermitted, TooShort}
use Rattle.packing.specs.Packing.{Sized, Stored, PacksFirst}
use Rattle.sets.specs.Sets.{Set, size}
use Rattle.sets.specs.Writing.{encode}
use Rattle.sets.specs.Laws.{Fitting, Writable}
use Rattle.sets.proofs.Written.{shortest-fits, encoded_size}
use Rattle.scan.specs.Views.{name_of}
use Rattle.writing.specs.declared.forms.Form.{Form}
use Rattle.writing.specs.declared.items.Item.{Item}
use Rattle.writing.specs.Forms.{Wanted, wanted, Fit, formed, Writes}
use Rattle.writing.specs.Puts.{Puts}

-- the first permitted code packs no longer than plain bytes
pub packed-most : (kind : Kind) (x : List ℕ) → length (packed_code (first_code (kind_number kind) x) x) ≤ length x
unfolding permitted packed_code first_code
packed-most Application x = omega arith
packed-most Compact x = first-shortest 6 x (omega arith) refl
packed-most Utf8 x = omega arith

-- packing into the bytes that were planned is not refused
pub never_refused : (kind : Kind) (x old new : List ℕ) (r : Result Packed PackFault) → Sized x → length (packed_code (first_code (kind_number kind) x) x) ≤ length old → PacksFirst (kind_number kind) x old new r → IsOk r
never_refused kind x old new (Ok p) s room h = refl
never_refused kind x old new (Err Size) s room h = absurd (h.0 s)
never_refused kind x old new (Err NotPermitted) s room h = absurd (both_ways _ h.1 (permitted_by kind x (first_code (kind_number kind) x) refl))
never_refused kind x old new (Err (TooShort n)) s room h = absurd (omega (arith, h.2.0, h.2.1))

-- and fills them
pub fills : (bytes old new : List ℕ) (n : ℕ) → Stored bytes old new n → length old ≤ length bytes → new ≡ bytes
fills bytes old new n h room = h.1 ∙ ap (λ l. bytes ++ l) (drop_all n old (omega (arith, h.0))) ∙ append-nil bytes

-- the parts of a form are small
pub name_fits : (f : Form) → Fitting (name_of f.name)
name_fits f = subst Fitting (sym f.spelled) (shortest-fits f.item.identifier.now f.fit.identifier).0

pub object_few : (f : Form) → f.packed.length ≤ 2048
object_few f = omega (arith, f.planned.long, packed-most f.item.kind f.item.object.now, f.fit.object)

-- a form can be written, and reads as what was written
pub form_writable : (extra : ℕ) (w : Wanted) → Fit w → extra ≤ 256 → Writable (formed extra w)
form_writable extra w fit few =
    let first = first-permitted (kind_number w.kind) w.object (kind-below w.kind) in
    record {
      extra = few;
      name = (shortest-fits w.identifier fit.identifier).0;
      code = omega (arith, first.0);
      some = packed-some (first_code (kind_number w.kind) w.object) w.object first.0 first.1 fit.object.0;
      few = omega (arith, packed-most w.kind w.object, fit.object.1);
    }

-- a form that was put at the front
pub put_front : (s : Set) (old new : List ℕ) (n : ℕ) → Writable s → Puts 0 (encode s) old new n → (n ≡ size s) × (new ≡ encode s ++ drop n old)
put_front s old new n w p =
    let zero_more : 0 + length (encode s) ≡ length (encode s) = omega arith in
    (p.ends ∙ zero_more ∙ encoded_size s w, p.after ∙ ap (λ k. encode s ++ drop k old) (sym p.ends))

pub put_form : (f : Form) (extra : ℕ) (i : Item) (old new : List ℕ) (n : ℕ) → f.extra ≡ extra → f.item ≡ i → Puts 0 (encode (formed f.extra (wanted f.item))) old new n → Writes extra (wanted i) old new (Ok n)
put_form f extra i old new n e g p =
    let there = put_front (formed f.extra (wanted f.item)) old new n (form_writable f.extra (wanted f.item) f.fit f.few) p in
    subst (λ x. Writes x (wanted i) old new (Ok n)) e (subst (λ j. Writes f.extra (wanted j) old new (Ok n)) g (f.fit, f.few, there.0, there.1))
