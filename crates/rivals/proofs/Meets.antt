-- The format of sets meets the laws.
use Rattle.std.proofs.Common.{◌≡◌, ℕ, ◌+◌, ◌-◌, ◌/◌, ◌%◌, ◌<◌, ◌≤◌, Bool, true, false, cond, eqb, ltb, List, [], ◌∷◌, ◌++◌, length, take, drop, Ok, Err, Result, sym, refl, ap, ◌∙◌, subst, ⊎_elim, arith, length-append}
use Rattle.std.specs.Int.Digits.{AllBelowBase}
use Rattle.std.proofs.lemmas.List.{take_at, take-append-drop}
use Rattle.std.proofs.ByRecursion.{All-take, All-drop}
use Rattle.std.proofs.lemmas.Bool.{cases_Bool, cond-true, cond-false, cond_both, lt-ltb, ltb-true}
use Rattle.codes.specs.Table.{code, packed_code, unpacked_code, first_code}
use Rattle.codes.proofs.Choice.{none_shorter}
use Rattle.codes.specs.declared.fault.Fault.{Fault}
use Rattle.sets.specs.Sets.{content, Set, Tile, filler, holds, size, wide, long, object_at}
use Rattle.sets.specs.Parsing.{Flaw, plain, Step, end, tile, wrong, Read, got, bad, run, offset, identifier, size_of_object, body, told, parse}
use Rattle.sets.specs.Writing.{smallest}
use Rattle.sets.specs.Scans.{Unpack, examined, checked, next}
use Rattle.sets.specs.Objects.{unpacked, flawed}
use Rattle.sets.specs.Readings.{said}
use Rattle.sets.proofs.Parts.{then-parts}
use Rattle.sets.proofs.Fronts.{made, pad_on, object_on, length_on, name_on, front, floor}
use Rattle.sets.proofs.Spelled.{parts_stand}
use Rattle.sets.proofs.Repeats.{next-parse}
use Rattle.sets.proofs.Tilings.{next-front}
use Rattle.rivals.specs.Rooms.{least}
use Rattle.rivals.proofs.Format.{Format}

-- a set at the front of memory: what it is for codes
code_body : (p : ℕ) (bs rest : List ℕ) (s : Set) → body p bs ≡ got s rest → s.code ≡ p / 16 % 8
unfolding body
code_body p bs rest s h =
    let a = then-parts (offset p bs) (λ e r. name_on p e r) s rest h in
    let b = then-parts (identifier (p % 16) a.1) (λ n r. length_on p a.0 n r) s rest a.3 in
    let c = then-parts (size_of_object b.1) (λ k r. object_on p a.0 b.0 k r) s rest b.3 in
    let d = then-parts (run c.0 c.1) (λ o r. pad_on p a.0 b.0 o r) s rest c.3 in
    let e = then-parts (run (a.0 - 1) d.1) (λ pad r. got (made p a.0 b.0 d.0) r) s rest d.3 in
    let is : got (made p a.0 b.0 d.0) e.1 ≡ got s rest = e.3 in
    let same : made p a.0 b.0 d.0 ≡ s = cc in
    sym (ap (λ x. x.code) same)

code-told : (p : ℕ) (bs : List ℕ) (q : Read Set) → body p bs ≡ q → (s : Set) → told q ≡ tile (holds s) → s.code < 8
code-told p bs (got t rest) h s e =
    let same : t ≡ s = cc in
    omega (arith, code_body p bs rest t h, ap (λ x. x.code) same)
code-told p bs (bad n) h s e = let z : ◌≡◌ {A = ℕ} 0 1 = cc in absurd (omega arith)

code_cases : (p : ℕ) (bs : List ℕ) (s : Set) (f : Flaw) (a b c : Bool) → cond a end (cond b (tile filler) (cond c (wrong f) (told (body p bs)))) ≡ tile (holds s) → s.code < 8
code_cases p bs s f true b c e = let z : ◌≡◌ {A = ℕ} 0 1 = cc in absurd (omega arith)
code_cases p bs s f false true c e = let z : ◌≡◌ {A = ℕ} 0 1 = cc in absurd (omega arith)
code_cases p bs s f false false true e = let z : ◌≡◌ {A = ℕ} 0 1 = cc in absurd (omega arith)
code_cases p bs s f false false false e = code-told p bs (body p bs) refl s e

pub code-few : (xs : List ℕ) (s : Set) → parse xs ≡ tile (holds s) → s.code < 8
unfolding parse
code-few [] s e = let z : ◌≡◌ {A = ℕ} 0 1 = cc in absurd (omega arith)
code-few (p ∷ bs) s e = code_cases p bs s (plain 7) (eqb p 0) (eqb p 0x80) (eqb (p % 16) 0) e

-- its object unpacks
examined-object : (u : Unpack) (t : Set) (r : Result (List ℕ) Flaw) → u t.code t.object ≡ r → (s : Set) → examined t r ≡ tile (holds s) → (x : List ℕ) × (u s.code s.object ≡ Ok x)
examined-object u t (Ok x) h s e = let same : t ≡ s = cc in (x, subst (λ y. u y.code y.object ≡ Ok x) same h)
examined-object u t (Err f) h s e = let z : ◌≡◌ {A = ℕ} 0 1 = cc in absurd (omega arith)

checked-object : (u : Unpack) (st : Step) (s : Set) → checked u st ≡ tile (holds s) → (x : List ℕ) × (u s.code s.object ≡ Ok x)
checked-object u end s e = let z : ◌≡◌ {A = ℕ} 0 1 = cc in absurd (omega arith)
checked-object u (tile filler) s e = let z : ◌≡◌ {A = ℕ} 0 1 = cc in absurd (omega arith)
checked-object u (tile (holds t)) s e = examined-object u t (u t.code t.object) refl s e
checked-object u (wrong f) s e = let z : ◌≡◌ {A = ℕ} 0 1 = cc in absurd (omega arith)

pub next-object : (u : Unpack) (xs : List ℕ) (s : Set) → next u xs ≡ tile (holds s) → (x : List ℕ) × (u s.code s.object ≡ Ok x)
unfolding next
next-object u xs s e = checked-object u (parse xs) s e

pub flawed-ok : (r : Result (List ℕ) Fault) (x : List ℕ) → flawed r ≡ Ok x → r ≡ Ok x
flawed-ok (Ok y) x e = let same : y ≡ x = cc in ap Ok same
flawed-ok (Err f) x e = let z : ◌≡◌ {A = ℕ} 0 1 = cc in absurd (omega arith)

-- a tile depends on its own bytes only
pub own-tile : (u : Unpack) (l k : List ℕ) (t : Tile) → next u l ≡ tile t → take (wide t) l ≡ take (wide t) k → next u k ≡ tile t
own-tile u l k t e same =
    let f = next-front u l t e in
    let front : take (wide t) l ≡ f.0 = ap (take (wide t)) f.2 ∙ take_at f.0 f.1 (wide t) f.3.all in
    let cut : k ≡ f.0 ++ drop (wide t) k = sym (take-append-drop (wide t) k) ∙ ap (λ x. x ++ drop (wide t) k) (sym same ∙ front) in
    ap (next u) cut ∙ f.3.alone (drop (wide t) k)

pub tile-within : (u : Unpack) (l : List ℕ) (t : Tile) → next u l ≡ tile t → wide t ≤ length l
tile-within u l t e = let f = next-front u l t e in omega (arith, ap length f.2, length-append f.0 f.1, f.3.all)

-- no set is below the smallest form of what it says
long_mono : (a b : ℕ) → a ≤ b → long a + a ≤ long b + b
long_mono a b h =
    ⊎_elim (λ (t : ltb b 0x80 ≡ true). let few = ltb-true b 0x80 t in omega (arith, cond-true {A = ℕ} (ltb b 0x80) 1 2 t, cond-true {A = ℕ} (ltb a 0x80) 1 2 (lt-ltb a 0x80 (omega arith))))
    (λ (f : ltb b 0x80 ≡ false). omega (arith, cond-false {A = ℕ} (ltb b 0x80) 1 2 f, cond_both {A = ℕ} (ltb a 0x80) 1 2 (λ x. x ≤ 2) (λ _. omega arith) (λ _. omega arith)))
    (cases_Bool (ltb b 0x80))

object-under : (l : List ℕ) (s : Set) → AllBelowBase 256 l → parse l ≡ tile (holds s) → AllBelowBase 256 s.object
object-under l s small e =
    let p = parts_stand l 0 s e in
    subst (AllBelowBase 256) (sym p.object) (All-take (λ d. d < 256) (length s.object) (drop (object_at 0 s) l) (All-drop (λ d. d < 256) (object_at 0 s) l small))

floor_of : (l : List ℕ) (s : Set) (x : List ℕ) → AllBelowBase 256 l → parse l ≡ tile (holds s) → unpacked_code s.code s.object ≡ Ok x → let c = first_code (code s.code).kind x in size (smallest (content s.name) c (packed_code c x)) ≤ size s
floor_of l s x small e says =
    let some : 1 ≤ length s.object = (front l (holds s) e).1.1 in
    let few = none_shorter s.code s.object x (code-few l s e) (object-under l s small e) some says in
    omega (arith, floor l s e, long_mono (length (packed_code (first_code (code s.code).kind x) x)) (length s.object) few)

pub set-floor : (l : List ℕ) (s : Set) (b : Bool) → AllBelowBase 256 l → next unpacked l ≡ tile (holds s) → least (record { identifier = content s.name; kind = (code s.code).kind; object = said (unpacked s.code s.object); sealed = b }) ≤ size s
unfolding least
set-floor l s b small e =
    let o = next-object unpacked l s e in
    let x : List ℕ = o.0 in
    let says : unpacked_code s.code s.object ≡ Ok x = flawed-ok (unpacked_code s.code s.object) x o.1 in
    let is : x ≡ said (unpacked s.code s.object) = sym (ap said o.1) in
    subst (λ y. size (smallest (content s.name) (first_code (code s.code).kind y) (packed_code (first_code (code s.code).kind y) y)) ≤ size s) is (floor_of l s x small (next-parse unpacked l (holds s) e) says)

abbrev pub sets_format : Format
sets_format = record {
  parse = next unpacked;
  bytes = size;
  identifier = λ s. content s.name;
  kind = λ s. (code s.code).kind;
  object = λ s. said (unpacked s.code s.object);
  some = λ l s e. omega arith;
  within = λ l s e. tile-within unpacked l (holds s) e;
  one = λ l e. tile-within unpacked l filler e;
  own = λ l k s e same. own-tile unpacked l k (holds s) e same;
  own_filler = λ l k e same. own-tile unpacked l k filler e same;
  floor = set-floor;
}
