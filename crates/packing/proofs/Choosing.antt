-- The first permitted code, as tests find it; and the laws of the table, of what was chosen and packed.
use Rattle.std.proofs.Common.{◌≡◌, ℕ, ◌<◌, ◌≤◌, Bool, true, false, cond, List, [], ◌∷◌, length, take, drop, Ok, Err, Result, sym, refl, ap, ◌∙◌, arith}
use Rattle.std.specs.Prelude.{Some, None, find, unwrap_or}
use mathlib.Core.Path.{transport}
use Rattle.std.specs.Int.Digits.{AllBelowBase}
use Rattle.std.proofs.lemmas.Bool.{true≢false}
use Rattle.std.proofs.lemmas.List.{take_at}
use Rattle.codes.specs.declared.kind.Kind.{Kind}
use Rattle.codes.specs.declared.kind.Kind.TheVariants.{Application, Compact, Utf8}
use Rattle.codes.specs.declared.kind.Compaction.{Compaction}
use Rattle.codes.specs.declared.kind.Compaction.TheVariants.{ApplicationDefined, Integer, Numeric, FiveBit, SixBit, SevenBit, OctetString, Utf8String}
use Rattle.codes.specs.Table.{code, permitted, packed_code, unpacked_code, first_code}
use Rattle.codes.specs.Numbers.{kind_number, code_number}
use Rattle.codes.specs.declared.fault.Fault.{Fault}
use Rattle.codes.proofs.Faults.{faults_told}
use Rattle.codes.proofs.Choice.{comes_back, first-permitted, first-shortest, none_shorter}
use Rattle.packing.specs.declared.choice.PackFault.{PackFault}
use Rattle.packing.specs.declared.choice.PackFault.TheVariants.{Size, NotPermitted, TooShort}
use Rattle.packing.specs.Packing.{Declined, Packs, Plans, ComesBack, Shortest, Measured, Tells}

-- kinds 0 and 2 have one code each
pub first_0 : (x : List ℕ) → 0 ≡ first_code 0 x
unfolding permitted first_code
first_0 x = refl

pub first_7 : (x : List ℕ) → 7 ≡ first_code 2 x
unfolding permitted first_code
first_7 x = refl

-- the codes that are tried, in the order of the table
by-tests : (a b c d e : Bool) → code_number (unwrap_or (cond a (Some Integer) (cond b (Some Numeric) (cond c (Some FiveBit) (cond d (Some SixBit) (cond e (Some SevenBit) None))))) OctetString) ≡ cond a 1 (cond b 2 (cond c 3 (cond d 4 (cond e 5 6))))
by-tests true b c d e = refl
by-tests false true c d e = refl
by-tests false false true d e = refl
by-tests false false false true e = refl
by-tests false false false false true = refl
by-tests false false false false false = refl

pub first_tried : (x : List ℕ) → code_number (unwrap_or (find (λ c. permitted (code_number c) x) (Integer ∷ Numeric ∷ FiveBit ∷ SixBit ∷ SevenBit ∷ [])) OctetString) ≡ first_code 1 x
unfolding permitted first_code
first_tried x = by-tests (permitted 1 x) (permitted 2 x) (permitted 3 x) (permitted 4 x) (permitted 5 x)

-- no permitted code packs shorter, what is packed comes back, and no bytes that say it are fewer
pub shortest_by : (c kind : ℕ) (x : List ℕ) → c ≡ first_code kind x → Shortest c kind x
shortest_by c kind x e k low is h = transport (λ j. length (packed_code ((ap (λ i. first_code i x) is ∙ sym e) j) x) ≤ length (packed_code k x)) (first-shortest k x low h)

pub packs_back : (k : ℕ) (x old new : List ℕ) (r : Result ℕ PackFault) → k < 8 → Packs k x old new r → ComesBack k x new r
packs_back k x old new (Ok n) low h = ap (unpacked_code k) (ap (take n) h.2.1 ∙ take_at (packed_code k x) (drop n old) n (sym h.2.0)) ∙ comes_back k x low h.1
packs_back k x old new (Err f) low h = tt

pub none_by : (kind n : ℕ) (x : List ℕ) → n ≡ length (packed_code (first_code kind x) x) → (k : ℕ) (bs : List ℕ) → k < 8 → (code k).kind ≡ kind → AllBelowBase 256 bs → 0 < length bs → unpacked_code k bs ≡ Ok x → n ≤ length bs
none_by kind n x e k bs low is under some says = transport (λ j. (ap (λ i. length (packed_code (first_code i x) x)) is ∙ sym e) j ≤ length bs) (none_shorter k bs x low under some says)

pub below-eight : (c : Compaction) → code_number c < 8
below-eight ApplicationDefined = omega arith
below-eight Integer = omega arith
below-eight Numeric = omega arith
below-eight FiveBit = omega arith
below-eight SixBit = omega arith
below-eight SevenBit = omega arith
below-eight OctetString = omega arith
below-eight Utf8String = omega arith

pub told_by : (k : ℕ) (bs : List ℕ) (r : Result ℕ Fault) → Measured (unpacked_code k bs) r → Tells k bs r
told_by k bs (Ok n) h = tt
told_by k bs (Err f) h = faults_told k bs f h

pub kind-below : (kind : Kind) → kind_number kind ≤ 2
kind-below Application = omega arith
kind-below Compact = omega arith
kind-below Utf8 = omega arith

pub permitted_by : (kind : Kind) (x : List ℕ) (k : ℕ) → k ≡ first_code (kind_number kind) x → permitted k x ≡ true
permitted_by kind x k e = ap (λ k. permitted k x) e ∙ (first-permitted (kind_number kind) x (kind-below kind)).1

-- no plan is made of an object only where its size is at fault
pub declined_plans : (kind : Kind) (x : List ℕ) (k : ℕ) (f : PackFault) → k ≡ first_code (kind_number kind) x → Declined k x f → Plans (kind_number kind) x (Err f)
declined_plans kind x k Size e h = h
declined_plans kind x k NotPermitted e h = true≢false (sym (permitted_by kind x k e) ∙ h.1)
declined_plans kind x k (TooShort n) e h = h
