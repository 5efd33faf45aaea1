-- The codes of sets, and their numbers.
use Rattle.std.proofs.Common.{◌≡◌, ℕ, zero, suc, ◌-◌, ◌/◌, ◌%◌, ◌≤◌, Bool, true, false, cond, eqb, List, [], ◌∷◌, drop, sym, refl, ap, arith}
use Rattle.std.proofs.ByRecursion.{All-weaker}
use Rattle.codes.specs.Numbers.{code_number}
use Rattle.sets.specs.Sets.{Set, filler, holds}
use Rattle.sets.specs.Parsing.{end, tile, wrong, got, run, offset, identifier, size_of_object, body, told, parse}
use Rattle.sets.specs.Scans.{Found, next}
use Rattle.sets.specs.Objects.{unpacked}
use Rattle.sets.specs.Readings.{found}
use Rattle.sets.proofs.Parts.{then-parts}
use Rattle.sets.proofs.Fronts.{made, pad_on, object_on, length_on, name_on, told-parts}
use Rattle.sets.proofs.Repeats.{found-next, next-parse}
use Rattle.scan.specs.Views.{code_of}
use Rattle.scan.specs.Tables.{CodesTold}

pub code_number-of : (n : ℕ) → n ≤ 7 → code_number (code_of n) ≡ n
unfolding code_of
code_number-of zero h = refl
code_number-of (suc zero) h = refl
code_number-of (suc (suc zero)) h = refl
code_number-of (suc (suc (suc zero))) h = refl
code_number-of (suc (suc (suc (suc zero)))) h = refl
code_number-of (suc (suc (suc (suc (suc zero))))) h = refl
code_number-of (suc (suc (suc (suc (suc (suc zero)))))) h = refl
code_number-of (suc (suc (suc (suc (suc (suc (suc zero))))))) h = refl
code_number-of (suc (suc (suc (suc (suc (suc (suc (suc n)))))))) h = absurd (omega arith)

-- a set that stands has a code below 8, so that its record tells it
body-code : (p : ℕ) (xs rest : List ℕ) (s : Set) → body p xs ≡ got s rest → s.code ≡ p / 16 % 8
unfolding body
body-code p xs rest s h =
    let a = then-parts (offset p xs) (λ e r. name_on p e r) s rest h in
    let b = then-parts (identifier (p % 16) a.1) (λ n r. length_on p a.0 n r) s rest a.3 in
    let c = then-parts (size_of_object b.1) (λ k r. object_on p a.0 b.0 k r) s rest b.3 in
    let d = then-parts (run c.0 c.1) (λ o r. pad_on p a.0 b.0 o r) s rest c.3 in
    let e = then-parts (run (a.0 - 1) d.1) (λ pad r. got (made p a.0 b.0 d.0) r) s rest d.3 in
    let is : made p a.0 b.0 d.0 ≡ s = cc e.3 in
    sym (ap (λ (q : Set). q.code) is)

told-code : (p : ℕ) (bs : List ℕ) (s : Set) → told (body p bs) ≡ tile (holds s) → s.code ≤ 7
told-code p bs s e =
    let parts = told-parts (body p bs) s e in
    omega (arith, body-code p bs parts.0 s parts.1)

by_tests : (p : ℕ) (bs : List ℕ) (s : Set) (a b c : Bool) → cond a end (cond b (tile filler) (cond c (wrong (record { number = 7; group = 0 })) (told (body p bs)))) ≡ tile (holds s) → s.code ≤ 7
by_tests p bs s true b c e = absurd (let z : ◌≡◌ {A = ℕ} 0 1 = cc in omega arith)
by_tests p bs s false true c e = absurd (let z : ◌≡◌ {A = ℕ} 0 1 = cc in omega arith)
by_tests p bs s false false true e = absurd (let z : ◌≡◌ {A = ℕ} 0 1 = cc in omega arith)
by_tests p bs s false false false e = told-code p bs s e

pub set_code : (xs : List ℕ) (s : Set) → parse xs ≡ tile (holds s) → s.code ≤ 7
unfolding parse
set_code [] s e = absurd (let z : ◌≡◌ {A = ℕ} 0 1 = cc in omega arith)
set_code (p ∷ bs) s e = by_tests p bs s (eqb p 0) (eqb p 0x80) (eqb (p % 16) 0) e

pub found_code : (xs : List ℕ) → CodesTold xs
found_code xs =
    All-weaker (λ (f : Found). next unpacked (drop f.at xs) ≡ tile (holds f.set)) (λ (f : Found). code_number (code_of f.set.code) ≡ f.set.code)
    (λ f e. code_number-of f.set.code (set_code (drop f.at xs) f.set (next-parse unpacked (drop f.at xs) (holds f.set) e))) (found xs) (found-next xs)
