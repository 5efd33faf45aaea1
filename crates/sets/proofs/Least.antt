-- No set is shorter than the smallest form of what it shows, whatever its code.
use Rattle.std.proofs.Common.{◌≡◌, ℕ, ◌<◌, ◌≤◌, ltb, List, length, drop, Ok, Err, Result, sym, ap, subst, ⊎_elim, arith}
use Rattle.std.specs.Int.Digits.{AllBelowBase}
use Rattle.std.proofs.ByRecursion.{All-take, All-drop}
use Rattle.std.proofs.lemmas.Bool.{cases_lt, lt-ltb, le-ltb, cond-true, cond-false}
use Rattle.codes.specs.declared.fault.Fault.{Fault}
use Rattle.codes.specs.Table.{code, packed_code, unpacked_code, first_code}
use Rattle.codes.proofs.Choice.{none_shorter}
use Rattle.sets.specs.Sets.{holds, long, object_at}
use Rattle.sets.specs.Objects.{flawed}
use Rattle.sets.specs.Laws.{ShowsLeast}
use Rattle.sets.proofs.Fronts.{front, floor}
use Rattle.sets.proofs.Spelled.{parts_stand}

long-one : (n : ℕ) → n < 0x80 → long n ≡ 1
long-one n h = cond-true (ltb n 0x80) 1 2 (lt-ltb n 0x80 h)

long_two : (n : ℕ) → 0x80 ≤ n → long n ≡ 2
long_two n h = cond-false (ltb n 0x80) 1 2 (le-ltb n 0x80 h)

long_up : (m n : ℕ) → m ≤ n → long m ≤ long n
long_up m n h =
    ⊎_elim
    (λ a. ⊎_elim (λ b. omega (arith, long-one m a, long-one n b)) (λ b. omega (arith, long-one m a, long_two n b)) (cases_lt n 0x80))
    (λ a. omega (arith, long_two m a, long_two n (omega arith)))
    (cases_lt m 0x80)

says : (r : Result (List ℕ) Fault) (x : List ℕ) → flawed r ≡ Ok x → r ≡ Ok x
says (Ok y) x e = let is : y ≡ x = cc in ap Ok is
says (Err f) x e = let z : ◌≡◌ {A = ℕ} 0 1 = cc in absurd (omega arith)

pub shows-least : ShowsLeast
shows-least xs at s x under low e good =
    let sound = (front (drop at xs) (holds s) e).1 in
    let bytes : AllBelowBase 256 s.object =
    subst (AllBelowBase 256) (sym (parts_stand xs at s e).object) (All-take (λ b. b < 256) (length s.object) (drop (object_at at s) xs) (All-drop (λ b. b < 256) (object_at at s) xs under)) in
    let fewer : length (packed_code (first_code (code s.code).kind x) x) ≤ length s.object =
    none_shorter s.code s.object x low bytes (omega (arith, sound.1)) (says (unpacked_code s.code s.object) x good) in
    omega (arith, floor (drop at xs) s e, fewer, long_up (length (packed_code (first_code (code s.code).kind x) x)) (length s.object) fewer)
