-- The record of a set, from where its parts begin.
use Rattle.std.proofs.Common.{◌≡◌, ℕ, ◌+◌, ◌-◌, ◌≤◌, length, sym, refl, ap, ◌∙◌, arith}
use Rattle.sets.specs.Sets.{Name, bare, byte, led, number, part, name_size, long, offset_size, name_at, object_at, size}
use Rattle.sets.specs.Sets as sets
use Rattle.sets.proofs.Fronts.{offset-pad}
use Rattle.scan.specs.declared.views.SetRecord.{SetRecord}
use Rattle.scan.specs.Views.{recorded}
use Rattle.scan.specs.Inner.{begin}

pub part-fits : (n : Name) → length (part n) ≤ name_size n
part-fits (bare n) = omega arith
part-fits (byte n) = omega arith
part-fits (led c) = omega arith

begin-is : (n : Name) (at e next : ℕ) → next ≡ at + 1 + offset_size e + name_size n → begin next n ≡ name_at at e n
begin-is (bare n) at e next h = refl
begin-is (byte n) at e next h = refl
begin-is (led c) at e next h = omega arith

pub record_is : (at : ℕ) (s : sets.Set) (a b from k w z y num : ℕ)
    → a ≡ at + 1 + offset_size s.extra → b ≡ a + name_size s.name → from ≡ b + long k → length s.object ≡ k → w ≡ s.extra - 1
    → num ≡ number s.name → z ≡ begin b s.name → y ≡ length (part s.name)
    → ◌≡◌ {A = SetRecord} (record { number = num; id_at = z; id_len = y; object_at = from; object_len = k; at = at; size = from + k + w - at; code = s.code }) (recorded at s)
record_is at s a b from k w z y num ha hb hf hk hw hn hz hy =
    let el : long (length s.object) ≡ long k = ap long hk in
    let where-z : z ≡ name_at at s.extra s.name = hz ∙ begin-is s.name at s.extra b (omega arith) in
    let where-o : from ≡ object_at at s = omega arith in
    let whole : from + k + w - at ≡ size s = omega (arith, offset-pad s.extra) in
    λ i. record { number = hn i; id_at = where-z i; id_len = hy i; object_at = where-o i; object_len = sym hk i; at = at; size = whole i; code = s.code }
