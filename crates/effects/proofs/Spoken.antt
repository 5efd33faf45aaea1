-- What bytes say is of bytes.
use Rattle.std.proofs.Common.{◌≡◌, ℕ, zero, suc, ◌+◌, ◌<◌, ◌≤◌, eqb, List, [], ◌∷◌, map, length, take, drop, Ok, sym, ap, subst, arith}
use Rattle.std.specs.Int.Digits.{AllBelowBase, digits_of, number_from_digits}
use Rattle.std.proofs.lemmas.Int.Digits.{all_below_base_digits_of}
use Rattle.std.proofs.ByRecursion.{All-weaker, All-map, All-take, All-drop}
use Rattle.std.proofs.lemmas.Bool.{cond_both}
use Rattle.codes.specs.Table.{decimal, unpacked_letters, unpacked_code}
use Rattle.codes.proofs.Integers.{integer-says}
use Rattle.codes.proofs.Letters.{all-within, letters_say}
use Rattle.sets.specs.Sets.{Name, bare, byte, led, content, part, Set, holds, object_at, name_at}
use Rattle.sets.specs.Parsing.{tile, parse}
use Rattle.sets.specs.Laws.{Fitting}
use Rattle.sets.specs.Objects.{unpacked}
use Rattle.sets.specs.Scans.{next, Found}
use Rattle.sets.specs.Readings.{Memory, Entry, said, entry}
use Rattle.sets.proofs.Fronts.{front}
use Rattle.sets.proofs.Repeats.{next-parse}
use Rattle.sets.proofs.Spelled.{parts_stand}
use Rattle.rivals.proofs.Meets.{code-few, next-object, flawed-ok}

abbrev Byte : ℕ → Type 0
Byte d = d < 256

-- objects
decimal-under : (n : ℕ) → AllBelowBase 256 (decimal n)
decimal-under n =
    cond_both (eqb n 0) (0x30 ∷ []) (map (λ d. 0x30 + d) (digits_of 10 n)) (AllBelowBase 256) (λ e. (omega arith, tt))
    (λ e. All-map Byte (λ d. 0x30 + d) (digits_of 10 n) (All-weaker (λ d. d < 10) (λ d. 0x30 + d < 256) (λ d h. omega arith) (digits_of 10 n) (all_below_base_digits_of 10 n (omega arith))))

letters-under : (w p lo hi : ℕ) (bs x : List ℕ) → hi < 256 → unpacked_letters w p lo hi bs ≡ Ok x → AllBelowBase 256 x
letters-under w p lo hi bs x top e = All-weaker (λ b. (lo ≤ b) × (b ≤ hi)) Byte (λ b h. omega (arith, h.1)) x (all-within lo hi x (letters_say w p lo hi bs x e).1)

object-under : (k : ℕ) (bs x : List ℕ) → k < 8 → unpacked_code k bs ≡ Ok x → AllBelowBase 256 bs → AllBelowBase 256 x
unfolding unpacked_code
object-under zero bs x h e u = let same : bs ≡ x = cc in subst (AllBelowBase 256) same u
object-under (suc zero) bs x h e u = subst (AllBelowBase 256) (sym (integer-says bs x e).2) (decimal-under (number_from_digits 256 bs))
object-under (suc (suc zero)) bs x h e u = letters-under 4 15 0x30 0x39 bs x (omega arith) e
object-under (suc (suc (suc zero))) bs x h e u = letters-under 5 0 0x41 0x5f bs x (omega arith) e
object-under (suc (suc (suc (suc zero)))) bs x h e u = letters-under 6 32 0x20 0x5f bs x (omega arith) e
object-under (suc (suc (suc (suc (suc zero))))) bs x h e u = letters-under 7 127 0x00 0x7e bs x (omega arith) e
object-under (suc (suc (suc (suc (suc (suc zero)))))) bs x h e u = let same : bs ≡ x = cc in subst (AllBelowBase 256) same u
object-under (suc (suc (suc (suc (suc (suc (suc zero))))))) bs x h e u = let same : bs ≡ x = cc in subst (AllBelowBase 256) same u
object-under (suc (suc (suc (suc (suc (suc (suc (suc k)))))))) bs x h e u = absurd (omega arith)

-- identifiers
name-under : (n : Name) → Fitting n → AllBelowBase 256 (part n) → AllBelowBase 256 (content n)
name-under (bare n) f u = (omega arith, tt)
name-under (byte n) f u = (omega arith, tt)
name-under (led c) f u = u

-- sets
abbrev pub OfBytes : Entry → Type 0
OfBytes e = AllBelowBase 256 e.identifier × AllBelowBase 256 e.object

pub set-under : (m : Memory) → AllBelowBase 256 m.bytes → (f : Found) → next unpacked (drop f.at m.bytes) ≡ tile (holds f.set) → OfBytes (entry m f)
set-under m small f e =
    let xs : List ℕ = drop f.at m.bytes in
    let s : Set = f.set in
    let is : parse xs ≡ tile (holds s) = next-parse unpacked xs (holds s) e in
    let stands = parts_stand m.bytes f.at s is in
    let piece : (n a : ℕ) → AllBelowBase 256 (take n (drop a m.bytes)) = λ n a. All-take Byte n (drop a m.bytes) (All-drop Byte a m.bytes small) in
    let name : AllBelowBase 256 (part s.name) = subst (AllBelowBase 256) (sym stands.name) (piece (length (part s.name)) (name_at f.at s.extra s.name)) in
    let object : AllBelowBase 256 s.object = subst (AllBelowBase 256) (sym stands.object) (piece (length s.object) (object_at f.at s)) in
    let o = next-object unpacked xs s e in (
      name-under s.name (front xs (holds s) is).1.0 name,
      subst (AllBelowBase 256) (sym (ap said o.1)) (object-under s.code s.object o.0 (code-few xs s is) (flawed-ok (unpacked_code s.code s.object) o.0 o.1) object),
    )
