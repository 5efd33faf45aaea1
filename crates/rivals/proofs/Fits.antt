-- What a memory reads as can be held by sets again.
use Rattle.std.proofs.Common.{◌≡◌, ℕ, zero, suc, ◌+◌, ◌-◌, ◌*◌, ◌/◌, ◌%◌, ◌<◌, ◌≤◌, true, not, ◌&&◌, eqb, ltb, leb, List, [], ◌∷◌, map, length, take, drop, Ok, sym, ap, ◌∙◌, subst, arith, length-drop}
use Rattle.std.specs.List.{AllByRecursion}
use Rattle.std.proofs.lemmas.List.{length-take-le, length-map}
use Rattle.std.proofs.ByRecursion.{All-weaker, All-map}
use Rattle.std.proofs.lemmas.Bool.{cond_both, ne_eqb, eqb-false, lt-ltb, leb-true, and_from, and_parts, not_from_false}
use Rattle.std.specs.Int.Digits.{digits_of, number_from_digits}
use Rattle.std.proofs.lemmas.Int.Digits.{length-digits_of_step, length-digits_of-le}
use Rattle.codes.specs.Bits.{spread, groups, ends}
use Rattle.codes.proofs.BitLaws.{length-groups}
use Rattle.codes.proofs.Integers.{integer-says}
use Rattle.codes.proofs.Letters.{letters_say}
use Rattle.codes.specs.Table.{largest, decimal, letter, remaining, unpacked_letters, code, unpacked_code, first_code}
use Rattle.codes.proofs.Choice.{first-permitted, comes_back}
use Rattle.sets.specs.Sets.{Name, bare, byte, led, content, Set, holds}
use Rattle.sets.specs.Parsing.{tile, parse, arcs}
use Rattle.sets.specs.Writing.{shortest}
use Rattle.sets.specs.Laws.{Proper, Fitting}
use Rattle.sets.specs.Scans.{next, Found}
use Rattle.sets.specs.Objects.{unpacked, flawed}
use Rattle.sets.specs.Readings.{Memory, found, said, entry}
use Rattle.sets.proofs.Fronts.{front}
use Rattle.sets.proofs.Written.{smallest-back}
use Rattle.sets.proofs.Repeats.{next-parse, found-next}
use Rattle.rivals.specs.Rooms.{Fit, EntriesFit, FormSays, form}
use Rattle.rivals.proofs.Meets.{code-few, next-object, flawed-ok, tile-within}
use Rattle.rivals.proofs.Bridges.{faultless}

-- identifiers
one-arc : (n : ℕ) → n < 0x80 → arcs true (n ∷ []) ≡ true
unfolding arcs
one-arc n h = and_from (not (eqb n 0x80)) (ltb n 0x80) (not_from_false (eqb n 0x80) (ne_eqb n 0x80 (λ z. omega arith))) (lt-ltb n 0x80 h)

proper : (n : Name) → Fitting n → Proper (content n)
proper (bare n) f = record { some = omega arith; few = omega arith; whole = one-arc n (omega arith) }
proper (byte n) f = record { some = omega arith; few = omega arith; whole = one-arc n (omega arith) }
proper (led c) f = f

-- kinds
kind-few : (k : ℕ) → k < 8 → (code k).kind ≤ 2
kind-few zero h = omega arith
kind-few (suc zero) h = omega arith
kind-few (suc (suc zero)) h = omega arith
kind-few (suc (suc (suc zero))) h = omega arith
kind-few (suc (suc (suc (suc zero)))) h = omega arith
kind-few (suc (suc (suc (suc (suc zero))))) h = omega arith
kind-few (suc (suc (suc (suc (suc (suc zero)))))) h = omega arith
kind-few (suc (suc (suc (suc (suc (suc (suc zero))))))) h = omega arith
kind-few (suc (suc (suc (suc (suc (suc (suc (suc k)))))))) h = absurd (omega arith)

-- objects: bytes of which there are 1 to 1,024 say 1 to 2,048
abbrev Sized : List ℕ → Type 0
Sized x = (1 ≤ length x) × (length x ≤ 2048)

octets_sized : (bs x : List ℕ) → bs ≡ x → 1 ≤ length bs → length bs ≤ 1024 → Sized x
octets_sized bs x e some few = (omega (arith, ap length e), omega (arith, ap length e))

decimal_sized : (n : ℕ) → n ≤ largest → Sized (decimal n)
decimal_sized n low =
    cond_both (eqb n 0) (0x30 ∷ []) (map (λ d. 0x30 + d) (digits_of 10 n)) Sized (λ e. (omega arith, omega arith))
    (λ e.
    let long = length-map (digits_of 10 n) (λ d. 0x30 + d) in
    let above : 0 < n = omega (arith, eqb-false n 0 e) in
    (omega (arith, length-digits_of_step 10 n (omega arith) above), omega (arith, length-digits_of-le 10 19 n (omega arith) (omega arith))))

letters_sized : (w p lo hi : ℕ) → ((n : ℕ) → 1 ≤ n → (1 ≤ n * 8 / w) × (n * 8 / w ≤ n + n) × (w + n * 8 % w ≤ 7 → 2 ≤ n * 8 / w))
    → (bs x : List ℕ) → unpacked_letters w p lo hi bs ≡ Ok x → 1 ≤ length bs → length bs ≤ 1024 → Sized x
letters_sized w p lo hi counts bs x e some few =
    let says : x ≡ map (letter w lo) (remaining w p bs) = (letters_say w p lo hi bs x e).0 in
    let gs : List ℕ = groups w (length bs * 8 / w) (spread 8 bs) in
    let many : length (groups w (length bs * 8 / w) (spread 8 bs)) ≡ length bs * 8 / w = length-groups w (length bs * 8 / w) (spread 8 bs) in
    let c = counts (length bs) some in
    let low : 1 ≤ length bs * 8 / w = c.0 in
    let high : length bs * 8 / w ≤ length bs + length bs = c.1 in
    let sized : Sized (remaining w p bs) =
    cond_both (leb (w + length bs * 8 % w) 7 && ends p gs) (take (length gs - 1) gs) gs Sized
    (λ t.
    let two : 2 ≤ length bs * 8 / w = c.2 (leb-true (w + length bs * 8 % w) 7 (and_parts (leb (w + length bs * 8 % w) 7) (ends p gs) t).0) in
    let kept : length (take (length gs - 1) gs) ≡ length gs - 1 = length-take-le (length gs - 1) gs (omega arith) in
    (omega arith, omega arith))
    (λ f. (omega arith, omega arith)) in
    let long : length x ≡ length (remaining w p bs) = ap length says ∙ length-map (remaining w p bs) (letter w lo) in
    let one : 1 ≤ length (remaining w p bs) = sized.0 in
    let most : length (remaining w p bs) ≤ 2048 = sized.1 in
    (omega arith, omega arith)

object_sized : (k : ℕ) (bs x : List ℕ) → k < 8 → unpacked_code k bs ≡ Ok x → 1 ≤ length bs → length bs ≤ 1024 → Sized x
unfolding unpacked_code
object_sized zero bs x h e some few = let same : bs ≡ x = cc in octets_sized bs x same some few
object_sized (suc zero) bs x h e some few =
    let s = integer-says bs x e in
    subst Sized (sym s.2) (decimal_sized (number_from_digits 256 bs) s.1)
object_sized (suc (suc zero)) bs x h e some few = letters_sized 4 15 0x30 0x39 (λ n g. (omega arith, omega arith, λ l. omega arith)) bs x e some few
object_sized (suc (suc (suc zero))) bs x h e some few = letters_sized 5 0 0x41 0x5f (λ n g. (omega arith, omega arith, λ l. omega arith)) bs x e some few
object_sized (suc (suc (suc (suc zero)))) bs x h e some few = letters_sized 6 32 0x20 0x5f (λ n g. (omega arith, omega arith, λ l. omega arith)) bs x e some few
object_sized (suc (suc (suc (suc (suc zero))))) bs x h e some few = letters_sized 7 127 0x00 0x7e (λ n g. (omega arith, omega arith, λ l. omega arith)) bs x e some few
object_sized (suc (suc (suc (suc (suc (suc zero)))))) bs x h e some few = let same : bs ≡ x = cc in octets_sized bs x same some few
object_sized (suc (suc (suc (suc (suc (suc (suc zero))))))) bs x h e some few = let same : bs ≡ x = cc in octets_sized bs x same some few
object_sized (suc (suc (suc (suc (suc (suc (suc (suc k)))))))) bs x h e some few = absurd (omega arith)

-- each set of a memory
pub set-fits : (m : Memory) → length m.bytes ≤ 1024 → (f : Found) → next unpacked (drop f.at m.bytes) ≡ tile (holds f.set) → Fit (entry m f)
set-fits m small f e =
    let xs : List ℕ = drop f.at m.bytes in
    let s : Set = f.set in
    let is : parse xs ≡ tile (holds s) = next-parse unpacked xs (holds s) e in
    let sound = (front xs (holds s) is).1 in
    let low : s.code < 8 = code-few xs s is in
    let o = next-object unpacked xs s e in
    let some : 1 ≤ length s.object = sound.1 in
    let sized : Sized o.0 = object_sized s.code s.object o.0 low (flawed-ok (unpacked_code s.code s.object) o.0 o.1) some (omega (arith, tile-within unpacked xs (holds s) e, length-drop f.at m.bytes)) in
    let same : said (unpacked s.code s.object) ≡ o.0 = ap said o.1 in
    record {
      identifier = proper s.name sound.0;
      kind = kind-few s.code low;
      some = subst (λ x. 1 ≤ length x) (sym same) sized.0;
      few = subst (λ x. length x ≤ 2048) (sym same) sized.1;
    }

pub entries_fit : EntriesFit
entries_fit m r small e =
    let each = All-weaker (λ f. next unpacked (drop f.at m.bytes) ≡ tile (holds f.set)) (λ f. Fit (entry m f)) (λ f h. set-fits m small f h) (found m.bytes) (found-next m.bytes) in
    subst (AllByRecursion Fit) (faultless m r e).list (All-map Fit (entry m) (found m.bytes) each)

-- a form says its entry
pub form-says : FormSays
form-says e extra fit =
    let x : List ℕ = e.object in
    let first = first-permitted e.kind e.object fit.kind in
    let back : unpacked (form extra e).code (form extra e).object ≡ Ok e.object = ap flawed (comes_back (first_code e.kind e.object) e.object first.0 first.1) in
    let name : content (shortest e.identifier) ≡ e.identifier = (smallest-back e.identifier 0 (0 ∷ []) [] fit.identifier (omega arith) (omega arith) (omega arith)).1 in
    (back, (λ i. record { identifier = name i; kind = first.2 i; object = ap said back i; sealed = e.sealed }))
