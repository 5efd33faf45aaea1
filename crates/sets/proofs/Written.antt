-- What is written is read.
use Rattle.std.proofs.Common.{◌≡◌, ℕ, zero, suc, ◌+◌, ◌-◌, ◌*◌, ◌/◌, ◌%◌, ◌<◌, ◌≤◌, Bool, true, false, cond, not, ◌&&◌, ◌||◌, eqb, ltb, leb, List, [], ◌∷◌, ◌++◌, length, replicate, refl, ap, ◌∙◌, arith, length-append}
use lib.ListN.{length-replicate}
use Rattle.std.proofs.lemmas.Bool.{ltb-true, ltb-false, eqb-false, ne_eqb, le-ltb, lt-ltb, le-leb, lt-leb, cond-true, cond-false, cond_both, and_from, and_parts, or_from}
use Rattle.sets.specs.Sets.{Name, bare, byte, led, content, name_size, Set, holds, offset_size}
use Rattle.sets.specs.Parsing.{tile, got, bad, then, one, run, offset, arcs, whole_arcs, lead, identifier, second, size_of_object, body, told}
use Rattle.sets.specs.Writing.{shortest, smallest, nibble, name_bytes, length_bytes, offset_bytes, encode}
use Rattle.sets.specs.Laws.{Proper, Fitting, ComesBack, SmallestComesBack, FillerComesBack, EncodedSize}
use Rattle.sets.proofs.Parts.{Takes, then-takes, run-takes}
use Rattle.sets.proofs.Fronts.{made, pad_on, object_on, length_on, name_on, is_set, is-filler}

offset-takes : (p e : ℕ) → (e ≡ 0 → p < 0x80) → (1 ≤ e → 0x80 ≤ p) → Takes ℕ (offset p) (offset_bytes e) e
offset-takes p zero low high ys = cond-true (ltb p 0x80) (got 0 ys) (then (one ys) (λ v r. got (suc v) r)) (lt-ltb p 0x80 (low refl))
offset-takes p (suc v) low high ys = cond-false (ltb p 0x80) (got 0 (v ∷ ys)) (got (suc v) ys) (le-ltb p 0x80 (high (omega arith)))

identifier-takes : (n : Name) (q : ℕ) → Fitting n → q ≡ nibble n → Takes Name (identifier q) (name_bytes n) n
identifier-takes (bare n) q f e ys =
    cond-true (ltb q 15) (got (bare q) ys) (then (one ys) lead) (lt-ltb q 15 (omega arith)) ∙ ap (λ z. got (bare z) ys) e
identifier-takes (byte n) q f e ys =
    let b : ℕ = n - 15 in
    let back : b + 15 ≡ n = omega arith in
    cond-false (ltb q 15) (got (bare q) (b ∷ ys)) (lead b ys) (le-ltb q 15 (omega arith))
    ∙ cond-true (leb b 0x70) (got (byte (b + 15)) ys) (cond (ltb b 0x80 || ltb 0x9f b) (bad 9) (then (run (b - 0x7f) ys) whole_arcs)) (le-leb b 0x70 (omega arith))
    ∙ ap (λ z. got (byte z) ys) back
identifier-takes (led c) q f e ys =
    let b : ℕ = 0x7f + length c in
    let l : List ℕ = c ++ ys in
    let some : 1 ≤ length c = f.some in
    let few : length c ≤ 32 = f.few in
    cond-false (ltb q 15) (got (bare q) (b ∷ l)) (lead b l) (le-ltb q 15 (omega arith))
    ∙ cond-false (leb b 0x70) (got (byte (b + 15)) l) (cond (ltb b 0x80 || ltb 0x9f b) (bad 9) (then (run (b - 0x7f) l) whole_arcs)) (lt-leb b 0x70 (omega arith))
    ∙ cond-false (ltb b 0x80 || ltb 0x9f b) (bad 9) (then (run (b - 0x7f) l) whole_arcs) (or_from (ltb b 0x80) (ltb 0x9f b) (le-ltb b 0x80 (omega arith)) (le-ltb 0x9f b (omega arith)))
    ∙ ap (λ z. then z whole_arcs) (run-takes (b - 0x7f) c (omega arith) ys)
    ∙ cond-true (arcs true c) (got (led c) ys) (bad 10) f.whole

length-takes_by : (k : ℕ) (t : Bool) → ltb k 0x80 ≡ t → 1 ≤ k → Takes ℕ size_of_object (cond t (k ∷ []) ((0x80 + k / 0x80) ∷ (k % 0x80) ∷ [])) k
length-takes_by k true t some ys =
    cond-true (ltb k 0x80) (cond (eqb k 0) (bad 12) (got k ys)) (then (one ys) (second (k - 0x80))) t
    ∙ cond-false (eqb k 0) (bad 12) (got k ys) (ne_eqb k 0 (λ z. omega arith))
length-takes_by k false t some ys =
    let h : ℕ = 0x80 + k / 0x80 in
    let m : ℕ = k % 0x80 in
    let big : 0x80 ≤ k = ltb-false k 0x80 t in
    let back : (h - 0x80) * 0x80 + m ≡ k = omega arith in
    let v : ℕ = (h - 0x80) * 0x80 + m in
    cond-false (ltb h 0x80) (cond (eqb h 0) (bad 12) (got h (m ∷ ys))) (second (h - 0x80) m ys) (le-ltb h 0x80 (omega arith))
    ∙ cond-true (ltb m 0x80 && leb 0x80 v) (got v ys) (bad 11) (and_from (ltb m 0x80) (leb 0x80 v) (lt-ltb m 0x80 (omega arith)) (le-leb 0x80 v (omega arith)))
    ∙ ap (λ z. got z ys) back

length-takes : (k : ℕ) → 1 ≤ k → Takes ℕ size_of_object (length_bytes k) k
length-takes k some = length-takes_by k (ltb k 0x80) refl some

-- a set behind its precursor
module _ (p e : ℕ) (n : Name) (o : List ℕ) where
  pad-takes : Takes Set (pad_on p e n o) (replicate (e - 1) 0) (made p e n o)
  pad-takes ys = ap (λ q. then q (λ pad r. got (made p e n o) r)) (run-takes (e - 1) (replicate (e - 1) 0) (length-replicate (e - 1) 0) ys)

  object-takes : Takes Set (object_on p e n (length o)) (o ++ replicate (e - 1) 0) (made p e n o)
  object-takes = then-takes (run (length o)) (λ o r. pad_on p e n o r) o (replicate (e - 1) 0) o (made p e n o) (run-takes (length o) o refl) pad-takes

  length_on-takes : 1 ≤ length o → Takes Set (length_on p e n) (length_bytes (length o) ++ (o ++ replicate (e - 1) 0)) (made p e n o)
  length_on-takes some =
      then-takes size_of_object (λ k r. object_on p e n k r) (length_bytes (length o)) (o ++ replicate (e - 1) 0) (length o) (made p e n o) (length-takes (length o) some) object-takes

  name-takes : 1 ≤ length o → Fitting n → p % 16 ≡ nibble n → Takes Set (name_on p e) (name_bytes n ++ (length_bytes (length o) ++ (o ++ replicate (e - 1) 0))) (made p e n o)
  name-takes some f q =
      then-takes (identifier (p % 16)) (λ n r. length_on p e n r) (name_bytes n) (length_bytes (length o) ++ (o ++ replicate (e - 1) 0)) n (made p e n o) (identifier-takes n (p % 16) f q) (length_on-takes some)

  body-takes : 1 ≤ length o → Fitting n → p % 16 ≡ nibble n → (e ≡ 0 → p < 0x80) → (1 ≤ e → 0x80 ≤ p)
      → Takes Set (body p) (offset_bytes e ++ (name_bytes n ++ (length_bytes (length o) ++ (o ++ replicate (e - 1) 0)))) (made p e n o)
  unfolding body
  body-takes some f q low high =
      then-takes (offset p) (λ e r. name_on p e r) (offset_bytes e) (name_bytes n ++ (length_bytes (length o) ++ (o ++ replicate (e - 1) 0))) e (made p e n o) (offset-takes p e low high) (name-takes some f q)

pub nibble-fits : (n : Name) → Fitting n → (1 ≤ nibble n) × (nibble n ≤ 15)
nibble-fits (bare n) f = (omega arith, omega arith)
nibble-fits (byte n) f = (omega arith, omega arith)
nibble-fits (led c) f = (omega arith, omega arith)

pub flag : (e : ℕ) → (offset_size e ≤ 1) × (e ≡ 0 → offset_size e ≡ 0) × (1 ≤ e → offset_size e ≡ 1)
flag zero = (omega arith, λ z. refl, λ h. absurd (omega arith))
flag (suc v) = (omega arith, λ z. absurd (omega arith), λ h. refl)

-- the parts of a precursor
code_of : (b c k : ℕ) → c ≤ 7 → k ≤ 15 → (0x80 * b + 16 * c + k) / 16 % 8 ≡ c
code_of b c k h g =
    let high : (0x80 * b + 16 * c + k) / 16 ≡ 8 * b + c = omega arith in
    ap (λ q. q % 8) high ∙ omega arith

pub comes_back : ComesBack
unfolding encode
comes_back s rest w =
    let e : ℕ = s.extra in
    let b : ℕ = offset_size s.extra in
    let n : Name = s.name in
    let k : ℕ = nibble s.name in
    let p : ℕ = 0x80 * offset_size s.extra + 16 * s.code + nibble s.name in
    let fits : (1 ≤ k) × (k ≤ 15) = nibble-fits n w.name in
    let f : (b ≤ 1) × (e ≡ 0 → b ≡ 0) × (1 ≤ e → b ≡ 1) = flag e in
    let seven : s.code ≤ 7 = w.code in
    let low : p % 16 ≡ k = omega arith in
    let mid : p / 16 % 8 ≡ s.code = code_of b s.code k seven fits.1 in
    let front : e ≡ 0 → p < 0x80 = λ z. omega (arith, f.1 z) in
    let back : 1 ≤ e → 0x80 ≤ p = λ z. omega (arith, f.2 z) in
    is_set p _ (omega arith) ∙ ap told (body-takes p e n s.object w.some w.name low front back rest) ∙ (λ i. tile (holds (record { extra = e; name = n; code = mid i; object = s.object })))

pub filler-back : FillerComesBack
filler-back rest = is-filler rest

pub shortest-fits : (c : List ℕ) → Proper c → Fitting (shortest c) × (content (shortest c) ≡ c)
unfolding arcs
shortest-fits [] w = absurd (omega (arith, w.some))
shortest-fits (n ∷ []) w =
    let small : n < 0x80 = ltb-true n 0x80 (and_parts (not (true && eqb n 0x80)) (ltb n 0x80) w.whole).1 in
    cond_both (eqb n 0) (led (n ∷ [])) (cond (ltb n 15) (bare n) (byte n)) (λ v. Fitting v × (content v ≡ n ∷ [])) (λ e. (w, refl))
    (λ e. cond_both (ltb n 15) (bare n) (byte n) (λ v. Fitting v × (content v ≡ n ∷ []))
    (λ g. ((omega (arith, eqb-false n 0 e), omega (arith, ltb-true n 15 g)), refl))
    (λ g. ((omega (arith, ltb-false n 15 g), omega arith), refl)))
shortest-fits (n ∷ m ∷ c) w = (w, refl)

pub smallest-back : SmallestComesBack
smallest-back c code o rest w seven some few =
    let f = shortest-fits c w in
    (comes_back (smallest c code o) rest (record { extra = omega arith; name = f.0; code = seven; some = some; few = few }), f.1)

pub length-name : (n : Name) → length (name_bytes n) ≡ name_size n
length-name (bare n) = refl
length-name (byte n) = refl
length-name (led c) = refl

length-offset : (e : ℕ) → length (offset_bytes e) + (e - 1) ≡ e
length-offset zero = refl
length-offset (suc v) = omega arith

pub length-long : (k : ℕ) (t : Bool) → length (cond t (k ∷ []) ((0x80 + k / 0x80) ∷ (k % 0x80) ∷ [])) ≡ cond t 1 2
length-long k true = refl
length-long k false = refl

pub encoded_size : EncodedSize
unfolding encode
encoded_size s w =
    let e : ℕ = s.extra in
    let pad : List ℕ = replicate (e - 1) 0 in
    let k : ℕ = length s.object in
    let c = s.object ++ pad in
    let b = length_bytes k ++ c in
    let a = name_bytes s.name ++ b in
    ap suc (length-append (offset_bytes e) a ∙ omega (arith, length-append (name_bytes s.name) b, length-append (length_bytes k) c, length-append s.object pad, length-replicate {A = ℕ} (e - 1) 0, length-name s.name, length-offset e, length-long k (ltb k 0x80)))
