-- Which bytes the parts of a set are.
use Rattle.std.proofs.Common.{◌≡◌, ℕ, zero, suc, ◌+◌, ◌-◌, ◌*◌, ◌/◌, ◌%◌, ◌<◌, ◌≤◌, Bool, true, false, cond, ◌&&◌, ◌||◌, eqb, ltb, leb, List, [], ◌∷◌, ◌++◌, length, take, drop, sym, refl, ap, ◌∙◌, append_assoc, arith, length-append}
use Rattle.std.proofs.lemmas.List.{take_at, drop_at, drop-drop, take-append-drop, length-take-le}
use Rattle.std.proofs.lemmas.Bool.{ltb-true, ltb-false, leb-true, cond-true, cond-false, lt-ltb, le-ltb, and_parts, or_parts}
use Rattle.sets.specs.Sets.{Name, bare, byte, led, part, name_size, Set, filler, holds, long, offset_size, name_at, object_at}
use Rattle.sets.specs.Parsing.{Read, got, bad, then, one, run, offset, arcs, whole_arcs, lead, identifier, second, first_length, size_of_object, body, end, tile, wrong, plain, told, parse}
use Rattle.sets.specs.Writing.{name_bytes, length_bytes, offset_bytes}
use Rattle.sets.specs.Laws.{Stands, PartsStand}
use Rattle.sets.proofs.Parts.{not-bad, then-parts}
use Rattle.sets.proofs.Fronts.{made, pad_on, object_on, length_on, name_on, told-parts}
use Rattle.sets.proofs.Written.{length-name, length-long}

-- each reader gives back the bytes that it read
cond-cut : {A : Type 0} (t : Bool) (f g : Read A) (a : A) (rest : List ℕ) (P : Type 0)
    → cond t f g ≡ got a rest → (t ≡ true → f ≡ got a rest → P) → (t ≡ false → g ≡ got a rest → P) → P
cond-cut true f g a rest P e p q = p refl e
cond-cut false f g a rest P e p q = q refl e

got-cut : {A : Type 0} (a b : A) (xs rest : List ℕ) (f : A → List ℕ) → got a xs ≡ got b rest → f a ++ xs ≡ f b ++ rest
got-cut a b xs rest f e =
    let p : a ≡ b = cc in
    let q : xs ≡ rest = cc in
    λ i. f (p i) ++ q i

one-cut : (xs rest : List ℕ) (b : ℕ) → one xs ≡ got b rest → xs ≡ b ∷ rest
one-cut [] rest b e = absurd (not-bad 8 b rest e)
one-cut (x ∷ xs) rest b e =
    let p : x ≡ b = cc in
    let q : xs ≡ rest = cc in
    λ i. p i ∷ q i

run-cut : (n : ℕ) (xs rest o : List ℕ) → run n xs ≡ got o rest → (xs ≡ o ++ rest) × (length o ≡ n)
run-cut n xs rest o e =
    cond-cut (ltb (length xs) n) (bad 8) (got (take n xs) (drop n xs)) o rest ((xs ≡ o ++ rest) × (length o ≡ n)) e
    (λ t g. absurd (not-bad 8 o rest g))
    (λ t g.
    let p : take n xs ≡ o = cc in
    let q : drop n xs ≡ rest = cc in
    (sym (take-append-drop n xs) ∙ (λ i. p i ++ q i), ap length (sym p) ∙ length-take-le n xs (ltb-false (length xs) n t)))

offset-cut : (p : ℕ) (xs rest : List ℕ) (e : ℕ) → offset p xs ≡ got e rest → xs ≡ offset_bytes e ++ rest
offset-cut p xs rest e h =
    cond-cut (ltb p 0x80) (got 0 xs) (then (one xs) (λ v r. got (suc v) r)) e rest (xs ≡ offset_bytes e ++ rest) h
    (λ t g. got-cut 0 e xs rest offset_bytes g)
    (λ t g.
    let parts = then-parts (one xs) (λ v r. got (suc v) r) e rest g in
    one-cut xs parts.1 parts.0 parts.2 ∙ got-cut (suc parts.0) e parts.1 rest offset_bytes parts.3)

lower : (b : ℕ) → b ≡ b + 15 - 15
lower b = omega arith

lead-cut : (b : ℕ) (xs rest : List ℕ) (n : Name) → lead b xs ≡ got n rest → b ∷ xs ≡ name_bytes n ++ rest
lead-cut b xs rest n h =
    cond-cut (leb b 0x70) (got (byte (b + 15)) xs) (cond (ltb b 0x80 || ltb 0x9f b) (bad 9) (then (run (b - 0x7f) xs) whole_arcs)) n rest (b ∷ xs ≡ name_bytes n ++ rest) h
    (λ t g. (λ i. lower b i ∷ xs) ∙ got-cut (byte (b + 15)) n xs rest name_bytes g)
    (λ t g. cond-cut (ltb b 0x80 || ltb 0x9f b) (bad 9) (then (run (b - 0x7f) xs) whole_arcs) n rest (b ∷ xs ≡ name_bytes n ++ rest) g
    (λ s k. absurd (not-bad 9 n rest k))
    (λ s k.
    let low = ltb-false b 0x80 (or_parts (ltb b 0x80) (ltb 0x9f b) s).0 in
    let parts = then-parts (run (b - 0x7f) xs) whole_arcs n rest k in
    let c : List ℕ = parts.0 in
    let cut = run-cut (b - 0x7f) xs parts.1 c parts.2 in
    let first : b ≡ 0x7f + length c = omega (arith, cut.1, low) in
    cond-cut (arcs true c) (got (led c) parts.1) (bad 10) n rest (b ∷ xs ≡ name_bytes n ++ rest) parts.3
    (λ r j. (λ i. first i ∷ cut.0 i) ∙ got-cut (led c) n parts.1 rest name_bytes j)
    (λ r j. absurd (not-bad 10 n rest j))))

identifier-cut : (q : ℕ) (xs rest : List ℕ) (n : Name) → identifier q xs ≡ got n rest → xs ≡ name_bytes n ++ rest
identifier-cut q xs rest n h =
    cond-cut (ltb q 15) (got (bare q) xs) (then (one xs) lead) n rest (xs ≡ name_bytes n ++ rest) h
    (λ t g. got-cut (bare q) n xs rest name_bytes g)
    (λ t g.
    let parts = then-parts (one xs) lead n rest g in
    one-cut xs parts.1 parts.0 parts.2 ∙ lead-cut parts.0 parts.1 rest n parts.3)

-- a length in one byte, and in two
short-bytes : (n : ℕ) (bs : List ℕ) → n < 0x80 → n ∷ bs ≡ length_bytes n ++ bs
short-bytes n bs h = ap (λ l. l ++ bs) (sym (cond-true (ltb n 0x80) (n ∷ []) ((0x80 + n / 0x80) ∷ (n % 0x80) ∷ []) (lt-ltb n 0x80 h)))

long-bytes : (n low v : ℕ) (bs : List ℕ) → 0x80 ≤ n → low < 0x80 → v ≡ (n - 0x80) * 0x80 + low → 0x80 ≤ v → n ∷ low ∷ bs ≡ length_bytes v ++ bs
long-bytes n low v bs h g e big =
    let q : v / 0x80 ≡ n - 0x80 = omega arith in
    let hi : n ≡ 0x80 + v / 0x80 = omega arith in
    let lo : low ≡ v % 0x80 = omega arith in
    (λ i. hi i ∷ lo i ∷ bs) ∙ ap (λ l. l ++ bs) (sym (cond-false (ltb v 0x80) (v ∷ []) ((0x80 + v / 0x80) ∷ (v % 0x80) ∷ []) (le-ltb v 0x80 big)))

first-cut : (n : ℕ) (xs rest : List ℕ) (k : ℕ) → first_length n xs ≡ got k rest → n ∷ xs ≡ length_bytes k ++ rest
first-cut n xs rest k h =
    cond-cut (ltb n 0x80) (cond (eqb n 0) (bad 12) (got n xs)) (then (one xs) (second (n - 0x80))) k rest (n ∷ xs ≡ length_bytes k ++ rest) h
    (λ t g. cond-cut (eqb n 0) (bad 12) (got n xs) k rest (n ∷ xs ≡ length_bytes k ++ rest) g
    (λ s j. absurd (not-bad 12 k rest j))
    (λ s j. short-bytes n xs (ltb-true n 0x80 t) ∙ got-cut n k xs rest length_bytes j))
    (λ t g.
    let parts = then-parts (one xs) (second (n - 0x80)) k rest g in
    let low : ℕ = parts.0 in
    let bs : List ℕ = parts.1 in
    let v : ℕ = (n - 0x80) * 0x80 + parts.0 in
    cond-cut (ltb low 0x80 && leb 0x80 v) (got v bs) (bad 11) k rest (n ∷ xs ≡ length_bytes k ++ rest) parts.3
    (λ s j.
    let two = and_parts (ltb low 0x80) (leb 0x80 v) s in
    ap (λ l. n ∷ l) (one-cut xs bs low parts.2) ∙ long-bytes n low v bs (ltb-false n 0x80 t) (ltb-true low 0x80 two.0) refl (leb-true 0x80 v two.1) ∙ got-cut v k bs rest length_bytes j)
    (λ s j. absurd (not-bad 11 k rest j)))

length_cut : (xs rest : List ℕ) (k : ℕ) → size_of_object xs ≡ got k rest → xs ≡ length_bytes k ++ rest
length_cut xs rest k h =
    let parts = then-parts (one xs) first_length k rest h in
    one-cut xs parts.1 parts.0 parts.2 ∙ first-cut parts.0 parts.1 rest k parts.3

-- the bytes of a set behind its precursor: before its object, its object, and what follows it
abbrev head : Set → List ℕ
head s = offset_bytes s.extra ++ (name_bytes s.name ++ length_bytes (length s.object))

abbrev front_of : ℕ → Name → ℕ → List ℕ
front_of e n k = offset_bytes e ++ (name_bytes n ++ length_bytes k)

group : (a b c d : List ℕ) → a ++ (b ++ (c ++ d)) ≡ (a ++ (b ++ c)) ++ d
group a b c d = simp append_assoc

set-cut : (p e : ℕ) (n : Name) (o rest : List ℕ) (s : Set) (xs : List ℕ) → pad_on p e n o xs ≡ got s rest → s ≡ made p e n o
set-cut p e n o rest s xs h =
    let parts = then-parts (run (e - 1) xs) (λ pad r. got (made p e n o) r) s rest h in
    let q : got (made p e n o) parts.1 ≡ got s rest = parts.3 in
    let r : made p e n o ≡ s = cc in
    sym r

pub body-cut : (p : ℕ) (xs rest : List ℕ) (s : Set) → body p xs ≡ got s rest → (more : List ℕ) × (xs ≡ head s ++ (s.object ++ more))
unfolding body
body-cut p xs rest s h =
    let a = then-parts (offset p xs) (λ e r. name_on p e r) s rest h in
    let e : ℕ = a.0 in
    let b = then-parts (identifier (p % 16) a.1) (λ n r. length_on p e n r) s rest a.3 in
    let n : Name = b.0 in
    let c = then-parts (size_of_object b.1) (λ k r. object_on p e n k r) s rest b.3 in
    let k : ℕ = c.0 in
    let d = then-parts (run k c.1) (λ o r. pad_on p e n o r) s rest c.3 in
    let o : List ℕ = d.0 in
    let is : s ≡ made p e n o = set-cut p e n o rest s d.1 d.3 in
    let ran = run-cut k c.1 d.1 o d.2 in
    let whole : xs ≡ offset_bytes e ++ (name_bytes n ++ (length_bytes k ++ (o ++ d.1))) =
    offset-cut p xs a.1 e a.2 ∙ ap (λ l. offset_bytes e ++ l) (identifier-cut (p % 16) a.1 b.1 n b.2 ∙ ap (λ l. name_bytes n ++ l) (length_cut b.1 c.1 k c.2 ∙ ap (λ l. length_bytes k ++ l) ran.0)) in
    (d.1, whole ∙ group (offset_bytes e) (name_bytes n) (length_bytes k) (o ++ d.1) ∙ ap (λ j. front_of e n j ++ (o ++ d.1)) (sym ran.1) ∙ ap (λ w. head w ++ (w.object ++ d.1)) (sym is))

-- a set at the front is the body behind its precursor
past_cases : (p : ℕ) (q : Read Set) (s : Set) (a b c : Bool) → cond a end (cond b (tile filler) (cond c (wrong (plain 7)) (told q))) ≡ tile (holds s) → told q ≡ tile (holds s)
past_cases p q s true b c e = let z : ◌≡◌ {A = ℕ} 0 1 = cc in absurd (omega arith)
past_cases p q s false true c e = let z : ◌≡◌ {A = ℕ} 0 1 = cc in absurd (omega arith)
past_cases p q s false false true e = let z : ◌≡◌ {A = ℕ} 0 1 = cc in absurd (omega arith)
past_cases p q s false false false e = e

length-offset-byte : (e : ℕ) → length (offset_bytes e) ≡ offset_size e
length-offset-byte zero = refl
length-offset-byte (suc v) = refl

length-head : (s : Set) → length (head s) ≡ offset_size s.extra + name_size s.name + long (length s.object)
length-head s =
    let k : ℕ = length s.object in
    omega (arith, length-append (offset_bytes s.extra) (name_bytes s.name ++ length_bytes k), length-append (name_bytes s.name) (length_bytes k), length-name s.name, length-offset-byte s.extra, length-long k (ltb k 0x80))

-- what stands m bytes behind the precursor
abbrev Behind : List ℕ → ℕ → List ℕ → Type 0
Behind xs at bs = (m : ℕ) (a b : List ℕ) → bs ≡ a ++ b → length a ≡ m → drop (at + suc m) xs ≡ b

name-stands : (xs : List ℕ) (at e : ℕ) (n : Name) (bs more : List ℕ) → bs ≡ offset_bytes e ++ (name_bytes n ++ more) → Behind xs at bs → part n ≡ take (length (part n)) (drop (name_at at e n) xs)
name-stands xs at e (bare n) bs more w here = refl
name-stands xs at e (byte n) bs more w here = refl
name-stands xs at e (led c) bs more w here =
    let lead-byte : ℕ = 0x7f + length c in
    let front : List ℕ = offset_bytes e ++ lead-byte ∷ [] in
    let many : length front ≡ offset_size e + 1 = length-append (offset_bytes e) (lead-byte ∷ []) ∙ ap (λ k. k + 1) (length-offset-byte e) in
    let cut : bs ≡ front ++ (c ++ more) = w ∙ sym (append_assoc (offset_bytes e) (lead-byte ∷ []) (c ++ more)) in
    let there : drop (name_at at e (led c)) xs ≡ c ++ more = ap (λ k. drop k xs) (omega arith) ∙ here (offset_size e + 1) front (c ++ more) cut many in
    sym (ap (take (length c)) there ∙ take_at c more (length c) refl)

object-stands : (xs : List ℕ) (at : ℕ) (s : Set) (bs more : List ℕ) → bs ≡ head s ++ (s.object ++ more) → Behind xs at bs → s.object ≡ take (length s.object) (drop (object_at at s) xs)
object-stands xs at s bs more w here =
    let m : ℕ = offset_size s.extra + name_size s.name + long (length s.object) in
    let there : drop (object_at at s) xs ≡ s.object ++ more = ap (λ k. drop k xs) (omega arith) ∙ here m (head s) (s.object ++ more) w (length-head s) in
    sym (ap (take (length s.object)) there ∙ take_at s.object more (length s.object) refl)

stands_by : (xs : List ℕ) (at : ℕ) (l : List ℕ) (s : Set) → drop at xs ≡ l → parse l ≡ tile (holds s) → Stands xs at s
unfolding parse
stands_by xs at [] s d e = let z : ◌≡◌ {A = ℕ} 0 1 = cc in absurd (omega arith)
stands_by xs at (p ∷ bs) s d e =
    let q = told-parts (body p bs) s (past_cases p (body p bs) s (eqb p 0) (eqb p 0x80) (eqb (p % 16) 0) e) in
    let cut = body-cut p bs q.0 s q.1 in
    let here : Behind xs at bs =
    λ m a b w h. sym (drop-drop (suc m) at xs) ∙ ap (drop (suc m)) d ∙ ap (drop m) w ∙ drop_at a b m h in
    record {
      name = name-stands xs at s.extra s.name bs (length_bytes (length s.object) ++ (s.object ++ cut.0)) (cut.1 ∙ sym (group (offset_bytes s.extra) (name_bytes s.name) (length_bytes (length s.object)) (s.object ++ cut.0))) here;
      object = object-stands xs at s bs cut.0 cut.1 here;
    }

pub parts_stand : PartsStand
parts_stand xs at s e = stands_by xs at (drop at xs) s refl e
