-- Runs that memories share, and bytes.
use Rattle.std.proofs.Common.{◌≡◌, ℕ, zero, suc, ◌+◌, ◌-◌, ◌/◌, ◌%◌, ◌<◌, ◌≤◌, Bool, true, false, cond, ltb, List, [], ◌∷◌, ◌++◌, length, take, drop, replicate, sym, refl, ap, ◌∙◌, subst, append_assoc, arith}
use Rattle.std.specs.List.{AllByRecursion}
use Rattle.std.specs.Int.Digits.{AllBelowBase}
use Rattle.std.proofs.lemmas.List.{take_at, drop_at}
use Rattle.std.proofs.ByRecursion.{All-append}
use Rattle.std.proofs.lemmas.Bool.{ltb-true}
use Rattle.sets.specs.Sets.{Name, bare, byte, led, content, Tile}
use Rattle.sets.specs.Writing.{name_bytes, length_bytes, offset_bytes, encode}
use Rattle.sets.specs.Scans.{Unpack, clean, scan, placed}
use Rattle.sets.specs.Tilings.{span, Tiled}
use Rattle.sets.specs.Laws.{Fitting}
use Rattle.sets.specs.Layouts.{Apart}
use Rattle.sets.specs.Runs.{Between, RunAlike, WrittenBytes}
use Rattle.sets.proofs.Written.{nibble-fits, flag}
use Rattle.sets.proofs.Tilings.{scan-tiles, tiled-span, tiled_split, placed-append}
use Rattle.sets.proofs.Laying.{part_at, same-tiles}

all-front : {X : Type 0} (P : X → Type 0) (xs ys : List X) → AllByRecursion P (xs ++ ys) → AllByRecursion P xs
all-front P [] ys a = tt
all-front P (x ∷ xs) ys a = (a.0, all-front P xs ys a.1)

pub span-append : (ts rs : List Tile) → span (ts ++ rs) ≡ span ts + span rs
unfolding span
span-append [] rs = omega arith
span-append (t ∷ ts) rs = omega (arith, span-append ts rs)

-- the run of a memory between two addresses that no set lies across
cut : (u : Unpack) (xs : List ℕ) (ts : List Tile) (a n : ℕ) → scan u xs ≡ clean ts → a + n ≤ span ts → AllByRecursion (Apart a) (placed 0 ts) → AllByRecursion (Apart (a + n)) (placed 0 ts)
    → (run : List Tile) × Between ts a n run × Tiled u run (take n (drop a xs))
cut u xs ts a n e fits low high =
    let p = part_at ts (a + n) fits high in
    let front : List Tile = p.0 in
    let after : List Tile = p.1 in
    let low' : AllByRecursion (Apart a) (placed 0 front) =
    all-front (Apart a) (placed 0 front) (placed (0 + span front) after) (subst (AllByRecursion (Apart a)) (ap (placed 0) p.2 ∙ placed-append 0 front after) low) in
    let q = part_at front a (omega (arith, p.3)) low' in
    let before : List Tile = q.0 in
    let run : List Tile = q.1 in
    let all : ts ≡ before ++ (run ++ after) = p.2 ∙ ap (λ l. l ++ after) q.2 ∙ append_assoc before run after in
    let long : span run ≡ n = omega (arith, p.3, q.3, ap span q.2, span-append before run) in
    let t = scan-tiles u xs in
    let s₁ = tiled_split u before (run ++ after) t.0 (subst (λ l. Tiled u l t.0) (ap (λ s. s.tiles) e ∙ all) t.3) in
    let s₂ = tiled_split u run after s₁.1 s₁.4 in
    let whole : xs ≡ s₁.0 ++ (s₂.0 ++ (s₂.1 ++ t.1)) =
    t.2 ∙ ap (λ l. l ++ t.1) (s₁.2 ∙ ap (λ l. s₁.0 ++ l) s₂.2) ∙ append_assoc s₁.0 (s₂.0 ++ s₂.1) t.1 ∙ ap (λ l. s₁.0 ++ l) (append_assoc s₂.0 s₂.1 t.1) in
    let bytes : take n (drop a xs) ≡ s₂.0 =
    ap (λ l. take n (drop a l)) whole ∙ ap (take n) (drop_at s₁.0 (s₂.0 ++ (s₂.1 ++ t.1)) a (tiled-span u before s₁.0 s₁.3 ∙ q.3)) ∙ take_at s₂.0 (s₂.1 ++ t.1) n (tiled-span u run s₂.0 s₂.3 ∙ long) in
    (run, record { before = before; after = after; is = all; start = q.3; long = long }, subst (Tiled u run) (sym bytes) s₂.3)

pub run-alike : RunAlike
run-alike u xs ys ts rs a n e f fit fit' low high low' high' same =
    let p = cut u xs ts a n e fit low high in
    let q = cut u ys rs a n f fit' low' high' in
    let one : q.0 ≡ p.0 = same-tiles u q.0 p.0 (take n (drop a ys)) q.2 (subst (Tiled u p.0) same p.2) in
    (p.0, p.1, subst (Between rs a n) one q.1)

-- bytes
name-under : (n : Name) → Fitting n → AllBelowBase 256 (content n) → AllBelowBase 256 (name_bytes n)
name-under (bare n) f c = tt
name-under (byte n) f c = (omega arith, tt)
name-under (led c) f a = let few : length c ≤ 32 = f.few in (omega arith, a)

offset-under : (e : ℕ) → e ≤ 256 → AllBelowBase 256 (offset_bytes e)
offset-under zero h = tt
offset-under (suc v) h = (omega arith, tt)

length-under : (k : ℕ) (t : Bool) → ltb k 0x80 ≡ t → k ≤ 16383 → AllBelowBase 256 (cond t (k ∷ []) ((0x80 + k / 0x80) ∷ (k % 0x80) ∷ []))
length-under k true t h = let small = ltb-true k 0x80 t in (omega arith, tt)
length-under k false t h = (omega arith, (omega arith, tt))

zeros-under : (n : ℕ) → AllBelowBase 256 (replicate n 0)
zeros-under zero = tt
zeros-under (suc n) = (omega arith, zeros-under n)

pub written-bytes : WrittenBytes
unfolding encode
written-bytes s w c o =
    let e : ℕ = s.extra in
    let f = flag s.extra in
    let g = nibble-fits s.name w.name in
    let small : s.code ≤ 7 = w.code in
    let P : ℕ → Type 0 = λ d. d < 256 in (
      omega (arith, f.0, g.1),
      All-append P (offset_bytes e) _ (offset-under e w.extra) (All-append P (name_bytes s.name) _ (name-under s.name w.name c) (All-append P (length_bytes (length s.object)) _ (length-under (length s.object) (ltb (length s.object) 0x80) refl w.few) (All-append P s.object (replicate (s.extra - 1) 0) o (zeros-under (s.extra - 1))))),
    )
