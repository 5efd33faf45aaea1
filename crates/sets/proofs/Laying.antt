-- Tiles laid out anew.
use Rattle.std.proofs.Common.{◌≡◌, ℕ, ◌+◌, ◌≤◌, List, [], ◌∷◌, ◌++◌, take, None, sym, refl, ap, ◌∙◌, subst, ⊎_elim, append_assoc, zero-add, arith}
use Rattle.std.specs.List.{AllByRecursion}
use Rattle.std.proofs.lemmas.List.{take_at}
use Rattle.std.proofs.lemmas.Bool.{cases_lt}
use Rattle.sets.specs.Sets.{content, Set, Tile, filler, holds, size, wide}
use Rattle.sets.specs.Writing.{smallest}
use Rattle.sets.specs.Scans.{Unpack, examined, checked, next, scan, placed}
use Rattle.sets.specs.Tilings.{span, Reads, Tiled}
use Rattle.sets.specs.Layouts.{written, laid, Layable, LaidTiles, GapLaid, LastLaid, SameTiles, Apart, PartAt, least_span, Room}
use Rattle.sets.proofs.Fronts.{is-filler, floor}
use Rattle.sets.proofs.Written.{comes_back, encoded_size}
use Rattle.sets.proofs.Tilings.{checked-tile, scan-tiles, tiles-scan, tiled-span, tiled-append, tiled_split, replaces}

written-reads : (u : Unpack) (t : Tile) → Layable u t → Reads u (written t) t
unfolding next
written-reads u filler l = record { all = refl; alone = λ rest. ap (checked u) (is-filler rest) }
written-reads u (holds s) l =
    record { all = encoded_size s l.0; alone = λ rest. ap (checked u) (comes_back s rest l.0) ∙ ap (examined s) l.1.1 }

laid-tiled : (u : Unpack) (ts : List Tile) → AllByRecursion (Layable u) ts → Tiled u ts (laid ts)
unfolding Tiled laid
laid-tiled u [] a = refl
laid-tiled u (t ∷ ts) a = (written t, laid ts, refl, written-reads u t a.0, laid-tiled u ts a.1)

pub laid-tiles : LaidTiles
laid-tiles u ts a = let d = laid-tiled u ts a in (d, tiled-span u ts (laid ts) d)

pub gap-laid : GapLaid
gap-laid u xs before old after now e a same =
    let d = laid-tiles u now a in
    (replaces u xs (laid now) before old after now None e d.0 (d.1 ∙ same)).0

pub last-laid : LastLaid
last-laid u xs rest before old now e a d =
    let t = scan-tiles u xs in
    let s = tiled_split u before old t.0 (subst (λ l. Tiled u l t.0) (ap (λ r. r.tiles) e) t.3) in
    let front : take (span before) xs ≡ s.0 =
    ap (take (span before)) (t.2 ∙ ap (λ l. l ++ t.1) s.2 ∙ append_assoc s.0 s.1 t.1) ∙ take_at s.0 (s.1 ++ t.1) (span before) (tiled-span u before s.0 s.3) in
    ap (scan u) (ap (λ l. l ++ (laid now ++ rest)) front ∙ sym (append_assoc s.0 (laid now) rest))
    ∙ tiles-scan u (before ++ now) (s.0 ++ laid now) rest None (tiled-append u before now s.0 (laid now) s.3 (laid-tiled u now a)) d

pub same-tiles : SameTiles
same-tiles u ts rs bs a b = ap (λ s. s.tiles) (sym (tiles-scan u ts bs [] None a tt) ∙ tiles-scan u rs bs [] None b tt)

-- tiles part
Parted : ℕ → ℕ → List Tile → Type 0
Parted at a ts = (before : List Tile) × (after : List Tile) × (ts ≡ before ++ after) × (at + span before ≡ a)

part_here : (at a : ℕ) (ts : List Tile) → at ≤ a → a ≤ at → Parted at a ts
unfolding Parted span
part_here at a ts h g = ([], ts, refl, omega arith)

part_on : (at a : ℕ) (t : Tile) (ts : List Tile) → Parted (at + wide t) a ts → Parted at a (t ∷ ts)
unfolding Parted span
part_on at a t ts p = (t ∷ p.0, p.1, ap (λ l. t ∷ l) p.2, omega (arith, p.3))

part : (at a : ℕ) (ts : List Tile) → at ≤ a → a ≤ at + span ts → AllByRecursion (Apart a) (placed at ts) → Parted at a ts
unfolding placed span
part at a [] h g d = part_here at a [] h (omega arith)
part at a (filler ∷ ts) h g d =
    ⊎_elim (λ l. part_on at a filler ts (part (at + 1) a ts (omega arith) (omega arith) d)) (λ l. part_here at a (filler ∷ ts) h l) (cases_lt at a)
part at a (holds s ∷ ts) h g d =
    ⊎_elim (λ l. part_on at a (holds s) ts (part (at + size s) a ts l (omega arith) d.1)) (λ l. part_here at a (holds s ∷ ts) h l) d.0

pub part_at : PartAt
unfolding Parted
part_at ts a h d =
    let p = part 0 a ts (omega arith) (omega arith) d in
    (p.0, p.1, p.2, sym (zero-add (span p.0)) ∙ p.3)

-- room
one-least : (u : Unpack) (bs : List ℕ) (s : Set) → Reads u bs (holds s) → size (smallest (content s.name) s.code s.object) ≤ size s
unfolding next
one-least u bs s r = floor (bs ++ []) s (checked-tile u _ (holds s) (r.alone []))

least : (u : Unpack) (ts : List Tile) (bs : List ℕ) → Tiled u ts bs → least_span ts ≤ span ts
unfolding Tiled least_span span
least u [] bs d = omega arith
least u (filler ∷ ts) bs d = let h = least u ts d.1 d.4 in omega arith
least u (holds s ∷ ts) bs d =
    let h = least u ts d.1 d.4 in
    let g = one-least u d.0 s d.3 in
    omega arith

pub room : Room
room u ts bs d = let h = least u ts bs d in omega (arith, tiled-span u ts bs d)
