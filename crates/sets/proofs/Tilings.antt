-- A scan is a tiling.
use Rattle.std.proofs.Common.{◌≡◌, ℕ, zero, suc, ◌+◌, ◌%◌, ◌≤◌, Bool, true, false, cond, eqb, List, [], ◌∷◌, ◌++◌, length, take, drop, Some, None, Ok, Err, Option, Result, sym, refl, ap, ◌∙◌, subst, append_assoc, add-zero, zero-add, arith, length-append, length-drop}
use mathlib.Core.Path.{fun_ext}
use Rattle.std.proofs.lemmas.List.{take_at, drop_at, drop-drop}
use Rattle.std.proofs.lemmas.Bool.{eqb-true}
use Rattle.sets.specs.Sets.{Set, Tile, filler, holds, size, wide}
use Rattle.sets.specs.Parsing.{Flaw, Step, end, tile, wrong, Read, got, bad, body, told, parse}
use Rattle.sets.specs.Scans.{Unpack, examined, checked, next, Refusal, Scan, clean, first, onward, scan_by, scan_at, scan, placed}
use Rattle.sets.specs.Tilings.{span, Reads, Tiled, Ended, Halts}
use Rattle.sets.specs.Laws.{ScanTiles, TilesScan, Replaces}
use Rattle.sets.proofs.Fronts.{Front, front, is-end}

pub wide-some : (t : Tile) → 1 ≤ wide t
wide-some filler = omega arith
wide-some (holds s) = omega arith

-- one step
examined-tile : (s : Set) (r : Result (List ℕ) Flaw) (t : Tile) → examined s r ≡ tile t → tile (holds s) ≡ tile t
examined-tile s (Ok o) t e = e
examined-tile s (Err f) t e = let z : ◌≡◌ {A = ℕ} 0 1 = cc in absurd (omega arith)

examined-end : (s : Set) (r : Result (List ℕ) Flaw) → examined s r ≡ end → ⊥
examined-end s (Ok o) e = let z : ◌≡◌ {A = ℕ} 0 1 = cc in omega arith
examined-end s (Err f) e = let z : ◌≡◌ {A = ℕ} 0 1 = cc in omega arith

pub checked-tile : (u : Unpack) (st : Step) (t : Tile) → checked u st ≡ tile t → st ≡ tile t
checked-tile u end t e = e
checked-tile u (tile filler) t e = e
checked-tile u (tile (holds s)) t e = examined-tile s (u s.code s.object) t e
checked-tile u (wrong f) t e = e

checked-end : (u : Unpack) (st : Step) → checked u st ≡ end → st ≡ end
checked-end u end e = e
checked-end u (tile filler) e = e
checked-end u (tile (holds s)) e = absurd (examined-end s (u s.code s.object) e)
checked-end u (wrong f) e = e

pub next-front : (u : Unpack) (xs : List ℕ) (t : Tile) → next u xs ≡ tile t → (own : List ℕ) × (rest : List ℕ) × (xs ≡ own ++ rest) × Reads u own t
unfolding next
next-front u xs t e =
    let p : parse xs ≡ tile t = checked-tile u (parse xs) t e in
    let f : Front xs t = (front xs t p).0 in
    (f.own, f.rest, f.cut, record { all = f.many; alone = λ ys. ap (checked u) (f.alone ys ∙ sym p) ∙ e })

told-end : (q : Read Set) → told q ≡ end → ⊥
told-end (got s rest) e = let z : ◌≡◌ {A = ℕ} 0 1 = cc in omega arith
told-end (bad n) e = let z : ◌≡◌ {A = ℕ} 0 1 = cc in omega arith

end_cases : (p : ℕ) (q : Read Set) (f : Flaw) (a b c : Bool) → eqb p 0 ≡ a → cond a end (cond b (tile filler) (cond c (wrong f) (told q))) ≡ end → p ≡ 0
end_cases p q f true b c h e = eqb-true p 0 h
end_cases p q f false true c h e = let z : ◌≡◌ {A = ℕ} 0 1 = cc in absurd (omega arith)
end_cases p q f false false true h e = let z : ◌≡◌ {A = ℕ} 0 1 = cc in absurd (omega arith)
end_cases p q f false false false h e = absurd (told-end q e)

parse-end : (xs : List ℕ) → parse xs ≡ end → Ended xs
unfolding parse
parse-end [] e = tt
parse-end (p ∷ bs) e = end_cases p (body p bs) (record { number = 7; group = 0 }) (eqb p 0) (eqb p 0x80) (eqb (p % 16) 0) refl e

pub next-end : (u : Unpack) (xs : List ℕ) → next u xs ≡ end → Ended xs
unfolding next
next-end u xs e = parse-end xs (checked-end u (parse xs) e)

pub ends : (u : Unpack) (xs : List ℕ) → Ended xs → next u xs ≡ end
unfolding next parse
ends u [] e = refl
ends u (p ∷ bs) e = ap (λ q. checked u (parse (q ∷ bs))) e ∙ ap (checked u) (is-end bs)

-- enough turns are enough
pub turns : (u : Unpack) (j k at : ℕ) (bs : List ℕ) → length bs ≤ j → length bs ≤ k → scan_by u j at bs ≡ scan_by u k at bs
unfolding scan_by next parse
turns u zero zero at bs h g = refl
turns u zero (suc k) at [] h g = refl
turns u zero (suc k) at (p ∷ bs) h g = absurd (omega arith)
turns u (suc j) zero at [] h g = refl
turns u (suc j) zero at (p ∷ bs) h g = absurd (omega arith)
turns u (suc j) (suc k) at bs h g =
    ap (onward at (next u bs)) (fun_ext (λ t. turns u j k (at + wide t) (drop (wide t) bs) (omega (arith, length-drop (wide t) bs, wide-some t)) (omega (arith, length-drop (wide t) bs, wide-some t))))

-- the steps of a scan
pub scan-end : (u : Unpack) (at : ℕ) (bs : List ℕ) → next u bs ≡ end → scan_at u at bs ≡ clean []
unfolding scan_by
scan-end u at [] e = refl
scan-end u at (p ∷ bs) e = ap (λ st. onward at st (λ t. scan_by u (length bs) (at + wide t) (drop (wide t) (p ∷ bs)))) e

no_tile : (u : Unpack) (t : Tile) → next u [] ≡ tile t → ⊥
unfolding next parse
no_tile u t e = let z : ◌≡◌ {A = ℕ} 0 1 = cc in omega arith

no_flaw : (u : Unpack) (f : Flaw) → next u [] ≡ wrong f → ⊥
unfolding next parse
no_flaw u f e = let z : ◌≡◌ {A = ℕ} 0 1 = cc in omega arith

pub scan-tile : (u : Unpack) (at : ℕ) (bs : List ℕ) (t : Tile) → next u bs ≡ tile t → scan_at u at bs ≡ first t (scan_at u (at + wide t) (drop (wide t) bs))
unfolding scan_by
scan-tile u at [] t e = absurd (no_tile u t e)
scan-tile u at (p ∷ bs) t e =
    ap (λ st. onward at st (λ t. scan_by u (length bs) (at + wide t) (drop (wide t) (p ∷ bs)))) e
    ∙ ap (first t) (turns u (length bs) (length (drop (wide t) (p ∷ bs))) (at + wide t) (drop (wide t) (p ∷ bs)) (omega (arith, length-drop (wide t) (p ∷ bs), wide-some t)) (omega arith))

pub scan-wrong : (u : Unpack) (at : ℕ) (bs : List ℕ) (f : Flaw) → next u bs ≡ wrong f → scan_at u at bs ≡ record { tiles = []; fault = Some (record { place = at; flaw = f }) }
unfolding scan_by
scan-wrong u at [] f e = absurd (no_flaw u f e)
scan-wrong u at (p ∷ bs) f e = ap (λ st. onward at st (λ t. scan_by u (length bs) (at + wide t) (drop (wide t) (p ∷ bs)))) e

-- 3. from a scan to its tiles
abbrev Tiling : Unpack → ℕ → List ℕ → Scan → Type 0
Tiling u at xs s = (bs : List ℕ) × (rest : List ℕ) × (xs ≡ bs ++ rest) × Tiled u s.tiles bs × Halts u rest (at + length bs) s.fault

one_more : (u : Unpack) (at : ℕ) (xs : List ℕ) (t : Tile) (s : Scan) → next u xs ≡ tile t → Tiling u (at + wide t) (drop (wide t) xs) s → Tiling u at xs (first t s)
unfolding Tiled
one_more u at xs t s e more =
    let f = next-front u xs t e in
    let own : List ℕ = f.0 in
    let bs : List ℕ = more.0 in
    let behind : drop (wide t) xs ≡ f.1 = ap (drop (wide t)) f.2 ∙ drop_at own f.1 (wide t) f.3.all in
    let far : at + wide t + length bs ≡ at + length (own ++ bs) = omega (arith, length-append own bs, f.3.all) in
    (own ++ bs, more.1, f.2 ∙ ap (λ l. own ++ l) (sym behind ∙ more.2) ∙ sym (append_assoc own bs more.1), (own, bs, refl, f.3, more.3), subst (λ k. Halts u more.1 k s.fault) far more.4)

turn : (u : Unpack) (at : ℕ) (xs : List ℕ) (st : Step) (more : Tile → Scan) → next u xs ≡ st → ((t : Tile) → Tiling u (at + wide t) (drop (wide t) xs) (more t)) → Tiling u at xs (onward at st more)
unfolding Tiled
turn u at xs end more n h = ([], xs, refl, refl, next-end u xs n)
turn u at xs (wrong f) more n h = ([], xs, refl, refl, (omega arith, n))
turn u at xs (tile t) more n h = one_more u at xs t (more t) n (h t)

tiles_by : (u : Unpack) (j at : ℕ) (xs : List ℕ) → length xs ≤ j → Tiling u at xs (scan_by u j at xs)
unfolding scan_by Tiled
tiles_by u zero at [] h = ([], [], refl, refl, tt)
tiles_by u zero at (p ∷ bs) h = absurd (omega arith)
tiles_by u (suc j) at xs h =
    turn u at xs (next u xs) (λ t. scan_by u j (at + wide t) (drop (wide t) xs)) refl
    (λ t. tiles_by u j (at + wide t) (drop (wide t) xs) (omega (arith, length-drop (wide t) xs, wide-some t)))

pub scan-tiles : ScanTiles
scan-tiles u xs =
    let t = tiles_by u (length xs) 0 xs (omega arith) in
    (t.0, t.1, t.2, t.3, subst (λ k. Halts u t.1 k (scan u xs).fault) (zero-add (length t.0)) t.4)

-- and back
halts_here : (u : Unpack) (at : ℕ) (rest : List ℕ) (f : Option Refusal) → Halts u rest at f → scan_at u at rest ≡ record { tiles = []; fault = f }
halts_here u at rest None d = scan-end u at rest (ends u rest d)
halts_here u at rest (Some f) d = scan-wrong u at rest f.flaw d.1 ∙ (λ i. record { tiles = []; fault = Some (record { place = sym d.0 i; flaw = f.flaw }) })

pub tiles-scan_at : (u : Unpack) (ts : List Tile) (at : ℕ) (bs rest : List ℕ) (f : Option Refusal) → Tiled u ts bs → Halts u rest (at + length bs) f → scan_at u at (bs ++ rest) ≡ record { tiles = ts; fault = f }
unfolding Tiled
tiles-scan_at u [] at bs rest f e d =
    ap (λ l. scan_at u at (l ++ rest)) e ∙ halts_here u at rest f (subst (λ k. Halts u rest k f) (ap (λ l. at + length l) e ∙ add-zero at) d)
tiles-scan_at u (t ∷ ts) at bs rest f c d =
    let own : List ℕ = c.0 in
    let tail : List ℕ = c.1 ++ rest in
    let far : at + length bs ≡ at + wide t + length c.1 = omega (arith, ap length c.2, length-append own c.1, c.3.all) in
    ap (scan_at u at) (ap (λ l. l ++ rest) c.2 ∙ append_assoc own c.1 rest)
    ∙ scan-tile u at (own ++ tail) t (c.3.alone tail)
    ∙ ap (λ l. first t (scan_at u (at + wide t) l)) (drop_at own tail (wide t) c.3.all)
    ∙ ap (first t) (tiles-scan_at u ts (at + wide t) c.1 rest f c.4 (subst (λ k. Halts u rest k f) far d))

pub tiles-scan : TilesScan
tiles-scan u ts bs rest f c d = tiles-scan_at u ts 0 bs rest f c (subst (λ k. Halts u rest k f) (sym (zero-add (length bs))) d)

-- tiles behind tiles
pub tiled-span : (u : Unpack) (ts : List Tile) (bs : List ℕ) → Tiled u ts bs → length bs ≡ span ts
unfolding Tiled span
tiled-span u [] bs e = ap length e
tiled-span u (t ∷ ts) bs c = ap length c.2 ∙ length-append c.0 c.1 ∙ (λ i. c.3.all i + tiled-span u ts c.1 c.4 i)

pub tiled-append : (u : Unpack) (ts rs : List Tile) (a b : List ℕ) → Tiled u ts a → Tiled u rs b → Tiled u (ts ++ rs) (a ++ b)
unfolding Tiled
tiled-append u [] rs a b e d = subst (λ l. Tiled u rs (l ++ b)) (sym e) d
tiled-append u (t ∷ ts) rs a b c d =
    (c.0, c.1 ++ b, ap (λ l. l ++ b) c.2 ∙ append_assoc c.0 c.1 b, c.3, tiled-append u ts rs c.1 b c.4 d)

pub tiled_split : (u : Unpack) (ts rs : List Tile) (bs : List ℕ) → Tiled u (ts ++ rs) bs → (a : List ℕ) × (b : List ℕ) × (bs ≡ a ++ b) × Tiled u ts a × Tiled u rs b
unfolding Tiled
tiled_split u [] rs bs c = ([], bs, refl, refl, c)
tiled_split u (t ∷ ts) rs bs c =
    let s = tiled_split u ts rs c.1 c.4 in
    (c.0 ++ s.0, s.1, c.2 ∙ ap (λ l. c.0 ++ l) s.2 ∙ sym (append_assoc c.0 s.0 s.1), (c.0, s.0, refl, c.3, s.3), s.4)

pub placed-append : (at : ℕ) (ts rs : List Tile) → placed at (ts ++ rs) ≡ placed at ts ++ placed (at + span ts) rs
unfolding placed span
placed-append at [] rs = ap (λ k. placed k rs) (sym (add-zero at))
placed-append at (filler ∷ ts) rs = placed-append (at + 1) ts rs ∙ ap (λ k. placed (at + 1) ts ++ placed k rs) (omega arith)
placed-append at (holds s ∷ ts) rs =
    ap (λ l. record { at = at; set = s } ∷ l) (placed-append (at + size s) ts rs ∙ ap (λ k. placed (at + size s) ts ++ placed k rs) (omega arith))

-- 4. a run of tiles gives way to others
pub placed-three : (a b c : List Tile) (n : ℕ) → span b ≡ n → placed 0 (a ++ (b ++ c)) ≡ placed 0 a ++ (placed (span a) b ++ placed (span a + n) c)
placed-three a b c n e =
    placed-append 0 a (b ++ c) ∙ ap (λ k. placed 0 a ++ placed k (b ++ c)) (zero-add (span a)) ∙ ap (λ l. placed 0 a ++ l) (placed-append (span a) b c ∙ ap (λ k. placed (span a) b ++ placed (span a + k) c) e)

pub replaces : Replaces
replaces u xs new before old after now f e d same =
    let t = scan-tiles u xs in
    let rest : List ℕ = t.1 in
    let all : Tiled u (before ++ (old ++ after)) t.0 = subst (λ l. Tiled u l t.0) (ap (λ s. s.tiles) e) t.3 in
    let halt : Halts u rest (length t.0) f = subst (Halts u rest (length t.0)) (ap (λ s. s.fault) e) t.4 in
    let s₁ = tiled_split u before (old ++ after) t.0 all in
    let s₂ = tiled_split u old after s₁.1 s₁.4 in
    let a : List ℕ = s₁.0 in
    let b : List ℕ = s₂.0 in
    let c : List ℕ = s₂.1 in
    let la : length a ≡ span before = tiled-span u before a s₁.3 in
    let lb : length b ≡ span old = tiled-span u old b s₂.3 in
    let cut : t.0 ≡ a ++ (b ++ c) = s₁.2 ∙ ap (λ l. a ++ l) s₂.2 in
    let whole : xs ≡ a ++ (b ++ (c ++ rest)) = t.2 ∙ ap (λ l. l ++ rest) cut ∙ append_assoc a (b ++ c) rest ∙ ap (λ l. a ++ l) (append_assoc b c rest) in
    let front : take (span before) xs ≡ a = ap (take (span before)) whole ∙ take_at a (b ++ (c ++ rest)) (span before) la in
    let back : drop (span before + span old) xs ≡ c ++ rest =
    sym (drop-drop (span old) (span before) xs) ∙ ap (λ l. drop (span old) (drop (span before) l)) whole ∙ ap (drop (span old)) (drop_at a (b ++ (c ++ rest)) (span before) la) ∙ drop_at b (c ++ rest) (span old) lb in
    let group : a ++ (new ++ (c ++ rest)) ≡ (a ++ (new ++ c)) ++ rest =
    ap (λ l. a ++ l) (sym (append_assoc new c rest)) ∙ sym (append_assoc a (new ++ c) rest) in
    let far : length t.0 ≡ length (a ++ (new ++ c)) =
    omega (arith, ap length cut, length-append a (b ++ c), length-append b c, length-append a (new ++ c), length-append new c) in (
      ap (scan u) ((λ i. front i ++ (new ++ back i)) ∙ group) ∙ tiles-scan u (before ++ (now ++ after)) (a ++ (new ++ c)) rest f (tiled-append u before (now ++ after) a (new ++ c) s₁.3 (tiled-append u now after new c d s₂.4)) (subst (λ k. Halts u rest k f) far halt),
      placed-three before old after (span old) refl,
      placed-three before now after (span old) (sym (tiled-span u now new d) ∙ same),
    )
