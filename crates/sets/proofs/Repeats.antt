-- The sets of a memory one by one: each is what stands at its address, and the first that repeats an identifier.
use Rattle.std.proofs.Common.{◌≡◌, ℕ, ◌+◌, ◌<◌, ◌≤◌, true, false, List, [], ◌∷◌, ◌++◌, length, get_or, take, drop, Some, None, sym, ap, ◌∙◌, append_assoc}
use Rattle.std.specs.List.{AllByRecursion}
use Rattle.std.proofs.lemmas.List.{take_more, drop_more, drop_all, drop_at, drop-drop}
use Rattle.std.proofs.lemmas.Bool.{cond-true, cond-false}
use Rattle.sets.specs.Sets.{Tile, filler, holds, size}
use Rattle.sets.specs.Parsing.{tile, parse}
use Rattle.sets.specs.Scans.{Unpack, next, scan, Found, placed}
use Rattle.sets.specs.Tilings.{Tiled}
use Rattle.sets.specs.Objects.{unpacked}
use Rattle.sets.specs.Readings.{found, stood, repeat_from}
use Rattle.sets.proofs.Tilings.{checked-tile, scan-tiles}

-- each set is what stands at its address
placed-next : (u : Unpack) (xs : List ℕ) (at : ℕ) (ts : List Tile) (bs rest : List ℕ) → Tiled u ts bs → drop at xs ≡ bs ++ rest → AllByRecursion (λ f. next u (drop f.at xs) ≡ tile (holds f.set)) (placed at ts)
unfolding placed Tiled
placed-next u xs at [] bs rest t e = tt
placed-next u xs at (filler ∷ ts) bs rest t e =
    let cut = e ∙ ap (λ l. l ++ rest) t.2 ∙ append_assoc t.0 t.1 rest in
    placed-next u xs (at + 1) ts t.1 rest t.4 (sym (drop-drop 1 at xs) ∙ ap (drop 1) cut ∙ drop_at t.0 (t.1 ++ rest) 1 t.3.all)
placed-next u xs at (holds s ∷ ts) bs rest t e =
    let cut = e ∙ ap (λ l. l ++ rest) t.2 ∙ append_assoc t.0 t.1 rest in
    (ap (next u) cut ∙ t.3.alone (t.1 ++ rest), placed-next u xs (at + size s) ts t.1 rest t.4 (sym (drop-drop (size s) at xs) ∙ ap (drop (size s)) cut ∙ drop_at t.0 (t.1 ++ rest) (size s) t.3.all))

pub found-next : (xs : List ℕ) → AllByRecursion (λ f. next unpacked (drop f.at xs) ≡ tile (holds f.set)) (found xs)
found-next xs = let t = scan-tiles unpacked xs in placed-next unpacked xs 0 (scan unpacked xs).tiles t.0 t.1 t.3 t.2

pub next-parse : (u : Unpack) (xs : List ℕ) (t : Tile) → next u xs ≡ tile t → parse xs ≡ tile t
unfolding next
next-parse u xs t e = checked-tile u (parse xs) t e

-- one set after another
module _ (fs : List Found) (i : ℕ) (f : Found) (in' : i < length fs) (is : f ≡ get_or fs i f) where
  here : drop i fs ≡ f ∷ drop (i + 1) fs
  here = drop_more fs i f in' ∙ ap (λ g. g ∷ drop (i + 1) fs) (sym is)

  pub repeat_here : stood (take i fs) f ≡ true → Some f.at ≡ repeat_from (take i fs) (drop i fs)
  repeat_here e = sym (ap (repeat_from (take i fs)) here ∙ cond-true (stood (take i fs) f) (Some f.at) (repeat_from (take i fs ++ f ∷ []) (drop (i + 1) fs)) e)

  pub repeat_on : stood (take i fs) f ≡ false → repeat_from (take i fs) (drop i fs) ≡ repeat_from (take (i + 1) fs) (drop (i + 1) fs)
  repeat_on e =
      ap (repeat_from (take i fs)) here ∙ cond-false (stood (take i fs) f) (Some f.at) (repeat_from (take i fs ++ f ∷ []) (drop (i + 1) fs)) e
      ∙ ap (λ l. repeat_from l (drop (i + 1) fs)) (ap (λ g. take i fs ++ g ∷ []) is ∙ sym (take_more fs i f in'))

pub repeat-end : (fs : List Found) (i : ℕ) → length fs ≤ i → None ≡ repeat_from (take i fs) (drop i fs)
repeat-end fs i h = sym (ap (repeat_from (take i fs)) (drop_all i fs h))
