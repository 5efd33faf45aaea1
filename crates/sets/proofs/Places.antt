-- Where a tile at an address ends, and a step by its parse.
use Rattle.std.proofs.Common.{◌≡◌, ℕ, ◌+◌, ◌≤◌, ltb, List, ◌++◌, length, take, drop, Ok, sym, ap, ◌∙◌, arith, length-append, length-drop}
use Rattle.std.proofs.lemmas.Bool.{cond_both}
use Rattle.sets.specs.Sets.{Set, filler, holds, long, size}
use Rattle.sets.specs.Parsing.{Step, tile, parse}
use Rattle.sets.specs.Scans.{Unpack, examined, checked, next}
use Rattle.sets.proofs.Fronts.{front, own-bytes}

pub next-is : (u : Unpack) (st : Step) (bs : List ℕ) → st ≡ parse bs → next u bs ≡ checked u st
unfolding next
next-is u st bs e = ap (checked u) (sym e)

long-some : (n : ℕ) → 1 ≤ long n
long-some n = cond_both (ltb n 0x80) 1 2 (λ k. 1 ≤ k) (λ e. omega arith) (λ e. omega arith)

-- a set has three bytes or more, and ends inside
pub set-within : (xs : List ℕ) (at : ℕ) (s : Set) → tile (holds s) ≡ parse (drop at xs) → (3 ≤ size s) × (at + size s ≤ length xs)
set-within xs at s e =
    let sound = (front (drop at xs) (holds s) (sym e)).1 in
    let three : 3 ≤ size s = omega (arith, sound.1, long-some (length s.object)) in
    (three, omega (arith, (own-bytes (drop at xs) s (sym e)).0, length-drop at xs))

pub filler-within : (xs : List ℕ) (at : ℕ) → tile filler ≡ parse (drop at xs) → at + 1 ≤ length xs
filler-within xs at e =
    let f = (front (drop at xs) filler (sym e)).0 in
    omega (arith, ap length f.cut, length-append f.own f.rest, f.many, length-drop at xs)

-- a set whose object unpacks stands there whatever follows its bytes
pub set-alone : (u : Unpack) (xs : List ℕ) (at : ℕ) (s : Set) (object : List ℕ) → tile (holds s) ≡ parse (drop at xs) → u s.code s.object ≡ Ok object → (ys : List ℕ) → next u (take (size s) (drop at xs) ++ ys) ≡ tile (holds s)
set-alone u xs at s object e good ys = next-is u (tile (holds s)) (take (size s) (drop at xs) ++ ys) (sym ((own-bytes (drop at xs) s (sym e)).1 ys)) ∙ ap (examined s) good
