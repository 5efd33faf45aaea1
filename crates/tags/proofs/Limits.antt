-- The tests on a shape, taken apart and put together.
use Rattle.std.proofs.Common.{◌≡◌, ℕ, ◌*◌, ◌<◌, ◌≤◌, Bool, true, false, List, length, sym, refl, zero-mul, arith}
use Rattle.std.proofs.lemmas.Bool.{and_parts, and_from, leb-true, eqb-true, le-leb, eq-eqb}
use Rattle.tags.specs.Tags.{Shaped, laid, in_limits, fits, held}
use Rattle.tags.proofs.Cuts.{laid-shaped}

pub limits-parts : (n b : ℕ) → in_limits n b ≡ true → (1 ≤ b) × (b ≤ 32) × (1 ≤ n) × (n ≤ 255) × (n * b ≤ 1024)
limits-parts n b e =
    let p = and_parts _ _ e in
    let q = and_parts _ _ p.0 in
    let r = and_parts _ _ q.0 in
    let s = and_parts _ _ r.0 in
    (leb-true 1 b s.0, leb-true b 32 s.1, leb-true 1 n r.1, leb-true n 255 q.1, leb-true (n * b) 1024 p.1)

pub fits-parts : (n b m l : ℕ) → fits n b m l ≡ true → (n ≤ 256) × (b ≤ 256) × (m ≡ n * b) × (l ≡ n)
fits-parts n b m l e =
    let p = and_parts _ _ e in
    let q = and_parts _ _ p.0 in
    let r = and_parts _ _ q.0 in
    (leb-true n 256 r.0, leb-true b 256 r.1, eqb-true m (n * b) q.1, eqb-true l n p.1)

pub fits-from : (n b m l : ℕ) → n ≤ 256 → b ≤ 256 → m ≡ n * b → l ≡ n → fits n b m l ≡ true
fits-from n b m l few small content flags =
    and_from _ _ (and_from _ _ (and_from _ _ (le-leb n 256 few) (le-leb b 256 small)) (eq-eqb m (n * b) content)) (eq-eqb l n flags)

-- a block below the held count is one of memory that fits
pub held_below : (fit : Bool) (k n : ℕ) → k < held fit n → (fit ≡ true) × (k < n)
held_below true k n h = (refl, h)
held_below false k n h = absurd (omega arith)

-- whatever memory and flags there are, what is held of them is there
pub held-room : (n b m l : ℕ) (fit : Bool) → fit ≡ fits n b m l → (held fit n * held fit b ≤ m) × (held fit n ≤ l) × (held fit n ≤ 256) × (held fit b ≤ 256)
held-room n b m l true e = let p = fits-parts n b m l (sym e) in (omega arith, omega arith, p.0, p.1)
held-room n b m l false e = (omega (arith, zero-mul 0), omega arith, omega arith, omega arith)

pub held-shaped : (n b s : ℕ) (m : List ℕ) (l : List Bool) (fit : Bool) → fit ≡ fits n b (length m) (length l) → Shaped (laid (held fit n) (held fit b) s m l)
held-shaped n b s m l fit e =
    let p = held-room n b (length m) (length l) fit e in
    laid-shaped (held fit n) (held fit b) s m l p.0 p.1 p.2 p.3
