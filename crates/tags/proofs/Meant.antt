-- What is read from a dump's bytes is the tag that they mean.
use Rattle.std.proofs.Common.{◌≡◌, ℕ, ◌+◌, ◌*◌, ◌<◌, ◌≤◌, Bool, true, false, not, eqb, List, [], map, length, get_or, take, drop, None, sym, refl, ap, ◌∙◌, arith}
use Rattle.std.proofs.lemmas.List.{get_or-take, get_or-map, get_or_past, length-take, length-drop, take-map, take-take, length-map}
use Rattle.std.proofs.lemmas.Bool.{le-ltb, eq-eqb, cond-true, cond-false}
use Rattle.tags.specs.declared.parts.Dump.{Dump}
use Rattle.tags.specs.Tags.{Shaped, in_limits, fits, held, laid, cut}
use Rattle.tags.specs.Dumps.{dump_fault, dump_fits, dump_means, nonzero, size_of, count_of}
use Rattle.tags.proofs.Limits.{limits-parts, fits-from, held-room, held-shaped}
use Rattle.tags.proofs.Cuts.{get_or-cut, block-end}

-- a lock byte read in place
pub lock_at : (n k : ℕ) (l : List ℕ) → k < n → k < length l → not (eqb (get_or l k 0) 0) ≡ get_or (take n (map nonzero l)) k false
lock_at n k l h len = sym (get_or-take n (map nonzero l) k false h ∙ get_or-map nonzero l k 0 false len)

pub lock_past : (n k : ℕ) (l : List Bool) → n ≤ k → false ≡ get_or (take n l) k false
lock_past n k l h = sym (get_or_past (take n l) k false (omega (arith, length-take n l)))

pub no_fault : (xs : List ℕ) → 3 ≤ length xs → in_limits (count_of xs) (size_of xs) ≡ true → length xs ≡ 3 + count_of xs + count_of xs * size_of xs → dump_fault xs ≡ None
no_fault xs long lim exact =
    cond-false _ _ _ (le-ltb (length xs) 3 long) ∙ cond-true _ _ _ lim ∙ cond-true _ _ _ (eq-eqb _ _ exact)

pub read-means : (xs locks content : List ℕ) (n b s : ℕ) → in_limits n b ≡ true → length xs ≡ 3 + n + n * b → locks ≡ take n (drop 3 xs) → content ≡ drop (3 + n) xs → laid (held (fits n b (length content) (length locks)) n) (held (fits n b (length content) (length locks)) b) s content (map nonzero locks) ≡ laid n b s (drop (3 + n) xs) (map nonzero (drop 3 xs))
read-means xs locks content n b s lim exact p q =
    let l = limits-parts n b lim in
    let fit : fits n b (length content) (length locks) ≡ true =
    fits-from n b (length content) (length locks) (omega arith) (omega arith)
    (ap length q ∙ length-drop (3 + n) xs ∙ omega arith)
    (ap length p ∙ length-take n (drop 3 xs) ∙ omega (arith, length-drop 3 xs)) in
    (λ i. laid (held (fit i) n) (held (fit i) b) s (q i) (map nonzero (p i)))
    ∙ ap (λ f. record { count = n; size = b; system = s; blocks = cut n b (drop (3 + n) xs); locks = f })
    (ap (take n) (sym (take-map nonzero n (drop 3 xs))) ∙ take-take n n (map nonzero (drop 3 xs)) (omega arith))

-- every dump means a tag
pub dump_shaped : (d : Dump) → Shaped (dump_means d)
dump_shaped d =
    let n = d.shape.count in
    let b = d.shape.size in
    let m = d.content.now in
    let l = d.locks.now in
    held-shaped n b d.system m (map nonzero l) (dump_fits d) (ap (fits n b (length m)) (sym (length-map l nonzero)))

-- where block k lies in a dump's content
pub dump_inside : (d : Dump) (k : ℕ) → k < (dump_means d).count → k * (dump_means d).size + (dump_means d).size ≤ length d.content.now
dump_inside d k h =
    let n = held (dump_fits d) d.shape.count in
    let b = held (dump_fits d) d.shape.size in
    omega (arith, block-end k n b h, (held-room d.shape.count d.shape.size (length d.content.now) (length d.locks.now) (dump_fits d) refl).0)

pub dump_block : (d : Dump) (k : ℕ) → k < (dump_means d).count → get_or (dump_means d).blocks k [] ≡ take (dump_means d).size (drop (k * (dump_means d).size) d.content.now)
dump_block d k h = get_or-cut (dump_means d).count (dump_means d).size k d.content.now h
