-- What stands in a gap can be laid out again.
use Rattle.std.proofs.Common.{◌≡◌, ℕ, zero, suc, ◌+◌, ◌*◌, ◌≤◌, Bool, true, false, not, ◌&&◌, ltb, leb, List, [], ◌∷◌, ◌++◌, map, length, take, drop, Ok, filter, sym, refl, ap, ◌∙◌, subst, arith}
use mathlib.Core.List.{map-append}
use Rattle.std.specs.List.{AllByRecursion}
use Rattle.std.proofs.ByRecursion.{All-weaker, All-map, all_kept_by, kept_by_passes}
use Rattle.std.proofs.lemmas.Bool.{and_parts, not-true}
use Rattle.codes.specs.declared.kind.Kind.{Kind}
use Rattle.codes.specs.declared.kind.Kind.TheVariants.{Application, Compact, Utf8}
use Rattle.codes.specs.Numbers.{kind_number}
use Rattle.sets.specs.Sets.{holds}
use Rattle.sets.specs.Parsing.{tile}
use Rattle.sets.specs.Objects.{unpacked}
use Rattle.sets.specs.Scans.{next, Found}
use Rattle.sets.specs.Readings.{Memory, Entry, Reading, found, sealed, entry, reads}
use Rattle.sets.proofs.Repeats.{found-next}
use Rattle.rivals.specs.Memories.{Shaped, opens_in, gap_entries}
use Rattle.rivals.specs.Promises.{gap_before, gap_behind}
use Rattle.rivals.specs.Relaid.{Distinct, list_around, sets_before, sets_from}
use Rattle.rivals.specs.Rooms as rooms
use Rattle.rivals.proofs.Anew.{reads_distinct, place_in-gap}
use Rattle.rivals.proofs.Bridges.{faultless}
use Rattle.rivals.proofs.Fits.{entries_fit}
use Rattle.rivals.proofs.Promised.{list-with}
use Rattle.writing.specs.Forms.{Wanted}
use Rattle.layout.specs.Plans.{nth}
use Rattle.layout.specs.Anew.{entry_of}
use Rattle.effects.specs.Bytes.{Given}
use Rattle.effects.specs.Held.{kind_of, wanted_of, items_of, ItemsHeld, ItemsOnly, ItemNamed}
use Rattle.effects.proofs.Lists.{distinct_left, distinct_right}
use Rattle.effects.proofs.Gaps.{around}
use Rattle.effects.proofs.Spoken.{OfBytes, set-under}

-- the entries of a gap
all_unmap : {A B : Type 0} (P : B → Type 0) (f : A → B) (xs : List A) → AllByRecursion P (map f xs) → AllByRecursion (λ x. P (f x)) xs
all_unmap P f [] a = tt
all_unmap P f (x ∷ xs) a = (a.0, all_unmap P f xs a.1)

abbrev Holdable : Entry → Type 0
Holdable e = rooms.Fit e × OfBytes e × (e.sealed ≡ false)

both : {A : Type 0} (P Q : A → Type 0) (xs : List A) → AllByRecursion P xs → AllByRecursion Q xs → AllByRecursion (λ x. P x × Q x) xs
both P Q [] a b = tt
both P Q (x ∷ xs) a b = ((a.0, b.0), both P Q xs a.1 b.1)

gap_holdable : (m : Memory) (r : Reading) → Shaped m → length m.bytes ≤ 1024 → reads m ≡ Ok r → (p n : ℕ) → AllByRecursion Holdable (gap_entries m p n)
gap_holdable m r sh small e p n =
    let fs : List Found = found m.bytes in
    let test : Found → Bool = opens_in m p n in
    let fit : AllByRecursion (λ f. rooms.Fit (entry m f)) fs = all_unmap rooms.Fit (entry m) fs (subst (AllByRecursion rooms.Fit) (sym (faultless m r e).list) (entries_fit m r small e)) in
    let bytes : AllByRecursion (λ f. OfBytes (entry m f)) fs = All-weaker (λ f. next unpacked (drop f.at m.bytes) ≡ tile (holds f.set)) (λ f. OfBytes (entry m f)) (λ f h. set-under m sh.small f h) fs (found-next m.bytes) in
    let kept = all_kept_by test (λ f. rooms.Fit (entry m f) × OfBytes (entry m f)) fs (both (λ f. rooms.Fit (entry m f)) (λ f. OfBytes (entry m f)) fs fit bytes) in
    let passed = kept_by_passes test fs in
    All-map Holdable (entry m) (filter test fs)
    (All-weaker (λ f. (rooms.Fit (entry m f) × OfBytes (entry m f)) × (test f ≡ true)) (λ f. Holdable (entry m f))
    (λ f h.
    let parts = and_parts (leb (p * m.size) f.at) (ltb f.at ((p + n) * m.size) && not (sealed m f)) h.1 in
    (h.0.0, h.0.1, not-true (sealed m f) (and_parts (ltb f.at ((p + n) * m.size)) (not (sealed m f)) parts.1).1))
    (filter test fs) (both (λ f. rooms.Fit (entry m f) × OfBytes (entry m f)) (λ f. test f ≡ true) (filter test fs) kept passed))

-- items and entries
kind-back : (k : ℕ) → k ≤ 2 → kind_number (kind_of k) ≡ k
kind-back zero h = refl
kind-back (suc zero) h = refl
kind-back (suc (suc zero)) h = refl
kind-back (suc (suc (suc k))) h = absurd (omega arith)

kind-again : (k : Kind) → kind_of (kind_number k) ≡ k
kind-again Application = refl
kind-again Compact = refl
kind-again Utf8 = refl

items_back : (es : List Entry) → AllByRecursion Holdable es → map entry_of (map wanted_of es) ≡ es
items_back [] a = refl
items_back (e ∷ es) a =
    let kind : kind_number (kind_of e.kind) ≡ e.kind = kind-back e.kind a.0.0.kind in
    (λ i. record { identifier = e.identifier; kind = kind i; object = e.object; sealed = sym a.0.2 i } ∷ items_back es a.1 i)

items_given : (es : List Entry) → AllByRecursion Holdable es → AllByRecursion Given (map wanted_of es)
items_given [] a = tt
items_given (e ∷ es) a =
    (record { fit = record { identifier = a.0.0.identifier; object = (a.0.0.some, a.0.0.few) }; identifier = a.0.1.0; object = a.0.1.1 }, items_given es a.1)

again : (ws : List Wanted) → map wanted_of (map entry_of ws) ≡ ws
again [] = refl
again (w ∷ ws) = (λ i. record { identifier = w.identifier; kind = kind-again w.kind i; object = w.object } ∷ again ws i)

pub items_held : ItemsHeld
unfolding items_of
items_held m r sh small e p n gap =
    let all = gap_holdable m r sh small e p n in
    record { shaped = sh; read = e; gap = gap; given = items_given (gap_entries m p n) all; are = items_back (gap_entries m p n) all }

pub items_only : ItemsOnly
unfolding items_of
items_only m p n ws are = sym (again ws) ∙ ap (map wanted_of) are

-- a list in which no identifier stands twice parts in one way only at an identifier
once : (x : Entry) (ys : List Entry) (y : Entry) (zs : List Entry) → x.identifier ≡ y.identifier → AllByRecursion (λ d. x.identifier ≡ d.identifier → ⊥) (ys ++ (y ∷ zs)) → ⊥
once x [] y zs same a = a.0 same
once x (z ∷ ys) y zs same a = once x ys y zs same a.1

part-once : (x y : Entry) (xs ys xs' ys' : List Entry) → x.identifier ≡ y.identifier → Distinct (xs ++ (x ∷ ys)) → xs ++ (x ∷ ys) ≡ xs' ++ (y ∷ ys') → (xs ≡ xs') × (x ≡ y) × (ys ≡ ys')
part-once x y [] ys [] ys' same d e = (refl, cc, cc)
part-once x y [] ys (a ∷ xs') ys' same d e =
    let those : ys ≡ xs' ++ (y ∷ ys') = cc in
    absurd (once x xs' y ys' same (subst (AllByRecursion (λ d. x.identifier ≡ d.identifier → ⊥)) those d.0))
part-once x y (a ∷ xs) ys [] ys' same d e =
    let this : a ≡ y = cc in
    absurd (once a xs x ys (ap (λ b. b.identifier) this ∙ sym same) d.0)
part-once x y (a ∷ xs) ys (b ∷ xs') ys' same d e =
    let this : a ≡ b = cc in
    let those : xs ++ (x ∷ ys) ≡ xs' ++ (y ∷ ys') = cc in
    let rest = part-once x y xs ys xs' ys' same d.1 those in
    ((λ i. this i ∷ rest.0 i), rest.1, rest.2)

pub item_named : ItemNamed
item_named m r fs f gs p n ws i lies k in' same =
    let gb : List Entry = gap_before m fs in
    let gh : List Entry = gap_behind m gs in
    let x : Entry = entry m f in
    let place = place_in-gap m r i.shaped i.read fs f gs p n lies in
    let split : map entry_of (take k ws) ++ (entry_of (nth ws k) ∷ map entry_of (drop (suc k) ws)) ≡ gb ++ (x ∷ gh) =
    sym (map-append entry_of (take k ws) (nth ws k ∷ drop (suc k) ws)) ∙ ap (map entry_of) (around k ws in') ∙ i.are ∙ place.0 in
    let whole : Distinct (list_around m p n (gb ++ (x ∷ gh))) = subst Distinct (list-with m r i.shaped i.read fs f gs p n lies ∙ sym (place.1 (x ∷ []))) (reads_distinct m r i.read) in
    let inner : Distinct (gb ++ (x ∷ gh)) = distinct_left (gb ++ (x ∷ gh)) (map (entry m) (sets_from m (p + n))) (distinct_right (map (entry m) (sets_before m p)) ((gb ++ (x ∷ gh)) ++ map (entry m) (sets_from m (p + n))) whole) in
    let three = part-once (entry_of (nth ws k)) x (map entry_of (take k ws)) (map entry_of (drop (suc k) ws)) gb gh same (subst Distinct (sym split) inner) split in
    record { shaped = i.shaped; read = i.read; lies = lies; given = i.given; inside = in'; before = three.0; is = three.1; behind = three.2 }
