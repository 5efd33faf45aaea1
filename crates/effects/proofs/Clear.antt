-- Sets that stand end to end do not overlap.
use Rattle.std.proofs.Common.{◌≡◌, ℕ, ◌+◌, ◌≤◌, ◌⊎◌, List, [], ◌∷◌, ◌++◌, length, refl, ap, subst, inl, inr, arith, length-append}
use Rattle.std.specs.List.{AllByRecursion}
use Rattle.std.proofs.ByRecursion.{all-has, has_append_right, All-weaker}
use Rattle.sets.specs.Sets.{Tile, filler, holds, size}
use Rattle.sets.specs.Scans.{Found, placed, behind}

pub placed-from : (ts : List Tile) (at : ℕ) → AllByRecursion (λ g. at ≤ g.at) (placed at ts)
unfolding placed
placed-from [] at = tt
placed-from (filler ∷ ts) at = All-weaker (λ g. at + 1 ≤ g.at) (λ g. at ≤ g.at) (λ g h. omega arith) (placed (at + 1) ts) (placed-from ts (at + 1))
placed-from (holds s ∷ ts) at = (omega arith, All-weaker (λ g. at + size s ≤ g.at) (λ g. at ≤ g.at) (λ g h. omega arith) (placed (at + size s) ts) (placed-from ts (at + size s)))

abbrev pub ClearOf : Found → Found → Type 0
ClearOf f g = (behind g ≤ f.at) ⊎ (behind f ≤ g.at)

pub placed-clear : (ts : List Tile) (at : ℕ) (fs : List Found) (f : Found) (gs : List Found) → placed at ts ≡ fs ++ (f ∷ gs) → AllByRecursion (ClearOf f) fs × AllByRecursion (ClearOf f) gs
unfolding placed
placed-clear [] at fs f gs e = absurd (omega (arith, ap length e, length-append fs (f ∷ gs)))
placed-clear (filler ∷ ts) at fs f gs e = placed-clear ts (at + 1) fs f gs e
placed-clear (holds s ∷ ts) at [] f gs e =
    let g : Found = record { at = at; set = s } in
    let this : g ≡ f = cc in
    let those : placed (at + size s) ts ≡ gs = cc in
    (tt, subst (AllByRecursion (ClearOf f)) those (All-weaker (λ x. at + size s ≤ x.at) (ClearOf f) (λ x h. inr (subst (λ y. behind y ≤ x.at) this h)) (placed (at + size s) ts) (placed-from ts (at + size s))))
placed-clear (holds s ∷ ts) at (x ∷ fs) f gs e =
    let g : Found = record { at = at; set = s } in
    let this : g ≡ x = cc in
    let those : placed (at + size s) ts ≡ fs ++ (f ∷ gs) = cc in
    let rest = placed-clear ts (at + size s) fs f gs those in
    let later : (at + size s ≤ f.at) = all-has (λ y. at + size s ≤ y.at) (fs ++ (f ∷ gs)) f (subst (AllByRecursion (λ y. at + size s ≤ y.at)) those (placed-from ts (at + size s))) (has_append_right fs (f ∷ gs) f (0, omega arith, λ d. refl)) in
    ((inl (subst (λ y. behind y ≤ f.at) this later), rest.0), rest.1)
