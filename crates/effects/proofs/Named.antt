-- Which set and which entry an identifier names.
use Rattle.std.proofs.Common.{◌≡◌, ℕ, zero, suc, ◌<◌, ◌⊎◌, List, [], ◌∷◌, map, length, get_or, sym, refl, ap, ◌∙◌, subst, ⊎_elim, arith}
use Rattle.std.specs.List.{ContainsAt as Has}
use Rattle.std.proofs.ByRecursion.{All-map, All-weaker, all_has_itself}
use Rattle.std.proofs.lemmas.Bool.{cases_order}
use Rattle.sets.specs.Meanings.{Lists, Meant}
use Rattle.sets.specs.Scans.{Found}
use Rattle.sets.specs.Readings.{found, identified, entry}
use Rattle.sets.proofs.Meaning.{meant}
use Rattle.rivals.proofs.Bridges.{faultless}
use Rattle.effects.specs.Lists.{Absent}
use Rattle.effects.specs.Named.{OneSet, SetListed, ListedSet, NoneListed}

pub one_set : OneSet
one_set m r e f g hf hg same =
    let lists : Lists m r = subst (Meant m) e (meant m) in
    let i : ℕ = hf.0 in
    let j : ℕ = hg.0 in
    let fs : List Found = found m.bytes in
    ⊎_elim (λ (q : hf.0 ≡ hg.0). sym (hf.2 f) ∙ ap (λ k. get_or (found m.bytes) k f) q ∙ hg.2 f)
    (λ (q : (hf.0 < hg.0) ⊎ (hg.0 < hf.0)). absurd (⊎_elim
    (λ (lt : hf.0 < hg.0). lists.apart hf.0 hg.0 f lt hg.1 (ap identified (hf.2 f) ∙ same ∙ ap identified (sym (hg.2 f))))
    (λ (gt : hg.0 < hf.0). lists.apart hg.0 hf.0 f gt hf.1 (ap identified (hg.2 f) ∙ sym same ∙ ap identified (sym (hf.2 f))))
    q))
    (cases_order hf.0 hg.0)

-- what a mapped list has
has-map : {A B : Type 0} (f : A → B) (xs : List A) (x : A) → Has xs x → Has (map f xs) (f x)
has-map f [] x h = absurd (omega (arith, h.1))
has-map f (y ∷ xs) x (zero, low, is) = (0, omega arith, λ d. ap f (is y))
has-map f (y ∷ xs) x (suc k, low, is) =
    let rest = has-map f xs x (k, omega arith, is) in
    let in' : rest.0 < length (map f xs) = rest.1 in
    (suc rest.0, omega arith, rest.2)

map-has : {A B : Type 0} (f : A → B) (xs : List A) (y : B) → Has (map f xs) y → (x : A) × Has xs x × (f x ≡ y)
map-has f [] y h = absurd (omega (arith, h.1))
map-has f (x ∷ xs) y (zero, low, is) = (x, (0, omega arith, λ d. refl), is y)
map-has f (x ∷ xs) y (suc k, low, is) =
    let rest = map-has f xs y (k, omega arith, is) in
    let in' : rest.1.0 < length xs = rest.1.1 in
    (rest.0, (suc rest.1.0, omega arith, rest.1.2), rest.2)

pub set-listed : SetListed
set-listed m r e f h = subst (λ l. Has l (entry m f)) (faultless m r e).list (has-map (entry m) (found m.bytes) f h)

pub listed-set : ListedSet
listed-set m r e x h = map-has (entry m) (found m.bytes) x (subst (λ l. Has l x) (sym (faultless m r e).list) h)

pub none-listed : NoneListed
none-listed m r e id none =
    let fs : List Found = found m.bytes in
    subst (Absent id) (faultless m r e).list (All-map (λ x. id ≡ x.identifier → ⊥) (entry m) fs (All-weaker (Has fs) (λ f. id ≡ identified f → ⊥) none fs (all_has_itself fs)))
