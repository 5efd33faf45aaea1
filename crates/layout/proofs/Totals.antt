-- Sums of smallest forms, item by item.
use Rattle.std.proofs.Common.{◌≡◌, ℕ, zero, suc, ◌+◌, ◌<◌, ◌≤◌, cond, eqb, ltb, List, [], ◌∷◌, ◌++◌, map, length, get_or, take, sym, ap, ◌∙◌, subst, arith}
use Rattle.std.specs.List.{AllByRecursion}
use Rattle.std.proofs.lemmas.List.{length-map, get_or-map, get_or_default, take_more, take_all}
use Rattle.std.proofs.ByRecursion.{All-push}
use Rattle.std.proofs.lemmas.Bool.{cond_both}
use Rattle.codes.specs.declared.kind.Kind.TheVariants.{Application}
use Rattle.codes.specs.Numbers.{kind_number}
use Rattle.codes.specs.Table.{packed_code, first_code}
use Rattle.sets.specs.Sets.{bare, byte, led, name_size, long}
use Rattle.sets.specs.Writing.{shortest}
use Rattle.writing.specs.Forms.{Wanted, Fit, wanted}
use Rattle.writing.proofs.Formed.{packed-most}
use Rattle.writing.specs.declared.items.Item.{Item}
use Rattle.layout.specs.Plans.{least, total}
use Rattle.layout.specs.Lays.{FirstUnfit}

-- a smallest form is not large
short-name : (c : List ℕ) → name_size (shortest c) ≤ suc (length c)
short-name [] = omega arith
short-name (n ∷ []) = cond_both (eqb n 0) (led (n ∷ [])) (cond (ltb n 15) (bare n) (byte n)) (λ m. name_size m ≤ 2) (λ _. omega arith) (λ _. cond_both (ltb n 15) (bare n) (byte n) (λ m. name_size m ≤ 2) (λ _. omega arith) (λ _. omega arith))
short-name (n ∷ m ∷ c) = omega arith

short-long : (n : ℕ) → long n ≤ 2
short-long n = cond_both (ltb n 0x80) 1 2 (λ k. k ≤ 2) (λ _. omega arith) (λ _. omega arith)

pub least-most : (w : Wanted) → Fit w → least w ≤ 2100
least-most w f =
    let n : ℕ = length (packed_code (first_code (kind_number w.kind) w.object) w.object) in
    omega (arith, short-name w.identifier, short-long (length (packed_code (first_code (kind_number w.kind) w.object) w.object)), packed-most w.kind w.object, f.identifier.few, f.object.1)

total-push : (ws : List Wanted) (w : Wanted) → total (ws ++ (w ∷ [])) ≡ total ws + least w
unfolding total
total-push [] w = omega arith
total-push (v ∷ ws) w = omega (arith, total-push ws w)

pub total-take : (k : ℕ) (ws : List Wanted) → total (take k ws) ≤ total ws
unfolding total
total-take zero ws = omega arith
total-take (suc k) [] = omega arith
total-take (suc k) (w ∷ ws) = omega (arith, total-take k ws)

module _ (items : List Item) (i : ℕ) (d : Item) (in' : i < length items) where
  pub here : get_or (map wanted items) i (wanted d) ≡ wanted (get_or items i d)
  here = get_or-map wanted items i d (wanted d) in'

  inside : i < length (map wanted items)
  inside = omega (arith, length-map items wanted)

  pub one_more : take (i + 1) (map wanted items) ≡ take i (map wanted items) ++ (wanted (get_or items i d) ∷ [])
  one_more = take_more (map wanted items) i (wanted d) inside ∙ ap (λ w. take i (map wanted items) ++ (w ∷ [])) here

  pub fit-more : AllByRecursion Fit (take i (map wanted items)) → Fit (wanted (get_or items i d)) → AllByRecursion Fit (take (i + 1) (map wanted items))
  fit-more all fit = subst (AllByRecursion Fit) (sym one_more) (All-push Fit (take i (map wanted items)) (wanted (get_or items i d)) all fit)

  pub sum_more : (sum n : ℕ) → sum ≡ total (take i (map wanted items)) → n ≡ least (wanted (get_or items i d)) → sum + n ≡ total (take (i + 1) (map wanted items))
  sum_more sum n e f = (λ j. e j + f j) ∙ sym (total-push (take i (map wanted items)) (wanted (get_or items i d))) ∙ ap total (sym one_more)

  pub unfit_here : AllByRecursion Fit (take i (map wanted items)) → (Fit (wanted (get_or items i d)) → ⊥) → FirstUnfit (map wanted items) i
  unfit_here all no-fit = record {
    before = all;
    inside = inside;
    unfit = λ e f. no-fit (subst Fit (get_or_default (map wanted items) i e (wanted d) inside ∙ here) f);
  }

-- what an item reads as past the end
abbrev pub blank : Item
blank = record { identifier = record { ref_ptr = (0, 0); now = [] }; kind = Application; object = record { ref_ptr = (0, 0); now = [] } }

pub all_items : (items : List Item) (i : ℕ) → length items ≤ i → take i (map wanted items) ≡ map wanted items
all_items items i h = take_all i (map wanted items) (omega (arith, length-map items wanted))
