-- A readied set in its gap.
use Rattle.std.proofs.Common.{◌≡◌, ℕ, zero, suc, ◌+◌, ◌-◌, ◌<◌, ◌≤◌, List, [], ◌∷◌, ◌++◌, map, length, take, drop, Ok, Err, Result, IsOk, refl, ap, ◌∙◌, add-one, arith, length-drop}
use Rattle.std.proofs.lemmas.List.{length-map, take_all}
use Rattle.std.specs.List.{AllByRecursion}
use Rattle.std.proofs.ByRecursion.{All-get_or, All-take, All-drop}
use Rattle.writing.specs.declared.items.Item.{Item}
use Rattle.writing.specs.Forms.{Wanted, Fit, wanted}
use Rattle.layout.specs.declared.items.Behind.{Behind}
use Rattle.layout.specs.declared.items.Behind.TheVariants.{Locked}
use Rattle.layout.specs.declared.items.LayoutFault.{LayoutFault}
use Rattle.layout.specs.declared.items.LayoutFault.TheVariants.{Unfit, TooSmall, NoPlace}
use Rattle.layout.specs.declared.measured.Measured.{Measured}
use Rattle.layout.specs.Plans.{least, total, nothing, nth, ready_need}
use Rattle.layout.specs.Lays.{laid_gap, three_parts, FirstUnfit, Readies}
use Rattle.layout.specs.Measures.{Measures}
use Rattle.layout.proofs.Totals.{total-take}

no_unfit : (ws : List Wanted) (i : ℕ) → AllByRecursion Fit ws → FirstUnfit ws i → ⊥
no_unfit ws i all h = h.unfit nothing (All-get_or Fit ws i nothing h.inside all)

-- what was measured is measured again
pub measured_again : (items : List Item) (room : ℕ) (r : Result Measured LayoutFault) → AllByRecursion Fit (map wanted items) → total (map wanted items) ≤ room → Measures items room r → IsOk r
measured_again items room (Ok m) all le h = refl
measured_again items room (Err (Unfit i)) all le h = absurd (no_unfit (map wanted items) i all h)
measured_again items room (Err TooSmall) all le h = absurd (omega arith)
measured_again items room (Err NoPlace) all le h = absurd h

-- parts of the items
pub map-take : (n : ℕ) (items : List Item) → map wanted (take n items) ≡ take n (map wanted items)
map-take zero items = refl
map-take (suc n) [] = refl
map-take (suc n) (i ∷ items) = ap (λ l. wanted i ∷ l) (map-take n items)

pub map-drop : (n : ℕ) (items : List Item) → map wanted (drop n items) ≡ drop n (map wanted items)
map-drop zero items = refl
map-drop (suc n) [] = refl
map-drop (suc n) (i ∷ items) = map-drop n items

pub alone : (n : ℕ) (ws : List Wanted) → n < length ws → take 1 (drop n ws) ≡ nth ws n ∷ []
alone n [] h = absurd (omega arith)
alone zero (w ∷ ws) h = refl
alone (suc n) (w ∷ ws) h = alone n ws (omega arith)

pub total-one : (w : Wanted) → total (w ∷ []) ≡ least w
unfolding total
total-one w = omega arith

pub total-parts : (n : ℕ) (ws : List Wanted) → n < length ws → total ws ≡ total (take n ws) + least (nth ws n) + total (drop (suc n) ws)
unfolding total
total-parts n [] h = absurd (omega arith)
total-parts zero (w ∷ ws) h = omega arith
total-parts (suc n) (w ∷ ws) h = omega (arith, total-parts n ws (omega arith))

pub map-part : (from to : ℕ) (items : List Item) → map wanted (take (to - from) (drop from items)) ≡ take (to - from) (drop from (map wanted items))
map-part from to items = map-take (to - from) (drop from items) ∙ ap (take (to - from)) (map-drop from items)

pub part-fit : (from k : ℕ) (ws : List Wanted) → AllByRecursion Fit ws → AllByRecursion Fit (take k (drop from ws))
part-fit from k ws all = All-take Fit k (drop from ws) (All-drop Fit from ws all)

total-drop : (k : ℕ) (ws : List Wanted) → total (drop k ws) ≤ total ws
unfolding total
total-drop zero ws = omega arith
total-drop (suc k) [] = omega arith
total-drop (suc k) (w ∷ ws) = omega (arith, total-drop k ws)

pub part-total : (from k : ℕ) (ws : List Wanted) → total (take k (drop from ws)) ≤ total ws
part-total from k ws = omega (arith, total-take k (drop from ws), total-drop from ws)

-- the items before the readied one, that one, and those behind it
module _ (items : List Item) (n : ℕ) (in' : n < length items) where
  long : length (map wanted items) ≡ length items
  long = length-map items wanted

  pub front-part : take (n - 0) (drop 0 (map wanted items)) ≡ take n (map wanted items)
  front-part = let e : n - 0 ≡ n = omega arith in ap (λ k. take k (map wanted items)) e

  pub mid-part : take (n + 1 - n) (drop n (map wanted items)) ≡ nth (map wanted items) n ∷ []
  mid-part = let e : n + 1 - n ≡ 1 = omega arith in ap (λ k. take k (drop n (map wanted items))) e ∙ alone n (map wanted items) (omega (arith, long))

  pub back-part : take (length items - (n + 1)) (drop (n + 1) (map wanted items)) ≡ drop (suc n) (map wanted items)
  back-part = take_all (length items - (n + 1)) (drop (n + 1) (map wanted items)) (omega (arith, long, length-drop (n + 1) (map wanted items))) ∙ ap (λ k. drop k (map wanted items)) (add-one n)

  pub parts-sum : total (map wanted items) ≡ total (take n (map wanted items)) + least (nth (map wanted items) n) + total (drop (suc n) (map wanted items))
  parts-sum = total-parts n (map wanted items) (omega (arith, long))

-- the same, each measured; and each laid in its part of the gap
module _ (items : List Item) (n : ℕ) (in' : n < length items) (m m₁ m₂ m₃ : Measured) (e : m.items.now ≡ items)
    (e₁ : map wanted m₁.items.now ≡ take (n - 0) (drop 0 (map wanted m.items.now)))
    (e₂ : map wanted m₂.items.now ≡ take (n + 1 - n) (drop n (map wanted m.items.now)))
    (e₃ : map wanted m₃.items.now ≡ take (length items - (n + 1)) (drop (n + 1) (map wanted m.items.now))) where
  front : map wanted m₁.items.now ≡ take n (map wanted items)
  front = e₁ ∙ ap (λ l. take (n - 0) (drop 0 (map wanted l))) e ∙ front-part items n in'

  mid : map wanted m₂.items.now ≡ nth (map wanted items) n ∷ []
  mid = e₂ ∙ ap (λ l. take (n + 1 - n) (drop n (map wanted l))) e ∙ mid-part items n in'

  back : map wanted m₃.items.now ≡ drop (suc n) (map wanted items)
  back = e₃ ∙ ap (λ l. take (length items - (n + 1)) (drop (n + 1) (map wanted l))) e ∙ back-part items n in'

  pub sum-before : m₁.sum ≡ total (take n (map wanted items))
  sum-before = m₁.summed ∙ ap total front

  pub sum-alone : m₂.sum ≡ least (nth (map wanted items) n)
  sum-alone = m₂.summed ∙ ap total mid ∙ total-one (nth (map wanted items) n)

  pub sum-after : m₃.sum ≡ total (drop (suc n) (map wanted items))
  sum-after = m₃.summed ∙ ap total back

  pub sums : m₁.sum + m₂.sum + m₃.sum ≡ m.sum
  sums = omega (arith, sum-before, sum-alone, sum-after, parts-sum items n in', m.summed, ap (λ l. total (map wanted l)) e)

  pub laid-parts : (behind : Behind) (at end g l₁ l₂ l₃ : ℕ) (x y z : List ℕ)
      → x ≡ laid_gap Locked (map wanted m₁.items.now) l₁ → y ≡ laid_gap Locked (map wanted m₂.items.now) l₂ → z ≡ laid_gap behind (map wanted m₃.items.now) l₃
      → l₁ ≡ at → l₂ ≡ end - at → l₃ ≡ g - end → x ++ (y ++ z) ≡ three_parts behind (map wanted items) n at end g
  laid-parts behind at end g l₁ l₂ l₃ x y z p q r f₁ f₂ f₃ =
      (λ j. p j ++ (q j ++ r j)) ∙ (λ j. laid_gap Locked (front j) (f₁ j) ++ (laid_gap Locked (mid j) (f₂ j) ++ laid_gap behind (back j) (f₃ j)))

-- whole blocks are no fewer bytes, so what readied sets need is no less than the sum
pub need_more : (b : ℕ) (items : List Item) (n room : ℕ) → n < length items → room < total (map wanted items) → room < ready_need b (take n (map wanted items)) (nth (map wanted items) n) (drop (suc n) (map wanted items))
need_more b items n room in' h = omega (arith, parts-sum items n in')

pub measured_err : (behind : Behind) (b : ℕ) (items : List Item) (n : ℕ) (old : List ℕ) (f : LayoutFault) → n < length items → Measures items (length old) (Err f) → Readies behind b (map wanted items) n old old (Err f)
measured_err behind b items n old (Unfit i) in' h = (h, refl)
measured_err behind b items n old TooSmall in' h = (need_more b items n (length old) in' h, refl)
measured_err behind b items n old NoPlace in' h = absurd h
