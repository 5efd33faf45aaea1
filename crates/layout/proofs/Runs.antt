-- Tiles of a gap, as they are put one after another.
use Rattle.std.proofs.Common.{◌≡◌, ℕ, zero, suc, ◌+◌, ◌-◌, ◌<◌, ◌≤◌, min, List, [], ◌∷◌, ◌++◌, map, length, get_or, take, replicate, sym, refl, ap, ◌∙◌, subst, append_assoc, append-nil, arith, length-append}
use Rattle.std.specs.List.{AllByRecursion}
use Rattle.std.proofs.lemmas.List.{length-map, map-append, drop_all}
use Rattle.std.proofs.ByRecursion.{All-get_or, All-take}
use Rattle.sets.specs.Sets.{Tile, filler, holds, size}
use Rattle.sets.specs.Writing.{encode}
use Rattle.sets.specs.Layouts.{written, laid}
use Rattle.sets.proofs.Written.{encoded_size}
use Rattle.writing.specs.declared.items.Item.{Item}
use Rattle.writing.specs.Forms.{Wanted, Fit, formed, wanted}
use Rattle.writing.specs.Puts.{Puts}
use Rattle.writing.proofs.Formed.{form_writable}
use Rattle.writing.proofs.Puttings.{puts_none, puts_then}
use Rattle.layout.specs.Plans.{least, total, run, taken, locked_plan}
use Rattle.layout.proofs.Totals.{here, one_more, sum_more, total-take, all_items}

pub encoded : (extra : ℕ) (w : Wanted) → Fit w → extra ≤ 256 → length (encode (formed extra w)) ≡ size (formed extra w)
encoded extra w fit few = encoded_size (formed extra w) (form_writable extra w fit few)

-- tiles end to end
pub laid-append : (ts us : List Tile) → laid (ts ++ us) ≡ laid ts ++ laid us
unfolding laid
laid-append [] us = refl
laid-append (t ∷ ts) us = ap (λ l. written t ++ l) (laid-append ts us) ∙ sym (append_assoc (written t) (laid ts) (laid us))

pub laid_fillers : (k : ℕ) → laid (replicate k filler) ≡ replicate k 0x80
unfolding laid
laid_fillers zero = refl
laid_fillers (suc k) = ap (λ l. 0x80 ∷ l) (laid_fillers k)

-- the bytes of a run
abbrev extra_of : List Wanted → ℕ → ℕ
extra_of [] extra = 0
extra_of (w ∷ ws) extra = extra

pub more-extra : (extra : ℕ) (w : Wanted) → size (formed extra w) ≡ least w + extra
more-extra extra w = omega arith

pub run-bytes : (ws : List Wanted) (extra : ℕ) → AllByRecursion Fit ws → extra ≤ 256 → length (laid (run ws extra)) ≡ total ws + extra_of ws extra
unfolding run laid total
run-bytes [] extra all few = refl
run-bytes (w ∷ []) extra all few = length-append (encode (formed extra w)) [] ∙ omega (arith, encoded extra w all.0 few, more-extra extra w)
run-bytes (w ∷ v ∷ ws) extra all few =
    length-append (encode (formed 0 w)) (laid (run (v ∷ ws) extra)) ∙ omega (arith, encoded 0 w all.0 (omega arith), run-bytes (v ∷ ws) extra all.1 few)

pub plain-bytes : (ws : List Wanted) → AllByRecursion Fit ws → length (laid (run ws 0)) ≡ total ws
plain-bytes [] all = run-bytes [] 0 all (omega arith) ∙ omega arith
plain-bytes (w ∷ ws) all = run-bytes (w ∷ ws) 0 all (omega arith) ∙ omega arith

-- an item more
pub run-push : (ws : List Wanted) (w : Wanted) (extra : ℕ) → run (ws ++ (w ∷ [])) extra ≡ run ws 0 ++ (holds (formed extra w) ∷ [])
unfolding run
run-push [] w extra = refl
run-push (v ∷ []) w extra = refl
run-push (v ∷ u ∷ ws) w extra = ap (λ l. holds (formed 0 v) ∷ l) (run-push (u ∷ ws) w extra)

pub laid-push : (ws : List Wanted) (w : Wanted) (extra : ℕ) → laid (run (ws ++ (w ∷ [])) extra) ≡ laid (run ws 0) ++ encode (formed extra w)
unfolding laid
laid-push ws w extra = ap laid (run-push ws w extra) ∙ laid-append (run ws 0) (holds (formed extra w) ∷ []) ∙ ap (λ l. laid (run ws 0) ++ l) (append-nil (encode (formed extra w)))

put-push : (ws : List Wanted) (w : Wanted) (extra at next : ℕ) (old mid new : List ℕ) → Puts 0 (laid (run ws 0)) old mid at → Puts at (encode (formed extra w)) mid new next → Puts 0 (laid (run (ws ++ (w ∷ [])) extra)) old new next
put-push ws w extra at next old mid new p q =
    subst (λ bs. Puts 0 bs old new next) (sym (laid-push ws w extra)) (puts_then 0 at next (laid (run ws 0)) (encode (formed extra w)) old mid new p q)

all-push : (ws : List Wanted) (w : Wanted) → AllByRecursion Fit (ws ++ (w ∷ [])) → AllByRecursion Fit ws × Fit w
all-push [] w all = (tt, all.0)
all-push (v ∷ ws) w all = let rest = all-push ws w all.1 in ((all.0, rest.0), rest.1)

pub put_none : (items : List Item) (extra : ℕ) (old : List ℕ) → length items ≡ 0 → Puts 0 (laid (run (map wanted items) extra)) old old 0
unfolding run laid
put_none [] extra old h = puts_none 0 old (omega arith)
put_none (i ∷ items) extra old h = absurd (omega arith)

-- the items before the last of a run, one after another, and the last
module _ (items front : List Item) (last : Item) (e : items ≡ front ++ (last ∷ [])) (extra : ℕ) (few : extra ≤ 256) (all : AllByRecursion Fit (map wanted items)) where
  parts : map wanted items ≡ map wanted front ++ (wanted last ∷ [])
  parts = ap (map wanted) e ∙ map-append wanted front (last ∷ [])

  fits : AllByRecursion Fit (map wanted front) × Fit (wanted last)
  fits = all-push (map wanted front) (wanted last) (subst (AllByRecursion Fit) parts all)

  bytes : length (laid (run (map wanted items) extra)) ≡ total (map wanted front) + size (formed extra (wanted last))
  bytes =
      ap (λ ws. length (laid (run ws extra))) parts ∙ ap length (laid-push (map wanted front) (wanted last) extra)
      ∙ length-append (laid (run (map wanted front) 0)) (encode (formed extra (wanted last)))
      ∙ omega (arith, plain-bytes (map wanted front) fits.0, encoded extra (wanted last) fits.1 few)

  pub fit-last : Fit (wanted last)
  fit-last = fits.1

  module _ (i : ℕ) (d : Item) (in' : i < length front) where
    pub fit_at : Fit (wanted (get_or front i d))
    fit_at = subst Fit (here front i d in') (All-get_or Fit (map wanted front) i (wanted d) (omega (arith, length-map front wanted)) fits.0)

    pub room_at : (at room : ℕ) → at ≡ 0 + length (laid (run (take i (map wanted front)) 0)) → length (laid (run (map wanted items) extra)) ≤ room → at + size (formed 0 (wanted (get_or front i d))) ≤ room
    room_at at room h le =
        omega (arith, h, le, bytes, plain-bytes (take i (map wanted front)) (All-take Fit i (map wanted front) fits.0), sum_more front i d in' (total (take i (map wanted front))) (least (wanted (get_or front i d))) refl refl, total-take (i + 1) (map wanted front))

    pub put-more : (at next : ℕ) (old mid new : List ℕ) → Puts 0 (laid (run (take i (map wanted front)) 0)) old mid at → Puts at (encode (formed 0 (wanted (get_or front i d)))) mid new next → Puts 0 (laid (run (take (i + 1) (map wanted front)) 0)) old new next
    put-more at next old mid new p q =
        subst (λ ws. Puts 0 (laid (run ws 0)) old new next) (sym (one_more front i d in')) (put-push (take i (map wanted front)) (wanted (get_or front i d)) 0 at next old mid new p q)

  module _ (i : ℕ) (end : length front ≤ i) where
    pub room-last : (at room : ℕ) → at ≡ 0 + length (laid (run (take i (map wanted front)) 0)) → length (laid (run (map wanted items) extra)) ≤ room → at + size (formed extra (wanted last)) ≤ room
    room-last at room h le = omega (arith, h, le, bytes, ap (λ ws. length (laid (run ws 0))) (all_items front i end), plain-bytes (map wanted front) fits.0)

    pub put-last : (at next : ℕ) (old mid new : List ℕ) → Puts 0 (laid (run (take i (map wanted front)) 0)) old mid at → Puts at (encode (formed extra (wanted last))) mid new next → Puts 0 (laid (run (map wanted items) extra)) old new next
    put-last at next old mid new p q =
        subst (λ ws. Puts 0 (laid (run ws extra)) old new next) (sym parts)
        (put-push (map wanted front) (wanted last) extra at next old mid new (subst (λ ws. Puts 0 (laid (run ws 0)) old mid at) (all_items front i end) p) q)

-- the whole gap
pub gap-locked : (ws : List Wanted) (g left : ℕ) → left ≡ g - total ws → laid (run ws (taken ws left)) ++ replicate (left - taken ws left) 0x80 ≡ laid (locked_plan ws g)
gap-locked ws g left e =
    (λ j. laid (run ws (taken ws (e j))) ++ replicate (e j - taken ws (e j)) 0x80)
    ∙ ap (λ l. laid (run ws (taken ws (g - total ws))) ++ l) (sym (laid_fillers (g - total ws - taken ws (g - total ws))))
    ∙ sym (laid-append (run ws (taken ws (g - total ws))) (replicate (g - total ws - taken ws (g - total ws)) filler))

pub taken-few : (ws : List Wanted) (left : ℕ) → (taken ws left ≤ 256) × (taken ws left ≤ left)
taken-few [] left = (omega arith, omega arith)
taken-few (w ∷ ws) left = (omega arith, omega arith)

pub taken-bytes : (ws : List Wanted) (left : ℕ) → AllByRecursion Fit ws → length (laid (run ws (taken ws left))) ≡ total ws + taken ws left
taken-bytes [] left all = run-bytes [] 0 all (omega arith)
taken-bytes (w ∷ ws) left all = run-bytes (w ∷ ws) (min left 256) all (omega arith)

-- a run and then one byte to the end
pub put_rest : (at k b : ℕ) (bs old mid new : List ℕ) → length mid ≡ length old → Puts 0 bs old mid at → Puts at (replicate (length mid - at) b) mid new (length mid) → k ≡ length old - length bs → new ≡ bs ++ replicate k b
put_rest at k b bs old mid new same p q e =
    let whole = puts_then 0 at (length mid) bs (replicate (length mid - at) b) old mid new p q in
    let is : length mid - at ≡ k = omega (arith, p.ends) in
    let long : length (bs ++ replicate (length mid - at) b) ≡ length old = omega (arith, whole.ends) in
    whole.after ∙ ap (λ l. (bs ++ replicate (length mid - at) b) ++ l) (drop_all (0 + length (bs ++ replicate (length mid - at) b)) old (omega arith)) ∙ append-nil (bs ++ replicate (length mid - at) b) ∙ ap (λ m. bs ++ replicate m b) is
