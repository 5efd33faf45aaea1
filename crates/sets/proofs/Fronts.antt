-- A tile depends on its own bytes only, and has no fewer than its smallest form.
use Rattle.std.proofs.Common.{◌≡◌, ℕ, zero, suc, ◌+◌, ◌-◌, ◌/◌, ◌%◌, ◌≤◌, Bool, true, false, cond, eqb, ltb, List, [], ◌∷◌, ◌++◌, length, take, sym, refl, ap, ◌∙◌, subst, arith, length-append}
use Rattle.std.proofs.lemmas.List.{take_at}
use Rattle.std.proofs.lemmas.Bool.{eqb-true, eqb-false, ne_eqb, lt-ltb, le-ltb, cond-true, cond-false, cond_both}
use Rattle.sets.specs.Sets.{Name, bare, byte, led, content, name_size, Set, Tile, filler, holds, long, offset_size, size, wide}
use Rattle.sets.specs.Parsing.{Step, end, tile, wrong, Read, got, bad, then, run, offset, identifier, size_of_object, body, told, parse}
use Rattle.sets.specs.Writing.{shortest}
use Rattle.sets.specs.Laws.{Fitting, OwnBytes, Floor}
use Rattle.sets.proofs.Parts.{Owned, then-parts, then_owned, got_owned, run_owned, offset_owned, identifier_owned, length_owned}

-- a set as far as it is read
abbrev pub made : ℕ → ℕ → Name → List ℕ → Set
made p e n o = record { extra = e; name = n; code = p / 16 % 8; object = o }

abbrev pub pad_on : ℕ → ℕ → Name → List ℕ → List ℕ → Read Set
pad_on p e n o bs = then (run (e - 1) bs) (λ pad r. got (made p e n o) r)

abbrev pub object_on : ℕ → ℕ → Name → ℕ → List ℕ → Read Set
object_on p e n k bs = then (run k bs) (λ o r. pad_on p e n o r)

abbrev pub length_on : ℕ → ℕ → Name → List ℕ → Read Set
length_on p e n bs = then (size_of_object bs) (λ k r. object_on p e n k r)

abbrev pub name_on : ℕ → ℕ → List ℕ → Read Set
name_on p e bs = then (identifier (p % 16) bs) (λ n r. length_on p e n r)

pub offset-pad : (e : ℕ) → offset_size e + (e - 1) ≡ e
offset-pad zero = refl
offset-pad (suc v) = omega arith

module _ (p : ℕ) where
  abbrev K₄ : ℕ → Name → List ℕ → Set → ℕ → Type 0
  K₄ e n o s m = (m ≡ e - 1) × (s.extra ≡ e) × (s.name ≡ n) × (s.object ≡ o)

  pad_owned : (e : ℕ) (n : Name) (o xs rest : List ℕ) (s : Set) → pad_on p e n o xs ≡ got s rest → Owned Set (pad_on p e n o) xs s rest (K₄ e n o)
  pad_owned e n o xs rest s h =
      let parts = then-parts (run (e - 1) xs) (λ pad r. got (made p e n o) r) s rest h in
      then_owned (run (e - 1)) (λ pad r. got (made p e n o) r) xs parts.1 rest parts.0 s (λ v m. (m ≡ e - 1) × (length v ≡ e - 1)) (λ w m. (m ≡ 0) × (w.extra ≡ e) × (w.name ≡ n) × (w.object ≡ o)) (K₄ e n o)
      (run_owned (e - 1) xs parts.1 parts.0 parts.2)
      (got_owned (made p e n o) s parts.1 rest (λ w m. (m ≡ 0) × (w.extra ≡ e) × (w.name ≡ n) × (w.object ≡ o)) parts.3 (refl, refl, refl, refl))
      (λ m k j q. (omega arith, q.1, q.2, q.3))

  abbrev K₃ : ℕ → Name → ℕ → Set → ℕ → Type 0
  K₃ e n k s m = (m ≡ k + (e - 1)) × (s.extra ≡ e) × (s.name ≡ n) × (length s.object ≡ k)

  object_owned : (e : ℕ) (n : Name) (k : ℕ) (xs rest : List ℕ) (s : Set) → object_on p e n k xs ≡ got s rest → Owned Set (object_on p e n k) xs s rest (K₃ e n k)
  object_owned e n k xs rest s h =
      let parts = then-parts (run k xs) (λ o r. pad_on p e n o r) s rest h in
      then_owned (run k) (λ o r. pad_on p e n o r) xs parts.1 rest parts.0 s (λ v m. (m ≡ k) × (length v ≡ k)) (K₄ e n parts.0) (K₃ e n k)
      (run_owned k xs parts.1 parts.0 parts.2)
      (pad_owned e n parts.0 parts.1 rest s parts.3)
      (λ m l j q. (omega arith, q.1, q.2, ap length q.3 ∙ j.1))

  abbrev K₂ : ℕ → Name → Set → ℕ → Type 0
  K₂ e n s m = (m ≡ long (length s.object) + length s.object + (e - 1)) × (s.extra ≡ e) × (s.name ≡ n) × (1 ≤ length s.object)

  length_on_owned : (e : ℕ) (n : Name) (xs rest : List ℕ) (s : Set) → length_on p e n xs ≡ got s rest → Owned Set (length_on p e n) xs s rest (K₂ e n)
  length_on_owned e n xs rest s h =
      let parts = then-parts (size_of_object xs) (λ k r. object_on p e n k r) s rest h in
      let k = parts.0 in
      then_owned size_of_object (λ k r. object_on p e n k r) xs parts.1 rest k s (λ v m. (m ≡ long v) × (1 ≤ v)) (K₃ e n k) (K₂ e n)
      (length_owned xs parts.1 k parts.2)
      (object_owned e n k parts.1 rest s parts.3)
      (λ m l j q. (omega (arith, j.0, ap long q.3), q.1, q.2, omega arith))

  abbrev K₁ : ℕ → Set → ℕ → Type 0
  K₁ e s m = (m ≡ name_size s.name + long (length s.object) + length s.object + (e - 1)) × (s.extra ≡ e) × Fitting s.name × (1 ≤ length s.object)

  name_owned : (e : ℕ) (xs rest : List ℕ) (s : Set) → 1 ≤ p % 16 → name_on p e xs ≡ got s rest → Owned Set (name_on p e) xs s rest (K₁ e)
  name_owned e xs rest s some h =
      let parts = then-parts (identifier (p % 16) xs) (λ n r. length_on p e n r) s rest h in
      let n = parts.0 in
      then_owned (identifier (p % 16)) (λ n r. length_on p e n r) xs parts.1 rest n s (λ w m. (m ≡ name_size w) × Fitting w) (K₂ e n) (K₁ e)
      (identifier_owned (p % 16) xs parts.1 n some parts.2)
      (length_on_owned e n parts.1 rest s parts.3)
      (λ m l j q. (omega (arith, ap name_size q.2), q.1, subst Fitting (sym q.2) j.1, q.3))

  abbrev K₀ : Set → ℕ → Type 0
  K₀ s m = (suc m ≡ size s) × Fitting s.name × (1 ≤ length s.object)

  pub body_owned : (xs rest : List ℕ) (s : Set) → 1 ≤ p % 16 → body p xs ≡ got s rest → Owned Set (body p) xs s rest K₀
  unfolding body
  body_owned xs rest s some h =
      let parts = then-parts (offset p xs) (λ e r. name_on p e r) s rest h in
      let e = parts.0 in
      then_owned (offset p) (λ e r. name_on p e r) xs parts.1 rest e s (λ v m. m ≡ offset_size v) (K₁ e) K₀
      (offset_owned p xs parts.1 e parts.2)
      (name_owned e parts.1 rest s some parts.3)
      (λ m l j q. (omega (arith, offset-pad e), q.2, q.3))

-- the front of memory, where a tile stands there
pub record Front (xs : List ℕ) (t : Tile) : Type 0 where
  pub own : List ℕ
  pub rest : List ℕ
  pub cut : xs ≡ own ++ rest
  pub many : length own ≡ wide t
  pub alone : (ys : List ℕ) → parse (own ++ ys) ≡ tile t

-- what holds of a set that is read
abbrev pub Sound : Tile → Type 0
Sound filler = Unit {0}
Sound (holds s) = Fitting s.name × (1 ≤ length s.object)

pub told-parts : (q : Read Set) (s : Set) → told q ≡ tile (holds s) → (rest : List ℕ) × (q ≡ got s rest)
told-parts (got r rest) s e = (rest, ap (λ z. got z rest) (cc))
told-parts (bad n) s e = let z : ◌≡◌ {A = ℕ} 0 1 = cc in absurd (omega arith)

told_no_filler : (q : Read Set) → told q ≡ tile filler → ⊥
told_no_filler (got r rest) e = let z : ◌≡◌ {A = ℕ} 0 1 = cc in omega arith
told_no_filler (bad n) e = let z : ◌≡◌ {A = ℕ} 0 1 = cc in omega arith

abbrev seven : Step
seven = wrong (record { number = 7; group = 0 })

-- a set at the front, past the three tests of its precursor
past : (p : ℕ) (bs : List ℕ) → (p ≡ 0 → ⊥) → (p ≡ 0x80 → ⊥) → (p % 16 ≡ 0 → ⊥) → parse (p ∷ bs) ≡ told (body p bs)
unfolding parse
past p bs a b c =
    cond-false (eqb p 0) end (cond (eqb p 0x80) (tile filler) (cond (eqb (p % 16) 0) seven (told (body p bs)))) (ne_eqb p 0 a)
    ∙ cond-false (eqb p 0x80) (tile filler) (cond (eqb (p % 16) 0) seven (told (body p bs))) (ne_eqb p 0x80 b)
    ∙ cond-false (eqb (p % 16) 0) seven (told (body p bs)) (ne_eqb (p % 16) 0 c)

pub is_set : (p : ℕ) (bs : List ℕ) → 1 ≤ p % 16 → parse (p ∷ bs) ≡ told (body p bs)
is_set p bs h = past p bs (λ e. omega arith) (λ e. omega arith) (λ e. omega arith)

pub is-filler : (bs : List ℕ) → parse (0x80 ∷ bs) ≡ tile filler
unfolding parse
is-filler bs = refl

pub is-end : (bs : List ℕ) → parse (0 ∷ bs) ≡ end
unfolding parse
is-end bs = refl

front-set : (p : ℕ) (bs : List ℕ) (s : Set) → 1 ≤ p % 16 → told (body p bs) ≡ tile (holds s) → Front (p ∷ bs) (holds s) × Sound (holds s)
front-set p bs s some e =
    let parts = told-parts (body p bs) s e in
    let o = body_owned p bs parts.0 s some parts.1 in (
      record {
        own = p ∷ o.own;
        rest = parts.0;
        cut = ap (λ l. p ∷ l) o.cut;
        many = o.kept.0;
        alone = λ ys. is_set p (o.own ++ ys) some ∙ ap told (o.takes ys);
      },
      (o.kept.1, o.kept.2),
    )

front_cases : (p : ℕ) (bs : List ℕ) (t : Tile) (a b c : Bool) → eqb p 0 ≡ a → eqb p 0x80 ≡ b → eqb (p % 16) 0 ≡ c → cond a end (cond b (tile filler) (cond c seven (told (body p bs)))) ≡ tile t → Front (p ∷ bs) t × Sound t
front_cases p bs t true b c p₁ p₂ p₃ e = let z : ◌≡◌ {A = ℕ} 0 1 = cc in absurd (omega arith)
front_cases p bs filler false true c p₁ p₂ p₃ e =
    let at : p ≡ 0x80 = eqb-true p 0x80 p₂ in
    (record { own = p ∷ []; rest = bs; cut = refl; many = refl; alone = λ ys. ap (λ q. parse (q ∷ ys)) at ∙ is-filler ys }, tt)
front_cases p bs (holds s) false true c p₁ p₂ p₃ e = let z : ◌≡◌ {A = ℕ} 0 1 = cc in absurd (omega arith)
front_cases p bs t false false true p₁ p₂ p₃ e = let z : ◌≡◌ {A = ℕ} 0 1 = cc in absurd (omega arith)
front_cases p bs filler false false false p₁ p₂ p₃ e = absurd (told_no_filler (body p bs) e)
front_cases p bs (holds s) false false false p₁ p₂ p₃ e = front-set p bs s (omega (arith, eqb-false (p % 16) 0 p₃)) e

pub front : (xs : List ℕ) (t : Tile) → parse xs ≡ tile t → Front xs t × Sound t
unfolding parse
front [] t e = let z : ◌≡◌ {A = ℕ} 0 1 = cc in absurd (omega arith)
front (p ∷ bs) t e = front_cases p bs t (eqb p 0) (eqb p 0x80) (eqb (p % 16) 0) refl refl refl e

-- 1. own bytes only
pub own-bytes : OwnBytes
own-bytes xs s e =
    let f : Front xs (holds s) = (front xs (holds s) e).0 in
    let n : length f.own ≡ size s = f.many in
    let same : take (size s) xs ≡ f.own = ap (take (size s)) f.cut ∙ take_at f.own f.rest (size s) n in
    (omega (arith, ap length f.cut, length-append f.own f.rest), λ ys. ap (λ l. parse (l ++ ys)) same ∙ f.alone ys)

-- 5. the floor
least : (n : Name) → Fitting n → name_size (shortest (content n)) ≤ name_size n
least (bare n) f =
    let e : shortest (n ∷ []) ≡ bare n =
    cond-false (eqb n 0) (led (n ∷ [])) (cond (ltb n 15) (bare n) (byte n)) (ne_eqb n 0 (λ z. omega arith)) ∙ cond-true (ltb n 15) (bare n) (byte n) (lt-ltb n 15 (omega arith)) in
    omega (arith, ap name_size e)
least (byte n) f =
    let e : shortest (n ∷ []) ≡ byte n =
    cond-false (eqb n 0) (led (n ∷ [])) (cond (ltb n 15) (bare n) (byte n)) (ne_eqb n 0 (λ z. omega arith)) ∙ cond-false (ltb n 15) (bare n) (byte n) (le-ltb n 15 (omega arith)) in
    omega (arith, ap name_size e)
least (led []) f = omega arith
least (led (n ∷ [])) f =
    cond_both (eqb n 0) (led (n ∷ [])) (cond (ltb n 15) (bare n) (byte n)) (λ w. name_size w ≤ 2) (λ e. omega arith)
    (λ e. cond_both (ltb n 15) (bare n) (byte n) (λ w. name_size w ≤ 2) (λ g. omega arith) (λ g. omega arith))
least (led (n ∷ m ∷ c)) f = omega arith

pub floor : Floor
floor xs s e = let h = least s.name (front xs (holds s) e).1.0 in omega arith
