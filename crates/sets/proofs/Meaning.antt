-- What a memory reads as, by its blocks and sets.
use Rattle.std.proofs.Common.{◌≡◌, ℕ, zero, suc, ◌+◌, ◌*◌, ◌/◌, ◌<◌, Bool, true, false, not, ◌&&◌, ◌⊎◌, List, [], ◌∷◌, ◌++◌, map, length, get_or, take, Some, None, Option, sym, refl, ap, ◌∙◌, subst, inl, inr, ⊎_elim, append_assoc, append-nil, div-lt_iff_lt-mul, div-mul-le_self, arith, length-append}
use native.Mathlib.Nat.{div-zero}
use Rattle.std.specs.Option.{option_map}
use Rattle.std.specs.List.{ContainsAt as Has}
use Rattle.std.specs.Str.{bytes_eq}
use Rattle.std.proofs.lemmas.Slice.Eq.{bytes_eq-Decides}
use Rattle.std.proofs.ByRecursion.{all-has, has_get_or}
use Rattle.std.proofs.lemmas.List.{length-take-le, get_or-take, get_or_append_left, get_or_at, take_at}
use Rattle.std.proofs.lemmas.Bool.{and_parts, and_cases, cases_Bool, cases_lt, cond-true, cond-false}
use Rattle.sets.specs.Scans.{Refusal, scan, Found}
use Rattle.sets.specs.Objects.{unpacked}
use Rattle.sets.specs.Readings.{Memory, Reading, any, found, locked_at, sealed, byte_of, stray, stray_block, identified, stood, repeat_from, repeat, entry, judged, reads}
use Rattle.sets.specs.Meanings.{StrayByte, Strays, Repeats, Meant}
use Rattle.sets.proofs.Searching.{Lowest, lowest_cases, any-has, any_some, any-not, true-false}

not-true : (b : Bool) → not b ≡ false → b ≡ true
not-true true e = refl
not-true false e = absurd (true-false e)

-- one byte
module _ (m : Memory) (fs : List Found) (a : ℕ) where
  p : Found → Bool
  p f = byte_of f a && sealed m f

  not-stray : stray m fs a ≡ false → locked_at m a ≡ true → (f : Found) × Has fs f × (byte_of f a ≡ true) × (sealed m f ≡ true)
  unfolding p
  not-stray e l =
      let some : any p fs ≡ true = ⊎_elim (λ q. absurd (true-false (sym l ∙ q))) (λ q. not-true (any p fs) q) (and_cases (locked_at m a) (not (any p fs)) e) in
      let s = any_some p fs some in
      let b = and_parts (byte_of s.0 a) (sealed m s.0) s.2 in
      (s.0, s.1, b.0, b.1)

  is-stray : stray m fs a ≡ true → (locked_at m a ≡ true) × ((f : Found) → Has fs f → byte_of f a ≡ true → sealed m f ≡ false)
  unfolding p
  is-stray e =
      let b = and_parts (locked_at m a) (not (any p fs)) e in
      let none : any p fs ≡ false = ⊎_elim (λ t. absurd (true-false (sym b.1 ∙ ap not t))) (λ q. q) (cases_Bool (any p fs)) in
      (b.0, λ f h q. let both = all-has (λ g. p g ≡ false) fs f (any-not p fs none) h in ⊎_elim (λ z. absurd (true-false (sym q ∙ z))) (λ z. z) (and_cases (byte_of f a) (sealed m f) both))

-- a byte of a lower block is a lower byte
div_lower : (a b n : ℕ) → a / n < b / n → a < b
div_lower a b zero h = absurd (omega (arith, div-zero a, div-zero b))
div_lower a b (suc n) h =
    let up : a < b / suc n * suc n = (div-lt_iff_lt-mul {k = suc n} {x = a} {y = b / suc n} (omega arith)).0 h in
    omega (arith, div-mul-le_self b (suc n))

not_both : (m : Memory) (a : ℕ) → stray m (found m.bytes) a ≡ false → StrayByte m a → ⊥
not_both m a e t =
    let k = not-stray m (found m.bytes) a e t.1 in
    true-false (sym k.3 ∙ t.2 k.0 k.1 k.2)

strayed : (m : Memory) (a : ℕ) → Lowest (stray m (found m.bytes)) (length m.bytes) a → Strays m (a / m.size)
strayed m a w =
    let s = is-stray m (found m.bytes) a w.passes in
    record {
      some = (a, refl, (w.within, s.0, s.1));
      lowest = λ b h t. not_both m b (w.none b (div_lower b a m.size h)) t;
    }

-- sets with identifiers of their own, and one more
abbrev Distinct : List Found → Type 0
Distinct fs = (i j : ℕ) (d : Found) → i < j → j < length fs → identified (get_or fs i d) ≡ identified (get_or fs j d) → ⊥

among : (fs : List Found) (f : Found) (i : ℕ) (d : Found) → i < length fs → identified (get_or fs i d) ≡ identified f → stood fs f ≡ true
among fs f i d h e =
    any-has (λ g. bytes_eq (identified g) (identified f)) fs (get_or fs i d) (has_get_or fs i d h) ((bytes_eq-Decides (identified (get_or fs i d)) (identified f)).1 e)

push : (fs : List Found) (f : Found) → Distinct fs → stood fs f ≡ false → Distinct (fs ++ f ∷ [])
push fs f apart new i j d h in' e =
    let long : j < length fs + 1 = omega (arith, length-append fs (f ∷ [])) in
    ⊎_elim
    (λ l. apart i j d h l (ap identified (sym (get_or_append_left fs (f ∷ []) d i (omega arith))) ∙ e ∙ ap identified (get_or_append_left fs (f ∷ []) d j l)))
    (λ g.
    let is : length fs ≡ j = omega arith in
    true-false (sym (among fs f i d (omega arith) (ap identified (sym (get_or_append_left fs (f ∷ []) d i (omega arith))) ∙ e ∙ ap identified (get_or_at fs f [] d j is))) ∙ new))
    (cases_lt j (length fs))

-- a set that repeats, where those before it do not
pub record Again (fs : List Found) (n at : ℕ) : Type 0 where
  pub inside : n < length fs
  pub place : (d : Found) → (get_or fs n d).at ≡ at
  pub earlier : (i : ℕ) × (i < n) × ((d : Found) → identified (get_or fs i d) ≡ identified (get_or fs n d))
  pub first : Distinct (take n fs)

again_here : (seen : List Found) (f : Found) (rest : List Found) → Distinct seen → stood seen f ≡ true → Again (seen ++ f ∷ rest) (length seen) f.at
again_here seen f rest apart e =
    let s = any_some (λ g. bytes_eq (identified g) (identified f)) seen e in
    let same : identified s.0 ≡ identified f = (bytes_eq-Decides (identified s.0) (identified f)).0 s.2 in
    let i : ℕ = s.1.0 in
    let low : i < length seen = s.1.1 in
    record {
      inside = omega (arith, length-append seen (f ∷ rest));
      place = λ d. ap (λ (g : Found). g.at) (get_or_at seen f rest d (length seen) refl);
      earlier = (i, low, λ d. ap identified (get_or_append_left seen (f ∷ rest) d i low ∙ s.1.2 d) ∙ same ∙ ap identified (sym (get_or_at seen f rest d (length seen) refl)));
      first = subst Distinct (sym (take_at seen (f ∷ rest) (length seen) refl)) apart;
    }

repeat_cases : (seen rest : List Found) → Distinct seen → ((repeat_from seen rest ≡ None) × Distinct (seen ++ rest)) ⊎ ((n : ℕ) × (at : ℕ) × (repeat_from seen rest ≡ Some at) × Again (seen ++ rest) n at)
repeat_cases seen [] apart = inl (refl, subst Distinct (sym (append-nil seen)) apart)
repeat_cases seen (f ∷ rest) apart =
    ⊎_elim
    (λ t. inr (length seen, f.at, cond-true (stood seen f) (Some f.at) (repeat_from (seen ++ f ∷ []) rest) t, again_here seen f rest apart t))
    (λ new.
    let on : repeat_from seen (f ∷ rest) ≡ repeat_from (seen ++ f ∷ []) rest = cond-false (stood seen f) (Some f.at) (repeat_from (seen ++ f ∷ []) rest) new in
    let whole : (seen ++ f ∷ []) ++ rest ≡ seen ++ f ∷ rest = append_assoc seen (f ∷ []) rest in
    ⊎_elim (λ k. inl (on ∙ k.0, subst Distinct whole k.1)) (λ k. inr (k.0, k.1, on ∙ k.2, subst (λ l. Again l k.0 k.1) whole k.3))
    (repeat_cases (seen ++ f ∷ []) rest (push seen f apart new)))
    (cases_Bool (stood seen f))

below-take : (fs : List Found) (n : ℕ) → n < length fs → Distinct (take n fs) → (i j : ℕ) (d : Found) → i < j → j < n → identified (get_or fs i d) ≡ identified (get_or fs j d) → ⊥
below-take fs n in' apart i j d h g e =
    apart i j d h (omega (arith, length-take-le n fs (omega arith))) (ap identified (get_or-take n fs i d (omega arith)) ∙ e ∙ ap identified (sym (get_or-take n fs j d g)))

repeated : (m : Memory) (n at : ℕ) → Again (found m.bytes) n at → Repeats m at
repeated m n at w = record {
  again = n;
  inside = w.inside;
  place = w.place;
  earlier = w.earlier;
  first = below-take (found m.bytes) n w.inside w.first;
}

-- all together
meant_by : (m : Memory) (f : Option Refusal) → (scan unpacked m.bytes).fault ≡ f → Meant m (judged f (stray_block m (found m.bytes)) (repeat (found m.bytes)) (record { entries = map (entry m) (found m.bytes) }))
meant_by m (Some f) hf = inl hf
meant_by m None hf =
    let fs = found m.bytes in
    let r : Reading = record { entries = map (entry m) (found m.bytes) } in
    ⊎_elim
    (λ clear. ⊎_elim
    (λ apart. subst (Meant m) (λ i. judged None (option_map (λ a. a / m.size) (sym clear.0 i)) (sym apart.0 i) r)
    (record { scanned = hf; kept = λ a h l. not-stray m fs a (clear.1 a h) l; apart = apart.1; entries = refl }))
    (λ k. subst (Meant m) (λ i. judged None (option_map (λ a. a / m.size) (sym clear.0 i)) (sym k.2 i) r) (inr (inr (refl, repeated m k.0 k.1 k.3))))
    (repeat_cases [] fs (λ i j d h g. absurd (omega arith))))
    (λ k. subst (Meant m) (λ i. judged None (option_map (λ a. a / m.size) (sym k.1 i)) (repeat fs) r) (inr (inl (refl, strayed m k.0 k.2))))
    (lowest_cases (stray m fs) (length m.bytes))

pub meant : (m : Memory) → Meant m (reads m)
unfolding reads
meant m = meant_by m (scan unpacked m.bytes).fault refl
