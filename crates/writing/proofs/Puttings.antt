-- One putting after another.
use Rattle.std.proofs.Common.{◌≡◌, ℕ, ◌+◌, ◌-◌, ◌≤◌, List, [], ◌∷◌, ◌++◌, length, take, drop, replicate, sym, ap, ◌∙◌, append_assoc, add-zero, arith, length-append}
use Rattle.std.proofs.lemmas.List.{take_at, drop_at, drop-drop, take-append-drop, length-take-le}
use Rattle.sets.specs.Sets.{Set}
use Rattle.sets.specs.Writing.{name_bytes, length_bytes, offset_bytes, first_byte, encode}
use Rattle.writing.specs.declared.pens.Pen.{Pen}
use Rattle.writing.specs.Puts.{Puts}
use Rattle.writing.specs.Pens.{Wrote}

pub puts_none : (at : ℕ) (old : List ℕ) → at ≤ length old → Puts at [] old old at
puts_none at old h = record { ends = sym (add-zero at); fits = h; after = sym (ap (λ k. take at old ++ drop k old) (add-zero at) ∙ take-append-drop at old) }

pub puts_then : (at next last : ℕ) (a b old mid new : List ℕ) → Puts at a old mid next → Puts next b mid new last → Puts at (a ++ b) old new last
puts_then at next last a b old mid new p q =
    let front : List ℕ = take at old in
    let back : List ℕ = drop (at + length a) old in
    let n : ℕ = length a in
    let m : ℕ = length b in
    let inside : at + length a ≤ length old = omega (arith, p.ends, p.fits) in
    let lf : length (take at old) ≡ at = length-take-le at old (omega arith) in
    let lm : length (take at old ++ a) ≡ next = length-append (take at old) a ∙ ap (λ k. k + length a) lf ∙ sym p.ends in
    let is : mid ≡ (take at old ++ a) ++ drop (at + length a) old = p.after ∙ sym (append_assoc (take at old) a (drop (at + length a) old)) in
    let one : take next mid ≡ take at old ++ a = ap (take next) is ∙ take_at (take at old ++ a) (drop (at + length a) old) next lm in
    let two : drop (next + length b) mid ≡ drop (at + length (a ++ b)) old =
    sym (drop-drop (length b) next mid) ∙ ap (drop (length b)) (ap (drop next) is ∙ drop_at (take at old ++ a) (drop (at + length a) old) next lm) ∙ drop-drop (length b) (at + length a) old ∙ ap (λ k. drop k old) (omega (arith, length-append a b)) in
    let long : length mid ≡ length old = ap length is ∙ length-append (take at old ++ a) (drop (at + length a) old) ∙ omega (arith, lm, p.ends, lib.ListN.length-drop (at + length a) old) in
    record {
      ends = omega (arith, q.ends, p.ends, length-append a b);
      fits = omega (arith, q.fits, long);
      after =
          q.after ∙ (λ i. one i ++ (b ++ two i)) ∙ append_assoc (take at old) a (b ++ drop (at + length (a ++ b)) old)
          ∙ ap (λ l. take at old ++ l) (sym (append_assoc a b (drop (at + length (a ++ b)) old)));
    }

-- one putting of a pen after another
pub wrote_then : (a b : List ℕ) (p q r : Pen) → Wrote a p q → Wrote b q r → Wrote (a ++ b) p r
wrote_then a b p q r v w = record { same = w.same ∙ v.same; puts = puts_then p.at q.at r.at a b p.out.now q.out.now r.out.now v.puts w.puts }

-- the bytes of a set, part by part
pub wrote_set : (s : Set) (p₀ p₁ p₂ p₃ p₄ p₅ p₆ : Pen)
    → Wrote (first_byte s ∷ []) p₀ p₁ → Wrote (offset_bytes s.extra) p₁ p₂ → Wrote (name_bytes s.name) p₂ p₃ → Wrote (length_bytes (length s.object)) p₃ p₄ → Wrote s.object p₄ p₅ → Wrote (replicate (s.extra - 1) 0) p₅ p₆
    → Wrote (encode s) p₀ p₆
unfolding encode
wrote_set s p₀ p₁ p₂ p₃ p₄ p₅ p₆ w₁ w₂ w₃ w₄ w₅ w₆ =
    let a₅ : List ℕ = s.object ++ replicate (s.extra - 1) 0 in
    let a₄ : List ℕ = length_bytes (length s.object) ++ a₅ in
    let a₃ : List ℕ = name_bytes s.name ++ a₄ in
    let q₅ : Wrote a₅ p₄ p₆ = wrote_then s.object (replicate (s.extra - 1) 0) p₄ p₅ p₆ w₅ w₆ in
    let q₄ : Wrote a₄ p₃ p₆ = wrote_then (length_bytes (length s.object)) a₅ p₃ p₄ p₆ w₄ q₅ in
    let q₃ : Wrote a₃ p₂ p₆ = wrote_then (name_bytes s.name) a₄ p₂ p₃ p₆ w₃ q₄ in
    wrote_then (first_byte s ∷ []) (offset_bytes s.extra ++ a₃) p₀ p₁ p₆ w₁ (wrote_then (offset_bytes s.extra) a₃ p₁ p₂ p₆ w₂ q₃)
