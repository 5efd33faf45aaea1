-- Turning keeps lengths and shapes, undoes itself, and goes through a driver's calls.
use Rattle.std.proofs.Common.{◌≡◌, ℕ, zero, suc, ◌<◌, Bool, true, cond, ◌&&◌, eqb, ltb, List, [], ◌∷◌, map, length, get_or, set, is_ok, Ok, Result, sym, refl, ap, ◌∙◌, ⊎_elim, arith}
use Rattle.std.proofs.lemmas.List.{length-map, length-reverse, reverse-reverse, get_or-map, map-set, nil_from_length}
use Rattle.std.proofs.lemmas.Bool.{cond-false, ltb-true, cases_Bool}
use Rattle.std.proofs.lemmas.Bool.Decides.{Decides-below_and, Decides-eqb}
use Rattle.tags.specs.Tags.{Tag, Shaped}
use Rattle.drivers.specs.declared.faults.DriverFault.{DriverFault}
use Rattle.drivers.specs.Questions.{read_answer, read_buffer}
use Rattle.drivers.specs.Changes.{with_block, write_answer, write_tag}
use Rattle.drivers.proofs.Granted.{cond_of}
use Rattle.drivers.specs.Layers.{turn_tag, turned_onto, mirror, by_bytes, by_bits}

pub bytes-long : (b : List ℕ) → length (by_bytes b) ≡ length b
bytes-long b = length-reverse b

pub bytes_twice : (b : List ℕ) → by_bytes (by_bytes b) ≡ b
bytes_twice b = reverse-reverse b

pub bits-long : (b : List ℕ) → length (by_bits b) ≡ length b
bits-long b = length-map b mirror

abbrev all_below : ℕ → (ℕ → Bool) → Bool
all_below zero f = true
all_below (suc n) f = f n && all_below n f

-- every byte, by one test that is computed
byte_twice : (x : ℕ) → x < 256 → mirror (mirror x) ≡ x
byte_twice =
    (Decides-below_and (λ x. eqb (mirror (mirror x)) x) (λ x. mirror (mirror x) ≡ x) (λ n. all_below n (λ x. eqb (mirror (mirror x)) x)) (λ x. Decides-eqb (mirror (mirror x)) x) refl (λ _. refl) 256).0 refl

mirror_twice : (x : ℕ) → mirror (mirror x) ≡ x
mirror_twice x =
    ⊎_elim (λ e. byte_twice x (ltb-true x 256 e)) (λ e. let same = cond-false (ltb x 256) (turned_onto 8 x 0) x e in ap mirror same ∙ same) (cases_Bool (ltb x 256))

pub bits_twice : (b : List ℕ) → by_bits (by_bits b) ≡ b
bits_twice [] = refl
bits_twice (x ∷ b) = λ i. mirror_twice x i ∷ bits_twice b i

module _ (f : List ℕ → List ℕ) (long : (b : List ℕ) → length (f b) ≡ length b) where
  pub turn_shaped : (t : Tag) → Shaped t → Shaped (turn_tag f t)
  turn_shaped t s = record {
    many = length-map t.blocks f ∙ s.many;
    each = λ k h. ap length (get_or-map f t.blocks k [] [] (omega (arith, s.many))) ∙ long (get_or t.blocks k []) ∙ s.each k h;
    flags = s.flags;
    few = s.few;
    small = s.small;
  }

-- turned twice, each block is as it was
pub turn_twice : (f : List ℕ → List ℕ) → ((b : List ℕ) → f (f b) ≡ b) → (t : Tag) → turn_tag f (turn_tag f t) ≡ t
turn_twice f twice t = λ i. record { count = t.count; size = t.size; system = t.system; blocks = all t.blocks i; locks = t.locks }
  where
    all : (bs : List (List ℕ)) → map f (map f bs) ≡ bs
    all [] = refl
    all (b ∷ bs) = λ i. twice b i ∷ all bs i

module _ (f : List ℕ → List ℕ) (long : (b : List ℕ) → length (f b) ≡ length b) (twice : (b : List ℕ) → f (f b) ≡ b) (t : Tag) (k : ℕ) where
  pub turn_read : (b : List ℕ) → read_answer t k (length b) ≡ Ok tt → f (read_buffer t k b) ≡ read_buffer (turn_tag f t) k b
  turn_read b e = rw e (sym (at t.blocks k))
    where
      at : (bs : List (List ℕ)) (j : ℕ) → get_or (map f bs) j [] ≡ f (get_or bs j [])
      at [] j = sym (nil_from_length (f []) (long []))
      at (c ∷ bs) zero = refl
      at (c ∷ bs) (suc j) = at bs j

  pub turn_write : (b : List ℕ) → turn_tag f (write_tag t k (f b)) ≡ write_tag (turn_tag f t) k b
  turn_write b =
      let o = is_ok (write_answer t k (length b)) in
      ap (λ n. turn_tag f (cond (is_ok (write_answer t k n)) (with_block t k (f b)) t)) (long b)
      ∙ cond_of (turn_tag f) o (with_block t k (f b)) t
      ∙ ap (λ x. cond o x (turn_tag f t)) (λ i. record { count = t.count; size = t.size; system = t.system; blocks = (map-set f t.blocks k (f b) ∙ ap (set (map f t.blocks) k) (twice b)) i; locks = t.locks })

  -- from what the lower driver's call ensures: a is what it was given
  pub turn_wrote : (u : Tag) (r : Result (Unit {0}) DriverFault) (a b : List ℕ) → r ≡ write_answer t k (length a) → u ≡ write_tag t k a → a ≡ f b → (r ≡ write_answer (turn_tag f t) k (length b)) × (turn_tag f u ≡ write_tag (turn_tag f t) k b)
  turn_wrote u r a b answer after e = (
    answer ∙ ap (write_answer t k) (ap length e ∙ long b),
    ap (turn_tag f) (after ∙ ap (write_tag t k) e) ∙ turn_write b,
  )
