-- A seal: the blocks of a set that has them for itself are locked.
use Rattle.std.proofs.Common.{◌≡◌, ℕ, zero, suc, ◌+◌, ◌*◌, ◌/◌, ◌<◌, ◌≤◌, Bool, true, false, not, ◌&&◌, ltb, leb, ◌⊎◌, List, [], ◌∷◌, ◌++◌, map, length, take, drop, None, Ok, sym, refl, ap, ◌∙◌, subst, inl, inr, ⊎_elim, add-mul, le_of_mul-le-mul_right, arith, length-drop}
use mathlib.Core.List.{map-append}
use Rattle.std.specs.Option.{option_map}
use Rattle.std.specs.List.{ContainsAt as Has, AllByRecursion}
use Rattle.std.proofs.lemmas.Nat.{le-div, div_below}
use Rattle.std.proofs.ByRecursion.{all-has, has_append_right, All-append, All-weaker}
use Rattle.std.proofs.lemmas.Bool.{cases_Bool, cases_lt, and_from, and_left, and_right, not_from_true, le-leb, lt-ltb}
use Rattle.sets.specs.Sets.{holds, size}
use Rattle.sets.specs.Parsing.{tile}
use Rattle.sets.specs.Scans.{next, Found, behind}
use Rattle.sets.specs.Objects.{unpacked}
use Rattle.sets.specs.Meanings.{Lists, Meant}
use Rattle.sets.specs.Readings.{Memory, Reading, every, any, found, locked_at, sealed, byte_of, stray, stray_block, identified, entry, reads}
use Rattle.sets.proofs.Meaning.{meant}
use Rattle.sets.proofs.Repeats.{found-next}
use Rattle.sets.proofs.Searching.{every-from, every-at, lowest-none, any-has}
use Rattle.rivals.specs.Memories.{Shaped}
use Rattle.rivals.specs.Relaid.{Distinct}
use Rattle.rivals.proofs.Anew.{reads_distinct}
use Rattle.rivals.proofs.Bridges.{faultless, reads_ok}
use Rattle.rivals.proofs.Meets.{tile-within}
use Rattle.effects.specs.Lists.{as_sealed, sealed_list}
use Rattle.effects.specs.Seals.{locking, Sealing, Seal}
use Rattle.effects.proofs.Lists.{sealed-at, parted}
use Rattle.effects.proofs.Locks.{lock_long, lock_outside, lock_inside}
use Rattle.effects.proofs.Clear.{ClearOf, placed-clear}

every-same : (p q : ℕ → Bool) (n : ℕ) → ((i : ℕ) → i < n → p i ≡ q i) → every p n ≡ every q n
every-same p q zero h = refl
every-same p q (suc n) h = (λ i. every-same p q n (λ j g. h j (omega arith)) i && h n (omega arith) i)

map_same : {A B : Type 0} (f g : A → B) (xs : List A) → AllByRecursion (λ x. f x ≡ g x) xs → map f xs ≡ map g xs
map_same f g [] a = refl
map_same f g (x ∷ xs) a = (λ i. a.0 i ∷ map_same f g xs a.1 i)

module _ (m : Memory) (r : Reading) (sh : Shaped m) (e : reads m ≡ Ok r) (fs : List Found) (f : Found) (gs : List Found) (among : found m.bytes ≡ fs ++ (f ∷ gs))
    (p n : ℕ) (start : f.at ≡ p * m.size) (long : size f.set ≡ n * m.size) where
  is_found : Has (found m.bytes) f
  is_found = subst (λ l. Has l f) (sym among) (has_append_right fs (f ∷ gs) f (0, omega arith, λ d. refl))

  ends : behind f ≡ (p + n) * m.size
  ends = omega (arith, start, long, add-mul p n m.size)

  within : behind f ≤ length m.bytes
  within =
      let fits = tile-within unpacked (drop f.at m.bytes) (holds f.set) (all-has (λ g. next unpacked (drop g.at m.bytes) ≡ tile (holds g.set)) (found m.bytes) f (found-next m.bytes) is_found) in
      omega (arith, fits, length-drop f.at m.bytes)

  inside : p + n ≤ length m.locks
  inside = le_of_mul-le-mul_right {m = p + n} {n = length m.locks} {k = m.size} (omega (arith, ends, within, sh.whole)) sh.some

  -- the bytes of the set are locked, and others are locked as before
  now-locked : (a : ℕ) → f.at ≤ a → a < behind f → locked_at (locking m p n) a ≡ true
  now-locked a low high = lock_inside p n m.locks inside (a / m.size) (le-div p a m.size sh.some (omega (arith, start))) (div_below a m.size (p + n) sh.some (omega (arith, ends)))

  as_before : (a : ℕ) → (a < f.at) ⊎ (behind f ≤ a) → locked_at (locking m p n) a ≡ locked_at m a
  as_before a out =
      lock_outside p n m.locks (a / m.size)
      (⊎_elim (λ (l : a < f.at). inl (div_below a m.size p sh.some (omega (arith, start)))) (λ (g : behind f ≤ a). inr (le-div (p + n) a m.size sh.some (omega (arith, ends)))) out)

  this-sealed : sealed (locking m p n) f ≡ true
  this-sealed = every-from (λ i. locked_at (locking m p n) (f.at + i)) (size f.set) (λ i h. now-locked (f.at + i) (omega arith) (omega arith))

  others_same : (g : Found) → ClearOf f g → sealed (locking m p n) g ≡ sealed m g
  others_same g clear =
      every-same (λ i. locked_at (locking m p n) (g.at + i)) (λ i. locked_at m (g.at + i)) (size g.set)
      (λ i h. as_before (g.at + i) (⊎_elim (λ (l : behind g ≤ f.at). inl (omega arith)) (λ (k : behind f ≤ g.at). inr (omega arith)) clear))

  still_locked : (a : ℕ) → locked_at m a ≡ true → locked_at (locking m p n) a ≡ true
  still_locked a t =
      ⊎_elim (λ (l : a < f.at). as_before a (inl l) ∙ t)
      (λ (g : f.at ≤ a). ⊎_elim (λ (h : a < behind f). now-locked a g h) (λ (h : behind f ≤ a). as_before a (inr h) ∙ t) (cases_lt a (behind f)))
      (cases_lt a f.at)

  stay : (g : Found) → sealed m g ≡ true → sealed (locking m p n) g ≡ true
  stay g t = every-from (λ i. locked_at (locking m p n) (g.at + i)) (size g.set) (λ i h. still_locked (g.at + i) (every-at (λ i. locked_at m (g.at + i)) (size g.set) i t h))

  clear : AllByRecursion (ClearOf f) fs × AllByRecursion (ClearOf f) gs
  clear = placed-clear _ 0 fs f gs among

  -- no byte is astray
  lists : Lists m r
  lists = subst (Meant m) e (meant m)

  abbrev covers : ℕ → Found → Bool
  covers a g = byte_of g a && sealed (locking m p n) g

  covered : (a : ℕ) → a < length m.bytes → locked_at (locking m p n) a ≡ true → any (covers a) (found m.bytes) ≡ true
  covered a h t =
      let old : (locked_at m a ≡ true) → any (covers a) (found m.bytes) ≡ true = λ was.
      let k = lists.kept a h was in
      any-has (covers a) (found m.bytes) k.0 k.1 (and_from (byte_of k.0 a) (sealed (locking m p n) k.0) k.2 (stay k.0 k.3)) in
      ⊎_elim (λ (l : a < f.at). old (sym (as_before a (inl l)) ∙ t))
      (λ (g : f.at ≤ a). ⊎_elim
      (λ (h : a < behind f). any-has (covers a) (found m.bytes) f is_found (and_from (byte_of f a) (sealed (locking m p n) f) (and_from (leb f.at a) (ltb a (behind f)) (le-leb f.at a g) (lt-ltb a (behind f) h)) this-sealed))
      (λ (h : behind f ≤ a). old (sym (as_before a (inr h)) ∙ t))
      (cases_lt a (behind f)))
      (cases_lt a f.at)

  unstray : stray_block (locking m p n) (found m.bytes) ≡ None
  unstray =
      ap (option_map (λ a. a / m.size)) (lowest-none (stray (locking m p n) (found m.bytes)) (length m.bytes) (λ a h.
      ⊎_elim (λ (t : locked_at (locking m p n) a ≡ true). and_right (locked_at (locking m p n) a) (not (any (covers a) (found m.bytes))) (not_from_true (any (covers a) (found m.bytes)) (covered a h t)))
      (λ (o : locked_at (locking m p n) a ≡ false). and_left (locked_at (locking m p n) a) (not (any (covers a) (found m.bytes))) o)
      (cases_Bool (locked_at (locking m p n) a))))

  -- what the sets say
  says_same : (g : Found) → ClearOf f g → entry (locking m p n) g ≡ entry m g
  says_same g c = (λ i. record { identifier = identified g; kind = (entry m g).kind; object = (entry m g).object; sealed = others_same g c i })

  this-says : entry (locking m p n) f ≡ as_sealed (entry m f)
  this-says = (λ i. record { identifier = identified f; kind = (entry m f).kind; object = (entry m f).object; sealed = this-sealed i })

  was : r.entries ≡ map (entry m) fs ++ (entry m f ∷ map (entry m) gs)
  was = sym (faultless m r e).list ∙ ap (map (entry m)) among ∙ map-append (entry m) fs (f ∷ gs)

  distinct : Distinct (map (entry m) fs ++ (entry m f ∷ map (entry m) gs))
  distinct = subst Distinct was (reads_distinct m r e)

  list-is : map (entry (locking m p n)) (found m.bytes) ≡ sealed_list (identified f) r.entries
  list-is =
      let same : (l : List Found) → AllByRecursion (ClearOf f) l → map (entry (locking m p n)) l ≡ map (entry m) l =
      λ l c. map_same (entry (locking m p n)) (entry m) l (All-weaker (ClearOf f) (λ g. entry (locking m p n) g ≡ entry m g) says_same l c) in
      ap (map (entry (locking m p n))) among ∙ map-append (entry (locking m p n)) fs (f ∷ gs)
      ∙ (λ i. same fs clear.0 i ++ (this-says i ∷ same gs clear.1 i))
      ∙ sym (ap (sealed_list (identified f)) was ∙ sealed-at (entry m f) (map (entry m) fs) (map (entry m) gs) distinct)

  others : (g : Found) → Has (found m.bytes) g → (identified g ≡ identified f → ⊥) → sealed (locking m p n) g ≡ sealed m g
  others g has differ =
      let Same : Found → Type 0 = λ x. (identified x ≡ identified f → ⊥) → sealed (locking m p n) x ≡ sealed m x in
      let same : (l : List Found) → AllByRecursion (ClearOf f) l → AllByRecursion Same l = λ l c. All-weaker (ClearOf f) Same (λ x h ne. others_same x h) l c in
      all-has Same (found m.bytes) g (subst (AllByRecursion Same) (sym among) (All-append Same fs (f ∷ gs) (same fs clear.0) ((λ ne. absurd (ne refl)), same gs clear.1))) has differ

  pub sealing : Sealing m r f p n
  sealing = record {
    inside = inside;
    shaped = record { some = sh.some; whole = sh.whole ∙ ap (λ k. k * m.size) (sym (lock_long p n m.locks)); small = sh.small };
    list = reads_ok (locking m p n) (record { entries = sealed_list (identified f) r.entries }) (record {
      scanned = (faultless m r e).scanned;
      unstray = unstray;
      once = (faultless m r e).once;
      list = list-is;
    });
    this = this-sealed;
    others = others;
    stay = stay;
    locked = lock_inside p n m.locks inside;
    kept = λ k t. ⊎_elim (λ (l : k < p). lock_outside p n m.locks k (inl l) ∙ t)
        (λ (g : p ≤ k). ⊎_elim (λ (h : k < p + n). lock_inside p n m.locks inside k g h) (λ (h : p + n ≤ k). lock_outside p n m.locks k (inr h) ∙ t) (cases_lt k (p + n)))
        (cases_lt k p);
    below = λ k l. lock_outside p n m.locks k (inl l);
    above = λ k h. lock_outside p n m.locks k (inr h);
  }

pub seal : Seal
seal m r sh e f p n h =
    let k : ℕ = h.stands.has.0 in
    let fs : List Found = take k (found m.bytes) in
    let gs : List Found = drop (suc k) (found m.bytes) in
    sealing m r sh e fs f gs (parted (found m.bytes) f k h.stands.has.1 h.stands.has.2) p n h.starts h.long
