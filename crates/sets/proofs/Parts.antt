-- Parts of a set take their own bytes, and no others.
use Rattle.std.proofs.Common.{◌≡◌, ℕ, suc, ◌+◌, ◌-◌, ◌*◌, ◌<◌, ◌≤◌, Bool, true, false, cond, ◌&&◌, ◌||◌, eqb, ltb, leb, List, [], ◌∷◌, ◌++◌, length, take, drop, sym, refl, ap, ◌∙◌, subst, append_assoc, arith, length-append}
use Rattle.std.proofs.lemmas.List.{take_at, drop_at, take-append-drop, length-take-le}
use Rattle.std.proofs.lemmas.Bool.{ltb-true, ltb-false, leb-true, eqb-false, le-ltb, lt-ltb, cond-true, cond-false, and_parts, or_parts}
use Rattle.sets.specs.Sets.{Name, bare, byte, led, name_size, long, offset_size}
use Rattle.sets.specs.Parsing.{Read, got, bad, then, one, run, offset, arcs, whole_arcs, lead, identifier, second, first_length, size_of_object}
use Rattle.sets.specs.Laws.{Fitting}

-- a reader gives a and takes the bytes us, whatever follows them
abbrev pub Takes : (A : Type 0) → (List ℕ → Read A) → List ℕ → A → Type 0
Takes A r us a = (ys : List ℕ) → r (us ++ ys) ≡ got a ys

-- what a reader gave came from bytes of its own; K holds of the value and their count
pub record Owned (A : Type 0) (r : List ℕ → Read A) (xs : List ℕ) (a : A) (rest : List ℕ) (K : A → ℕ → Type 0) : Type 0 where
  pub own : List ℕ
  pub cut : xs ≡ own ++ rest
  pub kept : K a (length own)
  pub takes : Takes A r own a

pub not-bad : {A : Type 0} (n : ℕ) (a : A) (rest : List ℕ) → bad n ≡ got a rest → ⊥
not-bad n a rest e = let z : ◌≡◌ {A = ℕ} 0 1 = cc in omega arith

-- one reader, then another
pub then-takes : {A B : Type 0} (r : List ℕ → Read A) (f : A → List ℕ → Read B) (us vs : List ℕ) (a : A) (b : B)
    → Takes A r us a → Takes B (f a) vs b → Takes B (λ l. then (r l) f) (us ++ vs) b
then-takes r f us vs a b h g ys = ap (λ l. then (r l) f) (append_assoc us vs ys) ∙ ap (λ q. then q f) (h (vs ++ ys)) ∙ g ys

pub then-parts : {A B : Type 0} (q : Read A) (f : A → List ℕ → Read B) (b : B) (rest : List ℕ)
    → then q f ≡ got b rest → (a : A) × (mid : List ℕ) × (q ≡ got a mid) × (f a mid ≡ got b rest)
then-parts (got a mid) f b rest e = (a, mid, refl, e)
then-parts (bad n) f b rest e = absurd (not-bad n b rest e)

pub then_owned : {A B : Type 0} (r : List ℕ → Read A) (f : A → List ℕ → Read B) (xs mid rest : List ℕ) (a : A) (b : B) (J : A → ℕ → Type 0) (K : B → ℕ → Type 0) (L : B → ℕ → Type 0)
    → Owned A r xs a mid J → Owned B (f a) mid b rest K → ((m n : ℕ) → J a m → K b n → L b (m + n)) → Owned B (λ l. then (r l) f) xs b rest L
then_owned r f xs mid rest a b J K L p q both =
    record {
      own = p.own ++ q.own;
      cut = p.cut ∙ ap (λ l. p.own ++ l) q.cut ∙ sym (append_assoc p.own q.own rest);
      kept = subst (L b) (sym (length-append p.own q.own)) (both (length p.own) (length q.own) p.kept q.kept);
      takes = then-takes r f p.own q.own a b p.takes q.takes;
    }

-- a reader by a test
pub cond_owned : {A : Type 0} (t : Bool) (f g : List ℕ → Read A) (xs : List ℕ) (a : A) (rest : List ℕ) (K : A → ℕ → Type 0)
    → cond t (f xs) (g xs) ≡ got a rest
    → (t ≡ true → f xs ≡ got a rest → Owned A f xs a rest K) → (t ≡ false → g xs ≡ got a rest → Owned A g xs a rest K)
    → Owned A (λ l. cond t (f l) (g l)) xs a rest K
cond_owned true f g xs a rest K e p q = p refl e
cond_owned false f g xs a rest K e p q = q refl e

-- a reader that takes nothing
pub got_owned : {A : Type 0} (a b : A) (xs rest : List ℕ) (K : A → ℕ → Type 0) → got a xs ≡ got b rest → K a 0 → Owned A (λ l. got a l) xs b rest K
got_owned a b xs rest K e k =
    let p : a ≡ b = cc in
    let q : xs ≡ rest = cc in
    record { own = []; cut = q; kept = subst (λ z. K z 0) p k; takes = λ ys. ap (λ z. got z ys) p }

pub one_owned : (xs rest : List ℕ) (b : ℕ) → one xs ≡ got b rest → Owned ℕ one xs b rest (λ _ n. n ≡ 1)
one_owned [] rest b e = absurd (not-bad 8 b rest e)
one_owned (x ∷ xs) rest b e =
    let p : x ≡ b = cc in
    let q : xs ≡ rest = cc in
    record { own = b ∷ []; cut = λ i. p i ∷ q i; kept = refl; takes = λ ys. refl }

pub run-takes : (n : ℕ) (us : List ℕ) → length us ≡ n → Takes (List ℕ) (run n) us us
run-takes n us h ys =
    cond-false (ltb (length (us ++ ys)) n) (bad 8) (got (take n (us ++ ys)) (drop n (us ++ ys))) (le-ltb (length (us ++ ys)) n (omega (arith, length-append us ys)))
    ∙ (λ i. got (take_at us ys n h i) (drop_at us ys n h i))

run_cases : (n : ℕ) (xs rest o : List ℕ) (t : Bool) → ltb (length xs) n ≡ t → cond t (bad 8) (got (take n xs) (drop n xs)) ≡ got o rest → Owned (List ℕ) (run n) xs o rest (λ v m. (m ≡ n) × (length v ≡ n))
run_cases n xs rest o true t e = absurd (not-bad 8 o rest e)
run_cases n xs rest o false t e =
    let p : take n xs ≡ o = cc in
    let q : drop n xs ≡ rest = cc in
    let h : length o ≡ n = ap length (sym p) ∙ length-take-le n xs (ltb-false (length xs) n t) in
    record { own = o; cut = sym (take-append-drop n xs) ∙ (λ i. p i ++ q i); kept = (h, h); takes = run-takes n o h }

pub run_owned : (n : ℕ) (xs rest o : List ℕ) → run n xs ≡ got o rest → Owned (List ℕ) (run n) xs o rest (λ v m. (m ≡ n) × (length v ≡ n))
run_owned n xs rest o e = run_cases n xs rest o (ltb (length xs) n) refl e

-- the offset byte
pub offset_owned : (p : ℕ) (xs rest : List ℕ) (e : ℕ) → offset p xs ≡ got e rest → Owned ℕ (offset p) xs e rest (λ v n. n ≡ offset_size v)
offset_owned p xs rest e h =
    cond_owned (ltb p 0x80) (λ l. got 0 l) (λ l. then (one l) (λ v r. got (suc v) r)) xs e rest (λ v n. n ≡ offset_size v) h
    (λ t g. got_owned 0 e xs rest (λ v n. n ≡ offset_size v) g refl)
    (λ t g.
    let parts = then-parts (one xs) (λ v r. got (suc v) r) e rest g in
    let v = parts.0 in
    let mid = parts.1 in
    then_owned one (λ v r. got (suc v) r) xs mid rest v e (λ _ n. n ≡ 1) (λ w n. (n ≡ 0) × (offset_size w ≡ 1)) (λ w n. n ≡ offset_size w)
    (one_owned xs mid v parts.2)
    (got_owned (suc v) e mid rest (λ w n. (n ≡ 0) × (offset_size w ≡ 1)) parts.3 (refl, refl))
    (λ m n j k. omega arith))

-- the identifier
arcs_owned : (c xs rest : List ℕ) (a : Name) → 1 ≤ length c → length c ≤ 32 → whole_arcs c xs ≡ got a rest → Owned Name (whole_arcs c) xs a rest (λ w n. (n ≡ 0) × (name_size w ≡ suc (length c)) × Fitting w)
arcs_owned c xs rest a some few e =
    let K : Name → ℕ → Type 0 = λ w n. (n ≡ 0) × (name_size w ≡ suc (length c)) × Fitting w in
    cond_owned (arcs true c) (λ l. got (led c) l) (λ l. bad 10) xs a rest K e
    (λ t g. got_owned (led c) a xs rest K g (refl, refl, record { some = some; few = few; whole = t }))
    (λ t g. absurd (not-bad 10 a rest g))

lead_owned : (b : ℕ) (xs rest : List ℕ) (a : Name) → lead b xs ≡ got a rest → Owned Name (lead b) xs a rest (λ w n. (suc n ≡ name_size w) × Fitting w)
lead_owned b xs rest a e =
    let K : Name → ℕ → Type 0 = λ w n. (suc n ≡ name_size w) × Fitting w in
    cond_owned (leb b 0x70) (λ l. got (byte (b + 15)) l) (λ l. cond (ltb b 0x80 || ltb 0x9f b) (bad 9) (then (run (b - 0x7f) l) whole_arcs)) xs a rest K e
    (λ t g. got_owned (byte (b + 15)) a xs rest K g (refl, (omega arith, omega (arith, leb-true b 0x70 t))))
    (λ t g. cond_owned (ltb b 0x80 || ltb 0x9f b) (λ l. bad 9) (λ l. then (run (b - 0x7f) l) whole_arcs) xs a rest K g
    (λ s k. absurd (not-bad 9 a rest k))
    (λ s k.
    let low = ltb-false b 0x80 (or_parts (ltb b 0x80) (ltb 0x9f b) s).0 in
    let high = ltb-false 0x9f b (or_parts (ltb b 0x80) (ltb 0x9f b) s).1 in
    let parts = then-parts (run (b - 0x7f) xs) whole_arcs a rest k in
    let c = parts.0 in
    let mid = parts.1 in
    let ran = run_owned (b - 0x7f) xs mid c parts.2 in
    let count : length c ≡ b - 0x7f = ran.kept.1 in
    then_owned (run (b - 0x7f)) whole_arcs xs mid rest c a (λ v m. (m ≡ b - 0x7f) × (length v ≡ b - 0x7f)) (λ w n. (n ≡ 0) × (name_size w ≡ suc (length c)) × Fitting w) K
    ran
    (arcs_owned c mid rest a (omega arith) (omega arith) parts.3)
    (λ m n j q. (omega arith, q.2))))

pub identifier_owned : (nib : ℕ) (xs rest : List ℕ) (a : Name) → 1 ≤ nib → identifier nib xs ≡ got a rest → Owned Name (identifier nib) xs a rest (λ w n. (n ≡ name_size w) × Fitting w)
identifier_owned nib xs rest a some e =
    let K : Name → ℕ → Type 0 = λ w n. (n ≡ name_size w) × Fitting w in
    cond_owned (ltb nib 15) (λ l. got (bare nib) l) (λ l. then (one l) lead) xs a rest K e
    (λ t g. got_owned (bare nib) a xs rest K g (refl, (some, omega (arith, ltb-true nib 15 t))))
    (λ t g.
    let parts = then-parts (one xs) lead a rest g in
    let b = parts.0 in
    let mid = parts.1 in
    then_owned one lead xs mid rest b a (λ _ n. n ≡ 1) (λ w n. (suc n ≡ name_size w) × Fitting w) K
    (one_owned xs mid b parts.2)
    (lead_owned b mid rest a parts.3)
    (λ m n j k. (omega arith, k.1)))

-- the length
second_owned : (high low : ℕ) (xs rest : List ℕ) (n : ℕ) → second high low xs ≡ got n rest → Owned ℕ (second high low) xs n rest (λ v m. (m ≡ 0) × (0x80 ≤ v))
second_owned high low xs rest n e =
    let K : ℕ → ℕ → Type 0 = λ v m. (m ≡ 0) × (0x80 ≤ v) in
    cond_owned (ltb low 0x80 && leb 0x80 (high * 0x80 + low)) (λ l. got (high * 0x80 + low) l) (λ l. bad 11) xs n rest K e
    (λ t g. got_owned (high * 0x80 + low) n xs rest K g (refl, leb-true 0x80 (high * 0x80 + low) (and_parts (ltb low 0x80) (leb 0x80 (high * 0x80 + low)) t).1))
    (λ t g. absurd (not-bad 11 n rest g))

-- one byte up to 127, otherwise two
Long : ℕ → ℕ → Type 0
Long v m = (m ≡ long v) × (1 ≤ v)

long-one : (v : ℕ) → v < 0x80 → 1 ≡ long v
long-one v h = sym (cond-true (ltb v 0x80) 1 2 (lt-ltb v 0x80 h))

long_two : (v : ℕ) → 0x80 ≤ v → 2 ≡ long v
long_two v h = sym (cond-false (ltb v 0x80) 1 2 (le-ltb v 0x80 h))

first_owned : (l : ℕ) (xs rest : List ℕ) (n : ℕ) → first_length l xs ≡ got n rest → Owned ℕ (first_length l) xs n rest (λ v m. (suc m ≡ long v) × (1 ≤ v))
first_owned l xs rest n e =
    let K : ℕ → ℕ → Type 0 = λ v m. (suc m ≡ long v) × (1 ≤ v) in
    cond_owned (ltb l 0x80) (λ r. cond (eqb l 0) (bad 12) (got l r)) (λ r. then (one r) (second (l - 0x80))) xs n rest K e
    (λ t g. cond_owned (eqb l 0) (λ r. bad 12) (λ r. got l r) xs n rest K g
    (λ s k. absurd (not-bad 12 n rest k))
    (λ s k. got_owned l n xs rest K k (long-one l (ltb-true l 0x80 t), omega (arith, eqb-false l 0 s))))
    (λ t g.
    let parts = then-parts (one xs) (second (l - 0x80)) n rest g in
    let b = parts.0 in
    let mid = parts.1 in
    then_owned one (second (l - 0x80)) xs mid rest b n (λ _ m. m ≡ 1) (λ v m. (m ≡ 0) × (0x80 ≤ v)) K
    (one_owned xs mid b parts.2)
    (second_owned (l - 0x80) b mid rest n parts.3)
    (λ m k j q. (ap suc (λ i. j i + q.0 i) ∙ long_two n q.1, omega arith)))

pub length_owned : (xs rest : List ℕ) (n : ℕ) → size_of_object xs ≡ got n rest → Owned ℕ size_of_object xs n rest (λ v m. (m ≡ long v) × (1 ≤ v))
length_owned xs rest n e =
    let parts = then-parts (one xs) first_length n rest e in
    let b = parts.0 in
    let mid = parts.1 in
    then_owned one first_length xs mid rest b n (λ _ m. m ≡ 1) (λ v m. (suc m ≡ long v) × (1 ≤ v)) (λ v m. (m ≡ long v) × (1 ≤ v))
    (one_owned xs mid b parts.2)
    (first_owned b mid rest n parts.3)
    (λ m k j q. (omega arith, q.1))
