-- What a driver's calls do where the changes are kept in a table.
use Rattle.std.proofs.Common.{◌≡◌, ℕ, ◌<◌, ◌≤◌, Bool, true, false, cond, ◌&&◌, ◌||◌, leb, ◌≢◌, List, [], ◌++◌, map, length, get_or, take, drop, set, replicate, is_some, Some, unwrap_or, Ok, Err, sym, refl, ap, ◌∙◌, ⊎_elim, arith, length-append}
use Rattle.std.specs.List.{range_with_len}
use Rattle.std.proofs.lemmas.List.FromFn.{length-map-range_with_len, get_or-map-range_with_len, fill_by_all}
use Rattle.std.proofs.lemmas.List.{length-take-le, length-replicate, get_or-replicate, length-set, get_or-set_same, get_or-set_other, take-append-le, take_at}
use Rattle.std.proofs.lemmas.Bool.{and_parts, leb-true, le-leb, cond-true, cond-false, cond_both, cases_eq}
use Rattle.tags.specs.Tags.{Tag, Shaped, held}
use Rattle.tags.proofs.Limits.{held_below}
use Rattle.drivers.specs.declared.faults.DriverFault.TheVariants.{Locked}
use Rattle.drivers.specs.Questions.{shut, block, locked_answer}
use Rattle.drivers.specs.Changes.{write_answer, write_tag, lock_answer, lock_tag}
use Rattle.drivers.proofs.Granted.{locked-told, write_granted, write_refused, write_leaves, lock_granted, lock_leaves}
use Rattle.tables.specs.declared.Row.{Row}
use Rattle.tables.specs.declared.Table.{Table}
use Rattle.tables.specs.Tables.{has_room, blank, slot, unchanged, written, is_written, row, with_row, with_locked, first, block_under, lock_under, under}

room-parts : (n b : ℕ) → has_room n b ≡ true → (n ≤ 64) × (b ≤ 32)
room-parts n b e = let p = and_parts _ _ e in (leb-true n 64 p.0, leb-true b 32 p.1)

length-first : (b : ℕ) (xs : List ℕ) → length (first b xs) ≡ b
length-first b xs = length-take-le b (xs ++ replicate b 0) (omega (arith, length-append xs (replicate b 0), length-replicate {A = ℕ} b 0))

pub first-is : (b : ℕ) (xs : List ℕ) → b ≤ length xs → first b xs ≡ take b xs
first-is b xs h = take-append-le b xs (replicate b 0) h

or-false : (a b : Bool) → b ≡ false → (a || b) ≡ a
or-false true b e = refl
or-false false b e = e

-- a list made by index, changed at one
set_counting : {X : Type 0} (f f' : ℕ → X) (d : X) (n k : ℕ) → ((j : ℕ) → j ≢ k → f j ≡ f' j) → set (map f (range_with_len 0 n)) k (f' k) ≡ map f' (range_with_len 0 n)
set_counting f f' d n k other =
    fill_by_all f' (set (map f (range_with_len 0 n)) k (f' k)) n d (length-set (map f (range_with_len 0 n)) k (f' k) ∙ length-map-range_with_len f 0 n)
    (λ j h. ⊎_elim
    (λ e. ap (λ i. get_or (set (map f (range_with_len 0 n)) k (f' k)) i d) e ∙ get_or-set_same (map f (range_with_len 0 n)) k (f' k) d (omega (arith, length-map-range_with_len f 0 n)) ∙ ap f' (sym e))
    (λ ne. get_or-set_other (map f (range_with_len 0 n)) k j (f' k) d ne ∙ get_or-map-range_with_len f 0 n j j d h (omega arith) ∙ other j ne)
    (cases_eq j k))

-- block k of a tag, by the row that it has
abbrev by_row : Tag → ℕ → Row → List ℕ
by_row t k r = cond (is_some r.bytes) (first t.size (unwrap_or r.bytes (replicate 32 0))) (block t k)

-- a row replaced by one that shows the same in one way
kept : {X : Type 0} (f : Row → X) (c : Table) (k : ℕ) (r : Row) → k < length c.rows → f r ≡ f (slot c k) → (j : ℕ) → f (get_or (set c.rows k r) j blank) ≡ f (slot c j)
kept f c k r inside e j =
    ⊎_elim
    (λ q. ap (λ i. f (get_or (set c.rows k r) i blank)) q ∙ ap f (get_or-set_same c.rows k r blank inside) ∙ e ∙ ap (λ i. f (slot c i)) (sym q))
    (λ ne. ap f (get_or-set_other c.rows k j r blank ne))
    (cases_eq j k)

module _ (t : Tag) (c : Table) (s : ℕ) where
  abbrev room : Bool
  room = has_room t.count t.size

  abbrev n : ℕ
  n = held room t.count

  abbrev b : ℕ
  b = held room t.size

  abbrev u : Tag
  u = under t c s

  pub under-shaped : Shaped t → Shaped u
  under-shaped shaped = record {
    many = length-map-range_with_len (block_under t c) 0 n;
    each = λ k h.
        let p = held_below room k t.count h in
        ap length (get_or-map-range_with_len (block_under t c) 0 n k k [] h (omega arith))
        ∙ cond_both (is_written c k) (first t.size (row c k)) (block t k) (λ x. length x ≡ t.size) (λ _. length-first t.size (row c k)) (λ _. shaped.each k p.1)
        ∙ ap (λ f. held f t.size) (sym p.0);
    flags = length-map-range_with_len (lock_under t c) 0 n;
    few = few room t.count shaped.few;
    small = few room t.size shaped.small;
  }
    where
      few : (f : Bool) (m : ℕ) → m ≤ 256 → held f m ≤ 256
      few true m h = h
      few false m h = omega arith

  module _ (fit : has_room t.count t.size ≡ true) (k : ℕ) (below : k < t.count) where
    here : k < n
    here = omega (arith, cond-true room t.count 0 fit)

    pub under_few : (k < 64) × (t.size ≤ 32)
    under_few = let p = room-parts t.count t.size fit in (omega arith, p.1)

    pub same_size : b ≡ t.size
    same_size = ap (λ f. held f t.size) fit

    same_block : block u k ≡ block_under t c k
    same_block = get_or-map-range_with_len (block_under t c) 0 n k k [] here (omega arith)

    same_lock : shut u k ≡ lock_under t c k
    same_lock = get_or-map-range_with_len (lock_under t c) 0 n k k false here (omega arith)

    pub under_locked : Ok (lock_under t c k) ≡ locked_answer u k
    under_locked = ap Ok (sym same_lock) ∙ locked-told u k here

    fetched : (m : ℕ) → m ≡ t.size → is_written c k ≡ (is_written c k && leb m 32)
    fetched m e = sym (ap (λ x. is_written c k && x) (le-leb m 32 (omega (arith, under_few.1))) ∙ and_true (is_written c k))
      where
        and_true : (a : Bool) → (a && true) ≡ a
        and_true true = refl
        and_true false = refl

    -- the table has the block's first m bytes
    pub under_fetched : (m : ℕ) → m ≡ t.size → (is_written c k && leb m 32) ≡ true → first m (row c k) ≡ block u k
    under_fetched m e has =
        ap (λ j. first j (row c k)) e ∙ sym (cond-true (is_written c k) (first t.size (row c k)) (block t k) (fetched m e ∙ has)) ∙ sym same_block

    -- it has not, and the block is the tag's own
    pub under_own : (m : ℕ) → m ≡ t.size → (is_written c k && leb m 32) ≡ false → block t k ≡ block u k
    under_own m e has =
        sym (cond-false (is_written c k) (first t.size (row c k)) (block t k) (fetched m e ∙ has)) ∙ sym same_block

    pub under_refused : (from : List ℕ) → length from ≡ t.size → lock_under t c k ≡ true → (Err (Locked k) ≡ write_answer u k (length from)) × (u ≡ write_tag u k from)
    under_refused from e locked =
        let g = write_refused u k here (length from) (e ∙ sym same_size) (same_lock ∙ locked) in
        (g, write_leaves u k (Err (Locked k)) from g)

    pub under_write : (from : List ℕ) → length from ≡ t.size → lock_under t c k ≡ false → k < length c.rows → (Ok tt ≡ write_answer u k (length from)) × (under t (with_row c k from) s ≡ write_tag u k from)
    under_write from e unlocked inside =
        let g = write_granted u k here (length from) (e ∙ sym same_size) (same_lock ∙ unlocked) in
        let bytes = from ++ drop (length from) (row c k) in
        let new : Row = record { bytes = Some bytes; locked = (slot c k).locked } in
        let is : block_under t (with_row c k from) k ≡ from =
        ap (by_row t k) (get_or-set_same c.rows k new blank inside)
        ∙ first-is t.size bytes (omega (arith, length-append from (drop (length from) (row c k))))
        ∙ take_at from (drop (length from) (row c k)) t.size e in
        let other : (j : ℕ) → j ≢ k → block_under t c j ≡ block_under t (with_row c k from) j =
        λ j ne. ap (by_row t j) (sym (get_or-set_other c.rows k j new blank ne)) in
        let locks = kept (λ r. r.locked) c k new inside refl in (
          g,
          (λ i. record { count = n; size = b; system = s; blocks = (sym (set_counting (block_under t c) (block_under t (with_row c k from)) [] n k other) ∙ ap (set (map (block_under t c) (range_with_len 0 n)) k) is) i; locks = map (λ j. shut t j || locks j i) (range_with_len 0 n) })
              ∙ write_leaves u k (Ok tt) from g,
        )

    pub under_lock : k < length c.rows → (Ok tt ≡ lock_answer u k) × (under t (with_locked c k) s ≡ lock_tag u k)
    under_lock inside =
        let g = lock_granted u k here in
        let new : Row = record { bytes = written c k; locked = true } in
        let is : lock_under t (with_locked c k) k ≡ true =
        ap (λ r. shut t k || r.locked) (get_or-set_same c.rows k new blank inside) ∙ or-true (shut t k) in
        let other : (j : ℕ) → j ≢ k → lock_under t c j ≡ lock_under t (with_locked c k) j =
        λ j ne. ap (λ r. shut t j || r.locked) (sym (get_or-set_other c.rows k j new blank ne)) in
        let same = kept (λ r. r.bytes) c k new inside refl in (
          g,
          (λ i. record { count = n; size = b; system = s; blocks = map (λ j. by_row t j (record { bytes = same j i; locked = false })) (range_with_len 0 n); locks = (sym (set_counting (lock_under t c) (lock_under t (with_locked c k)) false n k other) ∙ ap (set (map (lock_under t c) (range_with_len 0 n)) k) is) i })
              ∙ lock_leaves u k (Ok tt) g,
        )
      where
        or-true : (a : Bool) → (a || true) ≡ true
        or-true true = refl
        or-true false = refl

-- under a table of no changes a tag is as it was
pub under-unchanged : (t : Tag) → Shaped t → has_room t.count t.size ≡ true → under t unchanged t.system ≡ t
under-unchanged t shaped room =
    let few = room-parts t.count t.size room in
    let none : (k : ℕ) → k < t.count → slot unchanged k ≡ blank = λ k h. get_or-replicate 64 k blank blank (omega arith) in
    (λ i. record {
      count = held (room i) t.count;
      size = held (room i) t.size;
      system = t.system;
      blocks = map (block_under t unchanged) (range_with_len 0 (held (room i) t.count));
      locks = map (lock_under t unchanged) (range_with_len 0 (held (room i) t.count));
    })
    ∙ (λ i. record {
      count = t.count;
      size = t.size;
      system = t.system;
      blocks = sym (fill_by_all (block_under t unchanged) t.blocks t.count [] shaped.many (λ k h. ap (by_row t k) (sym (none k h)))) i;
      locks = sym (fill_by_all (lock_under t unchanged) t.locks t.count false shaped.flags (λ k h. sym (or-false (shut t k) (slot unchanged k).locked (ap (λ r. r.locked) (none k h))))) i;
    })
