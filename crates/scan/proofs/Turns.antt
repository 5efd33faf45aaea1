-- What a turn of the scan keeps.
use Rattle.std.proofs.Common.{◌≡◌, ℕ, ◌+◌, ◌-◌, ◌*◌, ◌/◌, ◌<◌, ◌≤◌, true, false, List, [], ◌∷◌, ◌++◌, length, get_or, drop, set, Some, None, Ok, Err, Option, sym, refl, ap, ◌∙◌, subst, append_assoc, append-nil, zero-add, arith}
use Rattle.std.proofs.lemmas.List.{length_push, set_at, drop_more, drop-drop, map-append}
use Rattle.std.proofs.lemmas.Bool.{cond-true, cond-false, lt-ltb, le-ltb}
use Rattle.sets.specs.Sets.{Tile, filler, holds, size, wide}
use Rattle.sets.specs.Sets as sets
use Rattle.sets.specs.Parsing.{plain, Flaw, end, tile, wrong}
use Rattle.sets.specs.Scans.{next, Refusal, Scan, scan, scan_at, Found, placed, behind, used_from, used}
use Rattle.sets.specs.Tilings.{span}
use Rattle.sets.specs.Objects.{unpacked}
use Rattle.sets.specs.Readings.{found}
use Rattle.sets.proofs.Tilings.{scan-end, scan-tile, scan-wrong, placed-append}
use Rattle.scan.specs.declared.views.SetRecord.{SetRecord}
use Rattle.scan.specs.declared.tables.Tally.{Tally}
use Rattle.scan.specs.Views.{recorded}
use Rattle.scan.specs.Tables.{records, tally, short, judged, answer, filled, after}

abbrev behind_tiles : List Tile → Scan → Scan
behind_tiles ts s = record { tiles = ts ++ s.tiles; fault = s.fault }

one_more : (ts : List Tile) (t : Tile) (s : Scan) → behind_tiles ts (record { tiles = t ∷ s.tiles; fault = s.fault }) ≡ behind_tiles (ts ++ t ∷ []) s
one_more ts t s = λ i. record { tiles = sym (append_assoc ts (t ∷ []) s.tiles) i; fault = s.fault }

-- one tile more
span-push : (ts : List Tile) (t : Tile) → span (ts ++ t ∷ []) ≡ span ts + wide t
unfolding span
span-push [] t = omega arith
span-push (t₀ ∷ ts) t = omega (arith, span-push ts t)

placed-filler : (ts : List Tile) → placed 0 (ts ++ filler ∷ []) ≡ placed 0 ts
unfolding placed
placed-filler ts = placed-append 0 ts (filler ∷ []) ∙ append-nil (placed 0 ts)

placed-set : (ts : List Tile) (s : sets.Set) (at : ℕ) → span ts ≡ at → placed 0 (ts ++ holds s ∷ []) ≡ placed 0 ts ++ record { at = at; set = s } ∷ []
unfolding placed
placed-set ts s at e = placed-append 0 ts (holds s ∷ []) ∙ ap (λ k. placed 0 ts ++ record { at = k; set = s } ∷ []) (zero-add (span ts) ∙ e)

used-push : (a : ℕ) (fs : List Found) (f : Found) → used_from a (fs ++ f ∷ []) ≡ behind f
used-push a [] f = refl
used-push a (g ∷ fs) f = used-push (behind g) fs f

-- the records of the first tiles stand in the table, and the tiles from `at` on are left
pub record Sofar (xs : List ℕ) (old new : List SetRecord) (n at last : ℕ) : Type 0 where
  pub done : List Tile
  pub far : span done ≡ at
  pub inside : at ≤ length xs
  pub thrice : 3 * n ≤ at
  pub low : last ≤ at
  pub many : length (records (placed 0 done)) ≡ n
  pub latest : used (placed 0 done) ≡ last
  pub is : scan unpacked xs ≡ behind_tiles done (scan_at unpacked at (drop at xs))
  pub table : new ≡ filled (records (placed 0 done)) old

pub begun : (xs : List ℕ) (old : List SetRecord) → Sofar xs old old 0 0 0
unfolding span placed
begun xs old = record {
  done = [];
  far = refl;
  inside = omega arith;
  thrice = omega arith;
  low = omega arith;
  many = refl;
  latest = refl;
  is = refl;
  table = refl;
}

module _ {xs : List ℕ} {old new : List SetRecord} {n at last : ℕ} (h : Sofar xs old new n at last) where
  further : (t : Tile) → next unpacked (drop at xs) ≡ tile t → scan unpacked xs ≡ behind_tiles (h.done ++ t ∷ []) (scan_at unpacked (at + wide t) (drop (at + wide t) xs))
  further t e =
      h.is ∙ ap (behind_tiles h.done) (scan-tile unpacked at (drop at xs) t e ∙ ap (λ l. record { tiles = t ∷ (scan_at unpacked (at + wide t) l).tiles; fault = (scan_at unpacked (at + wide t) l).fault }) (drop-drop (wide t) at xs))
      ∙ one_more h.done t (scan_at unpacked (at + wide t) (drop (at + wide t) xs))

  pub skipped : tile filler ≡ next unpacked (drop at xs) → at + 1 ≤ length xs → Sofar xs old new n (at + 1) last
  skipped e room =
      let same = placed-filler h.done in
      record {
        done = h.done ++ filler ∷ [];
        far = span-push h.done filler ∙ ap (λ k. k + 1) h.far;
        inside = room;
        thrice = omega (arith, h.thrice);
        low = omega (arith, h.low);
        many = ap (λ fs. length (records fs)) same ∙ h.many;
        latest = ap used same ∙ h.latest;
        is = further filler (sym e);
        table = h.table ∙ ap (λ fs. filled (records fs) old) (sym same);
      }

  kept_by : (s : sets.Set) (r : SetRecord) → tile (holds s) ≡ next unpacked (drop at xs) → r ≡ recorded at s → 3 ≤ size s → at + size s ≤ length xs → n < length old → Sofar xs old (set new n r) (n + 1) (at + size s) (at + size s)
  kept_by s r e is-r three room in' =
      let done = h.done in
      let fs = placed 0 h.done in
      let f : Found = record { at = at; set = s } in
      let rs = records (placed 0 h.done) in
      let grown : placed 0 (done ++ holds s ∷ []) ≡ fs ++ f ∷ [] = placed-set done s at h.far in
      let more : records (placed 0 (done ++ holds s ∷ [])) ≡ rs ++ r ∷ [] =
      ap records grown ∙ map-append (λ (g : Found). recorded g.at g.set) fs (f ∷ []) ∙ ap (λ q. rs ++ q ∷ []) (sym is-r) in
      let count : length (records (placed 0 (done ++ holds s ∷ []))) ≡ n + 1 = ap length more ∙ length_push rs r ∙ ap (λ m. m + 1) h.many in
      record {
        done = done ++ holds s ∷ [];
        far = span-push done (holds s) ∙ ap (λ k. k + size s) h.far;
        inside = room;
        thrice = omega (arith, h.thrice, three);
        low = omega arith;
        many = count;
        latest = ap used grown ∙ used-push 0 fs f;
        is = further (holds s) (sym e);
        table =
            ap (λ t. set t n r) (h.table ∙ ap (λ t. rs ++ t) (ap (λ m. drop m old) h.many ∙ drop_more old n r in'))
            ∙ set_at rs (get_or old n r) (drop (n + 1) old) r n h.many
            ∙ sym (append_assoc rs (r ∷ []) (drop (n + 1) old))
            ∙ (λ i. sym more i ++ drop (sym count i) old);
      }

  pub kept : (s : sets.Set) (r : SetRecord) → tile (holds s) ≡ next unpacked (drop at xs) → r ≡ recorded at s → 3 ≤ r.size → at + r.size ≤ length xs → n < length old → Sofar xs old (set new n r) (n + 1) (at + r.size) (at + r.size)
  kept s r e is-r three room in' =
      let many : r.size ≡ size s = ap (λ (q : SetRecord). q.size) is-r in
      subst (λ k. Sofar xs old (set new n r) (n + 1) (at + k) (at + k)) (sym many) (kept_by s r e is-r (omega arith) (omega arith) in')

  -- what a scan that ends here answers, in a table with room
  module _ (room : length xs / 3 ≤ length old) where
    stopped : (f : Option Refusal) → scan_at unpacked at (drop at xs) ≡ record { tiles = []; fault = f }
        → (judged f (record { sets = n; free = length xs - last }) ≡ answer (length old) xs) × (new ≡ after xs old)
    stopped f e =
        let all : scan unpacked xs ≡ record { tiles = h.done; fault = f } = h.is ∙ ap (behind_tiles h.done) e ∙ (λ i. record { tiles = append-nil h.done i; fault = f }) in
        let t : Tally = record { sets = n; free = length xs - last } in
        let sum : t ≡ tally (length xs) (placed 0 h.done) = λ i. record { sets = sym h.many i; free = length xs - sym h.latest i } in
        let fits : short (length old) xs ≡ false = le-ltb (length old) (length xs / 3) room in (
          ap (judged f) sum ∙ ap (λ (s : Scan). judged s.fault (tally (length xs) (placed 0 s.tiles))) (sym all) ∙ sym (cond-false (short (length old) xs) (Err (record { place = 2; flaw = plain 4 })) (judged (scan unpacked xs).fault (tally (length xs) (found xs))) fits),
          h.table ∙ ap (λ (s : Scan). filled (records (placed 0 s.tiles)) old) (sym all) ∙ sym (cond-false (short (length old) xs) old (filled (records (found xs)) old) fits),
        )

    pub ended : end ≡ next unpacked (drop at xs) → (Ok (record { sets = n; free = length xs - last }) ≡ answer (length old) xs) × (new ≡ after xs old)
    ended e = stopped None (scan-end unpacked at (drop at xs) (sym e))

    pub failed : (f : Flaw) → wrong f ≡ next unpacked (drop at xs) → (Err (record { place = at; flaw = f }) ≡ answer (length old) xs) × (new ≡ after xs old)
    failed f e = stopped (Some (record { place = at; flaw = f })) (scan-wrong unpacked at (drop at xs) f (sym e))

-- a table that is too short
pub refused : (xs : List ℕ) (old : List SetRecord) → length old < length xs / 3 → (Err (record { place = 2; flaw = plain 4 }) ≡ answer (length old) xs) × (old ≡ after xs old)
refused xs old h =
    let small : short (length old) xs ≡ true = lt-ltb (length old) (length xs / 3) h in (
      sym (cond-true (short (length old) xs) (Err (record { place = 2; flaw = plain 4 })) (judged (scan unpacked xs).fault (tally (length xs) (found xs))) small),
      sym (cond-true (short (length old) xs) old (filled (records (found xs)) old) small),
    )
