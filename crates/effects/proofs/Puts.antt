-- A put, with room and without.
use Rattle.std.proofs.Common.{◌≡◌, ℕ, ◌+◌, ◌-◌, ◌*◌, ◌<◌, ◌≤◌, List, [], ◌∷◌, ◌++◌, map, length, replicate, sym, refl, ap, ◌∙◌, subst, inr, arith}
use Rattle.std.specs.List.{AllByRecursion}
use Rattle.std.proofs.ByRecursion.{All-push}
use Rattle.sets.specs.Sets.{holds}
use Rattle.sets.specs.Objects.{unpacked}
use Rattle.sets.specs.Scans.{free}
use Rattle.sets.specs.Layouts.{laid}
use Rattle.sets.specs.Readings.{Memory, Entry, Reading, found}
use Rattle.sets.proofs.Laying.{laid-tiles}
use Rattle.rivals.specs.Memories.{Rival}
use Rattle.rivals.specs.Relaid.{list_around, Suits, smallest_tiles}
use Rattle.rivals.specs.Rooms as rooms
use Rattle.rivals.proofs.Anew.{reads_distinct, place-at-end, free-after}
use Rattle.rivals.proofs.Holds.{put_wants}
use Rattle.rivals.proofs.Promised.{last-is-rest, no_room-to-put, most-free}
use Rattle.writing.specs.Forms.{Wanted, Fit, formed}
use Rattle.layout.specs.declared.items.Behind.TheVariants.{End}
use Rattle.layout.specs.Plans.{total, run}
use Rattle.layout.specs.Lays.{laid_gap}
use Rattle.layout.specs.Anew.{entry_of}
use Rattle.layout.proofs.Anews.{total-same, run_layable, gap-long, zeros-end}
use Rattle.effects.specs.Lists.{Absent, put_list}
use Rattle.effects.specs.Bytes.{Given}
use Rattle.effects.specs.Gaps.{Items, with_items, ReadsAs, Becomes, free_of}
use Rattle.effects.specs.Puts.{put_items, Put, PutWithRoom, PutWithoutRoom}
use Rattle.effects.proofs.Lists.{distinct_put}
use Rattle.effects.proofs.Bytes.{laid-bytes, all_fit}
use Rattle.effects.proofs.Gaps.{itself, total-append, entries-append, becomes}

-- the tiles of a gap at the end are smallest forms
run-smallest : (ws : List Wanted) → run ws 0 ≡ smallest_tiles (map entry_of ws)
unfolding run
run-smallest [] = refl
run-smallest (w ∷ []) = refl
run-smallest (w ∷ v ∷ ws) = ap (λ l. holds (formed 0 w) ∷ l) (run-smallest (v ∷ ws))

suits_end : (m : Memory) (p n g : ℕ) → p + n ≡ length m.locks → (ws : List Wanted) → AllByRecursion Fit ws → Suits m p n (laid_gap End ws g) (smallest_tiles (map entry_of ws))
suits_end m p n g last ws all =
    subst (Suits m p n (laid_gap End ws g)) (run-smallest ws)
    (inr (last, (laid (run ws 0), replicate (g - total ws) 0, refl, (laid-tiles unpacked (run ws 0) (run_layable ws 0 all (omega arith))).0, zeros-end (g - total ws))))

module _ (m : Memory) (r : Reading) (p n : ℕ) (ws : List Wanted) (i : Items m r p n ws) (last : p + n ≡ length m.locks) where
  -- the items are what stands after the last sealed entry
  rest-is : rooms.after_last r.entries ≡ map entry_of ws
  rest-is = sym (last-is-rest m m r i.shaped (itself m i.shaped) i.read p n i.gap last) ∙ sym i.are

  module _ (w : Wanted) where
    wants : total (put_items ws w) ≡ rooms.total (rooms.after_last r.entries) + rooms.least (entry_of w)
    unfolding total rooms.least
    wants = total-append ws (w ∷ []) ∙ omega (arith, ap rooms.total rest-is, total-same ws)

    pub without-room : n * m.size < total (put_items ws w) → (m' : Memory) → Rival m m' → ReadsAs m' (put_list r.entries (entry_of w)) → ⊥
    without-room over m' rival read' = no_room-to-put m i.shaped p n i.gap last r.entries (entry_of w) refl (omega (arith, wants)) m' rival read'

    most-is : rooms.total (rooms.after_last (put_list r.entries (entry_of w))) ≡ total (put_items ws w)
    most-is = put_wants r.entries (entry_of w) refl ∙ sym wants

    module _ (g : Given w) (new : Absent w.identifier r.entries) (fits : total (put_items ws w) ≤ n * m.size) where
      all-given : AllByRecursion Given (put_items ws w)
      all-given = All-push Given ws w i.given g

      list-is : list_around m p n (map entry_of (put_items ws w)) ≡ put_list r.entries (entry_of w)
      list-is = ap (list_around m p n) (entries-append ws (w ∷ []) ∙ ap (λ l. l ++ (entry_of w ∷ [])) i.are) ∙ place-at-end m r i.shaped i.read p n i.gap last (entry_of w ∷ [])

      now : Becomes m (with_items m p n End (put_items ws w)) (put_list r.entries (entry_of w))
      now = becomes m r i.shaped i.read p n i.gap End last (put_items ws w) all-given fits (put_list r.entries (entry_of w)) list-is (distinct_put r.entries (entry_of w) (reads_distinct m r i.read) new)

      free-is : free_of (with_items m p n End (put_items ws w)) ≡ length m.bytes - p * m.size - total (put_items ws w)
      free-is =
          let es : List Entry = map entry_of (put_items ws w) in
          let ns : List ℕ = laid_gap End (put_items ws w) (n * m.size) in
          ap (λ k. free k (found (with_items m p n End (put_items ws w)).bytes)) now.rival.long
          ∙ free-after m r i.shaped i.read p n i.gap last ns es (gap-long End (put_items ws w) (n * m.size) (all_fit (put_items ws w) all-given) fits) (laid-bytes End (put_items ws w) (n * m.size) all-given) (suits_end m p n (n * m.size) last (put_items ws w) (all_fit (put_items ws w) all-given))
          ∙ ap (λ k. length m.bytes - p * m.size - k) (total-same (put_items ws w))

      pub with_room : Put m (with_items m p n End (put_items ws w)) (put_list r.entries (entry_of w)) (length m.bytes - p * m.size - total (put_items ws w))
      with_room = record {
        becomes = now;
        free = free-is;
        most = λ m' rival read'. omega (arith, most-is, most-free m m' (record { entries = put_list r.entries (entry_of w) }) i.shaped rival read' p n i.gap last);
      }

pub put_with_room : PutWithRoom
put_with_room m r p n ws i last w g new fits = with_room m r p n ws i last w g new fits

pub put_without_room : PutWithoutRoom
put_without_room m r p n ws i last w over m' rival read' = without-room m r p n ws i last w over m' rival read'
