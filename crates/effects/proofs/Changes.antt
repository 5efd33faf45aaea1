-- A change, with room and without, and a drop.
use Rattle.std.proofs.Common.{◌≡◌, ℕ, suc, ◌+◌, ◌*◌, ◌<◌, ◌≤◌, List, [], ◌∷◌, ◌++◌, map, take, drop, sym, refl, ap, ◌∙◌, subst, arith}
use Rattle.std.proofs.ByRecursion.{All-append, All-take, All-drop}
use Rattle.codes.specs.Numbers.{kind_number}
use Rattle.sets.specs.Scans.{Found}
use Rattle.sets.specs.Readings.{Memory, Reading, identified, entry}
use Rattle.rivals.specs.Memories.{Rival}
use Rattle.rivals.specs.Promises.{gap_before, gap_behind}
use Rattle.rivals.specs.Relaid.{list_around, Distinct}
use Rattle.rivals.specs.Rooms as rooms
use Rattle.rivals.proofs.Anew.{reads_distinct, place_in-gap}
use Rattle.rivals.proofs.Holds.{total-at}
use Rattle.rivals.proofs.Promised.{list-with, room, no_room-to_change}
use Rattle.writing.specs.Forms.{Wanted}
use Rattle.layout.specs.declared.items.Behind.{Behind}
use Rattle.layout.specs.Plans.{least, total}
use Rattle.layout.specs.Anew.{entry_of, Stands}
use Rattle.layout.proofs.Anews.{total-same}
use Rattle.effects.specs.Lists.{with_object, changed, dropped}
use Rattle.effects.specs.Bytes.{Given}
use Rattle.effects.specs.Gaps.{with_items, ReadsAs, Becomes}
use Rattle.effects.specs.Changes.{ItemAt, change_items, drop_items, changed_to, ChangeWithRoom, ChangeWithoutRoom, Drop}
use Rattle.effects.proofs.Lists.{changed-at, dropped-at, distinct_change, distinct_drop}
use Rattle.effects.proofs.Gaps.{itself, total-append, entries-append, becomes}

least-same : (w : Wanted) → rooms.least (entry_of w) ≡ least w
unfolding rooms.least
least-same w = refl

module _ (m : Memory) (r : Reading) (fs : List Found) (f : Found) (gs : List Found) (p n : ℕ) (ws : List Wanted) (k : ℕ) (i : ItemAt m r fs f gs p n ws k) where
  -- the list around the set, and the same with others in its place
  pub list-is : r.entries ≡ map (entry m) fs ++ (entry m f ∷ map (entry m) gs)
  list-is = list-with m r i.shaped i.read fs f gs p n i.lies

  pub distinct : Distinct (map (entry m) fs ++ (entry m f ∷ map (entry m) gs))
  distinct = subst Distinct list-is (reads_distinct m r i.read)

  pub around_with : (vs : List Wanted) → list_around m p n (map entry_of (take k ws ++ (vs ++ drop (suc k) ws))) ≡ map (entry m) fs ++ (map entry_of vs ++ map (entry m) gs)
  around_with vs =
      ap (list_around m p n) (entries-append (take k ws) (vs ++ drop (suc k) ws) ∙ (λ j. i.before j ++ (entries-append vs (drop (suc k) ws) ∙ ap (λ l. map entry_of vs ++ l) i.behind) j))
      ∙ (place_in-gap m r i.shaped i.read fs f gs p n i.lies).1 (map entry_of vs)

  -- what the items around it need, and what all of them have
  pub front-total : rooms.total (gap_before m fs) ≡ total (take k ws)
  front-total = ap rooms.total (sym i.before) ∙ total-same (take k ws)

  pub back_total : rooms.total (gap_behind m gs) ≡ total (drop (suc k) ws)
  back_total = ap rooms.total (sym i.behind) ∙ total-same (drop (suc k) ws)

  change_total : (w : Wanted) → total (change_items ws k w) ≡ total (take k ws) + least w + total (drop (suc k) ws)
  unfolding total
  change_total w = total-append (take k ws) (w ∷ drop (suc k) ws) ∙ omega arith

  room-around : total (take k ws) + total (drop (suc k) ws) ≤ n * m.size
  room-around =
      let all = room m m r i.shaped (itself m i.shaped) i.read p n i.lies.gap in
      let parts = ap rooms.total (place_in-gap m r i.shaped i.read fs f gs p n i.lies).0 ∙ total-at (entry m f) (gap_behind m gs) (gap_before m fs) in
      omega (arith, all, parts, front-total, back_total)

  -- a change
  module _ (w : Wanted) (same : w.identifier ≡ identified f) where
    becomes-it : with_object (kind_number w.kind) w.object (entry m f) ≡ entry_of w
    becomes-it = (λ j. record { identifier = sym same j; kind = kind_number w.kind; object = w.object; sealed = i.lies.unsealed j })

    pub changed-is : changed_to w r.entries ≡ map (entry m) fs ++ (entry_of w ∷ map (entry m) gs)
    changed-is =
        ap (λ id. changed id (kind_number w.kind) w.object r.entries) same ∙ ap (changed (identified f) (kind_number w.kind) w.object) list-is
        ∙ changed-at (kind_number w.kind) w.object (entry m f) (map (entry m) fs) (map (entry m) gs) distinct
        ∙ ap (λ e. map (entry m) fs ++ (e ∷ map (entry m) gs)) becomes-it

    pub changes : (behind : Behind) → Stands m p n behind → Given w → total (change_items ws k w) ≤ n * m.size → Becomes m (with_items m p n behind (change_items ws k w)) (changed_to w r.entries)
    changes behind here g fits =
        becomes m r i.shaped i.read p n i.lies.gap behind here (change_items ws k w) (All-append Given (take k ws) (w ∷ drop (suc k) ws) (All-take Given k ws i.given) (g, All-drop Given (suc k) ws i.given)) fits (changed_to w r.entries)
        (around_with (w ∷ []) ∙ sym changed-is) (subst Distinct (sym changed-is) (distinct_change (entry m f) (entry_of w) same (map (entry m) fs) (map (entry m) gs) distinct))

    pub no_change : n * m.size < total (change_items ws k w) → (m' : Memory) → Rival m m' → ReadsAs m' (changed_to w r.entries) → ⊥
    no_change over m' rival read' =
        no_room-to_change m r i.shaped i.read fs f gs p n i.lies (entry_of w) refl (omega (arith, change_total w, front-total, back_total, least-same w)) m' rival (subst (ReadsAs m') changed-is read')

  -- a drop
  pub dropped-is : dropped (identified f) r.entries ≡ map (entry m) fs ++ map (entry m) gs
  dropped-is = ap (dropped (identified f)) list-is ∙ dropped-at (entry m f) (map (entry m) fs) (map (entry m) gs) distinct

  pub drop-room : total (drop_items ws k) ≤ n * m.size
  drop-room = omega (arith, total-append (take k ws) (drop (suc k) ws), room-around)

  pub drops : (behind : Behind) → Stands m p n behind → Becomes m (with_items m p n behind (drop_items ws k)) (dropped (identified f) r.entries)
  drops behind here =
      becomes m r i.shaped i.read p n i.lies.gap behind here (drop_items ws k) (All-append Given (take k ws) (drop (suc k) ws) (All-take Given k ws i.given) (All-drop Given (suc k) ws i.given)) drop-room (dropped (identified f) r.entries)
      (around_with [] ∙ sym dropped-is) (subst Distinct (sym dropped-is) (distinct_drop (entry m f) (map (entry m) fs) (map (entry m) gs) distinct))

pub change_with_room : ChangeWithRoom
change_with_room m r fs f gs p n ws k i behind here w g same fits = changes m r fs f gs p n ws k i w same behind here g fits

pub change_without_room : ChangeWithoutRoom
change_without_room m r fs f gs p n ws k i w same over m' rival read' = no_change m r fs f gs p n ws k i w same over m' rival read'

pub drop_always : Drop
drop_always m r fs f gs p n ws k i behind here = (drop-room m r fs f gs p n ws k i, drops m r fs f gs p n ws k i behind here)
