-- The laws of the calls.
use Rattle.std.proofs.Common.{◌≡◌, ℕ, suc, ◌+◌, ◌-◌, ◌*◌, ◌<◌, ◌≤◌, min, true, false, List, [], ◌∷◌, ◌++◌, map, length, get_or, take, drop, sym, ap, ◌∙◌, subst, ⊎_elim, arith, length-append, length-drop, length-take}
use Rattle.std.specs.Str.{bytes_eq}
use Rattle.std.proofs.lemmas.Slice.Eq.{bytes_eq-Decides}
use Rattle.std.proofs.lemmas.Nat.{div-mul-add}
use Rattle.std.proofs.lemmas.List.{ext_get_or, get_or_past, get_or-take, get_or-drop}
use Rattle.std.proofs.lemmas.Bool.{cases_Bool, cases_lt, both_ways, cond-true, cond-false}
use Rattle.sets.specs.Scans.{Found}
use Rattle.sets.specs.Readings.{Memory, Entry, Reading, found, entry}
use Rattle.rivals.specs.Promises.{Lies, gap_before, gap_behind}
use Rattle.rivals.proofs.Anew.{place_in-gap}
use Rattle.rivals.proofs.Holds.{shaped-rival}
use Rattle.writing.specs.Forms.{Wanted}
use Rattle.layout.specs.Plans.{nth}
use Rattle.layout.specs.Anew.{entry_of, Stands}
use Rattle.effects.specs.Gaps.{Items, OpenSet}
use Rattle.effects.specs.Blocks.{end_first, end_blocks, block_bytes}
use Rattle.effects.specs.Changes.{ItemAt}
use Rattle.effects.specs.Lists.{sealed_list}
use Rattle.effects.specs.Seals.{locking}
use Rattle.effects.specs.Made.{end_items, set_first, set_blocks, set_behind, set_items, set_room, end_room, put_wants, put_made, change_wants, change_made, drop_made, ready_wants, place_of, set_place, ready_made, ready_first, ready_blocks}
use Rattle.effects.specs.Laws.{Legible, PutMakes, ChangeMakes, DropMakes, ReadyMakes, PutRefused, ChangeRefused, ReadyRefused, SealMakes, ReadiedSeals, StaysLegible, LockedKept, FormatMakes}
use Rattle.effects.proofs.Lists.{parted}
use Rattle.effects.proofs.Blocks.{end-gap, set-gap, stands-behind}
use Rattle.effects.proofs.Held.{items_held, item_named}
use Rattle.effects.proofs.Puts.{put_with_room, put_without_room}
use Rattle.effects.proofs.Changes.{change_with_room, change_without_room, drop_always}
use Rattle.effects.proofs.Formats.{format}
use Rattle.effects.proofs.Seals.{seal}
use Rattle.effects.proofs.Readies.{ready_with_room, ready_without_room}

-- the item of an entry is where its identifier stands first
abbrev At : List ℕ → List Wanted → ℕ → Type 0
At id ws k = (k < length ws) × ((nth ws k).identifier ≡ id)

here : (id : List ℕ) (w : Wanted) (ws : List Wanted) → bytes_eq id w.identifier ≡ true → At id (w ∷ ws) (place_of id (w ∷ ws))
unfolding place_of
here id w ws t =
    subst (At id (w ∷ ws)) (sym (cond-true (bytes_eq id w.identifier) 0 (suc (place_of id ws)) t)) (omega arith, sym ((bytes_eq-Decides id w.identifier).0 t))

placed_at : (x : Entry) (gb gh : List Entry) (ws : List Wanted) → map entry_of ws ≡ gb ++ (x ∷ gh) → At x.identifier ws (place_of x.identifier ws)
unfolding place_of
placed_at x gb gh [] e = absurd (omega (arith, ap length e, length-append gb (x ∷ gh)))
placed_at x [] gh (w ∷ ws) e =
    let this : entry_of w ≡ x = cc in
    here x.identifier w ws ((bytes_eq-Decides x.identifier w.identifier).1 (ap (λ y. y.identifier) (sym this)))
placed_at x (g ∷ gb) gh (w ∷ ws) e =
    let those : map entry_of ws ≡ gb ++ (x ∷ gh) = cc in
    let rest = placed_at x gb gh ws those in
    let low : place_of x.identifier ws < length ws = rest.0 in
    ⊎_elim (λ (t : bytes_eq x.identifier w.identifier ≡ true). here x.identifier w ws t)
    (λ (f : bytes_eq x.identifier w.identifier ≡ false).
    subst (At x.identifier (w ∷ ws)) (sym (cond-false (bytes_eq x.identifier w.identifier) 0 (suc (place_of x.identifier ws)) f)) (omega arith, rest.1))
    (cases_Bool (bytes_eq x.identifier w.identifier))

module _ (m : Memory) (r : Reading) (l : Legible m r) where
  at-end : Items m r (end_first m) (end_blocks m) (end_items m)
  unfolding end_items
  at-end = items_held m r l.shaped l.few l.read (end_first m) (end_blocks m) (end-gap m).0

  module _ (f : Found) (o : OpenSet m f) where
    abbrev fs : List Found
    fs = take o.has.0 (found m.bytes)

    abbrev gs : List Found
    gs = drop (suc o.has.0) (found m.bytes)

    lies : Lies m fs f gs (set_first m f) (set_blocks m f)
    unfolding set_first set_blocks
    lies = set-gap m r l.shaped l.read fs f gs (parted (found m.bytes) f o.has.0 o.has.1 o.has.2) o.unsealed

    items : Items m r (set_first m f) (set_blocks m f) (set_items m f)
    unfolding set_items
    items = items_held m r l.shaped l.few l.read (set_first m f) (set_blocks m f) lies.gap

    item : ItemAt m r fs f gs (set_first m f) (set_blocks m f) (set_items m f) (set_place m f)
    unfolding set_place
    item =
        let where-it-is = placed_at (entry m f) (gap_before m fs) (gap_behind m gs) (set_items m f) (items.are ∙ (place_in-gap m r l.shaped l.read fs f gs (set_first m f) (set_blocks m f) lies).0) in
        item_named m r fs f gs (set_first m f) (set_blocks m f) (set_items m f) items lies (set_place m f) where-it-is.0 where-it-is.1

    behind-it : Stands m (set_first m f) (set_blocks m f) (set_behind m f)
    unfolding set_behind
    behind-it = stands-behind m (set_first m f) (set_blocks m f) lies.gap

pub put_makes : PutMakes
unfolding put_made put_wants end_room
put_makes m r l w g new fits = put_with_room m r (end_first m) (end_blocks m) (end_items m) (at-end m r l) (end-gap m).1 w g new fits

pub put_refused : PutRefused
unfolding put_wants end_room
put_refused m r l w over = put_without_room m r (end_first m) (end_blocks m) (end_items m) (at-end m r l) (end-gap m).1 w over

pub change_makes : ChangeMakes
unfolding change_made change_wants set_room
change_makes m r l f o w g same fits =
    change_with_room m r (fs m r l f o) f (gs m r l f o) (set_first m f) (set_blocks m f) (set_items m f) (set_place m f) (item m r l f o) (set_behind m f) (behind-it m r l f o) w g same fits

pub change_refused : ChangeRefused
unfolding change_wants set_room
change_refused m r l f o w same over =
    change_without_room m r (fs m r l f o) f (gs m r l f o) (set_first m f) (set_blocks m f) (set_items m f) (set_place m f) (item m r l f o) w same over

pub drop_makes : DropMakes
unfolding drop_made
drop_makes m r l f o =
    (drop_always m r (fs m r l f o) f (gs m r l f o) (set_first m f) (set_blocks m f) (set_items m f) (set_place m f) (item m r l f o) (set_behind m f) (behind-it m r l f o)).1

pub ready_makes : ReadyMakes
unfolding ready_made ready_wants ready_first ready_blocks set_room
ready_makes m r l f o small fits =
    (ready_with_room m r (fs m r l f o) f (gs m r l f o) (set_first m f) (set_blocks m f) (set_items m f) (set_place m f) (item m r l f o) (set_behind m f) (behind-it m r l f o) small fits).0

pub ready_refused : ReadyRefused
unfolding ready_wants set_room
ready_refused m r l f o over =
    ready_without_room m r (fs m r l f o) f (gs m r l f o) (set_first m f) (set_blocks m f) (set_items m f) (set_place m f) (item m r l f o) over

pub stays_legible : StaysLegible
stays_legible m m' r l h b = record {
  shaped = shaped-rival m m' b.rival h.shaped;
  few = omega (arith, h.few, b.rival.long);
  read = b.list;
}

pub seal_makes : SealMakes
seal_makes m r l f p n fills =
    let s = seal m r l.shaped l.read f p n fills in
    (record { shaped = s.shaped; few = l.few; read = s.list }, s)

pub readied_seals : ReadiedSeals
readied_seals m r l f o small fits =
    let ready = ready_makes m r l f o small fits in
    let now = ready.pledged in
    let same = stays_legible m (ready_made m f) r r.entries l ready.becomes in
    subst (λ id. Legible (locking (ready_made m f) (ready_first m f) (ready_blocks m f)) (record { entries = sealed_list id r.entries })) now.1
    (seal_makes (ready_made m f) r same now.0 (ready_first m f) (ready_blocks m f) now.2).0

pub locked-kept : LockedKept
locked-kept m m' sh v k t =
    let at : ℕ = k * m.size in
    let low : k < length m.locks = ⊎_elim (λ (l : k < length m.locks). l) (λ (g : length m.locks ≤ k). absurd (both_ways (get_or m.locks k false) (get_or_past m.locks k false g) t)) (cases_lt k (length m.locks)) in
    let same : block_bytes m' k ≡ take m.size (drop (k * m.size) m'.bytes) = ap (λ b. take b (drop (k * b) m'.bytes)) v.size in
    same ∙ ext_get_or 0 (take m.size (drop (k * m.size) m'.bytes)) (take m.size (drop (k * m.size) m.bytes))
    (length-take m.size (drop (k * m.size) m'.bytes) ∙ ap (min m.size) (length-drop (k * m.size) m'.bytes ∙ ap (λ l. l - k * m.size) v.long ∙ sym (length-drop (k * m.size) m.bytes)) ∙ sym (length-take m.size (drop (k * m.size) m.bytes)))
    (λ i h.
    let in' : i < m.size = omega (arith, length-take m.size (drop (k * m.size) m'.bytes)) in
    get_or-take m.size (drop (k * m.size) m'.bytes) i 0 in' ∙ get_or-drop (k * m.size) m'.bytes i 0
    ∙ v.alike (k * m.size + i) (ap (λ j. get_or m.locks j false) (div-mul-add k m.size i in') ∙ t)
    ∙ sym (get_or-take m.size (drop (k * m.size) m.bytes) i 0 in' ∙ get_or-drop (k * m.size) m.bytes i 0))

pub format_makes : FormatMakes
format_makes m sh few blank = record { shaped = sh; few = few; read = (format m blank).0 }
