-- Each promise, about what memories read as.
use Rattle.std.proofs.Common.{◌≡◌, ℕ, ◌+◌, ◌*◌, ◌%◌, false, List, [], ◌∷◌, ◌++◌, map, Ok, sym, refl, ap, ◌∙◌, subst, arith}
use mathlib.Core.List.{map-append}
use Rattle.std.specs.List.{AllByRecursion}
use Rattle.sets.specs.Sets.{holds, size}
use Rattle.sets.specs.Scans.{Found}
use Rattle.sets.specs.Readings.{Memory, Entry, Reading, found, locked_at, identified, entry, reads}
use Rattle.rivals.specs.Memories.{Shaped, Rival, below, seals_before, gap_entries}
use Rattle.rivals.specs.Rooms.{total, part, seal_count}
use Rattle.rivals.specs.Promises.{OpenInGap, SealsAlike, GapIsPart, GapsAlike, LastIsRest, Room, NoRoom, NoRoomToPut, Lies, gap_before, gap_behind, NoRoomToChange, MostFree, ReadiedNeeds}
use Rattle.rivals.proofs.Format.{sealed_sets, opens}
use Rattle.rivals.proofs.Blocks.{Run, run_of, run-bytes}
use Rattle.rivals.proofs.Holds.{shaped-rival}
use Rattle.rivals.proofs.Meets.{sets_format}
use Rattle.rivals.proofs.Bridges.{faultless, list-is, seals-are, opens-are_in, used-is, whole_is, tiles_of, laid, Around, around}
use Rattle.rivals.proofs.Holds as theory

module _ (m : Memory) (r : Reading) (sh : Shaped m) (e : reads m ≡ Ok r) where
  -- where an open set lies in the list and in the gaps
  module _ (fs : List Found) (f : Found) (gs : List Found) (p n : ℕ) (in' : Lies m fs f gs p n) where
    tiles-around : Around (tiles_of m) 0 fs f gs
    tiles-around = around (tiles_of m) 0 fs f gs in'.among

    seals-to : seals_before m p ≡ seal_count (map (entry m) fs)
    seals-to =
        ap (below (p * m.size)) (seals-are m (tiles_of m) 0)
        ∙ theory.seals-to sets_format m r.entries (laid m r sh e) f.at p (p + n) tiles-around.before (holds f.set ∷ tiles-around.after) tiles-around.is tiles-around.sum (run_of m p n in'.gap) in'.from in'.to
        ∙ ap seal_count (sym (list-is m tiles-around.before 0) ∙ ap (map (entry m)) tiles-around.front)

    part-with : (x : Entry) → x.sealed ≡ false → part (seals_before m p) (map (entry m) fs ++ (x ∷ map (entry m) gs)) ≡ gap_before m fs ++ (x ∷ gap_behind m gs)
    part-with x f =
        ap (λ k. part k (map (entry m) fs ++ (x ∷ map (entry m) gs))) seals-to ∙ theory.part_at x f (map (entry m) gs) (map (entry m) fs)

    pub list-with : r.entries ≡ map (entry m) fs ++ (entry m f ∷ map (entry m) gs)
    list-with = sym (faultless m r e).list ∙ ap (map (entry m)) in'.among ∙ map-append (entry m) fs (f ∷ gs)

pub open_in_gap : OpenInGap
open_in_gap m r sh e fs f gs among open' =
    let a = around (tiles_of m) 0 fs f gs among in
    theory.set_in-gap sets_format m r.entries (laid m r sh e) f.at f.set a.before a.after a.is a.sum open'

pub seals-alike : SealsAlike
seals-alike m m' r r' sh v e e' =
    seals-are m' (tiles_of m') 0
    ∙ theory.seals-alike sets_format m m' r.entries r'.entries (laid m r sh e) (laid m' r' (shaped-rival m m' v sh) e') v
    ∙ sym (seals-are m (tiles_of m) 0)

pub gap-is-part : GapIsPart
gap-is-part m m' r r' sh v e e' p n gap =
    opens-are_in m' p n (tiles_of m') 0
    ∙ theory.gap-is-part sets_format m m' r.entries r'.entries (laid m r sh e) (laid m' r' (shaped-rival m m' v sh) e') v p (p + n) (run_of m p n gap)
    ∙ ap (λ x. part (below (p * m.size) x) r'.entries) (sym (seals-are m (tiles_of m) 0))

itself : (m : Memory) → Shaped m → Rival m m
itself m sh = record { size = refl; locks = refl; long = refl; small = sh.small; alike = λ i e. refl }

pub gaps_alike : GapsAlike
gaps_alike m m' r sh v e e' p n gap = gap-is-part m m' r r sh v e e' p n gap ∙ sym (gap-is-part m m r r sh (itself m sh) e e p n gap)

-- the entries of a gap around one of them
pub gap-list : (m : Memory) (r : Reading) → Shaped m → reads m ≡ Ok r → (fs : List Found) (f : Found) (gs : List Found) (p n : ℕ) → Lies m fs f gs p n → gap_entries m p n ≡ gap_before m fs ++ (entry m f ∷ gap_behind m gs)
gap-list m r sh e fs f gs p n in' =
    gap-is-part m m r r sh (itself m sh) e e p n in'.gap ∙ ap (part (seals_before m p)) (list-with m r sh e fs f gs p n in') ∙ part-with m r sh e fs f gs p n in' (entry m f) in'.unsealed

pub last-is-rest : LastIsRest
last-is-rest m m' r' sh v e' p n gap last =
    opens-are_in m' p n (tiles_of m') 0
    ∙ ap (λ q. opens sets_format (locked_at m') (p * m'.size) (q * m'.size) 0 (tiles_of m')) last
    ∙ theory.last-is-rest sets_format m m' r'.entries (laid m' r' (shaped-rival m m' v sh) e') sh v p (subst (Run m p) last (run_of m p n gap))

pub room : Room
room m m' r' sh v e' p n gap =
    omega (arith, run-bytes m p n, theory.room sets_format m m' r'.entries (laid m' r' (shaped-rival m m' v sh) e') sh v p (p + n) (run_of m p n gap), ap total (opens-are_in m' p n (tiles_of m') 0))

pub no_room : NoRoom
no_room m r sh e p n gap l over m' v e' =
    let r' : Reading = record { entries = l } in
    omega (arith, room m m' r' sh v e' p n gap, ap total (gap-is-part m m' r r' sh v e e' p n gap))

pub no_room-to-put : NoRoomToPut
no_room-to-put m sh p n gap last l x f over m' v e' =
    let r' : Reading = record { entries = l ++ (x ∷ []) } in
    omega (arith, room m m' r' sh v e' p n gap, ap total (last-is-rest m m' r' sh v e' p n gap last), theory.put_wants l x f)

pub no_room-to_change : NoRoomToChange
no_room-to_change m r sh e fs f gs p n in' x open' over m' v e' =
    no_room m r sh e p n in'.gap (map (entry m) fs ++ (x ∷ map (entry m) gs))
    (omega (arith, over, ap total (part-with m r sh e fs f gs p n in' x open'), theory.total-at x (gap_behind m gs) (gap_before m fs))) m' v e'

pub most-free : MostFree
most-free m m' r' sh v e' p n gap last =
    omega (arith, v.long, used-is (tiles_of m') 0 0, theory.most-free sets_format m m' r'.entries (laid m' r' (shaped-rival m m' v sh) e') sh v p (subst (Run m p) last (run_of m p n gap)))

pub readied_needs : ReadiedNeeds
readied_needs m r sh e fs f gs p n in' m' v e' alone =
    let is : part (below (p * m.size) (sealed_sets sets_format (locked_at m) 0 (tiles_of m))) r.entries ≡ gap_before m fs ++ (entry m f ∷ gap_behind m gs) =
    (λ i. part (below (p * m.size) (sym (seals-are m (tiles_of m) 0) i)) (list-with m r sh e fs f gs p n in' i)) ∙ part-with m r sh e fs f gs p n in' (entry m f) in'.unsealed in
    omega (
      arith,
      run-bytes m p n,
      theory.room_readied sets_format m m' r.entries r.entries (laid m r sh e) (laid m' r (shaped-rival m m' v sh) e') v p (p + n) (run_of m p n in'.gap) (gap_before m fs) (entry m f) (gap_behind m gs) is
          (whole_is m.size (identified f) (tiles_of m') 0 (subst (λ b. AllByRecursion (λ g. identified g ≡ identified f → (g.at % b ≡ 0) × (size g.set % b ≡ 0)) (found m'.bytes)) v.size alone)),
    )
