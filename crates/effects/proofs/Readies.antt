-- A ready, with room and without.
use Rattle.std.proofs.Common.{◌≡◌, ℕ, ◌*◌, ◌%◌, ◌≤◌, List, [], ◌∷◌, ◌++◌, map, Ok, sym, ap, ◌∙◌, subst, arith}
use mathlib.Core.List.{map-append}
use Rattle.std.specs.List.{AllByRecursion}
use Rattle.std.proofs.ByRecursion.{All-append}
use Rattle.sets.specs.Sets.{size}
use Rattle.sets.specs.Scans.{Found}
use Rattle.sets.specs.Readings.{Memory, Entry, Reading, found, identified, entry, reads}
use Rattle.rivals.specs.Memories.{Alone}
use Rattle.rivals.specs.Relaid.{list_around, Distinct}
use Rattle.rivals.proofs.Anew.{reads_distinct}
use Rattle.rivals.proofs.Bridges.{faultless}
use Rattle.writing.specs.Forms.{Wanted}
use Rattle.layout.specs.declared.items.Behind.{Behind}
use Rattle.layout.specs.Plans.{nth}
use Rattle.layout.specs.Lays.{readied_gap}
use Rattle.layout.specs.Anew.{entry_of, Stands, NowReads, OnBlocks}
use Rattle.layout.proofs.Alone.{ready_reads, ready_rivals}
use Rattle.effects.specs.Lists.{Absent}
use Rattle.effects.specs.Gaps.{ReadsAs}
use Rattle.effects.specs.Changes.{ItemAt}
use Rattle.effects.specs.Readies.{with_readied, readied_at, readied_first, readied_blocks, readied_need, Ready, ReadyWithRoom, ReadyWithoutRoom}
use Rattle.effects.proofs.Lists.{absent_before, absent_behind}
use Rattle.effects.proofs.Bytes.{readied_bytes, all_fit}
use Rattle.effects.proofs.Gaps.{around}
use Rattle.effects.proofs.Changes.{list-is, around_with}
use Rattle.effects.proofs.Pledges.{fills-blocks}

-- where no identifier stands twice, a set on whole blocks is alone
module _ (m : Memory) (id : List ℕ) where
  abbrev OnWhole : Found → Type 0
  OnWhole f = identified f ≡ id → (f.at % m.size ≡ 0) × (size f.set % m.size ≡ 0)

  absent_alone : (fs : List Found) → Absent id (map (entry m) fs) → AllByRecursion OnWhole fs
  absent_alone [] a = tt
  absent_alone (f ∷ fs) a = ((λ e. absurd (a.0 (sym e))), absent_alone fs a.1)

  pub alone : (r : Reading) → reads m ≡ Ok r → (fs : List Found) (f : Found) (gs : List Found) → found m.bytes ≡ fs ++ (f ∷ gs) → identified f ≡ id → f.at % m.size ≡ 0 → size f.set % m.size ≡ 0 → Alone m id
  alone r e fs f gs among is starts fills =
      let d : Distinct (map (entry m) fs ++ (entry m f ∷ map (entry m) gs)) = subst Distinct (sym (faultless m r e).list ∙ ap (map (entry m)) among ∙ map-append (entry m) fs (f ∷ gs)) (reads_distinct m r e) in
      subst (AllByRecursion OnWhole) (sym among)
      (All-append OnWhole fs (f ∷ gs)
      (absent_alone fs (subst (λ n. Absent n (map (entry m) fs)) is (absent_before (entry m f) (map (entry m) fs) (map (entry m) gs) d)))
      ((λ e. (starts, fills)), absent_alone gs (subst (λ n. Absent n (map (entry m) gs)) is (absent_behind (entry m f) (map (entry m) fs) (map (entry m) gs) d))))

module _ (m : Memory) (r : Reading) (fs : List Found) (f : Found) (gs : List Found) (p n : ℕ) (ws : List Wanted) (k : ℕ) (i : ItemAt m r fs f gs p n ws k) where
  same-list : list_around m p n (map entry_of ws) ≡ r.entries
  same-list =
      ap (λ l. list_around m p n (map entry_of l)) (sym (around k ws i.inside)) ∙ around_with m r fs f gs p n ws k i (nth ws k ∷ [])
      ∙ ap (λ e. map (entry m) fs ++ (e ∷ map (entry m) gs)) i.is ∙ sym (list-is m r fs f gs p n ws k i)

  module _ (behind : Behind) (here : Stands m p n behind) (small : m.size ≤ 256) (fits : readied_need m ws k ≤ n * m.size) where
    now : NowReads m p n (readied_gap behind m.size ws k (n * m.size)) (map entry_of ws) × OnBlocks (with_readied m p n behind ws k) (readied_at m p ws k) (nth ws k)
    now = ready_reads m r i.shaped i.read p n i.lies.gap behind here ws k (all_fit ws i.given) i.inside small fits (readied_bytes behind m.size ws k (n * m.size) i.given i.inside)

    same_read : ReadsAs (with_readied m p n behind ws k) r.entries
    same_read = subst (λ (l : List Entry). Distinct l → ReadsAs (with_readied m p n behind ws k) l) same-list now.0.list (reads_distinct m r i.read)

    pub ready : Ready m (with_readied m p n behind ws k) r.entries (identified f) (readied_first m p ws k) (readied_blocks m ws k)
    ready =
        let on = now.1 in
        let it : Found = record { at = readied_at m p ws k; set = on.set } in
        let same : identified it ≡ identified f = on.is ∙ ap (λ e. e.identifier) i.is in
        record {
          becomes = record { list = same_read; rival = now.0.rival; seals = now.0.seals };
          alone = alone (with_readied m p n behind ws k) (identified f) r same_read on.before it on.behind on.stands same on.starts on.fills;
          pledged = (it, same, fills-blocks m i.shaped p n i.lies.gap behind ws k (all_fit ws i.given) i.inside small fits on);
        }

pub ready_with_room : ReadyWithRoom
ready_with_room m r fs f gs p n ws k i behind here small fits = (ready m r fs f gs p n ws k i behind here small fits, (now m r fs f gs p n ws k i behind here small fits).1)

pub ready_without_room : ReadyWithoutRoom
ready_without_room m r fs f gs p n ws k i over m' rival read' alone' =
    omega (arith, ready_rivals m r i.shaped i.read fs f gs p n i.lies m' rival read' alone' ws k i.before i.is i.behind)
