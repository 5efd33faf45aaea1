-- A gap laid out anew suits its memory.
use Rattle.std.proofs.Common.{◌≡◌, ℕ, zero, suc, ◌+◌, ◌-◌, ◌*◌, ◌≤◌, false, List, [], ◌∷◌, ◌++◌, map, length, replicate, Ok, refl, ap, ◌∙◌, subst, inl, inr, append-nil, arith, length-append}
use lib.ListN.{length-replicate}
use Rattle.std.specs.List.{AllByRecursion}
use Rattle.std.proofs.ByRecursion.{All-append}
use Rattle.packing.proofs.Choosing.{kind-below}
use Rattle.sets.specs.Sets.{Tile, filler, holds}
use Rattle.sets.specs.Objects.{unpacked}
use Rattle.sets.specs.Tilings.{Ended}
use Rattle.sets.specs.Layouts.{laid, Layable}
use Rattle.sets.specs.Readings.{Memory, Entry, Reading, reads}
use Rattle.sets.proofs.Laying.{laid-tiles}
use Rattle.writing.proofs.Formed.{form_writable}
use Rattle.rivals.specs.Rooms as rooms
use Rattle.rivals.specs.Relaid.{relaid, list_around, Distinct, open_entries, Suits, Relaid}
use Rattle.rivals.proofs.Fits.{form-says}
use Rattle.rivals.proofs.Anew.{gap-laid_anew}
use Rattle.rivals.proofs.Promised.{room}
use Rattle.writing.specs.Forms.{Wanted, Fit, formed}
use Rattle.layout.specs.declared.items.Behind.{Behind}
use Rattle.layout.specs.declared.items.Behind.TheVariants.{Locked, End}
use Rattle.layout.specs.Plans.{least, total, run, taken, locked_plan}
use Rattle.layout.specs.Lays.{laid_gap}
use Rattle.layout.specs.Anew.{entry_of, Stands, NowReads, LaidReads, RivalsNeed}
use Rattle.layout.proofs.Runs.{laid-append, laid_fillers, taken-few, taken-bytes, plain-bytes}

-- a form can be laid, and says its entry
pub entry-fit : (w : Wanted) → Fit w → rooms.Fit (entry_of w)
entry-fit w f = record { identifier = f.identifier; kind = kind-below w.kind; some = f.object.0; few = f.object.1 }

form_layable : (extra : ℕ) (w : Wanted) → Fit w → extra ≤ 256 → Layable unpacked (holds (formed extra w))
form_layable extra w f few = (form_writable extra w f few, (w.object, (form-says (entry_of w) extra (entry-fit w f)).0))

pub form-told : (extra : ℕ) (w : Wanted) → Fit w → rooms.told (formed extra w) false ≡ entry_of w
form-told extra w f = (form-says (entry_of w) extra (entry-fit w f)).1

pub run_layable : (ws : List Wanted) (extra : ℕ) → AllByRecursion Fit ws → extra ≤ 256 → AllByRecursion (Layable unpacked) (run ws extra)
unfolding run
run_layable [] extra all few = tt
run_layable (w ∷ []) extra all few = (form_layable extra w all.0 few, tt)
run_layable (w ∷ v ∷ ws) extra all few = (form_layable 0 w all.0 (omega arith), run_layable (v ∷ ws) extra all.1 few)

fillers_layable : (k : ℕ) → AllByRecursion (Layable unpacked) (replicate k filler)
fillers_layable zero = tt
fillers_layable (suc k) = (tt, fillers_layable k)

-- what tiles say
run-says : (ws : List Wanted) (extra : ℕ) → AllByRecursion Fit ws → open_entries (run ws extra) ≡ map entry_of ws
unfolding run
run-says [] extra all = refl
run-says (w ∷ []) extra all = ap (λ e. e ∷ []) (form-told extra w all.0)
run-says (w ∷ v ∷ ws) extra all = (λ j. form-told 0 w all.0 j ∷ run-says (v ∷ ws) extra all.1 j)

pub says-append : (ts us : List Tile) → open_entries (ts ++ us) ≡ open_entries ts ++ open_entries us
says-append [] us = refl
says-append (filler ∷ ts) us = says-append ts us
says-append (holds s ∷ ts) us = ap (λ l. rooms.told s false ∷ l) (says-append ts us)

fillers_say : (k : ℕ) → open_entries (replicate k filler) ≡ []
fillers_say zero = refl
fillers_say (suc k) = fillers_say k

pub plan_layable : (ws : List Wanted) (g : ℕ) → AllByRecursion Fit ws → AllByRecursion (Layable unpacked) (locked_plan ws g)
plan_layable ws g all =
    let left : ℕ = g - total ws in
    All-append (Layable unpacked) (run ws (taken ws (g - total ws))) (replicate (g - total ws - taken ws (g - total ws)) filler) (run_layable ws (taken ws (g - total ws)) all (taken-few ws (g - total ws)).0) (fillers_layable (g - total ws - taken ws (g - total ws)))

pub plan_says : (ws : List Wanted) (g : ℕ) → AllByRecursion Fit ws → open_entries (locked_plan ws g) ≡ map entry_of ws
plan_says ws g all =
    says-append (run ws (taken ws (g - total ws))) (replicate (g - total ws - taken ws (g - total ws)) filler)
    ∙ (λ j. run-says ws (taken ws (g - total ws)) all j ++ fillers_say (g - total ws - taken ws (g - total ws)) j) ∙ append-nil (map entry_of ws)

-- the bytes of a gap
pub gap-long : (behind : Behind) (ws : List Wanted) (g : ℕ) → AllByRecursion Fit ws → total ws ≤ g → length (laid_gap behind ws g) ≡ g
gap-long Locked ws g all fits =
    let left : ℕ = g - total ws in
    let few = taken-few ws (g - total ws) in
    let k : ℕ = g - total ws - taken ws (g - total ws) in
    ap length (laid-append (run ws (taken ws (g - total ws))) (replicate (g - total ws - taken ws (g - total ws)) filler) ∙ ap (λ l. laid (run ws (taken ws (g - total ws))) ++ l) (laid_fillers (g - total ws - taken ws (g - total ws))))
    ∙ length-append (laid (run ws (taken ws (g - total ws)))) (replicate (g - total ws - taken ws (g - total ws)) 0x80)
    ∙ omega (arith, taken-bytes ws (g - total ws) all, few.1, length-replicate {A = ℕ} (g - total ws - taken ws (g - total ws)) 0x80)
gap-long End ws g all fits = length-append (laid (run ws 0)) (replicate (g - total ws) 0) ∙ omega (arith, plain-bytes ws all, length-replicate {A = ℕ} (g - total ws) 0)

pub zeros-end : (k : ℕ) → Ended (replicate k 0)
zeros-end zero = tt
zeros-end (suc k) = refl

abbrev pub tiles : Behind → List Wanted → ℕ → List Tile
tiles Locked ws g = locked_plan ws g
tiles End ws g = run ws 0

pub tiles_say : (behind : Behind) (ws : List Wanted) (g : ℕ) → AllByRecursion Fit ws → open_entries (tiles behind ws g) ≡ map entry_of ws
tiles_say Locked ws g all = plan_says ws g all
tiles_say End ws g all = run-says ws 0 all

suits : (m : Memory) (p n g : ℕ) (behind : Behind) → Stands m p n behind → (ws : List Wanted) → AllByRecursion Fit ws → Suits m p n (laid_gap behind ws g) (tiles behind ws g)
suits m p n g Locked here ws all = inl (here, (laid-tiles unpacked (locked_plan ws g) (plan_layable ws g all)).0)
suits m p n g End here ws all = inr (here, (laid (run ws 0), replicate (g - total ws) 0, refl, (laid-tiles unpacked (run ws 0) (run_layable ws 0 all (omega arith))).0, zeros-end (g - total ws)))

pub now-reads : (m : Memory) (r : Reading) (p n : ℕ) (ns : List ℕ) (ts : List Tile) (es : List Entry) → open_entries ts ≡ es → Relaid m r p n ns ts → NowReads m p n ns es
now-reads m r p n ns ts es e h = record {
  list = subst (λ l. Distinct (list_around m p n l) → reads (relaid m p n ns) ≡ Ok (record { entries = list_around m p n l })) e h.now;
  rival = h.rival;
  seals = h.seals;
}

pub laid-reads : LaidReads
laid-reads m r shaped read p n gap behind here ws all fits small =
    let g : ℕ = n * m.size in
    now-reads m r p n (laid_gap behind ws (n * m.size)) (tiles behind ws (n * m.size)) (map entry_of ws) (tiles_say behind ws (n * m.size) all)
    (gap-laid_anew m r shaped read p n gap (laid_gap behind ws (n * m.size)) (tiles behind ws (n * m.size)) (gap-long behind ws (n * m.size) all fits) small (suits m p n (n * m.size) behind here ws all))

-- sums of smallest forms, here and over entries
pub total-same : (ws : List Wanted) → rooms.total (map entry_of ws) ≡ total ws
unfolding total rooms.least
total-same [] = refl
total-same (w ∷ ws) = ap (λ k. least w + k) (total-same ws)

pub rivals_need : RivalsNeed
rivals_need m m' r' shaped rival read p n gap ws same = omega (arith, ap rooms.total same, total-same ws, room m m' r' shaped rival read p n gap)
