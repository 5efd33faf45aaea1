-- A gap with a readied set suits its memory, and the set stands alone on whole blocks.
use Rattle.std.proofs.Common.{◌≡◌, ℕ, zero, suc, ◌+◌, ◌-◌, ◌*◌, ◌%◌, ◌<◌, ◌≤◌, min, List, [], ◌∷◌, ◌++◌, map, length, take, drop, replicate, sym, refl, ap, ◌∙◌, subst, inl, inr, ⊎_elim, append_assoc, mod-lt, mod-eq_of_lt, arith, length-append}
use mathlib.Core.Path.{transport}
use native.Mathlib.Nat.{mul-add-mod_self_right, mod_self, mod-add-mod}
use Rattle.std.specs.List.{AllByRecursion}
use Rattle.std.proofs.lemmas.Bool.{cases_lt, cases_eq}
use Rattle.std.proofs.lemmas.List.{map-append}
use Rattle.std.proofs.ByRecursion.{All-append, All-take, All-drop, All-get_or}
use Rattle.sets.specs.Sets.{Set, Tile, filler, holds, size}
use Rattle.sets.specs.Scans.{placed}
use Rattle.sets.specs.Objects.{unpacked}
use Rattle.sets.specs.Tilings.{span, Tiled}
use Rattle.sets.specs.Layouts.{laid, Layable}
use Rattle.sets.specs.Readings.{Memory, Reading, entry}
use Rattle.sets.proofs.Laying.{laid-tiles}
use Rattle.sets.proofs.Tilings.{placed-append}
use Rattle.rivals.specs.Relaid.{relaid, open_entries, Suits, Relaid, sets_before, sets_from}
use Rattle.rivals.specs.Rooms as rooms
use Rattle.rivals.specs.Promises.{gap_before, gap_behind}
use Rattle.rivals.proofs.Anew.{gap-laid_anew}
use Rattle.rivals.proofs.Promised.{readied_needs}
use Rattle.writing.specs.Forms.{Wanted, Fit, formed}
use Rattle.rivals.specs.Rooms.{to_block, whole}
use Rattle.layout.specs.declared.items.Behind.{Behind}
use Rattle.layout.specs.declared.items.Behind.TheVariants.{Locked, End}
use Rattle.layout.specs.Plans.{least, total, run, locked_plan, ready_need, nothing, nth}
use Rattle.layout.specs.Lays.{laid_gap, readied_gap}
use Rattle.layout.specs.Anew.{entry_of, Stands, OnBlocks, ReadyReads, ReadyRivals}
use Rattle.layout.proofs.Runs.{laid-append, more-extra}
use Rattle.layout.proofs.Readying.{total-one}
use Rattle.layout.proofs.Anews.{gap-long, plan_layable, run_layable, plan_says, says-append, tiles, tiles_say, zeros-end, now-reads, form-told, total-same}

-- a list around one of its items
around : (k : ℕ) (ws : List Wanted) → k < length ws → take k ws ++ (nth ws k ∷ drop (suc k) ws) ≡ ws
around k [] h = absurd (omega arith)
around zero (w ∷ ws) h = refl
around (suc k) (w ∷ ws) h = ap (λ l. w ∷ l) (around k ws (omega arith))

-- bytes on whole blocks
to_block-lt : (b n : ℕ) → 0 < b → to_block b n < b
to_block-lt b n pos = mod-lt (b - n % b) pos

whole-mod : (b n : ℕ) → 0 < b → whole b n % b ≡ 0
whole-mod b n pos = sym (mod-add-mod n b (to_block b n)) ∙ ⊎_elim
    (λ (z : n % b ≡ 0).
    let same : b - 0 ≡ b = omega arith in
    let none : 0 + b % b ≡ 0 = omega (arith, mod_self b) in
    ap (λ r. (r + (b - r) % b) % b) z ∙ ap (λ k. (0 + k % b) % b) same ∙ ap (λ k. k % b) none ∙ mod-eq_of_lt pos)
    (λ (ne : n % b ≡ 0 → ⊥).
    let low : n % b < b = mod-lt n pos in
    let some : 0 < n % b = ⊎_elim (λ h. h) (λ h. absurd (ne (omega arith))) (cases_lt 0 (n % b)) in
    let less : b - n % b < b = omega arith in
    let sum : n % b + (b - n % b) ≡ b = omega arith in
    ap (λ k. (n % b + k) % b) (mod-eq_of_lt less) ∙ ap (λ k. k % b) sum ∙ mod_self b)
    (cases_eq (n % b) 0)

-- one item alone on its blocks: a set, and no filler
alone_plan : (b : ℕ) (w : Wanted) → 0 < b → b ≤ 256 → locked_plan (w ∷ []) (whole b (least w)) ≡ holds (formed (to_block b (least w)) w) ∷ []
unfolding run
alone_plan b w pos small =
    let t : ℕ = to_block b (least w) in
    let left : whole b (least w) - total (w ∷ []) ≡ to_block b (least w) = omega (arith, total-one w) in
    let all : min (to_block b (least w)) 256 ≡ to_block b (least w) = omega (arith, to_block-lt b (least w) pos) in
    let none : to_block b (least w) - min (to_block b (least w)) 256 ≡ 0 = omega arith in
    ap (λ l. run (w ∷ []) (min l 256) ++ replicate (l - min l 256) filler) left
    ∙ (λ j. (holds (formed (all j) w) ∷ []) ++ replicate (none j) filler)

module _ (b : ℕ) (pos : 0 < b) (small : b ≤ 256) (ws : List Wanted) (k g : ℕ) (in' : k < length ws) (all : AllByRecursion Fit ws) (need : ready_need b (take k ws) (nth ws k) (drop (suc k) ws) ≤ g) (behind : Behind) where
  w : Wanted
  w = nth ws k

  abbrev at : ℕ
  at = whole b (total (take k ws))

  abbrev bytes : ℕ
  bytes = whole b (least (nth ws k))

  abbrev front : List Tile
  front = locked_plan (take k ws) (whole b (total (take k ws)))

  abbrev mid : List Tile
  mid = holds (formed (to_block b (least (nth ws k))) (nth ws k)) ∷ []

  abbrev last : List Tile
  last = tiles behind (drop (suc k) ws) (g - (whole b (total (take k ws)) + whole b (least (nth ws k))))

  fit-w : Fit (nth ws k)
  fit-w = All-get_or Fit ws k nothing in' all

  fit-front : AllByRecursion Fit (take k ws)
  fit-front = All-take Fit k ws all

  fit-last : AllByRecursion Fit (drop (suc k) ws)
  fit-last = All-drop Fit (suc k) ws all

  mid-is : locked_plan (nth ws k ∷ []) (whole b (total (take k ws)) + whole b (least (nth ws k)) - whole b (total (take k ws))) ≡ holds (formed (to_block b (least (nth ws k))) (nth ws k)) ∷ []
  mid-is =
      let e : whole b (total (take k ws)) + whole b (least (nth ws k)) - whole b (total (take k ws)) ≡ whole b (least (nth ws k)) = omega arith in
      ap (locked_plan (nth ws k ∷ [])) e ∙ alone_plan b (nth ws k) pos small

  mid_layable : AllByRecursion (Layable unpacked) (holds (formed (to_block b (least (nth ws k))) (nth ws k)) ∷ [])
  mid_layable = subst (AllByRecursion (Layable unpacked)) mid-is (plan_layable (nth ws k ∷ []) (whole b (total (take k ws)) + whole b (least (nth ws k)) - whole b (total (take k ws))) (fit-w, tt))

  pub three_say : open_entries (front ++ (mid ++ last)) ≡ map entry_of ws
  three_say =
      says-append front (mid ++ last)
      ∙ (λ j. plan_says (take k ws) at fit-front j ++ (form-told (to_block b (least (nth ws k))) (nth ws k) fit-w j ∷ tiles_say behind (drop (suc k) ws) (g - (at + bytes)) fit-last j))
      ∙ sym (map-append entry_of (take k ws) (nth ws k ∷ drop (suc k) ws)) ∙ ap (map entry_of) (around k ws in')

  pub front-span : span front ≡ at
  front-span = sym (laid-tiles unpacked front (plan_layable (take k ws) at fit-front)).1 ∙ gap-long Locked (take k ws) at fit-front (omega arith)

  pub three-long : length (readied_gap behind b ws k g) ≡ g
  three-long =
      length-append (laid_gap Locked (take k ws) at) (laid_gap Locked (nth ws k ∷ []) (at + bytes - at) ++ laid_gap behind (drop (suc k) ws) (g - (at + bytes)))
      ∙ omega (arith, gap-long Locked (take k ws) at fit-front (omega arith), length-append (laid_gap Locked (nth ws k ∷ []) (at + bytes - at)) (laid_gap behind (drop (suc k) ws) (g - (at + bytes))), gap-long Locked (nth ws k ∷ []) (at + bytes - at) (fit-w, tt) (omega (arith, total-one (nth ws k))), gap-long behind (drop (suc k) ws) (g - (at + bytes)) fit-last (omega arith))

  three_layable : AllByRecursion (Layable unpacked) last → AllByRecursion (Layable unpacked) (front ++ (mid ++ last))
  three_layable l = All-append (Layable unpacked) front (mid ++ last) (plan_layable (take k ws) at fit-front) (All-append (Layable unpacked) mid last mid_layable l)

  three-laid : (ts : List Tile) → laid (front ++ (mid ++ ts)) ≡ laid_gap Locked (take k ws) at ++ (laid_gap Locked (nth ws k ∷ []) (at + bytes - at) ++ laid ts)
  three-laid ts = laid-append front (mid ++ ts) ∙ ap (λ l. laid front ++ l) (laid-append mid ts ∙ ap (λ l. laid l ++ laid ts) (sym mid-is))

  pub on_blocks : (m : Memory) (r : Reading) (p n : ℕ) (ns : List ℕ) → m.size ≡ b → Relaid m r p n ns (front ++ (mid ++ last)) → OnBlocks (relaid m p n ns) (p * m.size + at) (nth ws k)
  unfolding placed
  on_blocks m r p n ns same h =
      let a : ℕ = p * m.size in
      let s : Set = formed (to_block b (least (nth ws k))) (nth ws k) in
      let here : ℕ = p * m.size + at in
      let found-now = h.sets ∙ ap (λ l. sets_before m p ++ (l ++ sets_from m (p + n))) (placed-append (p * m.size) front (mid ++ last) ∙ ap (λ q. placed (p * m.size) front ++ placed (p * m.size + q) (mid ++ last)) front-span) in
      record {
        set = s;
        before = sets_before m p ++ placed a front;
        behind = placed (here + size s) last ++ sets_from m (p + n);
        stands = found-now ∙ ap (λ l. sets_before m p ++ l) (append_assoc (placed a front) (record { at = here; set = s } ∷ placed (here + size s) last) (sets_from m (p + n))) ∙ sym (append_assoc (sets_before m p) (placed a front) (record { at = here; set = s } ∷ (placed (here + size s) last ++ sets_from m (p + n))));
        is = ap (λ e. e.identifier) (form-told (to_block b (least (nth ws k))) (nth ws k) fit-w);
        starts = mul-add-mod_self_right p m.size at ∙ ap (λ q. at % q) same ∙ whole-mod b (total (take k ws)) pos;
        fills = (λ j. more-extra (to_block b (least (nth ws k))) (nth ws k) j % same j) ∙ whole-mod b (least (nth ws k)) pos;
      }

-- the bytes suit the gap, before a locked block and at the end
suits_three : (m : Memory) (p n b : ℕ) (pos : 0 < b) (small : b ≤ 256) (ws : List Wanted) (k g : ℕ) (in' : k < length ws) (all : AllByRecursion Fit ws) (need : ready_need b (take k ws) (nth ws k) (drop (suc k) ws) ≤ g) (behind : Behind) → Stands m p n behind
    → Suits m p n (readied_gap behind b ws k g) (front b pos small ws k g in' all need behind ++ (mid b pos small ws k g in' all need behind ++ last b pos small ws k g in' all need behind))
suits_three m p n b pos small ws k g in' all need Locked here =
    let ts : List Tile = locked_plan (drop (suc k) ws) (g - (whole b (total (take k ws)) + whole b (least (nth ws k)))) in
    let layable = three_layable b pos small ws k g in' all need Locked (plan_layable (drop (suc k) ws) (g - (whole b (total (take k ws)) + whole b (least (nth ws k)))) (All-drop Fit (suc k) ws all)) in
    inl (here, subst (Tiled unpacked _) (three-laid b pos small ws k g in' all need Locked ts) (laid-tiles unpacked _ layable).0)
suits_three m p n b pos small ws k g in' all need End here =
    let ts : List Tile = run (drop (suc k) ws) 0 in
    let zeros : List ℕ = replicate (g - (whole b (total (take k ws)) + whole b (least (nth ws k))) - total (drop (suc k) ws)) 0 in
    let layable = three_layable b pos small ws k g in' all need End (run_layable (drop (suc k) ws) 0 (All-drop Fit (suc k) ws all) (omega arith)) in
    let x : List ℕ = laid_gap Locked (take k ws) (whole b (total (take k ws))) in
    let y : List ℕ = laid_gap Locked (nth ws k ∷ []) (whole b (total (take k ws)) + whole b (least (nth ws k)) - whole b (total (take k ws))) in
    inr (here, (x ++ (y ++ laid ts), zeros, sym (append_assoc x (y ++ laid ts) zeros ∙ ap (λ l. x ++ l) (append_assoc y (laid ts) zeros)), subst (Tiled unpacked _) (three-laid b pos small ws k g in' all need End ts) (laid-tiles unpacked _ layable).0, zeros-end _))

pub ready_reads : ReadyReads
ready_reads m r shaped read p n gap behind here ws k all in' small need under =
    let b : ℕ = m.size in
    let g : ℕ = n * m.size in
    let relaid-now = gap-laid_anew m r shaped read p n gap (readied_gap behind m.size ws k (n * m.size)) _ (three-long m.size shaped.some small ws k (n * m.size) in' all need behind) under (suits_three m p n m.size shaped.some small ws k (n * m.size) in' all need behind here) in
    (now-reads m r p n _ _ (map entry_of ws) (three_say m.size shaped.some small ws k (n * m.size) in' all need behind) relaid-now, on_blocks m.size shaped.some small ws k (n * m.size) in' all need behind m r p n _ refl relaid-now)

-- the rivals' need, in the words of a layout
least-same : (w : Wanted) → rooms.least (entry_of w) ≡ least w
unfolding rooms.least
least-same w = refl

pub ready_rivals : ReadyRivals
ready_rivals m r shaped read fs f gs p n lies m' rival read' alone ws k e₁ e₂ e₃ =
    let a : rooms.total (gap_before m fs) ≡ total (take k ws) = ap rooms.total (sym e₁) ∙ total-same (take k ws) in
    let c : rooms.least (entry m f) ≡ least (nth ws k) = ap rooms.least (sym e₂) ∙ least-same (nth ws k) in
    let d : rooms.total (gap_behind m gs) ≡ total (drop (suc k) ws) = ap rooms.total (sym e₃) ∙ total-same (drop (suc k) ws) in
    transport (λ j. whole m.size (a j) + whole m.size (c j) + d j ≤ n * m.size) (readied_needs m r shaped read fs f gs p n lies m' rival read' alone)
