-- A readied set fills its blocks exactly.
use Rattle.std.proofs.Common.{◌≡◌, ℕ, suc, ◌+◌, ◌-◌, ◌*◌, ◌/◌, ◌%◌, ◌<◌, ◌≤◌, min, false, List, [], ◌∷◌, ◌++◌, length, take, drop, replicate, sym, refl, ap, ◌∙◌, subst, append_assoc, append-nil, mul-le-mul_right, mod-lt, add-mul, arith}
use native.Mathlib.Nat.{mod-add-div', mul-add-mod_self_right}
use Rattle.std.specs.List.{ContainsAt as Has, AllByRecursion}
use Rattle.std.proofs.ByRecursion.{all-has, has_append_right, All-take, All-get_or}
use Rattle.std.proofs.lemmas.List.{drop_at, drop-drop, length-take-le}
use Rattle.sets.specs.Sets.{Set, filler, holds, size}
use Rattle.sets.specs.Parsing.{tile, parse}
use Rattle.sets.specs.Scans.{next, Found}
use Rattle.sets.specs.Writing.{encode}
use Rattle.sets.specs.Layouts.{laid}
use Rattle.sets.specs.Objects.{unpacked}
use Rattle.sets.specs.Readings.{Memory, found, locked_at, sealed}
use Rattle.sets.proofs.Repeats.{found-next, next-parse}
use Rattle.sets.proofs.Searching.{every-not}
use Rattle.sets.proofs.Written.{comes_back}
use Rattle.rivals.specs.Memories.{Shaped, Gap}
use Rattle.rivals.specs.Relaid.{relaid}
use Rattle.rivals.proofs.Blocks.{run_of, gap-clear}
use Rattle.writing.proofs.Formed.{form_writable}
use Rattle.writing.specs.Forms.{Wanted, Fit, formed}
use Rattle.rivals.specs.Rooms.{to_block, whole}
use Rattle.layout.specs.declared.items.Behind.{Behind}
use Rattle.layout.specs.declared.items.Behind.TheVariants.{Locked}
use Rattle.layout.specs.Plans.{least, total, run, nothing, nth}
use Rattle.layout.specs.Lays.{laid_gap}
use Rattle.layout.specs.Anew.{OnBlocks}
use Rattle.layout.proofs.Anews.{gap-long}
use Rattle.layout.proofs.Readying.{total-one}
use Rattle.layout.proofs.Runs.{more-extra}
use Rattle.effects.specs.Seals.{Fills}
use Rattle.effects.specs.Readies.{with_readied, readied_at, readied_first, readied_blocks, readied_need}

-- one item up to a block's end is one set, and no filler
alone-laid : (b : ℕ) (w : Wanted) → 0 < b → b ≤ 256 → (g : ℕ) → g ≡ whole b (least w) → laid_gap Locked (w ∷ []) g ≡ encode (formed (to_block b (least w)) w)
unfolding run laid
alone-laid b w pos small g is =
    let t : ℕ = to_block b (least w) in
    let low : to_block b (least w) < b = mod-lt (b - least w % b) pos in
    let left : g - total (w ∷ []) ≡ to_block b (least w) = omega (arith, total-one w) in
    let all : min (to_block b (least w)) 256 ≡ to_block b (least w) = omega arith in
    let none : to_block b (least w) - min (to_block b (least w)) 256 ≡ 0 = omega arith in
    ap (λ l. laid (run (w ∷ []) (min l 256) ++ replicate (l - min l 256) filler)) left
    ∙ (λ j. laid ((holds (formed (all j) w) ∷ []) ++ replicate (none j) filler))
    ∙ append-nil (encode (formed (to_block b (least w)) w))

-- the bytes from an address of a gap on
gap_from : (m : Memory) (p n at : ℕ) (xs ys : List ℕ) → p * m.size ≤ length m.bytes → length xs ≡ at → drop (p * m.size + at) (relaid m p n (xs ++ ys)).bytes ≡ ys ++ drop ((p + n) * m.size) m.bytes
gap_from m p n at xs ys inside long =
    let front : List ℕ = take (p * m.size) m.bytes in
    let rest : List ℕ = drop ((p + n) * m.size) m.bytes in
    sym (drop-drop at (p * m.size) (front ++ ((xs ++ ys) ++ rest)))
    ∙ ap (drop at) (drop_at front ((xs ++ ys) ++ rest) (p * m.size) (length-take-le (p * m.size) m.bytes inside) ∙ append_assoc xs ys rest)
    ∙ drop_at xs (ys ++ rest) at long

module _ (m : Memory) (shaped : Shaped m) (p n : ℕ) (gap : Gap m p n) (behind : Behind) (ws : List Wanted) (k : ℕ) (all : AllByRecursion Fit ws) (in' : k < length ws) (small : m.size ≤ 256) (fits : readied_need m ws k ≤ n * m.size)
    (on : OnBlocks (with_readied m p n behind ws k) (readied_at m p ws k) (nth ws k)) where
  abbrev before : ℕ
  before = whole m.size (total (take k ws))

  abbrev long : ℕ
  long = whole m.size (least (nth ws k))

  abbrev s : Set
  s = formed (to_block m.size (least (nth ws k))) (nth ws k)

  start-inside : p * m.size ≤ length m.bytes
  start-inside =
      let low : p ≤ length m.locks = omega (arith, gap.inside) in
      omega (arith, shaped.whole, mul-le-mul_right m.size low)

  -- what stands at its address is its form
  abbrev rest : List ℕ
  rest = laid_gap behind (drop (suc k) ws) (n * m.size - (before + long)) ++ drop ((p + n) * m.size) m.bytes

  bytes_there : drop (readied_at m p ws k) (with_readied m p n behind ws k).bytes ≡ encode s ++ rest
  bytes_there =
      let x : List ℕ = laid_gap Locked (take k ws) before in
      let y : List ℕ = laid_gap Locked (nth ws k ∷ []) (before + long - before) in
      let z : List ℕ = laid_gap behind (drop (suc k) ws) (n * m.size - (before + long)) in
      gap_from m p n before x (y ++ z) start-inside (gap-long Locked (take k ws) before (All-take Fit k ws all) (omega arith))
      ∙ append_assoc y z (drop ((p + n) * m.size) m.bytes)
      ∙ ap (λ l. l ++ rest) (alone-laid m.size (nth ws k) shaped.some small (before + long - before) (omega arith))

  is_there : Has (found (with_readied m p n behind ws k).bytes) (record { at = readied_at m p ws k; set = on.set })
  is_there =
      let f : Found = record { at = readied_at m p ws k; set = on.set } in
      subst (λ l. Has l f) (sym on.stands) (has_append_right on.before (f ∷ on.behind) f (0, omega arith, λ d. refl))

  is-form : on.set ≡ s
  is-form =
      let w : Wanted = nth ws k in
      let fit : Fit (nth ws k) = All-get_or Fit ws k nothing in' all in
      let low : to_block m.size (least (nth ws k)) < m.size = mod-lt (m.size - least (nth ws k) % m.size) shaped.some in
      let bs : List ℕ = (with_readied m p n behind ws k).bytes in
      let reads-it : next unpacked (drop (readied_at m p ws k) bs) ≡ tile (holds on.set) = all-has (λ g. next unpacked (drop g.at bs) ≡ tile (holds g.set)) (found bs) (record { at = readied_at m p ws k; set = on.set }) (found-next bs) is_there in
      let one : parse (encode s ++ rest) ≡ tile (holds on.set) = ap parse (sym bytes_there) ∙ next-parse unpacked (drop (readied_at m p ws k) bs) (holds on.set) reads-it in
      let two : parse (encode s ++ rest) ≡ tile (holds s) = comes_back s rest (form_writable (to_block m.size (least (nth ws k))) w fit (omega arith)) in
      cc (one, two)

  bytes-are : size on.set ≡ long
  bytes-are = ap size is-form ∙ more-extra (to_block m.size (least (nth ws k))) (nth ws k)

  -- whole blocks, counted
  start_is : readied_at m p ws k ≡ readied_first m p ws k * m.size
  start_is =
      let none : before % m.size ≡ 0 = sym (mul-add-mod_self_right p m.size before) ∙ on.starts in
      omega (arith, none, mod-add-div' before m.size, add-mul p (before / m.size) m.size)

  long-is : size on.set ≡ readied_blocks m ws k * m.size
  long-is =
      let none : long % m.size ≡ 0 = ap (λ q. q % m.size) (sym bytes-are) ∙ on.fills in
      omega (arith, bytes-are, none, mod-add-div' long m.size)

  open_there : sealed (with_readied m p n behind ws k) (record { at = readied_at m p ws k; set = on.set }) ≡ false
  open_there =
      every-not (λ i. locked_at (with_readied m p n behind ws k) (readied_at m p ws k + i)) (size on.set) 0 (omega arith)
      (gap-clear m shaped p (p + n) (run_of m p n gap) (readied_at m p ws k + 0) (omega arith) (omega (arith, add-mul p n m.size, bytes-are)))

  pub fills-blocks : Fills (with_readied m p n behind ws k) (record { at = readied_at m p ws k; set = on.set }) (readied_first m p ws k) (readied_blocks m ws k)
  fills-blocks = record { stands = record { has = is_there; unsealed = open_there }; starts = start_is; long = long-is }
