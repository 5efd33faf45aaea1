-- What a gap holds after its layout, and when there is none.
use Rattle.std.specs.Prelude.{◌≡◌, ℕ, suc, ◌+◌, ◌-◌, ◌<◌, ◌≤◌, ◌⊎◌, List, [], ◌∷◌, ◌++◌, length, take, drop, replicate, Ok, Err, Result, slice_index_or}
use Rattle.std.specs.List.{AllByRecursion}
use Rattle.sets.specs.Layouts.{laid}
use Rattle.writing.specs.Forms.{Wanted, Fit}
use Rattle.rivals.specs.Rooms.{whole}
use Rattle.layout.specs.declared.items.Behind.{Behind}
use Rattle.layout.specs.declared.items.Behind.TheVariants.{Locked, End}
use Rattle.layout.specs.declared.items.LayoutFault.{LayoutFault}
use Rattle.layout.specs.declared.items.LayoutFault.TheVariants.{Unfit, TooSmall, NoPlace}
use Rattle.layout.specs.declared.items.Readied.{Readied}
use Rattle.layout.specs.Plans.{least, total, locked_plan, last_plan, ready_need, nth}

-- the bytes of a gap of g
abbrev pub laid_gap : Behind → List Wanted → ℕ → List ℕ
laid_gap Locked ws g = laid (locked_plan ws g)
laid_gap End ws g = laid (last_plan ws) ++ replicate (g - total ws) 0

-- the first that no set can hold
pub record FirstUnfit (ws : List Wanted) (i : ℕ) : Type 0 where
  pub before : AllByRecursion Fit (take i ws)
  pub inside : i < length ws
  pub unfit : (d : Wanted) → Fit (slice_index_or ws i d) → ⊥

-- the gap as it was to be laid; or as before, with the reason
abbrev pub Lays : Behind → List Wanted → List ℕ → List ℕ → Result (Unit {0}) LayoutFault → Type 0
Lays behind ws old new (Ok x) = AllByRecursion Fit ws × (total ws ≤ length old) × (new ≡ laid_gap behind ws (length old))
Lays behind ws old new (Err (Unfit i)) = FirstUnfit ws i × (new ≡ old)
Lays behind ws old new (Err TooSmall) = (length old < total ws) × (new ≡ old)
Lays behind ws old new (Err NoPlace) = ⊥

-- three parts of a gap of g bytes: up to `at` and up to `end` as before a locked block, then the rest
abbrev pub three_parts : Behind → List Wanted → ℕ → ℕ → ℕ → ℕ → List ℕ
three_parts behind ws n at end g =
    laid_gap Locked (take n ws) at ++ (laid_gap Locked (nth ws n ∷ []) (end - at) ++ laid_gap behind (drop (suc n) ws) (g - end))

-- a gap with a readied set: those before it padded up to its block, it padded to a block's end, then the others
abbrev pub readied_gap : Behind → ℕ → List Wanted → ℕ → ℕ → List ℕ
readied_gap behind b ws n g =
    let at = whole b (total (take n ws)) in
    three_parts behind ws n at (at + whole b (least (nth ws n))) g

abbrev pub Readies : Behind → ℕ → List Wanted → ℕ → List ℕ → List ℕ → Result Readied LayoutFault → Type 0
Readies behind b ws n old new (Ok s) =
    AllByRecursion Fit ws × (ready_need b (take n ws) (nth ws n) (drop (suc n) ws) ≤ length old)
    × (s.at ≡ whole b (total (take n ws))) × (s.bytes ≡ whole b (least (nth ws n)))
    × (new ≡ readied_gap behind b ws n (length old))
Readies behind b ws n old new (Err (Unfit i)) = FirstUnfit ws i × (new ≡ old)
Readies behind b ws n old new (Err TooSmall) = (length old < ready_need b (take n ws) (nth ws n) (drop (suc n) ws)) × (new ≡ old)
Readies behind b ws n old new (Err NoPlace) = ((length ws ≤ n) ⊎ ((b ≡ 0) ⊎ (256 < b))) × (new ≡ old)
