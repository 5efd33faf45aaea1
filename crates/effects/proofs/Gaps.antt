-- A gap laid out anew with other items.
use Rattle.std.proofs.Common.{◌≡◌, ℕ, zero, suc, ◌+◌, ◌*◌, ◌<◌, ◌≤◌, List, [], ◌∷◌, ◌++◌, map, length, take, drop, Ok, refl, ap, subst, arith}
use mathlib.Core.List.{map-append}
use Rattle.std.specs.List.{AllByRecursion}
use Rattle.sets.specs.Readings.{Memory, Entry, Reading, reads}
use Rattle.rivals.specs.Memories.{Shaped, Rival, Gap}
use Rattle.rivals.specs.Relaid.{list_around, Distinct}
use Rattle.writing.specs.Forms.{Wanted}
use Rattle.layout.specs.declared.items.Behind.{Behind}
use Rattle.layout.specs.Plans.{total, nth}
use Rattle.layout.specs.Anew.{entry_of, Stands}
use Rattle.layout.proofs.Anews.{laid-reads}
use Rattle.effects.specs.Bytes.{Given}
use Rattle.effects.specs.Gaps.{with_items, ReadsAs, Becomes}
use Rattle.effects.proofs.Bytes.{laid-bytes, all_fit}

-- a memory is a rival of its own
pub itself : (m : Memory) → Shaped m → Rival m m
itself m sh = record { size = refl; locks = refl; long = refl; small = sh.small; alike = λ i e. refl }

pub total-append : (ws vs : List Wanted) → total (ws ++ vs) ≡ total ws + total vs
unfolding total
total-append [] vs = omega arith
total-append (w ∷ ws) vs = omega (arith, total-append ws vs)

pub entries-append : (ws vs : List Wanted) → map entry_of (ws ++ vs) ≡ map entry_of ws ++ map entry_of vs
entries-append ws vs = map-append entry_of ws vs

-- items around one of them
pub around : (k : ℕ) (ws : List Wanted) → k < length ws → take k ws ++ (nth ws k ∷ drop (suc k) ws) ≡ ws
around k [] h = absurd (omega arith)
around zero (w ∷ ws) h = refl
around (suc k) (w ∷ ws) h = ap (λ l. w ∷ l) (around k ws (omega arith))

-- what the list becomes, where it is known around the gap
pub becomes : (m : Memory) (r : Reading) → Shaped m → reads m ≡ Ok r → (p n : ℕ) → Gap m p n → (behind : Behind) → Stands m p n behind
    → (ws : List Wanted) → AllByRecursion Given ws → total ws ≤ n * m.size → (l : List Entry) → list_around m p n (map entry_of ws) ≡ l → Distinct l → Becomes m (with_items m p n behind ws) l
becomes m r shaped read p n gap behind here ws given fits l is distinct =
    let now = laid-reads m r shaped read p n gap behind here ws (all_fit ws given) fits (laid-bytes behind ws (n * m.size) given) in
    record {
      list = subst (λ (k : List Entry). Distinct k → ReadsAs (with_items m p n behind ws) k) is now.list distinct;
      rival = now.rival;
      seals = now.seals;
    }
