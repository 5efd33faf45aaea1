-- A gap that is laid out holds bytes.
use Rattle.std.proofs.Common.{◌≡◌, ℕ, zero, suc, ◌+◌, ◌-◌, ◌<◌, ◌≤◌, List, [], ◌∷◌, ◌++◌, length, take, drop, replicate, sym, ap, subst, lt_of_lt_of_le, arith, length-take, pow_mono}
use Rattle.std.specs.Int.Digits.{AllBelowBase}
use Rattle.std.specs.List.{AllByRecursion}
use Rattle.std.proofs.lemmas.Int.Digits.{all_below_base_digits_of}
use Rattle.std.proofs.ByRecursion.{All-append, All-take, All-drop, All-get_or, All-weaker}
use Rattle.codes.specs.Bits.{bits, spread, groups, packed, bytes_for, spare, padding}
use Rattle.codes.specs.Numbers.{kind_number}
use Rattle.codes.specs.Table.{Way, integer, letters, octets, value, low_bits, packing, code, packed_code, first_code}
use Rattle.codes.proofs.BitLaws.{val-lt, under-bits, under-spread}
use Rattle.sets.specs.Sets.{filler, content}
use Rattle.sets.specs.Writing.{encode}
use Rattle.sets.specs.Layouts.{laid}
use Rattle.sets.proofs.Shared.{written-bytes}
use Rattle.writing.proofs.Formed.{form_writable}
use Rattle.writing.specs.Forms.{Wanted, Fit, formed}
use Rattle.rivals.specs.Rooms.{whole}
use Rattle.layout.specs.declared.items.Behind.TheVariants.{Locked, End}
use Rattle.layout.specs.Plans.{least, total, run, taken, nothing, nth}
use Rattle.layout.specs.Lays.{laid_gap}
use Rattle.layout.proofs.Anews.{form-told}
use Rattle.layout.proofs.Runs.{laid-append, taken-few}
use Rattle.effects.specs.Bytes.{Given, LaidBytes, ReadiedBytes}

abbrev Byte : ℕ → Type 0
Byte d = d < 256

-- packed objects
under-groups : (n : ℕ) (bs : List ℕ) → AllBelowBase 2 bs → AllBelowBase 256 (groups 8 n bs)
unfolding groups
under-groups zero bs u = tt
under-groups (suc n) bs u =
    let le : length (take 8 bs) ≤ 8 = simp length-take (omega arith) in
    (lt_of_lt_of_le (val-lt (take 8 bs) (All-take (λ d. d < 2) 8 bs u)) (pow_mono le), under-groups n (drop 8 bs) (All-drop (λ d. d < 2) 8 bs u))

packing-under : (way : Way) (x : List ℕ) → AllBelowBase 256 x → AllBelowBase 256 (packing way x)
unfolding packed
packing-under integer x u = all_below_base_digits_of 256 (value x) (omega arith)
packing-under (letters w p lo hi) x u =
    let gs : List ℕ = low_bits w x in
    let s : ℕ = spare w (length gs) in
    under-groups (bytes_for w (length gs)) (spread w gs ++ padding w p s) (All-append (λ d. d < 2) (spread w gs) (padding w p s) (under-spread w gs) (All-take (λ d. d < 2) s (bits w p ++ bits w p) (All-append (λ d. d < 2) (bits w p) (bits w p) (under-bits w p) (under-bits w p))))
packing-under octets x u = u

packed-under : (k : ℕ) (x : List ℕ) → AllBelowBase 256 x → AllBelowBase 256 (packed_code k x)
unfolding packed_code
packed-under k x u = packing-under (code k).way x u

-- tiles
formed-under : (extra : ℕ) (w : Wanted) → Given w → extra ≤ 256 → AllBelowBase 256 (encode (formed extra w))
formed-under extra w g few =
    let name : content (formed extra w).name ≡ w.identifier = ap (λ e. e.identifier) (form-told extra w g.fit) in
    written-bytes (formed extra w) (form_writable extra w g.fit few)
    (subst (AllBelowBase 256) (sym name) g.identifier) (packed-under (first_code (kind_number w.kind) w.object) w.object g.object)

run-under : (ws : List Wanted) (extra : ℕ) → AllByRecursion Given ws → extra ≤ 256 → AllBelowBase 256 (laid (run ws extra))
unfolding run laid
run-under [] extra all few = tt
run-under (w ∷ []) extra all few = All-append Byte (encode (formed extra w)) [] (formed-under extra w all.0 few) tt
run-under (w ∷ v ∷ ws) extra all few = All-append Byte (encode (formed 0 w)) (laid (run (v ∷ ws) extra)) (formed-under 0 w all.0 (omega arith)) (run-under (v ∷ ws) extra all.1 few)

fillers_under : (k : ℕ) → AllBelowBase 256 (laid (replicate k filler))
unfolding laid
fillers_under zero = tt
fillers_under (suc k) = (omega arith, fillers_under k)

pub zeros-under : (k : ℕ) → AllBelowBase 256 (replicate k 0)
zeros-under zero = tt
zeros-under (suc k) = (omega arith, zeros-under k)

pub laid-bytes : LaidBytes
laid-bytes Locked ws g all =
    let extra : ℕ = taken ws (g - total ws) in
    let rest : ℕ = g - total ws - taken ws (g - total ws) in
    subst (AllBelowBase 256) (sym (laid-append (run ws (taken ws (g - total ws))) (replicate (g - total ws - taken ws (g - total ws)) filler)))
    (All-append Byte (laid (run ws (taken ws (g - total ws)))) (laid (replicate (g - total ws - taken ws (g - total ws)) filler)) (run-under ws (taken ws (g - total ws)) all (taken-few ws (g - total ws)).0) (fillers_under (g - total ws - taken ws (g - total ws))))
laid-bytes End ws g all = All-append Byte (laid (run ws 0)) (replicate (g - total ws) 0) (run-under ws 0 all (omega arith)) (zeros-under (g - total ws))

pub readied_bytes : ReadiedBytes
readied_bytes behind b ws k g all in' =
    let at : ℕ = whole b (total (take k ws)) in
    let end : ℕ = whole b (total (take k ws)) + whole b (least (nth ws k)) in
    All-append Byte (laid_gap Locked (take k ws) at) (laid_gap Locked (nth ws k ∷ []) (end - at) ++ laid_gap behind (drop (suc k) ws) (g - end))
    (laid-bytes Locked (take k ws) at (All-take Given k ws all))
    (All-append Byte (laid_gap Locked (nth ws k ∷ []) (end - at)) (laid_gap behind (drop (suc k) ws) (g - end))
    (laid-bytes Locked (nth ws k ∷ []) (end - at) (All-get_or Given ws k nothing in' all, tt))
    (laid-bytes behind (drop (suc k) ws) (g - end) (All-drop Given (suc k) ws all)))

pub all_fit : (ws : List Wanted) → AllByRecursion Given ws → AllByRecursion Fit ws
all_fit ws all = All-weaker Given Fit (λ w g. g.fit) ws all
