-- What bytes say, from what their groups mean.
use Rattle.std.proofs.Common.{◌≡◌, ℕ, suc, ◌+◌, ◌-◌, ◌*◌, ◌/◌, ◌%◌, ◌^◌, ◌<◌, ◌≤◌, Bool, true, false, ◌&&◌, eqb, leb, List, [], ◌∷◌, ◌++◌, length, get_or, take, set, Ok, Err, Result, sym, ap, ◌∙◌, subst, ⊎_elim, mod-lt, mod-eq_of_lt, div-add-mod', arith}
use mathlib.Core.Path.{transport}
use Rattle.std.proofs.lemmas.List.{take_all, drop_all, get_or_default, take_more, take_more_set}
use Rattle.std.proofs.lemmas.Bool.{cases_lt, eq-eqb, ne_eqb, le-leb, lt-leb, and_from, and_left, and_right, cond-true, cond-false}
use Rattle.codes.specs.Bits.{bits, val, spread, ends, trimmed}
use Rattle.codes.specs.Table.{whole, behind, remaining, pad_behind}
use Rattle.codes.specs.declared.fault.Fault.{Fault}
use Rattle.codes.specs.declared.fault.Fault.TheVariants.{NoPadding}
use Rattle.codes.proofs.BitLaws.{length-spread, length-groups}
use Rattle.codes.proofs.Cuts.{last-bits, front-bits}
use Rattle.packing.specs.Coded.{closed, unpacked_by}
use Rattle.packing.specs.Packing.{said, Measured}

-- a last group that is padding is dropped
module _ (w p r n : ℕ) (gs : List ℕ) (many : length gs ≡ n) where
  all : take n gs ≡ gs
  all = take_all n gs (omega arith)

  pub trim_none : n ≡ 0 → take n gs ≡ trimmed w p r gs
  trim_none z =
      sym (cond-false (leb (w + r) 7 && ends p gs) (take (length gs - 1) gs) gs (and_right (leb (w + r) 7) (ends p gs) (ne_eqb (get_or gs (length gs - 1) (suc p)) p (λ e. never gs (omega arith) e))) ∙ sym all)
    where
      never : (gs : List ℕ) → length gs ≤ 0 → get_or gs (length gs - 1) (suc p) ≡ p → ⊥
      never [] h e = omega (arith, e)
      never (g ∷ gs) h e = omega arith

  pub trim_wide : 7 < w + r → take n gs ≡ trimmed w p r gs
  trim_wide h = all ∙ sym (cond-false (leb (w + r) 7 && ends p gs) (take (length gs - 1) gs) gs (and_left (leb (w + r) 7) (ends p gs) (lt-leb (w + r) 7 h)))

  last : 0 < n → get_or gs (length gs - 1) (suc p) ≡ get_or gs (n - 1) 0
  last some = ap (λ k. get_or gs (k - 1) (suc p)) many ∙ get_or_default gs (n - 1) (suc p) 0 (omega arith)

  pub trim_drop : w + r ≤ 7 → 0 < n → get_or gs (n - 1) 0 ≡ p → take (n - 1) gs ≡ trimmed w p r gs
  trim_drop few some e =
      sym (cond-true (leb (w + r) 7 && ends p gs) (take (length gs - 1) gs) gs (and_from (leb (w + r) 7) (ends p gs) (le-leb (w + r) 7 few) (eq-eqb (get_or gs (length gs - 1) (suc p)) p (last some ∙ e))) ∙ ap (λ k. take (k - 1) gs) many)

  pub trim_keep : 0 < n → (get_or gs (n - 1) 0 ≡ p → ⊥) → take n gs ≡ trimmed w p r gs
  trim_keep some ne = all ∙ sym (cond-false (leb (w + r) 7 && ends p gs) (take (length gs - 1) gs) gs (and_right (leb (w + r) 7) (ends p gs) (ne_eqb (get_or gs (length gs - 1) (suc p)) p (λ e. ne (sym (last some) ∙ e)))))

pub many-whole : (w : ℕ) (bs : List ℕ) (n : ℕ) → n ≡ length bs * 8 / w → length (whole w bs) ≡ n
many-whole w bs n e = length-groups w (length bs * 8 / w) (spread 8 bs) ∙ sym e

-- bits are left over of some bytes only
pub some_bytes : (n w : ℕ) → 0 < w → 0 < n * 8 % w → 0 < n
some_bytes n w pos h = ⊎_elim (λ some. some) (λ none. let z : n * 8 ≡ 0 = omega arith in absurd (omega (arith, ap (λ k. k % w) z, mod-eq_of_lt pos))) (cases_lt 0 n)

-- the bits behind the whole groups
module _ (w p : ℕ) (bs : List ℕ) (pos : 0 < w) where
  pub pads_none : length bs * 8 % w ≡ 0 → true ≡ pad_behind w p bs
  unfolding val
  pads_none z =
      let even : length bs * 8 / w * w ≡ length bs * 8 = omega (arith, div-add-mod' (length bs * 8) w) in
      let nil : behind w bs ≡ [] = drop_all (length bs * 8 / w * w) (spread 8 bs) (omega (arith, length-spread 8 bs)) in
      sym (eq-eqb (val (behind w bs)) (val (take (length bs * 8 % w) (bits w p))) (ap val nil ∙ ap (λ r. val (take r (bits w p))) (sym z)))

  pub pads_some : (r last : ℕ) → r ≡ length bs * 8 % w → w ≤ 8 → p < 2 ^ w → 0 < r → last ≡ get_or bs (length bs - 1) 0 → eqb (last % 2 ^ r) (p / 2 ^ (w - r)) ≡ pad_behind w p bs
  pads_some r last e narrow fits some is =
      let few : r < w = subst (λ k. k < w) (sym e) (mod-lt (length bs * 8) pos) in
      let sum : length bs * 8 / w * w + r ≡ length bs * 8 = ap (λ k. length bs * 8 / w * w + k) e ∙ div-add-mod' (length bs * 8) w in
      let have : 0 < length bs = some_bytes (length bs) w pos (subst (λ k. 0 < k) e some) in
      sym ((λ j. eqb (last-bits bs r (length bs * 8 / w * w) (omega arith) have sum j) (val (take (sym e j) (bits w p)))) ∙ (λ j. eqb (sym is j % 2 ^ r) (front-bits w p r fits (omega arith) j)))

-- a known object is measured
pub measured_by : (s : Result (List ℕ) Fault) (x : List ℕ) (n : ℕ) → s ≡ Ok x → n ≡ length x → Measured s (Ok n)
measured_by s x n e long = (e ∙ ap (λ r. Ok (said r)) (sym e), long ∙ ap (λ r. length (said r)) (sym e))

-- the object of the groups, unless the bits behind them are no padding
closed-ok : (m : Result (List ℕ) Fault) (right : Bool) (n : ℕ) (x : List ℕ) → closed m right n ≡ Ok x → m ≡ Ok x
closed-ok (Ok y) true n x e = e
closed-ok (Ok y) false n x e = let z : ◌≡◌ {A = ℕ} 0 1 = cc in absurd (omega arith)
closed-ok (Err f) right n x e = let z : ◌≡◌ {A = ℕ} 0 1 = cc in absurd (omega arith)

module _ (w p : ℕ) (meant : List ℕ → Result (List ℕ) Fault) (bs : List ℕ) (n : ℕ) (is : take n (whole w bs) ≡ remaining w p bs) (s : Result (List ℕ) Fault) (law : s ≡ unpacked_by w p meant bs) where
  says : s ≡ closed (meant (take n (whole w bs))) (pad_behind w p bs) (length bs * 8 / w)
  unfolding unpacked_by
  says = law ∙ (λ j. closed (meant (sym is j)) (pad_behind w p bs) (length bs * 8 / w))

  pub measured_fault : (f : Fault) → meant (take n (whole w bs)) ≡ Err f → s ≡ Err f
  measured_fault f e = says ∙ ap (λ m. closed m (pad_behind w p bs) (length bs * 8 / w)) e

  pub measured_pad : (m : ℕ) → Measured (meant (take n (whole w bs))) (Ok m) → pad_behind w p bs ≡ false → s ≡ Err (NoPadding (length bs * 8 / w))
  measured_pad m h no-pad = says ∙ (λ j. closed (h.0 j) (no-pad j) (length bs * 8 / w))

  pub measured_object : (m : ℕ) → Measured (meant (take n (whole w bs))) (Ok m) → pad_behind w p bs ≡ true → Measured s (Ok m)
  measured_object m h right =
      measured_by s (said (meant (take n (whole w bs)))) m (says ∙ (λ j. closed (h.0 j) (right j) (length bs * 8 / w))) h.1

  -- the object that the groups mean is the one that the bytes say
  pub same_object : (m : ℕ) → Measured s (Ok m) → said (meant (take n (whole w bs))) ≡ said s
  same_object m h = ap said (closed-ok (meant (take n (whole w bs))) (pad_behind w p bs) (length bs * 8 / w) (said s) (sym says ∙ h.0))

-- an output that is filled from its front
pub filled_more : (bytes out : List ℕ) (i : ℕ) → take i out ≡ take i bytes → (y : ℕ) → y ≡ get_or bytes i 0 → i < length bytes → i < length out → take (i + 1) (set out i y) ≡ take (i + 1) bytes
filled_more bytes out i h y is in' room = take_more_set out i y room ∙ (λ j. h j ++ (is j ∷ [])) ∙ sym (take_more bytes i 0 in')

pub filled_all : (bytes out : List ℕ) (i : ℕ) → take i out ≡ take i bytes → length out ≤ i → length out ≡ length bytes → out ≡ bytes
filled_all bytes out i h end long = sym (take_all i out end) ∙ h ∙ take_all i bytes (omega arith)

-- as the code has width and padding group from the interface
pub kept_by : (w p w' p' n : ℕ) (bs : List ℕ) → w ≡ w' → p ≡ p' → take n (whole w bs) ≡ remaining w p bs → take n (whole w' bs) ≡ remaining w' p' bs
kept_by w p w' p' n bs ew ep h = transport (λ j. take n (whole (ew j) bs) ≡ remaining (ew j) (ep j) bs) h
