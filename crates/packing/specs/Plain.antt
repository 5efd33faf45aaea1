-- Groups of eight bits are the bytes themselves.
use Rattle.std.specs.Prelude.{◌≡◌, ℕ, ◌+◌, ◌*◌, ◌/◌, ◌%◌, ◌^◌, ◌<◌, ◌≤◌, true, ◌&&◌, List, [], ◌++◌, length, take, Ok, Err, Result, nat_le, refl}
use Rattle.std.proofs.Common.{sym, ap, subst, ◌∙◌, ⊎_elim, append-nil, arith}
use Rattle.std.specs.Int.Digits.{AllBelowBase, digits_of}
use Rattle.std.proofs.lemmas.List.{drop_all}
use Rattle.std.proofs.lemmas.Int.Digits.{all_below_base_digits_of}
use Rattle.std.proofs.lemmas.Bool.{or_cases, eqb-true, eq-eqb, and_left, lt-leb, cond-false}
use Rattle.codes.specs.Bits.{bits, val, spread, groups, packed, ends, padding, spare}
use Rattle.codes.proofs.BitLaws.{groups-spread, length-spread}
use Rattle.codes.specs.declared.fault.Fault.{Fault}
use Rattle.codes.specs.Table.{whole, remaining, behind, pad_behind, octets, code, permitted, value, packing, packed_code, unpacking, unpacked_code}
use Rattle.packing.specs.Coded.{is_plain, closed, unpacked_by}

pub octets_sized : (4 ≤ 8) × (8 ≤ 8) × (0 < 2 ^ 8)
octets_sized = (omega arith, omega arith, omega arith)

-- the bytes of a number
pub number_bytes : (x : List ℕ) → AllBelowBase 256 (digits_of 256 (value x))
number_bytes x = all_below_base_digits_of 256 (value x) (omega arith)

pub packed_bytes : (gs : List ℕ) → AllBelowBase 256 gs → packed 8 0 gs ≡ gs
unfolding packed
packed_bytes gs u =
    let n : (length gs * 8 + 7) / 8 ≡ length gs = omega arith in
    ap (λ k. groups 8 k (spread 8 gs ++ padding 8 0 (spare 8 (length gs)))) n ∙ groups-spread 8 gs (padding 8 0 (spare 8 (length gs))) u

whole_bytes : (bs : List ℕ) → AllBelowBase 256 bs → whole 8 bs ≡ bs
whole_bytes bs u =
    let n : length bs * 8 / 8 ≡ length bs = omega arith in
    (λ j. groups 8 (n j) (sym (append-nil (spread 8 bs)) j)) ∙ groups-spread 8 bs [] u

pub front_bytes : (n : ℕ) (bs : List ℕ) → AllBelowBase 256 bs → take n bs ≡ take n (whole 8 bs)
front_bytes n bs u = ap (take n) (sym (whole_bytes bs u))

remaining_bytes : (bs : List ℕ) → AllBelowBase 256 bs → remaining 8 0 bs ≡ bs
remaining_bytes bs u =
    let more : 7 < 8 + length bs * 8 % 8 = omega arith in
    cond-false (nat_le (8 + length bs * 8 % 8) 7 && ends 0 (whole 8 bs)) _ (whole 8 bs) (and_left (nat_le (8 + length bs * 8 % 8) 7) (ends 0 (whole 8 bs)) (lt-leb (8 + length bs * 8 % 8) 7 more)) ∙ whole_bytes bs u

none_behind : (bs : List ℕ) → pad_behind 8 0 bs ≡ true
unfolding val
none_behind bs =
    let r : length bs * 8 % 8 ≡ 0 = omega arith in
    let all : behind 8 bs ≡ [] = drop_all (length bs * 8 / 8 * 8) (spread 8 bs) (omega (arith, length-spread 8 bs)) in
    eq-eqb _ _ (ap val all ∙ ap (λ k. val (take k (bits 8 0))) (sym r))

closed_right : (r : Result (List ℕ) Fault) (n : ℕ) → closed r true n ≡ r
closed_right (Ok x) n = refl
closed_right (Err f) n = refl

pub bytes_by : (meant : List ℕ → Result (List ℕ) Fault) (bs : List ℕ) → AllBelowBase 256 bs → meant bs ≡ unpacked_by 8 0 meant bs
unfolding unpacked_by
bytes_by meant bs u = sym (closed_right (meant bs) (length bs * 8 / 8)) ∙ (λ j. closed (meant (sym (remaining_bytes bs u) j)) (sym (none_behind bs) j) (length bs * 8 / 8))

-- the codes that keep the bytes
pub record Plain (k : ℕ) : Type 0 where
  pub way : (code k).way ≡ octets
  pub permits : (x : List ℕ) → true ≡ permitted k x

pub plain : (k : ℕ) → is_plain k ≡ true → Plain k
unfolding permitted
plain k h = ⊎_elim
    (λ e. subst Plain (sym (eqb-true k 0 e)) (record { way = refl; permits = λ x. refl }))
    (λ o. ⊎_elim
    (λ e. subst Plain (sym (eqb-true k 6 e)) (record { way = refl; permits = λ x. refl }))
    (λ e. subst Plain (sym (eqb-true k 7 e)) (record { way = refl; permits = λ x. refl }))
    (or_cases _ _ o))
    (or_cases _ _ h)

pub plain_packs : (k : ℕ) (x : List ℕ) → Plain k → AllBelowBase 256 x → packed 8 0 x ≡ packed_code k x
unfolding packed_code
plain_packs k x p u = packed_bytes x u ∙ ap (λ y. packing y x) (sym p.way)

pub plain_unpacks : (k : ℕ) (bs : List ℕ) → Plain k → AllBelowBase 256 bs → unpacked_code k bs ≡ unpacked_by 8 0 (λ gs. Ok gs) bs
unfolding unpacked_code
plain_unpacks k bs p u = ap (λ y. unpacking y bs) p.way ∙ bytes_by (λ gs. Ok gs) bs u
