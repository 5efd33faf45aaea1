-- What faults tell.
use Rattle.std.proofs.Common.{◌≡◌, ℕ, zero, suc, ◌*◌, ◌/◌, ◌<◌, ◌≤◌, Bool, cond, ◌&&◌, ltb, leb, List, [], ◌∷◌, map, length, get_or, Ok, Err, sym, refl, ◌∙◌, subst, inl, inr, ⊎_elim, arith}
use Rattle.std.specs.Int.Digits.{number_from_digits}
use Rattle.std.proofs.lemmas.Bool.{cases_Bool, leb-true, leb-false, ltb-true, ltb-false, and_cases, cond-true, cond-false}
use Rattle.codes.specs.declared.fault.Fault.{Fault}
use Rattle.codes.specs.declared.fault.Fault.TheVariants.{TooLarge, NoCharacter, NoPadding}
use Rattle.codes.specs.Table.{largest, decimal, upto, letter, remaining, pad_behind, Way, integer, letters, octets, unpacking, unpacked_integer, unpacked_letters, unpacked_code, code}
use Rattle.codes.specs.Laws.{LettersUpto, Told, FaultsTold, LettersStand}

-- up to the first byte above hi
more-upto : (hi b : ℕ) (x : List ℕ) (n j : ℕ) → b ≤ hi → LettersUpto hi x n → j < suc n → get_or (b ∷ x) j 0 ≤ hi
more-upto hi b x n zero le below lt = le
more-upto hi b x n (suc j) le below lt = below j (omega arith)

upto_le : (hi : ℕ) (x : List ℕ) → LettersUpto hi x (upto hi x)
upto_le hi [] j h = absurd (omega arith)
upto_le hi (b ∷ x) j h = ⊎_elim
    (λ t.
    let more : upto hi (b ∷ x) ≡ suc (upto hi x) = cond-true (leb b hi) (suc (upto hi x)) 0 t in
    more-upto hi b x (upto hi x) j (leb-true b hi t) (upto_le hi x) (omega (arith, h, more)))
    (λ f. let none : upto hi (b ∷ x) ≡ 0 = cond-false (leb b hi) (suc (upto hi x)) 0 f in absurd (omega (arith, h, none)))
    (cases_Bool (leb b hi))

upto-above : (hi : ℕ) (x : List ℕ) → upto hi x < length x → hi < get_or x (upto hi x) 0
upto-above hi [] h = absurd (omega arith)
upto-above hi (b ∷ x) h = ⊎_elim
    (λ t.
    let more : upto hi (b ∷ x) ≡ suc (upto hi x) = cond-true (leb b hi) (suc (upto hi x)) 0 t in
    subst (λ k. hi < get_or (b ∷ x) k 0) (sym more) (upto-above hi x (omega (arith, h, more))))
    (λ f. let none : upto hi (b ∷ x) ≡ 0 = cond-false (leb b hi) (suc (upto hi x)) 0 f in subst (λ k. hi < get_or (b ∷ x) k 0) (sym none) (leb-false b hi f))
    (cases_Bool (leb b hi))

letters-told : (w p lo hi : ℕ) (bs : List ℕ) (f : Fault) → unpacked_letters w p lo hi bs ≡ Err f → Told (letters w p lo hi) bs f
unfolding unpacked_letters
letters-told w p lo hi bs f e =
    let x : List ℕ = map (letter w lo) (remaining w p bs) in
    let n : ℕ = length bs * 8 / w in
    let right : Bool = pad_behind w p bs in
    ⊎_elim
    (λ t.
    let s : Err (NoCharacter (upto hi x)) ≡ Err f = sym (cond-true _ (Err (NoCharacter (upto hi x))) (cond right (Ok x) (Err (NoPadding n))) t) ∙ e in
    let is : NoCharacter (upto hi x) ≡ f = cc in
    let lt : upto hi x < length x = ltb-true _ _ t in
    subst (Told (letters w p lo hi) bs) is (lt, upto-above hi x lt, upto_le hi x))
    (λ g.
    let s : cond right (Ok x) (Err (NoPadding n)) ≡ Err f = sym (cond-false _ (Err (NoCharacter (upto hi x))) (cond right (Ok x) (Err (NoPadding n))) g) ∙ e in
    let all : length x ≤ upto hi x = ltb-false _ _ g in
    ⊎_elim
    (λ t. let o : Ok x ≡ Err f = sym (cond-true right (Ok x) (Err (NoPadding n)) t) ∙ s in let z : ◌≡◌ {A = ℕ} 0 1 = cc in absurd (omega arith))
    (λ b.
    let o : Err (NoPadding n) ≡ Err f = sym (cond-false right (Ok x) (Err (NoPadding n)) b) ∙ s in
    let is : NoPadding n ≡ f = cc in
    subst (Told (letters w p lo hi) bs) is (refl, b, λ j h. upto_le hi x j (omega arith)))
    (cases_Bool right))
    (cases_Bool (ltb (upto hi x) (length x)))

integer-told : (bs : List ℕ) (f : Fault) → unpacked_integer bs ≡ Err f → Told integer bs f
integer-told bs f e = ⊎_elim
    (λ t. let s : Ok (decimal (number_from_digits 256 bs)) ≡ Err f = sym (cond-true _ (Ok (decimal (number_from_digits 256 bs))) (Err TooLarge) t) ∙ e in let z : ◌≡◌ {A = ℕ} 0 1 = cc in absurd (omega arith))
    (λ g.
    let s : Err TooLarge ≡ Err f = sym (cond-false _ (Ok (decimal (number_from_digits 256 bs))) (Err TooLarge) g) ∙ e in
    (cc, ⊎_elim (λ l. inl (leb-false _ 8 l)) (λ l. inr (leb-false _ largest l)) (and_cases _ _ g)))
    (cases_Bool (leb (length bs) 8 && leb (number_from_digits 256 bs) largest))

way-told : (y : Way) (bs : List ℕ) (f : Fault) → unpacking y bs ≡ Err f → Told y bs f
way-told integer bs f e = integer-told bs f e
way-told (letters w p lo hi) bs f e = letters-told w p lo hi bs f e
way-told octets bs f e = let z : ◌≡◌ {A = ℕ} 0 1 = cc in absurd (omega arith)

pub faults_told : FaultsTold
unfolding unpacked_code
faults_told k bs f e = way-told (code k).way bs f e

pub letters_stand : LettersStand
letters_stand =
    (λ g h. (omega arith, λ b lo hi e. omega arith), λ g h. (omega arith, λ b lo hi e. omega arith), λ g h. (omega arith, λ b lo hi e. omega arith), λ g h. (omega arith, λ b lo hi e. omega arith))
