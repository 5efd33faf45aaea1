use Rattle.std.proofs.Common.{ℕ, ◌<◌, ◌≤◌, length, get_or, refl, subst, rules, tests, arith}
use Rattle.std.specs.Prelude.{MatchOption}
use Rattle.std.proofs.lemmas.Iterator.{first_from_Range}
use Rattle.codes.specs.Table.{whole, letter}
use Rattle.packing.proofs.Meaning.{many-whole}
use Rattle.packing.proofs.Alphabets.{lettered-front, lettered-stop, lettered-all}
use Rattle.packing.proofs.alphabet.AlphabetCode.length.Goals as goal

pub returns-in-Some : goal.returns-in-Some
returns-in-Some c =
    let s = c.args.self.now in
    let w = s.width.bits in
    let gs = whole s.width.bits c.args.bytes.now in
    let in' : c.args.n ≤ length (whole s.width.bits c.args.bytes.now) = omega (arith, c.requires, many-whole s.width.bits c.args.bytes.now _ refl) in
    let first = first_from_Range _ _ _ _ (λ i. s.last < letter s.width.bits s.first (get_or gs i 0)) (λ i. letter s.width.bits s.first (get_or gs i 0) ≤ s.last) c.find.ensures.ran (λ x q k. search (rules, tests)) (λ x q k. search (rules, tests)) in
    let f = subst (λ o. MatchOption o ((a : ℕ) → 0 ≤ a → a < c.args.n → letter w s.first (get_or gs a 0) ≤ s.last) (λ i. (0 ≤ i) × (i < c.args.n) × (s.last < letter w s.first (get_or gs i 0)) × ((a : ℕ) → 0 ≤ a → a < i → letter w s.first (get_or gs a 0) ≤ s.last))) c.in-Some.is first in
    lettered-stop w s.first s.last gs c.args.n in' c.in-Some.i (lettered-front w s.first s.last gs c.args.n in' c.in-Some.i (omega (arith, f.1)) (λ j l. f.3 j (omega arith) l)) f.1 f.2

pub returns-in-None : goal.returns-in-None
returns-in-None c =
    let s = c.args.self.now in
    let w = s.width.bits in
    let gs = whole s.width.bits c.args.bytes.now in
    let in' : c.args.n ≤ length (whole s.width.bits c.args.bytes.now) = omega (arith, c.requires, many-whole s.width.bits c.args.bytes.now _ refl) in
    let first = first_from_Range _ _ _ _ (λ i. s.last < letter s.width.bits s.first (get_or gs i 0)) (λ i. letter s.width.bits s.first (get_or gs i 0) ≤ s.last) c.find.ensures.ran (λ x q k. search (rules, tests)) (λ x q k. search (rules, tests)) in
    let f = subst (λ o. MatchOption o ((a : ℕ) → 0 ≤ a → a < c.args.n → letter w s.first (get_or gs a 0) ≤ s.last) (λ i. (0 ≤ i) × (i < c.args.n) × (s.last < letter w s.first (get_or gs i 0)) × ((a : ℕ) → 0 ≤ a → a < i → letter w s.first (get_or gs a 0) ≤ s.last))) c.in-None.is first in
    lettered-all w s.first s.last gs c.args.n in' (lettered-front w s.first s.last gs c.args.n in' c.args.n (omega arith) (λ j l. f j (omega arith) l))
