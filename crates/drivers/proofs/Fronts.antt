-- An image that holds the first blocks of a tag.
use Rattle.std.proofs.Common.{◌≡◌, ℕ, ◌+◌, ◌*◌, ◌<◌, ◌≤◌, List, [], ◌∷◌, ◌++◌, length, take, drop, sym, ap, ◌∙◌, append_assoc, suc-mul, arith, length-append}
use borrow.Rule.Slice.PartMut.{put_mid}
use Rattle.std.proofs.lemmas.List.{take_at, drop_at, drop-drop, take_more, flat_map_more, take_all, length-take-le}
use Rattle.std.proofs.ByRecursion.{All-from_get_or, All-take}
use Rattle.std.specs.List.{AllByRecursion, flat_map}
use Rattle.tags.specs.Tags.{Tag, Shaped, bytes}
use Rattle.drivers.specs.Questions.{block}

abbrev pub front : Tag → ℕ → List ℕ
front t k = flat_map (λ b. b) (take k t.blocks)

length_joined : (bs : List (List ℕ)) (b : ℕ) → AllByRecursion (λ x. length x ≡ b) bs → length (flat_map (λ x. x) bs) ≡ length bs * b
length_joined [] b all = omega arith
length_joined (x ∷ bs) b all = omega (arith, length-append x (flat_map (λ x. x) bs), all.0, length_joined bs b all.1, suc-mul (length bs) b)

pub length_front : (t : Tag) → Shaped t → (k : ℕ) → k ≤ t.count → length (front t k) ≡ k * t.size
length_front t s k h =
    let fits : AllByRecursion (λ x. length x ≡ t.size) t.blocks = All-from_get_or (λ x. length x ≡ t.size) t.blocks [] (λ i l. s.each i (omega (arith, s.many))) in
    length_joined (take k t.blocks) t.size (All-take (λ x. length x ≡ t.size) k t.blocks fits)
    ∙ ap (λ n. n * t.size) (length-take-le k t.blocks (omega (arith, s.many)))

-- one block more, written at a, where m bytes are put
pub front-more : (t : Tag) → Shaped t → (e xs ys : List ℕ) (k a m : ℕ) → k < t.count → xs ≡ front t k ++ drop (k * t.size) e → ys ≡ block t k → a ≡ k * t.size → m ≡ t.size → put_mid a m xs ys ≡ front t (k + 1) ++ drop ((k + 1) * t.size) e
front-more t s e xs ys k a m h is read at long =
    let j = front t k in
    let r = drop (k * t.size) e in
    let len : length j ≡ a = length_front t s k (omega arith) ∙ sym at in
    let more : front t (k + 1) ≡ j ++ block t k =
    ap (flat_map (λ b. b)) (take_more t.blocks k [] (omega (arith, s.many))) ∙ sym (flat_map_more (λ b. b) [] (take k t.blocks) (block t k)) in
    let past : drop m (drop a (j ++ r)) ≡ drop ((k + 1) * t.size) e =
    ap (drop m) (drop_at j r a len) ∙ drop-drop m (k * t.size) e ∙ ap (λ n. drop n e) (omega (arith, suc-mul k t.size)) in
    ap (λ l. put_mid a m l ys) is
    ∙ (λ i. take_at j r a len i ++ (read i ++ past i))
    ∙ sym (append_assoc j (block t k) (drop ((k + 1) * t.size) e))
    ∙ ap (λ l. l ++ drop ((k + 1) * t.size) e) (sym more)

pub front-all : (t : Tag) → Shaped t → (k : ℕ) → k ≡ t.count → front t k ≡ bytes t
front-all t s k e = ap (flat_map (λ b. b)) (take_all k t.blocks (omega (arith, s.many)))
