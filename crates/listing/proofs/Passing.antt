-- The frame of the listing of a dump that passed.
use Rattle.std.proofs.Common.{◌≡◌, ℕ, ◌-◌, List, [], ◌∷◌, ◌++◌, length, get_or, IfOk, Ok, Err, Result, ◌∙◌, subst}
use Rattle.tags.specs.Dumps.{size_of, count_of}
use Rattle.sets.specs.Scans.{Refusal}
use Rattle.scan.specs.declared.tables.Tally.{Tally}
use Rattle.listing.specs.Lines.{tag_text, used_text}
use Rattle.listing.specs.Listings.{newline, content_of, Listed}

-- the frame of a listing
pub framed : {S E : Type 0} (f : S → List ℕ) (r : Result S E) (xs : List ℕ) (v : Result Tally Refusal) (t : Tally) (count size system used total : ℕ) (sets : List ℕ)
    → IfOk r (λ s. f s ≡ tag_text count size system ++ (newline ∷ (sets ++ (used_text used total ++ (newline ∷ [])))))
    → Ok t ≡ v → count ≡ count_of xs → size ≡ size_of xs → system ≡ get_or xs 2 0 → used ≡ length (content_of xs) - t.free → total ≡ length (content_of xs) → IfOk r (λ s. Listed xs v (f s))
framed f (Ok s) xs v t count size system used total sets h e hc hb hs hu ht =
    subst (λ w. Listed xs w (f s)) e (sets, h ∙ (λ i. tag_text (hc i) (hb i) (hs i) ++ (newline ∷ (sets ++ (used_text (hu i) (ht i) ++ (newline ∷ []))))))
framed f (Err y) xs v t count size system used total sets h e hc hb hs hu ht = tt
