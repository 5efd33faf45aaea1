-- The frame of a listing: the line of a refusal; or the line of the tag, those of its sets, and that of the bytes used.
use Rattle.std.specs.Prelude.{◌≡◌, ℕ, ◌+◌, ◌-◌, List, [], ◌∷◌, ◌++◌, length, drop, Ok, Err, Result, slice_index}
use Rattle.tags.specs.Dumps.{size_of, count_of}
use Rattle.sets.specs.Scans.{Refusal}
use Rattle.scan.specs.declared.tables.Tally.{Tally}
use Rattle.listing.specs.Lines.{tag_text, used_text, refused_text}

abbrev pub newline : ℕ
newline = 10

abbrev pub content_of : List ℕ → List ℕ
content_of xs = drop (3 + count_of xs) xs

abbrev pub Listed : List ℕ → Result Tally Refusal → List ℕ → Type 0
Listed xs (Err f) text = text ≡ refused_text f.flaw.number f.place f.flaw.group ++ (newline ∷ [])
Listed xs (Ok t) text =
    (sets : List ℕ) × (text ≡ tag_text (count_of xs) (size_of xs) (slice_index xs 2) ++ (newline ∷ (sets ++ (used_text (length (content_of xs) - t.free) (length (content_of xs)) ++ (newline ∷ [])))))
