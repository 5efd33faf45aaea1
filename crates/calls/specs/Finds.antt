-- Sets by their identifiers.
use Rattle.std.specs.Prelude.{ℕ, ◌+◌, Bool, not, List, [], length, drop, is_some, Some, None, Option, slice_index_or}
use Rattle.std.specs.Str.{bytes_eq}
use Rattle.sets.specs.Sets.{bare}
use Rattle.sets.specs.Scans.{Found}
use Rattle.sets.specs.Readings.{lowest, identified}
use Rattle.scan.specs.declared.views.SetRecord.{SetRecord}
use Rattle.scan.specs.Identifiers.{is_proper}
use Rattle.scan.specs.Views.{content_in}
use Rattle.calls.specs.declared.finds.Hit.{Hit}
use Rattle.calls.specs.Rows.{Row, row}

-- row 19: no identifier of this content can stand
abbrev pub identifier_row : List ℕ → Row
identifier_row c = row 19 0 (not (is_proper c))

-- the set at an index, one of nothing past the last
abbrev pub set_in : List Found → ℕ → Found
set_in fs i = slice_index_or fs i (record { at = 0; set = record { extra = 0; name = bare 0; code = 0; object = [] } })

-- the index of the first set that an identifier names
abbrev pub place_in : List ℕ → List Found → Option ℕ
place_in c fs = lowest (λ i. bytes_eq (identified (set_in fs i)) c) (length fs)

-- the index of the first, and whether another stands behind it
abbrev pub hit : Option ℕ → (ℕ → Bool) → Option Hit
hit None behind = None
hit (Some i) behind = Some (record { index = i; again = behind i })

abbrev pub hit_in : List ℕ → List Found → Option Hit
hit_in c fs = hit (place_in c fs) (λ i. is_some (place_in c (drop (i + 1) fs)))

-- the same by records, whatever they say of the image xs
abbrev pub record_in : List SetRecord → ℕ → SetRecord
record_in rs i = slice_index_or rs i (record { number = 0; id_at = 0; id_len = 0; object_at = 0; object_len = 0; at = 0; size = 0; code = 0 })

abbrev pub place_among : List ℕ → List ℕ → List SetRecord → Option ℕ
place_among xs c rs = lowest (λ i. bytes_eq (content_in xs (record_in rs i)) c) (length rs)

abbrev pub hit_among : List ℕ → List ℕ → List SetRecord → Option Hit
hit_among xs c rs = hit (place_among xs c rs) (λ i. is_some (place_among xs c (drop (i + 1) rs)))
