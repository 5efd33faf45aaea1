-- The rows of a format, by what it finds.
use Rattle.std.proofs.Common.{◌≡◌, ℕ, ◌<◌, true, false, [], ◌∷◌, Some, None, Option, sym, ap, ◌∙◌, ⊎_elim, arith}
use Rattle.std.proofs.lemmas.Bool.{not-false}
use Rattle.tags.specs.Tags.{Tag, in_limits}
use Rattle.tags.specs.declared.shapes.Shape.{Shape}
use Rattle.drivers.specs.Questions.{shut}
use Rattle.sets.specs.Scans.{Refusal}
use Rattle.sets.proofs.Searching.{lowest_cases}
use Rattle.calls.specs.Rows.{first, shape_row, system_row}
use Rattle.calls.specs.Openings.{locked_row, lowest_locked, format_rows}
use Rattle.calls.proofs.Firsts.{first_on, first_stays, first_one, row_fails}

-- with the shape as the driver told it
module _ (t : Tag) (byte : ℕ) (s : Shape) (is : (s.count ≡ t.count) × (s.size ≡ t.size)) where
  shape-is : first (shape_row t.count t.size ∷ []) ≡ first (shape_row s.count s.size ∷ [])
  shape-is = λ i. first (shape_row (sym is.0 i) (sym is.1 i) ∷ [])

  pub by_shape : (f : Refusal) → first (shape_row s.count s.size ∷ []) ≡ Some f → first (format_rows t byte) ≡ Some f
  unfolding format_rows
  by_shape f e = first_stays (shape_row t.count t.size ∷ []) (system_row byte ∷ locked_row (lowest_locked t) ∷ []) f (shape-is ∙ e)

  module _ (a : first (shape_row s.count s.size ∷ []) ≡ None) where
    pub limits : in_limits s.count s.size ≡ true
    limits = not-false _ (row_fails 2 0 _ (sym (first_one (shape_row s.count s.size)) ∙ a))

    pub by_system : (f : Refusal) → first (system_row byte ∷ []) ≡ Some f → first (format_rows t byte) ≡ Some f
    unfolding format_rows
    by_system f e =
        first_on (shape_row t.count t.size ∷ []) (system_row byte ∷ locked_row (lowest_locked t) ∷ []) (shape-is ∙ a)
        ∙ first_stays (system_row byte ∷ []) (locked_row (lowest_locked t) ∷ []) f e

    pub by_lock : first (system_row byte ∷ []) ≡ None → (o : Option ℕ) → o ≡ lowest_locked t → first (format_rows t byte) ≡ locked_row o
    unfolding format_rows
    by_lock b o e =
        first_on (shape_row t.count t.size ∷ []) (system_row byte ∷ locked_row (lowest_locked t) ∷ []) (shape-is ∙ a)
        ∙ first_on (system_row byte ∷ []) (locked_row (lowest_locked t) ∷ []) b
        ∙ first_one (locked_row (lowest_locked t))
        ∙ ap locked_row (sym e)

-- then no block is locked
pub all_open : (t : Tag) → None ≡ lowest_locked t → (k : ℕ) → k < t.count → shut t k ≡ false
all_open t e = ⊎_elim (λ h. h.1) (λ h. absurd (let f = h.1 in let q : ◌≡◌ {A = Option ℕ} None (Some h.0) = e ∙ f in let z : ◌≡◌ {A = ℕ} 0 1 = cc in omega arith)) (lowest_cases (shut t) t.count)
