-- The cells of a reduced form in the order in which they are computed.
use Rattle.std.proofs.Common.{ℕ, ◌⊎◌, refl, ◌+◌, ◌-◌, ◌*◌, ◌<◌, ◌≤◌, ◌≡◌, inl, inr, Some, Ok, Err, List, ◌++◌, length, map, take, get_or, slice_get, All, sym, ap, ◌∙◌, subst, arith}
use Rattle.std.specs.List.{flat_map, range_with_len}
use Rattle.std.proofs.lemmas.Bool.{cases_lt}
use Rattle.std.proofs.lemmas.List.{get_or_append_left, get_or-append_right, length-append, take_all}
use Rattle.std.proofs.lemmas.List.Elements.{All-map}
use Rattle.std.proofs.lemmas.List.FromFn.{get_or-range_with_len, length-range_with_len}
use Rattle.std.proofs.lemmas.Option.{slice_get-get_or}
use Rattle.answers.specs.Answers.{Answer, Gives, refused_by}
use Rattle.lists.proofs.NumberLemmas.{place-tells}
use Rattle.rational.specs.Rational.{ℚ, zero_ℚ}
use Rattle.game_theory.specs.Lines.{listed}
use Rattle.game_theory.proofs.ProfileLineLemmas.{get_or-listed, length-listed}
use Rattle.game_theory.specs.Profiles.{profile_at, profile_count}
use Rattle.game_theory.specs.Trees.{Tree}
use Rattle.reduced_strategies.specs.StrategicForm.{completed, strategic_form}
use Rattle.pure_payoffs.specs.Stops.{payoffs_fit}
use Rattle.frac128.specs.Steps.{Step}
use Rattle.frac128.specs.FirstUnfit.{StepsFit}
use Rattle.frac128.proofs.UnfitListLemmas.{first_of-map, parts_fit, first_of-part}
use Rattle.reduced_form.specs.Cells.{AreCells, at_profile}
use Rattle.reduced_form.specs.Limits.{CellIndex, cell_steps, cells}
use Rattle.reduced_form.specs.Stops.{cells_in}
use Rattle.reduced_form.specs.declared.stop.ReduceStop.{ReduceStop}
use Rattle.reduced_form.specs.declared.stop.ReduceStop.TheVariants as stops

-- the steps of the cells of the profile with number k all fit; or the first that does not
abbrev pub profile_cells_in : Tree → List (List (List ℕ)) → ℕ → Answer ReduceStop (Unit {0})
profile_cells_in t strategies k =
    refused_by (at_profile k)
    (payoffs_fit t (completed t strategies (profile_at (map length strategies) k)))

module _ (t : Tree) (strategies : List (List (List ℕ))) where
  -- the cells of one more profile
  pub cells-more : (payoffs new : List ℚ) (k : ℕ) → length payoffs ≡ k * t.players → new ≡ payoffs ++ listed t.players (λ i. (strategic_form t strategies).pays i k) → AreCells t strategies payoffs → AreCells t strategies new
  cells-more payoffs new k long new_is cells = subst (AreCells t strategies) (sym new_is) (λ m j l below. go m j l below (cases_lt (m * t.players + j) (length payoffs)))
    where
      row : List ℚ
      row = listed t.players (λ i. (strategic_form t strategies).pays i k)

      go : (m j : ℕ) → j < t.players → m * t.players + j < length (payoffs ++ row) → (m * t.players + j < length payoffs) ⊎ (length payoffs ≤ m * t.players + j) → get_or (payoffs ++ row) (m * t.players + j) zero_ℚ ≡ (strategic_form t strategies).pays j m
      go m j l below (inl earlier) = get_or_append_left payoffs row zero_ℚ (m * t.players + j) earlier ∙ cells m j l earlier
      go m j l below (inr later) =
          let place : ℕ = m * t.players + j - length payoffs in
          let inside : place < t.players = omega (arith, below, later, length-append payoffs row, length-listed t.players (λ i. (strategic_form t strategies).pays i k)) in
          let same = place-tells t.players k place m j inside l (omega (arith, long, later)) in
          get_or-append_right payoffs row (length payoffs) (m * t.players + j) zero_ℚ refl later ∙ get_or-listed t.players (λ i. (strategic_form t strategies).pays i k) place zero_ℚ inside
          ∙ ap (λ x. (strategic_form t strategies).pays x k) same.1 ∙ ap ((strategic_form t strategies).pays j) same.0

  -- ---- the steps
  abbrev numbers : List ℕ
  numbers = range_with_len 0 (profile_count (map length strategies))

  abbrev steps : CellIndex → List Step
  steps cell = cell_steps t strategies cell.0 cell.1

  -- the cells of one profile
  abbrev row : ℕ → List CellIndex
  row k = map (λ i. (k, i)) (range_with_len 0 t.players)

  -- the steps of the cells of the first profiles fit
  abbrev pub FirstFit : ℕ → Type 0
  FirstFit k = All (StepsFit steps) (flat_map row (take k numbers))

  module _ (k : ℕ) (l : k < profile_count (map length strategies)) (fit : FirstFit k) where
    at : slice_get numbers k ≡ Some k
    at = slice_get-get_or numbers k 0 (omega (arith, l, length-range_with_len 0 (profile_count (map length strategies)))) ∙ ap Some (omega (arith, get_or-range_with_len 0 (profile_count (map length strategies)) k 0 l))

    -- and those of one more
    pub profile_fits : profile_cells_in t strategies k (Ok tt) → FirstFit (k + 1)
    profile_fits h = parts_fit steps row numbers k k at fit (All-map (StepsFit steps) (λ i. (k, i)) (range_with_len 0 t.players) h)

    -- or the first that does not is the first of all
    pub profile_stops : (stop : ReduceStop) → Gives stops.Memory (profile_cells_in t strategies k) (Err stop) → Gives stops.Memory (cells_in t strategies) (Err stop)
    profile_stops stop (inl m) = inl m
    profile_stops stop (inr (of_profile, ((i, step), first, told), is)) =
        inr (((k, i), step), first_of-part steps row numbers k k at (k, i) step fit (first_of-map steps (λ j. (k, j)) (range_with_len 0 t.players) i step first), is ∙ ap (at_profile k) told)

  -- the steps of all cells fit
  pub all_fit : (k : ℕ) → profile_count (map length strategies) ≤ k → FirstFit k → cells_in t strategies (Ok tt)
  all_fit k l fit = subst (λ ks. All (StepsFit steps) (flat_map row ks)) (take_all k numbers (omega (arith, l, length-range_with_len 0 (profile_count (map length strategies))))) fit
