-- The values of choices one after another, and the steps in which they are computed.
use Rattle.std.proofs.Common.{ℕ, ◌+◌, ◌<◌, ◌≤◌, ◌≡◌, inl, inr, Some, Ok, Err, List, [], ◌∷◌, ◌++◌, take, slice_get, All, sym, ap, ◌∙◌, arith}
use Rattle.std.specs.List.{flat_map, range_with_len}
use Rattle.std.proofs.lemmas.List.{flat_map_more, take_all, take_more}
use Rattle.std.proofs.lemmas.List.Elements.{All-map}
use Rattle.std.proofs.lemmas.List.FromFn.{get_or-range_with_len, length-range_with_len}
use Rattle.std.proofs.lemmas.Option.{slice_get-get_or}
use Rattle.answers.specs.Answers.{Gives, refused_by}
use Rattle.frac128.specs.FirstUnfit.{StepsFit}
use Rattle.frac128.proofs.UnfitListLemmas.{first_of-map, first_of-part, parts_fit}
use Rattle.game_core.specs.Table.{most_payoffs}
use Rattle.game_theory.specs.Trees.{Tree}
use Rattle.pure_payoffs.specs.Stops.{all_values_fit, node_players}
use Rattle.rational.specs.Rational.{ℚ}
use Rattle.enumpure_trees.specs.Choices.{numbered_choice, whole_choices}
use Rattle.enumpure_trees.specs.PassingStops.{values_in}
use Rattle.enumpure_trees.specs.Told.{at_choice}
use Rattle.enumpure_trees.specs.Values.{ValueIndex, choice_values, indices_of, value_count, value_index, value_indices, value_steps, values_of}
use Rattle.enumpure_trees.specs.declared.stop.ChoiceStop.{ChoiceStop}
use Rattle.enumpure_trees.specs.declared.stop.ChoiceStop.TheVariants as stops

module _ (t : Tree) (nodes : List ℕ) where
  -- the numbers of the choices
  abbrev pub numbers : List ℕ
  numbers = range_with_len 0 (whole_choices t)

  -- the indices of the values of the first choices
  abbrev pub first_indices : ℕ → List ValueIndex
  first_indices n = flat_map (indices_of t nodes) (take n numbers)

  -- and these values
  abbrev pub first_values : ℕ → List ℚ
  first_values n = flat_map (values_of t nodes) (take n numbers)

  module _ (n : ℕ) (l : n < whole_choices t) where
    -- a number stands in its own place
    at : slice_get numbers n ≡ Some n
    at = slice_get-get_or numbers n 0 (omega (arith, l, length-range_with_len 0 (whole_choices t))) ∙ ap Some (omega (arith, get_or-range_with_len 0 (whole_choices t) n 0 l))

    -- one choice more
    one_more : take (n + 1) numbers ≡ take n numbers ++ n ∷ []
    one_more = take_more numbers n 0 (omega (arith, l, length-range_with_len 0 (whole_choices t))) ∙ ap (λ k. take n numbers ++ k ∷ []) (omega (arith, get_or-range_with_len 0 (whole_choices t) n 0 l))

    -- its values
    pub values-push : (now new : List ℚ) → now ≡ first_values n → new ≡ now ++ values_of t nodes n → new ≡ first_values (n + 1)
    values-push now new before more =
        more ∙ ap (λ v. v ++ values_of t nodes n) before ∙ flat_map_more (values_of t nodes) [] (take n numbers) n ∙ ap (flat_map (values_of t nodes)) (sym one_more)

    module _ (fit : All (StepsFit (value_steps t)) (first_indices n)) where
      -- the steps of one choice more fit
      pub choice_fits : all_values_fit t (numbered_choice t n) nodes (Ok tt) → All (StepsFit (value_steps t)) (first_indices (n + 1))
      choice_fits h =
          parts_fit (value_steps t) (indices_of t nodes) numbers n n at fit (All-map (StepsFit (value_steps t)) (value_index n) (node_players t nodes) h)

      -- or the first that does not is the first of all
      pub choice_stops : (reason : ChoiceStop) → (most_payoffs < value_count t nodes → ⊥) → Gives stops.Memory (refused_by (at_choice n) (all_values_fit t (numbered_choice t n) nodes)) (Err reason) → Gives stops.Memory (values_in t nodes) (Err reason)
      choice_stops reason within (inl m) = inl m
      choice_stops reason within (inr (stop, (pair, first, told), is)) =
          let here = first_of-map (value_steps t) (value_index n) (node_players t nodes) pair.0 pair.1 first in
          inr (inr (tt, within, ((value_index n pair.0, pair.1), first_of-part (value_steps t) (indices_of t nodes) numbers n n at (value_index n pair.0) pair.1 fit here, is ∙ ap (at_choice n) told)))

  -- those of all choices
  numbers-all : (n : ℕ) → whole_choices t ≤ n → take n numbers ≡ numbers
  numbers-all n l = take_all n numbers (omega (arith, l, length-range_with_len 0 (whole_choices t)))

  pub first_indices-all : (n : ℕ) → whole_choices t ≤ n → first_indices n ≡ value_indices t nodes
  first_indices-all n l = ap (flat_map (indices_of t nodes)) (numbers-all n l)

  pub first_values-all : (n : ℕ) → whole_choices t ≤ n → first_values n ≡ choice_values t nodes
  first_values-all n l = ap (flat_map (values_of t nodes)) (numbers-all n l)
