-- What nodes one after another are worth, and the steps in which that is computed.
use Rattle.std.proofs.Common.{ℕ, ◌+◌, ◌≡◌, inl, inr, Some, Ok, Err, List, [], ◌∷◌, ◌++◌, map, take, slice_get, All, sym, ap, ◌∙◌}
use Rattle.std.specs.List.{range_with_len}
use Rattle.std.proofs.lemmas.List.{flat_map_more, take_more}
use Rattle.std.proofs.lemmas.List.Elements.{All-map}
use Rattle.std.proofs.lemmas.Option.{slice_get_within, get_or_from_slice_get}
use Rattle.answers.specs.Answers.{Gives, refused_by}
use Rattle.rational.specs.Rational.{ℚ}
use Rattle.frac128.specs.FirstUnfit.{StepsFit}
use Rattle.frac128.proofs.UnfitListLemmas.{first_of-map, parts_fit, first_of-part}
use Rattle.game_theory.specs.Behaviour.{pure, value}
use Rattle.game_theory.specs.Lines.{listed}
use Rattle.game_theory.specs.Trees.{Tree}
use Rattle.pure_payoffs.specs.Stops.{all_values_fit, at_node, node_players, node_values, steps_of, values_fit}
use Rattle.pure_payoffs.specs.declared.stop.ValueStop.{ValueStop}
use Rattle.pure_payoffs.specs.declared.stop.ValueStop.TheVariants as value_stops

module _ (t : Tree) (choice : ℕ → ℕ) (nodes : List ℕ) (k node : ℕ) (at : slice_get nodes k ≡ Some node) where
  -- what a node is worth to the players
  abbrev row : ℕ → List ℚ
  row c = listed t.players (λ i. value t (pure choice) i c)

  -- the node and each player
  abbrev pairs : ℕ → List (ℕ × ℕ)
  pairs c = map (λ i. (c, i)) (range_with_len 0 t.players)

  -- the nodes so far and this one
  one_more : take (k + 1) nodes ≡ take k nodes ++ node ∷ []
  one_more = take_more nodes k 0 (slice_get_within nodes k node at) ∙ ap (λ x. take k nodes ++ x ∷ []) (get_or_from_slice_get nodes k node 0 at)

  -- what one node more is worth
  pub node_values-push : (old now new : List ℚ) → now ≡ old ++ node_values t choice (take k nodes) → new ≡ now ++ row node → new ≡ old ++ node_values t choice (take (k + 1) nodes)
  node_values-push old now new before more =
      more ∙ ap (λ v. v ++ row node) before ∙ flat_map_more row old (take k nodes) node ∙ ap (λ v. old ++ node_values t choice v) (sym one_more)

  module _ (fit : All (StepsFit (steps_of t choice)) (node_players t (take k nodes))) where
    -- the steps of one node more fit
    pub node_fits : values_fit t choice node (Ok tt) → All (StepsFit (steps_of t choice)) (node_players t (take (k + 1) nodes))
    node_fits h = parts_fit (steps_of t choice) pairs nodes k node at fit (All-map (StepsFit (steps_of t choice)) (λ i. (node, i)) (range_with_len 0 t.players) h)

    -- or the first that does not is the first of all
    pub node_stops : (told : ValueStop) → Gives value_stops.Memory (refused_by (at_node node) (values_fit t choice node)) (Err told) → Gives value_stops.Memory (all_values_fit t choice nodes) (Err told)
    node_stops told (inl m) = inl m
    node_stops told (inr (stop, ((i, step), first, why), is)) =
        inr (((node, i), step), first_of-part (steps_of t choice) pairs nodes k node at (node, i) step fit (first_of-map (steps_of t choice) (λ j. (node, j)) (range_with_len 0 t.players) i step first), is ∙ ap (at_node node) why)
