-- Each profile has a verdict.
use Rattle.std.proofs.Common.{ℕ, ◌<◌, inl, inr, refl, List, [], length, map, All, slice_index, Result, Ok, Err}
use Rattle.std.proofs.lemmas.List.Elements.{All-map}
use Rattle.lists.proofs.DeniedLemmas.{all_or_first_below}
use Rattle.rational.proofs.Field.{le_or_lt, le_trans}
use Rattle.frac128.specs.Steps.{Step, StepFits}
use Rattle.frac128.specs.FirstUnfit.{all_steps_fit}
use Rattle.frac128.proofs.FirstUnfitLemmas.{all_steps_fit-answered}
use Rattle.game_theory.specs.Behaviour.{Behaviour, payoff as payoff_on_tree}
use Rattle.game_theory.specs.Mixed.{Mixed, payoff}
use Rattle.game_theory.specs.OwnSets.{own_sets}
use Rattle.game_theory.specs.Profiles.{Game}
use Rattle.game_theory.specs.Recall.{AllRecall}
use Rattle.game_theory.specs.Trees.{Tree, IsTree}
use Rattle.game_theory.specs.FirstNodes.{AreNumberedByFirstNodes}
use Rattle.game_core.specs.Table.{game_of}
use Rattle.game_core.specs.Tree.{GameTree, IsGameTree}
use Rattle.game_core.specs.TreeGame.{game_of_tree}
use Rattle.best_replies.specs.Replies.{reply_value, AreBestChoices}
use Rattle.best_replies.specs.Strategies.{strategy_value}
use Rattle.best_replies.proofs.DecisionOrderLemmas.{best_choices-exist}
use Rattle.best_replies.proofs.FirstGreatestLemmas.{first_greatest-exists}
use Rattle.best_replies.proofs.SetOrderLemmas.{sets-ascend_on_paths}
use Rattle.verdicts.specs.AnsweredLaws.{TableVerdictsExist, TreeVerdictsExist}
use Rattle.verdicts.specs.TableChecks as tables
use Rattle.verdicts.specs.TreeSteps as tree_steps
use Rattle.verdicts.specs.TreeVerdicts as trees
use Rattle.verdicts.specs.declared.tables.TableVerdict.{TableVerdict}
use Rattle.verdicts.specs.declared.tables.TableVerdict.TheVariants as table_verdicts
use Rattle.verdicts.specs.declared.trees.TreeVerdict.{TreeVerdict}
use Rattle.verdicts.specs.declared.trees.TreeVerdict.TheVariants as tree_verdicts

-- ---- tables
-- where a player is the first of whom it does not hold that no strategy is better
module _ (g : Game) (m : Mixed) (i : ℕ) (is_player : i < length g.strategies) (some : 0 < slice_index g.strategies i) (earlier : (j : ℕ) → j < i → tables.PassesTable g m j) (fails : ¬ (tables.PassesTable g m i)) where
  -- a first best strategy is better, where the steps fit
  better-strategy : All StepFits (tables.table_player_steps g m i) → (verdict : TableVerdict) × tables.IsTableVerdict g m verdict
  better-strategy fit =
      let best = first_greatest-exists (slice_index g.strategies i) (strategy_value g m i) some in
      elim (le_or_lt (strategy_value g m i best.place) (payoff g m i)) [
        | inl no_more ↦ absurd (fails (record { fit = fit; no_more = λ s below. le_trans _ _ _ (best.is_first.greatest s below) no_more }))
        | inr more ↦ (
          table_verdicts.Better i (payoff g m i) (strategy_value g m i best.place) best.place,
          record {
            is_player = is_player;
            earlier = earlier;
            better = record { fit = fit; is_best = best.is_first; payoff_is = refl; best_is = refl; pays_more = more };
          },
        )
      ]

  -- what is told of the player
  told-strategy : (answer : Result (Unit {0}) Step) → all_steps_fit (tables.table_player_steps g m i) answer → (verdict : TableVerdict) × tables.IsTableVerdict g m verdict
  told-strategy (Ok _) fit = better-strategy fit
  told-strategy (Err step) first = (table_verdicts.Range step, record { player = i; is_player = is_player; earlier = earlier; first_unfit = first })

-- a mixed profile has a verdict
pub table_verdict-exists : (g : Game) (m : Mixed) → All (λ n. 0 < n) g.strategies → ¬ ¬ ((verdict : TableVerdict) × tables.IsTableVerdict g m verdict)
table_verdict-exists g m some none =
    all_or_first_below (tables.PassesTable g m) (length g.strategies) (λ found. elim found [
      | inl all ↦ none (table_verdicts.Equilibrium, all)
      | inr first ↦ all_steps_fit-answered (tables.table_player_steps g m first.0) (λ answer h. none (told-strategy g m first.0 first.1 (some first.0 0 first.1) first.3 first.2 answer h))
    ])

-- ---- trees
-- where a player is the first of whom it does not hold that no reply is better
module _ (t : Tree) (b : Behaviour) (i : ℕ) (within : i < t.players) (choice : ℕ → ℕ) (best : AreBestChoices t b i choice) (earlier : (j : ℕ) → j < i → trees.PassesTree t b j) (fails : ¬ (trees.PassesTree t b i)) where
  -- the best choices are better, where the steps fit
  better-reply : All StepFits (tree_steps.tree_player_steps t b i choice) → (verdict : TreeVerdict) × (reply : List ℕ) × trees.IsTreeVerdict t b verdict reply
  better-reply fit =
      elim (le_or_lt (reply_value t b i choice 0) (payoff_on_tree t b i)) [
        | inl no_more ↦ absurd (fails (record { choice = choice; is_best = best; fit = fit; no_more = no_more }))
        | inr more ↦ (
          tree_verdicts.Better i (payoff_on_tree t b i) (reply_value t b i choice 0),
          map choice (own_sets t i),
          record {
            within = within;
            earlier = earlier;
            choice = choice;
            is_best = best;
            fit = fit;
            payoff_is = refl;
            best_is = refl;
            more = more;
            reply_is = refl;
          },
        )
      ]

  -- what is told of the player
  told-reply : (answer : Result (Unit {0}) Step) → all_steps_fit (tree_steps.tree_player_steps t b i choice) answer → (verdict : TreeVerdict) × (reply : List ℕ) × trees.IsTreeVerdict t b verdict reply
  told-reply (Ok _) fit = better-reply fit
  told-reply (Err step) first = (tree_verdicts.Range step, [], (record { player = i; within = within; earlier = earlier; choice = choice; is_best = best; first = first }, refl))

-- behaviour has a verdict
pub tree_verdict-exists : (t : Tree) (b : Behaviour) → IsTree t → AreNumberedByFirstNodes t → AllRecall t → ¬ ¬ ((verdict : TreeVerdict) × (reply : List ℕ) × trees.IsTreeVerdict t b verdict reply)
tree_verdict-exists t b valid numbered recall none =
    all_or_first_below (trees.PassesTree t b) t.players (λ found. elim found [
      | inl all ↦ none (tree_verdicts.Equilibrium, [], (all, refl))
      | inr first ↦ by first.0 first.1 first.3 first.2 (best_choices-exist t b first.0 valid (sets-ascend_on_paths t first.0 valid (recall first.0 first.1) numbered))
    ])
  where
    by : (i : ℕ) → i < t.players → ((j : ℕ) → j < i → trees.PassesTree t b j) → ¬ (trees.PassesTree t b i) → (choice : ℕ → ℕ) × AreBestChoices t b i choice → ⊥
    by i within earlier fails best =
        all_steps_fit-answered (tree_steps.tree_player_steps t b i best.0) (λ answer h. none (told-reply t b i within best.0 best.1 earlier fails answer h))

-- ---- entries
-- the entries of a mixed profile have a verdict
pub table_verdicts-exist : TableVerdictsExist
table_verdicts-exist table m valid none =
    table_verdict-exists (game_of table) m (All-map (λ n. 0 < n) length table.strategies valid.some_strategy) (λ found. none found.0 (m, refl, found.1))

-- so have those of behaviour
pub tree_verdicts-exist : ((tree : GameTree) → IsGameTree tree → IsTree (game_of_tree tree)) → ((tree : GameTree) → IsGameTree tree → AreNumberedByFirstNodes (game_of_tree tree)) → TreeVerdictsExist
tree_verdicts-exist game numbered tree b valid recall none =
    tree_verdict-exists (game_of_tree tree) b (game tree valid) (numbered tree valid) recall (λ found. none (found.0, found.1) (b, refl, found.2))
