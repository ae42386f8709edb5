-- A tree and entries have one verdict and one reply.
use Rattle.std.proofs.Common.{ℕ, ◌<◌, ◌≡◌, inl, inr, Some, List, All, map, refl, sym, ap, ◌∙◌, subst, arith}
use Rattle.std.proofs.lemmas.Bool.{cases_lt}
use Rattle.rational.specs.Rational.{ℚ, ◌≤ℚ◌, ◌<ℚ◌}
use Rattle.rational.proofs.Field.{not_le_of_lt}
use Rattle.game_theory.specs.Trees.{Tree, IsTree}
use Rattle.game_theory.specs.Behaviour.{Behaviour, payoff}
use Rattle.game_theory.specs.FirstNodes.{AreNumberedByFirstNodes}
use Rattle.game_theory.specs.OwnSets.{own_sets}
use Rattle.game_theory.specs.Recall.{HasPerfectRecall}
use Rattle.game_theory.proofs.OwnSetLemmas.{map-among, own_sets-tell}
use Rattle.game_core.specs.Tree.{GameTree, IsGameTree as is_valid_tree}
use Rattle.game_core.specs.TreeGame.{game_of_tree}
use Rattle.best_replies.specs.Replies.{reply_value, AreBestChoices}
use Rattle.best_replies.proofs.DecisionOrderLemmas.{best_choices-unique}
use Rattle.best_replies.proofs.SetOrderLemmas.{sets-ascend_on_paths}
use Rattle.frac128.specs.Steps.{Step, StepFits, IsFirstUnfit}
use Rattle.frac128.proofs.FirstUnfitLemmas.{unfit_once, unfit_among}
use Rattle.verdicts.specs.declared.trees.TreeVerdict.{TreeVerdict}
use Rattle.verdicts.specs.declared.trees.TreeVerdict.TheVariants.{Equilibrium, Better, Range}
use Rattle.verdicts.specs.TreeSteps.{tree_player_steps}
use Rattle.verdicts.specs.TreeVerdicts.{PassesTree, IsBetter, IsOutOfRange, IsTreeVerdict}
use Rattle.verdicts.specs.TreeVerdictLaws.{TreeVerdictsAreSingle}
use Rattle.verdicts.proofs.AlikeChoiceLemmas.{values-alike, steps-alike}
use Rattle.verdicts.proofs.AlikeVerdictLemmas.{verdict-alike}
use Rattle.verdicts.proofs.SameEntryLemmas.{entries-alike}

module _ (t : Tree) (b : Behaviour) (w : IsTree t) (numbered : AreNumberedByFirstNodes t) (recall : (i : ℕ) → i < t.players → HasPerfectRecall t i) where
  -- ---- one player's best choices
  module _ (i : ℕ) (l : i < t.players) (choice other : ℕ → ℕ) (best : AreBestChoices t b i choice) (best' : AreBestChoices t b i other) where
    same : (s : ℕ) → s < t.sets → t.owner s ≡ Some i → choice s ≡ other s
    same = best_choices-unique t b i choice other w (sets-ascend_on_paths t i w (recall i l) numbered) best best'

    worth-same : reply_value t b i choice 0 ≡ reply_value t b i other 0
    worth-same = values-alike t b b i choice other w (λ s j a m o n. refl) (λ s m o. (best s m o).within) same 0 w.some_node

    steps-same : tree_player_steps t b i choice ≡ tree_player_steps t b i other
    steps-same = steps-alike t b b i choice other w (λ s j a m o n. refl) (λ s m o. (best s m o).within) same

    reply-same : map choice (own_sets t i) ≡ map other (own_sets t i)
    reply-same = map-among choice other (own_sets t i) (λ s among. let own = own_sets-tell t i s among in same s own.0 own.1)

  -- ---- what excludes what
  -- a player with better choices is not one without
  better-excludes : (p : ℕ) (now best : ℚ) (reply : List ℕ) → IsBetter t b p now best reply → PassesTree t b p → ⊥
  better-excludes p now best reply h g =
      not_le_of_lt _ _ (subst (λ x. x <ℚ best) h.payoff_is h.more) (subst (λ x. x ≤ℚ payoff t b p) (worth-same p h.within g.choice h.choice g.is_best h.is_best ∙ sym h.best_is) g.no_more)

  -- nor is one with a step that does not fit
  out-excludes : (step : Step) (h : IsOutOfRange t b step) → (choice : ℕ → ℕ) → AreBestChoices t b h.player choice → All StepFits (tree_player_steps t b h.player choice) → ⊥
  out-excludes step h choice best fit =
      unfit_among _ step h.first (subst (All StepFits) (steps-same h.player h.within choice h.choice best h.is_best) fit)

  -- the first player of one kind is the first of another
  first-same : (p q : ℕ) → ((j : ℕ) → j < p → PassesTree t b j) → ((j : ℕ) → j < q → PassesTree t b j) → (PassesTree t b p → ⊥) → (PassesTree t b q → ⊥) → p ≡ q
  first-same p q h g no_p no_q = elim (cases_lt p q) [
    | inl before ↦ absurd (no_p (g p before))
    | inr later ↦ elim (cases_lt q p) [ inl before ↦ absurd (no_q (h q before)) | inr sooner ↦ omega arith ]
  ]

  out-not : (step : Step) (h : IsOutOfRange t b step) → PassesTree t b h.player → ⊥
  out-not step h g = out-excludes step h g.choice g.is_best g.fit

  -- ---- two verdicts
  one-better : (p q : ℕ) (now best now' best' : ℚ) (reply reply' : List ℕ) → IsBetter t b p now best reply → IsBetter t b q now' best' reply' → (Better p now best ≡ Better q now' best') × (reply ≡ reply')
  one-better p q now best now' best' reply reply' h g =
      let players : p ≡ q = first-same p q h.earlier g.earlier (better-excludes p now best reply h) (better-excludes q now' best' reply' g) in
      let k : IsBetter t b p now' best' reply' = subst (λ x. IsBetter t b x now' best' reply') (sym players) g in
      let nows : now ≡ now' = h.payoff_is ∙ sym k.payoff_is in
      let bests : best ≡ best' = h.best_is ∙ worth-same p h.within h.choice k.choice h.is_best k.is_best ∙ sym k.best_is in
      (λ j. Better (players j) (nows j) (bests j), h.reply_is ∙ reply-same p h.within h.choice k.choice h.is_best k.is_best ∙ sym k.reply_is)

  better-or_out : (p : ℕ) (now best : ℚ) (reply : List ℕ) (step : Step) → IsBetter t b p now best reply → IsOutOfRange t b step → ⊥
  better-or_out p now best reply step h g =
      let players : p ≡ g.player = first-same p g.player h.earlier g.earlier (better-excludes p now best reply h) (out-not step g) in
      let k : IsBetter t b g.player now best reply = subst (λ x. IsBetter t b x now best reply) players h in
      out-excludes step g k.choice k.is_best k.fit

  one-out : (step step' : Step) → IsOutOfRange t b step → IsOutOfRange t b step' → step ≡ step'
  one-out step step' h g =
      let players : g.player ≡ h.player = first-same g.player h.player g.earlier h.earlier (out-not step' g) (out-not step h) in
      let best : AreBestChoices t b h.player g.choice = subst (λ x. AreBestChoices t b x g.choice) players g.is_best in
      let first : IsFirstUnfit (tree_player_steps t b h.player g.choice) step' = subst (λ x. IsFirstUnfit (tree_player_steps t b x g.choice) step') players g.first in
      unfit_once _ step step' (subst (λ steps. IsFirstUnfit steps step) (steps-same h.player h.within h.choice g.choice h.is_best best) h.first) first

  pub verdicts-same : (v u : TreeVerdict) (reply reply' : List ℕ) → IsTreeVerdict t b v reply → IsTreeVerdict t b u reply' → (v ≡ u) × (reply ≡ reply')
  verdicts-same Equilibrium Equilibrium reply reply' h g = (refl, h.1 ∙ sym g.1)
  verdicts-same Equilibrium (Better q now best) reply reply' h g = absurd (better-excludes q now best reply' g (h.0 q g.within))
  verdicts-same Equilibrium (Range step) reply reply' h g = absurd (out-not step g.0 (h.0 g.0.player g.0.within))
  verdicts-same (Better p now best) Equilibrium reply reply' h g = absurd (better-excludes p now best reply h (g.0 p h.within))
  verdicts-same (Better p now best) (Better q now' best') reply reply' h g = one-better p q now best now' best' reply reply' h g
  verdicts-same (Better p now best) (Range step) reply reply' h g = absurd (better-or_out p now best reply step h g.0)
  verdicts-same (Range step) Equilibrium reply reply' h g = absurd (out-not step h.0 (g.0 h.0.player h.0.within))
  verdicts-same (Range step) (Better q now best) reply reply' h g = absurd (better-or_out q now best reply' step g h.0)
  verdicts-same (Range step) (Range step') reply reply' h g = (ap Range (one-out step step' h.0 g.0), h.1 ∙ sym g.1)

-- the law of single verdicts, where trees stand for game trees whose sets are numbered by their first nodes
pub verdicts-single : ((tree : GameTree) → is_valid_tree tree → IsTree (game_of_tree tree)) → ((tree : GameTree) → is_valid_tree tree → AreNumberedByFirstNodes (game_of_tree tree)) → TreeVerdictsAreSingle
verdicts-single game numbered tree entries v u reply reply' valid recall h g =
    let t = game_of_tree tree in
    let w = game tree valid in
    verdicts-same t h.0 w (numbered tree valid) recall v u reply reply' h.2 (verdict-alike t g.0 h.0 w (entries-alike t g.0 h.0 w (sym g.1 ∙ h.1)) u reply' g.2)
