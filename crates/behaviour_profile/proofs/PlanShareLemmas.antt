-- The shares of a set are the entries of the plan's behaviour there.
use Rattle.std.proofs.Common.{ℕ, ◌+◌, ◌-◌, ◌<◌, ◌≤◌, ◌≡◌, Some, List, All, length, map, get_or, sym, ap, ◌∙◌, subst₂, arith}
use Rattle.std.specs.List.{range_with_len}
use Rattle.std.proofs.lemmas.List.{get_or-map, length-map}
use Rattle.std.proofs.lemmas.List.Elements.{All-map}
use Rattle.rational.specs.Rational.{ℚ}
use Rattle.game_theory.specs.Lines.{listed}
use Rattle.game_theory.specs.Trees.{Tree, IsTree}
use Rattle.game_theory.specs.OwnSets.{own_sets}
use Rattle.sequence_forms.specs.PlanBehaviour.{behaviour_of, share}
use Rattle.sequence_forms.specs.Sequences.{sequence, sequence_before, side_of}
use Rattle.sequence_forms.specs.Sides.{sequences}
use Rattle.sequence_forms.proofs.PlanBehaviourLemmas.{behaviour-at}
use Rattle.sequence_forms.proofs.SequenceLemmas.{own_set-is, sequence-below, side_of-is}
use Rattle.frac128.specs.Steps.{Step}
use Rattle.frac128.specs.FirstUnfit.{StepsFit, IsFirstUnfitOf}
use Rattle.sequence_data.specs.Data.{SideData}
use Rattle.rational.specs.Sum.{entry_at}
use Rattle.sequence_data.specs.declared.types.SetRow.{SetRow}
use Rattle.sequence_form.specs.Sequences.{own_set_row, tree_side}
use Rattle.behaviour_profile.specs.Plans.{OwnAction, actions_at, quotient_steps, share_steps}
use Rattle.behaviour_profile.specs.Shares.{actions_of, share_at, steps_at}
use Rattle.frac128.proofs.UnfitListLemmas.{first_of-map}

module _ (t : Tree) (i place : ℕ) (rows : List SetRow) (side : SideData) (rows_are : rows ≡ side.sets) (side_is : side ≡ tree_side t i) (l : place < length rows) where
  of_own_sets : rows ≡ map (own_set_row t i) (own_sets t i)
  of_own_sets = rows_are ∙ ap (λ (s : SideData). s.sets) side_is

  -- a place among the rows is one among the own sets
  pub own_within : place < length (own_sets t i)
  own_within = omega (arith, l, ap (λ (rs : List SetRow). length rs) of_own_sets, length-map (own_sets t i) (own_set_row t i))

  -- the row there is that of the own set
  pub row_is : (d : SetRow) → get_or rows place d ≡ own_set_row t i (get_or (own_sets t i) place 0)
  row_is d = ap (λ (rs : List SetRow). get_or rs place d) of_own_sets ∙ get_or-map (own_set_row t i) (own_sets t i) place 0 d own_within

  sequences_are : sequences (side_of t i) ≡ side.sequences
  sequences_are = sym (ap (λ (s : SideData). s.sequences) side_is)

  -- the sequence before the set is one of the player's
  pub before_within : (d : SetRow) → IsTree t → (get_or rows place d).before < side.sequences
  before_within d w = subst₂ (λ (r : SetRow) (n : ℕ). r.before < n) (sym (row_is d)) sequences_are (side_of-is t i w place own_within)

  -- and so are those of its actions
  pub after_within : (d : SetRow) → IsTree t → (get_or rows place d).first + (get_or rows place d).count ≤ side.sequences
  after_within d w =
      let s : ℕ = get_or (own_sets t i) place 0 in
      let own = own_set-is t i place own_within in
      let some = w.some_action s own.0 in
      let last = sequence-below t i s (t.actions s - 1) own.0 own.1 (omega (arith, some)) in
      subst₂ (λ (r : SetRow) (n : ℕ). r.first + r.count ≤ n) (sym (row_is d)) sequences_are (omega (arith, some, last))

module _ (t : Tree) (i s : ℕ) (row : SetRow) (weights : List ℚ) (plans : ℕ → ℕ → ℚ) (is : row ≡ own_set_row t i s) (plan : plans i ≡ entry_at weights) (own : t.owner s ≡ Some i) where
  -- the weights are the plan's
  before_is : entry_at weights row.before ≡ plans i (sequence_before t i s)
  before_is = ap (λ (x : ℕ → ℚ). x row.before) (sym plan) ∙ ap (λ (r : SetRow). plans i r.before) is

  after_is : (a : ℕ) → entry_at weights (row.first + a) ≡ plans i (sequence t i (Some (s, a)))
  after_is a =
      let e : sequence t i (Some (s, 0)) + a ≡ sequence t i (Some (s, a)) = omega arith in
      ap (λ (x : ℕ → ℚ). x (row.first + a)) (sym plan) ∙ ap (λ (r : SetRow). plans i (r.first + a)) is ∙ ap (plans i) e

  count_is : row.count ≡ t.actions s
  count_is = ap (λ (r : SetRow). r.count) is

  abbrev on_action : ℕ → OwnAction
  on_action a = record { player = i; set = s; action = a }

  -- and the steps of the shares are its quotients
  steps_are : steps_at weights row ≡ (λ a. quotient_steps t plans (on_action a))
  steps_are = λ j a. share_steps (before_is j) (after_is a j)

  share_is : (a : ℕ) → share_at weights row a ≡ behaviour_of t plans s a
  share_is a = (λ j. share (count_is j) (before_is j) (after_is a j)) ∙ sym (behaviour-at t plans i s a own)

  -- the shares are the entries at the set
  pub shares_are : listed row.count (share_at weights row) ≡ listed (t.actions s) (behaviour_of t plans s)
  shares_are = λ j. listed (count_is j) (λ a. share_is a j)

  -- all quotients at the set fit
  pub quotients_fit : All (StepsFit (steps_at weights row)) (actions_of row) → All (StepsFit (quotient_steps t plans)) (actions_at t i s)
  quotients_fit h = All-map (StepsFit (quotient_steps t plans)) on_action (range_with_len 0 (t.actions s)) (subst₂ (λ (f : ℕ → List Step) (n : ℕ). All (StepsFit f) (range_with_len 0 n)) steps_are count_is h)

  -- or one is the first that does not
  pub first_quotient : (a : ℕ) (step : Step) → IsFirstUnfitOf (steps_at weights row) (actions_of row) a step → IsFirstUnfitOf (quotient_steps t plans) (actions_at t i s) (on_action a) step
  first_quotient a step h = first_of-map (quotient_steps t plans) on_action (range_with_len 0 (t.actions s)) a step (subst₂ (λ (f : ℕ → List Step) (n : ℕ). IsFirstUnfitOf f (range_with_len 0 n) a step) steps_are count_is h)
