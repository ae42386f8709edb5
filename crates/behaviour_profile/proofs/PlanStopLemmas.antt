-- The behaviour of two plans, player by player, and what stops it.
use Rattle.std.proofs.Common.{ℕ, ◌+◌, ◌<◌, ◌≤◌, ◌≡◌, inl, inr, Ok, Err, Some, List, [], ◌++◌, All, length, get_or, slice_get, take, sym, ap, ◌∙◌, subst}
use Rattle.std.specs.List.{flat_map}
use Rattle.std.proofs.lemmas.Grind.{flat_map-append}
use Rattle.std.proofs.lemmas.List.{append-nil, take_all}
use Rattle.std.proofs.lemmas.Option.{slice_get-get_or}
use Rattle.answers.specs.Answers.{◌>>◌, Gives, IsSingle, only}
use Rattle.answers.proofs.AnswerLemmas.{bind-single, gives_bind, gives_first, only-single, refused_by-single}
use Rattle.rational.specs.Rational.{ℚ}
use Rattle.game_theory.specs.Lines.{listed}
use Rattle.game_theory.specs.Trees.{Tree}
use Rattle.game_theory.specs.OwnSets.{own_sets}
use Rattle.game_theory.specs.TreeEntries.{entries_at, tree_entries}
use Rattle.sequence_forms.specs.PlanBehaviour.{behaviour_of}
use Rattle.sequence_forms.proofs.SequenceLemmas.{own_set-is}
use Rattle.game_core.specs.Tree.{GameTree, label_of}
use Rattle.game_core.specs.TreeGame.{game_of_tree}
use Rattle.frac128.specs.FirstUnfit.{StepsFit}
use Rattle.frac128.proofs.FirstUnfitLemmas.{all_fit-single}
use Rattle.rational.specs.Sum.{entry_at}
use Rattle.sequence_data.specs.declared.types.SetRow.{SetRow}
use Rattle.sequence_form.specs.Sequences.{own_set_row}
use Rattle.behaviour_profile.specs.declared.plans.BehaviourStop.{BehaviourStop}
use Rattle.behaviour_profile.specs.declared.plans.BehaviourStop.TheVariants as stops
use Rattle.behaviour_profile.specs.EntryStarts.{sets_below}
use Rattle.behaviour_profile.specs.Plans.{actions_at, both_plans, own_actions, own_quotients_in, plan_behaviour, quotient_steps, quotient_stop}
use Rattle.behaviour_profile.specs.Shares.{actions_of, share_at, shares_in, steps_at}
use Rattle.behaviour_profile.proofs.BehaviourEntryLemmas.{entries_at-push}
use Rattle.behaviour_profile.proofs.PlanShareLemmas.{shares_are, quotients_fit, first_quotient}
use Rattle.frac128.proofs.UnfitListLemmas.{parts_fit, first_of-part}

-- ---- one player
-- the entries at the first n own sets of a player stand after others, and all quotients there fit
pub record AddsSets (t : Tree) (i : ℕ) (plans : ℕ → ℕ → ℚ) (n : ℕ) (old new : List ℚ) : Type 0 where
  pub entries_are : new ≡ old ++ entries_at t (behaviour_of t plans) (take n (own_sets t i))
  pub all_fit : All (StepsFit (quotient_steps t plans)) (flat_map (actions_at t i) (take n (own_sets t i)))

module _ (t : Tree) (i place : ℕ) (row : SetRow) (weights : List ℚ) (plans : ℕ → ℕ → ℚ) (l : place < length (own_sets t i)) (is : row ≡ own_set_row t i (get_or (own_sets t i) place 0)) (plan : plans i ≡ entry_at weights) where
  abbrev here : ℕ
  here = get_or (own_sets t i) place 0

  at : slice_get (own_sets t i) place ≡ Some here
  at = slice_get-get_or (own_sets t i) place 0 l

  own : t.owner here ≡ Some i
  own = (own_set-is t i place l).1

  -- one set more
  pub next_set : (old now new : List ℚ) → AddsSets t i plans place old now → new ≡ now ++ listed row.count (share_at weights row) → All (StepsFit (steps_at weights row)) (actions_of row) → AddsSets t i plans (place + 1) old new
  next_set old now new so_far push fit = record {
    entries_are = entries_at-push t (behaviour_of t plans) new now old (own_sets t i) place here at so_far.entries_are (push ∙ ap (λ v. now ++ v) (shares_are t i here row weights plans is plan own));
    all_fit = parts_fit (quotient_steps t plans) (actions_at t i) (own_sets t i) place here at so_far.all_fit (quotients_fit t i here row weights plans is plan own fit);
  }

-- all sets
module _ (t : Tree) (i n : ℕ) (plans : ℕ → ℕ → ℚ) (old new : List ℚ) (l : length (own_sets t i) ≤ n) (h : AddsSets t i plans n old new) where
  all : take n (own_sets t i) ≡ own_sets t i
  all = take_all n (own_sets t i) l

  pub all_entries : new ≡ old ++ entries_at t (behaviour_of t plans) (own_sets t i)
  all_entries = h.entries_are ∙ ap (λ v. old ++ entries_at t (behaviour_of t plans) v) all

  pub all_quotients : All (StepsFit (quotient_steps t plans)) (own_actions t i)
  all_quotients = subst (λ v. All (StepsFit (quotient_steps t plans)) (flat_map (actions_at t i) v)) all h.all_fit

-- a set stops its player's plan
pub set_stop : (t : GameTree) (i place label : ℕ) (row : SetRow) (weights : List ℚ) (plans : ℕ → ℕ → ℚ) (old now : List ℚ) (stop : BehaviourStop) → place < length (own_sets (game_of_tree t) i) → row ≡ own_set_row (game_of_tree t) i (get_or (own_sets (game_of_tree t) i) place 0)
    → plans i ≡ entry_at weights → AddsSets (game_of_tree t) i plans place old now → label ≡ label_of t (get_or (own_sets (game_of_tree t) i) place 0) → Gives stops.Memory (shares_in weights row i label) (Err stop) → Gives stops.Memory (own_quotients_in t plans i) (Err stop)
set_stop t i place label row weights plans old now stop l is plan so_far labelled (inl m) = inl m
set_stop t i place label row weights plans old now stop l is plan so_far labelled (inr ((a, step), h, told)) =
    let g : Tree = game_of_tree t in
    let s : ℕ = get_or (own_sets g i) place 0 in
    inr ((record { player = i; set = s; action = a }, step), first_of-part (quotient_steps g plans) (actions_at g i) (own_sets g i) place s (slice_get-get_or (own_sets g i) place 0 l) _ step so_far.all_fit (first_quotient g i s row weights plans is plan (own_set-is g i place l).1 a step h), told ∙ ap (λ n. stops.Range i n step) labelled)

-- ---- two players
module _ (t : GameTree) (one two : List ℚ) where
  abbrev plans : ℕ → ℕ → ℚ
  plans = both_plans one two

  abbrev entries : List ℚ
  entries = tree_entries (game_of_tree t) (behaviour_of (game_of_tree t) plans)

  -- what stops the first
  pub first_stop : (stop : BehaviourStop) → Gives stops.Memory (own_quotients_in t plans 0) (Err stop) → Gives stops.Memory (plan_behaviour t one two) (Err stop)
  first_stop stop h = gives_first stops.Memory (own_quotients_in t plans 0) (λ _. own_quotients_in t plans 1 >> only entries) stop h

  -- what stops the second
  pub second_stop : (stop : BehaviourStop) → own_quotients_in t plans 0 (Ok tt) → Gives stops.Memory (own_quotients_in t plans 1) (Err stop) → Gives stops.Memory (plan_behaviour t one two) (Err stop)
  second_stop stop fit h =
      gives_bind stops.Memory (own_quotients_in t plans 0) (λ _. own_quotients_in t plans 1 >> only entries) tt (Err stop) fit
      (gives_first stops.Memory (own_quotients_in t plans 1) (λ _. only entries) stop h)

  -- and what is made where nothing does
  pub both_made : (old now new : List ℚ) → length t.players ≡ 2 → old ≡ [] → now ≡ old ++ entries_at (game_of_tree t) (behaviour_of (game_of_tree t) plans) (own_sets (game_of_tree t) 0) → new ≡ now ++ entries_at (game_of_tree t) (behaviour_of (game_of_tree t) plans) (own_sets (game_of_tree t) 1)
      → own_quotients_in t plans 0 (Ok tt) → own_quotients_in t plans 1 (Ok tt) → plan_behaviour t one two (Ok new)
  both_made old now new two_players none first second fit_first fit_second =
      let g : Tree = game_of_tree t in
      let behaviour = behaviour_of g plans in (
        tt,
        fit_first,
        (
          tt,
          fit_second,
          ap Ok (second ∙ ap (λ v. v ++ entries_at g behaviour (own_sets g 1)) (first ∙ ap (λ v. v ++ entries_at g behaviour (own_sets g 0)) none)
              ∙ sym (flat_map-append (λ s. listed (g.actions s) (behaviour s)) (own_sets g 0) (own_sets g 1))
              ∙ ap (entries_at g behaviour) (ap (λ v. own_sets g 0 ++ v) (sym (append-nil (own_sets g 1))) ∙ ap (sets_below g) (sym two_players))),
        ),
      )

  -- ---- one answer
  quotients-single : (i : ℕ) → IsSingle (own_quotients_in t plans i)
  quotients-single i = refused_by-single (quotient_stop t) _ (all_fit-single (quotient_steps (game_of_tree t) plans) (own_actions (game_of_tree t) i))

  pub plan_behaviour-single : IsSingle (plan_behaviour t one two)
  plan_behaviour-single =
      bind-single (own_quotients_in t plans 0) (λ _. own_quotients_in t plans 1 >> only entries) (quotients-single 0)
      (λ _ _. bind-single (own_quotients_in t plans 1) (λ _. only entries) (quotients-single 1) (λ _ _. only-single entries))
