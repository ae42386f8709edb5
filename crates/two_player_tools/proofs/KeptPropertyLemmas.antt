-- What the stages before keep of a sequence form and an optimum.
use Rattle.std.proofs.Common.{ℕ, ◌≡◌, ◌≤◌, ◌∙◌, sym, ap, subst, arith, Bool, true, false, Option, List, length, Ok}
use Rattle.std.proofs.lemmas.List.{length-map}
use Rattle.answers.proofs.AnswerLemmas.{ok_same}
use Rattle.game_theory.specs.FirstNodes.{AreNumberedByFirstNodes}
use Rattle.game_theory.specs.Trees.{IsTree as is_game_tree}
use Rattle.game_core.specs.Limits.{most_rows}
use Rattle.game_core.specs.Tree.{GameTree, IsGameTree}
use Rattle.game_core.specs.TreeGame.{game_of_tree}
use Rattle.game_core.specs.declared.game.Game.{Game}
use Rattle.game_core.specs.declared.game.Game.TheVariants.{Strategic, Extensive}
use Rattle.perfect_recall.specs.Found.{IsRecallOf}
use Rattle.sequence_forms.specs.Forms.{HasTwoWhoRecall}
use Rattle.sequence_forms.specs.Sides.{sequences}
use Rattle.sequence_data.specs.Data.{FormData, IsFormData, IsSideData, side_of}
use Rattle.sequence_data.specs.declared.types.SetRow.{SetRow}
use Rattle.sequence_form.specs.Forms.{tree_form}
use Rattle.sequence_data.specs.declared.sizes.Counts.{Counts}
use Rattle.sequence_form.proofs.FormLemmas.{tree_form-two}
use Rattle.sequence_form.proofs.KeptFormLemmas.{table_form-valid, tree_form-valid}
use Rattle.zero_sum_lp.specs.FormPrograms.{program_in, with_start}
use Rattle.zero_sum_lp.specs.Parts.{IsOptimumOf, IsProgram, Program}
use Rattle.sequence_data.specs.PlanPairs.{PlanPair}
use Rattle.zero_sum_lp.specs.PlanStops.{plans_of}
use Rattle.two_player_tools.specs.GameTypes.{IsGame}
use Rattle.two_player_tools.specs.TwoPlayers.{form_in}
use Rattle.two_player_tools.proofs.StrategicFormLemmas.{strategic_table-is_table}

-- what trees stand for
pub record TreesAreGames : Type 0 where
  pub game_tree : (t : GameTree) → IsGameTree t → is_game_tree (game_of_tree t)
  pub numbered : (t : GameTree) → IsGameTree t → AreNumberedByFirstNodes (game_of_tree t)

-- ---- forms
-- the form of a game
pub form_in-valid : (rows : Counts → ℕ) (strategic : Bool) (game : Game) (f : FormData) → TreesAreGames → IsGame game → form_in rows strategic game (Ok f) → IsFormData f
form_in-valid rows true (Strategic t) f laws w h = table_form-valid h.0 f (strategic_table-is_table (Strategic t) h.0 w h.1) h.2.2
form_in-valid rows false (Strategic t) f laws w h = table_form-valid h.0 f (strategic_table-is_table (Strategic t) h.0 w h.1) h.2.2
form_in-valid rows true (Extensive t) f laws w h = table_form-valid h.0 f (strategic_table-is_table (Extensive t) h.0 w h.1) h.2.2
form_in-valid rows false (Extensive t) f laws w h = tree_form-valid t f (laws.game_tree t w) (laws.numbered t w) h.1.all_recall h.2.2

-- a tree with a form has two players, who recall
pub two_who_recall : (t : GameTree) (f : FormData) (before : List (Option (ℕ × ℕ))) → TreesAreGames → IsGameTree t → IsRecallOf (game_of_tree t) before → tree_form t (Ok f) → HasTwoWhoRecall (game_of_tree t)
two_who_recall t f before laws w recall h =
    let two = tree_form-two t f h in
    record {
      is_tree = laws.game_tree t w;
      two_players = two;
      first_recalls = recall.all_recall 0 (omega (arith, two));
      second_recalls = recall.all_recall 1 (omega (arith, two));
    }

-- ---- programs and optima
-- how a form is solved: its program, the program's optimum and the plans
pub record IsSolving (f : FormData) (p o : Program) (plans : PlanPair) : Type 0 where
  pub valid : IsFormData f
  pub program : program_in f (Ok p)
  pub optimum : IsOptimumOf p o
  pub planned : plans_of o (Ok plans)

pub optimum-first : (p o : Program) → IsProgram p → IsOptimumOf p o → IsSideData o.first
optimum-first p o h k = subst IsSideData (sym k.first) h.first

pub optimum-second : (p o : Program) → IsProgram p → IsOptimumOf p o → IsSideData o.second
optimum-second p o h k = subst IsSideData (sym k.second) h.second

module _ (f : FormData) (p o : Program) (plans : PlanPair) (h : IsSolving f p o plans) where
  starts_so : with_start f h.program.2.2.2.2.0 ≡ p
  starts_so = cc (h.program.2.2.2.2.2)

  pub first-same : o.first ≡ f.first
  first-same = h.optimum.first ∙ sym (ap (λ (x : Program). x.first) starts_so)

  pub second-same : o.second ≡ f.second
  second-same = h.optimum.second ∙ sym (ap (λ (x : Program). x.second) starts_so)

  -- the form's sets are few
  pub few-first : length f.first.sets ≤ most_rows
  few-first = omega (arith, h.program.1, length-map f.first.sets (λ (r : SetRow). r.before))

  pub few-second : length f.second.sets ≤ most_rows
  few-second = omega (arith, h.program.1, length-map f.second.sets (λ (r : SetRow). r.before))

  made_so : plans ≡ record { one = h.planned.0; two = h.planned.2.0 }
  made_so = ok_same plans (record { one = h.planned.0; two = h.planned.2.0 }) h.planned.2.2

  -- the plans have a weight for each of its sequences
  pub one-long : length plans.one ≡ f.first.sequences
  one-long =
      ap (λ (x : PlanPair). length x.one) made_so ∙ ap length (ok_same h.planned.0 h.planned.1.0 h.planned.1.2.2) ∙ h.planned.1.1.0 ∙ ap (λ s. sequences (side_of s)) first-same ∙ sym h.valid.first_is.sequences_are

  pub two-long : length plans.two ≡ f.second.sequences
  two-long =
      ap (λ (x : PlanPair). length x.two) made_so ∙ ap length (ok_same h.planned.2.0 h.planned.2.1.0 h.planned.2.1.2.2) ∙ h.planned.2.1.1.0 ∙ ap (λ s. sequences (side_of s)) second-same ∙ sym h.valid.second_is.sequences_are
