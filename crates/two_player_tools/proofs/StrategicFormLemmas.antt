-- The strategic form of a game.
use Rattle.std.proofs.Common.{◌≡◌, Ok, ap, subst, sym}
use Rattle.std.specs.Prelude.{Result}
use Rattle.answers.specs.Answers.{Answer, Gives, IsSingle, only, refused_by, ◌>>=◌}
use Rattle.answers.proofs.AnswerLemmas.{bind-single, gives_bind, only-single, refused_by-single, ok_same}
use Rattle.game_core.specs.Table.{GameTable, IsTable}
use Rattle.game_core.specs.Tree.{GameTree}
use Rattle.game_core.specs.declared.game.Game.{Game}
use Rattle.game_core.specs.declared.game.Game.TheVariants.{Strategic, Extensive}
use Rattle.reduced_form.specs.ReducedForm.{ReducedForm}
use Rattle.reduced_form.specs.Stops.{reduced_form_of}
use Rattle.reduced_form.proofs.FormAnswerLemmas.{form_of}
use Rattle.reduced_form.proofs.OneFormLaws.{form_of-single}
use Rattle.refusals.specs.Told.{form_refusal}
use Rattle.refusals.specs.declared.refusal.Refusal.{Refusal}
use Rattle.refusals.specs.declared.refusal.Refusal.TheVariants as refusal
use Rattle.two_player_tools.specs.GameTypes.{IsGame}
use Rattle.two_player_tools.specs.StrategicForms.{strategic_table}

-- a game has one
pub strategic_table-single : (game : Game) → IsSingle (strategic_table game)
strategic_table-single (Strategic table) = only-single table
strategic_table-single (Extensive tree) =
    bind-single (refused_by form_refusal (reduced_form_of tree)) (λ form. only form.table) (refused_by-single form_refusal (reduced_form_of tree) (form_of-single tree)) (λ form _. only-single form.table)

-- it is a table
pub strategic_table-is_table : (game : Game) (table : GameTable) → IsGame game → strategic_table game (Ok table) → IsTable table
strategic_table-is_table (Strategic t) table w h = subst IsTable (sym (ok_same table t h)) w
strategic_table-is_table (Extensive tree) table w h = subst IsTable (sym (ok_same table h.0.table h.2)) (form_of tree h.0 h.1).is_table

-- what a call gives that goes on with the reduced form of a tree
pub form-goes_on : {Z : Type 0} (f : GameTable → Answer Refusal Z) (answer : Result Z Refusal) (tree : GameTree) (form : ReducedForm) (table : GameTable) → reduced_form_of tree (Ok form) → table ≡ form.table → Gives refusal.Memory (f table) answer → Gives refusal.Memory (strategic_table (Extensive tree) >>= f) answer
form-goes_on f answer tree form table h is g =
    gives_bind refusal.Memory (strategic_table (Extensive tree)) f table answer (form, h, ap Ok is) g
