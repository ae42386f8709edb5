-- Each stage has at most one answer.
use Rattle.std.proofs.Common.{ℕ, Bool, true, false, List, [], slice_index_or}
use Rattle.answers.specs.Answers.{IsSingle, refused_by, ◌>>=◌}
use Rattle.answers.proofs.AnswerLemmas.{bind-single, refused_by-single}
use Rattle.game_core.specs.Table.{game_of as game_of_table}
use Rattle.game_core.specs.Tree.{GameTree}
use Rattle.game_core.specs.TreeGame.{game_of_tree}
use Rattle.game_core.specs.declared.game.Game.{Game}
use Rattle.game_core.specs.declared.game.Game.TheVariants.{Strategic, Extensive}
use Rattle.reduced_form.specs.Stops.{reduced_form_of}
use Rattle.reduced_form.proofs.OneFormLaws.{form_of-single}
use Rattle.enumpure_trees.specs.Stops.{behaviour_text}
use Rattle.enumpure_trees.specs.TreeEquilibria.{IsTreeEquilibriaText}
use Rattle.enumpure_trees.proofs.EquilibriumLineLemmas.{text-determined}
use Rattle.enumpure.specs.Stops.{pure_text}
use Rattle.enumpure.proofs.OneTextLaws.{pure_text-single, within_text_limit-single}
use Rattle.words.specs.Words.{Command, Enumpure, Enummixed, Lcp, Lp, Convert, Check, Make}
use Rattle.enumpure_trees.specs.PassingStops.{passing_text}
use Rattle.enumpure_trees.proofs.OneTextLaws.{passing_text-single}
use Rattle.refusals.specs.Told.{choice_refusal, form_refusal, list_refusal}
use Rattle.two_player_tools.specs.GameTypes.{IsGame}
use Rattle.two_player_tools.specs.Perfect.{lcp_tool, lp_tool}
use Rattle.two_player_tools.specs.StrategicForms.{strategic_table}
use Rattle.two_player_tools.proofs.StrategicFormLemmas.{strategic_table-single}
use Rattle.gambit_tools.specs.Games.{game_in}
use Rattle.gambit_tools.specs.Enumpure.{enumpure, tree_answer}
use Rattle.gambit_tools.specs.Commands.{tool_of, game_answer, answer_of}
use Rattle.gambit_tools.proofs.CheckContentLemmas.{ChecksAreSingle, check-single}
use Rattle.gambit_tools.proofs.ConvertLaws.{convert-single}
use Rattle.two_player_tools.proofs.FormSingleLemmas.{RecallsAreSingle}
use Rattle.gambit_tools.proofs.GameSingleLemmas.{game_in-single}
use Rattle.gambit_tools.proofs.ReadGameLemmas.{game_in-valid}
use Rattle.gambit_tools.proofs.MakeLaws.{make-single}
use Rattle.gambit_tools.proofs.MixedSingleLemmas.{enummixed-single}

-- ---- the tool `enumpure`
table_text-single : (game : Game) → IsSingle (strategic_table game >>= λ table. refused_by list_refusal (pure_text (game_of_table table)))
table_text-single game =
    bind-single (strategic_table game) (λ table. refused_by list_refusal (pure_text (game_of_table table))) (strategic_table-single game)
    (λ table _. refused_by-single list_refusal (pure_text (game_of_table table)) (pure_text-single (game_of_table table)))

choices-single : (agents perfect : Bool) (tree : GameTree) → IsSingle (refused_by choice_refusal (passing_text agents perfect (game_of_tree tree)))
choices-single agents perfect tree = refused_by-single choice_refusal (passing_text agents perfect (game_of_tree tree)) (passing_text-single agents perfect (game_of_tree tree))

tree-single : (agents perfect : Bool) (tree : GameTree) → IsSingle (tree_answer agents perfect tree)
tree-single true perfect tree = choices-single true perfect tree
tree-single false true tree = choices-single false true tree
tree-single false false tree =
    bind-single (refused_by form_refusal (reduced_form_of tree)) (λ form. refused_by list_refusal (behaviour_text (game_of_tree tree) form.choices))
    (refused_by-single form_refusal (reduced_form_of tree) (form_of-single tree))
    (λ form _. refused_by-single list_refusal (behaviour_text (game_of_tree tree) form.choices) (within_text_limit-single (IsTreeEquilibriaText (game_of_tree tree) form.choices) (text-determined (game_of_tree tree) form.choices)))

enumpure-single : (strategic agents perfect : Bool) (game : Game) → IsSingle (enumpure strategic agents perfect game)
enumpure-single true agents perfect (Strategic table) = table_text-single (Strategic table)
enumpure-single false agents perfect (Strategic table) = table_text-single (Strategic table)
enumpure-single true agents perfect (Extensive tree) = table_text-single (Extensive tree)
enumpure-single false agents perfect (Extensive tree) = tree-single agents perfect tree

-- ---- commands
-- the tools for two players have at most one answer
pub record SolutionsAreSingle : Type 0 where
  pub lp : (strategic prices perfect : Bool) (game : Game) → IsGame game → IsSingle (lp_tool strategic prices perfect game)
  pub lcp : (strategic perfect : Bool) (game : Game) → IsGame game → IsSingle (lcp_tool strategic perfect game)

-- each tool that is built has a line
tool_of-single : (command : Command) (game : Game) → SolutionsAreSingle → IsGame game → IsSingle (tool_of command game)
tool_of-single (Enumpure strategic agents perfect file) game solutions w = enumpure-single strategic agents perfect game
tool_of-single (Enummixed all workers file) game solutions w = enummixed-single all game
tool_of-single (Lcp strategic perfect file) game solutions w = solutions.lcp strategic perfect game w
tool_of-single (Lp strategic prices perfect file) game solutions w = solutions.lp strategic prices perfect game w
tool_of-single (Convert layout row column file) game solutions w = convert-single layout row column game
tool_of-single _ game solutions w = λ one other h k. absurd h

game_answer-single : SolutionsAreSingle → (command : Command) (bytes : List ℕ) → IsSingle (game_answer command bytes)
game_answer-single solutions command bytes =
    bind-single (game_in bytes) (tool_of command) (game_in-single bytes) (λ game h. tool_of-single command game solutions (game_in-valid bytes game h))

pub answer_of-single : SolutionsAreSingle → RecallsAreSingle → ChecksAreSingle → (command : Command) (contents : List (List ℕ)) → IsSingle (answer_of command contents)
answer_of-single solutions recalls checks (Check strategic game lines) contents = check-single recalls checks strategic (slice_index_or contents 0 []) (slice_index_or contents 1 [])
answer_of-single solutions recalls checks (Make number rows columns workers) contents = make-single number rows columns
answer_of-single solutions recalls checks command contents = game_answer-single solutions command (slice_index_or contents 0 [])
