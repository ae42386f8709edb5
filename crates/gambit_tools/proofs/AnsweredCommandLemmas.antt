-- Each command has an answer over the contents of its inputs.
use Rattle.std.proofs.Common.{ℕ, ◌<◌, ◌∷◌, Bool, true, false, List, [], length, replicate, slice_index_or, All, arith}
use Rattle.std.proofs.lemmas.List.{length-replicate}
use Rattle.std.proofs.lemmas.List.Elements.{All-cons, All-map, All-nil}
use Rattle.answers.specs.Answers.{only, refused_by, ◌>>=◌, ◌>>◌}
use Rattle.answers.specs.Answered.{IsAnswered}
use Rattle.answers.proofs.AnsweredLemmas.{bind-answered, only-answered, refuse_where-answered, refused_by-answered}
use Rattle.game_theory.specs.Trees.{IsTree}
use Rattle.game_core.specs.MadeTables.{made_table}
use Rattle.game_core.specs.Table.{GameTable, IsTable, game_of as game_of_table}
use Rattle.game_core.specs.Tree.{GameTree, IsGameTree}
use Rattle.game_core.specs.TreeGame.{game_of_tree}
use Rattle.game_core.specs.declared.game.Game.{Game}
use Rattle.game_core.specs.declared.game.Game.TheVariants.{Strategic, Extensive}
use Rattle.perfect_recall.specs.Found.{recall_of}
use Rattle.reduced_form.specs.Stops.{reduced_form_of}
use Rattle.reduced_form.proofs.FormAnswerLemmas.{form_of}
use Rattle.enumpure.specs.Stops.{pure_text}
use Rattle.enumpure.proofs.AnsweredTextLemmas.{pure_text-answered}
use Rattle.enumpure_trees.specs.PassingStops.{passing_text}
use Rattle.enumpure_trees.specs.Stops.{behaviour_text}
use Rattle.enumpure_trees.proofs.AnsweredBehaviourLemmas.{behaviour_text-answered}
use Rattle.enumpure_trees.proofs.AnsweredPassingLemmas.{passing_text-answered}
use Rattle.kept_strategies.specs.Kept.{kept_of}
use Rattle.kept_strategies.proofs.AnsweredFormLemmas.{kept_of-answered}
use Rattle.enummixed.specs.ExtremeText.{extreme_pairs, extreme_text, kept_text}
use Rattle.enummixed.proofs.AnsweredPairLemmas.{extreme_pairs-answered}
use Rattle.enummixed.proofs.AnsweredTextLemmas.{extreme_texts-answered}
use Rattle.convert_tables.specs.declared.marks.Style.TheVariants.{Html, Sgame}
use Rattle.convert_tables.proofs.AnsweredLayoutLemmas.{laid_out-answered}
use Rattle.ne_checker.specs.AnsweredLaws.{TableChecksAreAnswered, TreeChecksAreAnswered}
use Rattle.ne_checker.specs.LineChecks.{table_check, tree_check}
use Rattle.refusals.specs.Told.{check_refusal, choice_refusal, convert_refusal, form_refusal, kept_refusal, list_refusal, mixed_refusal, recall_refusal}
use Rattle.refusals.specs.declared.refusal.Refusal.TheVariants as refusal
use Rattle.two_player_tools.specs.GameTypes.{IsGame}
use Rattle.two_player_tools.specs.Perfect.{lcp_tool, lp_tool}
use Rattle.two_player_tools.specs.StrategicForms.{strategic_table}
use Rattle.two_player_tools.specs.TwoPlayers.{two_players}
use Rattle.two_player_tools.proofs.StrategicFormLemmas.{strategic_table-is_table}
use Rattle.words.specs.Words.{Command, Enumpure, Enummixed, Lcp, Lp, Convert, Check, Make, IsWithinRanges}
use Rattle.words.specs.declared.Layout.{Layout}
use Rattle.words.specs.declared.Layout.TheVariants as layouts
use Rattle.gambit_tools.specs.Check.{check, verdicts}
use Rattle.gambit_tools.specs.Commands.{answer_of, game_answer, tool_of}
use Rattle.gambit_tools.specs.Convert.{convert, layout_in}
use Rattle.gambit_tools.specs.Enummixed.{enummixed, table_text}
use Rattle.gambit_tools.specs.Enumpure.{enumpure, tree_answer}
use Rattle.gambit_tools.specs.Games.{game_in, within_bytes}
use Rattle.gambit_tools.specs.Input.{most_bytes}
use Rattle.gambit_tools.specs.Make.{counts_text, make}
use Rattle.gambit_tools.proofs.AnsweredGameLemmas.{game_in-answered}
use Rattle.gambit_tools.proofs.ReadGameLemmas.{game_in-valid}

-- what the laws of the crates below say
pub record StagesAreAnswered : Type 0 where
  pub game_trees : (tree : GameTree) → IsGameTree tree → IsTree (game_of_tree tree)
  pub recalls : (tree : GameTree) → IsGameTree tree → IsAnswered (recall_of tree)
  pub forms : (tree : GameTree) → IsGameTree tree → IsAnswered (reduced_form_of tree)
  pub strategic_tables : (game : Game) → IsGame game → IsAnswered (strategic_table game)
  pub lp : (strategic prices perfect : Bool) (game : Game) → IsGame game → IsAnswered (lp_tool strategic prices perfect game)
  pub lcp : (strategic perfect : Bool) (game : Game) → IsGame game → IsAnswered (lcp_tool strategic perfect game)
  pub table_checks : TableChecksAreAnswered
  pub tree_checks : TreeChecksAreAnswered

-- each player of a table has a strategy
some_strategies : (table : GameTable) → IsTable table → All (λ n. 0 < n) (game_of_table table).strategies
some_strategies table valid = All-map (λ n. 0 < n) length table.strategies valid.some_strategy

module _ (stages : StagesAreAnswered) where
  -- ---- the tool `enumpure`
  table_lines-answered : (game : Game) → IsGame game → IsAnswered (strategic_table game >>= λ table. refused_by list_refusal (pure_text (game_of_table table)))
  table_lines-answered game w =
      bind-answered (strategic_table game) (λ table. refused_by list_refusal (pure_text (game_of_table table))) (stages.strategic_tables game w)
      (λ table _. refused_by-answered list_refusal (pure_text (game_of_table table)) (pure_text-answered (game_of_table table)))

  choices-answered : (agents perfect : Bool) (tree : GameTree) → IsGameTree tree → IsAnswered (refused_by choice_refusal (passing_text agents perfect (game_of_tree tree)))
  choices-answered agents perfect tree w = refused_by-answered choice_refusal (passing_text agents perfect (game_of_tree tree)) (passing_text-answered agents perfect (game_of_tree tree) (stages.game_trees tree w))

  tree-answered : (agents perfect : Bool) (tree : GameTree) → IsGameTree tree → IsAnswered (tree_answer agents perfect tree)
  tree-answered true perfect tree w = choices-answered true perfect tree w
  tree-answered false true tree w = choices-answered false true tree w
  tree-answered false false tree w =
      bind-answered (refused_by form_refusal (reduced_form_of tree)) (λ form. refused_by list_refusal (behaviour_text (game_of_tree tree) form.choices))
      (refused_by-answered form_refusal (reduced_form_of tree) (stages.forms tree w))
      (λ form h. refused_by-answered list_refusal (behaviour_text (game_of_tree tree) form.choices) (behaviour_text-answered (game_of_tree tree) form.choices (stages.game_trees tree w) (form_of tree form h).are_strategies))

  enumpure-answered : (strategic agents perfect : Bool) (game : Game) → IsGame game → IsAnswered (enumpure strategic agents perfect game)
  enumpure-answered true agents perfect (Strategic table) w = table_lines-answered (Strategic table) w
  enumpure-answered false agents perfect (Strategic table) w = table_lines-answered (Strategic table) w
  enumpure-answered true agents perfect (Extensive tree) w = table_lines-answered (Extensive tree) w
  enumpure-answered false agents perfect (Extensive tree) w = tree-answered agents perfect tree w

  -- ---- the tools `enummixed` and `make`
  table_text-answered : (all : Bool) (table : GameTable) → IsTable table → IsAnswered (table_text all table)
  table_text-answered true table valid = refused_by-answered mixed_refusal (extreme_text (game_of_table table)) (extreme_texts-answered.own (game_of_table table) (some_strategies table valid))
  table_text-answered false table valid =
      bind-answered (refused_by kept_refusal (kept_of table)) (λ kept. refused_by mixed_refusal (kept_text (game_of_table table) (game_of_table kept.table)))
      (refused_by-answered kept_refusal (kept_of table) (kept_of-answered table valid))
      (λ kept h. refused_by-answered mixed_refusal (kept_text (game_of_table table) (game_of_table kept.table)) (extreme_texts-answered.by_kept table kept valid h.2.2))

  enummixed-answered : (all : Bool) (game : Game) → IsGame game → IsAnswered (enummixed all game)
  enummixed-answered all game w =
      bind-answered (two_players game) (λ _. strategic_table game >>= table_text all) (refuse_where-answered _ _)
      (λ _ _. bind-answered (strategic_table game) (table_text all) (stages.strategic_tables game w) (λ table h. table_text-answered all table (strategic_table-is_table game table w h)))

  make-answered : (number rows columns : ℕ) → 0 < rows → 0 < columns → IsAnswered (make number rows columns)
  make-answered number rows columns some other =
      let g = game_of_table (made_table number rows columns) in
      let unnamed : List ℕ = [] in
      bind-answered (refused_by mixed_refusal (extreme_pairs g)) (λ pairs. only (counts_text pairs))
      (refused_by-answered mixed_refusal (extreme_pairs g) (extreme_pairs-answered g (All-cons (λ n. 0 < n) (length (replicate rows unnamed)) (length (replicate columns unnamed) ∷ []) (omega (arith, some, length-replicate rows unnamed))
      (All-cons (λ n. 0 < n) (length (replicate columns unnamed)) [] (omega (arith, other, length-replicate columns unnamed)) (All-nil (λ n. 0 < n))))))
      (λ pairs _. only-answered (counts_text pairs))

  -- ---- the tool `convert`
  layout_in-answered : (shape : Layout) (table : GameTable) (row column : ℕ) → IsAnswered (layout_in shape table row column)
  layout_in-answered layouts.Html table row column = laid_out-answered Html table row column
  layout_in-answered layouts.Sgame table row column = laid_out-answered Sgame table row column

  convert-answered : (shape : Layout) (row column : ℕ) (game : Game) → IsGame game → IsAnswered (convert shape row column game)
  convert-answered shape row column game w =
      bind-answered (strategic_table game) (λ table. refused_by convert_refusal (layout_in shape table row column)) (stages.strategic_tables game w)
      (λ table _. refused_by-answered convert_refusal (layout_in shape table row column) (layout_in-answered shape table row column))

  -- ---- the tool `check`
  strategic-answered : (game : Game) (lines : List ℕ) → IsGame game → IsAnswered (strategic_table game >>= λ table. refused_by check_refusal (table_check table lines))
  strategic-answered game lines w =
      bind-answered (strategic_table game) (λ table. refused_by check_refusal (table_check table lines)) (stages.strategic_tables game w)
      (λ table h. refused_by-answered check_refusal (table_check table lines) (stages.table_checks table lines (strategic_table-is_table game table w h)))

  verdicts-answered : (strategic : Bool) (game : Game) (lines : List ℕ) → IsGame game → IsAnswered (verdicts strategic game lines)
  verdicts-answered true (Strategic table) lines w = strategic-answered (Strategic table) lines w
  verdicts-answered false (Strategic table) lines w = strategic-answered (Strategic table) lines w
  verdicts-answered true (Extensive tree) lines w = strategic-answered (Extensive tree) lines w
  verdicts-answered false (Extensive tree) lines w =
      bind-answered (refused_by recall_refusal (recall_of tree)) (λ _. refused_by check_refusal (tree_check tree lines))
      (refused_by-answered recall_refusal (recall_of tree) (stages.recalls tree w))
      (λ before h. refused_by-answered check_refusal (tree_check tree lines) (stages.tree_checks tree lines w h.all_recall))

  check-answered : (strategic : Bool) (bytes lines : List ℕ) → IsAnswered (check strategic bytes lines)
  check-answered strategic bytes lines =
      bind-answered (within_bytes bytes) (λ _. within_bytes lines >> (game_in bytes >>= λ game. verdicts strategic game lines)) (refuse_where-answered (most_bytes < length bytes) refusal.TooLong)
      (λ _ _. bind-answered (within_bytes lines) (λ _. game_in bytes >>= λ game. verdicts strategic game lines) (refuse_where-answered (most_bytes < length lines) refusal.TooLong)
      (λ _ _. bind-answered (game_in bytes) (λ game. verdicts strategic game lines) (game_in-answered bytes) (λ game h. verdicts-answered strategic game lines (game_in-valid bytes game h))))

  -- ---- commands
  -- a command that reads one game has an answer, where its tool has one for each game
  one_game-answered : (command : Command) (bytes : List ℕ) → ((game : Game) → IsGame game → IsAnswered (tool_of command game)) → IsAnswered (game_answer command bytes)
  one_game-answered command bytes tool = bind-answered (game_in bytes) (tool_of command) (game_in-answered bytes) (λ game h. tool game (game_in-valid bytes game h))

  pub answer_of-answered : (command : Command) (contents : List (List ℕ)) → IsWithinRanges command → IsAnswered (answer_of command contents)
  answer_of-answered (Enumpure strategic agents perfect file) contents w = one_game-answered (Enumpure strategic agents perfect file) (slice_index_or contents 0 []) (enumpure-answered strategic agents perfect)
  answer_of-answered (Enummixed all workers file) contents w = one_game-answered (Enummixed all workers file) (slice_index_or contents 0 []) (enummixed-answered all)
  answer_of-answered (Lcp strategic perfect file) contents w = one_game-answered (Lcp strategic perfect file) (slice_index_or contents 0 []) (stages.lcp strategic perfect)
  answer_of-answered (Lp strategic prices perfect file) contents w = one_game-answered (Lp strategic prices perfect file) (slice_index_or contents 0 []) (stages.lp strategic prices perfect)
  answer_of-answered (Convert layout row column file) contents w = one_game-answered (Convert layout row column file) (slice_index_or contents 0 []) (convert-answered layout row column)
  answer_of-answered (Check strategic game lines) contents w = check-answered strategic (slice_index_or contents 0 []) (slice_index_or contents 1 [])
  answer_of-answered (Make number rows columns workers) contents w = make-answered number rows columns w.0.0 w.1.0
