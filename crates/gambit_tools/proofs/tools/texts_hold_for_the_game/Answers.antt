use Rattle.std.proofs.Common.{ℕ, Bool, true, false, List, Ok}
use Rattle.answers.proofs.AnswerLemmas.{ok_same}
use Rattle.game_core.specs.MadeTables.{made_table}
use Rattle.game_core.specs.Table.{game_of}
use Rattle.game_core.specs.declared.game.Game.{Game}
use Rattle.game_core.specs.declared.game.Game.TheVariants.{Strategic, Extensive}
use Rattle.game_core.specs.Tree.{GameTree}
use Rattle.game_core.specs.TreeGame.{game_of_tree}
use Rattle.enumpure.proofs.OneTextLaws.{text-is}
use Rattle.enumpure_trees.proofs.OneTextLaws.{passing_text-is}
use Rattle.gambit_tools.specs.Enumpure.{IsPureText, IsTreeText, enumpure, tree_answer}
use Rattle.gambit_tools.specs.Make.{counts_text}
use Rattle.gambit_tools.proofs.ConvertLaws.{convert-is}
use Rattle.gambit_tools.proofs.ReadGameLemmas.{game_in-valid}
use Rattle.gambit_tools.proofs.CheckTextLemmas.{verdicts-tell}
use Rattle.gambit_tools.proofs.tools.texts_hold_for_the_game.Goals as goal

tree_said : (agents perfect : Bool) (tree : GameTree) (text : List ℕ) → tree_answer agents perfect tree (Ok text) → IsTreeText agents perfect tree text
tree_said true perfect tree text h = passing_text-is true perfect (game_of_tree tree) text h
tree_said false true tree text h = passing_text-is false true (game_of_tree tree) text h
tree_said false false tree text h = (h.0, h.1, text-is _ text h.2)

pure_said : (strategic agents perfect : Bool) (game : Game) (text : List ℕ) → enumpure strategic agents perfect game (Ok text) → IsPureText strategic agents perfect game text
pure_said true agents perfect (Strategic table) text h = (h.0, h.1, text-is _ text h.2)
pure_said false agents perfect (Strategic table) text h = (h.0, h.1, text-is _ text h.2)
pure_said true agents perfect (Extensive tree) text h = (h.0, h.1, text-is _ text h.2)
pure_said false agents perfect (Extensive tree) text h = tree_said agents perfect tree text h

pub returns : goal.returns
returns c = record {
  enumpure = λ strategic agents perfect file bytes text h. (h.0, h.1, pure_said strategic agents perfect h.0 text h.2);
  enummixed = λ all workers file bytes text h. (h.0, h.1, c.enummixed_texts_are_extreme.ensures all h.0 text h.2);
  lcp = λ strategic perfect file bytes text h. (h.0, h.1, c.lcp_texts_are_equilibria.ensures strategic perfect h.0 text (game_in-valid bytes h.0 h.1) h.2);
  lp = λ strategic prices perfect file bytes text h. (h.0, h.1, c.lp_texts_are_solutions.ensures strategic prices perfect h.0 text (game_in-valid bytes h.0 h.1) h.2);
  convert = λ shape row column file bytes text h. (h.0, h.1, convert-is shape row column h.0 text h.2);
  check = λ strategic name file bytes lines text h.
      (let read = h.2.2 in
      (read.0, read.1, verdicts-tell c.table_checks_tell_equilibria.ensures c.tree_checks_tell_equilibria.ensures strategic read.0 lines text (game_in-valid bytes read.0 read.1) read.2));
  make = λ number rows columns workers text h.
      (let many = c.pairs_are_as_many_as_extreme_equilibria.ensures (game_of (made_table number rows columns)) h.0 h.1 in
      record { found = h.0; is_found = h.1; is_text = ok_same text (counts_text h.0) h.2; lines = many.0; are_extreme_equilibria = many.1; as_many = many.2 });
}
