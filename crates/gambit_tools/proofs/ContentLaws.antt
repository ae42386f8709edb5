-- Refusals by the contents of an input come from there, and a step that a refusal names does not fit.
use Rattle.std.proofs.Common.{ℕ, ◌≤◌, ◌<◌, ◌∙◌, inl, inr, refl, subst, sym, arith, Bool, true, false, List, length, Err}
use Rattle.answers.specs.Answers.{only, refused_by, ◌>>=◌}
use Rattle.game_core.specs.declared.game.Game.{Game}
use Rattle.game_core.specs.declared.game.Game.TheVariants.{Strategic, Extensive}
use Rattle.game_core.specs.Table.{game_of}
use Rattle.game_theory.specs.Trees.{Tree}
use Rattle.frac128.specs.Steps.{Step, StepFits}
use Rattle.game_core.specs.TokenList.{TokenList}
use Rattle.game_core.specs.declared.token.Token.{Token}
use Rattle.game_core.specs.Tree.{GameTree}
use Rattle.game_core.specs.TreeGame.{game_of_tree}
use Rattle.game_text.specs.Stops.{tokens_of}
use Rattle.game_text.specs.declared.reading.TextStop.{TextStop}
use Rattle.game_text.specs.declared.reading.TextStop.TheVariants as text_stop
use Rattle.nfg_reader.specs.Stops.{table_in}
use Rattle.nfg_reader.specs.declared.reading.NfgStop.{NfgStop}
use Rattle.nfg_reader.specs.declared.reading.NfgStop.TheVariants as nfg_stop
use Rattle.tree_faults.specs.FaultKinds.{IsKind}
use Rattle.tree_grammar.specs.declared.kinds.EfgKind.{EfgKind}
use Rattle.tree_grammar.specs.declared.kinds.EfgKind.TheVariants as efg_kind
use Rattle.efg_reader.specs.Stops.{tree_in}
use Rattle.efg_reader.specs.declared.fault.EfgStop.{EfgStop}
use Rattle.efg_reader.specs.declared.fault.EfgStop.TheVariants as efg_stop
use Rattle.enumpure.specs.Stops.{pure_text, within_text_limit}
use Rattle.enumpure.specs.declared.listing.ListStop.{ListStop}
use Rattle.enumpure.specs.declared.listing.ListStop.TheVariants as list_stop
use Rattle.words.specs.Words.{Command, Enumpure, Enummixed, Lcp, Lp, Convert}
use Rattle.gambit_tools.specs.Input.{most_bytes}
use Rattle.gambit_tools.specs.Laws.{FaultNamesStep}
use Rattle.refusals.specs.Told.{choice_refusal, text_refusal, nfg_refusal, efg_refusal, list_refusal}
use Rattle.enumpure_trees.specs.PassingStops.{passing_text}
use Rattle.enumpure_trees.specs.Values.{value_indices, value_steps}
use Rattle.enumpure_trees.specs.declared.stop.ChoiceStop.{ChoiceStop}
use Rattle.enumpure_trees.specs.declared.stop.ChoiceStop.TheVariants as choice_stop
use Rattle.two_player_tools.specs.StrategicForms.{strategic_table}
use Rattle.gambit_tools.specs.Games.{game_of_tokens, game_in}
use Rattle.gambit_tools.specs.Enumpure.{enumpure, tree_answer}
use Rattle.gambit_tools.specs.Commands.{tool_of}
use Rattle.refusals.specs.declared.refusal.Refusal.{Refusal}
use Rattle.refusals.specs.declared.refusal.Refusal.TheVariants as refusal
use Rattle.gambit_tools.proofs.ConvertLaws.{convert-contents}
use Rattle.gambit_tools.proofs.FormContentLemmas.{AreContents, IsOfContents, fitting-reasons, form-contents, strategic_table-contents, then-contents, told-contents}
use Rattle.gambit_tools.proofs.MixedContentLemmas.{enummixed-contents}
use Rattle.gambit_tools.proofs.PerfectContentLemmas.{lcp_tool-contents, lp_tool-contents}

pub text-contents : (bytes : List ℕ) (stop : TextStop) → tokens_of bytes (Err stop) → IsOfContents (text_refusal stop)
text-contents bytes (text_stop.Fault fault) h = refl
text-contents bytes text_stop.Memory h = absurd h

table-contents : (tokens : TokenList) (stop : NfgStop) → table_in tokens (Err stop) → IsOfContents (nfg_refusal stop)
table-contents tokens (nfg_stop.Fault fault) h = refl
table-contents tokens (nfg_stop.TooLarge limit) h = refl
table-contents tokens nfg_stop.Memory h = absurd h

kind-unfit : (kind : EfgKind) (before rest : List Token) (step : Step) → IsKind kind before rest → FaultNamesStep kind step → ¬ (StepFits step)
kind-unfit (efg_kind.ProbabilityRange set named) before rest step (_, _, _, _, unfitting, made) is = subst (λ s. ¬ (StepFits s)) (sym made ∙ is) unfitting
kind-unfit kind before rest step h is = absurd is

tree-contents : (tokens : TokenList) (stop : EfgStop) → tree_in tokens (Err stop) → IsOfContents (efg_refusal stop)
tree-contents tokens (efg_stop.Fault fault) ((rest, from, _), _) = λ step. kind-unfit fault.kind from.before rest step from.is_kind
tree-contents tokens (efg_stop.TooLarge limit) h = refl
tree-contents tokens efg_stop.Memory h = absurd h

list-contents : (P : List ℕ → Type 0) (stop : ListStop) → within_text_limit P (Err stop) → IsOfContents (list_refusal stop)
list-contents P (list_stop.TooLarge limit) h = refl
list-contents P list_stop.Memory (inl h) = absurd h
list-contents P list_stop.Memory (inr h) = cc

no_game : (game : Game) (r : Refusal) → only game (Err r) → ⊥
no_game game r e = cc

pub game-contents : (tokens : TokenList) (r : Refusal) → game_of_tokens tokens (Err r) → IsOfContents r
game-contents tokens r (inl (begins, inl h)) = subst IsOfContents (sym h.2) (tree-contents tokens h.0 h.1)
game-contents tokens r (inl (begins, inr h)) = absurd (no_game (Extensive h.0) r h.2)
game-contents tokens r (inr (begins, inl h)) = subst IsOfContents (sym h.2) (table-contents tokens h.0 h.1)
game-contents tokens r (inr (begins, inr h)) = absurd (no_game (Strategic h.0) r h.2)

-- ---- games
-- bytes within the limit are refused for what they hold
pub game_in-contents : (bytes : List ℕ) (r : Refusal) → length bytes ≤ most_bytes → game_in bytes (Err r) → IsOfContents r
game_in-contents bytes r few (inl (inl h)) = absurd (omega (arith, h.0))
game_in-contents bytes r few (inl (inr h)) = subst IsOfContents (sym h.2.2) (text-contents bytes h.2.0 h.2.1)
game_in-contents bytes r few (inr h) = game-contents h.0 r h.2

-- bytes above the limit are refused for their number
pub game_in-too_long : (bytes : List ℕ) → most_bytes < length bytes → game_in bytes (Err refusal.TooLong)
game_in-too_long bytes long = inl (inl (long, refl))

-- ---- the tool `enumpure`
table_text-contents : (game : Game) → AreContents (strategic_table game >>= λ table. refused_by list_refusal (pure_text (game_of table)))
table_text-contents game =
    then-contents (strategic_table game) (λ table. refused_by list_refusal (pure_text (game_of table))) (strategic_table-contents game)
    (λ table. told-contents list_refusal (pure_text (game_of table)) (list-contents _))

choice-contents : (agents perfect : Bool) (t : Tree) (stop : ChoiceStop) → passing_text agents perfect t (Err stop) → IsOfContents (choice_refusal stop)
choice-contents agents perfect t stop (inl h) = absurd h
choice-contents agents perfect t stop (inr (nodes, _, inl (inl h))) = subst (λ s. IsOfContents (choice_refusal s)) (sym h.2) refl
choice-contents agents perfect t stop (inr (nodes, _, inl (inr (_, _, h)))) =
    fitting-reasons choice_refusal (λ stop. choice_stop.Range stop.0.choice stop.0.node stop.0.player stop.1) (value_steps t) (value_indices t nodes) (λ stop u. u) stop h
choice-contents agents perfect t stop (inr (nodes, _, inr (_, _, inl h))) = absurd h
choice-contents agents perfect t stop (inr (nodes, _, inr (_, _, inr (text, _, h)))) = subst (λ s. IsOfContents (choice_refusal s)) (sym h.2) refl

tree_answer-contents : (agents perfect : Bool) (tree : GameTree) → AreContents (tree_answer agents perfect tree)
tree_answer-contents true perfect tree r h = told-contents choice_refusal (passing_text true perfect (game_of_tree tree)) (choice-contents true perfect (game_of_tree tree)) r h
tree_answer-contents false true tree r h = told-contents choice_refusal (passing_text false true (game_of_tree tree)) (choice-contents false true (game_of_tree tree)) r h
tree_answer-contents false false tree r (inl h) = subst IsOfContents (sym h.2) (form-contents tree h.0 h.1)
tree_answer-contents false false tree r (inr h) = subst IsOfContents (sym h.2.2) (list-contents _ h.2.0 h.2.1)

enumpure-contents : (strategic agents perfect : Bool) (game : Game) → AreContents (enumpure strategic agents perfect game)
enumpure-contents true agents perfect (Strategic table) = table_text-contents (Strategic table)
enumpure-contents false agents perfect (Strategic table) = table_text-contents (Strategic table)
enumpure-contents true agents perfect (Extensive tree) = table_text-contents (Extensive tree)
enumpure-contents false agents perfect (Extensive tree) = tree_answer-contents agents perfect tree

-- ---- commands
-- each tool that is built has a line
pub tool_of-contents : (command : Command) (game : Game) (r : Refusal) → tool_of command game (Err r) → IsOfContents r
tool_of-contents (Enumpure strategic agents perfect file) game r h = enumpure-contents strategic agents perfect game r h
tool_of-contents (Enummixed all workers file) game r h = enummixed-contents all game r h
tool_of-contents (Lcp strategic perfect file) game r h = lcp_tool-contents strategic perfect game r h
tool_of-contents (Lp strategic prices perfect file) game r h = lp_tool-contents strategic prices perfect game r h
tool_of-contents (Convert layout row column file) game r h = convert-contents layout row column game r h
tool_of-contents _ game r h = absurd h
