-- Refusals where a tree is solved subgame by subgame come from the contents of the input, and the steps that they name do not
-- fit.
use Rattle.std.proofs.Common.{ℕ, ◌≡◌, inl, inr, refl, Bool, true, false, List, Err}
use Rattle.std.specs.List.{range_with_len}
use Rattle.answers.specs.Answers.{by_case, only, ◌>>=◌, ◌>>◌, refused_by}
use Rattle.rational.specs.Rational.{ℚ}
use Rattle.game_theory.specs.Lines.{line_text}
use Rattle.game_core.specs.Tree.{GameTree}
use Rattle.game_core.specs.TreeGame.{game_of_tree}
use Rattle.game_core.specs.declared.game.Game.{Game}
use Rattle.game_core.specs.declared.game.Game.TheVariants.{Strategic, Extensive}
use Rattle.behaviour_profile.specs.Plans.{plan_behaviour}
use Rattle.perfect_recall.specs.Found.{recall_of}
use Rattle.sequence_data.specs.Data.{FormData}
use Rattle.subgames.specs.MadeCuts.{MadeCut}
use Rattle.verdicts.specs.TreeSteps.{behaviour_steps_at}
use Rattle.pure_payoffs.specs.declared.stop.PayoffStop.{PayoffStop}
use Rattle.pure_payoffs.specs.declared.stop.PayoffStop.TheVariants as payoffs_stop
use Rattle.sequence_data.specs.PlanPairs.{PlanPair}
use Rattle.refusals.specs.Told.{behaviour_refusal, recall_refusal}
use Rattle.refusals.specs.declared.refusal.Refusal.{Refusal}
use Rattle.refusals.specs.declared.refusal.Refusal.TheVariants as refusal
use Rattle.two_player_tools.specs.Lp.{solution_in}
use Rattle.two_player_tools.specs.Perfect.{cut_entries_in, entries_by, in_subgame, lcp_tool, lp_tool, entry_payoffs_fit, perfect_in, perfect_text, plans_by, worth_refusal}
use Rattle.two_player_tools.specs.TwoPlayers.{tree_form_within, rows_by, two_players}
use Rattle.two_player_tools.specs.declared.forms.Method.{Method}
use Rattle.two_player_tools.specs.declared.forms.Method.TheVariants.{LinearProgram, Complementarity}
use Rattle.gambit_tools.proofs.FormContentLemmas.{AreContents, IsOfContents, behaviour-contents, fitting-reasons, form_in-contents, only-contents, recall-contents, then-contents, told-contents, two_players-contents}
use Rattle.gambit_tools.proofs.LcpContentLemmas.{equilibrium-contents, lcp-contents}
use Rattle.gambit_tools.proofs.LpContentLemmas.{lp-contents, solution_in-contents}

-- ---- one tree
plans-contents : (method : Method) (form : FormData) → AreContents (plans_by method form)
plans-contents LinearProgram form = then-contents (solution_in form) (λ s. only (record { one = s.one; two = s.two })) (solution_in-contents form) (λ s. only-contents _)
plans-contents Complementarity form = equilibrium-contents form

entries_by-contents : (method : Method) (t : GameTree) → AreContents (entries_by method t)
entries_by-contents method t =
    let line = λ (plans : PlanPair). refused_by behaviour_refusal (plan_behaviour t plans.one plans.two) in
    then-contents (tree_form_within (rows_by method) t) (λ form. plans_by method form >>= line) (form_in-contents (rows_by method) false (Extensive t))
    (λ form. then-contents (plans_by method form) line (plans-contents method form)
    (λ plans. told-contents behaviour_refusal (plan_behaviour t plans.one plans.two) (behaviour-contents t plans.one plans.two)))

-- ---- cuts
-- a refusal comes from the contents as it is told of the tree
in_subgame-contents : (n : ℕ) (nodes : List ℕ) (r : Refusal) → IsOfContents r → IsOfContents (in_subgame n nodes r)
in_subgame-contents n nodes (refusal.Range place step) h = h
in_subgame-contents n nodes (refusal.NotConstant sums) h = refl
in_subgame-contents n nodes r h = h

payoffs-contents : (n : ℕ) (t : GameTree) (entries : List ℚ) (stop : PayoffStop) → entry_payoffs_fit t entries (Err stop) → IsOfContents (worth_refusal n stop)
payoffs-contents n t entries stop (b, _, h) =
    fitting-reasons (worth_refusal n) (λ unfit. payoffs_stop.Range unfit.0 unfit.1) (λ i. behaviour_steps_at (game_of_tree t) b i 0) (range_with_len 0 (game_of_tree t).players) (λ unfit u. u) stop h

cut_entries_in-contents : (method : Method) (n : ℕ) (cut : MadeCut) → AreContents (cut_entries_in method n cut)
cut_entries_in-contents method n cut =
    let paid = λ (entries : List ℚ). by_case (n ≡ 0) (only tt) (refused_by (worth_refusal n) (entry_payoffs_fit cut.tree entries)) in
    then-contents (refused_by (in_subgame n cut.nodes) (entries_by method cut.tree)) (λ entries. paid entries >> only entries)
    (told-contents (in_subgame n cut.nodes) (entries_by method cut.tree) (λ stop h. in_subgame-contents n cut.nodes stop (entries_by-contents method cut.tree stop h)))
    (λ entries. then-contents (paid entries) (λ _. only entries) (unpaid entries) (λ _. only-contents entries))
  where
    unpaid : (entries : List ℚ) → AreContents (by_case (n ≡ 0) (only tt) (refused_by (worth_refusal n) (entry_payoffs_fit cut.tree entries)))
    unpaid entries r (inl h) = only-contents tt r h.1
    unpaid entries r (inr h) = told-contents (worth_refusal n) (entry_payoffs_fit cut.tree entries) (payoffs-contents n cut.tree entries) r h.1

-- ---- the tree
perfect_in-contents : (method : Method) (t : GameTree) → AreContents (perfect_in method t)
perfect_in-contents method t r (worth, b, n, below, root, solved, stopped) = cut_entries_in-contents method n stopped.cut r stopped.stops

perfect_text-contents : (method : Method) (t : GameTree) → AreContents (perfect_text method t)
perfect_text-contents method t =
    let line = λ (entries : List ℚ). only (line_text entries) in
    then-contents (two_players (Extensive t)) (λ _. refused_by recall_refusal (recall_of t) >> (perfect_in method t >>= line)) (two_players-contents (Extensive t))
    (λ _. then-contents (refused_by recall_refusal (recall_of t)) (λ _. perfect_in method t >>= line) (told-contents recall_refusal (recall_of t) (recall-contents t))
    (λ _. then-contents (perfect_in method t) line (perfect_in-contents method t) (λ entries. only-contents (line_text entries))))

-- ---- the tools
pub lcp_tool-contents : (strategic perfect : Bool) (game : Game) (r : Refusal) → lcp_tool strategic perfect game (Err r) → IsOfContents r
lcp_tool-contents strategic true (Strategic table) r h = lcp-contents strategic (Strategic table) r h
lcp_tool-contents strategic true (Extensive t) r h = perfect_text-contents Complementarity t r h
lcp_tool-contents strategic false game r h = lcp-contents strategic game r h

pub lp_tool-contents : (strategic prices perfect : Bool) (game : Game) (r : Refusal) → lp_tool strategic prices perfect game (Err r) → IsOfContents r
lp_tool-contents strategic prices true (Strategic table) r h = lp-contents strategic prices (Strategic table) r h
lp_tool-contents strategic prices true (Extensive t) r h = perfect_text-contents LinearProgram t r h
lp_tool-contents strategic prices false game r h = lp-contents strategic prices game r h
