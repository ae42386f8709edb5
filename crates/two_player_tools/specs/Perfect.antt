-- The behaviour that a tool finds subgame by subgame, from the last to the first: in each cut a
-- behaviour that solves it, where the ends at which later subgames begin are worth what was found
-- for these. Source: Selten 1965; Kuhn 1953.
use Rattle.std.specs.Prelude.{ℕ, suc, ◌<◌, ◌≤◌, ◌≡◌, ◌≢◌, Bool, true, List, length, slice_index, Ok, Err}
use Rattle.answers.specs.Answers.{Answer, by_case, only, ◌>>=◌, ◌>>◌, refused_by}
use Rattle.rational.specs.Rational.{ℚ}
use Rattle.game_theory.specs.Behaviour.{Behaviour, payoff}
use Rattle.game_theory.specs.Lines.{line_text}
use Rattle.game_theory.specs.TreeEntries.{tree_entries}
use Rattle.game_core.specs.Tree.{GameTree}
use Rattle.game_core.specs.TreeGame.{game_of_tree}
use Rattle.game_core.specs.declared.game.Game.{Game}
use Rattle.game_core.specs.declared.game.Game.TheVariants.{Extensive}
use Rattle.behaviour_profile.specs.Plans.{plan_behaviour}
use Rattle.perfect_recall.specs.Found.{recall_of}
use Rattle.sequence_data.specs.Data.{FormData}
use Rattle.subgames.specs.CutGames.{cut_behaviour}
use Rattle.subgames.specs.CutTrees.{IsCutAt}
use Rattle.subgames.specs.MadeCuts.{MadeCut}
use Rattle.subgames.specs.Roots.{IsSubgameRoot}
use Rattle.verdicts.specs.BehaviourPayoffs.{behaviour_payoffs_fit}
use Rattle.pure_payoffs.specs.declared.stop.PayoffStop.{PayoffStop}
use Rattle.pure_payoffs.specs.declared.stop.PayoffStop.TheVariants as payoffs_stop
use Rattle.sequence_data.specs.PlanPairs.{PlanPair}
use Rattle.refusals.specs.Told.{behaviour_refusal, recall_refusal}
use Rattle.refusals.specs.declared.refusal.Refusal.{Refusal}
use Rattle.refusals.specs.declared.refusal.Refusal.TheVariants as refusal
use Rattle.refusals.specs.declared.site.Site.TheVariants as site
use Rattle.two_player_tools.specs.Lcp.{equilibrium_in, lcp}
use Rattle.two_player_tools.specs.Lp.{lp, solution_in}
use Rattle.two_player_tools.specs.TwoPlayers.{tree_form_within, rows_by, two_players}
use Rattle.two_player_tools.specs.declared.forms.Method.{Method}
use Rattle.two_player_tools.specs.declared.forms.Method.TheVariants.{LinearProgram, Complementarity}

-- ---- one tree
-- the plans that a method finds for a form
abbrev pub plans_by : Method → FormData → Answer Refusal PlanPair
plans_by LinearProgram form = do
  solved ← solution_in form
  only (record { one = solved.one; two = solved.two })
plans_by Complementarity form = equilibrium_in form

-- the entries of the behaviour that a method finds for a tree
abbrev pub entries_by : Method → GameTree → Answer Refusal (List ℚ)
entries_by method t = do
  form ← tree_form_within (rows_by method) t
  plans ← plans_by method form
  refused_by behaviour_refusal (plan_behaviour t plans.one plans.two)

-- ---- refusals
-- A refusal in the cut at node n as it is told of the tree: a step with the subgame that begins
-- there, and ends by their numbers in the tree.
abbrev pub in_subgame : ℕ → (nodes : List ℕ) → Refusal → Refusal
in_subgame n nodes (refusal.Range place step) = refusal.SubgameRange n place step
in_subgame n nodes (refusal.NotConstant sums) =
    refusal.NotConstant (record {
      first = slice_index nodes sums.first;
      second = slice_index nodes sums.second;
      first_sum = sums.first_sum;
      second_sum = sums.second_sum;
    })
in_subgame n nodes r = r

-- why what node n is worth to the players is not computed
abbrev pub worth_refusal : ℕ → PayoffStop → Refusal
worth_refusal n (payoffs_stop.Range player step) =
    refusal.SubgameRange n (site.PlayerValue player) step
worth_refusal n payoffs_stop.Memory = refusal.Memory

-- ---- cuts
-- the steps of what behaviour with these entries pays fit; or the first that does not, with its
-- player
abbrev pub entry_payoffs_fit : GameTree → List ℚ → Answer PayoffStop (Unit {0})
entry_payoffs_fit t entries answer =
    (b : Behaviour) × (entries ≡ tree_entries (game_of_tree t) b)
    × behaviour_payoffs_fit (game_of_tree t) b answer

-- The entries of the behaviour that a method finds for the cut at node n, which pays each player
-- what can be computed; at the tree's root that is not asked.
abbrev pub cut_entries_in : Method → ℕ → MadeCut → Answer Refusal (List ℚ)
cut_entries_in method n cut = do
  entries ← refused_by (in_subgame n cut.nodes) (entries_by method cut.tree)
  by_case (n ≡ 0) (only tt) (refused_by (worth_refusal n) (entry_payoffs_fit cut.tree entries))
  only entries

-- the cut at node n is solved by behaviour b, and to each player the node is worth what this pays
-- there
pub record IsSolvedAt (method : Method) (t : GameTree) (worth : ℕ → ℕ → ℚ) (b : Behaviour) (n : ℕ)
    : Type 0 where
  pub cut : MadeCut
  pub is_cut : IsCutAt t n worth cut.nodes cut.sets cut.tree
  pub solved : cut_entries_in method n cut
      (Ok (tree_entries (game_of_tree cut.tree) (cut_behaviour cut.sets b)))
  pub worth_is : n ≢ 0 → (i : ℕ) → i < length t.players
      → worth n i ≡ payoff (game_of_tree cut.tree) (cut_behaviour cut.sets b) i

-- the cuts at the nodes from node n on where subgames begin are solved
abbrev pub AreCutsSolvedFrom : Method → GameTree → (ℕ → ℕ → ℚ) → Behaviour → ℕ → Type 0
AreCutsSolvedFrom method t worth b n =
    (m : ℕ) → n ≤ m → m < length t.nodes → IsSubgameRoot (game_of_tree t) m
    → IsSolvedAt method t worth b m

-- why the cut at node n is not solved
pub record IsStoppedAt (method : Method) (t : GameTree) (worth : ℕ → ℕ → ℚ) (n : ℕ) (r : Refusal)
    : Type 0 where
  pub cut : MadeCut
  pub is_cut : IsCutAt t n worth cut.nodes cut.sets cut.tree
  pub stops : cut_entries_in method n cut (Err r)

-- ---- the tree
-- the entries of behaviour that solves the cut wherever a subgame begins; or why the last cut that
-- is not solved is not
abbrev pub perfect_in : Method → GameTree → Answer Refusal (List ℚ)
perfect_in method t (Ok entries) =
    (worth : ℕ → ℕ → ℚ) × (b : Behaviour) × AreCutsSolvedFrom method t worth b 0
    × (entries ≡ tree_entries (game_of_tree t) b)
perfect_in method t (Err r) =
    (worth : ℕ → ℕ → ℚ) × (b : Behaviour) × (n : ℕ) × (n < length t.nodes)
    × IsSubgameRoot (game_of_tree t) n × AreCutsSolvedFrom method t worth b (suc n)
    × IsStoppedAt method t worth n r

-- the line of these entries, of a tree of two players who recall
abbrev pub perfect_text : Method → GameTree → Answer Refusal (List ℕ)
perfect_text method t = do
  two_players (Extensive t)
  refused_by recall_refusal (recall_of t)
  entries ← perfect_in method t
  only (line_text entries)

-- ---- the tools
-- the answer of the tool `lcp`: of a tree subgame by subgame where that is asked for
abbrev pub lcp_tool : (strategic perfect : Bool) → Game → Answer Refusal (List ℕ)
lcp_tool strategic true (Extensive t) = perfect_text Complementarity t
lcp_tool strategic _ game = lcp strategic game

-- the answer of the tool `lp`, likewise
abbrev pub lp_tool : (strategic prices perfect : Bool) → Game → Answer Refusal (List ℕ)
lp_tool strategic prices true (Extensive t) = perfect_text LinearProgram t
lp_tool strategic prices _ game = lp strategic prices game
