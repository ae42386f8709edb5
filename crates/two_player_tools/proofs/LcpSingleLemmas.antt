-- The tool `lcp` has at most one answer.
use Rattle.std.proofs.Common.{Bool}
use Rattle.answers.specs.Answers.{IsSingle, ◌>>=◌, only, refused_by}
use Rattle.answers.proofs.AnswerLemmas.{bind-single, only-single, refused_by-single}
use Rattle.game_core.specs.declared.game.Game.{Game}
use Rattle.sequence_data.specs.Data.{FormData, IsFormData}
use Rattle.sequence_data.specs.Sizes.{problem_rows}
use Rattle.sequence_data.specs.PlanPairs.{PlanPair}
use Rattle.lemke_pivot.specs.Ends.{solved_in}
use Rattle.lemke_pivot.specs.FormProblems.{problem_in}
use Rattle.lemke_pivot.proofs.FormProblemLemmas.{problems_of_forms}
use Rattle.lemke_pivot.proofs.PathEndLemmas.{ends_same}
use Rattle.lemke_pivot.proofs.ProblemAnswerLemmas.{problems_single}
use Rattle.lemke_pivot.specs.Parts.{plans_at}
use Rattle.two_player_tools.specs.Entries.{plans_line}
use Rattle.two_player_tools.specs.GameTypes.{IsGame}
use Rattle.two_player_tools.specs.Lcp.{equilibrium_in, lcp}
use Rattle.refusals.specs.Told.{pivot_refusal, problem_refusal}
use Rattle.two_player_tools.specs.TwoPlayers.{form_in, two_players}
use Rattle.two_player_tools.proofs.FormSingleLemmas.{RecallsAreSingle, form_in-single, plans_line-single, two_players-single}
use Rattle.two_player_tools.proofs.KeptPropertyLemmas.{TreesAreGames, form_in-valid}

-- ---- the plans
pub equilibrium_in-single : (f : FormData) → IsFormData f → IsSingle (equilibrium_in f)
equilibrium_in-single f w =
    bind-single (refused_by problem_refusal (problem_in f)) (λ p. refused_by pivot_refusal (solved_in p) >>= λ s. only (plans_at s))
    (refused_by-single problem_refusal (problem_in f) (problems_single f))
    (λ p k. bind-single (refused_by pivot_refusal (solved_in p)) (λ s. only (plans_at s)) (refused_by-single pivot_refusal (solved_in p) (ends_same p (problems_of_forms f p w k).0)) (λ s _. only-single (plans_at s)))

-- ---- the text
pub lcp-single : (strategic : Bool) (game : Game) → TreesAreGames → RecallsAreSingle → IsGame game → IsSingle (lcp strategic game)
lcp-single strategic game laws recalls w =
    let line = λ (plans : PlanPair). plans_line strategic game plans.one plans.two in
    bind-single (two_players game) (λ _. form_in problem_rows strategic game >>= λ f. (equilibrium_in f >>= line))
    (two_players-single game)
    (λ _ _. bind-single (form_in problem_rows strategic game) (λ f. equilibrium_in f >>= line) (form_in-single problem_rows strategic game recalls w)
    (λ f k. bind-single (equilibrium_in f) line (equilibrium_in-single f (form_in-valid problem_rows strategic game f laws w k)) (λ plans _. plans_line-single strategic game plans.one plans.two)))
