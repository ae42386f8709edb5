use Rattle.std.proofs.Common.{ℕ, ◌≡◌, ◌⊎◌, inl, inr, Bool, true, false, List, Result, Err, sym, true≢false}
use Rattle.std.proofs.lemmas.Result.{err_from_is_err_and}
use Rattle.answers.specs.Answers.{Gives, refused_by}
use Rattle.answers.proofs.AnswerLemmas.{gives_refused}
use Rattle.game_core.specs.Tree.{GameTree}
use Rattle.game_core.specs.TreeGame.{game_of_tree}
use Rattle.enumpure_trees.specs.PassingStops.{passing_text}
use Rattle.enumpure_trees.specs.declared.stop.ChoiceStop.TheVariants as choice_stop
use Rattle.refusals.specs.Told.{choice_refusal}
use Rattle.refusals.specs.declared.refusal.Refusal.{Refusal}
use Rattle.refusals.specs.declared.refusal.Refusal.TheVariants as refusal
use Rattle.gambit_tools.specs.Enumpure.{tree_answer}
use Rattle.gambit_tools.proofs.pure.tree_equilibria.Goals as goal
use Rattle.gambit_tools.proofs.pure.tree_equilibria.Goals.{then-agents-via-then-agents, then-agents-via-else-agents+then-perfect}

-- where the agent form or subgames are asked for, the answer is that of the choices that pass
tree_told : (agents perfect : Bool) (tree : GameTree) (answer : Result (List ℕ) Refusal) → (agents ≡ true) ⊎ (perfect ≡ true) → Gives refusal.Memory (refused_by choice_refusal (passing_text agents perfect (game_of_tree tree))) answer → Gives refusal.Memory (tree_answer agents perfect tree) answer
tree_told true perfect tree answer e g = g
tree_told false true tree answer e g = g
tree_told false false tree answer (inl e) g = absurd (true≢false (sym e))
tree_told false false tree answer (inr e) g = absurd (true≢false (sym e))

pub returns-in_err-list_passing_choices : goal.returns-in_err-list_passing_choices
returns-in_err-list_passing_choices c =
    let p = err_from_is_err_and c.from_residual.result c.from_residual.ensures.1 in
    let stop = c.in_err-list_passing_choices.field-0.0 in
    let t = game_of_tree c.args.tree.now in
    let given = gives_refused choice_stop.Memory choice_refusal (passing_text c.args.agents c.args.perfect t) (Err stop) c.in_err-list_passing_choices.ensures in
    rw (p.1, p.2) (elim c.then-agents.branch [
      | then-agents-via-then-agents w ↦ tree_told c.args.agents c.args.perfect c.args.tree.now (Err (choice_refusal stop)) (inl w.if-agents.true) given
      | then-agents-via-else-agents+then-perfect w ↦ tree_told c.args.agents c.args.perfect c.args.tree.now (Err (choice_refusal stop)) (inr w.if-perfect.true) given
    ])
