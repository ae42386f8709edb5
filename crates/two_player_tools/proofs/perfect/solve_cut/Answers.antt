use Rattle.std.proofs.Common.{◌∙◌, inl, inr, Ok, Err, ap, sym, subst}
use Rattle.answers.specs.Answers.{Gives, refused_by}
use Rattle.answers.proofs.AnswerLemmas.{gives_stop_as}
use Rattle.behaviour_profile.specs.EntryStarts.{AreBehaviourEntries}
use Rattle.refusals.specs.declared.refusal.Refusal.TheVariants as refusal
use Rattle.two_player_tools.specs.Perfect.{cut_entries_in, entries_by, in_subgame, entry_payoffs_fit, worth_refusal}
use Rattle.two_player_tools.proofs.KnownCutLemmas.{cut-done, cut-unpaid, cut-unsolved}
use Rattle.two_player_tools.proofs.perfect.solve_cut.Goals.{then-root-eq0, else-root-eq0+in_ok-payoffs}
use Rattle.two_player_tools.proofs.perfect.solve_cut.Goals as goal

pub returns-in-Err-clause-answer : goal.returns-in-Err-clause-answer
returns-in-Err-clause-answer c =
    let cut = c.args.cut.now in
    let r = c.in-Err.refusal in
    subst (λ r. Gives refusal.Memory (cut_entries_in c.args.method c.args.root cut) (Err r)) (sym (c.in_subgame.ensures ∙ ap (λ nodes. in_subgame c.args.root nodes r) c.nodes.ensures))
    (cut-unsolved c.args.method c.args.root cut r (subst (λ tree. Gives refusal.Memory (entries_by c.args.method tree) (Err r)) c.tree.ensures c.in-Err.ensures.answer))

pub payoffs_of-requires : goal.payoffs_of-requires
payoffs_of-requires c = record { entries = subst (λ tree. AreBehaviourEntries tree c.in-Ok.behaviour) (c.tree.ensures ∙ sym c.tree-else-root-eq0.ensures) c.in-Ok.ensures.entries }

pub returns-in_err-payoffs-clause-answer : goal.returns-in_err-payoffs-clause-answer
returns-in_err-payoffs-clause-answer c =
    let cut = c.args.cut.now in
    let entries = c.in-Ok.behaviour in
    let stop = c.in_err-payoffs.field-0.0 in
    gives_stop_as refusal.Memory (cut_entries_in c.args.method c.args.root cut) stop c.from_residual.result (λ solved. solved.behaviour)
    (cut-unpaid c.args.method c.args.root cut entries stop (subst (λ tree. entries_by c.args.method tree (Ok entries)) c.tree.ensures c.in-Ok.ensures.answer) c.if-root-eq0.false
    (subst (λ tree. Gives refusal.Memory (refused_by (worth_refusal c.args.root) (entry_payoffs_fit tree entries)) (Err stop)) c.tree-else-root-eq0.ensures c.in_err-payoffs.ensures.stops)) c.from_residual.ensures.1

pub returns-clause-answer : goal.returns-clause-answer
returns-clause-answer c =
    let cut = c.args.cut.now in
    let entries = c.in-Ok.behaviour in
    let made : entries_by c.args.method cut.tree (Ok entries) = subst (λ tree. entries_by c.args.method tree (Ok entries)) c.tree.ensures c.in-Ok.ensures.answer in
    elim c.if-root-eq0.branch [
      | then-root-eq0 w ↦ cut-done c.args.method c.args.root cut entries made (inl w.if-root-eq0.true)
      | else-root-eq0+in_ok-payoffs w ↦ cut-done c.args.method c.args.root cut entries made (inr (w.if-root-eq0.false, subst (λ tree. entry_payoffs_fit tree entries (Ok tt)) w.tree-else-root-eq0.ensures w.in_ok-payoffs.ensures.stops))
    ]

pub returns-clause-entries : goal.returns-clause-entries
returns-clause-entries c = subst (λ tree. AreBehaviourEntries tree c.in-Ok.behaviour) c.tree.ensures c.in-Ok.ensures.entries
