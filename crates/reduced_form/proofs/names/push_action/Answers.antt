use Rattle.std.proofs.Common.{ℕ, List, ◌++◌, sym, ap, ◌∙◌}
use Rattle.reduced_form.proofs.ActionTextLemmas.{action_text-digit}
use Rattle.reduced_form.proofs.names.push_action.Goals as goal

pub returns-in_ok-push-2 : goal.returns-in_ok-push-2
returns-in_ok-push-2 c = c.in_ok-push-2.ensures.items ∙ ap (λ (x : List ℕ). c.args.name.now.items ++ x) (sym (action_text-digit c.args.action c.if-action-eq0.false c.if-action-le9.true))
