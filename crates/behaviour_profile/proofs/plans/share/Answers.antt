use Rattle.std.proofs.Common.{◌∙◌, sym}
use Rattle.std.proofs.lemmas.Bool.{false≢true}
use Rattle.behaviour_profile.proofs.TakenShareLemmas.{equal_share, divided_share}
use Rattle.behaviour_profile.proofs.plans.share.Goals as goal

pub returns-then-is_zero : goal.returns-then-is_zero
returns-then-is_zero c = equal_share c.args.count c.args.before c.args.after (c.is_zero.ensures.0 c.if-is_zero.true) c.over.result c.over.ensures

pub returns-else-is_zero : goal.returns-else-is_zero
returns-else-is_zero c =
    divided_share c.args.count c.args.before c.args.after (λ e. false≢true (sym c.if-is_zero.false ∙ c.is_zero.ensures.1 e)) c.div.result c.div.ensures.value c.div.ensures.fits c.div.ensures.step c.div.ensures.unfit
