use Rattle.std.proofs.Common.{◌∙◌, sym}
use Rattle.enummixed.proofs.RankLemmas.{next-greater}
use Rattle.enummixed.proofs.order.next_rank.Goals as goal

pub returns-else-is_eq-clause-compare : goal.returns-else-is_eq-clause-compare
returns-else-is_eq-clause-compare c =
    next-greater c.args.previous.now c.args.point.now c.compare_points.result c.args.rank c.compare_points.ensures (sym c.is_eq.ensures ∙ c.if-is_eq.false) c.requires.order
