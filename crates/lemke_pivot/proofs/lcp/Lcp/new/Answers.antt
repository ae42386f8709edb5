use Rattle.lemke_pivot.proofs.PathStartLemmas.{starts_for}
use Rattle.lemke_pivot.proofs.lcp.Lcp.new.Goals as goal

pub invariant_of-result : goal.invariant_of-result
invariant_of-result c =
    (record { first = c.requires.first_side; second = c.requires.second_side; few = c.requires.few; start = starts_for c.args.first c.args.second c.args.system.now c.in_ok-work.work c.requires.problem c.in_ok-work.ensures.2.start c.in_ok-work.ensures.2.valid }, c.row_count-size.ensures)
