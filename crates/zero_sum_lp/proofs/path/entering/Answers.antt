use Rattle.std.proofs.Common.{rules, tests, arith, length}
use Rattle.std.proofs.lemmas.Iterator.{YieldsList-from_range}
use Rattle.std.proofs.lemmas.Iterator.Consumers.{YieldsList-from_filter, YieldsList-at}
use Rattle.rational.specs.Rational.{zero_ℚ, ◌<ℚ◌}
use Rattle.rational.proofs.Decide.{lt_test-true}
use Rattle.lex_tableau.specs.Rows.{tableau}
use Rattle.lists.proofs.LeastKeyLemmas.{equal_tests}
use Rattle.zero_sum_lp.proofs.EnteringColumnLemmas.{enters, is_below}
use Rattle.zero_sum_lp.proofs.path.entering.Goals as goal

pub returns : goal.returns
returns c =
    let t = tableau c.args.current.now in
    let n = length c.args.current.now.nonbasics in
    enters c.args.objective t (λ x k q h. search (rules, tests)) c.min_by_key.result c.min_by_key.ensures.ran
    (YieldsList-from_filter _ (is_below c.args.objective t) (YieldsList-at c.filter.ensures.source (YieldsList-from_range 0 n n (cc) (omega arith))) c.filter.ensures.closure
    (λ x b q k. (search (rules, tests), equal_tests (t.cell c.args.objective x <ℚ zero_ℚ) b (is_below c.args.objective t x) (search (rules, tests)) (lt_test-true (t.cell c.args.objective x) zero_ℚ))))
