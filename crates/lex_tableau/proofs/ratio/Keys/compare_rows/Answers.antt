use Rattle.std.proofs.Common.{arith, suc, sym, ◌∙◌}
use Rattle.lex_tableau.proofs.RatioRowLemmas.{order_at}
use Rattle.lex_tableau.proofs.ratio.Keys.compare_rows.Goals as goal

pub returns-then-is_ne : goal.returns-then-is_ne
returns-then-is_ne c =
    order_at (suc c.args.self.now.rated) c.loop-place.place _ _ c.compare_at-order.result (omega (arith, c.loop-place-test.true)) c.loop-place.invariant c.compare_at-order.ensures (sym c.is_ne.ensures ∙ c.if-is_ne.true)
