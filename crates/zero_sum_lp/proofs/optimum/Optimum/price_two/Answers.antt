use Rattle.sequence_data.specs.Data.{side_of}
use Rattle.std.proofs.Common.{◌≡◌, ◌∙◌, subst}
use Rattle.zero_sum_lp.specs.Programs.{price_two as second_price}
use Rattle.lex_tableau.specs.Rows.{tableau}
use Rattle.zero_sum_lp.specs.Parts.{Program}
use Rattle.zero_sum_lp.proofs.OptimumLemmas.{second_price_is, second_variable}
use Rattle.zero_sum_lp.proofs.optimum.Optimum.price_two.Goals as goal

pub returns : goal.returns
returns c =
    subst (λ (p : Program). c.value.result ≡ second_price (side_of p.first) (side_of p.second) (tableau p.tableau) c.args.k) c.self.view_is (second_price_is (record { first = c.self.inside.first; second = c.self.inside.second; tableau = c.self.inside.work }) c.self.invariant.0 c.now.result.now c.now.ensures.value c.self.inside.objective c.self.invariant.1 c.args.k c.value.result _ (second_variable c.self.inside.first c.self.inside.second c.self.inside.objective c.sequences.result c.args.k c.self.invariant.1 (c.sequences.ensures ∙ c.self.invariant.0.first.sequences_are)) c.value.ensures.value)
