use Rattle.sequence_data.specs.Data.{side_of}
use Rattle.std.proofs.Common.{sym, ◌≤◌, ◌≡◌, ◌+◌, length, subst}
use Rattle.zero_sum_lp.specs.Programs.{price_one as first_price}
use Rattle.lex_tableau.specs.Rows.{tableau}
use Rattle.zero_sum_lp.specs.Parts.{Program}
use Rattle.zero_sum_lp.proofs.OptimumLemmas.{read_row, read_other, first_price_is, few_sets}
use Rattle.zero_sum_lp.proofs.optimum.Optimum.price_one.Goals as goal

pub objective_entry-requires-clause-row_in : goal.objective_entry-requires-clause-row_in
objective_entry-requires-clause-row_in c = read_row (record { first = c.self.inside.first; second = c.self.inside.second; tableau = c.self.inside.work }) c.self.invariant.0 c.now.result.now c.now.ensures.value c.self.inside.objective c.self.invariant.1

pub objective_entry-requires-clause-other : goal.objective_entry-requires-clause-other
objective_entry-requires-clause-other c =
    read_other (record { first = c.self.inside.first; second = c.self.inside.second; tableau = c.self.inside.work }) c.self.invariant.0 c.now.result.now c.now.ensures.value c.self.inside.objective c.self.invariant.1 (c.args.k + 1) (few_sets c.self.inside.first c.self.inside.second c.args.k (subst (λ (p : Program). c.args.k ≤ length p.first.sets) (sym c.self.view_is) c.requires))

pub returns : goal.returns
returns c =
    subst (λ (p : Program). c.objective_entry.result ≡ first_price (side_of p.first) (side_of p.second) (tableau p.tableau) c.args.k) c.self.view_is (first_price_is (record { first = c.self.inside.first; second = c.self.inside.second; tableau = c.self.inside.work }) c.self.invariant.0 c.now.result.now c.now.ensures.value c.self.inside.objective c.self.invariant.1 c.args.k c.objective_entry.result c.objective_entry.ensures)
