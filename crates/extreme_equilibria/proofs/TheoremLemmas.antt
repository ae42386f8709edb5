-- The laws on completely labelled pairs, in the words of their statements.
use Rattle.rational.specs.Rational.{inv_ℚ}
use Rattle.rational.proofs.InverseLemmas.{ne_zero_of_pos, inv_pos}
use Rattle.extreme_equilibria.specs.Bimatrix.{mean_gain}
use Rattle.extreme_equilibria.specs.Laws.{LabelledPairsAreEquilibria, EquilibriaAreLabelledPairs, ExtremeWhereVertices, ZeroPairsWithZero, ZerosAreLabelled}
use Rattle.extreme_equilibria.proofs.ScalingLemmas.{pair_in, pair_out, pair_of, payoff-pos, scaled_back, equilibrium_of}
use Rattle.extreme_equilibria.proofs.VertexLemmas.{zero_together, nonzero_together, zeros_labelled, zero_extreme, points_of, of_points}

pub labelled_pairs_are_equilibria : LabelledPairsAreEquilibria
labelled_pairs_are_equilibria m n a c p q h = equilibrium_of (pair_in m n a c p q h)

pub equilibria_are_labelled_pairs : EquilibriaAreLabelledPairs
equilibria_are_labelled_pairs m n a c x y pa pc s = (
  pair_out m n a c _ _ (pair_of m n a c x y pa pc s),
  λ i h. scaled_back m x (inv_ℚ (mean_gain n m c y x)) s.first_mixed.sum_is_one (ne_zero_of_pos _ (inv_pos _ (payoff-pos n m c y x pc s.second_mixed s.first_mixed))) i,
  λ j h. scaled_back n y (inv_ℚ (mean_gain m n a x y)) s.second_mixed.sum_is_one (ne_zero_of_pos _ (inv_pos _ (payoff-pos m n a x y pa s.first_mixed s.second_mixed))) j,
)

pub extreme_where_vertices : ExtremeWhereVertices
extreme_where_vertices m n a c p q pa pc h = (
  λ e. let r = points_of (pair_in m n a c p q h) e in (r.first_vertex, r.second_vertex),
  λ e. of_points pa pc (record { first_vertex = e.0; second_vertex = e.1; labelled = h.labelled; first_nonzero = h.first_nonzero; second_nonzero = h.second_nonzero }),
)

pub zero_pairs_with_zero : ZeroPairsWithZero
zero_pairs_with_zero m n a c p q h = (zero_together m n a c p q h, nonzero_together m n a c p q h)

pub zeros_are_labelled : ZerosAreLabelled
zeros_are_labelled m n a c = (zeros_labelled m n a c, zero_extreme m n c, zero_extreme n m a)
