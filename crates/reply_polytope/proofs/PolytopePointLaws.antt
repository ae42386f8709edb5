-- The points of a game's two systems are those of its polytopes.
use Rattle.linear_systems.proofs.AgreementLemmas.{alike_sym}
use Rattle.linear_systems.proofs.AlikeVertexLemmas.{point_alike}
use Rattle.extreme_equilibria.specs.Laws.{SolutionsAreThePolytopes}
use Rattle.reply_polytope.specs.Laws.{SystemsAreThePolytopes}

-- by the points of the two tableaux that the systems are
pub systems-are : SolutionsAreThePolytopes → SystemsAreThePolytopes
systems-are law = record {
  first = λ g least least' one two x p h. law.first p.m p.n _ x (point_alike _ _ x (alike_sym _ _ p.is_first.alike) h);
  first_back = λ g least least' one two q p h.
      let found = law.first_back p.m p.n _ q h in
      (found.0, point_alike _ _ found.0 p.is_first.alike found.1, found.2);
  second = λ g least least' one two x p h. law.second p.m p.n _ x (point_alike _ _ x (alike_sym _ _ p.is_second.alike) h);
  second_back = λ g least least' one two q p h.
      let found = law.second_back p.m p.n _ q h in
      (found.0, point_alike _ _ found.0 p.is_second.alike found.1, found.2);
}
