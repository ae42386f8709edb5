-- What the pairs of a game stand for
use Rattle.std.specs.Prelude.{◌≡◌, map}
use Rattle.basis_enum.specs.Vertices.{marks_of, vertex_list}
use Rattle.enummixed.specs.Used.{occurs, scaled_used}
use Rattle.enummixed.specs.ExtremeText.{VertexPairs}
use Rattle.enummixed.specs.declared.extreme.ExtremePairs.{ExtremePairs}

-- the vertices and the pairs
abbrev pub pairs_of : ExtremePairs → VertexPairs
pairs_of e = record {
  first = vertex_list e.first;
  second = vertex_list e.second;
  pairs = e.pairs.items;
}

-- the points of the vertices that stand in a pair are scaled
pub record AreScaled (e : ExtremePairs) : Type 0 where
  pub firsts : map (λ v. v.items) e.firsts.items
      ≡ scaled_used (marks_of e.first.list.items) (occurs (map (λ p. p.0) e.pairs.items))
  pub seconds : map (λ v. v.items) e.seconds.items
      ≡ scaled_used (marks_of e.second.list.items) (occurs (map (λ p. p.1) e.pairs.items))
