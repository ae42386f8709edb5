-- Systems that are alike have the same points, extreme points and vertices.
use Rattle.std.proofs.Common.{ℕ, ◌<◌, get_or, sym, ap, ◌∙◌, subst}
use Rattle.rational.specs.Rational.{ℚ}
use Rattle.linear_systems.specs.Tableau.{Tableau}
use Rattle.linear_systems.specs.Rows.{Alike}
use Rattle.linear_systems.proofs.AgreementLemmas.{alike_sym}
use Rattle.linear_systems.proofs.PivotLemmas.{alike_solves}
use Rattle.linear_systems.proofs.RowEquivalenceLemmas.{stands_alike}
use Rattle.linear_systems.specs.Points.{IsFeasible, IsExtremePoint, IsNonzeroAt}
use Rattle.linear_systems.specs.Vertices.{MarkedPoint, IsMarkOf, IsVertexMark}
use Rattle.linear_systems.specs.ExtremePointLaws.{AlikeSystemsHaveTheSameVertices}

pub point_alike : (s t : Tableau) (x : ℕ → ℚ) → Alike s t → IsFeasible s x → IsFeasible t x
point_alike s t x a h =
    record { solves = (alike_solves s t x a).0 h.solves; nonnegative = λ v d. h.nonnegative v (stands_alike t s v (alike_sym s t a) d) }

nonzero_alike : (s t : Tableau) (x : ℕ → ℚ) → Alike s t → IsNonzeroAt s x → IsNonzeroAt t x
nonzero_alike s t x a h =
    record { place = h.place; within = subst (λ n. h.place < n) a.width h.within; differs = λ e. h.differs (ap x (a.nonbasic h.place h.within) ∙ e) }

extreme_alike : (s t : Tableau) (x : ℕ → ℚ) → Alike s t → IsExtremePoint s x → IsExtremePoint t x
extreme_alike s t x a h =
    record {
      point = point_alike s t x a h.point;
      alone = λ p q f g e v d. h.alone p q (point_alike t s p (alike_sym s t a) f) (point_alike t s q (alike_sym s t a) g) (λ v d. e v (stands_alike s t v a d)) v (stands_alike t s v (alike_sym s t a) d);
    }

mark_alike : (n : ℕ) (s t : Tableau) (x : ℕ → ℚ) (mark : MarkedPoint) → Alike s t → IsMarkOf n t x mark → IsMarkOf n s x mark
mark_alike n s t x mark a h =
    record {
      low = h.low;
      high = h.high;
      size = h.size ∙ sym a.width;
      values = λ j l. h.values j (subst (λ n. j < n) a.width l) ∙ ap x (sym (a.nonbasic j l));
    }

pub vertices_alike : AlikeSystemsHaveTheSameVertices
vertices_alike n s t list a h =
    record {
      sound = λ k d l. let m : IsVertexMark n t (get_or list k d) = h.sound k d l in
          record { solution = m.solution; extreme = extreme_alike t s m.solution (alike_sym s t a) m.extreme; nonzero = nonzero_alike t s m.solution (alike_sym s t a) m.nonzero; marked = mark_alike n s t m.solution _ a m.marked };
      complete = λ x e o. let f = h.complete x (extreme_alike s t x a e) (nonzero_alike s t x a o) in (f.0, f.1, mark_alike n s t x f.0 a f.2);
      ascending = h.ascending;
    }
