-- The lines of the pairs of vertices that together have all labels are those of the extreme equilibria.
use Rattle.std.proofs.Common.{ℕ, zero, suc, ◌+◌, ◌*◌, ◌^◌, ◌<◌, ◌≡◌, ◌⊎◌, inl, inr, List, [], ◌∷◌, ◌++◌, Contains, length, get_or, refl, sym, ap, ap₂, ◌∙◌, subst}
use Rattle.std.proofs.lemmas.List.{append-nil, ext_get_or}
use Rattle.std.proofs.lemmas.List.Elements.{All-contains}
use Rattle.rational.specs.Rational.{ℚ, ◌*ℚ◌, ◌-ℚ◌, zero_ℚ, ◌<ℚ◌}
use Rattle.rational.specs.Sum.{sum_to}
use Rattle.rational.proofs.RationalRing.{rational_ring}
use Rattle.rational.proofs.Ring.{ring, num, ◌:+◌, ◌:*◌, ◌:-◌, A, B, C}
use Rattle.rational.proofs.Field.{trichotomy, lt-sub}
use Rattle.rational.proofs.InverseLemmas.{ne_zero_of_pos}
use Rattle.linear_systems.specs.Tableau.{Tableau}
use Rattle.linear_systems.specs.RowEquivalence.{IsVariableOf}
use Rattle.game_theory.specs.Profiles.{Game}
use Rattle.game_theory.specs.Mixed.{Mixed}
use Rattle.game_theory.specs.Lines.{listed, entries}
use Rattle.extreme_equilibria.specs.ExtremeEquilibria.{AreSame, IsExtremeEquilibrium, IsExtremeEquilibriumLine}
use Rattle.extreme_equilibria.specs.TwoPlayers.{pays_against}
use Rattle.game_theory.proofs.ProfileLineLemmas.{length-listed, get_or-listed, listed-same}
use Rattle.extreme_equilibria.specs.Bimatrix.{IsPositive, shifted, shift_of}
use Rattle.extreme_equilibria.specs.Polytopes.{IsInPolytope, IsVertex, first_variable, second_variable, IsCompletelyLabelled, IsVertexPair, scaled}
use Rattle.linear_systems.specs.Points.{IsExtremePoint, IsNonzero}
use Rattle.linear_systems.specs.Vertices.{MarkedPoint, IsMarkOf, IsVertexMark, AreVertices}
use Rattle.extreme_equilibria.specs.Systems.{first_system, second_system}
use Rattle.extreme_equilibria.specs.PairLines.{scaled_point, HaveAllLabels, pair_line, IsPairLine, ArePairLines}
use Rattle.extreme_equilibria.specs.Laws.{VerticesScaleDifferently, PairLinesAreExtremeEquilibria, ListedVerticesScaleDifferently}
use Rattle.extreme_equilibria.proofs.PositiveNumberLemmas.{sum-pos}
use Rattle.extreme_equilibria.proofs.MeanLemmas.{IsMean, polytope_convex, alone_mean}
use Rattle.extreme_equilibria.proofs.ScalingLemmas.{unscaled}
use Rattle.extreme_equilibria.proofs.VertexLemmas.{extreme_points, of_points, zero_extreme, scaled_same}
use Rattle.extreme_equilibria.proofs.TableLemmas.{extreme_to_tables, extreme_from_tables}
use Rattle.extreme_equilibria.proofs.ShiftLemmas.{shift_extreme, lifted_positive}
use Rattle.linear_systems.proofs.VertexListLemmas.{same_mask, place_once}
use Rattle.extreme_equilibria.proofs.MaskLemmas.{masks_determine_labels}
use Rattle.extreme_equilibria.proofs.SystemLemmas.{system, Fills, vertex_of, vertex_filled, determined, fill_same, before, first_fill, second_fill, first_fills, second_fills, first_variables, second_variables}

-- ---- scaled points as lists
-- the list of a point, scaled
pub scaled-listed : (n : ℕ) (p : ℕ → ℚ) → scaled_point (listed n p) ≡ listed n (scaled n p)
scaled-listed n p =
    ap (λ k. listed k (scaled k (λ i. get_or (listed n p) i zero_ℚ))) (length-listed n p)
    ∙ listed-same n _ _ (scaled_same n (λ i. get_or (listed n p) i zero_ℚ) p (λ i h. get_or-listed n p i zero_ℚ h))

-- the values of a mark as such a list
mark_point : (n : ℕ) (t : Tableau) (x : ℕ → ℚ) (mark : MarkedPoint) → IsMarkOf n t x mark → mark.point ≡ listed t.width (λ j. x (t.nonbasic j))
mark_point n t x mark h =
    ext_get_or zero_ℚ mark.point (listed t.width (λ j. x (t.nonbasic j))) (h.size ∙ sym (length-listed t.width _)) (λ j l.
    let b : j < t.width = subst (λ k. j < k) h.size l in
    h.values j b ∙ sym (get_or-listed t.width _ j zero_ℚ b))

-- equal lists have equal entries
listed-entries : (n : ℕ) (p q : ℕ → ℚ) → listed n p ≡ listed n q → AreSame n p q
listed-entries n p q e i h = sym (get_or-listed n p i zero_ℚ h) ∙ ap (λ xs. get_or xs i zero_ℚ) e ∙ get_or-listed n q i zero_ℚ h

-- the profile of two parts
abbrev pub profile_of : (ℕ → ℚ) → (ℕ → ℚ) → Mixed
profile_of x y zero s = x s
profile_of x y (suc i) s = y s

-- the line of a game of two players
two-entries : (g : Game) (m n : ℕ) (k : Mixed) → g.strategies ≡ m ∷ n ∷ [] → entries g.strategies k ≡ listed m (k 0) ++ listed n (k 1)
two-entries g m n k e = ap (λ ns. entries ns k) e ∙ ap (λ ys. listed m (k 0) ++ ys) (append-nil (listed n (k 1)))

-- ---- one direction
module _ (m n : ℕ) (a c : ℕ → ℕ → ℚ) where
  -- the labels of two extreme points
  labels_of : (x y : ℕ → ℚ) → IsExtremePoint (first_system m n c) x → IsExtremePoint (second_system m n a) y → ((v : ℕ) → v < m + n → (x (suc v) ≡ zero_ℚ) ⊎ (y (suc v) ≡ zero_ℚ)) → IsCompletelyLabelled m n a c (λ i. x (suc i)) (λ j. y (m + suc j))
  labels_of x y ex ey h l b = elim (h l b) [
    | inl z ↦ inl (ap (λ l. first_variable m c (λ i. x (suc i)) l) (sym (before l)) ∙ sym (determined m n c (λ i. suc i) (λ j. m + suc j) (first_fill m c) (first_fills m n c) x ex.point (suc l) (first_variables m n c l b)) ∙ z)
    | inr z ↦ inr (ap (λ l. second_variable m n a (λ j. y (m + suc j)) l) (sym (before l)) ∙ sym (determined n m a (λ j. m + suc j) (λ i. suc i) (second_fill m n a) (second_fills m n a) y ey.point (suc l) (second_variables m n a l b)) ∙ z)
  ]

  pair_of : (one two : MarkedPoint) (f : IsVertexMark (m + n) (first_system m n c) one) (s : IsVertexMark (m + n) (second_system m n a) two) → HaveAllLabels (m + n) one two → IsVertexPair m n a c (λ i. f.solution (suc i)) (λ j. s.solution (m + suc j))
  pair_of one two f s h =
      record {
        first_vertex = vertex_of m n c (λ i. suc i) (λ j. m + suc j) (first_fill m c) (first_fills m n c) f.solution f.extreme;
        second_vertex = vertex_of n m a (λ j. m + suc j) (λ i. suc i) (second_fill m n a) (second_fills m n a) s.solution s.extreme;
        labelled = labels_of f.solution s.solution f.extreme s.extreme ((masks_determine_labels (m + n) (first_system m n c) (second_system m n a) f.solution s.solution one two f.marked s.marked).0 h);
        first_nonzero = f.nonzero;
        second_nonzero = s.nonzero;
      }

  line-of : (one two : MarkedPoint) (f : IsVertexMark (m + n) (first_system m n c) one) (s : IsVertexMark (m + n) (second_system m n a) two) → pair_line one two ≡ listed m (scaled m (λ i. f.solution (suc i))) ++ listed n (scaled n (λ j. s.solution (m + suc j)))
  line-of one two f s =
      ap₂ (λ xs ys. xs ++ ys) (ap scaled_point (mark_point _ _ _ _ f.marked) ∙ scaled-listed m (λ i. f.solution (suc i))) (ap scaled_point (mark_point _ _ _ _ s.marked) ∙ scaled-listed n (λ j. s.solution (m + suc j)))

module _ (g : Game) (m n : ℕ) (e : g.strategies ≡ m ∷ n ∷ []) (d d' : ℚ) (pa : IsPositive m n (shifted d (pays_against g 0))) (pc : IsPositive n m (shifted d' (pays_against g 1))) where
  abbrev a : ℕ → ℕ → ℚ
  a = shifted d (pays_against g 0)

  abbrev c : ℕ → ℕ → ℚ
  c = shifted d' (pays_against g 1)

  module _ (first second : List MarkedPoint) (hf : AreVertices (m + n) (first_system m n c) first) (hs : AreVertices (m + n) (second_system m n a) second) where
    sound : (line : List ℚ) → IsPairLine (m + n) first second line → IsExtremeEquilibriumLine g line
    sound line p =
        let f : IsVertexMark (m + n) (first_system m n c) p.one = All-contains (IsVertexMark (m + n) (first_system m n c)) first p.one hf.sound p.is_first in
        let s : IsVertexMark (m + n) (second_system m n a) p.two = All-contains (IsVertexMark (m + n) (second_system m n a)) second p.two hs.sound p.is_second in
        let k : Mixed = profile_of (scaled m (λ i. f.solution (suc i))) (scaled n (λ j. s.solution (m + suc j))) in
        record {
          profile = k;
          is_extreme = extreme_from_tables g m n e k ((shift_extreme m n (pays_against g 0) (pays_against g 1) d d' (k 0) (k 1)).1 (of_points pa pc (pair_of m n a c p.one p.two f s p.labels)));
          is_line = p.is_line ∙ line-of m n a c p.one p.two f s ∙ sym (two-entries g m n k e);
        }

    complete : (lines : List (List ℚ)) → ArePairLines (m + n) first second lines → (k : Mixed) → IsExtremeEquilibrium g k → Contains lines (entries g.strategies k)
    complete lines h k x =
        let s = (extreme_points m n a c (k 0) (k 1) pa pc).0 ((shift_extreme m n (pays_against g 0) (pays_against g 1) d d' (k 0) (k 1)).0 (extreme_to_tables g m n e k x)) in
        let one = hf.complete (first_fill m c s.first) (vertex_filled m n c (λ i. suc i) (λ j. m + suc j) (first_fill m c) (first_fills m n c) s.first s.pair.first_vertex) (record { place = s.pair.first_nonzero.place; within = s.pair.first_nonzero.within; differs = λ z. s.pair.first_nonzero.differs (sym ((first_fills m n c).entry s.first s.pair.first_nonzero.place s.pair.first_nonzero.within) ∙ z) }) in
        let two = hs.complete (second_fill m n a s.second) (vertex_filled n m a (λ j. m + suc j) (λ i. suc i) (second_fill m n a) (second_fills m n a) s.second s.pair.second_vertex) (record { place = s.pair.second_nonzero.place; within = s.pair.second_nonzero.within; differs = λ z. s.pair.second_nonzero.differs (sym ((second_fills m n a).entry s.second s.pair.second_nonzero.place s.pair.second_nonzero.within) ∙ z) }) in
        let labels : HaveAllLabels (m + n) one.0 two.0 = (masks_determine_labels (m + n) (first_system m n c) (second_system m n a) _ _ one.0 two.0 one.2 two.2).1 (λ v b. elim (s.pair.labelled v b) [ inl z ↦ inl (ap (λ l. first_variable m c s.first l) (before v) ∙ z) | inr z ↦ inr (ap (λ l. second_variable m n a s.second l) (before v) ∙ z) ]) in
        let first_is : scaled_point one.0.point ≡ listed m (k 0) = ap scaled_point (mark_point _ _ _ _ one.2) ∙ scaled-listed m _ ∙ listed-same m _ (k 0) (λ i b. scaled_same m _ s.first ((first_fills m n c).entry s.first) i b ∙ sym (s.first_is i b)) in
        let second_is : scaled_point two.0.point ≡ listed n (k 1) = ap scaled_point (mark_point _ _ _ _ two.2) ∙ scaled-listed n _ ∙ listed-same n _ (k 1) (λ j b. scaled_same n _ s.second ((second_fills m n a).entry s.second) j b ∙ sym (s.second_is j b)) in
        subst (λ line. Contains lines line) (ap₂ (λ xs ys. xs ++ ys) first_is second_is ∙ sym (two-entries g m n k e)) (h.complete one.0 two.0 one.1 two.1 labels)

pub pair_lines_are_extreme_equilibria : PairLinesAreExtremeEquilibria
pair_lines_are_extreme_equilibria g m n least least' first second lines e below below' hf hs h =
    let pa = lifted_positive m n (pays_against g 0) least below in
    let pc = lifted_positive n m (pays_against g 1) least' below' in
    record {
      in_order = h.in_order;
      sound = λ k d l. sound g m n e (shift_of least) (shift_of least') pa pc first second hf hs (get_or lines k d) (h.sound k d l);
      complete = complete g m n e (shift_of least) (shift_of least') pa pc first second hf hs lines h;
    }

-- ---- different vertices
-- where one sum is less than the other, the first point is a proper mean of 0 and the second
less_sum : (k r : ℕ) (c : ℕ → ℕ → ℚ) (p q : ℕ → ℚ) → IsVertex k r c p → IsVertex k r c q → IsNonzero k p → IsNonzero k q → AreSame k (scaled k p) (scaled k q) → sum_to k p <ℚ sum_to k q → ⊥
less_sum k r c p q hp hq np nq e l = nq.differs (sym (same nq.place nq.within))
  where
    s : zero_ℚ <ℚ sum_to k p
    s = sum-pos k p hp.inside.not_negative np

    t : zero_ℚ <ℚ sum_to k q
    t = sum-pos k q hq.inside.not_negative nq

    times : (i : ℕ) → i < k → sum_to k q *ℚ p i ≡ sum_to k p *ℚ q i
    times i b =
        ap (λ x. sum_to k q *ℚ x) (sym (unscaled k p i (ne_zero_of_pos _ s)))
        ∙ ring rational_ring (sum_to k q ∷ sum_to k p ∷ scaled k p i ∷ []) (A :* (B :* C)) (B :* (A :* C)) refl
        ∙ ap (λ x. sum_to k p *ℚ (sum_to k q *ℚ x)) (e i b) ∙ ap (λ x. sum_to k p *ℚ x) (unscaled k q i (ne_zero_of_pos _ t))

    same : AreSame k (λ i. zero_ℚ) q
    same = alone_mean k (IsInPolytope k r c) p (polytope_convex k r c) hp.alone (sum_to k q -ℚ sum_to k p) (sum_to k p) (λ i. zero_ℚ) q ((lt-sub (sum_to k p) (sum_to k q)).0 l) s mean (zero_extreme k r c).inside hq.inside
      where
        mean : IsMean k (sum_to k q -ℚ sum_to k p) (sum_to k p) (λ i. zero_ℚ) q p
        mean i b =
            ring rational_ring (sum_to k q ∷ sum_to k p ∷ p i ∷ []) ((A :- B :+ B) :* C) (A :* C) refl ∙ times i b
            ∙ ring rational_ring (sum_to k q ∷ sum_to k p ∷ q i ∷ []) (B :* C) ((A :- B) :* num 0 :+ B :* C) refl

pub vertices_scale_differently : VerticesScaleDifferently
vertices_scale_differently k r c p q hp hq np nq e = elim (trichotomy (sum_to k p) (sum_to k q)) [
  | inl l ↦ absurd (less_sum k r c p q hp hq np nq e l)
  | inr o ↦ elim o [
    | inl s ↦ λ i b. sym (unscaled k p i (ne_zero_of_pos _ (sum-pos k p hp.inside.not_negative np))) ∙ ap₂ (λ x y. x *ℚ y) s (e i b) ∙ unscaled k q i (ne_zero_of_pos _ (sum-pos k q hq.inside.not_negative nq))
    | inr l ↦ absurd (less_sum k r c q p hq hp nq np (λ i b. sym (e i b)) l)
  ]
]

-- in a list of a system of slacks
listed_differently : (m n k r : ℕ) (c : ℕ → ℕ → ℚ) (w b : ℕ → ℕ) (fill : (ℕ → ℚ) → ℕ → ℚ) → Fills k r c w b fill → ((l : ℕ) → l < m + n → IsVariableOf (system k r c w b) (suc l)) → (list : List MarkedPoint) → AreVertices (m + n) (system k r c w b) list
    → (i j : ℕ) (d : MarkedPoint) → i < length list → j < length list → scaled_point (get_or list i d).point ≡ scaled_point (get_or list j d).point → i ≡ j
listed_differently m n k r c w b fill fills variables list h i j d hi hj e =
    let f : IsVertexMark (m + n) (system k r c w b) (get_or list i d) = h.sound i d hi in
    let s : IsVertexMark (m + n) (system k r c w b) (get_or list j d) = h.sound j d hj in
    let scalings : AreSame k (scaled k (λ j. f.solution (w j))) (scaled k (λ j. s.solution (w j))) = listed-entries k _ _ (sym (scaled-listed k (λ j. f.solution (w j))) ∙ ap scaled_point (sym (mark_point _ _ _ _ f.marked)) ∙ e ∙ ap scaled_point (mark_point _ _ _ _ s.marked) ∙ scaled-listed k (λ j. s.solution (w j))) in
    let points : AreSame k (λ j. f.solution (w j)) (λ j. s.solution (w j)) = vertices_scale_differently k r c _ _ (vertex_of k r c w b fill fills f.solution f.extreme) (vertex_of k r c w b fill fills s.solution s.extreme) (f.nonzero) (s.nonzero) scalings in
    let masks = same_mask (m + n) (system k r c w b) (system k r c w b) f.solution s.solution (get_or list i d) (get_or list j d) (λ l q. determined k r c w b fill fills f.solution f.extreme.point (suc l) (variables l q) ∙ fill_same k r c w b fill fills _ _ points (suc l) (variables l q) ∙ sym (determined k r c w b fill fills s.solution s.extreme.point (suc l) (variables l q))) f.marked s.marked in
    place_once list h.ascending i j d hi hj (ap₂ (λ x y. x + 2 ^ 64 * y) masks.0 masks.1)

pub listed_vertices_scale_differently : ListedVerticesScaleDifferently
listed_vertices_scale_differently =
    record {
      first = λ m n c list h. listed_differently m n m n c (λ i. suc i) (λ j. m + suc j) (first_fill m c) (first_fills m n c) (first_variables m n c) list h;
      second = λ m n a list h. listed_differently m n n m a (λ j. m + suc j) (λ i. suc i) (second_fill m n a) (second_fills m n a) (second_variables m n a) list h;
    }
