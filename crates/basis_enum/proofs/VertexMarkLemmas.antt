-- The marks of basic solutions, and that those of all reached tableaux are the vertices
use Rattle.std.proofs.Common.{ℕ, zero, suc, ◌<◌, ◌≤◌, ◌≡◌, ◌≢◌, ◌+◌, ◌-◌, ◌/◌, ◌%◌, ◌^◌, min, refl, sym, ap, ◌∙◌, subst, arith, ◌⊎◌, inl, inr, List, [], ◌∷◌, ◌++◌, length, get_or, map, lit<, Ok}
use Rattle.std.specs.Int.{bit_at}
use Rattle.std.specs.Prelude.{Option, Some, None, option_to_list}
use Rattle.std.specs.List.{All, Any, Contains, dedup}
use Rattle.std.specs.List.Sorted.{IsNonDecreasingBy, IsPermutation}
use Rattle.std.proofs.Math.Nat.{pow-le-pow_right}
use Rattle.std.proofs.lemmas.Bool.{cases_lt}
use Rattle.std.proofs.lemmas.List.{append-nil, get_or-map, get_or_default, length-map}
use Rattle.std.proofs.lemmas.List.Elements.{Contains-append_left, Contains-get_or, Contains-push, Contains-push_cases}
use Rattle.std.proofs.lemmas.List.Kept.{Contains-from_dedup}
use Rattle.std.proofs.lemmas.List.Sorted.{IsPermutation-map, IsPermutation-sym, Contains-permutation}
use Rattle.rational.specs.Rational.{ℚ, zero_ℚ}
use Rattle.linear_systems.specs.Tableau.{Tableau}
use Rattle.linear_systems.specs.RowEquivalence.{IsVariableOf, in_row, in_column}
use Rattle.lex_tableau.specs.Rows.{WholeTableau, tableau}
use Rattle.lex_tableau.specs.Starts.{LinearSystem, system_of, IsSystem}
use Rattle.linear_systems.specs.Points.{IsExtremePoint, IsNonzeroAt, AreEqualAt}
use Rattle.linear_systems.specs.Rows.{basic_solution}
use Rattle.linear_systems.specs.LexFeasible.{IsLexFeasible}
use Rattle.linear_systems.specs.Vertices.{MarkedPoint, IsZeroWord, IsMarkOf, IsVertexMark, AreVertices, mask_of}
use Rattle.linear_systems.proofs.SmallStepLemmas.{extreme_alone}
use Rattle.basis_enum.specs.Levels.{no_tableau}
use Rattle.basis_enum.specs.Systems.{IsEnumerable, variable_count}
use Rattle.basis_enum.specs.Reached.{reached_in}
use Rattle.basis_enum.proofs.CompleteLevelLaws.{complete_cover, complete_extreme}
use Rattle.basis_enum.specs.declared.vertex.Vertex.{Vertex}
use Rattle.basis_enum.specs.Marks.{AreUpTo, IsVertexOf, IsMarkIn, AreMarksOf, AreSortedOnce}
use Rattle.basis_enum.specs.Vertices.{mark_of, marks_of}
use Rattle.basis_enum.proofs.MaskLemmas.{low_word, high_word}
use Rattle.basis_enum.proofs.OrderLemmas.{is_tie, dedup_ascends, dedup_keeps, map-dedup, IsNonDecreasingBy-map}

-- the basic variables of a reached tableau are among the variables of the system
pub reached_numbered : (s : LinearSystem) (t : WholeTableau) → IsEnumerable s
    → IsLexFeasible 129 (system_of s) (tableau t) → AreUpTo (variable_count s) t.basics
reached_numbered s t e r = λ k d h.
    (e.numbered (get_or t.basics k d)).0
    (r.variables (get_or t.basics k d) (in_row k h (get_or_default t.basics k 0 d h)))

-- so are the system's nonbasic variables
pub nonbasics_numbered : (s : LinearSystem) → IsEnumerable s → AreUpTo (variable_count s) s.nonbasics
nonbasics_numbered s e = λ k d h.
    (e.numbered (get_or s.nonbasics k d)).0 (in_column k h (get_or_default s.nonbasics k 0 d h))

-- ---- the vertex of one tableau
pub vertex_is : (s : LinearSystem) (t : WholeTableau) (v : Vertex) (word : ℕ)
    → IsZeroWord (variable_count s) (λ l. basic_solution (tableau t) (suc l)) word
    → get_or v.mask 0 0 ≡ word % 2 ^ 64 → get_or v.mask 1 0 ≡ word / 2 ^ 64
    → v.point.items ≡ map (basic_solution (tableau t)) s.nonbasics
    → Any (λ q. q ≢ zero_ℚ) v.point.items → IsVertexOf s t (Some v)
vertex_is s t v word zeros low high values any = (
  nonzero,
  record {
    low = subst (IsZeroWord (min n 64) (λ l. x (suc l))) (sym low) (low_word n (λ l. x (suc l)) word zeros);
    high = subst (IsZeroWord (n - 64) (λ l. x (suc (64 + l)))) (sym high) (high_word n (λ l. x (suc l)) word zeros);
    size = ap length values ∙ length-map s.nonbasics x;
    values = λ j h. value j zero_ℚ h;
  },
)
  where
    n : ℕ
    n = variable_count s

    x : ℕ → ℚ
    x = basic_solution (tableau t)

    value : (j : ℕ) (d : ℚ) → j < length s.nonbasics → get_or v.point.items j d ≡ x (get_or s.nonbasics j 0)
    value j d h = ap (λ xs. get_or xs j d) values ∙ get_or-map x s.nonbasics j 0 d h

    nonzero : IsNonzeroAt (system_of s) (basic_solution (tableau t))
    nonzero =
        let size : length v.point.items ≡ length s.nonbasics = ap length values ∙ length-map s.nonbasics x in
        let within : any.0 < length v.point.items = any.2 in
        record {
          place = any.0;
          within = omega arith;
          differs = λ e. any.4 (sym any.3 ∙ value any.0 any.1 (omega arith) ∙ e);
        }

pub vertex_none : (s : LinearSystem) (t : WholeTableau) (values : List ℚ)
    → values ≡ map (basic_solution (tableau t)) s.nonbasics → All (λ q. q ≡ zero_ℚ) values
    → IsVertexOf s t None
vertex_none s t values e all p =
    p.differs (sym (ap (λ xs. get_or xs p.place zero_ℚ) e ∙ get_or-map (basic_solution (tableau t)) s.nonbasics p.place 0 zero_ℚ p.within)
    ∙ all p.place zero_ℚ (let size : length values ≡ length s.nonbasics = ap length e ∙ length-map s.nonbasics (basic_solution (tableau t)) in let w : p.place < length s.nonbasics = p.within in omega arith))

-- ---- the vertices of all tableaux, one after another
pub no_marks : (s : LinearSystem) → AreMarksOf s [] []
no_marks s =
    record { each = λ m c. absurd (omega (arith, c.1)); all = λ t c h. absurd (omega (arith, c.1)) }

in_more : (s : LinearSystem) (ts : List WholeTableau) (t : WholeTableau) (m : MarkedPoint) → IsMarkIn s ts m
    → IsMarkIn s (ts ++ t ∷ []) m
in_more s ts t m k =
    record { of = k.of; among = Contains-append_left ts (t ∷ []) k.of k.among; nonzero = k.nonzero; marked = k.marked }

pub marks_more : (s : LinearSystem) (ts : List WholeTableau) (t : WholeTableau) (old : List MarkedPoint)
    (vertex : Option Vertex) → AreMarksOf s ts old → IsVertexOf s t vertex
    → AreMarksOf s (ts ++ t ∷ []) (old ++ marks_of (option_to_list vertex))
marks_more s ts t old None h none =
    subst (AreMarksOf s (ts ++ t ∷ [])) (sym (append-nil old))
    (record {
      each = λ m c. in_more s ts t m (h.each m c);
      all = λ u c p. elim (Contains-push_cases ts t u c) [
        | inl k ↦ h.all u k p
        | inr e ↦ absurd (none (subst (λ u. IsNonzeroAt (system_of s) (basic_solution (tableau u))) (sym e) p))
      ];
    })
marks_more s ts t old (Some v) h is =
    record {
      each = λ m c. elim (Contains-push_cases old (mark_of v) m c) [
        | inl k ↦ in_more s ts t m (h.each m k)
        | inr e ↦ subst (IsMarkIn s (ts ++ t ∷ [])) e (record { of = t; among = Contains-push ts t; nonzero = is.0; marked = is.1 })
      ];
      all = λ u c p. elim (Contains-push_cases ts t u c) [
        | inl k ↦ (let m = h.all u k p in (m.0, Contains-append_left old (mark_of v ∷ []) m.0 m.1, m.2))
        | inr e ↦ (mark_of v, Contains-push old (mark_of v), subst (λ u. IsMarkOf (variable_count s) (system_of s) (basic_solution (tableau u)) (mark_of v)) e is.1)
      ];
    }

-- ---- sorted, one of each mask
pub marks_in_order : (old sorted new : List Vertex) → IsPermutation old sorted
    → IsNonDecreasingBy (λ v. mask_of (mark_of v)) sorted
    → new ≡ dedup (is_tie (λ v. mask_of (mark_of v))) sorted → AreSortedOnce (marks_of old) (marks_of new)
marks_in_order old sorted new moved order e =
    subst (AreSortedOnce (marks_of old)) (sym (ap marks_of e ∙ map-dedup mark_of mask_of sorted))
    (record {
      kept = λ m c. Contains-permutation (marks_of sorted) (marks_of old) m (IsPermutation-sym (marks_of old) (marks_of sorted) same) (Contains-from_dedup (is_tie mask_of) (marks_of sorted) m c);
      all = λ m c. (let k = dedup_keeps mask_of mask_of (marks_of sorted) m in_order (Contains-permutation (marks_of old) (marks_of sorted) m same c) in (k.0, k.1, k.2));
      ascending = dedup_ascends mask_of (marks_of sorted) in_order;
    })
  where
    same : IsPermutation (marks_of old) (marks_of sorted)
    same = IsPermutation-map mark_of old sorted moved

    in_order : IsNonDecreasingBy mask_of (marks_of sorted)
    in_order = IsNonDecreasingBy-map mark_of mask_of sorted order

-- ---- equal masks have equal zeros
equal_words : (n : ℕ) (s : Tableau) (x y : ℕ → ℚ) (a b : MarkedPoint) → IsMarkOf n s x a
    → IsMarkOf n s y b → mask_of a ≡ mask_of b → (a.low ≡ b.low) × (a.high ≡ b.high)
equal_words n s x y a b p q e =
    let most : 2 ^ min n 64 ≤ 2 ^ 64 = pow-le-pow_right (lit< tt) {i = min n 64} {j = 64} (omega arith) in
    let first : a.low < 2 ^ min n 64 = p.low.below in
    let second : b.low < 2 ^ min n 64 = q.low.below in
    (omega arith, omega arith)

equal_zeros : (n : ℕ) (s : Tableau) (x y : ℕ → ℚ) (a b : MarkedPoint) → IsMarkOf n s x a
    → IsMarkOf n s y b → mask_of a ≡ mask_of b → (v : ℕ) → 0 < v → v ≤ n → x v ≡ zero_ℚ
    → y v ≡ zero_ℚ
equal_zeros n s x y a b p q e zero l k z = absurd (omega arith)
equal_zeros n s x y a b p q e (suc v) l k z = go (cases_lt v 64) (equal_words n s x y a b p q e)
  where
    go : (v < 64) ⊎ (64 ≤ v) → (a.low ≡ b.low) × (a.high ≡ b.high) → y (suc v) ≡ zero_ℚ
    go (inl h) w =
        (q.low.zeros v (omega arith)).0
        (ap (λ m. bit_at m v) (sym w.0) ∙ (p.low.zeros v (omega arith)).1 z)
    go (inr h) w =
        let split : 64 + (v - 64) ≡ v = omega arith in
        ap (λ l. y (suc l)) (sym split)
        ∙ (q.high.zeros (v - 64) (omega arith)).0
        (ap (λ m. bit_at m (v - 64)) (sym w.1)
        ∙ (p.high.zeros (v - 64) (omega arith)).1 (ap (λ l. x (suc l)) split ∙ z))

-- a mark is that of any solution with the same values
mark_of_equal : (n : ℕ) (s : Tableau) (x y : ℕ → ℚ) (a : MarkedPoint)
    → ((v : ℕ) → 0 < v → v ≤ n → x v ≡ y v) → AreEqualAt s x y → IsMarkOf n s y a
    → IsMarkOf n s x a
mark_of_equal n s x y a e f h =
    record {
      low = word_of (min n 64) (λ l. x (suc l)) (λ l. y (suc l)) a.low (λ l k. e (suc l) (omega arith) (omega arith)) h.low;
      high = word_of (n - 64) (λ l. x (suc (64 + l))) (λ l. y (suc (64 + l))) a.high (λ l k. e (suc (64 + l)) (omega arith) (omega arith)) h.high;
      size = h.size;
      values = λ j k. h.values j k ∙ sym (f (s.nonbasic j) (in_column j k refl));
    }
  where
    word_of : (n : ℕ) (x y : ℕ → ℚ) (word : ℕ) → ((l : ℕ) → l < n → x l ≡ y l)
        → IsZeroWord n y word → IsZeroWord n x word
    word_of n x y word e h =
        record {
          below = h.below;
          zeros = λ l k.
              (λ b. e l k ∙ (h.zeros l k).0 b, λ z. (h.zeros l k).1 (sym (e l k) ∙ z));
        }

-- a mark with the mask of an equal extreme point is that of the point
mark_by_mask : (s : LinearSystem) (x y z : ℕ → ℚ) (a b : MarkedPoint) → IsEnumerable s
    → IsExtremePoint (system_of s) y → IsExtremePoint (system_of s) z
    → AreEqualAt (system_of s) x y → IsMarkOf (variable_count s) (system_of s) y a
    → IsMarkOf (variable_count s) (system_of s) z b → mask_of a ≡ mask_of b
    → IsMarkOf (variable_count s) (system_of s) x b
mark_by_mask s x y z a b e hy hz same p q masks =
    mark_of_equal (variable_count s) (system_of s) x z b
    (λ v above most. all v ((e.numbered v).1 (above, most))) all q
  where
    zeros : (v : ℕ) → IsVariableOf (system_of s) v → y v ≡ zero_ℚ → z v ≡ zero_ℚ
    zeros v w =
        let ends = (e.numbered v).0 w in
        equal_zeros (variable_count s) (system_of s) y z a b p q masks v ends.0 ends.1

    all : AreEqualAt (system_of s) x z
    all v w = same v w ∙ extreme_alone (system_of s) y z hy hz.point zeros v w

nonzero_equal : (s : Tableau) (x y : ℕ → ℚ) → AreEqualAt s x y → IsNonzeroAt s x → IsNonzeroAt s y
nonzero_equal s x y e h =
    record {
      place = h.place;
      within = h.within;
      differs = λ z. h.differs (e (s.nonbasic h.place) (in_column h.place h.within refl) ∙ z);
    }

-- ---- the marks of all reached tableaux, sorted, are the vertices
extreme_in : (s : LinearSystem) (ts : List WholeTableau) (t : WholeTableau) → IsSystem s → IsEnumerable s
    → reached_in s (Ok ts) → Contains ts t
    → IsExtremePoint (system_of s) (basic_solution (tableau t))
extreme_in s ts t h e end c =
    subst (λ u. IsExtremePoint (system_of s) (basic_solution (tableau u)))
    (get_or_default ts c.0 no_tableau t c.1 ∙ c.2)
    (complete_extreme s ts c.0 h e end c.1)

pub are_vertices : (s : LinearSystem) (ts : List WholeTableau) (marks list : List MarkedPoint) → IsSystem s
    → IsEnumerable s → reached_in s (Ok ts) → AreMarksOf s ts marks → AreSortedOnce marks list
    → AreVertices (variable_count s) (system_of s) list
are_vertices s ts marks list h e end noted order =
    record {
      sound = λ k d l. sound (get_or list k d) (Contains-get_or list k d l);
      complete = λ x p o.
          (let f = complete_cover s ts x h e end p in
          found x (get_or ts f.place no_tableau) (Contains-get_or ts f.place no_tableau f.within) f.same o);
      ascending = order.ascending;
    }
  where
    sound : (m : MarkedPoint) → Contains list m → IsVertexMark (variable_count s) (system_of s) m
    sound m c =
        let k = noted.each m (order.kept m c) in
        record {
          solution = basic_solution (tableau k.of);
          extreme = extreme_in s ts k.of h e end k.among;
          nonzero = k.nonzero;
          marked = k.marked;
        }

    found : (x : ℕ → ℚ) (t : WholeTableau) → Contains ts t
        → AreEqualAt (system_of s) x (basic_solution (tableau t)) → IsNonzeroAt (system_of s) x
        → (m : MarkedPoint) × Contains list m × IsMarkOf (variable_count s) (system_of s) x m
    found x t among same o =
        let a = noted.all t among (nonzero_equal (system_of s) x (basic_solution (tableau t)) same o) in
        let b = order.all a.0 a.1 in
        let k = noted.each b.0 (order.kept b.0 b.1) in (
          b.0,
          b.1,
          mark_by_mask s x (basic_solution (tableau t)) (basic_solution (tableau k.of)) a.0 b.0 e
              (extreme_in s ts t h e end among) (extreme_in s ts k.of h e end k.among) same a.2 k.marked (sym b.2),
        )
