-- A system has its vertices, or there is a reason why they are not listed.
use Rattle.std.proofs.Common.{ℕ, zero, suc, ◌+◌, ◌*◌, ◌-◌, ◌^◌, ◌<◌, ◌≡◌, ◌↔◌, min, pow-suc, inl, inr, refl, sym, ap, ◌∙◌, subst, subst₂, arith, List, [], ◌∷◌, length, map}
use Rattle.std.specs.Int.{bit_at}
use Rattle.std.specs.List.{Contains, range_with_len}
use Rattle.std.proofs.lemmas.List.{get_or-map, length-map}
use Rattle.std.proofs.lemmas.List.FromFn.{get_or-map-range_with_len, length-map-range_with_len}
use Rattle.std.proofs.lemmas.Nat.{div-mul-add, mod-mul-add}
use Rattle.std.proofs.lemmas.Nat.Bits.{bit_at_lowest, bit_at-suc}
use Rattle.answers.specs.Answers.{such_that}
use Rattle.answers.proofs.AnsweredLemmas.{bind-answered, such_that-answered}
use Rattle.lists.proofs.AscendingNumberLemmas.{rises}
use Rattle.lists.proofs.DeniedLemmas.{holds_or_not}
use Rattle.lists.proofs.ElementLemmas.{first_in, rest_in, in_cases, unmapped}
use Rattle.rational.specs.Rational.{ℚ, zero_ℚ}
use Rattle.rational.proofs.Decide.{is_zero}
use Rattle.linear_systems.specs.Tableau.{Tableau}
use Rattle.linear_systems.specs.Points.{IsNonzeroAt}
use Rattle.linear_systems.specs.Rows.{basic_solution}
use Rattle.linear_systems.specs.Vertices.{IsZeroWord, MarkedPoint, IsMarkOf, mask_of}
use Rattle.lex_tableau.specs.Rows.{WholeTableau, tableau}
use Rattle.lex_tableau.specs.Starts.{LinearSystem, system_of}
use Rattle.basis_enum.specs.AnsweredLaws.{VerticesAreAnswered}
use Rattle.basis_enum.specs.Enumeration.{IsVertexListOf}
use Rattle.basis_enum.specs.Marks.{IsMarkIn, AreMarksOf, AreSortedOnce}
use Rattle.basis_enum.specs.Reached.{reached_in}
use Rattle.basis_enum.specs.Systems.{variable_count}
use Rattle.basis_enum.proofs.AnsweredLevelLemmas.{reached-answered}
use Rattle.lists.proofs.ChosenElementLemmas.{one_of_each, some_bound}
use Rattle.basis_enum.proofs.VertexMarkLemmas.{no_marks, are_vertices}

-- ---- the mark of a solution
-- one more entry before the others
word_more : (n : ℕ) (x : ℕ → ℚ) (word bit : ℕ) → IsZeroWord n (λ l. x (suc l)) word → bit < 2 → (bit ≡ 1) ↔ (x 0 ≡ zero_ℚ) → IsZeroWord (suc n) x (word * 2 + bit)
word_more n x word bit w small tells = record { below = below; zeros = zeros }
  where
    below : word * 2 + bit < 2 ^ suc n
    below = omega (arith, pow-suc 2 n, w.below)

    zeros : (l : ℕ) → l < suc n → (bit_at (word * 2 + bit) l ≡ 1) ↔ (x l ≡ zero_ℚ)
    zeros zero l = subst (λ b. (b ≡ 1) ↔ (x 0 ≡ zero_ℚ)) (sym (bit_at_lowest (word * 2 + bit) ∙ mod-mul-add word 2 bit small)) tells
    zeros (suc k) l = subst (λ b. (b ≡ 1) ↔ (x (suc k) ≡ zero_ℚ)) (sym (bit_at-suc (word * 2 + bit) k ∙ ap (λ w. bit_at w k) (div-mul-add word 2 bit small))) (w.zeros k (omega (arith, l)))

-- some word tells which entries are 0
word_exists : (n : ℕ) (x : ℕ → ℚ) → (word : ℕ) × IsZeroWord n x word
word_exists zero x = (0, record { below = omega arith; zeros = λ l b. absurd (omega (arith, b)) })
word_exists (suc n) x =
    let rest = word_exists n (λ l. x (suc l)) in
    elim (is_zero (x 0)) [
      | inl here ↦ (rest.0 * 2 + 1, word_more n x rest.0 1 rest.1 (omega arith) ((λ _. here), (λ _. refl)))
      | inr not_here ↦ (rest.0 * 2 + 0, word_more n x rest.0 0 rest.1 (omega arith) ((λ e. absurd (omega (arith, e))), (λ e. absurd (not_here e))))
    ]

-- a solution has a mark
mark_exists : (n : ℕ) (s : Tableau) (x : ℕ → ℚ) → (mark : MarkedPoint) × IsMarkOf n s x mark
mark_exists n s x =
    let low = word_exists (min n 64) (λ l. x (suc l)) in
    let high = word_exists (n - 64) (λ l. x (suc (64 + l))) in (
      record { low = low.0; high = high.0; point = map (λ j. x (s.nonbasic j)) (range_with_len 0 s.width) },
      record {
        low = low.1;
        high = high.1;
        size = length-map-range_with_len (λ j. x (s.nonbasic j)) 0 s.width;
        values = λ j l. get_or-map-range_with_len (λ j. x (s.nonbasic j)) 0 s.width j j zero_ℚ l (omega arith);
      },
    )

-- ---- the marks of all tableaux
module _ (s : LinearSystem) (t : WholeTableau) (ts : List WholeTableau) where
  -- a mark of the others is one of all
  in_later : (mark : MarkedPoint) → IsMarkIn s ts mark → IsMarkIn s (t ∷ ts) mark
  in_later mark k = record { of = k.of; among = rest_in t k.of ts k.among; nonzero = k.nonzero; marked = k.marked }

  -- one that is not 0 has one more
  marks_first : (mark : MarkedPoint) (marks : List MarkedPoint) → IsNonzeroAt (system_of s) (basic_solution (tableau t)) → IsMarkOf (variable_count s) (system_of s) (basic_solution (tableau t)) mark → AreMarksOf s ts marks → AreMarksOf s (t ∷ ts) (mark ∷ marks)
  marks_first mark marks nonzero marked h = record {
    each = λ m c. elim (in_cases mark m marks c) [
      | inl e ↦ subst (IsMarkIn s (t ∷ ts)) e (record { of = t; among = first_in t ts; nonzero = nonzero; marked = marked })
      | inr later ↦ in_later m (h.each m later)
    ];
    all = λ u c p. elim (in_cases t u ts c) [
      | inl e ↦ (mark, first_in mark marks, subst (λ u. IsMarkOf (variable_count s) (system_of s) (basic_solution (tableau u)) mark) e marked)
      | inr later ↦ (let m = h.all u later p in (m.0, rest_in mark m.0 marks m.1, m.2))
    ];
  }

  -- and one that is 0 has none
  marks_same : (marks : List MarkedPoint) → ¬ (IsNonzeroAt (system_of s) (basic_solution (tableau t))) → AreMarksOf s ts marks → AreMarksOf s (t ∷ ts) marks
  marks_same marks zero_there h = record {
    each = λ m c. in_later m (h.each m c);
    all = λ u c p. elim (in_cases t u ts c) [
      | inl e ↦ absurd (zero_there (subst (λ u. IsNonzeroAt (system_of s) (basic_solution (tableau u))) (sym e) p))
      | inr later ↦ h.all u later p
    ];
  }

module _ (s : LinearSystem) where
  -- tableaux have marks
  marks_exist : (ts : List WholeTableau) → ¬ ¬ ((marks : List MarkedPoint) × AreMarksOf s ts marks)
  marks_exist [] none = none ([], no_marks s)
  marks_exist (t ∷ ts) none =
      marks_exist ts (λ rest. holds_or_not {A = IsNonzeroAt (system_of s) (basic_solution (tableau t))} (λ first. elim first [
        | inl nonzero ↦ (let mark = mark_exists (variable_count s) (system_of s) (basic_solution (tableau t)) in none (mark.0 ∷ rest.0, marks_first s t ts mark.0 rest.0 nonzero mark.1 rest.1))
        | inr zero_there ↦ none (rest.0, marks_same s t ts rest.0 zero_there rest.1)
      ]))

-- in ascending order of masks, one of each
sorted_once_exist : (marks : List MarkedPoint) → ¬ ¬ ((list : List MarkedPoint) × AreSortedOnce marks list)
sorted_once_exist marks none =
    let bound = some_bound mask_of marks in
    one_of_each mask_of (Contains marks) (Contains marks) bound.0 bound.1 (λ mark c denied. denied (mark, c, refl)) (λ found.
    none (
      found.0,
      record {
        kept = found.1.each;
        all = λ mark c. unmapped mask_of (mask_of mark) found.0 (found.1.all mark c);
        ascending = λ i j d l b.
            subst₂ (λ x y. x < y) (get_or-map mask_of found.0 i d 0 (omega (arith, l, b))) (get_or-map mask_of found.0 j d 0 b)
            (rises (map mask_of found.0) found.1.ascending i j l (omega (arith, b, length-map found.0 mask_of)));
      },
    ))

-- ---- all stages
-- a system has its vertices, or a reason why not
pub vertices-answered : VerticesAreAnswered
vertices-answered s is_system enumerable =
    bind-answered (reached_in s) (λ reached. such_that (IsVertexListOf s reached)) (reached-answered s is_system enumerable)
    (λ reached is. such_that-answered (IsVertexListOf s reached) (λ none.
    marks_exist s reached (λ marks. sorted_once_exist marks.0 (λ list.
    none (record { bases = length reached; list = list.0 }) (record { bases = refl; list = are_vertices s reached marks.0 list.0 is_system enumerable is marks.1 list.1 })))))
