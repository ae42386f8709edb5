-- There are no more vertices than reached bases
use Rattle.std.proofs.Common.{ℕ, suc, ◌+◌, ◌*◌, ◌^◌, ◌<◌, ◌≤◌, ◌≡◌, ◌⊎◌, inl, inr, true, false, eqb, List, [], length, map, get_or, sym, ap, ap₂, ◌∙◌, subst, arith, tests, Ok}
use Rattle.std.specs.List.{IsDistinct, list_any, range_with_len}
use Rattle.std.proofs.lemmas.List.FromFn.{length-map-range_with_len, get_or-map-range_with_len}
use Rattle.std.proofs.lemmas.Bool.{cases_lt}
use Rattle.std.proofs.lemmas.List.{get_or_default}
use Rattle.std.proofs.lemmas.List.Folds.{Any-from_list_any}
use Rattle.std.proofs.lemmas.Map.Keys.{IsDistinct-from_apart}
use Rattle.std.proofs.lemmas.Map.Steps.{length-le_from_distinct_below}
use Rattle.linear_systems.specs.Rows.{basic_solution}
use Rattle.linear_systems.specs.ExtremePointLaws.{HasPoint}
use Rattle.linear_systems.specs.Vertices.{MarkedPoint, IsVertexMark}
use Rattle.linear_systems.proofs.VertexListLemmas.{same_mask, place_once}
use Rattle.lex_tableau.specs.Rows.{WholeTableau, tableau}
use Rattle.lex_tableau.specs.Starts.{LinearSystem, system_of, IsSystem}
use Rattle.basis_enum.specs.Systems.{variable_count, IsEnumerable}
use Rattle.basis_enum.specs.Levels.{no_tableau}
use Rattle.basis_enum.proofs.CompleteLevelLaws.{complete_cover}
use Rattle.basis_enum.specs.Vertices.{VertexList}
use Rattle.basis_enum.specs.Enumeration.{vertices_in}

-- a test that some element passes tells one
some_equal : (q : ℕ) (xs : List ℕ) (P : ℕ → Type 0) → ((k : ℕ) → k < length xs → P (get_or xs k 0)) → list_any (eqb q) xs ≡ true → P q
some_equal q xs P h e =
    let a = Any-from_list_any (eqb q) xs e in
    let same : q ≡ a.1 = grind (arith, tests, a.4) in
    let at : get_or xs a.0 0 ≡ a.1 = get_or_default xs a.0 0 a.1 a.2 ∙ a.3 in
    subst P (at ∙ sym same) (h a.0 a.2)

-- numbers that differ fail the test
apart : (a b : ℕ) → (a ≡ b → ⊥) → eqb a b ≡ false
apart a b h = grind (arith, tests)

module _ (s : LinearSystem) (v : VertexList) (valid : IsSystem s) (enumerable : IsEnumerable s) (h : vertices_in s (Ok v)) where
  abbrev reached : List WholeTableau
  reached = h.0

  abbrev none : MarkedPoint
  none = record { low = 0; high = 0; point = [] }

  mark-is : (k : ℕ) → k < length v.list → IsVertexMark (variable_count s) (system_of s) (get_or v.list k none)
  mark-is k l = h.2.list.sound k none l

  here : (k : ℕ) (l : k < length v.list) → HasPoint (system_of s) (length reached) (λ i. tableau (get_or reached i no_tableau)) (mark-is k l).solution
  here k l = complete_cover s reached (mark-is k l).solution valid enumerable h.1 (mark-is k l).extreme

  -- equal bases have equal points
  once : (i j : ℕ) (l : i < length v.list) (m : j < length v.list) → (here i l).place ≡ (here j m).place → i ≡ j
  once i j l m e =
      let f = mark-is i l in
      let g = mark-is j m in
      let masks = same_mask (variable_count s) (system_of s) (system_of s) f.solution g.solution (get_or v.list i none) (get_or v.list j none) (λ k b. let d = (enumerable.numbered (suc k)).1 (omega arith, omega arith) in (here i l).same (suc k) d ∙ ap (λ p. basic_solution (tableau (get_or reached p no_tableau)) (suc k)) e ∙ sym ((here j m).same (suc k) d)) f.marked g.marked in
      place_once v.list h.2.list.ascending i j none l m (ap₂ (λ x y. x + 2 ^ 64 * y) masks.0 masks.1)

  place_of : (k : ℕ) → (k < length v.list) ⊎ (length v.list ≤ k) → ℕ
  place_of k (inl l) = (here k l).place
  place_of k (inr l) = 0

  place_within : (k : ℕ) (c : (k < length v.list) ⊎ (length v.list ≤ k)) → k < length v.list → place_of k c < length reached
  unfolding place_of here
  place_within k (inl l) _ = (here k l).within
  place_within k (inr r) l = absurd (omega arith)

  place_apart : (i j : ℕ) (c : (i < length v.list) ⊎ (length v.list ≤ i)) (d : (j < length v.list) ⊎ (length v.list ≤ j)) → i < j → j < length v.list → place_of i c ≡ place_of j d → ⊥
  unfolding place_of here
  place_apart i j (inl l) (inl m) a b e = let same = once i j l m e in omega arith
  place_apart i j (inr l) d a b e = omega arith
  place_apart i j (inl l) (inr m) a b e = omega arith

  abbrev place_at : ℕ → ℕ
  place_at k = place_of k (cases_lt k (length v.list))

  abbrev places : List ℕ
  places = map place_at (range_with_len 0 (length v.list))

  read : (k d : ℕ) → k < length v.list → get_or places k d ≡ place_at k
  read k d l = get_or-map-range_with_len place_at 0 (length v.list) k k d l (omega arith)

  long : length places ≡ length v.list
  long = length-map-range_with_len place_at 0 (length v.list)

  pub vertices-few : length v.list ≤ v.bases
  vertices-few =
      let distinct : IsDistinct eqb places = IsDistinct-from_apart eqb places (λ i j d a b. let c : j < length v.list = omega (arith, long) in apart _ _ (λ e. place_apart i j (cases_lt i (length v.list)) (cases_lt j (length v.list)) a c (sym (read i d (omega arith)) ∙ e ∙ read j d c))) in
      let below : (q : ℕ) → list_any (eqb q) places ≡ true → q < length reached = λ q e. some_equal q places (λ p. p < length reached) (λ k l. let c : k < length v.list = omega (arith, long) in subst (λ p. p < length reached) (sym (read k 0 c)) (place_within k (cases_lt k (length v.list)) c)) e in
      omega (arith, long, length-le_from_distinct_below places (length reached) distinct below, h.2.bases)
