-- Where the enumeration is complete, the reached tableaux are closed under lexicographic pivots
use Rattle.std.proofs.Common.{ℕ, suc, zero, ◌<◌, ◌≤◌, ◌≡◌, ◌≢◌, ◌+◌, eqb, cond, refl, sym, ap, ap₂, ◌∙◌, subst, arith, ◌⊎◌, inl, inr, List, [], ◌∷◌, ◌++◌, length, get_or, slice_set, Ok}
use Rattle.std.proofs.lemmas.Bool.{cases_eq}
use Rattle.std.specs.List.{Contains}
use Rattle.std.proofs.lemmas.Grind.{same_number_lists}
use Rattle.std.proofs.lemmas.List.{get_or_default, length-set, map-append}
use Rattle.std.proofs.lemmas.List.Elements.{Contains-append_left, Contains-append_right, Contains-append_cases, Contains-get_or}
use Rattle.lists.proofs.ElementLemmas.{index_of, in_cases, first_in, rest_in, mapped, unmapped}
use Rattle.rational.specs.Rational.{ℚ}
use Rattle.linear_systems.specs.Rows.{basic_solution, IsLexicographicRow}
use Rattle.linear_systems.specs.RowEquivalence.{IsVariableOf, in_row, in_column}
use Rattle.linear_systems.proofs.PivotLemmas.{eqb_same, eqb_apart}
use Rattle.lex_tableau.specs.Ratio.{variable_at, IsLeavingRow}
use Rattle.lex_tableau.specs.Rows.{WholeTableau, tableau, IsTableau, IsPivotOf}
use Rattle.lex_tableau.specs.Starts.{LinearSystem, system_of, IsSystem, IsStartOf}
use Rattle.linear_systems.specs.Points.{IsExtremePoint}
use Rattle.linear_systems.specs.LexFeasible.{IsFeasibleStart, IsLexFeasible, IsBasic, IsNeighbour, HasNeighbour, IsClosed}
use Rattle.linear_systems.specs.ExtremePointLaws.{HasPoint}
use Rattle.linear_systems.proofs.StartLemmas.{start_reached, alike_reached, pivot_reached}
use Rattle.linear_systems.proofs.SolutionLemmas.{solution_extreme}
use Rattle.linear_systems.proofs.CoverLemmas.{covers}
use Rattle.basis_enum.specs.Bases.{basis_of, neighbour_of, HaveDigits}
use Rattle.basis_enum.specs.Levels.{Levels, Pivot, no_pivot, no_tableau, parent_of, target, IsPivot, bases_of}
use Rattle.basis_enum.specs.Systems.{IsEnumerable}
use Rattle.basis_enum.specs.Reached.{level_of, reached_in}
use Rattle.basis_enum.proofs.LevelLemmas.{IsNext, first_read, next_read, level_many}
use Rattle.basis_enum.proofs.DigitLemmas.{basis_tells}
use Rattle.basis_enum.proofs.NeighbourLemmas.{nonbasics_are, exchanged_at, exchanged_are}

enumerable_digits : (s : LinearSystem) → IsEnumerable s → (v : ℕ) → IsVariableOf (system_of s) v → (0 < v) × (v ≤ 128)
enumerable_digits s e v k =
    let b = (e.numbered v).0 k in
    let few : length s.basics + length s.nonbasics ≤ 128 = e.few in
    (b.0, omega (arith, b.1, few))

feasible : (s : LinearSystem) → IsSystem s → IsEnumerable s → IsFeasibleStart 129 (system_of s)
feasible s h e =
    record {
      start = record {
        rated = omega arith;
        proper = h.distinct;
        basic_below = λ i k. (let d = enumerable_digits s e _ (in_row i k refl) in omega (arith, d.1));
        nonbasic_below = λ j k. (let d = enumerable_digits s e _ (in_column j k refl) in omega (arith, d.1));
      };
      right = e.right;
    }

-- what every reached tableau keeps
pub record Held (s : LinearSystem) (t : WholeTableau) : Type 0 where
  pub is_tableau : IsTableau t
  pub reached : IsLexFeasible 129 (system_of s) (tableau t)
  pub starts : t.starts ≡ s.basics
  pub rated : t.rated ≡ length s.basics

pub held_start : (s : LinearSystem) (n : WholeTableau) → IsSystem s → IsEnumerable s → IsTableau n → IsStartOf s n → Held s n
held_start s n h e t st = let f = feasible s h e in record { is_tableau = t; reached = alike_reached 129 (system_of s) (system_of s) (tableau n) f st.fractions (start_reached 129 (system_of s) f); starts = st.starts; rated = st.rated ∙ e.rated }

-- the lexicographic row, in the start's words and in the tableau's
row_of_start : (s : LinearSystem) (t : WholeTableau) (c r : ℕ) → Held s t → IsLeavingRow t c r → IsLexicographicRow (length s.basics) (variable_at s.basics) (tableau t) c r
row_of_start s t c r h x = subst (λ m. IsLexicographicRow m (variable_at s.basics) (tableau t) c r) h.rated (subst (λ b. IsLexicographicRow t.rated (variable_at b) (tableau t) c r) h.starts x)

row_of_tableau : (s : LinearSystem) (t : WholeTableau) (c r : ℕ) → Held s t → IsLexicographicRow (length s.basics) (variable_at s.basics) (tableau t) c r → IsLeavingRow t c r
row_of_tableau s t c r h x = subst (λ b. IsLexicographicRow t.rated (variable_at b) (tableau t) c r) (sym h.starts) (subst (λ m. IsLexicographicRow m (variable_at s.basics) (tableau t) c r) (sym h.rated) x)

pub held_child : (s : LinearSystem) (t n : WholeTableau) (r c : ℕ) → IsSystem s → IsEnumerable s → Held s t → c < length t.nonbasics → IsLeavingRow t c r → IsTableau n → IsPivotOf t r c n → Held s n
held_child s t n r c h e p hc x nt q =
    let width : length t.nonbasics ≡ length s.nonbasics = p.reached.reached.width in
    record { is_tableau = nt; reached = pivot_reached 129 (system_of s) (tableau t) (tableau n) r c (feasible s h e) p.reached (omega arith) (row_of_start s t c r p x) q.fractions; starts = q.starts ∙ p.starts; rated = q.rated ∙ p.rated }

pub held_digits : (s : LinearSystem) (t : WholeTableau) → IsEnumerable s → Held s t → HaveDigits t
held_digits s t e h v k = enumerable_digits s e v (h.reached.variables v k)

-- all tableaux of the levels
pub level_held : (s : LinearSystem) (k : ℕ) (l : Levels) → IsSystem s → IsEnumerable s → level_of s k (Ok l) → (t : WholeTableau) → Contains (l.before ++ l.level) t → Held s t
level_held s zero l h e is t c = let first = first_read s l is in elim (in_cases first.start t [] (subst (λ xs. Contains xs t) (ap₂ (λ b x. b ++ x) first.before first.level) c)) [
  | inl q ↦ subst (Held s) q (held_start s first.start h e first.started.valid first.started.start)
  | inr x ↦ absurd (omega (arith, x.1))
]
level_held s (suc k) l h e (p, hp, q) t c = go (level_held s k p h e hp) (Contains-append_cases l.before l.level t c)
  where
    n : IsNext p l
    n = next_read k p l q

    go : ((t : WholeTableau) → Contains (p.before ++ p.level) t → Held s t) → Contains l.before t ⊎ Contains l.level t → Held s t
    go ih (inl a) = ih t (subst (λ xs. Contains xs t) n.next.before a)
    go ih (inr b) =
        let i = b.0 in
        let size : length l.level ≡ length n.pivots = n.next.size in
        let within : i < length l.level = b.1 in
        let m = get_or n.pivots i no_pivot in
        let x = n.are.each m (Contains-get_or n.pivots i no_pivot (omega arith)) in
        let y = n.next.tableaux i (omega arith) in
        subst (Held s) (get_or_default l.level i no_tableau t within ∙ b.2) (held_child s (parent_of p.level m) (get_or l.level i no_tableau) m.row m.column h e (ih (parent_of p.level m) (Contains-append_right p.before p.level _ (Contains-get_or p.level m.parent no_tableau x.parent))) x.column x.row y.is_tableau y.pivot)

-- ---- a child has the basis of its pivot
pub pivoted_nonbasics : (t n : WholeTableau) (r c : ℕ) → c < length t.nonbasics → IsPivotOf t r c n → n.nonbasics ≡ slice_set t.nonbasics c (get_or t.basics r 0)
pivoted_nonbasics t n r c hc p = sym (same_number_lists (slice_set t.nonbasics c (get_or t.basics r 0)) n.nonbasics (length-set t.nonbasics c (get_or t.basics r 0) ∙ p.fractions.width) (λ j h. at j (subst (λ m. j < m) (length-set t.nonbasics c (get_or t.basics r 0)) h)))
  where
    at : (j : ℕ) → j < length t.nonbasics → get_or (slice_set t.nonbasics c (get_or t.basics r 0)) j 0 ≡ get_or n.nonbasics j 0
    at j h = elim (exchanged_at t.nonbasics c (get_or t.basics r 0) j hc h) [
      | inl e ↦ e.1 ∙ sym (ap (λ b. cond b (get_or t.basics r 0) (get_or t.nonbasics j 0)) (ap (λ k. eqb k c) e.0 ∙ eqb_same c)) ∙ p.fractions.nonbasic j h
      | inr e ↦ e.1 ∙ sym (ap (λ b. cond b (get_or t.basics r 0) (get_or t.nonbasics j 0)) (eqb_apart j c e.0)) ∙ p.fractions.nonbasic j h
    ]

-- ---- the levels before have all their neighbours
IsCovered : Levels → List WholeTableau → Type 0
IsCovered l ts = (t : WholeTableau) → Contains ts t → (c r : ℕ) → c < length t.nonbasics → IsLeavingRow t c r → Contains (bases_of (l.before ++ l.level)) (neighbour_of t r c)

contains_or : (xs : List ℕ) (v : ℕ) → Contains xs v ⊎ (Contains xs v → ⊥)
contains_or [] v = inr (λ c. omega (arith, c.1))
contains_or (x ∷ xs) v = elim (cases_eq x v) [
  | inl e ↦ inl (subst (Contains (x ∷ xs)) e (first_in x xs))
  | inr ne ↦ elim (contains_or xs v) [ inl c ↦ inl (rest_in x v xs c) | inr away ↦ inr (λ c. elim (in_cases x v xs c) [ inl e ↦ ne e | inr t ↦ away t ]) ]
]

-- what is known stays known, and what is new is in the next level
bases_left : (xs ys : List WholeTableau) (b : ℕ) → Contains (bases_of xs) b → Contains (bases_of (xs ++ ys)) b
bases_left xs ys b c = subst (λ zs. Contains zs b) (sym (map-append (λ t. basis_of t.nonbasics) xs ys)) (Contains-append_left (bases_of xs) (bases_of ys) b c)

bases_right : (xs ys : List WholeTableau) (b : ℕ) → Contains (bases_of ys) b → Contains (bases_of (xs ++ ys)) b
bases_right xs ys b c = subst (λ zs. Contains zs b) (sym (map-append (λ t. basis_of t.nonbasics) xs ys)) (Contains-append_right (bases_of xs) (bases_of ys) b c)

-- a tableau of the level, as the parent of a pivot
pivot_numbered : (level : List WholeTableau) (t : WholeTableau) (c r : ℕ) → (k : Contains level t) → c < length t.nonbasics → IsLeavingRow t c r → IsPivot level (record { parent = k.0; row = r; column = c }) × (target level (record { parent = k.0; row = r; column = c }) ≡ neighbour_of t r c)
pivot_numbered level t c r k hc x = let e : get_or level k.0 no_tableau ≡ t = get_or_default level k.0 no_tableau t k.1 ∙ k.2 in
    (record { parent = k.1; column = subst (λ u. c < length u.nonbasics) (sym e) hc; row = subst (λ u. IsLeavingRow u c r) (sym e) x }, ap (λ u. neighbour_of u r c) e)

covered_next : (p l : Levels) → IsNext p l → IsCovered p p.before → IsCovered l l.before
unfolding IsCovered
covered_next p l n ih t c column r hc x = subst (λ b. Contains (bases_of (b ++ l.level)) (neighbour_of t r column)) (sym n.next.before) (go (Contains-append_cases p.before p.level t (subst (λ xs. Contains xs t) n.next.before c)))
  where
    new_one : (m : Pivot) → IsPivot p.level m → (Contains (bases_of (p.before ++ p.level)) (target p.level m) → ⊥) → Contains (bases_of l.level) (target p.level m)
    new_one m h away =
        let z = unmapped (target p.level) (target p.level m) n.pivots (n.are.all m h away) in
        let i = (z.1).0 in
        let within : i < length n.pivots = (z.1).1 in
        let size : length l.level ≡ length n.pivots = n.next.size in
        let k = get_or n.pivots i no_pivot in
        let same : k ≡ z.0 = get_or_default n.pivots i no_pivot z.0 within ∙ (z.1).2 in
        let child = n.next.tableaux i within in
        subst (Contains (bases_of l.level)) (ap basis_of (pivoted_nonbasics (parent_of p.level k) (get_or l.level i no_tableau) k.row k.column (n.are.each k (Contains-get_or n.pivots i no_pivot within)).column child.pivot) ∙ ap (target p.level) same ∙ z.2)
        (mapped (λ t. basis_of t.nonbasics) (get_or l.level i no_tableau) l.level (Contains-get_or l.level i no_tableau (omega arith)))

    go : Contains p.before t ⊎ Contains p.level t → Contains (bases_of ((p.before ++ p.level) ++ l.level)) (neighbour_of t r column)
    go (inl a) = bases_left (p.before ++ p.level) l.level _ (ih t a column r hc x)
    go (inr b) = let m = pivot_numbered p.level t column r b hc x in elim (contains_or (bases_of (p.before ++ p.level)) (neighbour_of t r column)) [
      | inl known ↦ bases_left (p.before ++ p.level) l.level _ known
      | inr away ↦ bases_right (p.before ++ p.level) l.level _ (subst (Contains (bases_of l.level)) m.1 (new_one _ m.0 (λ k. away (subst (Contains (bases_of (p.before ++ p.level))) m.1 k))))
    ]

level_covered : (s : LinearSystem) (k : ℕ) (l : Levels) → level_of s k (Ok l) → IsCovered l l.before
unfolding IsCovered
level_covered s zero l h = λ t c column r hc x. let z = subst (λ xs. Contains xs t) (first_read s l h).before c in absurd (omega (arith, z.1))
level_covered s (suc k) l (p, hp, q) = covered_next p l (next_read k p l q) (level_covered s k p hp)

-- ---- equal bases are those of neighbours
is_neighbour : (s : LinearSystem) (t u : WholeTableau) (r c : ℕ) → IsEnumerable s → Held s t → Held s u → r < length t.basics → c < length t.nonbasics → basis_of u.nonbasics ≡ neighbour_of t r c → IsNeighbour (tableau t) r c (tableau u)
is_neighbour s t u r c e ht hu hr hc same = record { entered = basic_in (get_or t.nonbasics c 0) (in_column c hc refl) entering; stayed = λ i hi ne. basic_in (get_or t.basics i 0) (in_row i hi refl) (staying i hi ne) }
  where
    after : List ℕ
    after = slice_set t.nonbasics c (get_or t.basics r 0)

    sizes : length (slice_set t.nonbasics c (get_or t.basics r 0)) ≡ length t.nonbasics
    sizes = length-set t.nonbasics c (get_or t.basics r 0)

    basic_in : (v : ℕ) → IsVariableOf (tableau t) v → (Contains (slice_set t.nonbasics c (get_or t.basics r 0)) v → ⊥) → IsBasic (tableau u) v
    basic_in v k away = go (hu.reached.reached.variables v (ht.reached.variables v k))
      where
        go : IsVariableOf (tableau u) v → IsBasic (tableau u) v
        go (in_row i hi q) = record { row = i; within = hi; here = q }
        go (in_column j hj q) = absurd (away (basis_tells u.nonbasics (slice_set t.nonbasics c (get_or t.basics r 0)) v (nonbasics_are u hu.is_tableau (held_digits s u e hu)) (exchanged_are t r c ht.is_tableau (held_digits s t e ht) hr hc) same (subst (Contains u.nonbasics) q (Contains-get_or u.nonbasics j 0 hj))))

    entering : Contains (slice_set t.nonbasics c (get_or t.basics r 0)) (get_or t.nonbasics c 0) → ⊥
    entering k = let p = index_of _ _ k in let hp = subst (λ n. p.0 < n) sizes p.1 in elim (exchanged_at t.nonbasics c (get_or t.basics r 0) p.0 hc hp) [
      | inl q ↦ ht.is_tableau.reached.reached.proper.apart r c hr hc (sym q.1 ∙ p.2)
      | inr q ↦ q.0 (ht.is_tableau.reached.reached.proper.nonbasic_once p.0 c hp hc (sym q.1 ∙ p.2))
    ]

    staying : (i : ℕ) → i < length t.basics → i ≢ r → Contains (slice_set t.nonbasics c (get_or t.basics r 0)) (get_or t.basics i 0) → ⊥
    staying i hi ne k = let p = index_of _ _ k in let hp = subst (λ n. p.0 < n) sizes p.1 in elim (exchanged_at t.nonbasics c (get_or t.basics r 0) p.0 hc hp) [
      | inl q ↦ ne (ht.is_tableau.reached.reached.proper.basic_once i r hi hr (sym p.2 ∙ q.1))
      | inr q ↦ ht.is_tableau.reached.reached.proper.apart i p.0 hi hp (sym p.2 ∙ q.1)
    ]

-- ---- at the end
closed : (s : LinearSystem) (ts : List WholeTableau) → IsSystem s → IsEnumerable s → reached_in s (Ok ts) → IsClosed (system_of s) (length ts) (λ k. tableau (get_or ts k no_tableau))
unfolding IsCovered
closed s ts h e z = record { to = to }
  where
    held : (t : WholeTableau) → Contains ts t → Held s t
    held t c = level_held s z.number z.levels h e z.is_level t (subst (λ xs. Contains xs t) z.all c)

    known : (t : WholeTableau) (c r : ℕ) → Contains ts t → c < length t.nonbasics → IsLeavingRow t c r → Contains (bases_of ts) (neighbour_of t r c)
    known t c r k hc x = subst (λ xs. Contains (bases_of xs) (neighbour_of t r c)) (sym z.all) (elim (Contains-append_cases z.levels.before z.levels.level t (subst (λ xs. Contains xs t) z.all k)) [
      | inl a ↦ level_covered s z.number z.levels z.is_level t a c r hc x
      | inr b ↦ (let m = pivot_numbered z.levels.level t c r b hc x in elim (contains_or (bases_of (z.levels.before ++ z.levels.level)) (neighbour_of t r c)) [ inl there ↦ there | inr away ↦ (let w = z.none.all _ m.0 (λ k. away (subst (Contains (bases_of (z.levels.before ++ z.levels.level))) m.1 k)) in absurd (omega (arith, w.1))) ])
    ])

    to : (k : ℕ) → k < length ts → (r c : ℕ) → c < length s.nonbasics → IsLexicographicRow (length s.basics) (variable_at s.basics) (tableau (get_or ts k no_tableau)) c r → HasNeighbour (length ts) (λ k. tableau (get_or ts k no_tableau)) (tableau (get_or ts k no_tableau)) r c
    to k hk r c hc x =
        let t = get_or ts k no_tableau in
        let ct : Contains ts t = Contains-get_or ts k no_tableau hk in
        let ht : Held s t = held t ct in
        let width : length t.nonbasics ≡ length s.nonbasics = ht.reached.reached.width in
        let rows : length t.basics ≡ length s.basics = ht.reached.reached.rows in
        let inside : r < length s.basics = x.within in
        let y = unmapped (λ t. basis_of t.nonbasics) (neighbour_of t r c) ts (known t c r ct (omega arith) (row_of_tableau s t c r ht x)) in
        let same : get_or ts (y.1).0 no_tableau ≡ y.0 = get_or_default ts (y.1).0 no_tableau y.0 (y.1).1 ∙ (y.1).2 in
        record { place = (y.1).0; within = (y.1).1; neighbour = subst (λ u. IsNeighbour (tableau t) r c (tableau u)) (sym same) (is_neighbour s t y.0 r c e ht (held y.0 y.1) (omega arith) (omega arith) y.2) }

some_level : (s : LinearSystem) (k : ℕ) (l : Levels) → level_of s k (Ok l) → 0 < length (l.before ++ l.level)
some_level s k l h = let many : k < length (l.before ++ l.level) = level_many s k l h in omega arith

pub complete_cover : (s : LinearSystem) (ts : List WholeTableau) (p : ℕ → ℚ) → IsSystem s → IsEnumerable s → reached_in s (Ok ts) → IsExtremePoint (system_of s) p → HasPoint (system_of s) (length ts) (λ k. tableau (get_or ts k no_tableau)) p
complete_cover s ts p h e z ex = covers 129 (system_of s) (length ts) (λ k. tableau (get_or ts k no_tableau)) p (feasible s h e) (subst (λ xs. 0 < length xs) (sym z.all) (some_level s z.number z.levels z.is_level)) (λ k hk. (level_held s z.number z.levels h e z.is_level (get_or ts k no_tableau) (subst (λ xs. Contains xs (get_or ts k no_tableau)) z.all (Contains-get_or ts k no_tableau hk))).reached) (closed s ts h e z) ex

pub complete_extreme : (s : LinearSystem) (ts : List WholeTableau) (k : ℕ) → IsSystem s → IsEnumerable s → reached_in s (Ok ts) → k < length ts → IsExtremePoint (system_of s) (basic_solution (tableau (get_or ts k no_tableau)))
complete_extreme s ts k h e z hk = solution_extreme 129 (system_of s) (tableau (get_or ts k no_tableau)) (level_held s z.number z.levels h e z.is_level (get_or ts k no_tableau) (subst (λ xs. Contains xs (get_or ts k no_tableau)) z.all (Contains-get_or ts k no_tableau hk))).reached
