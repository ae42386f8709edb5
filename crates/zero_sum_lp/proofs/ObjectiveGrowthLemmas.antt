-- The objective row grows at each step, so no basis comes twice, and a path is short.
use Rattle.std.proofs.Common.{ℕ, suc, pos, ◌<◌, ◌≤◌, ◌≡◌, ◌^◌, eqb, true, false, refl, sym, ap, subst, List, [], ◌∷◌, length, arith, inl, inr}
use Rattle.std.proofs.lemmas.Int.{ints}
use Rattle.std.proofs.lemmas.Bool.{or_cases, eqb-true}
use Rattle.std.proofs.lemmas.Map.Steps.{length-le_from_distinct_below}
use Rattle.std.specs.List.{IsDistinct, AllByRecursion, list_any}
use Rattle.rational.specs.Rational.{◌*ℚ◌, ◌-ℚ◌, neg_ℚ, inv_ℚ, zero_ℚ, ◌<ℚ◌}
use Rattle.linear_systems.specs.Tableau.{Tableau, pivot}
use Rattle.rational.proofs.RationalRing.{rational_ring}
use Rattle.rational.proofs.Ring.{◌times◌is◌, combine, num, ◌:*◌, ◌:-◌, :neg, A, B, C, D, E}
use Rattle.rational.proofs.Linear.{linear, minus, at, lit, ◌⟨<⟩◌}
use Rattle.rational.proofs.Field.{pos-mul}
use Rattle.linear_systems.specs.Lex.{IsLexPositive, IsLexLess}
use Rattle.linear_systems.specs.Rows.{key, IsLexicographicRow, Alike}
use Rattle.linear_systems.specs.RowEquivalence.{IsRowEquivalent, IsStart}
use Rattle.linear_systems.proofs.LexLemmas.{lex_same, lex_scale, less_trans, less_apart}
use Rattle.linear_systems.proofs.RowLemmas.{key_other, key_alike}
use Rattle.linear_systems.proofs.PivotLemmas.{eqb_apart}
use Rattle.linear_systems.proofs.RowEquivalenceLemmas.{reached_pivot, reached_alike}
use Rattle.linear_systems.proofs.LexRowLemmas.{keys_stay}
use Rattle.linear_systems.proofs.BasisLemmas.{same_rest_key}
use Rattle.zero_sum_lp.proofs.MaskLemmas.{has_basic, basis_number, mask_below, same_basis}
use Rattle.rational.proofs.InverseLemmas.{inv_pos, ne_zero_of_pos}

-- reached, and the constraints' keys are lexicographically positive
pub record IsLexicographicallyFeasible (N m : ℕ) (s t : Tableau) : Type 0 where
  pub reached : IsRowEquivalent N m s t
  pub keys : (i : ℕ) → i < m → IsLexPositive (suc m) (key s.basic t i)

-- row l improves by column c, which enters at its lexicographic row r
pub record Improves (m l : ℕ) (b : ℕ → ℕ) (t : Tableau) (c r : ℕ) : Type 0 where
  pub column : c < t.width
  pub negative : t.cell l c <ℚ zero_ℚ
  pub lex_row : IsLexicographicRow m b t c r

-- row l of each of ts is less than that of t
abbrev pub AllLess : ℕ → ℕ → (ℕ → ℕ) → Tableau → List Tableau → Type 0
AllLess m l b t [] = Unit {0}
AllLess m l b t (u ∷ us) = IsLexLess (suc m) (key b u l) (key b t l) × AllLess m l b t us

-- reached tableaux, the last first, whose row l grows
abbrev pub Chain : ℕ → ℕ → ℕ → Tableau → List Tableau → Type 0
Chain N m l s [] = Unit {0}
Chain N m l s (t ∷ ts) = IsRowEquivalent N m s t × (AllLess m l s.basic t ts × Chain N m l s ts)

-- ---- one step
pub row_grows : (m l : ℕ) (b : ℕ → ℕ) (t : Tableau) (c r : ℕ) → m ≤ l → Improves m l b t c r → ((i : ℕ) → i < m → IsLexPositive (suc m) (key b t i)) → IsLexLess (suc m) (key b t l) (key b (pivot t r c) l)
row_grows m l b t c r ml p keys =
    let q = inv_ℚ (t.cell r c) in
    let a = neg_ℚ (t.cell l c) *ℚ q in
    let within : r < m = p.lex_row.within in
    let up : zero_ℚ <ℚ a = pos-mul (neg_ℚ (t.cell l c)) q (linear (t.cell l c ∷ []) ((at 0 ⟨<⟩ lit (pos 0)) ∷ []) (lit (pos 0) ⟨<⟩ minus (at 0)) (λ one z u v. omega (arith, ints)) (p.negative, tt)) (inv_pos (t.cell r c) p.lex_row.positive) in
    record { by = lex_same (suc m) (λ j. a *ℚ key b t r j) _ (λ j _. combine rational_ring (t.cell l c ∷ q ∷ key b t r j ∷ key b t l j ∷ key b (pivot t r c) l j ∷ []) ((:neg (num 1) times E is (D :- A :* (C :* B))) ∷ []) (:neg A :* B :* C) (E :- D) refl (key_other b t r c l j (omega arith) p.column (ne_zero_of_pos (t.cell r c) p.lex_row.positive), tt)) (lex_scale (suc m) a (key b t r) up (keys r within)) }

pub path_step : (N m l : ℕ) (s t u : Tableau) (c r : ℕ) → IsStart N m s → IsLexicographicallyFeasible N m s t → Improves m l s.basic t c r → Alike (pivot t r c) u → IsLexicographicallyFeasible N m s u
path_step N m l s t u c r st p i a =
    let rows : t.rows ≡ s.rows = p.reached.rows in
    let rated : m ≤ s.rows = st.rated in
    record {
      reached = reached_alike N m s (pivot t r c) u st.rated a (reached_pivot N m s t r c st.rated i.lex_row.within i.column (ne_zero_of_pos (t.cell r c) i.lex_row.positive) p.reached);
      keys = λ k h. lex_same (suc m) (key s.basic (pivot t r c) k) _ (λ j _. key_alike s.basic (pivot t r c) u k j a (omega arith)) (keys_stay m s.basic t c r i.column i.lex_row p.keys k h);
    }

pub step_grows : (N m l : ℕ) (s t u : Tableau) (c r : ℕ) → IsStart N m s → m ≤ l → l < s.rows → IsLexicographicallyFeasible N m s t → Improves m l s.basic t c r → Alike (pivot t r c) u → IsLexLess (suc m) (key s.basic t l) (key s.basic u l)
step_grows N m l s t u c r st ml hl p i a =
    let rows : t.rows ≡ s.rows = p.reached.rows in
    record { by = lex_same (suc m) _ _ (λ j _. ap (λ v. v -ℚ key s.basic t l j) (key_alike s.basic (pivot t r c) u l j a (omega arith))) (row_grows m l s.basic t c r ml i p.keys).by }

-- ---- the whole path
all_less_trans : (m l : ℕ) (b : ℕ → ℕ) (t u : Tableau) (ts : List Tableau) → IsLexLess (suc m) (key b t l) (key b u l) → AllLess m l b t ts → AllLess m l b u ts
all_less_trans m l b t u [] h a = tt
all_less_trans m l b t u (v ∷ vs) h a = (less_trans (suc m) _ _ _ a.0 h, all_less_trans m l b t u vs h a.1)

pub chain_more : (N m l : ℕ) (s t u : Tableau) (ts : List Tableau) → Chain N m l s (t ∷ ts) → IsRowEquivalent N m s u → IsLexLess (suc m) (key s.basic t l) (key s.basic u l) → Chain N m l s (u ∷ (t ∷ ts))
chain_more N m l s t u ts ch p h = (p, ((h, all_less_trans m l s.basic t u ts h ch.1.0), ch))

pub bases_apart : (N m l : ℕ) (s t u : Tableau) → IsStart N m s → m ≤ l → l < s.rows → IsRowEquivalent N m s t → IsRowEquivalent N m s u → IsLexLess (suc m) (key s.basic u l) (key s.basic t l) → basis_number N m t ≡ basis_number N m u → ⊥
bases_apart N m l s t u st ml hl p q h e =
    let rated : m ≤ s.rows = st.rated in
    less_apart (suc m) _ _ h (λ j _. same_rest_key N m s t u s.basic l j st p q (same_basis N m t u (λ i hi. p.basic_below i (omega arith)) e) ml hl)

numbers : ℕ → ℕ → List Tableau → List ℕ
numbers N m [] = []
numbers N m (t ∷ ts) = basis_number N m t ∷ numbers N m ts

numbers_below : (N m : ℕ) (ts : List Tableau) (q : ℕ) → list_any (eqb q) (numbers N m ts) ≡ true → q < 2 ^ N
unfolding numbers
numbers_below N m [] q e = absurd (cc)
numbers_below N m (t ∷ ts) q e = elim (or_cases (eqb q (basis_number N m t)) (list_any (eqb q) (numbers N m ts)) e) [
  | inl f ↦ subst (λ k. k < 2 ^ N) (sym (eqb-true q (basis_number N m t) f)) (mask_below N (has_basic m t))
  | inr f ↦ numbers_below N m ts q f
]

length_numbers : (N m : ℕ) (ts : List Tableau) → length (numbers N m ts) ≡ length ts
unfolding numbers
length_numbers N m [] = refl
length_numbers N m (t ∷ ts) = ap suc (length_numbers N m ts)

number_apart : (N m l : ℕ) (s t : Tableau) (ts : List Tableau) → IsStart N m s → m ≤ l → l < s.rows → IsRowEquivalent N m s t → AllLess m l s.basic t ts → Chain N m l s ts → AllByRecursion (λ k. eqb (basis_number N m t) k ≡ false) (numbers N m ts)
unfolding numbers
number_apart N m l s t [] st ml hl p a ch = tt
number_apart N m l s t (u ∷ us) st ml hl p a ch =
    (eqb_apart (basis_number N m t) (basis_number N m u) (bases_apart N m l s t u st ml hl p ch.0 a.0), number_apart N m l s t us st ml hl p a.1 ch.1.1)

numbers_distinct : (N m l : ℕ) (s : Tableau) (ts : List Tableau) → IsStart N m s → m ≤ l → l < s.rows → Chain N m l s ts → IsDistinct eqb (numbers N m ts)
unfolding numbers IsDistinct
numbers_distinct N m l s [] st ml hl ch = tt
numbers_distinct N m l s (t ∷ ts) st ml hl ch = (number_apart N m l s t ts st ml hl ch.0 ch.1.0 ch.1.1, numbers_distinct N m l s ts st ml hl ch.1.1)

-- a path has at most one tableau for each set of variables
pub chain_short : (N m l : ℕ) (s : Tableau) (ts : List Tableau) → IsStart N m s → m ≤ l → l < s.rows → Chain N m l s ts → length ts ≤ 2 ^ N
chain_short N m l s ts st ml hl ch =
    let e : length (numbers N m ts) ≡ length ts = length_numbers N m ts in
    let b : length (numbers N m ts) ≤ 2 ^ N = length-le_from_distinct_below (numbers N m ts) (2 ^ N) (numbers_distinct N m l s ts st ml hl ch) (numbers_below N m ts) in
    omega arith
