-- The payoffs at the leaves of a form with a program sum to the same number.
use Rattle.std.proofs.Common.{ℕ, zero, suc, ◌+◌, ◌<◌, ◌≤◌, ◌≡◌, ◌∙◌, inl, inr, sym, ap, subst, arith, All, List, [], ◌∷◌, map, length, get_or, Option, None, Some, Ok}
use Rattle.std.specs.Prelude.{if◌then◌else◌, filter, is_none}
use Rattle.std.specs.List.{range_with_len}
use Rattle.std.proofs.lemmas.List.Elements.{All-get_or, All-head, All-tail}
use Rattle.std.proofs.lemmas.List.FromFn.{length-map-range_with_len, get_or-map-range_with_len}
use Rattle.std.proofs.lemmas.Bool.{cases_eq}
use Rattle.rational.specs.Rational.{ℚ}
use Rattle.game_theory.specs.Profiles.{profile_count, number_of}
use Rattle.game_theory.proofs.ProfileNumberLemmas.{number_of-below}
use Rattle.game_theory.specs.Trees.{Tree}
use Rattle.game_core.specs.Table.{GameTable, IsTable, game_of, strategy_counts}
use Rattle.sequence_forms.specs.Forms.{LeavesSumTo, form_of_table}
use Rattle.sequence_forms.specs.Prices.{HasConstantSum}
use Rattle.sequence_forms.proofs.SignLemmas.{table_cells}
use Rattle.sequence_data.specs.Data.{FormData, IsFormData}
use Rattle.sequence_data.specs.declared.types.Leaf.{Leaf}
use Rattle.sequence_form.specs.Forms.{IsTreeForm, profile_leaf, table_form, table_leaves}
use Rattle.sequence_form.specs.Laws.{count_of_columns, count_of_rows}
use Rattle.sequence_form.specs.Paths.{leaf_at}
use Rattle.sequence_form.proofs.FormLemmas.{table_form-is, table_form-two}
use Rattle.sequence_form.proofs.TableLeafLemmas.{two-strategies}
use Rattle.zero_sum_lp.specs.FormPrograms.{is_constant, sum_at}

-- the sum at the first leaf
abbrev pub constant_of : FormData → Leaf → ℚ
constant_of f none = sum_at (get_or f.leaves 0 none)

-- each leaf has it
abbrev pub SumsTo : List Leaf → ℚ → Type 0
SumsTo leaves c = All (λ l. sum_at l ≡ c) leaves

pub sums_to : (f : FormData) (none : Leaf) → IsFormData f → is_constant f.leaves (Ok tt) → SumsTo f.leaves (constant_of f none)
sums_to f none w h = All-get_or (λ l. All (λ k. sum_at k ≡ sum_at l) f.leaves) f.leaves 0 none w.some_leaf h

-- ---- trees
-- what holds of each leaf that is listed holds of each leaf
leaves_hold : (t : Tree) (P : Leaf → Type 0) (m n : ℕ) → All P (map (leaf_at t) (filter (λ k. is_none (t.set k)) (range_with_len m n))) → (k : ℕ) → m ≤ k → k < m + n → t.set k ≡ None → P (leaf_at t k)
leaves_hold t P m zero h k from below e = absurd (omega (arith, from, below))
leaves_hold t P m (suc n) h k from below e = elim (cases_eq m k) [
  | inl same ↦ subst (λ j. P (leaf_at t j)) same (All-head P (leaf_at t m) (map (leaf_at t) later) (subst (λ o. All P (map (leaf_at t) (if is_none o then m ∷ later else later))) (ap t.set same ∙ e) h))
  | inr other ↦ leaves_hold t P (m + 1) n (past (t.set m) h) k (omega arith) (omega arith) e
]
  where
    later : List ℕ
    later = filter (λ k. is_none (t.set k)) (range_with_len (m + 1) n)

    past : (o : Option ℕ) → All P (map (leaf_at t) (if is_none o then m ∷ later else later)) → All P (map (leaf_at t) later)
    past None all = All-tail P (leaf_at t m) (map (leaf_at t) later) all
    past (Some s) all = all

pub tree_sums : (t : Tree) (f : FormData) (c : ℚ) → IsTreeForm t f → SumsTo f.leaves c → LeavesSumTo t c
tree_sums t f c h sums k l e = leaves_hold t (λ d. sum_at d ≡ c) 0 t.size (subst (λ (ls : List Leaf). SumsTo ls c) h.leaves_are sums) k (omega arith) (omega arith) e

-- ---- tables
profile_sums : (t : GameTable) (c : ℚ) (k : ℕ) → SumsTo (table_leaves t) c → k < profile_count (strategy_counts t) → sum_at (profile_leaf t k) ≡ c
profile_sums t c k sums l =
    let n = profile_count (strategy_counts t) in
    let within : k < length (table_leaves t) = omega (arith, l, length-map-range_with_len (profile_leaf t) 0 n) in
    subst (λ d. sum_at d ≡ c) (get_or-map-range_with_len (profile_leaf t) 0 n k k (profile_leaf t k) l (omega arith))
    (All-get_or (λ d. sum_at d ≡ c) (table_leaves t) k (profile_leaf t k) within sums)

pub table_sums : (t : GameTable) (f : FormData) (c : ℚ) → IsTable t → table_form t (Ok f) → SumsTo f.leaves c → HasConstantSum (form_of_table (game_of t) (count_of_rows t) (count_of_columns t)) c
table_sums t f c w h sums =
    let m = count_of_rows t in
    let n = count_of_columns t in
    let two = two-strategies t w (table_form-two t f h) in
    let listed : SumsTo (table_leaves t) c = subst (λ (ls : List Leaf). SumsTo ls c) (table_form-is t f h).leaves_are sums in
    (table_cells (game_of t) m n).sums c (λ r q j l. profile_sums t c (number_of (m ∷ n ∷ []) (r ∷ q ∷ [])) listed
    (subst (λ ns. number_of (m ∷ n ∷ []) (r ∷ q ∷ []) < profile_count ns) (sym two) (number_of-below (m ∷ n ∷ []) (r ∷ q ∷ []) (j, (l, tt)))))
