-- The profiles of a table's cells, where the others play a profile, and their numbers.
use Rattle.std.proofs.Common.{ℕ, zero, suc, ◌++◌, map, refl, ap₂, cond, not, ◌&&◌, ◌==◌, eq-eqb, ◌∷◌, take, ◌+◌, ◌*◌, ◌<◌, ◌≤◌, ◌≡◌, ◌≢◌, ◌⊎◌, inl, inr, List, [], length, get_or, set, All, sym, ap, ◌∙◌, subst, arith}
use Rattle.std.specs.Prelude.{slice_get, Some}
use Rattle.std.specs.List.{filter, range_with_len}
use Rattle.std.proofs.Math.Nat.{mul-le-mul_left}
use Rattle.std.proofs.Math.ListN.{length-set}
use Rattle.std.proofs.lemmas.Bool.{cases_eq}
use Rattle.std.proofs.lemmas.List.{get_or-set_same, get_or-set_other, get_or_default, append-nil}
use Rattle.lists.proofs.NumberLemmas.{unequal}
use Rattle.std.proofs.lemmas.Option.{get_or_from_slice_get}
use Rattle.std.proofs.lemmas.List.Elements.{All-filter, All-map, All-set, All-take}
use Rattle.std.proofs.lemmas.List.FromFn.{filter_of_map_range_with_len_more, length-range_with_len, get_or-range_with_len}
use Rattle.game_theory.specs.Profiles.{IsProfile, profile_count, number_of, stride}
use Rattle.game_theory.proofs.ProfileNumberLemmas.{length-profile, profile-below, IsProfile-by_index, IsProfile-exchange, number_of-below, number_of-exchange_from}
use Rattle.game_theory.proofs.ProfileCountLemmas.{profile_count-positive, profile_count-front, profile_count-next}
use Rattle.game_core.specs.Table.{GameTable, IsTable, strategy_counts, most_payoffs}
use Rattle.game_core.proofs.TableCountLemmas.{length-strategy_counts, profile_count-table, at_most_product}
use Rattle.game_core.proofs.StrideLemmas.{HaveStrategies-table}
use Rattle.convert_tables.specs.Layouts.{other_players, others_counts, strategy_count, strategy_name, cell_number}

-- the others are players
pub other_players-below : (n row column : ℕ) → All (λ i. i < n) (other_players n row column)
other_players-below n row column =
    All-filter _ (λ i. i < n) (range_with_len 0 n) (λ k d l. omega (arith, length-range_with_len 0 n, get_or-range_with_len 0 n k d))

-- two players of a table, and a profile of the others
pub record AreAxes (t : GameTable) (row column : ℕ) : Type 0 where
  pub valid : IsTable t
  pub row_in : row < length t.players
  pub column_in : column < length t.players
  pub apart : row ≢ column

-- a number that is lowered to 1
lowered : (ns : List ℕ) (j i : ℕ) → j < length ns → 0 < get_or ns j 0 → get_or (set ns j 1) i 0 ≤ get_or ns i 0
lowered ns j i l p = go (cases_eq i j)
  where
    go : (i ≡ j) ⊎ (i ≢ j) → get_or (set ns j 1) i 0 ≤ get_or ns i 0
    go (inl e) = subst (λ v. get_or (set ns j 1) v 0 ≤ get_or ns v 0) (sym e) (omega (arith, get_or-set_same ns j 1 0 l))
    go (inr e) = omega (arith, get_or-set_other ns j i 1 0 e)

positive_still : (ns : List ℕ) (j i : ℕ) → j < length ns → 0 < get_or ns i 0 → 0 < get_or (set ns j 1) i 0
positive_still ns j i l p = go (cases_eq i j)
  where
    go : (i ≡ j) ⊎ (i ≢ j) → 0 < get_or (set ns j 1) i 0
    go (inl e) = subst (λ v. 0 < get_or (set ns j 1) v 0) (sym e) (omega (arith, get_or-set_same ns j 1 0 l))
    go (inr e) = omega (arith, get_or-set_other ns j i 1 0 e)

-- a profile of the others is a profile, in which the row player and the column player play 0
pub record IsOthersProfile (t : GameTable) (row column : ℕ) (profile : List ℕ) : Type 0 where
  pub is_profile : IsProfile (strategy_counts t) profile
  pub row_zero : get_or profile row 0 ≡ 0
  pub column_zero : get_or profile column 0 ≡ 0

pub IsOthersProfile-profile : (t : GameTable) (row column : ℕ) (profile : List ℕ) → AreAxes t row column → IsProfile (others_counts t row column) profile → IsOthersProfile t row column profile
IsOthersProfile-profile t row column profile h is =
    let ns = strategy_counts t in
    let once = set ns row 1 in
    let twice = set once column 1 in
    let long : length ns ≡ length t.players = length-strategy_counts t h.valid in
    let long_once : length once ≡ length ns = length-set ns row 1 in
    let long_twice : length twice ≡ length ns = length-set once column 1 ∙ long_once in
    let row_in : row < length ns = omega (arith, long, h.row_in) in
    let column_in : column < length ns = omega (arith, long, h.column_in) in
    let some : (i : ℕ) → i < length ns → 0 < get_or ns i 0 = (HaveStrategies-table t h.valid).some in
    let below : (i : ℕ) → i < length ns → get_or profile i 0 < get_or twice i 0 = λ i l. profile-below twice profile i is (omega (arith, long_twice)) in
    record {
      is_profile = IsProfile-by_index ns profile (length-profile twice profile is ∙ long_twice) (λ i l. omega (arith, below i l, lowered once column i (omega arith) (positive_still ns row column row_in (some column column_in)), lowered ns row i row_in (some row row_in)));
      row_zero = omega (arith, below row row_in, get_or-set_other once column row 1 0 h.apart, get_or-set_same ns row 1 0 row_in);
      column_zero = let l : column < length once = omega arith in omega (arith, below column column_in, get_or-set_same once column 1 0 l);
    }

-- The cells of row r: where they stand among the profiles.
pub record AreCells (t : GameTable) (row column : ℕ) (profile : List ℕ) (r first : ℕ) : Type 0 where
  pub numbers : (c : ℕ) → c < strategy_count t column → cell_number t row column profile r c ≡ first + stride (strategy_counts t) column * c
  pub below : (c : ℕ) → c < strategy_count t column → first + stride (strategy_counts t) column * c < profile_count (strategy_counts t)

-- the row's first cell
pub first_cell : (t : GameTable) (row column : ℕ) (profile : List ℕ) (r : ℕ) → AreAxes t row column → IsOthersProfile t row column profile → r < strategy_count t row → number_of (strategy_counts t) (set profile row r) ≡ number_of (strategy_counts t) profile + stride (strategy_counts t) row * r
first_cell t row column profile r h is l =
    let ns = strategy_counts t in
    let row_in : row < length ns = omega (arith, length-strategy_counts t h.valid, h.row_in) in
    let zero_there : stride ns row * get_or profile row 0 ≡ 0 = ap (λ v. stride ns row * v) is.row_zero ∙ omega arith in
    number_of-exchange_from ns profile row r (number_of ns profile) is.is_profile row_in (omega arith)

-- the row's first cell is one of few
pub first_few : (t : GameTable) (row column : ℕ) (profile : List ℕ) (r : ℕ) → AreAxes t row column → IsOthersProfile t row column profile → r < strategy_count t row → number_of (strategy_counts t) profile + stride (strategy_counts t) row * r ≤ most_payoffs
first_few t row column profile r h is l =
    let ns = strategy_counts t in
    let row_in : row < length ns = omega (arith, length-strategy_counts t h.valid, h.row_in) in
    let below : number_of ns (set profile row r) < profile_count ns = number_of-below ns (set profile row r) (IsProfile-exchange ns profile row r is.is_profile row_in l) in
    omega (arith, first_cell t row column profile r h is l, profile_count-table t h.valid)

pub AreCells-row : (t : GameTable) (row column : ℕ) (profile : List ℕ) (r : ℕ) → AreAxes t row column → IsOthersProfile t row column profile → r < strategy_count t row → AreCells t row column profile r (number_of (strategy_counts t) profile + stride (strategy_counts t) row * r)
AreCells-row t row column profile r h is l =
    let ns = strategy_counts t in
    let s = set profile row r in
    let first = number_of ns profile + stride ns row * r in
    let row_in : row < length ns = omega (arith, length-strategy_counts t h.valid, h.row_in) in
    let column_in : column < length ns = omega (arith, length-strategy_counts t h.valid, h.column_in) in
    let in_row : IsProfile ns s = IsProfile-exchange ns profile row r is.is_profile row_in l in
    let other : column ≢ row = λ e. h.apart (sym e) in
    let there : get_or s column 0 ≡ 0 = get_or-set_other profile row column r 0 other ∙ is.column_zero in
    let zero_there : stride ns column * get_or s column 0 ≡ 0 = ap (λ v. stride ns column * v) there ∙ omega arith in
    let start : first + stride ns column * get_or s column 0 ≡ number_of ns s = omega (arith, first_cell t row column profile r h is l) in
    let at : (c : ℕ) → number_of ns (set s column c) ≡ first + stride ns column * c = λ c. number_of-exchange_from ns s column c first in_row column_in start in
    record {
      numbers = λ c b. at c;
      below = λ c b. subst (λ v. v < profile_count ns) (at c) (number_of-below ns (set s column c) (IsProfile-exchange ns s column c in_row column_in b));
    }

-- ---- the profiles of the others
-- players who choose nothing make no more profiles
profile_count-lowered : (ns : List ℕ) (i : ℕ) → All (λ n. 0 < n) ns → profile_count (set ns i 1) ≤ profile_count ns
profile_count-lowered [] i h = omega arith
profile_count-lowered (n ∷ ns) zero h = omega (arith, at_most_product n (profile_count ns) (h 0 0 (omega arith)))
profile_count-lowered (n ∷ ns) (suc i) h = mul-le-mul_left n (profile_count-lowered ns i (λ k d l. h (suc k) d (omega arith)))

-- each has at most as many strategies as there are profiles
count_few : (ns : List ℕ) (k : ℕ) → All (λ n. 0 < n) ns → k < length ns → get_or ns k 0 ≤ profile_count ns
count_few ns k h l =
    omega (arith, at_most_product (profile_count (take k ns)) (get_or ns k 0) (profile_count-positive (take k ns) (All-take (λ n. 0 < n) k ns h)), profile_count-next ns k l, profile_count-front (k + 1) ns h)

-- The numbers of profiles are few, and positive.
pub record AreFewCounts (ns : List ℕ) : Type 0 where
  pub profiles : profile_count ns ≤ most_payoffs
  pub few : All (λ n. n ≤ most_payoffs) ns
  pub some : All (λ n. 0 < n) ns

pub AreFewCounts-others : (t : GameTable) (row column : ℕ) → IsTable t → AreFewCounts (others_counts t row column)
AreFewCounts-others t row column valid =
    let ns = strategy_counts t in
    let counts = others_counts t row column in
    let some : All (λ n. 0 < n) ns = All-map (λ n. 0 < n) length t.strategies valid.some_strategy in
    let once : All (λ n. 0 < n) (set ns row 1) = All-set (λ n. 0 < n) ns row 1 (omega arith) some in
    let twice : All (λ n. 0 < n) counts = All-set (λ n. 0 < n) (set ns row 1) column 1 (omega arith) once in
    let profiles : profile_count counts ≤ most_payoffs = omega (arith, profile_count-lowered (set ns row 1) column once, profile_count-lowered ns row some, profile_count-table t valid) in
    record { profiles = profiles; few = λ k d l. omega (arith, count_few counts k twice l, get_or_default counts k d 0 l); some = twice }

-- ---- names
-- a strategy's name
pub strategy_name_is : (t : GameTable) (i s : ℕ) (names : List (List ℕ)) (name : List ℕ) → slice_get t.strategies i ≡ Some names → s < length names → name ≡ get_or names s name → strategy_name t i s ≡ name
strategy_name_is t i s names name e l is =
    ap (λ ns. get_or ns s []) (get_or_from_slice_get t.strategies i names [] e) ∙ get_or_default names s [] name l ∙ sym is

-- ---- players
map_same : (xs : List ℕ) → map (λ (k : ℕ). k) xs ≡ xs
map_same [] = refl
map_same (x ∷ xs) = ap (λ v. x ∷ v) (map_same xs)

-- the others among one player more
others_next : (n row column : ℕ) → other_players (n + 1) row column ≡ other_players n row column ++ cond (not (n == row) && not (n == column)) (n ∷ []) []
others_next n row column =
    let test = λ (i : ℕ). not (i == row) && not (i == column) in
    ap (filter test) (sym (map_same (range_with_len 0 (n + 1))))
    ∙ filter_of_map_range_with_len_more test (λ (k : ℕ). k) 0 n n (omega arith)
    ∙ ap (λ v. filter test v ++ cond (test n) (n ∷ []) []) (map_same (range_with_len 0 n))

pub others_more : (n row column : ℕ) → n ≢ row → n ≢ column → other_players (n + 1) row column ≡ other_players n row column ++ n ∷ []
others_more n row column a b =
    others_next n row column ∙ ap₂ (λ v w. other_players n row column ++ cond (not v && not w) (n ∷ []) []) (unequal n row a) (unequal n column b)

pub others_without_row : (n row column : ℕ) → n ≡ row → other_players (n + 1) row column ≡ other_players n row column
others_without_row n row column e =
    others_next n row column ∙ ap (λ v. other_players n row column ++ cond (not v && not (n == column)) (n ∷ []) []) (eq-eqb n row e) ∙ append-nil (other_players n row column)

pub others_without_column : (n row column : ℕ) → n ≢ row → n ≡ column → other_players (n + 1) row column ≡ other_players n row column
others_without_column n row column a e =
    others_next n row column ∙ ap₂ (λ v w. other_players n row column ++ cond (not v && not w) (n ∷ []) []) (unequal n row a) (eq-eqb n column e) ∙ append-nil (other_players n row column)

-- how the others grow by the next player
pub ruleset others_grow = (others_more, others_without_row, others_without_column)
