-- The sizes of a reduced form by the numbers of strategies.
use Rattle.std.proofs.Common.{ℕ, zero, suc, ◌+◌, ◌*◌, ◌/◌, ◌<◌, ◌≤◌, ◌≡◌, inl, inr, Some, Err, List, [], ◌∷◌, ◌++◌, length, map, take, get_or, All, refl, sym, ap, ap₂, ◌∙◌, subst, arith, min, below_more, mul-pos}
use Rattle.std.specs.Prelude.{slice_get, slice_index}
use Rattle.std.specs.List.{enumerate_from, sum_by}
use Rattle.std.proofs.lemmas.List.Sums.{sum_by-cons}
use Rattle.std.proofs.lemmas.List.{length-map, length_push, length-take-le, take_all, take_more, get_or_append_left, get_or_push, ext_get_or, get_or-take, get_or-map}
use Rattle.std.proofs.lemmas.Option.{slice_get-get_or}
use Rattle.std.proofs.Math.Nat.{mul-div-le, min-le_left, min-eq_left, min-eq_right}
use Rattle.std.proofs.lemmas.Bool.{cases_lt}
use Rattle.lists.proofs.NumberLemmas.{above_quotient}
use Rattle.game_theory.proofs.ProfileCountLemmas.{profile_count-push, profile_count-positive, profile_count-front}
use Rattle.game_theory.specs.OwnSets.{own_sets}
use native.Mathlib.Nat as N
use Rattle.game_theory.specs.Profiles.{profile_count}
use Rattle.game_theory.specs.Trees.{Tree, IsTree}
use Rattle.reduced_strategies.specs.Choices.{AreReducedStrategies}
use Rattle.reduced_strategies.specs.StrategicForm.{AreStrategies}
use Rattle.reduced_strategies.proofs.ReducedStrategyLemmas.{choices-have_reduced}
use Rattle.reduced_strategies.proofs.StrategyOrderLemmas.{strategies-determined}
use Rattle.reduced_strategies.proofs.ExistenceLemmas.{strategies-exist}
use Rattle.game_core.specs.Table.{most_payoffs}
use Rattle.strategy_lists.specs.Decisions.{HasCount}
use Rattle.reduced_form.specs.Counts.{AreCounted, counts_in}
use Rattle.reduced_form.specs.Limits.{choice_count, choices_of, most_choices}
use Rattle.game_core.specs.Limits.{first_above}
use Rattle.game_core.specs.declared.too_large.What.TheVariants as what
use Rattle.reduced_form.specs.declared.stop.ReduceStop.TheVariants as stops

-- the numbers of strategies of the first players
abbrev pub AreCounts : Tree → List ℕ → Type 0
AreCounts t counts = (i : ℕ) → i < length counts → HasCount t i (slice_index counts i)

-- ---- products
-- and no player has more strategies than there are profiles
pub profile_count-player : (ns : List ℕ) (i : ℕ) → All (λ n. 0 < n) ns → get_or ns i 0 ≤ profile_count ns
profile_count-player [] i h = omega arith
profile_count-player (n ∷ ns) zero h =
    let e : n * 1 ≤ n * profile_count ns = N.mul-le-mul_left n (profile_count-positive ns (λ k d l. h (suc k) d (omega arith))) in
    omega arith
profile_count-player (n ∷ ns) (suc i) h =
    let later : All (λ n. 0 < n) ns = λ k d l. h (suc k) d (omega arith) in
    let e : 1 * profile_count ns ≤ n * profile_count ns = N.mul-le-mul_right (profile_count ns) (h 0 0 (omega arith)) in
    omega (arith, profile_count-player ns i later)

-- ---- the strategies of all players
-- the list of f 0, f 1, .., f (n - 1)
abbrev tabulated : {X : Type 0} → ℕ → (ℕ → X) → List X
tabulated zero f = []
tabulated (suc n) f = f 0 ∷ tabulated n (λ i. f (suc i))

-- it has n members
length-tabulated : {X : Type 0} (n : ℕ) (f : ℕ → X) → length (tabulated n f) ≡ n
length-tabulated zero f = refl
length-tabulated (suc n) f = ap suc (length-tabulated n (λ i. f (suc i)))

-- and each is the function's
slice_get-tabulated : {X : Type 0} (n i : ℕ) (f : ℕ → X) (x : X) → slice_get (tabulated n f) i ≡ Some x → f i ≡ x
slice_get-tabulated zero i f x h = cc
slice_get-tabulated (suc n) zero f x h = cc
slice_get-tabulated (suc n) (suc i) f x h = slice_get-tabulated n i (λ k. f (suc k)) x h

-- all players have their strategies
pub all_strategies : (t : Tree) → IsTree t → (strategies : List (List (List ℕ))) × AreStrategies t strategies
all_strategies t w = (
  tabulated t.players (λ i. (strategies-exist t i w).0),
  record {
    one_for_each = length-tabulated t.players _;
    are_reduced = λ i list h. subst (AreReducedStrategies t i) (slice_get-tabulated t.players i _ list h) (strategies-exist t i w).1;
  },
)

-- a player has at least one strategy
pub some_strategy : (t : Tree) (i : ℕ) (list : List (List ℕ)) → IsTree t → AreReducedStrategies t i list → 0 < length list
some_strategy t i list w a =
    let first = choices-have_reduced t i (λ s. 0) w (λ s l o. w.some_action s l) in
    let c = a.complete first.choices first.is_reduced in
    omega (arith, c.1)

-- so each count is positive
pub counts-positive : (t : Tree) (strategies : List (List (List ℕ))) → IsTree t → AreStrategies t strategies → All (λ n. 0 < n) (map length strategies)
counts-positive t strategies w a k d l =
    let inside : k < length strategies = omega (arith, length-map strategies (length {A = List ℕ})) in
    let list = get_or strategies k [] in
    let e : get_or (map length strategies) k d ≡ length list = get_or-map length strategies k [] d inside in
    subst (λ x. 0 < x) (sym e) (some_strategy t k list w (a.are_reduced k list (slice_get-get_or strategies k [] inside)))

-- a player's number of strategies is that of the player's list
count_is : (t : Tree) (strategies : List (List (List ℕ))) (i n : ℕ) → AreStrategies t strategies → i < length strategies → HasCount t i n → n ≡ get_or (map length strategies) i 0
count_is t strategies i n a l h =
    let list = get_or strategies i [] in
    let same = strategies-determined t i h.0 list h.1 (a.are_reduced i list (slice_get-get_or strategies i [] l)) in
    h.2 ∙ ap length same ∙ sym (get_or-map length strategies i [] 0 l)

-- the numbers of the first players' strategies are those of the lists
counts_are : (t : Tree) (strategies : List (List (List ℕ))) (counts : List ℕ) → AreStrategies t strategies → AreCounts t counts → length counts ≤ t.players → counts ≡ take (length counts) (map length strategies)
counts_are t strategies counts a h l =
    let whole : length (map length strategies) ≡ t.players = length-map strategies (length {A = List ℕ}) ∙ a.one_for_each in
    let long : length (take (length counts) (map length strategies)) ≡ length counts = length-take-le (length counts) (map length strategies) (omega arith) in
    ext_get_or 0 counts (take (length counts) (map length strategies)) (sym long) (λ i m. count_is t strategies i (get_or counts i 0) a (omega (arith, a.one_for_each)) (h i m) ∙ sym (get_or-take (length counts) (map length strategies) i 0 m))

-- ---- counting
-- the numbers of the first players' strategies, with one more player
pub AreCounts-push : (t : Tree) (counts : List ℕ) (n : ℕ) → AreCounts t counts → HasCount t (length counts) n → AreCounts t (counts ++ n ∷ [])
AreCounts-push t counts n h last = λ i l. each i (rw length_push at l)
  where
    each : (i : ℕ) → i < length counts + 1 → HasCount t i (get_or (counts ++ n ∷ []) i 0)
    each = below_more _ _ (λ i l. subst (HasCount t i) (sym (get_or_append_left counts (n ∷ []) 0 i l)) (h i l)) (subst (HasCount t (length counts)) (sym (get_or_push counts n 0 (length counts) refl)) last)

-- the first players have no more profiles than all
counts-front : (t : Tree) (strategies : List (List (List ℕ))) (counts : List ℕ) → IsTree t → AreStrategies t strategies → AreCounts t counts → length counts ≤ t.players → profile_count counts ≤ profile_count (map length strategies)
counts-front t strategies counts w a h l =
    subst (λ x. x ≤ profile_count (map length strategies)) (sym (ap profile_count (counts_are t strategies counts a h l))) (profile_count-front (length counts) (map length strategies) (counts-positive t strategies w a))

-- the first players alone have too many profiles
pub many-front : (t : Tree) (counts : List ℕ) → IsTree t → AreCounts t counts → length counts ≤ t.players → most_payoffs < t.players * profile_count counts → counts_in t (Err (stops.TooLarge (first_above what.Payoffs most_payoffs)))
many-front t counts w h l many =
    let s = all_strategies t w in
    let more : t.players * profile_count counts ≤ t.players * profile_count (map length s.0) = N.mul-le-mul_left t.players (counts-front t s.0 counts w s.1 h l) in
    inr (s.0, s.1, (first_above what.Payoffs most_payoffs, inl (omega arith, refl), refl))

-- one more player takes the number of payoffs above the limit
pub many-next : (t : Tree) (counts : List ℕ) (payoffs all : ℕ) → IsTree t → AreCounts t counts → HasCount t (length counts) all → length counts < t.players
    → payoffs ≡ t.players * profile_count counts → 0 < payoffs → most_payoffs / payoffs < all → counts_in t (Err (stops.TooLarge (first_above what.Payoffs most_payoffs)))
many-next t counts payoffs all w h last l is p above =
    let product : t.players * profile_count (counts ++ all ∷ []) ≡ payoffs * all = ap (λ x. t.players * x) (profile_count-push counts all) ∙ sym (N.mul_assoc t.players (profile_count counts) all) ∙ ap (λ x. x * all) (sym is) in
    let many : most_payoffs < payoffs * all = subst (λ n. most_payoffs < n) (N.mul_comm all payoffs) (above_quotient most_payoffs payoffs all p above) in
    many-front t (counts ++ all ∷ []) w (AreCounts-push t counts all h last) (omega (arith, length_push counts all)) (subst (λ x. most_payoffs < x) (sym product) many)

-- the numbers of all players' strategies
pub AreCounted-all : (t : Tree) (counts : List ℕ) → IsTree t → AreCounts t counts → length counts ≡ t.players → AreCounted t counts
AreCounted-all t counts w h l =
    let s = all_strategies t w in
    let whole : length (map length s.0) ≡ t.players = length-map s.0 (length {A = List ℕ}) ∙ s.1.one_for_each in
    record { strategies = s.0; are_strategies = s.1; counts_are = counts_are t s.0 counts s.1 h (omega arith) ∙ take_all (length counts) (map length s.0) (omega arith) }

-- a player's number of strategies is positive
pub HasCount-positive : (t : Tree) (i n : ℕ) → IsTree t → HasCount t i n → 0 < n
HasCount-positive t i n w h = omega (arith, h.2, some_strategy t i h.0 w h.1)

-- ---- choices
-- the choices of the players from player i on
abbrev choices_from : Tree → ℕ → List ℕ → ℕ
choices_from t i counts = sum_by (λ p. p.1 * length (own_sets t p.0)) (enumerate_from i counts)

choices_from-cons : (t : Tree) (i n : ℕ) (counts : List ℕ) → choices_from t i (n ∷ counts) ≡ n * length (own_sets t i) + choices_from t (i + 1) counts
choices_from-cons t i n counts = sum_by-cons (λ p. p.1 * length (own_sets t p.0)) (i, n) (enumerate_from (i + 1) counts)

-- the choices of the first players and of one more
choices_from-push : (t : Tree) (i : ℕ) (counts : List ℕ) (n : ℕ) → choices_from t i (counts ++ n ∷ []) ≡ choices_from t i counts + n * length (own_sets t (i + length counts))
choices_from-push t i [] n = let e : i + 0 ≡ i = omega arith in rw e (omega (arith, choices_from-cons t i n []))
choices_from-push t i (m ∷ counts) n =
    let e : (i + 1) + length counts ≡ i + suc (length counts) = omega arith in
    let later = rw e at (choices_from-push t (i + 1) counts n) in
    omega (arith, choices_from-cons t i m counts, choices_from-cons t i m (counts ++ n ∷ []))

-- the choices of the players up to one
pub choices_of-next : (t : Tree) (counts : List ℕ) (i : ℕ) → i < length counts → choices_of t (take (i + 1) counts) ≡ choices_of t (take i counts) + get_or counts i 0 * length (own_sets t i)
choices_of-next t counts i l =
    let long : length (take i counts) ≡ i = length-take-le i counts (omega arith) in
    let e : 0 + length (take i counts) ≡ i = omega arith in
    ap (choices_of t) (take_more counts i 0 l) ∙ choices_from-push t 0 (take i counts) (get_or counts i 0) ∙ ap (λ x. choices_of t (take i counts) + get_or counts i 0 * length (own_sets t x)) e

-- the first players have no more choices than all
pub choices_from-front : (t : Tree) (i k : ℕ) (counts : List ℕ) → choices_from t i (take k counts) ≤ choices_from t i counts
choices_from-front t i zero counts = omega arith
choices_from-front t i (suc k) [] = omega arith
choices_from-front t i (suc k) (n ∷ counts) = let later = choices_from-front t (i + 1) k counts in omega (arith, choices_from-cons t i n counts, choices_from-cons t i n (take k counts))

-- the same of the whole form
pub choice_count-by : (t : Tree) (strategies : List (List (List ℕ))) (counts : List ℕ) → counts ≡ map length strategies → choice_count t strategies ≡ choices_of t counts
choice_count-by t strategies counts e = ap (choices_of t) (sym e)

-- the first players alone have too many choices
pub many-choices : (t : Tree) (counts : List ℕ) (k : ℕ) → AreCounted t counts → t.players * profile_count counts ≤ most_payoffs → most_choices < choices_of t (take k counts) → counts_in t (Err (stops.TooLarge (first_above what.Choices most_choices)))
many-choices t counts k h few many =
    let front = choices_from-front t 0 k counts in
    let whole = choice_count-by t h.strategies counts h.counts_are in
    let payoffs = subst (λ x. t.players * profile_count x ≤ most_payoffs) h.counts_are few in
    inr (h.strategies, h.are_strategies, (first_above what.Choices most_choices, inr (tt, (λ more. omega arith), (omega arith, refl)), refl))

-- ---- steps of the counts
-- a count that stops above a number, and is above it
pub above_min : (count all most : ℕ) → count ≡ min all (most + 1) → most < count → most < all
above_min count all most is above = omega (arith, min-le_left all (most + 1))

-- a count that stops above a number, and is not above it
pub below_min : (count all most : ℕ) → count ≡ min all (most + 1) → count ≤ most → count ≡ all
below_min count all most is below = elim (cases_lt (most + 1) all) [
  | inl l ↦ (let e : min all (most + 1) ≡ most + 1 = min-eq_right {n = most + 1} {m = all} (omega arith) in absurd (omega arith))
  | inr l ↦ is ∙ min-eq_left {n = all} {m = most + 1} l
]

-- what counting keeps
pub record AreCountedSoFar (t : Tree) (player payoffs : ℕ) (counts : List ℕ) : Type 0 where
  pub one_for_each : length counts ≡ player
  pub are_counts : AreCounts t counts
  pub payoffs_are : payoffs ≡ t.players * profile_count counts
  pub some : 0 < t.players → 0 < payoffs
  pub few : payoffs ≤ most_payoffs

-- one more player is counted
pub AreCountedSoFar-step : (t : Tree) (player payoffs count all : ℕ) (counts new : List ℕ) → IsTree t → AreCountedSoFar t player payoffs counts → player < t.players → new ≡ counts ++ count ∷ []
    → HasCount t player all → count ≡ min all (most_payoffs / payoffs + 1) → count ≤ most_payoffs / payoffs → AreCountedSoFar t (player + 1) (payoffs * count) new
AreCountedSoFar-step t player payoffs count all counts new w h l pushed has is below =
    let exact = below_min count all (most_payoffs / payoffs) is below in
    let here : HasCount t (length counts) count = subst (λ k. HasCount t k count) (sym h.one_for_each) (subst (HasCount t player) (sym exact) has) in
    let room : payoffs * count ≤ payoffs * (most_payoffs / payoffs) = N.mul-le-mul_left payoffs below in
    record {
      one_for_each = ap length pushed ∙ length_push counts count ∙ ap (λ k. k + 1) h.one_for_each;
      are_counts = subst (AreCounts t) (sym pushed) (AreCounts-push t counts count h.are_counts here);
      payoffs_are = ap (λ x. x * count) h.payoffs_are ∙ N.mul_assoc t.players (profile_count counts) count ∙ ap (λ x. t.players * x) (sym (profile_count-push counts count)) ∙ ap (λ x. t.players * profile_count x) (sym pushed);
      some = λ p. mul-pos (h.some p) (HasCount-positive t (length counts) count w here);
      few = omega (arith, mul-div-le most_payoffs payoffs);
    }

-- one more player has too many strategies
pub AreCountedSoFar-many : (t : Tree) (player payoffs count all : ℕ) (counts : List ℕ) → IsTree t → AreCountedSoFar t player payoffs counts → player < t.players
    → HasCount t player all → count ≡ min all (most_payoffs / payoffs + 1) → most_payoffs / payoffs < count → counts_in t (Err (stops.TooLarge (first_above what.Payoffs most_payoffs)))
AreCountedSoFar-many t player payoffs count all counts w h l has is above =
    many-next t counts payoffs all w h.are_counts (subst (λ k. HasCount t k all) (sym h.one_for_each) has) (omega (arith, h.one_for_each)) h.payoffs_are (h.some (omega arith)) (above_min count all (most_payoffs / payoffs) is above)

-- the numbers of strategies are those of any lists of all strategies
pub counted-same : (t : Tree) (counts : List ℕ) (strategies : List (List (List ℕ))) → AreCounted t counts → AreStrategies t strategies → counts ≡ map length strategies
counted-same t counts strategies h a =
    let first : length (map length h.strategies) ≡ t.players = length-map h.strategies (length {A = List ℕ}) ∙ h.are_strategies.one_for_each in
    let second : length (map length strategies) ≡ t.players = length-map strategies (length {A = List ℕ}) ∙ a.one_for_each in
    h.counts_are ∙ ext_get_or 0 (map length h.strategies) (map length strategies) (first ∙ sym second) (λ i l.
    let list = get_or h.strategies i [] in
    let inside : i < length h.strategies = omega (arith, h.are_strategies.one_for_each) in
    let has : HasCount t i (length list) = (list, h.are_strategies.are_reduced i list (slice_get-get_or h.strategies i [] inside), refl) in
    get_or-map length h.strategies i [] 0 inside ∙ count_is t strategies i (length list) a (omega (arith, a.one_for_each)) has)

-- the choices of the players up to one
pub choices-step : (t : Tree) (counts : List ℕ) (player choices own : ℕ) → AreCounted t counts → player < t.players → choices ≡ choices_of t (take player counts) → own ≡ length (own_sets t player)
    → choices + get_or counts player 0 * own ≡ choices_of t (take (player + 1) counts)
choices-step t counts player choices own h l is here =
    let inside : player < length counts = omega (arith, ap length h.counts_are, length-map h.strategies (length {A = List ℕ}), h.are_strategies.one_for_each) in
    ap₂ (λ x y. x + get_or counts player 0 * y) is here ∙ sym (choices_of-next t counts player inside)

-- no player has more strategies than a form has payoffs
pub few_strategies : (t : Tree) (counts : List ℕ) (i : ℕ) → IsTree t → AreCounted t counts → 0 < t.players → t.players * profile_count counts ≤ most_payoffs → get_or counts i 0 ≤ most_payoffs
few_strategies t counts i w h p few =
    let positive : All (λ n. 0 < n) counts = subst (All (λ n. 0 < n)) (sym h.counts_are) (counts-positive t h.strategies w h.are_strategies) in
    let room : 1 * profile_count counts ≤ t.players * profile_count counts = N.mul-le-mul_right (profile_count counts) (omega arith) in
    omega (arith, profile_count-player counts i positive)

-- the choices of one player are not many
pub few_choices : (m n : ℕ) → m ≤ most_payoffs → n ≤ 65536 → m * n ≤ 68719476736
few_choices m n h l =
    let first : m * n ≤ most_payoffs * n = N.mul-le-mul_right n h in
    let second : most_payoffs * n ≤ most_payoffs * 65536 = N.mul-le-mul_left most_payoffs l in
    omega arith

-- one more player's list of strategies
pub reduced-push : (t : Tree) (lists : List (List (List ℕ))) (last : List (List ℕ)) → ((i : ℕ) → i < length lists → AreReducedStrategies t i (get_or lists i [])) → AreReducedStrategies t (length lists) last
    → (i : ℕ) → i < length lists + 1 → AreReducedStrategies t i (get_or (lists ++ last ∷ []) i [])
reduced-push t lists last h here =
    below_more _ _ (λ i l. subst (AreReducedStrategies t i) (sym (get_or_append_left lists (last ∷ []) [] i l)) (h i l)) (subst (AreReducedStrategies t (length lists)) (sym (get_or_push lists last [] (length lists) refl)) here)
