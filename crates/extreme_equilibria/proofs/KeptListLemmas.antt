-- Lists of kept strategies: their places, that there is one, and only one.
use Rattle.std.proofs.Common.{AllPairs, ℕ, zero, suc, ◌<◌, ◌≤◌, ◌≡◌, ◌≢◌, ◌⊎◌, inl, inr, sym, List, length, get_or, refl, ◌∙◌, arith}
use Rattle.std.specs.Prelude.{Contains}
use Rattle.std.specs.List.Sorted.{IsStrictlyIncreasing}
use Rattle.std.proofs.lemmas.Bool.{cases_lt}
use Rattle.std.proofs.lemmas.List.{get_or_default}
use Rattle.std.proofs.lemmas.List.Kept.{AllPairs-from_increasing}
use Rattle.lists.specs.Listed.{AreListed}
use Rattle.lists.proofs.ListedLemmas.{listed-once, listed-same, some_listed}
use Rattle.game_theory.specs.Profiles.{Game}
use Rattle.extreme_equilibria.specs.TwoPlayers.{other}
use Rattle.extreme_equilibria.specs.Elimination.{IsDominated, IsKeptAfter, IsKept, AreKeptAfter, AreKept}
use Rattle.extreme_equilibria.specs.KeptLaws.{RemovesNone, RoundsByLists, LastListsAreKept, KeptStrategiesExist, OneListOfKeptStrategies}
use Rattle.extreme_equilibria.proofs.RoundLemmas.{kept-within, IsDominated-more, last_round, search_below, is_kept_or_not}

-- ---- places
-- the place of an element
pub place : {T : Type 0} (xs : List T) (x d : T) → Contains xs x → (j : ℕ) × (j < length xs) × (get_or xs j d ≡ x)
place xs x d c = (c.0, c.1, get_or_default xs c.0 d x c.1 ∙ c.2)

-- an element or not, where equality is decided
pub contains_or_not : {T : Type 0} → ((x y : T) → (x ≡ y) ⊎ (x ≡ y → ⊥)) → (xs : List T) (x : T) → Contains xs x ⊎ (Contains xs x → ⊥)
contains_or_not same xs x = elim (search_below (λ j. get_or xs j x ≡ x) (λ j. same (get_or xs j x) x) (length xs)) [ inl found ↦ inl found | inr none ↦ inr (λ c. none c.0 c.1 c.2) ]

-- where later elements differ from earlier ones none stands twice
pub one_place : {T : Type 0} (xs : List T) (d : T) → AllPairs (λ x y. x ≢ y) xs → (j k : ℕ) → j < length xs → k < length xs → get_or xs j d ≡ get_or xs k d → j ≡ k
one_place xs d apart j k l m e = elim (cases_lt j k) [
  | inl before ↦ absurd (apart j k d before m e)
  | inr h ↦ elim (cases_lt k j) [ inl after ↦ absurd (apart k j d after l (sym e)) | inr g ↦ omega arith ]
]

-- as in an ascending list
pub ascending-apart : (xs : List ℕ) → IsStrictlyIncreasing xs → AllPairs (λ x y. x ≢ y) xs
ascending-apart xs up j k d l m e = absurd (omega (arith, AllPairs-from_increasing xs up j k d l m, e))

-- ---- one list
-- a player has one list of kept strategies
pub one_list : OneListOfKeptStrategies
one_list g i xs ys = listed-once (IsKept g i) xs ys

-- ---- some list
-- a player has a list of kept strategies
pub kept-exist : KeptStrategiesExist
kept-exist g i l =
    let list = some_listed (IsKept g i) (λ s. is_kept_or_not g i s l) (get_or g.strategies i 0) in
    (list.0, record { ascending = list.1.ascending; sound = λ s c. (list.1.sound s c).1; complete = λ s h. list.1.complete s (kept-within g 0 i s (h 0), h) })

-- ---- rounds by lists
-- a round by lists
pub rounds-by_lists : RoundsByLists
rounds-by_lists g n i own others s a b = (
  λ h. (a.complete s h.0, λ d. h.1 (IsDominated-more g i (Contains own) (IsKeptAfter g n i) (Contains others) (IsKeptAfter g n (other i)) s a.sound b.complete d)),
  λ h. (a.sound s h.0, λ d. h.1 (IsDominated-more g i (IsKeptAfter g n i) (Contains own) (IsKeptAfter g n (other i)) (Contains others) s a.complete b.sound d)),
)

-- lists from which a round removes nothing are those of the kept strategies
pub last-lists : LastListsAreKept
last-lists g n first second a b stays_first stays_second = (all 0 first (omega arith) a, all 1 second (omega arith) b)
  where
    none : RemovesNone g n
    none zero s l h = (rounds-by_lists g n 0 first second s a b).1 (a.complete s h, stays_first s (a.complete s h))
    none (suc zero) s l h = (rounds-by_lists g n 1 second first s b a).1 (b.complete s h, stays_second s (b.complete s h))
    none (suc (suc i)) s l h = absurd (omega (arith, l))

    all : (i : ℕ) (xs : List ℕ) → i < 2 → AreKeptAfter g n i xs → AreKept g i xs
    all i xs l h = record { ascending = h.ascending; sound = λ s c. last_round g n none i s l (h.sound s c); complete = λ s k. h.complete s (k n) }

-- ---- a round's lists
-- a round's lists
pub next-round : (g : Game) (n i : ℕ) (own others next : List ℕ) → AreKeptAfter g n i own → AreKeptAfter g n (other i) others
    → AreListed (λ s. Contains own s × (IsDominated g i (Contains own) (Contains others) s → ⊥)) next → AreKeptAfter g (suc n) i next
next-round g n i own others next a b h =
    listed-same _ (IsKeptAfter g (suc n) i) next h (λ s. (rounds-by_lists g n i own others s a b).1) (λ s. (rounds-by_lists g n i own others s a b).0)

-- an ascending list of numbers below n has no more than n
pub ascending-short : (xs : List ℕ) (n : ℕ) → IsStrictlyIncreasing xs → ((j : ℕ) → j < length xs → get_or xs j 0 < n) → length xs ≤ n
ascending-short xs n up within = go (length xs) refl
  where
    -- no number is below its place
    reaches : (k : ℕ) → k < length xs → k ≤ get_or xs k 0
    reaches zero l = omega arith
    reaches (suc k) l = omega (arith, reaches k (omega arith), AllPairs-from_increasing xs up k (suc k) 0 (omega arith) l)

    go : (m : ℕ) → length xs ≡ m → length xs ≤ n
    go zero e = omega arith
    go (suc m) e = let l : m < length xs = omega arith in omega (arith, reaches m l, within m l)
