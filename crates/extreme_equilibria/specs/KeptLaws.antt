-- The laws of elimination, each carried by the contract of a function of this crate.
use Rattle.std.specs.Prelude.{ℕ, suc, ◌<◌, ◌≡◌, ◌↔◌, List, Contains, length, slice_index}
use Rattle.game_theory.specs.Profiles.{Game}
use Rattle.game_theory.specs.Mixed.{Mixed}
use Rattle.game_theory.specs.Equilibrium.{IsEquilibrium}
use Rattle.extreme_equilibria.specs.TwoPlayers.{other}
use Rattle.extreme_equilibria.specs.Elimination.{IsDominated, IsKeptAfter, IsKept, AreKeptAfter, AreKept}
use Rattle.extreme_equilibria.specs.KeptTable.{AreKeptLists, kept_table, at_kept, IsZeroAtRemoved, HaveSameCells}
use Rattle.extreme_equilibria.specs.ExtremeEquilibria.{IsExtremeEquilibrium}

-- round n + 1 removes no strategy
abbrev pub RemovesNone : Game → ℕ → Type 0
RemovesNone g n = (i s : ℕ) → i < 2 → IsKeptAfter g n i s → IsKeptAfter g (suc n) i s

-- what is kept after the first round that removes none is kept for good
abbrev pub RoundThatRemovesNoneIsLast : Type 0
RoundThatRemovesNoneIsLast =
    (g : Game) (n : ℕ) → RemovesNone g n → (i s : ℕ) → i < 2 → IsKeptAfter g n i s → IsKept g i s

-- some round removes none
abbrev pub RoundsEnd : Type 0
RoundsEnd = (g : Game) → (n : ℕ) × RemovesNone g n

-- A round by lists: of the strategies that are kept after n rounds those stay that are not strictly
-- dominated among them.
abbrev pub RoundsByLists : Type 0
RoundsByLists =
    (g : Game) (n i : ℕ) (own others : List ℕ) (s : ℕ)
    → AreKeptAfter g n i own → AreKeptAfter g n (other i) others
    → IsKeptAfter g (suc n) i s
    ↔ (Contains own s × ¬ IsDominated g i (Contains own) (Contains others) s)

-- lists from which a round removes nothing are those of the kept strategies
abbrev pub LastListsAreKept : Type 0
LastListsAreKept =
    (g : Game) (n : ℕ) (first second : List ℕ)
    → AreKeptAfter g n 0 first → AreKeptAfter g n 1 second
    → ((s : ℕ) → Contains first s → ¬ IsDominated g 0 (Contains first) (Contains second) s)
    → ((s : ℕ) → Contains second s → ¬ IsDominated g 1 (Contains second) (Contains first) s)
    → AreKept g 0 first × AreKept g 1 second

-- a player has a list of kept strategies
abbrev pub KeptStrategiesExist : Type 0
KeptStrategiesExist = (g : Game) (i : ℕ) → i < 2 → (strategies : List ℕ) × AreKept g i strategies

-- and only one
abbrev pub OneListOfKeptStrategies : Type 0
OneListOfKeptStrategies =
    (g : Game) (i : ℕ) (one two : List ℕ) → AreKept g i one → AreKept g i two → one ≡ two

-- every equilibrium gives each removed strategy the probability 0
abbrev pub EquilibriaAreZeroAtRemoved : Type 0
EquilibriaAreZeroAtRemoved =
    (g : Game) (m : Mixed) → length g.strategies ≡ 2 → IsEquilibrium g m → IsZeroAtRemoved g m

-- the equilibria are those of the kept table, with 0 at removed strategies
abbrev pub EquilibriaOfTheKeptTable : Type 0
EquilibriaOfTheKeptTable =
    (g : Game) (kept : List (List ℕ)) (m : Mixed) → length g.strategies ≡ 2 → AreKeptLists g kept
    → IsEquilibrium g m ↔ (IsZeroAtRemoved g m × IsEquilibrium (kept_table g kept) (at_kept kept m))

-- and the extreme equilibria likewise
abbrev pub ExtremeEquilibriaOfTheKeptTable : Type 0
ExtremeEquilibriaOfTheKeptTable =
    (g : Game) (kept : List (List ℕ)) (m : Mixed) → length g.strategies ≡ 2 → AreKeptLists g kept
    → IsExtremeEquilibrium g m
    ↔ (IsZeroAtRemoved g m × IsExtremeEquilibrium (kept_table g kept) (at_kept kept m))

-- a profile of the kept table, with 0 at removed strategies
pub record IsSpread (g : Game) (kept : List (List ℕ)) (k m : Mixed) : Type 0 where
  pub zero_at_removed : IsZeroAtRemoved g m
  pub same_at_kept : (i place : ℕ) → i < length kept
      → place < slice_index (kept_table g kept).strategies i
      → at_kept kept m i place ≡ k i place

-- each profile of the kept table is spread in this way
abbrev pub ProfilesAreSpread : Type 0
ProfilesAreSpread =
    (g : Game) (kept : List (List ℕ)) (k : Mixed) → length g.strategies ≡ 2 → AreKeptLists g kept
    → (m : Mixed) × IsSpread g kept k m

-- games with the same cells have the same equilibria, extreme ones too
pub record SameCellsHaveSameEquilibria : Type 0 where
  pub equilibria : (g h : Game) (m : Mixed) → HaveSameCells g h
      → IsEquilibrium g m ↔ IsEquilibrium h m
  pub extreme_equilibria : (g h : Game) (m : Mixed) → HaveSameCells g h
      → IsExtremeEquilibrium g m ↔ IsExtremeEquilibrium h m
