-- The laws of extreme equilibria of games of two players, each carried by the contract of a
-- function of this crate.
use Rattle.std.specs.Prelude.{ℕ, suc, ◌+◌, ◌<◌, ◌≡◌, ◌⊎◌, ◌↔◌, List, [], ◌∷◌, length, get_or}
use Rattle.rational.specs.Rational.{ℚ, ◌*ℚ◌, inv_ℚ, zero_ℚ}
use Rattle.linear_systems.specs.Tableau.{Tableau}
use Rattle.game_theory.specs.Profiles.{Game}
use Rattle.game_theory.specs.Mixed.{Mixed, pure}
use Rattle.game_theory.specs.Equilibrium.{IsEquilibrium}
use Rattle.linear_systems.specs.Points.{IsFeasible, IsNonzero}
use Rattle.linear_systems.specs.Vertices.{MarkedPoint, IsMarkOf, AreVertices}
use Rattle.extreme_equilibria.specs.ExtremeEquilibria.{AreSame, IsExtremeEquilibrium, AreExtremeEquilibria}
use Rattle.extreme_equilibria.specs.TwoPlayers.{pays_against}
use Rattle.extreme_equilibria.specs.Bimatrix.{mean_gain, IsBimatrixEquilibrium, IsExtremeBimatrixEquilibrium, IsPositive, shifted, IsLowerBound, shift_of}
use Rattle.extreme_equilibria.specs.Polytopes.{IsInPolytope, IsVertex, IsCompletelyLabelled, IsLabelledPair, IsScaledPair, scaled}
use Rattle.extreme_equilibria.specs.Systems.{first_system, second_system}
use Rattle.extreme_equilibria.specs.PairLines.{scaled_point, HaveAllLabels, ArePairLines}

-- a game has at most one list of extreme equilibria
abbrev pub OneListOfExtremeEquilibria : Type 0
OneListOfExtremeEquilibria =
    (g : Game) (a b : List (List ℚ)) → AreExtremeEquilibria g a → AreExtremeEquilibria g b → a ≡ b

-- a pure equilibrium is extreme
abbrev pub PureEquilibriaAreExtreme : Type 0
PureEquilibriaAreExtreme =
    (g : Game) (profile : List ℕ) → IsEquilibrium g (pure profile)
    → IsExtremeEquilibrium g (pure profile)

-- the equilibria of a game of two players, by its two tables
abbrev pub EquilibriaByTables : Type 0
EquilibriaByTables =
    (g : Game) (m n : ℕ) (k : Mixed) → g.strategies ≡ m ∷ n ∷ []
    → IsEquilibrium g k
    ↔ IsBimatrixEquilibrium m n (pays_against g 0) (pays_against g 1) (k 0) (k 1)

-- the extreme equilibria likewise
abbrev pub ExtremeEquilibriaByTables : Type 0
ExtremeEquilibriaByTables =
    (g : Game) (m n : ℕ) (k : Mixed) → g.strategies ≡ m ∷ n ∷ []
    → IsExtremeEquilibrium g k
    ↔ IsExtremeBimatrixEquilibrium m n (pays_against g 0) (pays_against g 1) (k 0) (k 1)

-- a number added to all payoffs of a player changes no equilibrium
abbrev pub ShiftsKeepEquilibria : Type 0
ShiftsKeepEquilibria =
    (m n : ℕ) (a c : ℕ → ℕ → ℚ) (d e : ℚ) (x y : ℕ → ℚ)
    → IsBimatrixEquilibrium m n a c x y ↔ IsBimatrixEquilibrium m n (shifted d a) (shifted e c) x y

-- 1 less the least payoff makes all payoffs positive
abbrev pub ShiftedPayoffsArePositive : Type 0
ShiftedPayoffsArePositive =
    (m n : ℕ) (a : ℕ → ℕ → ℚ) (least : ℚ) → IsLowerBound m n a least
    → IsPositive m n (shifted (shift_of least) a)

-- a completely labelled pair of nonzero points, scaled, is an equilibrium
abbrev pub LabelledPairsAreEquilibria : Type 0
LabelledPairsAreEquilibria =
    (m n : ℕ) (a c : ℕ → ℕ → ℚ) (p q : ℕ → ℚ) → IsLabelledPair m n a c p q
    → IsBimatrixEquilibrium m n a c (scaled m p) (scaled n q)

-- an equilibrium, each part divided by the other player's payoff, is a completely labelled pair, of
-- which it is the scaling
abbrev pub EquilibriaAreLabelledPairs : Type 0
EquilibriaAreLabelledPairs =
    (m n : ℕ) (a c : ℕ → ℕ → ℚ) (x y : ℕ → ℚ) → IsPositive m n a → IsPositive n m c
    → IsBimatrixEquilibrium m n a c x y
    → IsLabelledPair m n a c (λ i. x i *ℚ inv_ℚ (mean_gain n m c y x))
    (λ j. y j *ℚ inv_ℚ (mean_gain m n a x y))
    × AreSame m (scaled m (λ i. x i *ℚ inv_ℚ (mean_gain n m c y x))) x
    × AreSame n (scaled n (λ j. y j *ℚ inv_ℚ (mean_gain m n a x y))) y

-- the scaling of a completely labelled pair is extreme exactly where its two points are vertices
abbrev pub ExtremeWhereVertices : Type 0
ExtremeWhereVertices =
    (m n : ℕ) (a c : ℕ → ℕ → ℚ) (p q : ℕ → ℚ) → IsPositive m n a → IsPositive n m c
    → IsLabelledPair m n a c p q
    → IsExtremeBimatrixEquilibrium m n a c (scaled m p) (scaled n q)
    ↔ (IsVertex m n c p × IsVertex n m a q)

-- extreme equilibria are the scalings of completely labelled pairs of nonzero vertices
abbrev pub ExtremeEquilibriaAreScaledPairs : Type 0
ExtremeEquilibriaAreScaledPairs =
    (m n : ℕ) (a c : ℕ → ℕ → ℚ) (x y : ℕ → ℚ) → IsPositive m n a → IsPositive n m c
    → IsExtremeBimatrixEquilibrium m n a c x y ↔ IsScaledPair m n a c x y

-- different completely labelled pairs have different scalings
abbrev pub PairsScaleDifferently : Type 0
PairsScaleDifferently =
    (m n : ℕ) (a c : ℕ → ℕ → ℚ) (p q p' q' : ℕ → ℚ) → IsLabelledPair m n a c p q
    → IsLabelledPair m n a c p' q' → AreSame m (scaled m p) (scaled m p')
    → AreSame n (scaled n q) (scaled n q') → AreSame m p p' × AreSame n q q'

-- different nonzero vertices of one polytope have different scalings
abbrev pub VerticesScaleDifferently : Type 0
VerticesScaleDifferently =
    (k r : ℕ) (c : ℕ → ℕ → ℚ) (p q : ℕ → ℚ) → IsVertex k r c p → IsVertex k r c q → IsNonzero k p
    → IsNonzero k q → AreSame k (scaled k p) (scaled k q) → AreSame k p q

-- in a completely labelled pair both points are zero or neither is
abbrev pub ZeroPairsWithZero : Type 0
ZeroPairsWithZero =
    (m n : ℕ) (a c : ℕ → ℕ → ℚ) (p q : ℕ → ℚ) → IsCompletelyLabelled m n a c p q
    → (AreSame m p (λ i. zero_ℚ) ↔ AreSame n q (λ j. zero_ℚ)) × (IsNonzero m p ↔ IsNonzero n q)

-- the two zero points are completely labelled, and vertices
abbrev pub ZerosAreLabelled : Type 0
ZerosAreLabelled =
    (m n : ℕ) (a c : ℕ → ℕ → ℚ) → IsCompletelyLabelled m n a c (λ i. zero_ℚ) (λ j. zero_ℚ)
    × IsVertex m n c (λ i. zero_ℚ)
    × IsVertex n m a (λ j. zero_ℚ)

-- the points of the two systems are the points of the two polytopes with their slacks
pub record SolutionsAreThePolytopes : Type 0 where
  pub first : (m n : ℕ) (c : ℕ → ℕ → ℚ) (x : ℕ → ℚ) → IsFeasible (first_system m n c) x
      → IsInPolytope m n c (λ i. x (suc i))
  pub first_back : (m n : ℕ) (c : ℕ → ℕ → ℚ) (p : ℕ → ℚ) → IsInPolytope m n c p
      → (x : ℕ → ℚ) × IsFeasible (first_system m n c) x × AreSame m (λ i. x (suc i)) p
  pub second : (m n : ℕ) (a : ℕ → ℕ → ℚ) (x : ℕ → ℚ) → IsFeasible (second_system m n a) x
      → IsInPolytope n m a (λ j. x (m + suc j))
  pub second_back : (m n : ℕ) (a : ℕ → ℕ → ℚ) (q : ℕ → ℚ) → IsInPolytope n m a q
      → (x : ℕ → ℚ) × IsFeasible (second_system m n a) x × AreSame n (λ j. x (m + suc j)) q

-- two masks together have all labels exactly where each variable is 0 at one of the two solutions
abbrev pub MasksDetermineLabels : Type 0
MasksDetermineLabels =
    (n : ℕ) (t u : Tableau) (x y : ℕ → ℚ) (one two : MarkedPoint) → IsMarkOf n t x one
    → IsMarkOf n u y two
    → HaveAllLabels n one two
    ↔ ((v : ℕ) → v < n → (x (suc v) ≡ zero_ℚ) ⊎ (y (suc v) ≡ zero_ℚ))

-- the lines of the pairs of the two systems' vertices that together have all labels are those of
-- the extreme equilibria
abbrev pub PairLinesAreExtremeEquilibria : Type 0
PairLinesAreExtremeEquilibria =
    (g : Game) (m n : ℕ) (least least' : ℚ) (first second : List MarkedPoint)
    (lines : List (List ℚ)) → g.strategies ≡ m ∷ n ∷ []
    → IsLowerBound m n (pays_against g 0) least → IsLowerBound n m (pays_against g 1) least'
    → AreVertices (m + n) (first_system m n (shifted (shift_of least') (pays_against g 1))) first
    → AreVertices (m + n) (second_system m n (shifted (shift_of least) (pays_against g 0))) second
    → ArePairLines (m + n) first second lines → AreExtremeEquilibria g lines

-- the scalings of two points of a list tell their places
abbrev pub ScaleDifferently : List MarkedPoint → Type 0
ScaleDifferently list =
    (i j : ℕ) (d : MarkedPoint) → i < length list → j < length list
    → scaled_point (get_or list i d).point ≡ scaled_point (get_or list j d).point → i ≡ j

-- different vertices of a list have different scalings, so that different pairs have different
-- lines
pub record ListedVerticesScaleDifferently : Type 0 where
  pub first : (m n : ℕ) (c : ℕ → ℕ → ℚ) (list : List MarkedPoint)
      → AreVertices (m + n) (first_system m n c) list → ScaleDifferently list
  pub second : (m n : ℕ) (a : ℕ → ℕ → ℚ) (list : List MarkedPoint)
      → AreVertices (m + n) (second_system m n a) list → ScaleDifferently list
