-- Extreme equilibria, and the lists of their lines. Source: Avis et al. 2010.
use Rattle.std.specs.Prelude.{ℕ, ◌<◌, ◌≡◌, ◌==◌, if◌then◌else◌, List, length, slice_index, All, Contains}
use Rattle.rational.specs.Rational.{ℚ, ◌+ℚ◌}
use Rattle.game_theory.specs.Profiles.{Game}
use Rattle.game_theory.specs.Mixed.{Mixed}
use Rattle.game_theory.specs.Equilibrium.{IsEquilibrium}
use Rattle.game_theory.specs.Lines.{entries, AreInOrder}

-- player i plays these probabilities, and the others play as before
abbrev pub with_part : Mixed → ℕ → (ℕ → ℚ) → Mixed
with_part m i p j s = if j == i then p s else m j s

-- z is the midpoint of p and q
abbrev pub IsMidpoint : ℕ → (ℕ → ℚ) → (ℕ → ℚ) → (ℕ → ℚ) → Type 0
IsMidpoint n p q z = (s : ℕ) → s < n → p s +ℚ q s ≡ z s +ℚ z s

-- equal entries at the places below n
abbrev pub AreSame : ℕ → (ℕ → ℚ) → (ℕ → ℚ) → Type 0
AreSame n p q = (s : ℕ) → s < n → p s ≡ q s

-- z is not the midpoint of two different points of S
abbrev pub IsNoMidpoint : ℕ → ((ℕ → ℚ) → Type 0) → (ℕ → ℚ) → Type 0
IsNoMidpoint n S z = (p q : ℕ → ℚ) → S p → S q → IsMidpoint n p q z → AreSame n p q

-- an equilibrium in which no player's part is the midpoint of two different ones that make
-- equilibria with the others' parts
pub record IsExtremeEquilibrium (g : Game) (m : Mixed) : Type 0 where
  pub equilibrium : IsEquilibrium g m
  pub alone : (i : ℕ) → i < length g.strategies
      → IsNoMidpoint (slice_index g.strategies i) (λ p. IsEquilibrium g (with_part m i p)) (m i)

-- the line of an extreme equilibrium
pub record IsExtremeEquilibriumLine (g : Game) (line : List ℚ) : Type 0 where
  pub profile : Mixed
  pub is_extreme : IsExtremeEquilibrium g profile
  pub is_line : line ≡ entries g.strategies profile

-- The lines of the extreme equilibria of a game: in order, each the line of an extreme equilibrium,
-- and each of those has its line.
pub record AreExtremeEquilibria (g : Game) (lines : List (List ℚ)) : Type 0 where
  pub in_order : AreInOrder lines
  pub sound : All (IsExtremeEquilibriumLine g) lines
  pub complete : (m : Mixed) → IsExtremeEquilibrium g m → Contains lines (entries g.strategies m)
