-- The laws of strategic games, each carried by the contract of a function of this crate.
use Rattle.std.specs.Prelude.{ℕ, ◌<◌, ◌≡◌, ◌↔◌, List, length, slice_index, slice_set}
use Rattle.rational.specs.Rational.{ℚ, ◌*ℚ◌, ◌≤ℚ◌}
use Rattle.rational.specs.Sum.{sum_to}
use Rattle.game_theory.specs.Profiles.{Game, profile_count, IsProfile, number_of, profile_at}
use Rattle.game_theory.specs.Mixed.{Mixed, payoff, pure, reply}
use Rattle.game_theory.specs.Equilibrium.{IsEquilibrium}
use Rattle.game_theory.specs.Lines.{ArePureEquilibria, entries, line_text}

-- profiles and the numbers below their count belong to each other
pub record ProfilesAreNumbered (ns : List ℕ) : Type 0 where
  pub number_is_below : (s : List ℕ) → IsProfile ns s → number_of ns s < profile_count ns
  pub profile_at-number_of : (s : List ℕ) → IsProfile ns s → profile_at ns (number_of ns s) ≡ s
  pub is_profile : (k : ℕ) → k < profile_count ns → IsProfile ns (profile_at ns k)
  pub number_of-profile_at : (k : ℕ) → k < profile_count ns → number_of ns (profile_at ns k) ≡ k

-- a pure profile pays its cell
abbrev pub PurePaysItsCell : Type 0
PurePaysItsCell =
    (g : Game) (s : List ℕ) (i : ℕ) → IsProfile g.strategies s
    → payoff g (pure s) i ≡ g.pays i (number_of g.strategies s)

-- a pure reply to a pure profile pays the cell of the profile with that player's strategy exchanged
abbrev pub PureReplyPaysItsCell : Type 0
PureReplyPaysItsCell =
    (g : Game) (s : List ℕ) (i t j : ℕ) → IsProfile g.strategies s → i < length g.strategies
    → t < slice_index g.strategies i
    → payoff g (reply (pure s) i t) j ≡ g.pays j (number_of g.strategies (slice_set s i t))

-- no player has a greater payoff in a cell that only their own strategy tells from the profile's
abbrev pub NoGreaterCell : Game → List ℕ → Type 0
NoGreaterCell g s =
    (i t : ℕ) → i < length g.strategies → t < slice_index g.strategies i
    → g.pays i (number_of g.strategies (slice_set s i t)) ≤ℚ g.pays i (number_of g.strategies s)

-- a pure profile is an equilibrium exactly where no player has a cell with a greater payoff
abbrev pub PureEquilibriaByCells : Type 0
PureEquilibriaByCells =
    (g : Game) (s : List ℕ) → IsProfile g.strategies s
    → IsEquilibrium g (pure s) ↔ NoGreaterCell g s

-- a player's payoff is the mean of the payoffs of their pure replies
abbrev pub PayoffIsMeanOfReplies : Type 0
PayoffIsMeanOfReplies =
    (g : Game) (m : Mixed) (i j : ℕ) → i < length g.strategies
    → payoff g m j ≡ sum_to (slice_index g.strategies i) (λ s. m i s *ℚ payoff g (reply m i s) j)

-- a game has at most one list of pure equilibria
abbrev pub OneListOfPureEquilibria : Type 0
OneListOfPureEquilibria =
    (g : Game) (a b : List (List ℚ)) → ArePureEquilibria g a → ArePureEquilibria g b → a ≡ b

-- two pure profiles never have the same line
abbrev pub LinesDetermineProfiles : Type 0
LinesDetermineProfiles =
    (ns one other : List ℕ) → IsProfile ns one → IsProfile ns other
    → line_text (entries ns (pure one)) ≡ line_text (entries ns (pure other)) → one ≡ other
