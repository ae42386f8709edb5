-- What the verdicts of tables say.
use Rattle.std.specs.Prelude.{ℕ, ◌<◌, ◌≡◌, ◌↔◌, List, All, length, slice_index}
use Rattle.rational.specs.Rational.{ℚ, ◌≤ℚ◌, ◌<ℚ◌}
use Rattle.game_theory.specs.Profiles.{Game}
use Rattle.game_theory.specs.Mixed.{Mixed, IsValid, payoff as payoff_of, reply as with_reply}
use Rattle.game_theory.specs.Equilibrium.{IsEquilibrium}
use Rattle.game_core.specs.Table.{GameTable}
use Rattle.frac128.specs.Steps.{StepFits}
use Rattle.best_replies.specs.Strategies.{HasBetterStrategy}
use Rattle.verdicts.specs.TableChecks.{IsTableVerdict, table_player_steps, table_verdict}
use Rattle.verdicts.specs.declared.tables.TableVerdict.{TableVerdict}
use Rattle.verdicts.specs.declared.tables.TableVerdict.TheVariants.{Equilibrium, Better}

-- a table and entries have at most one verdict
abbrev pub TableVerdictsAreSingle : Type 0
TableVerdictsAreSingle =
    (table : GameTable) (list : List ℚ) (one other : TableVerdict) → table_verdict table list one
    → table_verdict table list other → one ≡ other

-- A player has a better strategy, and no earlier player has one. The payoff is the player's, and
-- the reply is the first of the strategies that pay the most, which is this.
pub record ShowsBetterStrategy (g : Game) (m : Mixed) (player reply : ℕ) (payoff best : ℚ)
    : Type 0 where
  pub has_better : HasBetterStrategy g m player
  pub earlier_have_none : (i : ℕ) → i < player → ¬ (HasBetterStrategy g m i)
  pub payoff_is : payoff ≡ payoff_of g m player
  pub is_strategy : reply < slice_index g.strategies player
  pub pays_best : payoff_of g (with_reply m player reply) player ≡ best
  pub none_pays_more : (s : ℕ) → s < slice_index g.strategies player
      → payoff_of g (with_reply m player s) player ≤ℚ best
  pub earlier_pay_less : (s : ℕ) → s < reply
      → payoff_of g (with_reply m player s) player <ℚ best

-- A valid profile with the first verdict is an equilibrium. With the second a player has a better
-- strategy, the first player and the first of the best. Where all steps fit, the first verdict
-- comes exactly at equilibria.
pub record TableVerdictsFindEquilibria : Type 0 where
  pub equilibrium : (g : Game) (m : Mixed) → IsValid g.strategies m → IsTableVerdict g m Equilibrium
      → IsEquilibrium g m
  pub better : (g : Game) (m : Mixed) (player reply : ℕ) (payoff best : ℚ)
      → IsTableVerdict g m (Better player payoff best reply)
      → ShowsBetterStrategy g m player reply payoff best
  pub exactly : (g : Game) (m : Mixed) → IsValid g.strategies m
      → ((i : ℕ) → i < length g.strategies → All StepFits (table_player_steps g m i))
      → IsTableVerdict g m Equilibrium ↔ IsEquilibrium g m
