-- The payoffs of a reduced form as they are computed, profile after profile and in each player
-- after player.
use Rattle.std.specs.Prelude.{ℕ, ◌+◌, ◌*◌, ◌<◌, ◌≡◌, List, length}
use Rattle.rational.specs.Rational.{ℚ}
use Rattle.rational.specs.Sum.{entry_at}
use Rattle.game_theory.specs.Trees.{Tree}
use Rattle.reduced_strategies.specs.StrategicForm.{strategic_form}
use Rattle.pure_payoffs.specs.declared.stop.PayoffStop.{PayoffStop}
use Rattle.pure_payoffs.specs.declared.stop.PayoffStop.TheVariants as payoff_stops
use Rattle.reduced_form.specs.declared.stop.ReduceStop.{ReduceStop}
use Rattle.reduced_form.specs.declared.stop.ReduceStop.TheVariants as stops

-- the payoffs so far are the strategic form's
abbrev pub AreCells : Tree → List (List (List ℕ)) → List ℚ → Type 0
AreCells t strategies payoffs =
    (k i : ℕ) → i < t.players → k * t.players + i < length payoffs
    → entry_at payoffs (k * t.players + i) ≡ (strategic_form t strategies).pays i k

-- why the profile with number k has no payoffs
abbrev pub at_profile : ℕ → PayoffStop → ReduceStop
at_profile k (payoff_stops.Range player unfit) = stops.Range k player unfit
at_profile k payoff_stops.Memory = stops.Memory
