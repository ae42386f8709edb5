-- How the reasons of the listing and of the values are told.
use Rattle.std.specs.Prelude.{ℕ}
use Rattle.enumpure.specs.declared.listing.ListStop.{ListStop}
use Rattle.enumpure.specs.declared.listing.ListStop.TheVariants as list
use Rattle.pure_payoffs.specs.declared.stop.ValueStop.{ValueStop}
use Rattle.pure_payoffs.specs.declared.stop.ValueStop.TheVariants as value_stops
use Rattle.enumpure_trees.specs.declared.stop.ChoiceStop.{ChoiceStop}
use Rattle.enumpure_trees.specs.declared.stop.ChoiceStop.TheVariants as stops

-- why there is no text, by why lines are not listed
abbrev pub text_stop : ListStop → ChoiceStop
text_stop (list.TooLarge limit) = stops.TooLarge limit
text_stop list.Memory = stops.Memory

-- why the values are not computed, by why those of the choice with number n are not
abbrev pub at_choice : ℕ → ValueStop → ChoiceStop
at_choice n (value_stops.Range node player unfit) = stops.Range n node player unfit
at_choice n value_stops.Memory = stops.Memory
