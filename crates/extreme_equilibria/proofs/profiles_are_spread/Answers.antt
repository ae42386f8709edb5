use Rattle.extreme_equilibria.proofs.ExtremeEquilibriaLemmas.{profiles-spread}
use Rattle.extreme_equilibria.proofs.profiles_are_spread.Goals as goal

pub returns : goal.returns
returns c = profiles-spread
