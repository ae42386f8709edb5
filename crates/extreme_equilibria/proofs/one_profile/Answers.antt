use Rattle.extreme_equilibria.proofs.Examples.{one_profile-holds}
use Rattle.extreme_equilibria.proofs.one_profile.Goals as goal

pub returns : goal.returns
returns c = one_profile-holds
