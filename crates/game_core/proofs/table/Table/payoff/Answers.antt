use Rattle.std.proofs.Common.{◌<◌, sym, subst}
use Rattle.game_theory.specs.Profiles.{profile_count}
use Rattle.game_theory.proofs.ProfileNumberLemmas.{number_of-below}
use Rattle.game_core.specs.Table.{strategy_counts}
use Rattle.game_core.proofs.table.Table.payoff.Goals as goal

pub payoff_at-requires-clause-profile : goal.payoff_at-requires-clause-profile
payoff_at-requires-clause-profile c =
    let counts = strategy_counts c.args.self.now in
    subst (λ k. k < profile_count counts) (sym c.profile_number.ensures.number) (number_of-below counts c.args.profile.now c.requires.profile)
