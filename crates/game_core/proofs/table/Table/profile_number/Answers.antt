use Rattle.std.proofs.Common.{◌≤◌, length, map, sym, subst}
use Rattle.game_theory.specs.Profiles.{profile_count}
use Rattle.game_core.specs.Table.{most_payoffs}
use Rattle.game_core.proofs.TableCountLemmas.{profile_count-table}
use Rattle.game_core.proofs.table.Table.profile_number.Goals as goal

pub profile_number-requires-clause-few : goal.profile_number-requires-clause-few
profile_number-requires-clause-few c =
    subst (λ s. profile_count (map length (map (λ v. v.items) s)) ≤ most_payoffs) (sym c.as_slice.ensures.value) (profile_count-table _ c.self.invariant)
