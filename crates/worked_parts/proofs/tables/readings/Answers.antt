use Rattle.std.proofs.Common.{◌≡◌, ◌<◌, ◌≤◌, length, All, sym, ◌∙◌, subst}
use Rattle.std.proofs.lemmas.List.Elements.{All-map}
use Rattle.game_theory.specs.Profiles.{profile_count}
use Rattle.game_core.specs.Table.{strategy_counts, most_payoffs}
use Rattle.game_core.proofs.TableCountLemmas.{profile_count-table}
use Rattle.worked_parts.proofs.tables.readings.Goals as goal

pub profile_count-profiles-requires-clause-few : goal.profile_count-profiles-requires-clause-few
profile_count-profiles-requires-clause-few c =
    let t = c.args.table.now in
    let counts : c.deref.result.now ≡ strategy_counts t = c.deref.ensures.value ∙ c.in_ok-counts.ensures.counts in
    subst (λ ns. profile_count ns ≤ most_payoffs) (sym counts) (profile_count-table t c.in_ok-counts.ensures.valid)

pub profile_count-profiles-requires-clause-some : goal.profile_count-profiles-requires-clause-some
profile_count-profiles-requires-clause-some c =
    let t = c.args.table.now in
    let counts : c.deref.result.now ≡ strategy_counts t = c.deref.ensures.value ∙ c.in_ok-counts.ensures.counts in
    subst (All (λ n. 0 < n)) (sym counts) (All-map (λ n. 0 < n) length t.strategies c.in_ok-counts.ensures.valid.some_strategy)
