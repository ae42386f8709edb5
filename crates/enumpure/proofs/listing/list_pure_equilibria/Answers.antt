use Rattle.std.proofs.Common.{All, ◌<◌, ◌≡◌, length, refl, sym, ap, ◌∙◌, subst, arith}
use Rattle.std.proofs.lemmas.List.Elements.{All-map}
use Rattle.answers.specs.Answers.{refused_by, such_that}
use Rattle.answers.proofs.AnswerLemmas.{gives_bind_as}
use Rattle.game_theory.specs.Lines.{lines_text}
use Rattle.game_theory.specs.Profiles.{profile_count}
use Rattle.game_core.specs.Limits.{limited_text}
use Rattle.game_core.specs.Table.{game_of, strategy_counts}
use Rattle.game_core.proofs.TableCountLemmas.{few_players, length-strategy_counts, profile_count-table}
use Rattle.enumpure.specs.Ranks.{lines_below}
use Rattle.enumpure.specs.Text.{IsPureEquilibriaText}
use Rattle.enumpure.specs.Replies.{AreMutualBestReplies}
use Rattle.enumpure.specs.declared.listing.ListStop.TheVariants as stops
use Rattle.enumpure.proofs.ListedProfileLemmas.{IsPureEquilibriaText-listed}
use Rattle.enumpure.proofs.listing.list_pure_equilibria.Goals as goal
use Rattle.enumpure.proofs.listing.list_pure_equilibria.Goals.{After-deref-2}

-- the counts are the table's
counts_are : (c : After-deref-2) → c.deref.result.now ≡ strategy_counts c.args.table.now
counts_are c = c.deref.ensures.value ∙ c.in_ok-counts.ensures.counts

-- the best replies are the table's
are_mutual : (c : After-deref-2) → AreMutualBestReplies (game_of c.args.table.now) c.deref-2.result.now
are_mutual c = subst (AreMutualBestReplies (game_of c.args.table.now)) (sym c.deref-2.ensures.value) (c.in_ok-all_best.ensures {u = tt})

pub list_profiles-requires-clause-some : goal.list_profiles-requires-clause-some
list_profiles-requires-clause-some c =
    let t = c.args.table.now in
    subst (All (λ n. 0 < n)) (sym (counts_are c)) (All-map (λ n. 0 < n) length t.strategies c.in_ok-counts.ensures.valid.some_strategy)

pub list_profiles-requires-clause-players : goal.list_profiles-requires-clause-players
list_profiles-requires-clause-players c =
    let valid = c.in_ok-counts.ensures.valid in
    omega (arith, ap length (counts_are c), length-strategy_counts c.args.table.now valid, few_players c.args.table.now valid)

pub list_profiles-requires-clause-each : goal.list_profiles-requires-clause-each
list_profiles-requires-clause-each c = (are_mutual c).of_each ∙ ap profile_count (sym (counts_are c))

pub list_profiles-requires-clause-few : goal.list_profiles-requires-clause-few
list_profiles-requires-clause-few c = omega (arith, (are_mutual c).of_each, profile_count-table c.args.table.now c.in_ok-counts.ensures.valid)

pub returns : goal.returns
returns c =
    let at = (goal.at.returns c).After-deref-2 in
    let text = lines_text (lines_below c.deref.result.now c.deref-2.result.now (length c.deref-2.result.now)) in
    gives_bind_as stops.Memory (such_that (IsPureEquilibriaText (game_of c.args.table.now))) (λ v. refused_by stops.TooLarge (limited_text v)) text c.list_profiles.result (λ v. v.items) (IsPureEquilibriaText-listed (game_of c.args.table.now) c.deref-2.result.now c.deref.result.now text (counts_are at) (are_mutual at) refl) c.list_profiles.ensures
