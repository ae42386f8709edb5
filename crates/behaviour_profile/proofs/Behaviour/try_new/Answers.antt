use Rattle.std.proofs.Common.{◌≡◌, Err, length, rules, subst}
use Rattle.std.specs.Prelude.{sum}
use Rattle.std.proofs.lemmas.Result.{err_from_is_err_and}
use Rattle.game_core.specs.TreeGame.{game_of_tree}
use Rattle.game_theory.specs.OwnSets.{action_counts}
use Rattle.behaviour_profile.specs.EntryTests.{tests_from}
use Rattle.behaviour_profile.proofs.FirstFaultLemmas.{tests_in}
use Rattle.behaviour_profile.proofs.ProfileAnswerLemmas.{tests_refused}
use Rattle.behaviour_profile.proofs.Behaviour.try_new.Goals as goal

pub returns-in_err-test_players : goal.returns-in_err-test_players
returns-in_err-test_players c =
    let counts = action_counts (game_of_tree c.args.tree.now) in
    let right : length c.args.entries.items ≡ sum counts = search rules in
    let fault = c.in_err-test_players.field-0.0 in
    let p = err_from_is_err_and c.from_residual.result c.from_residual.ensures.1 in
    rw (p.1, p.2) (tests_refused counts c.args.entries.items fault right (subst (λ entries. tests_in (tests_from entries 0 0 counts) (Err fault)) c.as_slice.ensures.value c.in_err-test_players.ensures))
