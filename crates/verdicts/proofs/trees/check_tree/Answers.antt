use Rattle.std.proofs.Common.{◌<◌, ◌∙◌, inl, inr, ap, sym, subst, length, arith}
use Rattle.std.proofs.lemmas.Bool.{cases_eq}
use Rattle.game_core.specs.TreeGame.{game_of_tree}
use Rattle.best_replies.proofs.DecisionOrderLemmas.{best_choices-exist}
use Rattle.best_replies.proofs.SetOrderLemmas.{sets-ascend_on_paths}
use Rattle.verdicts.specs.TreeVerdicts.{PassesTree}
use Rattle.verdicts.proofs.FoundReplyLemmas.{none-better, one-better}
use Rattle.verdicts.proofs.trees.check_tree.Goals as goal

pub check-requires-clause-entries : goal.check-requires-clause-entries
check-requires-clause-entries c = (c.requires.entries.0, c.entries-entries.ensures ∙ c.requires.entries.1)

pub returns-in-Err-clause-verdict : goal.returns-in-Err-clause-verdict
returns-in-Err-clause-verdict c =
    let b = c.requires.entries.0 in
    let is = c.requires.entries.1 in
    let t = game_of_tree c.args.tree.now in
    let i = c.loop-player.player in
    let valid = c.stands_for_game_tree.ensures in
    let within : i < length c.args.tree.now.players = omega (arith, ap length c.players-player-end.ensures.players) in
    let ascend = sets-ascend_on_paths t i valid.game (c.requires.recall.all_recall i within) valid.numbered in
    let best = best_choices-exist t b i valid.game ascend in
    (b, is, (record { player = i; within = within; earlier = c.loop-player.invariant.2 b is; choice = best.0; is_best = best.1; first = c.in-Err.ensures.gives b best.0 (c.entries-entries.ensures ∙ is) ascend best.1 }, c.check.ensures.reply ∙ c.loop-player.invariant.1))

pub returns-then-is_less-clause-verdict : goal.returns-then-is_less-clause-verdict
returns-then-is_less-clause-verdict c =
    let b = c.requires.entries.0 in
    let is = c.requires.entries.1 in
    let t = game_of_tree c.args.tree.now in
    let i = c.loop-player.player in
    let valid = c.stands_for_game_tree.ensures in
    let within : i < length c.args.tree.now.players = omega (arith, ap length c.players-player-end.ensures.players) in
    let ascend = sets-ascend_on_paths t i valid.game (c.requires.recall.all_recall i within) valid.numbered in
    let best = best_choices-exist t b i valid.game ascend in
    let found = c.in-Ok.ensures.gives b best.0 (c.entries-entries.ensures ∙ is) ascend best.1 in
    (b, is, one-better t b i best.0 _ _ best.1 found.0 found.1 found.2 _ _ within (c.loop-player.invariant.2 b is) (c.is_less.ensures.0 c.if-is_less.true) found.3 c.keep_reply.ensures.reply)

pub loop-player-preserved : goal.loop-player-preserved
loop-player-preserved c = (
  c.check.ensures.scratch,
  c.check.ensures.reply ∙ c.loop-player.invariant.1,
  λ b is j l.
      let t = game_of_tree c.args.tree.now in
      let i = c.loop-player.player in
      let valid = c.stands_for_game_tree.ensures in
      let within : i < length c.args.tree.now.players = omega (arith, ap length c.players-player-end.ensures.players) in
      let ascend = sets-ascend_on_paths t i valid.game (c.requires.recall.all_recall i within) valid.numbered in
      let best = best_choices-exist t b i valid.game ascend in
      let found = c.in-Ok.ensures.gives b best.0 (c.entries-entries.ensures ∙ is) ascend best.1 in
      elim (cases_eq j i) [
        | inl same ↦ subst (PassesTree t b) (sym same) (none-better t b i best.0 _ _ best.1 found.0 found.1 found.2 (λ lt. cc (c.is_less.ensures.1 lt, c.if-is_less.false)))
        | inr apart ↦ c.loop-player.invariant.2 b is j (omega arith)
      ],
)

pub returns-clause-verdict : goal.returns-clause-verdict
returns-clause-verdict c = (
  c.requires.entries.0,
  c.requires.entries.1,
  (λ i l. c.loop-player.invariant.2 c.requires.entries.0 c.requires.entries.1 i (omega (arith, l, c.loop-player-test.false, ap length c.players-player-end.ensures.players)), c.loop-player.invariant.1),
)
