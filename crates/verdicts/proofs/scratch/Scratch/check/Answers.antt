use Rattle.std.proofs.Common.{◌≡◌, All, length, sym, subst, map, arith}
use Rattle.std.proofs.Math.Seq.{take-append_seam}
use Rattle.std.specs.Prelude.{MatchResult}
use Rattle.game_theory.specs.Behaviour.{payoff}
use Rattle.best_replies.specs.Replies.{reply_value}
use Rattle.frac128.specs.Steps.{StepFits, IsFirstUnfit}
use Rattle.verdicts.specs.TreeReplies.{AreChosen}
use Rattle.verdicts.specs.TreeSteps.{tree_player_steps}
use Rattle.game_core.specs.TreeGame.{game_of_tree}
use Rattle.game_theory.specs.Children.{AreChildren}
use Rattle.behaviour_profile.specs.EntryStarts.{AreStarts}
use Rattle.behaviour_profile.proofs.EntryStartLemmas.{starts-within, starts-read}
use Rattle.verdicts.proofs.scratch.Scratch.check.Goals as goal

pub check_player-requires-clause-played : goal.check_player-requires-clause-played
check_player-requires-clause-played c =
    let t = game_of_tree c.args.tree.now in
    let room = c.requires.scratch in
    let valid = c.stands_for_game_tree.ensures.game in
    let starts = subst (AreStarts t) (sym c.as_slice-2.ensures.value) room.starts_are in
    record {
      tree = valid;
      children_are = subst (λ xs. AreChildren t (map (λ v. v.items) xs)) (sym c.as_slice.ensures.value) room.children_are;
      starts_long = starts.long;
      entries_within = λ s i l o. starts-within t _ c.args.entries.now c.requires.entries.0 valid starts c.requires.entries.1 s i l o;
    }

pub returns-clause-gives : goal.returns-clause-gives
returns-clause-gives c = λ b choice is ascend best.
    let t = game_of_tree c.args.tree.now in
    let starts = subst (AreStarts t) (sym c.as_slice-2.ensures.value) c.requires.scratch.starts_are in
    let gives = c.check_player.ensures b choice (starts-read t _ c.args.entries.now b c.stands_for_game_tree.ensures.game starts is) ascend best in
    subst (λ xs. MatchResult c.check_player.result
    (λ pays. (pays.payoff ≡ payoff t b c.args.player) × (pays.best ≡ reply_value t b c.args.player choice 0) × All StepFits (tree_player_steps t b c.args.player choice) × AreChosen t c.args.player choice xs)
    (IsFirstUnfit (tree_player_steps t b c.args.player choice))) (let long : c.args.self.now.choices.len ≡ length c.check_player.new.choices = omega (arith, c.args.self.now.choices.ok.0) in rw long (sym (take-append_seam _ _))) gives
