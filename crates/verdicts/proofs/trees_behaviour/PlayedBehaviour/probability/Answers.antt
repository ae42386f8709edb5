use Rattle.std.proofs.Common.{◌≡◌, ◌∙◌, ◌+◌, ◌<◌, Some, sym, get_or, length, arith}
use Rattle.std.proofs.lemmas.List.{get_or_default}
use Rattle.rational.specs.Rational.{zero_ℚ}
use Rattle.best_replies.proofs.WeightLemmas.{action-own}
use Rattle.verdicts.specs.TreeBehaviours.{game_of}
use Rattle.verdicts.proofs.trees_behaviour.PlayedBehaviour.probability.Goals as goal

pub returns-in-Some : goal.returns-in-Some
returns-in-Some c = λ b reads.
    let own : (game_of c.args.self.now).owner c.args.set ≡ Some c.in-Some.field-0 = sym c.owner.ensures ∙ c.in-Some.is in
    let place = get_or c.args.self.now.starts.now c.args.set 0 + c.args.action in
    let within : place < length c.args.self.now.entries.now = omega (arith, c.requires.played.entries_within c.args.set c.in-Some.field-0 c.requires.set own, c.requires.action) in
    get_or_default c.args.self.now.entries.now place c.index-self-self.result zero_ℚ within ∙ reads c.args.set c.in-Some.field-0 c.args.action c.requires.set own c.requires.action
    ∙ sym (action-own (game_of c.args.self.now) b c.in-Some.field-0 c.args.set c.args.action own)
