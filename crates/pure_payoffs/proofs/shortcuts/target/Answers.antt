use Rattle.pure_payoffs.specs.Plays.{choice_of, game_of}
use Rattle.pure_payoffs.proofs.PlaceLemmas.{play-chooses}
use Rattle.pure_payoffs.proofs.StandInLemmas.{StandsFor-self, StandsFor-before, StandsFor-onwards}
use Rattle.pure_payoffs.proofs.shortcuts.target.Goals as goal

pub loop-next-preserved : goal.loop-next-preserved
loop-next-preserved c =
    let t = game_of c.args.play.now in
    let choice = choice_of c.args.play.now in
    let chosen = play-chooses _ _ _ c.requires.play in
    StandsFor-onwards t choice c.args.node c.loop-next.here c.in-Some.next c.loop-next.invariant
    (StandsFor-before t choice c.requires.play.tree chosen c.loop-next.here c.in-Some.next c.in-Some.next c.loop-next.invariant.within c.in-Some.ensures (StandsFor-self t choice c.requires.play.tree chosen c.in-Some.next c.in-Some.ensures.within))
