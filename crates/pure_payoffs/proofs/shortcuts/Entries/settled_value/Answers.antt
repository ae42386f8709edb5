use Rattle.std.proofs.Common.{ℕ, Option, Some, None, Ok}
use Rattle.std.specs.Prelude.{IfSome}
use Rattle.rational.specs.Rational.{ℚ}
use Rattle.game_theory.specs.Trees.{Tree}
use Rattle.pure_payoffs.specs.Plays.{GiveAt, choice_of, game_of}
use Rattle.pure_payoffs.specs.Settled.{Settles}
use Rattle.pure_payoffs.proofs.shortcuts.Entries.settled_value.Goals as goal

-- what is the value for each choice is the value for one
for_one : (t : Tree) (choice : ℕ → ℕ) (i k : ℕ) (kept : Option ℚ) → IfSome kept (Settles t i k) → IfSome kept (λ v. GiveAt t choice i k (Ok v))
for_one t choice i k None h = tt
for_one t choice i k (Some v) h = h choice

pub returns : goal.returns
returns c = for_one (game_of c.args.play.now) (choice_of c.args.play.now) c.args.player c.args.node c.value.result (c.value.ensures (game_of c.args.play.now) c.requires.keep.room.settled)
