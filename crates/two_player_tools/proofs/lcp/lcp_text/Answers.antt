use Rattle.std.proofs.Common.{inl, inr, Bool, List, ℕ}
use Rattle.answers.specs.Answers.{Gives, map_ok}
use Rattle.game_core.specs.declared.game.Game.{Game}
use Rattle.refusals.specs.declared.refusal.Refusal.TheVariants as refusal
use Rattle.two_player_tools.specs.Perfect.{lcp_tool}
use Rattle.two_player_tools.proofs.ToolLemmas.{whole-game}
use Rattle.two_player_tools.proofs.lcp.lcp_text.Goals as goal
use Rattle.two_player_tools.proofs.lcp.lcp_text.Goals.{in_default-via-in-Extensive+else-perfect, in_default-via-in_default}

pub returns-in_default : goal.returns-in_default
returns-in_default c =
    let r = c.equilibrium_text.result in
    whole-game (λ (perfect : Bool) (game : Game). Gives refusal.Memory (lcp_tool c.args.strategic perfect game) (map_ok {Y = List ℕ} r (λ text. text.items))) c.args.perfect c.args.game.now
    (elim c.in_default.branch [
      | in_default-via-in-Extensive+else-perfect w ↦ inl w.if-perfect.false
      | in_default-via-in_default w ↦ inr w.in_default.not-Extensive
    ])
    c.equilibrium_text.ensures (λ t g. g)
