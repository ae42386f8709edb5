use Rattle.std.proofs.Common.{◌*◌, ◌≡◌, ◌∙◌, length, ap, ap₂, arith}
use Rattle.two_player_tools.proofs.perfect.known_of.Goals as goal

pub returns : goal.returns
returns c =
    let long : length c.in_ok-worth.worth.items ≡ c.in_ok-worth.worth.len = omega (arith, c.in_ok-worth.worth.ok.0) in
    record {
      worth = long ∙ c.in_ok-worth.ensures.len ∙ ap₂ (λ m n. m * n) (ap length c.nodes.ensures.nodes) (ap length c.players.ensures.players);
      lists = c.in_ok-lists.ensures;
    }
