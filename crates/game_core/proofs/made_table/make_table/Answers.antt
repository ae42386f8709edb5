use Rattle.std.proofs.Common.{[], ◌∷◌, length, map, ap, ap₂, ◌∙◌}
use Rattle.std.proofs.lemmas.List.{length-replicate}
use Rattle.game_core.proofs.GameLemmas.{is_table}
use Rattle.game_core.proofs.made_table.make_table.Goals as goal

pub new-requires-2 : goal.new-requires-2
new-requires-2 c =
    rw c.in_ok-strategies.ensures.items (is_table c.args.seed c.args.rows c.args.columns c.new-title.result c.in_ok-players.players.items c.in_ok-first.first.items c.in_ok-second.second.items c.in_ok-payoffs.payoffs.items
    (ap length c.in_ok-players.ensures) (ap length c.in_ok-first.ensures ∙ length-replicate c.args.rows []) (ap length c.in_ok-second.ensures ∙ length-replicate c.args.columns []) c.in_ok-payoffs.ensures c.requires.rows c.requires.columns c.requires.few)

pub returns : goal.returns
returns c =
    c.new-2.ensures ∙ (λ j. record {
      title = (c.new-title.ensures ∙ c.new.ensures.items) j;
      players = c.in_ok-players.ensures j;
      strategies = (ap (map (λ v. v.items)) c.in_ok-strategies.ensures.items ∙ ap₂ (λ m n. m ∷ n ∷ []) c.in_ok-first.ensures c.in_ok-second.ensures) j;
      payoffs = c.in_ok-payoffs.ensures j;
    })
