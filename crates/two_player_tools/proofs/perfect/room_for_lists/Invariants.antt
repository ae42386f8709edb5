use Rattle.std.proofs.Common.{ℕ, ◌<◌, ◌≡◌, [], get_or, length, map}
use Rattle.game_core.specs.TreeGame.{game_of_tree}
use Rattle.two_player_tools.proofs.perfect.room_for_lists.Given as goal

-- there is a list for each set so far
abbrev pub invariant-loop-set : goal.invariant-loop-set
invariant-loop-set l = record {
  one_for_each : length l.lists.items ≡ l.set;
  as_long : (s : ℕ) → s < l.set → length (get_or (map (λ v. v.items) l.lists.items) s []) ≡ (game_of_tree l.tree).actions s;
}
