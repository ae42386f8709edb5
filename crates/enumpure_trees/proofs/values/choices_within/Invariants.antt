use Rattle.std.proofs.Common.{◌<◌, ◌≤◌, ◌≡◌, take}
use Rattle.game_theory.specs.Profiles.{profile_count}
use Rattle.enumpure_trees.proofs.values.choices_within.Given as goal

abbrev pub invariant-loop-count : goal.invariant-loop-count
invariant-loop-count l = record {
  some : 0 < l.choices;
  few : l.choices ≤ l.most;
  are : l.choices ≡ profile_count (take l.count-index l.counts);
}
