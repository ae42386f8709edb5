use Rattle.std.proofs.Common.{◌≡◌, All, length, map, take}
use Rattle.std.specs.List.{range_with_len}
use Rattle.game_theory.specs.Lines.{listed}
use Rattle.frac128.specs.Steps.{StepFits}
use Rattle.extreme_equilibria.specs.Polytopes.{scaled}
use Rattle.label_pairing.specs.Scaling.{division}
use Rattle.rational.specs.Sum.{entry_at}
use Rattle.label_pairing.proofs.scaling.scale.Given as goal

abbrev pub invariant-loop-entry : goal.invariant-loop-entry
invariant-loop-entry l = record {
  value : l.scaled.items ≡ listed l.entry-index (scaled (length l.point) (entry_at l.point));
  fits : All StepFits (take l.entry-index (map (division l.point) (range_with_len 0 (length l.point))));
}
