-- The pairs of two lists.
use Rattle.std.specs.Prelude.{List, map}
use Rattle.std.specs.List.{flat_map}

-- each element of the first list with each of the second, in order
abbrev pub cartesian_product : {A B : Type 0} → List A → List B → List (A × B)
cartesian_product xs ys = flat_map (λ x. map (λ y. (x, y)) ys) xs
