-- The greatest of numbers is one, and so is the least.
use Rattle.std.proofs.Common.{◌≡◌, List, All, ◌∙◌, subst}
use Rattle.std.specs.Prelude.{Any}
use Rattle.std.proofs.lemmas.List.Elements.{All-get_or}
use Rattle.rational.specs.Rational.{ℚ, ◌≤ℚ◌}
use Rattle.rational.specs.Extremes.{IsGreatest, IsLeast}
use Rattle.rational.proofs.Field.{le_antisymm}

-- what holds of each number holds of one of them
of_one : (P : ℚ → Type 0) (numbers : List ℚ) (v : ℚ) → Any (λ x. x ≡ v) numbers → All P numbers → P v
of_one P numbers v found all = subst P (found.3 ∙ found.4) (All-get_or P numbers found.0 found.1 found.2 all)

pub greatest-single : (numbers : List ℚ) (v w : ℚ) → IsGreatest numbers v → IsGreatest numbers w → v ≡ w
greatest-single numbers v w h g = le_antisymm v w (of_one (λ x. x ≤ℚ w) numbers v h.is_one g.greatest) (of_one (λ x. x ≤ℚ v) numbers w g.is_one h.greatest)

pub least-single : (numbers : List ℚ) (v w : ℚ) → IsLeast numbers v → IsLeast numbers w → v ≡ w
least-single numbers v w h g = le_antisymm v w (of_one (λ x. v ≤ℚ x) numbers w g.is_one h.least) (of_one (λ x. w ≤ℚ x) numbers v h.is_one g.least)
