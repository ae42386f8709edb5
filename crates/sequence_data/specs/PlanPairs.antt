-- What contracts see of both players' plans.
use Rattle.std.specs.Prelude.{List, refl}
use Rattle.std.specs.Coded.{Coded, code_by, coded×, coded_list}
use Rattle.rational.specs.Rational.{ℚ}
use Rattle.rational.proofs.CodeLemmas.{code_ℚ}

-- the weights of both players' sequences
pub record PlanPair : Type 0 where
  pub one : List ℚ
  pub two : List ℚ

-- they are stored as two lists
abbrev pub code_of_plans : Coded PlanPair
code_of_plans =
    code_by (List ℚ × List ℚ) (coded× (coded_list code_ℚ) (coded_list code_ℚ))
    (λ p. (p.one, p.two)) (λ p. record { one = p.0; two = p.1 }) (λ _. refl)
