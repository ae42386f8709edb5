-- A game has one list of extreme equilibria.
use Rattle.std.proofs.Common.{List, Contains, sym, subst}
use Rattle.rational.specs.Rational.{ℚ}
use Rattle.game_theory.specs.Profiles.{Game}
use Rattle.game_theory.proofs.LineOrderLemmas.{AreInOrder-determined}
use Rattle.extreme_equilibria.specs.ExtremeEquilibria.{IsExtremeEquilibriumLine, AreExtremeEquilibria}
use Rattle.extreme_equilibria.specs.Laws.{OneListOfExtremeEquilibria}

-- each line of one list of extreme equilibria stands in any other
extreme_equilibria-within : (g : Game) (a b : List (List ℚ)) → AreExtremeEquilibria g a → AreExtremeEquilibria g b → (z : List ℚ) → Contains a z → Contains b z
extreme_equilibria-within g a b p q z c =
    let w : IsExtremeEquilibriumLine g z = subst (IsExtremeEquilibriumLine g) c.2 (p.sound c.0 z c.1) in
    subst (λ v. Contains b v) (sym w.is_line) (q.complete w.profile w.is_extreme)

pub extreme_equilibria-determined : OneListOfExtremeEquilibria
extreme_equilibria-determined g a b p q =
    AreInOrder-determined a b p.in_order q.in_order (extreme_equilibria-within g a b p q) (extreme_equilibria-within g b a q p)
