-- Games with the same payoffs at each profile have the same equilibria.
use Rattle.std.proofs.Common.{ℕ, ◌<◌, ◌≡◌, ◌↔◌, List, length, sym, subst, subst₂}
use Rattle.rational.specs.Rational.{ℚ, ◌≤ℚ◌}
use Rattle.game_theory.specs.Profiles.{Game, profile_count}
use Rattle.game_theory.specs.Mixed.{Mixed, reply}
use Rattle.game_theory.specs.Equilibrium.{IsEquilibrium}
use Rattle.game_theory.proofs.PayoffLemmas.{mean-same_numbers}
use Rattle.extreme_equilibria.specs.KeptTable.{HaveSameCells}
use Rattle.extreme_equilibria.specs.ExtremeEquilibria.{with_part, IsExtremeEquilibrium}
use Rattle.extreme_equilibria.specs.KeptLaws.{SameCellsHaveSameEquilibria}

-- the game with these numbers of strategies and these payoffs
abbrev game : List ℕ → (ℕ → ℕ → ℚ) → Game
game ns u = record { strategies = ns; pays = u }

-- the same payoffs at each profile
abbrev SamePays : List ℕ → (ℕ → ℕ → ℚ) → (ℕ → ℕ → ℚ) → Type 0
SamePays ns u v = (i k : ℕ) → i < length ns → k < profile_count ns → u i k ≡ v i k

-- an equilibrium stays one
same-equilibrium : (ns : List ℕ) (u v : ℕ → ℕ → ℚ) (m : Mixed) → SamePays ns u v → IsEquilibrium (game ns u) m → IsEquilibrium (game ns v) m
same-equilibrium ns u v m same e =
    record {
      valid = e.valid;
      no_better_reply = λ i s l b. subst₂ (λ x y. x ≤ℚ y) (mean-same_numbers ns (reply m i s) (u i) (v i) (λ k h. same i k l h)) (mean-same_numbers ns m (u i) (v i) (λ k h. same i k l h)) (e.no_better_reply i s l b);
    }

-- and so does an extreme one
same-extreme : (ns : List ℕ) (u v : ℕ → ℕ → ℚ) (m : Mixed) → SamePays ns u v → IsExtremeEquilibrium (game ns u) m → IsExtremeEquilibrium (game ns v) m
same-extreme ns u v m same e =
    record {
      equilibrium = same-equilibrium ns u v m same e.equilibrium;
      alone = λ i l p q first second mid. e.alone i l p q (same-equilibrium ns v u (with_part m i p) (λ i k a b. sym (same i k a b)) first) (same-equilibrium ns v u (with_part m i q) (λ i k a b. sym (same i k a b)) second) mid;
    }

-- a statement on games that goes from payoffs to the same payoffs goes from a game to one with the same cells
along_cells : (P : Game → Type 0) → ((ns : List ℕ) (u v : ℕ → ℕ → ℚ) → SamePays ns u v → P (game ns u) → P (game ns v)) → (g h : Game) → HaveSameCells g h → P g ↔ P h
along_cells P step g h c = (
  λ p. subst (λ ns. P (game ns h.pays)) c.strategies (step g.strategies g.pays h.pays c.cells p),
  λ p. step g.strategies h.pays g.pays (λ i k a b. sym (c.cells i k a b)) (subst (λ ns. P (game ns h.pays)) (sym c.strategies) p),
)

-- the law of equal cells
pub same_cells-same_equilibria : SameCellsHaveSameEquilibria
same_cells-same_equilibria =
    record {
      equilibria = λ g h m c. along_cells (λ x. IsEquilibrium x m) (λ ns u v same e. same-equilibrium ns u v m same e) g h c;
      extreme_equilibria = λ g h m c. along_cells (λ x. IsExtremeEquilibrium x m) (λ ns u v same e. same-extreme ns u v m same e) g h c;
    }
