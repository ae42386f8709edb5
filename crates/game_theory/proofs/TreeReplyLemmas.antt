-- A player's reply on a tree.
use Rattle.std.proofs.Common.{ℕ, ◌<◌, ◌≡◌, Bool, true, false, Option, Some, None, refl}
use Rattle.std.specs.Prelude.{if◌then◌else◌}
use Rattle.rational.specs.Rational.{◌≤ℚ◌, zero_ℚ}
use Rattle.game_theory.specs.Behaviour.{Behaviour, IsValid, action_probability, is_own, of_owner, reply}
use Rattle.game_theory.specs.Mixed.{sure}
use Rattle.game_theory.specs.Trees.{Tree, IsTree}
use Rattle.game_theory.proofs.SureStrategyLemmas.{sure-not_negative}

-- the probabilities of a reply to a valid behaviour are not negative
pub reply-not_negative : (t : Tree) (b : Behaviour) (i : ℕ) (choice : ℕ → ℕ) → IsTree t → IsValid t b → (s a : ℕ) → s < t.sets → a < t.actions s → zero_ℚ ≤ℚ action_probability t (reply t b i choice) s a
reply-not_negative t b i choice w valid s a l m = at (t.owner s) refl
  where
    replied : (own : Bool) → zero_ℚ ≤ℚ b s a → zero_ℚ ≤ℚ (if own then sure (choice s) a else b s a)
    replied true h = sure-not_negative (choice s) a
    replied false h = h

    at : (o : Option ℕ) → t.owner s ≡ o → zero_ℚ ≤ℚ of_owner o (t.chance s a) (reply t b i choice s a)
    at None e = (w.chance_distributions s l e).not_negative a m
    at (Some k) e = replied (is_own t i s) ((valid s k l e).not_negative a m)
