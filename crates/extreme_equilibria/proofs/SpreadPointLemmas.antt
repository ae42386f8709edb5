-- Points of the kept strategies, spread over all strategies, make spread lines.
use Rattle.std.proofs.Common.{ℕ, zero, suc, ◌≡◌, List, [], ◌∷◌, ◌++◌, length, get_or, refl, sym, ap, ap₂, ◌∙◌, arith}
use Rattle.std.proofs.lemmas.List.{append-nil}
use Rattle.rational.specs.Rational.{ℚ, zero_ℚ}
use Rattle.game_theory.specs.Profiles.{Game}
use Rattle.game_theory.specs.Mixed.{Mixed}
use Rattle.game_theory.specs.Lines.{listed, entries}
use Rattle.game_theory.proofs.ProfileLineLemmas.{listed-of}
use Rattle.extreme_equilibria.specs.KeptTable.{AreKeptLists, at_kept, IsZeroAtRemoved, IsSpreadPoint}
use Rattle.extreme_equilibria.proofs.SpreadLineLemmas.{AreSpread}

-- the line of two spread points
pub points-spread : (g : Game) (first second : List ℕ) (m n : ℕ) → g.strategies ≡ m ∷ n ∷ [] → AreKeptLists g (first ∷ second ∷ []) → (a b c d : List ℚ)
    → length a ≡ length first → length b ≡ length second → IsSpreadPoint m first a c → IsSpreadPoint n second b d → AreSpread g (first ∷ second ∷ []) (a ++ b) (c ++ d)
points-spread g first second m n are lists a b c d la lb h k = record {
  profile = profile;
  zero_at_removed = off;
  is_line = ap₂ (λ x y. x ++ y) (listed-of (length first) a (at_kept (first ∷ second ∷ []) profile 0) la (λ j l. sym (h.at_places j l)))
      (listed-of (length second) b (at_kept (first ∷ second ∷ []) profile 1) lb (λ j l. sym (k.at_places j l)) ∙ sym (append-nil (listed (length second) (at_kept (first ∷ second ∷ []) profile 1))));
  is_wide = ap₂ (λ x y. x ++ y) (listed-of m c (profile 0) h.size (λ j l. refl)) (listed-of n d (profile 1) k.size (λ j l. refl) ∙ sym (append-nil (listed n (profile 1)))) ∙ ap (λ ns. entries ns profile) (sym are);
}
  where
    profile : Mixed
    profile i s = get_or (get_or (c ∷ d ∷ []) i []) s zero_ℚ

    off : IsZeroAtRemoved g (λ i s. get_or (get_or (c ∷ d ∷ []) i []) s zero_ℚ)
    off zero s l b removed = h.elsewhere s (λ q. removed ((lists.are_kept 0 (omega arith)).sound s q))
    off (suc zero) s l b removed = k.elsewhere s (λ q. removed ((lists.are_kept 1 (omega arith)).sound s q))
    off (suc (suc i)) s l b removed = absurd (omega (arith, l, ap length are))
