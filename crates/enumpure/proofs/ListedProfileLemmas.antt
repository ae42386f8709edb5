-- The lines of profiles of best replies, by rank.
use Rattle.std.proofs.Common.{ℕ, ◌≡◌, Bool, IsTrue, List, length, set, ◌↔◌, Contains, refl, sym, ap, ap₂, ◌∙◌, subst, arith}
use Rattle.rational.specs.Rational.{◌≤ℚ◌}
use Rattle.game_theory.specs.Profiles.{Game, profile_count, IsProfile, number_of}
use Rattle.game_theory.specs.Mixed.{pure}
use Rattle.game_theory.specs.Equilibrium.{IsEquilibrium}
use Rattle.game_theory.specs.Lines.{entries, IsPureEquilibriumLine, ArePureEquilibria, lines_text}
use Rattle.game_theory.proofs.ProfileLineLemmas.{StandsBefore-entries}
use Rattle.game_theory.proofs.ProfileNumberLemmas.{number_of-below, profile_at-number_of}
use Rattle.game_theory.proofs.PureProfileLemmas.{NoGreaterCell-equilibrium, IsEquilibrium-by_cells}
use Rattle.game_theory.specs.Ranks.{ranked}
use Rattle.enumpure.specs.Ranks.{ranked_plays_best, rank_line, lines_below}
use Rattle.enumpure.proofs.ListedLineLemmas.{listed_below-all, listed_below-has, listed_below-in_order}
use Rattle.enumpure.specs.Replies.{exchanged, plays_best, AreMutualBestReplies}
use Rattle.enumpure.specs.Text.{IsPureEquilibriaText}
use Rattle.game_theory.proofs.RankLemmas.{IsProfile-ranked, ComesBefore-ranked, rank_of, rank_of-below, ranked-rank_of}

-- a best reply at a profile's number has no greater cell
cell_number : (g : Game) (s : List ℕ) (i t : ℕ) → IsProfile g.strategies s → (g.pays i (exchanged g.strategies (number_of g.strategies s) i t) ≤ℚ g.pays i (number_of g.strategies s)) ↔ (g.pays i (number_of g.strategies (set s i t)) ≤ℚ g.pays i (number_of g.strategies s))
cell_number g s i t p =
    let e : exchanged g.strategies (number_of g.strategies s) i t ≡ number_of g.strategies (set s i t) = ap (λ v. number_of g.strategies (set v i t)) (profile_at-number_of g.strategies s p) in
    (subst (λ v. g.pays i v ≤ℚ g.pays i (number_of g.strategies s)) e, subst (λ v. g.pays i v ≤ℚ g.pays i (number_of g.strategies s)) (sym e))

-- the profiles of best replies are the equilibria
pub IsEquilibrium-plays_best : (g : Game) (best_replies : List Bool) (s : List ℕ) → AreMutualBestReplies g best_replies → IsProfile g.strategies s → IsTrue (plays_best best_replies (number_of g.strategies s)) → IsEquilibrium g (pure s)
IsEquilibrium-plays_best g best_replies s h p t =
    IsEquilibrium-by_cells g s p (λ i c l b. (cell_number g s i c p).0 ((h.all_best (number_of g.strategies s) (number_of-below g.strategies s p)).0 t i l c b))

-- the equilibria are listed
pub plays_best-equilibrium : (g : Game) (best_replies : List Bool) (s : List ℕ) → AreMutualBestReplies g best_replies → IsProfile g.strategies s → IsEquilibrium g (pure s) → IsTrue (plays_best best_replies (number_of g.strategies s))
plays_best-equilibrium g best_replies s h p e =
    (h.all_best (number_of g.strategies s) (number_of-below g.strategies s p)).1 (λ i l t b. (cell_number g s i t p).1 (NoGreaterCell-equilibrium g s p e i t l b))

-- the lines of all profiles of best replies are those of the pure equilibria
pub ArePureEquilibria-lines_below : (g : Game) (best_replies : List Bool) → AreMutualBestReplies g best_replies → ArePureEquilibria g (lines_below g.strategies best_replies (profile_count g.strategies))
ArePureEquilibria-lines_below g best_replies h =
    record {
      in_order = listed_below-in_order (rank_line g.strategies) (ranked_plays_best g.strategies best_replies) (profile_count g.strategies) (λ q r l b. StandsBefore-entries g.strategies (ranked g.strategies q) (ranked g.strategies r) (IsProfile-ranked g.strategies q (omega arith)) (IsProfile-ranked g.strategies r b) (ComesBefore-ranked g.strategies q r l b));
      sound = listed_below-all (rank_line g.strategies) (ranked_plays_best g.strategies best_replies) (IsPureEquilibriumLine g) (profile_count g.strategies) (λ q l t. record { profile = ranked g.strategies q; is_profile = IsProfile-ranked g.strategies q l; is_equilibrium = IsEquilibrium-plays_best g best_replies (ranked g.strategies q) h (IsProfile-ranked g.strategies q l) t; is_line = refl });
      complete = complete;
    }
  where
    complete : (s : List ℕ) → IsProfile g.strategies s → IsEquilibrium g (pure s) → Contains (lines_below g.strategies best_replies (profile_count g.strategies)) (entries g.strategies (pure s))
    complete s p e =
        let same : ranked g.strategies (rank_of g.strategies s) ≡ s = ranked-rank_of g.strategies s p in
        let listed_ones : IsTrue (plays_best best_replies (number_of g.strategies s)) = plays_best-equilibrium g best_replies s h p e in
        subst (λ v. Contains (lines_below g.strategies best_replies (profile_count g.strategies)) (entries g.strategies (pure v))) same (listed_below-has (rank_line g.strategies) (ranked_plays_best g.strategies best_replies) (profile_count g.strategies) (rank_of g.strategies s) (rank_of-below g.strategies s p) (subst (λ v. IsTrue (plays_best best_replies (number_of g.strategies v))) (sym same) listed_ones))

-- the text of these lines
pub IsPureEquilibriaText-listed : (g : Game) (best_replies : List Bool) (counts text : List ℕ) → counts ≡ g.strategies → AreMutualBestReplies g best_replies → text ≡ lines_text (lines_below counts best_replies (length best_replies)) → IsPureEquilibriaText g text
IsPureEquilibriaText-listed g best_replies counts text e h t =
    record { lines = lines_below g.strategies best_replies (profile_count g.strategies); are_lines = ArePureEquilibria-lines_below g best_replies h; is_text = t ∙ ap₂ (λ v w. lines_text (lines_below v best_replies w)) e h.of_each }
