-- The lines of profiles of best replies, by rank, are those of the equilibria.
use Rattle.std.proofs.Common.{ℕ, ◌<◌, ◌≡◌, ◌↔◌, Bool, IsTrue, List, length, map, Contains, refl, sym, ap, ◌∙◌, subst, arith}
use Rattle.game_theory.specs.Profiles.{profile_count, IsProfile, number_of, strategies_at}
use Rattle.game_theory.specs.Lines.{StandsBefore}
use Rattle.game_theory.proofs.ProfileNumberLemmas.{number_of-below, profile_at-number_of}
use Rattle.game_theory.specs.Trees.{Tree, IsTree}
use Rattle.reduced_strategies.specs.StrategicForm.{AreStrategies}
use Rattle.reduced_strategies.proofs.TreeEquilibriaLemmas.{equilibria-same}
use Rattle.enumpure_trees.specs.Orders.{AreOrders}
use Rattle.game_theory.specs.Ranks.{ranked}
use Rattle.enumpure_trees.specs.Ranks.{ranked_profile, ranked_plays_best, rank_line, lines_below}
use Rattle.enumpure.proofs.ListedLineLemmas.{listed_below-all, listed_below-has, listed_below-in_order}
use Rattle.enumpure_trees.proofs.MutualReplyLemmas.{AreEquilibria}
use Rattle.enumpure_trees.specs.TreeEquilibria.{profile_line, IsFormEquilibrium, IsTreeEquilibriumLine, AreTreeEquilibria}
use Rattle.enumpure_trees.proofs.OrderedLineLemmas.{ordered-before}
use Rattle.enumpure_trees.proofs.OrderedProfileLemmas.{IsProfile-ordered, profile-has_places}
use Rattle.game_theory.proofs.RankLemmas.{IsProfile-ranked, ComesBefore-ranked, rank_of, rank_of-below, ranked-rank_of}

-- The best replies tell the equilibria of a tree with orders of its players' strategies.
module _ (t : Tree) (strategies : List (List (List ℕ))) (orders : List (List ℕ)) (plays_best : ℕ → Bool) (w : IsTree t) (a : AreStrategies t strategies) (h : AreOrders strategies orders) (tells : AreEquilibria t strategies plays_best) where
  -- the entry at a profile's number tells whether it is an equilibrium
  plays_best-profile : (profile : List ℕ) → IsProfile (map length strategies) profile → IsTrue (plays_best (number_of (map length strategies) profile)) ↔ IsFormEquilibrium t strategies profile
  plays_best-profile profile f =
      subst (λ x. IsTrue (plays_best (number_of (map length strategies) profile)) ↔ IsFormEquilibrium t strategies x) (profile_at-number_of (map length strategies) profile f) (tells (number_of (map length strategies) profile) (number_of-below (map length strategies) profile f))

  -- the profile with a rank is a profile
  ranked-profile : (r : ℕ) → r < profile_count (map length strategies) → IsProfile (map length strategies) (ranked_profile strategies orders r)
  ranked-profile r l = IsProfile-ordered strategies orders (ranked (map length strategies) r) h (IsProfile-ranked (map length strategies) r l)

  -- each profile has a rank
  profile-has_rank : (profile : List ℕ) → IsProfile (map length strategies) profile → (r : ℕ) × (r < profile_count (map length strategies)) × (ranked_profile strategies orders r ≡ profile)
  profile-has_rank profile f =
      let p = profile-has_places strategies orders profile h f in
      (rank_of (map length strategies) p.places, rank_of-below (map length strategies) p.places p.are_places, ap (strategies_at orders) (ranked-rank_of (map length strategies) p.places p.are_places) ∙ p.is_profile)

  -- lines stand in the order of ranks
  rank_line-before : (q r : ℕ) → q < r → r < profile_count (map length strategies) → StandsBefore (rank_line t strategies orders q) (rank_line t strategies orders r)
  rank_line-before q r l b =
      ordered-before t strategies orders w a h (ranked (map length strategies) q) (ranked (map length strategies) r) (IsProfile-ranked (map length strategies) q (omega arith)) (IsProfile-ranked (map length strategies) r b) (ComesBefore-ranked (map length strategies) q r l b)

  -- a listed line is that of an equilibrium
  rank_line-sound : (r : ℕ) → r < profile_count (map length strategies) → IsTrue (ranked_plays_best strategies orders plays_best r) → IsTreeEquilibriumLine t strategies (rank_line t strategies orders r)
  rank_line-sound r l f =
      let is_profile = ranked-profile r l in
      let is_equilibrium = (plays_best-profile (ranked_profile strategies orders r) is_profile).0 f in
      record {
        profile = ranked_profile strategies orders r;
        is_profile = is_profile;
        is_equilibrium = is_equilibrium;
        no_better_reply = (equilibria-same t strategies (ranked_profile strategies orders r) w a is_profile).0 is_equilibrium;
        is_line = refl;
      }

  -- an equilibrium has its line
  lines_below-has : (profile : List ℕ) → IsProfile (map length strategies) profile → IsFormEquilibrium t strategies profile → Contains (lines_below t strategies orders plays_best (profile_count (map length strategies))) (profile_line t strategies profile)
  lines_below-has profile f e =
      let rank = profile-has_rank profile f in
      let listed_ones = subst (λ x. IsTrue (plays_best (number_of (map length strategies) x))) (sym rank.2) ((plays_best-profile profile f).1 e) in
      subst (λ x. Contains (lines_below t strategies orders plays_best (profile_count (map length strategies))) (profile_line t strategies x)) rank.2 (listed_below-has (rank_line t strategies orders) (ranked_plays_best strategies orders plays_best) (profile_count (map length strategies)) rank.0 rank.1 listed_ones)

  -- the lines of all profiles of best replies are those of the equilibria
  pub AreTreeEquilibria-lines_below : AreTreeEquilibria t strategies (lines_below t strategies orders plays_best (profile_count (map length strategies)))
  AreTreeEquilibria-lines_below =
      record {
        in_order = listed_below-in_order (rank_line t strategies orders) (ranked_plays_best strategies orders plays_best) (profile_count (map length strategies)) rank_line-before;
        sound = listed_below-all (rank_line t strategies orders) (ranked_plays_best strategies orders plays_best) (IsTreeEquilibriumLine t strategies) (profile_count (map length strategies)) rank_line-sound;
        complete = lines_below-has;
      }
