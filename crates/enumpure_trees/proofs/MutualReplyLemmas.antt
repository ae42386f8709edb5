-- The profiles that are passing in a reduced form's table are the equilibria of the strategic form.
use Rattle.std.proofs.Common.{ℕ, ◌<◌, ◌≡◌, ◌↔◌, Bool, IsTrue, List, length, map, sym, subst, subst₂, arith}
use Rattle.rational.specs.Rational.{ℚ, ◌≤ℚ◌}
use Rattle.game_theory.specs.Profiles.{Game, profile_count, profile_at}
use Rattle.game_theory.specs.Mixed.{pure}
use Rattle.game_theory.specs.Equilibrium.{IsEquilibrium}
use Rattle.game_theory.specs.Trees.{Tree}
use Rattle.game_theory.proofs.ProfileNumberLemmas.{number_of-profile_at, IsProfile-profile_at}
use Rattle.game_core.specs.Table.{game_of}
use Rattle.game_core.specs.Tree.{GameTree}
use Rattle.game_core.specs.TreeGame.{game_of_tree}
use Rattle.reduced_strategies.specs.StrategicForm.{strategic_form}
use Rattle.reduced_form.specs.ReducedForm.{ReducedForm, IsReducedForm}
use Rattle.enumpure.specs.Replies.{exchanged, PlaysBestReply, plays_best, AreMutualBestReplies}
use Rattle.enumpure.proofs.ExchangeLemmas.{exchanged-below}
use Rattle.enumpure.proofs.ListedProfileLemmas.{IsEquilibrium-plays_best, plays_best-equilibrium}
use Rattle.enumpure_trees.specs.TreeEquilibria.{IsFormEquilibrium}
use Rattle.enumpure_trees.proofs.FormSizeLemmas.{form-counts, form-players}

-- these profiles are the equilibria of the strategic form
abbrev pub AreEquilibria : Tree → List (List (List ℕ)) → (ℕ → Bool) → Type 0
AreEquilibria t strategies plays_best =
    (k : ℕ) → k < profile_count (map length strategies) → IsTrue (plays_best k) ↔ IsFormEquilibrium t strategies (profile_at (map length strategies) k)

-- a game with these numbers of strategies and payoffs
abbrev game : List ℕ → (ℕ → ℕ → ℚ) → Game
game ns pays = record { strategies = ns; pays = pays }

-- payoffs that are the same at all profiles
abbrev PaysSame : List ℕ → (ℕ → ℕ → ℚ) → (ℕ → ℕ → ℚ) → Type 0
PaysSame ns pays others = (i k : ℕ) → i < length ns → k < profile_count ns → pays i k ≡ others i k

-- have the same best replies
replies-same : (ns : List ℕ) (pays others : ℕ → ℕ → ℚ) (i k : ℕ) → PaysSame ns pays others → i < length ns → k < profile_count ns → PlaysBestReply (game ns pays) i k → PlaysBestReply (game ns others) i k
replies-same ns pays others i k same l m best s b =
    subst₂ (λ x y. x ≤ℚ y) (same i (exchanged ns k i s) l (exchanged-below ns k i s (record { number = m; player = l }) b)) (same i k l m) (best s b)

-- and the same passing profiles
all_best-same : (ns : List ℕ) (pays others : ℕ → ℕ → ℚ) (best_replies : List Bool) → PaysSame ns pays others → AreMutualBestReplies (game ns pays) best_replies → AreMutualBestReplies (game ns others) best_replies
all_best-same ns pays others best_replies same h = record {
  of_each = h.of_each;
  all_best = λ k l. (λ f i b. replies-same ns pays others i k same b l ((h.all_best k l).0 f i b), λ g. (h.all_best k l).1 (λ i b. replies-same ns others pays i k (λ j m c d. sym (same j m c d)) b l (g i b)));
}

-- passing profiles are the equilibria, by their numbers
all_best-equilibria : (g : Game) (best_replies : List Bool) (k : ℕ) → AreMutualBestReplies g best_replies → k < profile_count g.strategies → IsTrue (plays_best best_replies k) ↔ IsEquilibrium g (pure (profile_at g.strategies k))
all_best-equilibria g best_replies k h l =
    let is = number_of-profile_at g.strategies k l in
    let p = IsProfile-profile_at g.strategies k l in
    (λ f. IsEquilibrium-plays_best g best_replies (profile_at g.strategies k) h p (subst (λ v. IsTrue (plays_best best_replies v)) (sym is) f), λ e. subst (λ v. IsTrue (plays_best best_replies v)) is (plays_best-equilibrium g best_replies (profile_at g.strategies k) h p e))

-- the best replies of the passing profiles of a reduced form's table tell the equilibria of the strategic form
pub AreEquilibria-all_best : (t : GameTree) (form : ReducedForm) (best_replies : List Bool) → IsReducedForm t form → AreMutualBestReplies (game_of form.table) best_replies → AreEquilibria (game_of_tree t) form.choices (plays_best best_replies)
AreEquilibria-all_best t form best_replies f h =
    let ns : List ℕ = map length form.choices in
    let counted : AreMutualBestReplies (game ns (game_of form.table).pays) best_replies = subst (λ v. AreMutualBestReplies (game v (game_of form.table).pays) best_replies) (form-counts t form f) h in
    let moved : AreMutualBestReplies (strategic_form (game_of_tree t) form.choices) best_replies = all_best-same ns (game_of form.table).pays (strategic_form (game_of_tree t) form.choices).pays best_replies (λ i k b l. f.pays i k (omega (arith, form-players t form f)) l) counted in
    λ k l. all_best-equilibria (strategic_form (game_of_tree t) form.choices) best_replies k moved l
