-- Perfect recall in one-card poker, and its failure for the player who forgets.
use Rattle.std.proofs.Common.{ℕ, zero, suc, ◌≡◌, Bool, true, false, Some, List, [], ◌∷◌, refl, sym, ap, ◌∙◌, arith}
use Rattle.std.proofs.lemmas.Bool.Decides.{Decides-eqb}
use Rattle.game_theory.specs.Trees.{Tree}
use Rattle.game_theory.specs.Behaviour.{is_index, is_own}
use Rattle.game_theory.specs.Recall.{own_history, HasPerfectRecall}
use Rattle.game_theory.specs.TreeExamples.{one_card_poker, forgetful_game, RecallInTwoGames}
use Rattle.game_theory.proofs.TreeTestLemmas.{each_below, each_below-tells, if_any, if_any-tells, implies, implies-tells}

-- whether no step comes before
abbrev is_empty : List (ℕ × ℕ) → Bool
is_empty [] = true
is_empty (x ∷ xs) = false

-- a list that passes
is_empty-tells : (xs : List (ℕ × ℕ)) → is_empty xs ≡ true → xs ≡ []
is_empty-tells [] h = refl
is_empty-tells (x ∷ xs) h = cc

-- whether a choice of player i at node k is that player's first
abbrev is_first : Tree → ℕ → ℕ → Bool
is_first t i k = if_any (t.set k) (λ s. implies (is_own t i s) (is_empty (own_history t i k)))

-- an own set, from its owner
own-passes : (t : Tree) (i s : ℕ) → t.owner s ≡ Some i → is_own t i s ≡ true
own-passes t i s e = ap (λ o. is_index o i) e ∙ (Decides-eqb i i).1 refl

-- a first choice has no own history
first-tells : (t : Tree) (i s k : ℕ) → is_first t i k ≡ true → t.owner s ≡ Some i → t.set k ≡ Some s → own_history t i k ≡ []
first-tells t i s k h o e =
    is_empty-tells (own_history t i k) (implies-tells (is_own t i s) _ (if_any-tells (t.set k) (λ s. implies (is_own t i s) (is_empty (own_history t i k))) s h e) (own-passes t i s o))

-- who chooses only once on each path recalls all
recall_of_first : (t : Tree) (i : ℕ) → each_below (is_first t i) t.size ≡ true → HasPerfectRecall t i
recall_of_first t i h s o k l p q e f =
    first-tells t i s k (each_below-tells (is_first t i) t.size h k p) o e ∙ sym (first-tells t i s l (each_below-tells (is_first t i) t.size h l q) o f)

-- the action of the first step
abbrev first_action : List (ℕ × ℕ) → ℕ
first_action [] = 0
first_action (x ∷ xs) = x.1

-- nodes 2 and 7 share a set, but action 0 leads to the one and action 1 to the other
forgets : HasPerfectRecall forgetful_game 0 → ⊥
forgets h =
    let same : zero ≡ suc zero = ap first_action (h 1 refl 2 7 (omega arith) (omega arith) refl refl) in
    cc

-- the law of the two games
pub recall-in_two_games : RecallInTwoGames
recall-in_two_games = record { fred = recall_of_first one_card_poker 0 refl; alice = recall_of_first one_card_poker 1 refl; forgetful = forgets }
