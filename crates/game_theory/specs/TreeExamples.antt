-- Three trees worked out: one-card poker, an entry game, and a player who forgets.
use Rattle.std.specs.Prelude.{ℕ, zero, suc, ◌≡◌, ◌⊎◌, List, [], ◌∷◌, length, slice_index_or, Option, Some, None, ℤ, pos, negsuc}
use Rattle.rational.specs.Rational.{frac, whole, zero_ℚ}
use Rattle.rational.specs.Sum.{entry_at}
use Rattle.game_theory.specs.Trees.{Tree, IsTree}
use Rattle.game_theory.specs.Behaviour.{Behaviour, IsValid, payoff, pure}
use Rattle.game_theory.specs.TreeEquilibrium.{IsEquilibrium}
use Rattle.game_theory.specs.Recall.{HasPerfectRecall}

-- a row of a tree: the parent and the branch, the set, and what the outcome pays each player
pub record Row : Type 0 where
  pub parent : ℕ
  pub branch : ℕ
  pub set : Option ℕ
  pub pays : List ℤ

abbrev pub node : ℕ → ℕ → Option ℕ → List ℤ → Row
node parent branch set pays = record { parent = parent; branch = branch; set = set; pays = pays }

abbrev pub inner : ℕ → ℕ → ℕ → Row
inner parent branch set = node parent branch (Some set) []

abbrev pub end : ℕ → ℕ → List ℤ → Row
end parent branch pays = node parent branch None pays

-- the tree with these rows, where each set has two actions, which are even where chance plays
abbrev pub tree_of : ℕ → List Row → List (Option ℕ) → Tree
tree_of players rows owners = record {
  players = players;
  size = length rows;
  parent = λ k. (slice_index_or rows k (end 0 0 [])).parent;
  branch = λ k. (slice_index_or rows k (end 0 0 [])).branch;
  set = λ k. (slice_index_or rows k (end 0 0 [])).set;
  pays = λ k i. whole (slice_index_or (slice_index_or rows k (end 0 0 [])).pays i (pos 0));
  sets = length owners;
  owner = λ s. slice_index_or owners s None;
  actions = λ s. 2;
  chance = λ s a. frac (pos 1) 2;
}

-- Fred draws a red or a black card (set 0). He raises or folds on red (set 1) and on black (set 2),
-- and Alice, who does not see the card, meets or passes (set 3).
abbrev pub one_card_poker : Tree
one_card_poker = tree_of 2
    (inner 0 0 0
    ∷ inner 0 0 1 ∷ inner 1 0 3 ∷ end 2 0 (pos 2 ∷ negsuc 1 ∷ []) ∷ end 2 1 (pos 1 ∷ negsuc 0 ∷ [])
    ∷ end 1 1 (pos 1 ∷ negsuc 0 ∷ [])
    ∷ inner 0 1 2 ∷ inner 6 0 3 ∷ end 7 0 (negsuc 1 ∷ pos 2 ∷ []) ∷ end 7 1 (pos 1 ∷ negsuc 0 ∷ [])
    ∷ end 6 1 (negsuc 0 ∷ pos 1 ∷ []) ∷ [])
    (None ∷ Some 0 ∷ Some 0 ∷ Some 1 ∷ [])

-- Fred raises on red, and with probability 1/3 on black; Alice meets with probability 2/3.
abbrev pub bluffs : Behaviour
bluffs zero a = zero_ℚ
bluffs (suc zero) a = entry_at (whole (pos 1) ∷ whole (pos 0) ∷ []) a
bluffs (suc (suc zero)) a = entry_at (frac (pos 1) 3 ∷ frac (pos 2) 3 ∷ []) a
bluffs (suc (suc (suc s))) a = entry_at (frac (pos 2) 3 ∷ frac (pos 1) 3 ∷ []) a

-- poker with bluffs is worth 1/3 to Fred
pub record PokerIsWorthAThird : Type 0 where
  pub tree : IsTree one_card_poker
  pub valid : IsValid one_card_poker bluffs
  pub fred : payoff one_card_poker bluffs 0 ≡ frac (pos 1) 3
  pub alice : payoff one_card_poker bluffs 1 ≡ frac (negsuc 0) 3

-- A firm stays out (action 0) or enters (set 0), and after an entry the other fights (action 0) or
-- shares the market (set 1).
abbrev pub entry_game : Tree
entry_game = tree_of 2
    (inner 0 0 0 ∷ end 0 0 (pos 0 ∷ pos 2 ∷ []) ∷ inner 0 1 1 ∷ end 2 0 (negsuc 0 ∷ negsuc 0 ∷ [])
    ∷ end 2 1 (pos 1 ∷ pos 1 ∷ []) ∷ [])
    (Some 0 ∷ Some 1 ∷ [])

-- the action at each of the two sets
abbrev pub both : ℕ → ℕ → ℕ → ℕ
both first second zero = first
both first second (suc s) = second

-- to stay out against a fight, and to enter a market that is shared, are the equilibria of the
-- entry game in which no choice is random
pub record EntryHasTwoPureEquilibria : Type 0 where
  pub tree : IsTree entry_game
  pub stays_out : IsEquilibrium entry_game (pure (both 0 0))
  pub enters : IsEquilibrium entry_game (pure (both 1 1))
  pub no_other : (choice : ℕ → ℕ) → IsEquilibrium entry_game (pure choice)
      → ((choice 0 ≡ 0) × (choice 1 ≡ 0)) ⊎ ((choice 0 ≡ 1) × (choice 1 ≡ 1))

-- A player chooses (set 0), chance may end the game (set 2), and else the player chooses again and
-- has forgotten the first choice (set 1).
abbrev pub forgetful_game : Tree
forgetful_game = tree_of 1
    (inner 0 0 0
    ∷ inner 0 0 2 ∷ inner 1 0 1 ∷ end 2 0 (pos 1 ∷ []) ∷ end 2 1 (pos 0 ∷ []) ∷ end 1 1 (pos 0 ∷ [])
    ∷ inner 0 1 2 ∷ inner 6 0 1 ∷ end 7 0 (pos 0 ∷ []) ∷ end 7 1 (pos 2 ∷ []) ∷ end 6 1 (pos 0 ∷ [])
    ∷ [])
    (Some 0 ∷ Some 0 ∷ None ∷ [])

-- both players recall their choices in poker, and the forgetful player does not
pub record RecallInTwoGames : Type 0 where
  pub fred : HasPerfectRecall one_card_poker 0
  pub alice : HasPerfectRecall one_card_poker 1
  pub forgetful : HasPerfectRecall forgetful_game 0 → ⊥
