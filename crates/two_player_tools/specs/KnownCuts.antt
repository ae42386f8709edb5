-- What is kept while cuts are solved one after another.
use Rattle.std.specs.Prelude.{ℕ, ◌<◌, ◌≡◌, ◌*◌, List, [], length, map, slice_index, slice_index_or, Some}
use Rattle.rational.specs.Rational.{ℚ}
use Rattle.rational.specs.Sum.{entry_at}
use Rattle.game_theory.specs.Behaviour.{Behaviour}
use Rattle.game_core.specs.Tree.{GameTree}
use Rattle.game_core.specs.TreeGame.{game_of_tree}
use Rattle.behaviour_profile.specs.ListedBehaviour.{HasProbabilities, listed_behaviour}
use Rattle.subgames.specs.MadeCuts.{MadeCut, worth_at}
use Rattle.two_player_tools.specs.Perfect.{AreCutsSolvedFrom}
use Rattle.two_player_tools.specs.declared.forms.Method.{Method}
use Rattle.two_player_tools.specs.declared.perfect.Known.{Known}

-- the probabilities at each set of the tree
abbrev pub lists_of : Known → List (List ℚ)
lists_of known = map (λ v. v.items) known.lists.items

-- the behaviour that is known
abbrev pub behaviour_in : Known → Behaviour
behaviour_in known = listed_behaviour (lists_of known)

-- what nodes are worth to the players, as far as it is known
abbrev pub worth_in : GameTree → Known → ℕ → ℕ → ℚ
worth_in t known = worth_at (length t.players) known.worth.items

-- there is a number for each player at each node, and for each action at each set
pub record IsRoomFor (t : GameTree) (known : Known) : Type 0 where
  pub worth : length known.worth.items ≡ length t.nodes * length t.players
  pub lists : HasProbabilities (game_of_tree t) (lists_of known)

-- the cuts at the nodes from node n on where subgames begin are solved
pub record AreSolvedFrom (method : Method) (t : GameTree) (n : ℕ) (known : Known) : Type 0 where
  pub room : IsRoomFor t known
  pub solved : AreCutsSolvedFrom method t (worth_in t known) (behaviour_in known) n

-- At the players' sets below number n of a cut the probabilities are those of behaviour `found`
-- there, and at all other sets they are as before.
pub record AreKeptTo (cut : MadeCut) (n : ℕ) (found : Behaviour) (old new : List (List ℚ))
    : Type 0 where
  pub as_many : length new ≡ length old
  pub as_long : (s : ℕ) → length (slice_index_or new s []) ≡ length (slice_index_or old s [])
  pub kept : (r i a : ℕ) → r < n → (game_of_tree cut.tree).owner r ≡ Some i
      → a < (game_of_tree cut.tree).actions r
      → entry_at (slice_index_or new (slice_index cut.sets r) []) a ≡ found r a
  pub others : (s : ℕ)
      → ((r i : ℕ) → r < n → (game_of_tree cut.tree).owner r ≡ Some i
      → ¬ (slice_index cut.sets r ≡ s))
      → slice_index_or new s [] ≡ slice_index_or old s []
