-- The lists of the players' own sets that a tree keeps.
use Rattle.std.specs.Prelude.{ℕ, ◌<◌, ◌≡◌, List, length, slice_get, Some}
use Rattle.game_theory.specs.OwnSets.{places_with}
use Rattle.game_core.specs.Tree.{InformationSet}

-- the numbers of the sets that player i owns, in order
abbrev pub numbers_owned : List InformationSet → ℕ → List ℕ
numbers_owned sets i = places_with (λ set. set.owner) sets i

-- list i has the numbers of player i's own sets in order
pub record AreOwnLists (sets : List InformationSet) (players : ℕ)
    (lists : List (List ℕ)) : Type 0 where
  pub one_for_each : length lists ≡ players
  pub are_own : (i : ℕ) → i < length lists → slice_get lists i ≡ Some (numbers_owned sets i)
