-- The sizes of a tree's reduced form and their limits, and the steps of its cells.
use Rattle.std.specs.Prelude.{ℕ, ◌*◌, List, length, map}
use Rattle.std.specs.List.{enumerate_from, range_with_len, sum_by}
use Rattle.lists.specs.Products.{cartesian_product}
use Rattle.game_theory.specs.OwnSets.{own_sets}
use Rattle.game_theory.specs.Profiles.{profile_count, profile_at}
use Rattle.game_theory.specs.Trees.{Tree}
use Rattle.reduced_strategies.specs.StrategicForm.{completed}
use Rattle.frac128.specs.Steps.{Step}
use Rattle.pure_payoffs.specs.Steps.{payoff_steps}

-- the most choices that a reduced form may have
abbrev pub most_choices : ℕ
most_choices = 67108864

-- how many payoffs the form over these strategies has: one for each profile and player
abbrev pub payoff_count : Tree → List (List (List ℕ)) → ℕ
payoff_count t strategies = t.players * profile_count (map length strategies)

-- how many choices these numbers of strategies give: strategies times own sets, added over the
-- players
abbrev pub choices_of : Tree → List ℕ → ℕ
choices_of t counts = sum_by (λ p. p.1 * length (own_sets t p.0)) (enumerate_from 0 counts)

-- how many choices the form over these strategies has
abbrev pub choice_count : Tree → List (List (List ℕ)) → ℕ
choice_count t strategies = choices_of t (map length strategies)

-- the index of a cell: a profile and a player
abbrev pub CellIndex : Type 0
CellIndex = ℕ × ℕ

-- the cells of the form over these strategies: profiles in order, and in each the players
abbrev pub cells : Tree → List (List (List ℕ)) → List CellIndex
cells t strategies =
    cartesian_product (range_with_len 0 (profile_count (map length strategies)))
    (range_with_len 0 t.players)

-- the steps of player i's payoff at the profile with number k
abbrev pub cell_steps : Tree → List (List (List ℕ)) → ℕ → ℕ → List Step
cell_steps t strategies k i =
    payoff_steps t (completed t strategies (profile_at (map length strategies) k)) i
