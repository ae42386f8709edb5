-- What the lines of a tree's pure equilibria are made from.
use Rattle.std.specs.Prelude.{ℕ, ◌≡◌, Bool, List, length, map}
use Rattle.game_theory.specs.Profiles.{profile_count}
use Rattle.game_theory.specs.Lines.{lines_text}
use Rattle.game_core.specs.Tree.{GameTree}
use Rattle.game_core.specs.TreeGame.{game_of_tree}
use Rattle.reduced_form.specs.ReducedForm.{ReducedForm, IsReducedForm}
use Rattle.enumpure.specs.Replies.{plays_best}
use Rattle.enumpure_trees.specs.Orders.{AreOrders}
use Rattle.enumpure_trees.specs.Ranks.{lines_below}

-- a tree, its reduced form, the order of each player's strategies, and whether each profile is an
-- equilibrium
pub record Listing : Type 0 where
  pub tree : GameTree
  pub reduced : ReducedForm
  pub orders : List (List ℕ)
  pub all_best : List Bool

-- the listing with these parts
abbrev pub listing : GameTree → ReducedForm → List (List ℕ) → List Bool → Listing
listing tree reduced orders all_best =
    record { tree = tree; reduced = reduced; orders = orders; all_best = all_best }

-- all parts are of one tree
pub record IsListing (l : Listing) : Type 0 where
  pub form : IsReducedForm l.tree l.reduced
  pub orders : AreOrders l.reduced.choices l.orders
  pub best_replies : length l.all_best ≡ profile_count (map length l.reduced.choices)

-- the lines of the equilibria
abbrev pub listed_text : Listing → List ℕ
listed_text l =
    lines_text
    (lines_below (game_of_tree l.tree) l.reduced.choices l.orders (plays_best l.all_best)
    (length l.all_best))
