-- The nodes at which a player moves.
use Rattle.std.proofs.Common.{ℕ, ◌<◌, ◌≡◌, Option, Some, None, refl, ap, ◌∙◌}
use Rattle.std.proofs.lemmas.Option.{none-some}
use Rattle.game_theory.specs.Trees.{Tree, IsTree}
use Rattle.game_theory.specs.OwnSets.{Chooses}
use Rattle.strategy_lists.specs.Made.{owner_of, mover}

-- a player who moves at a node owns its set
pub move_at : (t : Tree) (i k : ℕ) → mover t k ≡ Some i → (s : ℕ) × Chooses t k i s
move_at t i k is = go (t.set k) refl is
  where
    go : (set : Option ℕ) → t.set k ≡ set → owner_of t set ≡ Some i → (s : ℕ) × Chooses t k i s
    go None at own = absurd (none-some i own)
    go (Some s) at own = (s, record { at_set = at; own = own })

-- the owner of a node's set moves there
pub mover-move : (t : Tree) (i k s : ℕ) → Chooses t k i s → mover t k ≡ Some i
mover-move t i k s h = ap (owner_of t) h.at_set ∙ h.own

-- a player who moves at a node is one of the players
pub mover-within : (t : Tree) (i k : ℕ) → IsTree t → k < t.size → mover t k ≡ Some i → i < t.players
mover-within t i k valid below own =
    let move = move_at t i k own in
    valid.owners_within move.0 i (valid.sets_within k move.0 below move.1.at_set) move.1.own
