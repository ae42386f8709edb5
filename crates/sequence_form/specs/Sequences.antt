-- The sequences of a player of a tree by the numbers of the sets, and the player's side as data.
-- Source: von Stengel 1996.
use Rattle.std.specs.Prelude.{ℕ, suc, if◌then◌else◌, List, length, map, ◌≡◌, ◌∷◌, [], Some}
use Rattle.std.specs.List.{range_with_len}
use Rattle.game_theory.specs.Trees.{Tree}
use Rattle.game_theory.specs.Behaviour.{is_own}
use Rattle.game_theory.specs.OwnSets.{own_sets, numbers_with}
use Rattle.sequence_forms.specs.Sequences.{sequence, sequence_before, side_of}
use Rattle.sequence_forms.specs.Sides.{first, sequences}
use Rattle.sequence_data.specs.Data.{SideData}
use Rattle.sequence_data.specs.declared.types.SetRow.{SetRow}

-- ---- the numbering
-- the sequence that comes next after those of player i's own sets below n
abbrev pub next_sequence : Tree → ℕ → ℕ → ℕ
next_sequence t i n = first (side_of t i) (length (numbers_with t.owner i n))

-- how many sequences of player i end at set s
abbrev pub sequence_count_of : Tree → ℕ → ℕ → ℕ
sequence_count_of t i s = if is_own t i s then t.actions s else 0

-- for each set, and after the last one, the sequence that comes next
abbrev pub AreFirsts : Tree → ℕ → List ℕ → Type 0
AreFirsts t i firsts = firsts ≡ map (next_sequence t i) (range_with_len 0 (suc t.sets))

-- ---- a side as data
-- player i's own set s: the sequence before it, that of its first action, and how many actions it
-- has
abbrev pub own_set_row : Tree → ℕ → ℕ → SetRow
own_set_row t i s =
    record {
      before = sequence_before t i s;
      first = sequence t i (Some (s, 0));
      count = t.actions s;
    }

-- player i's sequences and own sets
abbrev pub tree_side : Tree → ℕ → SideData
tree_side t i =
    record { sequences = sequences (side_of t i); sets = map (own_set_row t i) (own_sets t i) }

-- one set, at the start, with n actions
abbrev pub start_side : ℕ → SideData
start_side n = record { sequences = suc n; sets = record { before = 0; first = 1; count = n } ∷ [] }
