-- The columns of the games at nodes, and how many strategies those who choose have.
use Rattle.std.proofs.Common.{ℕ, ◌+◌, ◌*◌, ◌<◌, ◌≤◌, ◌≡◌, ◌∙◌, Bool, true, false, List, All, length, get_or, refl, sym, ap, ap₂, subst, subst₂, arith}
use Rattle.std.specs.List.{range_with_len}
use Rattle.std.specs.Prelude.{slice_index, unwrap_or}
use Rattle.std.proofs.lemmas.List.{get_or-map, length-map}
use Rattle.std.proofs.lemmas.List.Elements.{All-map}
use Rattle.std.proofs.lemmas.List.FromFn.{get_or-range_with_len, length-range_with_len}
use Rattle.std.proofs.Math.Nat.{mul-le-mul_left}
use Rattle.rational.specs.Sum.{entry_at}
use Rattle.enumpure.specs.Replies.{column_index}
use Rattle.game_core.specs.Table.{most_payoffs}
use Rattle.game_core.proofs.StrideLemmas.{HaveStrategies, stride-positive, stride_next-at_most}
use Rattle.game_theory.specs.Behaviour.{pure, value}
use Rattle.game_theory.specs.OwnSets.{action_counts, own_counts, own_sets, player_sets}
use Rattle.game_theory.specs.Profiles.{Game, profile_count, stride}
use Rattle.game_theory.specs.Trees.{Tree, IsTree}
use Rattle.game_theory.proofs.OwnSetLemmas.{among_at, own_sets-tell}
use Rattle.game_theory.proofs.ProfileCountLemmas.{profile_count-positive}
use Rattle.enumpure_trees.specs.Choices.{numbered_choice, whole_choices}
use Rattle.enumpure_trees.specs.Games.{AreColumnsOf, HasColumns, choosers, column_at, strategy_count, strategy_counts}
use Rattle.enumpure_trees.specs.Values.{choice_values, value_count}
use Rattle.enumpure_trees.specs.declared.passing.Columns.{Columns}
use Rattle.enumpure_trees.proofs.JoinedChoiceLemmas.{joined-count}
use Rattle.game_theory.proofs.PlayerSetLemmas.{player_sets-tell, player_sets-within}
use Rattle.enumpure_trees.proofs.ValueIndexLemmas.{index-inside, value-there}

-- ---- the games
-- the game at node k: a profile is a choice, by its number
abbrev pub game_at : (agents : Bool) → Tree → ℕ → Game
game_at agents t k = record {
  strategies = strategy_counts agents t;
  pays = λ j n. value t (pure (numbered_choice t n)) (slice_index (choosers agents t) j) k;
}

-- ---- how many strategies
module _ (t : Tree) (w : IsTree t) where
  -- each own set has an action
  pub own_counts-positive : (i : ℕ) → All (λ n. 0 < n) (own_counts t i)
  own_counts-positive i = All-map (λ n. 0 < n) t.actions (own_sets t i) (λ k d below. w.some_action (get_or (own_sets t i) k d) (own_sets-tell t i (get_or (own_sets t i) k d) (among_at (own_sets t i) k d below)).0)

  -- so all who choose have a strategy
  pub strategy_counts-positive : (agents : Bool) → All (λ n. 0 < n) (strategy_counts agents t)
  strategy_counts-positive true = All-map (λ n. 0 < n) t.actions (player_sets t) (λ k d below. w.some_action (get_or (player_sets t) k d) (player_sets-within t k d below))
  strategy_counts-positive false = All-map (λ n. 0 < n) (strategy_count t) (range_with_len 0 t.players) (λ k d below. profile_count-positive (own_counts t (get_or (range_with_len 0 t.players) k d)) (own_counts-positive (get_or (range_with_len 0 t.players) k d)))

  -- their profiles are the choices
  pub strategy_counts-profiles : (agents : Bool) → whole_choices t ≡ profile_count (strategy_counts agents t)
  strategy_counts-profiles true = refl
  strategy_counts-profiles false = joined-count t (range_with_len 0 t.players)

  -- there is a choice
  pub some_choice : 0 < whole_choices t
  some_choice = profile_count-positive (action_counts t) (strategy_counts-positive true)

  -- no player has more choices than there are
  pub strategy_count-at_most : (i : ℕ) → i < t.players → strategy_count t i ≤ whole_choices t
  strategy_count-at_most i player =
      let ns = strategy_counts false t in
      let all : HaveStrategies ns = record { some = λ j l. strategy_counts-positive false j 0 l } in
      let long = length-range_with_len 0 t.players in
      let inside : i < length ns = omega (arith, player, long, length-map (range_with_len 0 t.players) (strategy_count t)) in
      let at : get_or ns i 0 ≡ strategy_count t i = get_or-map (strategy_count t) (range_with_len 0 t.players) i 0 0 (omega (arith, player, long)) ∙ ap (strategy_count t) (get_or-range_with_len 0 t.players i 0 player ∙ omega arith) in
      let once : get_or ns i 0 * 1 ≤ get_or ns i 0 * stride ns i = mul-le-mul_left (get_or ns i 0) (omega (arith, stride-positive ns i all)) in
      omega (arith, at, once, stride_next-at_most ns i inside all, strategy_counts-profiles false)

  -- ---- those who choose
  -- each compares a player's values
  pub choosers-within : (agents : Bool) → All (λ i. i < t.players) (choosers agents t)
  choosers-within true = All-map (λ i. i < t.players) (λ s. unwrap_or (t.owner s) 0) (player_sets t) (λ k d below.
      let s = get_or (player_sets t) k d in
      let is = player_sets-tell t s (among_at (player_sets t) k d below) in
      subst (λ o. unwrap_or o 0 < t.players) (sym is.2) (w.owners_within s is.0 is.1 is.2))
  choosers-within false = λ k d below.
      let player : k < t.players = omega (arith, below, length-range_with_len 0 t.players) in
      omega (arith, player, get_or-range_with_len 0 t.players k d player)

  -- there are as many as counts of strategies
  pub choosers-counted : (agents : Bool) → length (choosers agents t) ≡ length (strategy_counts agents t)
  choosers-counted true = length-map (player_sets t) (λ s. unwrap_or (t.owner s) 0) ∙ sym (length-map (player_sets t) t.actions)
  choosers-counted false = sym (length-map (range_with_len 0 t.players) (strategy_count t))

-- ---- columns
-- the columns of one who chooses, where the stride and the number of profiles are known by other names
pub columns-of : (games : ℕ → Game) (who strategies : List ℕ) (columns : Columns) (profiles long apart j : ℕ) → AreColumnsOf games who strategies columns profiles → j < length who → long ≡ profiles → apart ≡ stride strategies j
    → HasColumns games j columns (get_or who j 0) long apart (get_or strategies j 0)
columns-of games who strategies columns profiles long apart j h below same is =
    subst₂ (λ p d. HasColumns games j columns (get_or who j 0) p d (get_or strategies j 0)) (sym same) (sym is) (h.has_columns j below)

-- the choices' values have the columns of the games at the nodes
module _ (agents : Bool) (t : Tree) (w : IsTree t) (nodes : List ℕ) (columns : Columns) (numbers : columns.numbers.now ≡ choice_values t nodes) (are_nodes : columns.nodes ≡ length nodes) (are_players : columns.players ≡ t.players) where
  index : (p i n : ℕ) → column_index (column_at columns p i) n ≡ n * (length nodes * t.players) + (p * t.players + i)
  index p i n = ap₂ (λ m k. p * k + i + m * k * n) are_nodes are_players ∙ omega arith

  pub AreColumnsOf-values : AreColumnsOf (λ p. game_at agents t (get_or nodes p 0)) (choosers agents t) (strategy_counts agents t) columns (whole_choices t)
  AreColumnsOf-values = record {
    of_each = strategy_counts-profiles t w agents;
    one_for_each = choosers-counted t w agents;
    some_strategy = strategy_counts-positive t w agents;
    players = subst (λ n. All (λ i. i < n) (choosers agents t)) (sym are_players) (choosers-within t w agents);
    strategies_are = λ p node. refl;
    has_columns = λ j below p inside.
        let i = get_or (choosers agents t) j 0 in
        let player = choosers-within t w agents j 0 below in
        let node : p < length nodes = omega (arith, inside, are_nodes) in
        record {
          player = omega (arith, below, choosers-counted t w agents);
          of_each = strategy_counts-profiles t w agents;
          apart_is = refl;
          strategies_is = refl;
          long_enough = λ n choice. omega (arith, index p i n, index-inside t nodes n p i choice node player, ap length numbers);
          pays = λ n choice. ap (λ xs. entry_at xs (column_index (column_at columns p i) n)) numbers ∙ ap (entry_at (choice_values t nodes)) (index p i n) ∙ value-there t nodes n p i choice node player;
        };
  }

-- the same where lists and the number of profiles are known by other names
pub AreColumnsOf-read : (agents : Bool) (t : Tree) (nodes : List ℕ) (columns : Columns) (who strategies : List ℕ) (profiles : ℕ) → IsTree t → columns.numbers.now ≡ choice_values t nodes → columns.nodes ≡ length nodes → columns.players ≡ t.players
    → who ≡ choosers agents t → strategies ≡ strategy_counts agents t → profiles ≡ whole_choices t
    → AreColumnsOf (λ p. game_at agents t (get_or nodes p 0)) who strategies columns profiles
AreColumnsOf-read agents t nodes columns who strategies profiles w numbers are_nodes are_players is_who are_strategies count =
    rw (is_who, are_strategies, count) (AreColumnsOf-values agents t w nodes columns numbers are_nodes are_players)

-- few values are values of few nodes and players
pub few_at_nodes : (t : Tree) (nodes : List ℕ) (players : ℕ) → IsTree t → value_count t nodes ≤ most_payoffs → players ≡ t.players → length nodes * players ≤ most_payoffs
few_at_nodes t nodes players w few is =
    let one : length nodes * t.players * 1 ≤ length nodes * t.players * whole_choices t = mul-le-mul_left (length nodes * t.players) (omega (arith, some_choice t w)) in
    omega (arith, one, few, ap (λ n. length nodes * n) is)
