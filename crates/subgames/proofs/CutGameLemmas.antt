-- The cut that is made is the cut as a game.
use Rattle.std.proofs.Common.{ℕ, ◌+◌, ◌*◌, ◌<◌, ◌≡◌, Bool, true, false, cond, Option, Some, None, List, [], ◌∷◌, length, map, get_or, replicate, refl, sym, ap, ◌∙◌, subst, arith}
use Rattle.std.specs.Prelude.{◌==◌, unwrap_or}
use Rattle.std.specs.List.{range_with_len}
use Rattle.std.proofs.lemmas.Bool.{false_from_ne_true}
use Rattle.std.proofs.lemmas.List.{get_or-map, length-map, length-replicate}
use Rattle.std.proofs.lemmas.List.FromFn.{get_or-map-range_with_len, length-map-range_with_len}
use Rattle.std.proofs.lemmas.Option.{get_or_from_slice_get, none-some, same_Some, slice_get_within}
use Rattle.lists.proofs.NumberLemmas.{unequal}
use Rattle.rational.specs.Rational.{ℚ, zero_ℚ}
use Rattle.rational.specs.Sum.{entry_at}
use Rattle.game_theory.specs.Trees.{IsTree}
use Rattle.game_core.specs.declared.tree.Action.{Action}
use Rattle.game_core.specs.declared.tree.Node.{Node}
use Rattle.game_core.specs.Tree.{GameTree, InformationSet, TreeOutcome, label_of, probability_at}
use Rattle.game_core.specs.TreeGame.{game_of_tree, outcome_pays}
use Rattle.subgames.specs.CutGames.{IsCutGame, IsSameNode, IsSameSet}
use Rattle.subgames.specs.CutParts.{AreSetNames, actions_of, cut_information_set, cut_node, cut_outcome, cut_pays, cut_set, is_given_end, without_name}
use Rattle.subgames.specs.FoundSubgames.{AreRootMarks}
use Rattle.subgames.proofs.CutHangLemmas.{made-at, named, node-cut, parent-index, same-count}
use Rattle.subgames.proofs.CutWalkLemmas.{AreCutNodes, is_given_end-is}

-- ---- options and lists
-- where a node has no set, it names none
no-set : (sets : List ℕ) (key name : Option ℕ) → key ≡ None → IsSameSet sets key name → name ≡ None
no-set sets None None is h = refl
no-set sets None (Some r) is h = absurd h
no-set sets (Some s) name is h = cc

-- where it names a set, it has that set
pub some-set : (sets : List ℕ) (r : ℕ) (key name : Option ℕ) → name ≡ Some r → IsSameSet sets key name → (s : ℕ) × (key ≡ Some s) × (r < length sets) × (get_or sets r 0 ≡ s)
some-set sets r None None is h = absurd (none-some r is)
some-set sets r (Some s) None is h = absurd h
some-set sets r None (Some q) is h = absurd h
some-set sets r (Some s) (Some q) is h = let same = same_Some q r is in (s, refl, subst (λ q. q < length sets) same h.0, ap (λ q. get_or sets q 0) (sym same) ∙ h.1)

-- a set that a test leaves
set-left : (b : Bool) (set : Option ℕ) (s : ℕ) → cond b None set ≡ Some s → set ≡ Some s
set-left true set s is = absurd (none-some s is)
set-left false set s is = is

-- names do not change probabilities
pub same-probabilities : (actions : List Action) → map (λ action. action.prob) (map without_name actions) ≡ map (λ action. action.prob) actions
same-probabilities [] = refl
same-probabilities (action ∷ actions) = ap (λ xs. action.prob ∷ xs) (same-probabilities actions)

-- ---- the cut
module _ (t : GameTree) (w : IsTree (game_of_tree t)) (begins : List Bool) (n : ℕ) (nodes : List ℕ) (indices : List (Option ℕ))
    (marks : AreRootMarks (game_of_tree t) begins) (root_within : n < length t.nodes) (are_nodes : AreCutNodes (game_of_tree t) n nodes indices)
    (sets : List ℕ) (names : List (Option ℕ)) (are_sets : AreSetNames (map (cut_set (game_of_tree t) begins n) nodes) names sets) (worth : List ℚ) where
  -- the tree that is made
  abbrev pub made_cut : GameTree
  made_cut = record {
    title = [];
    players = replicate (length t.players) [];
    nodes = map (cut_node (game_of_tree t) nodes indices sets names) (range_with_len 0 (length nodes));
    sets = map (cut_information_set t sets names) (range_with_len 0 (length sets));
    outcomes = map (cut_outcome (game_of_tree t) begins n worth) nodes;
  }

  abbrev make : ℕ → Node
  make = cut_node (game_of_tree t) nodes indices sets names

  abbrev make_set : ℕ → InformationSet
  make_set = cut_information_set t sets names

  node_count : length made_cut.nodes ≡ length nodes
  node_count = length-map-range_with_len make 0 (length nodes)

  set_count : length made_cut.sets ≡ length sets
  set_count = length-map-range_with_len make_set 0 (length sets)

  set_is : (j : ℕ) → j < length nodes → (game_of_tree made_cut).set j ≡ get_or names j None
  set_is j below = made-at (λ node. node.set) make (length nodes) j None below

  parent_is : (j : ℕ) → 0 < j → j < length nodes → get_or nodes ((game_of_tree made_cut).parent j) 0 ≡ (game_of_tree t).parent (get_or nodes j 0)
  parent_is j later below =
      let p = (game_of_tree t).parent (get_or nodes j 0) in
      let up = parent-index t w begins n nodes indices marks root_within are_nodes j later below in
      let other : (j == 0) ≡ false = unequal j 0 (λ e. absurd (omega (arith, e))) in
      let here : (game_of_tree made_cut).parent j ≡ up.0 =
      ap (λ o. unwrap_or o 0) (made-at (λ node. node.parent) make (length nodes) j None below ∙ ap (λ b. cond b None (get_or indices p None)) other ∙ up.1) in
      ap (λ i. get_or nodes i 0) here ∙ up.3

  branch_is : (j : ℕ) → 0 < j → j < length nodes → (game_of_tree made_cut).branch j ≡ (game_of_tree t).branch (get_or nodes j 0)
  branch_is j later below =
      let other : (j == 0) ≡ false = unequal j 0 (λ e. absurd (omega (arith, e))) in
      made-at (λ node. node.branch) make (length nodes) j 0 below ∙ ap (λ b. cond b 0 ((game_of_tree t).branch (get_or nodes j 0))) other

  pays_is : (j i : ℕ) → j < length nodes → i < length t.players → (game_of_tree made_cut).pays j i ≡ cut_pays (game_of_tree t) begins n worth (get_or nodes j 0) i
  pays_is j i below player =
      let outcome = cut_outcome (game_of_tree t) begins n worth in
      let named : get_or (map (λ node. node.outcome) made_cut.nodes) j None ≡ Some j = made-at (λ node. node.outcome) make (length nodes) j None below in
      let listed : j < length (map outcome nodes) = rw length-map below in
      let payoffs : get_or (map (λ outcome. outcome.payoffs) made_cut.outcomes) j [] ≡ map (cut_pays (game_of_tree t) begins n worth (get_or nodes j 0)) (range_with_len 0 (length t.players)) =
      get_or-map (λ (outcome : TreeOutcome). outcome.payoffs) made_cut.outcomes j (outcome 0) [] listed ∙ ap (λ (outcome : TreeOutcome). outcome.payoffs) (get_or-map outcome nodes j 0 (outcome 0) below) in
      ap (λ o. outcome_pays made_cut.outcomes o i) named ∙ ap (λ payoffs. entry_at payoffs i) payoffs
      ∙ get_or-map-range_with_len (cut_pays (game_of_tree t) begins n worth (get_or nodes j 0)) 0 (length t.players) i i zero_ℚ player (omega arith)

  node_is : (j : ℕ) → j < length nodes → IsSameNode (game_of_tree t) n (λ k i. entry_at worth (k * length t.players + i)) sets (game_of_tree made_cut) j (get_or nodes j 0)
  node_is j below =
      let k = get_or nodes j 0 in
      let inside : k < length t.nodes = (node-cut t w begins n nodes indices marks root_within are_nodes j below).0 in
      let tells = is_given_end-is (game_of_tree t) begins n k marks inside in
      let same = named t w begins n nodes indices marks root_within are_nodes sets names are_sets j below in
      record {
        given = λ end.
            let is : is_given_end begins n k ≡ true = tells.1 end in (
              set_is j below ∙ no-set sets _ _ (ap (λ b. cond b None ((game_of_tree t).set k)) is) same,
              λ i player. pays_is j i below player ∙ ap (λ b. cond b (entry_at worth (k * length t.players + i)) ((game_of_tree t).pays k i)) is,
            );
        own = λ other.
            let is : is_given_end begins n k ≡ false = false_from_ne_true (is_given_end begins n k) (λ e. other (tells.0 e)) in (
              subst (IsSameSet sets ((game_of_tree t).set k)) (sym (set_is j below)) (subst (λ key. IsSameSet sets key (get_or names j None)) (ap (λ b. cond b None ((game_of_tree t).set k)) is) same),
              λ i player. pays_is j i below player ∙ ap (λ b. cond b (entry_at worth (k * length t.players + i)) ((game_of_tree t).pays k i)) is,
            );
      }

  -- each set of the cut is one of the tree
  pub set_within : (r : ℕ) → r < length sets → get_or sets r 0 < length t.sets
  set_within r below =
      let first = are_sets.used r below in
      let listed : first.0 < length nodes = omega (arith, slice_get_within names first.0 (Some r) first.1, are_sets.one_for_each, key_count) in
      let k = get_or nodes first.0 0 in
      let named_here = some-set sets r _ _ (get_or_from_slice_get names first.0 (Some r) None first.1) (named t w begins n nodes indices marks root_within are_nodes sets names are_sets first.0 listed) in
      let inside : k < length t.nodes = (node-cut t w begins n nodes indices marks root_within are_nodes first.0 listed).0 in
      let here = w.sets_within k named_here.0 inside (set-left (is_given_end begins n k) ((game_of_tree t).set k) named_here.0 named_here.1) in
      omega (arith, named_here.3, here)
    where
      key_count : length (map (cut_set (game_of_tree t) begins n) nodes) ≡ length nodes
      key_count = rw length-map

  count_is : (r : ℕ) → r < length sets → (game_of_tree made_cut).actions r ≡ (game_of_tree t).actions (get_or sets r 0)
  count_is r below = sym (same-count t w begins n nodes indices marks root_within are_nodes sets names are_sets (Some (get_or sets r 0)) (Some r) (below, refl))

  chance_is : (r a : ℕ) → r < length sets → (game_of_tree made_cut).chance r a ≡ (game_of_tree t).chance (get_or sets r 0) a
  chance_is r a below =
      ap (λ actions. probability_at actions a) (made-at (λ (set : InformationSet). set.actions) make_set (length sets) r [] below)
      ∙ ap (λ probs. entry_at probs a) (same-probabilities (actions_of t (get_or sets r 0)))

  -- so it is the cut as a game
  pub is_cut_game : IsCutGame (game_of_tree t) n (λ k i. entry_at worth (k * length t.players + i)) nodes sets (game_of_tree made_cut)
  is_cut_game = record {
    players = length-replicate (length t.players) [];
    are_nodes = are_nodes.are_nodes;
    size = node_count;
    parents = λ j later below. parent_is j later (omega (arith, below, node_count));
    branches = λ j later below. branch_is j later (omega (arith, below, node_count));
    same_nodes = λ j below. node_is j (omega (arith, below, node_count));
    as_many_sets = set_count;
    sets_within = λ r below. set_within r (omega (arith, below, set_count));
    sets_differ = λ r q below other. are_sets.differ r q (omega (arith, below, set_count)) (omega (arith, other, set_count));
    owners = λ r below. made-at (λ (set : InformationSet). set.owner) make_set (length sets) r None (omega (arith, below, set_count));
    actions = λ r below. count_is r (omega (arith, below, set_count));
    chances = λ r a below action. chance_is r a (omega (arith, below, set_count));
  }

  -- and its sets keep their labels
  pub same_labels : (r : ℕ) → r < length sets → label_of made_cut r ≡ label_of t (get_or sets r 0)
  same_labels r below = made-at (λ (set : InformationSet). set.label) make_set (length sets) r 0 below
