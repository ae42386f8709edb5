-- The cut that is made is a game tree within the limits.
use Rattle.std.proofs.Common.{ℕ, zero, suc, ◌<◌, ◌≤◌, ◌≡◌, inl, inr, Bool, cond, Option, Some, None, List, [], All, length, map, get_or, slice_get, replicate, refl, sym, ap, ap₂, ◌∙◌, subst, subst₂, arith}
use Rattle.std.specs.Prelude.{unwrap_or}
use Rattle.std.specs.List.{range_with_len}
use Rattle.std.proofs.lemmas.Bool.{cases_eq, eq-eqb}
use Rattle.std.proofs.lemmas.List.{get_or_default, length-map, length-replicate, map-id}
use Rattle.std.proofs.lemmas.List.Elements.{All-map}
use Rattle.std.proofs.lemmas.List.FromFn.{fill_by_all, get_or-map-range_with_len, length-map-range_with_len}
use Rattle.std.proofs.lemmas.Option.{get_or_from_slice_get, none-some, same_Some, slice_get-get_or, slice_get_within}
use Rattle.std.proofs.lemmas.Simd.{map-map}
use Rattle.lists.proofs.ElementLemmas.{element}
use Rattle.lists.proofs.NumberLemmas.{unequal}
use Rattle.rational.specs.Rational.{ℚ, ◌≤ℚ◌, zero_ℚ}
use Rattle.rational.specs.Sum.{entry_at, sum_to}
use Rattle.game_theory.specs.OwnSets.{numbers_with, places_with}
use Rattle.game_theory.specs.Trees.{IsTree}
use Rattle.game_theory.proofs.IndexLemmas.{numbers_with-at}
use Rattle.game_core.specs.declared.tree.Action.{Action}
use Rattle.game_core.specs.declared.tree.Node.{Node}
use Rattle.game_core.specs.Tree.{AreInOrderOfFirstUse, GameTree, InformationSet, IsBelow, IsGameTree, LiesBelowRoot, NodeFits, ProbabilitiesFit, SetFits, TreeOutcome, kind_at, kind_of_owner, members_of}
use Rattle.game_core.specs.TreeGame.{game_of_tree}
use Rattle.game_core.proofs.FirstUseLemmas.{in_order-names}
use Rattle.game_core.proofs.PrefixOrderLemmas.{hangs_at, root}
use Rattle.game_core.proofs.TreeLaws.{part_of}
use Rattle.subgames.specs.CutGames.{IsSameSet}
use Rattle.subgames.specs.CutParts.{AreSetNames, actions_of, cut_information_set, cut_node, cut_outcome, cut_pays, cut_set, named_kind, without_name}
use Rattle.subgames.specs.CutTrees.{IsBareTree, IsCutAt}
use Rattle.subgames.specs.FoundSubgames.{AreRootMarks}
use Rattle.subgames.specs.MadeCuts.{worth_at}
use Rattle.subgames.proofs.CutGameLemmas.{is_cut_game, made_cut, same_labels, same-probabilities, set_within}
use Rattle.subgames.proofs.CutHangLemmas.{cut-in_order, made-at, named, node-cut, others-later, parent-index}
use Rattle.subgames.proofs.CutWalkLemmas.{AreCutNodes}

-- ---- the edges of a tree
module _ (t : GameTree) (valid : IsGameTree t) (w : IsTree (game_of_tree t)) where
  -- a node lies one edge deeper than its parent
  pub lies-deeper : (d k : ℕ) → 0 < k → k < length t.nodes → LiesBelowRoot t.nodes d ((game_of_tree t).parent k) → LiesBelowRoot t.nodes (suc d) k
  lies-deeper d k later below h =
      let node = element t.nodes k below in
      let up = hangs_at t.sets t.nodes valid.in_prefix_order k later below in
      let same : (game_of_tree t).parent k ≡ up.0 = ap (λ o. unwrap_or o 0) up.2 in
      (node.0, up.0, node.1, sym (part_of (λ node. node.parent) t.nodes k node.0 None node.1) ∙ up.2, subst (LiesBelowRoot t.nodes d) same h)

  -- each node lies some edges below the root
  pub lies-somewhere : (m k : ℕ) → k < m → k < length t.nodes → (d : ℕ) × LiesBelowRoot t.nodes d k
  lies-somewhere zero k short below = absurd (omega (arith, short))
  lies-somewhere (suc m) k short below = elim (cases_eq k 0) [
    | inl same ↦ let node = element t.nodes k below in
        (0, (node.0, node.1, sym (part_of (λ node. node.parent) t.nodes k node.0 None node.1) ∙ ap (λ k. get_or (map (λ (node : Node). node.parent) t.nodes) k None) same ∙ ap (λ p. p.0) (root t.sets t.nodes valid.in_prefix_order).1))
    | inr other ↦
        let later : 0 < k = omega (arith, other) in
        let before = w.after_parent k later below in
        let up = lies-somewhere m ((game_of_tree t).parent k) (omega (arith, before, short)) (omega (arith, before, below)) in
        (suc up.0, lies-deeper up.0 k later below up.1)
  ]

-- ---- sets without names
-- an owner's probabilities stay
kept-probabilities : (owner : Option ℕ) (actions : List Action) → ProbabilitiesFit owner actions → ProbabilitiesFit owner (map without_name actions)
kept-probabilities None actions h =
    let long : length (map without_name actions) ≡ length actions = rw length-map in
    record {
      not_negative = λ a below.
          subst (λ probs. zero_ℚ ≤ℚ entry_at probs a) (sym (same-probabilities actions)) (h.not_negative a (subst (λ m. a < m) long below));
      sum_is_one = ap₂ sum_to long (ap (λ probs a. entry_at probs a) (same-probabilities actions)) ∙ h.sum_is_one;
    }
kept-probabilities (Some i) actions h = All-map (λ action. action.prob ≡ zero_ℚ) without_name actions h

-- a set that is named is one of these
name-below : (sets : List ℕ) (key name : Option ℕ) → IsSameSet sets key name → IsBelow (length sets) name
name-below sets None None h = tt
name-below sets None (Some r) h = absurd h
name-below sets (Some s) None h = absurd h
name-below sets (Some s) (Some r) h = h.0

-- ---- the cut
module _ (t : GameTree) (valid : IsGameTree t) (w : IsTree (game_of_tree t)) (begins : List Bool) (n : ℕ) (nodes : List ℕ) (indices : List (Option ℕ))
    (marks : AreRootMarks (game_of_tree t) begins) (root_within : n < length t.nodes) (are_nodes : AreCutNodes (game_of_tree t) n nodes indices)
    (sets : List ℕ) (names : List (Option ℕ)) (are_sets : AreSetNames (map (cut_set (game_of_tree t) begins n) nodes) names sets) (worth : List ℚ) where
  abbrev cut : GameTree
  cut = made_cut t w begins n nodes indices marks root_within are_nodes sets names are_sets worth

  abbrev make : ℕ → Node
  make = cut_node (game_of_tree t) nodes indices sets names

  abbrev make_set : ℕ → InformationSet
  make_set = cut_information_set t sets names

  name_count : length names ≡ length nodes
  name_count = let keys : length (map (cut_set (game_of_tree t) begins n) nodes) ≡ length nodes = rw length-map in are_sets.one_for_each ∙ keys

  node_count : length cut.nodes ≡ length nodes
  node_count = length-map-range_with_len make 0 (length nodes)

  set_count : length cut.sets ≡ length sets
  set_count = length-map-range_with_len make_set 0 (length sets)

  outcome_count : length cut.outcomes ≡ length nodes
  outcome_count = rw length-map

  -- the nodes' sets are the names
  names_are : map (λ (node : Node). node.set) cut.nodes ≡ names
  names_are =
      let long : length (map (λ (node : Node). node.set) cut.nodes) ≡ length nodes = rw length-map node_count in
      fill_by_all (λ j. get_or names j None) (map (λ (node : Node). node.set) cut.nodes) (length nodes) None long (λ j below. made-at (λ (node : Node). node.set) make (length nodes) j None below)
      ∙ sym (fill_by_all (λ j. get_or names j None) names (length nodes) None name_count (λ j below. refl))

  -- who chooses at a name
  kind_is : (name : Option ℕ) → IsBelow (length sets) name → (named_kind (game_of_tree t) sets name ≡ kind_at cut.sets name) × IsBelow (length cut.sets) name
  kind_is None h = (refl, tt)
  kind_is (Some r) h = (ap kind_of_owner (sym (made-at (λ (set : InformationSet). set.owner) make_set (length sets) r None h)), omega (arith, h, set_count))

  node_fits : (j : ℕ) → j < length nodes → NodeFits cut (make j)
  node_fits j below =
      let kind = kind_is (get_or names j None) (name-below sets _ _ (named t w begins n nodes indices marks root_within are_nodes sets names are_sets j below)) in
      record { kind_is = kind.0; set_within = kind.1; outcome_within = omega (arith, below, outcome_count) }

  -- the nodes that name a set
  members_are : (r : ℕ) → places_with (λ (name : Option ℕ). name) names r ≡ members_of cut.nodes r
  members_are r =
      let same : map (λ (name : Option ℕ). name) names ≡ map (λ (node : Node). node.set) cut.nodes = map-id names ∙ sym names_are in
      ap₂ (λ xs m. numbers_with (λ k. get_or xs k None) r m) same (name_count ∙ sym node_count)

  set_fits : (r : ℕ) → r < length sets → SetFits cut r (make_set r)
  set_fits r below =
      let s = get_or sets r 0 in
      let found = element t.sets s (set_within t w begins n nodes indices marks root_within are_nodes sets names are_sets worth r below) in
      let fits = valid.sets_fit s found.0 found.1 in
      let owner = part_of (λ (set : InformationSet). set.owner) t.sets s found.0 None found.1 in
      let actions = part_of (λ (set : InformationSet). set.actions) t.sets s found.0 [] found.1 in
      let long : length (map without_name (actions_of t s)) ≡ length (actions_of t s) = rw length-map in
      let first = are_sets.used r below in
      let here : get_or (map (λ (name : Option ℕ). name) names) first.0 None ≡ Some r = ap (λ xs. get_or xs first.0 None) (map-id names) ∙ get_or_from_slice_get names first.0 (Some r) None first.1 in
      let member = numbers_with-at (λ k. get_or (map (λ (name : Option ℕ). name) names) k None) r first.0 (length names) (slice_get_within names first.0 (Some r) first.1) here in
      record {
        owner_within = subst₂ IsBelow (sym (length-replicate (length t.players) [])) (sym owner) fits.owner_within;
        some_action = omega (arith, long, ap length actions, fits.some_action);
        probabilities = kept-probabilities _ _ (subst₂ ProbabilitiesFit (sym owner) (sym actions) fits.probabilities);
        members_are = members_are r;
        some_member = let inside = slice_get_within (places_with (λ (name : Option ℕ). name) names r) _ first.0 member in omega (arith, inside);
      }

  -- each node names its own outcome
  own_outcome : (k : ℕ) → k < length nodes → slice_get (map (λ (node : Node). node.outcome) cut.nodes) k ≡ Some (Some k)
  own_outcome k below =
      let inside : k < length (map (λ (node : Node). node.outcome) cut.nodes) = rw (length-map, node_count) below in
      slice_get-get_or (map (λ (node : Node). node.outcome) cut.nodes) k None inside ∙ ap Some (made-at (λ (node : Node). node.outcome) make (length nodes) k None below)

  outcomes_in_order : AreInOrderOfFirstUse (map (λ (node : Node). node.outcome) cut.nodes)
  outcomes_in_order = in_order-names (map (λ (node : Node). node.outcome) cut.nodes) (λ k s r is less.
      let inside = slice_get_within (map (λ (node : Node). node.outcome) cut.nodes) k (Some s) is in
      let long : length (map (λ (node : Node). node.outcome) cut.nodes) ≡ length nodes = rw length-map node_count in
      let below : k < length nodes = omega (arith, inside, long) in
      let same : s ≡ k = same_Some s k (same_Some _ _ (sym is ∙ own_outcome k below)) in
      (r, omega (arith, same, less), own_outcome r (omega (arith, same, less, below))))

  -- a node of the cut lies no deeper than in the tree
  no_deeper : (d j : ℕ) → LiesBelowRoot cut.nodes d j → (e : ℕ) × (d ≤ e) × LiesBelowRoot t.nodes e (get_or nodes j 0)
  no_deeper zero j h =
      let below : j < length nodes = omega (arith, slice_get_within cut.nodes j h.0 h.1, node_count) in
      let at = lies-somewhere t valid w (suc (get_or nodes j 0)) (get_or nodes j 0) (omega arith) (node-cut t w begins n nodes indices marks root_within are_nodes j below).0 in
      (at.0, omega arith, at.1)
  no_deeper (suc d) j h =
      let below : j < length nodes = omega (arith, slice_get_within cut.nodes j h.0 h.2, node_count) in
      let parent = sym (made-at (λ (node : Node). node.parent) make (length nodes) j None below) ∙ part_of (λ (node : Node). node.parent) cut.nodes j h.0 None h.2 ∙ h.3 in
      let p = (game_of_tree t).parent (get_or nodes j 0) in
      elim (cases_eq j 0) [
        | inl same ↦ absurd (none-some h.1 (sym (ap (λ b. cond b None (get_or indices p None)) (eq-eqb j 0 same)) ∙ parent))
        | inr other ↦
            let later : 0 < j = omega (arith, other) in
            let up = parent-index t w begins n nodes indices marks root_within are_nodes j later below in
            let first = same_Some up.0 h.1 (sym up.1 ∙ sym (ap (λ b. cond b None (get_or indices p None)) (unequal j 0 other)) ∙ parent) in
            let above = no_deeper d h.1 h.4 in
            let at : get_or nodes h.1 0 ≡ p = ap (λ i. get_or nodes i 0) (sym first) ∙ up.3 in
            (suc above.0, omega (arith, above.1), lies-deeper t valid w above.0 (get_or nodes j 0) (omega (arith, others-later t w begins n nodes indices marks root_within are_nodes j later below)) (node-cut t w begins n nodes indices marks root_within are_nodes j below).0 (subst (LiesBelowRoot t.nodes above.0) at above.2))
      ]

  -- the sets and the names are within their bounds
  pub sets_within : All (λ s. s < length t.sets) sets
  sets_within r d below = subst (λ s. s < length t.sets) (get_or_default sets r 0 d below) (set_within t w begins n nodes indices marks root_within are_nodes sets names are_sets worth r below)

  pub names_within : All (IsBelow (length sets)) names
  names_within j d below =
      let inside : j < length nodes = omega (arith, below, name_count) in
      subst (IsBelow (length sets)) (get_or_default names j None d below) (name-below sets _ _ (named t w begins n nodes indices marks root_within are_nodes sets names are_sets j inside))

  -- so it is a game tree
  pub cut_is_tree : IsGameTree cut
  cut_is_tree = record {
    in_prefix_order = cut-in_order t w begins n nodes indices marks root_within are_nodes sets names are_sets valid;
    nodes_fit = λ j d below. let inside : j < length nodes = omega (arith, below, node_count) in subst (NodeFits cut) (sym (get_or-map-range_with_len make 0 (length nodes) j j d inside (omega arith))) (node_fits j inside);
    sets_fit = λ r set is. let inside : r < length sets = omega (arith, slice_get_within cut.sets r set is, set_count) in subst (SetFits cut r) (sym (get_or-map-range_with_len make_set 0 (length sets) r r set inside (omega arith)) ∙ get_or_from_slice_get cut.sets r set set is) (set_fits r inside);
    outcomes_fit = All-map (λ outcome. length outcome.payoffs ≡ length cut.players) (cut_outcome (game_of_tree t) begins n worth) nodes (λ j d below. length-map-range_with_len (cut_pays (game_of_tree t) begins n worth (get_or nodes j d)) 0 (length t.players) ∙ sym (length-replicate (length t.players) []));
    sets_in_order = subst AreInOrderOfFirstUse (sym names_are) are_sets.in_order;
    outcomes_in_order = outcomes_in_order;
    few_nodes = omega (arith, node_count, are_nodes.no_more, valid.few_nodes);
    few_sets = omega (arith, node_count, set_count, name_count, are_sets.no_more);
    few_edges = λ d j h. let deep = no_deeper d j h in omega (arith, deep.1, valid.few_edges deep.0 (get_or nodes j 0) deep.2);
    few_players = let players : length cut.players ≡ length t.players = length-replicate (length t.players) [] in omega (arith, players, valid.few_players);
  }

  -- and it holds nothing but its game and the numbers of its sets
  pub cut_is_bare : IsBareTree (length t.players) cut
  cut_is_bare = record {
    title = refl;
    names = refl;
    set_names = All-map (λ (set : InformationSet). set.name ≡ []) make_set (range_with_len 0 (length sets)) (λ r d below. refl);
    action_names = All-map (λ (set : InformationSet). All (λ (action : Action). action.name ≡ []) set.actions) make_set (range_with_len 0 (length sets))
        (λ r d below. All-map (λ (action : Action). action.name ≡ []) without_name (actions_of t (get_or sets (get_or (range_with_len 0 (length sets)) r d) 0)) (λ a e inside. refl));
    outcomes = outcome_count ∙ sym node_count;
    own_outcomes = map-map (λ (node : Node). node.outcome) make (range_with_len 0 (length nodes)) ∙ ap (λ m. map Some (range_with_len 0 m)) (sym node_count);
    bare_outcomes = All-map (λ (outcome : TreeOutcome). (outcome.label ≡ 0) × (outcome.name ≡ [])) (cut_outcome (game_of_tree t) begins n worth) nodes (λ j d below. (refl, refl));
  }

  -- a tree of these parts is the cut as a tree
  pub cut_tree : (title : List ℕ) (players : List (List ℕ)) (new_nodes : List Node) (new_sets : List InformationSet) (outcomes : List TreeOutcome)
      → title ≡ [] → players ≡ replicate (length t.players) [] → new_nodes ≡ cut.nodes → new_sets ≡ cut.sets → outcomes ≡ cut.outcomes
      → (cut_is : GameTree) × (cut_is ≡ record { title = title; players = players; nodes = new_nodes; sets = new_sets; outcomes = outcomes }) × IsCutAt t n (worth_at (length t.players) worth) nodes sets cut_is
  cut_tree title players new_nodes new_sets outcomes of_title of_players of_nodes of_sets of_outcomes = (
    cut,
    (λ j. record { title = sym of_title j; players = sym of_players j; nodes = sym of_nodes j; sets = sym of_sets j; outcomes = sym of_outcomes j }),
    record {
      is_cut = record {
        is_tree = cut_is_tree;
        is_cut = is_cut_game t w begins n nodes indices marks root_within are_nodes sets names are_sets worth;
        labels = same_labels t w begins n nodes indices marks root_within are_nodes sets names are_sets worth;
      };
      is_bare = cut_is_bare;
    },
  )
