-- The nodes and the outcomes of two cuts at a node are the same, part by part.
use Rattle.std.proofs.Common.{ℕ, ◌<◌, ◌≡◌, inl, inr, None, Some, List, [], ◌∷◌, length, map, get_or, sym, ap, ap₂, ◌∙◌, subst, arith}
use Rattle.std.proofs.lemmas.List.{ext_get_or, get_or-map}
use Rattle.std.proofs.lemmas.List.Elements.{Contains-get_or}
use Rattle.std.proofs.lemmas.List.FromFn.{get_or-map-range_with_len}
use Rattle.rational.specs.Rational.{ℚ, zero_ℚ}
use Rattle.rational.specs.Sum.{entry_at}
use Rattle.rational.proofs.Decide.{eq_or_ne}
use Rattle.game_theory.specs.FirstNodes.{AreNumberedByFirstNodes}
use Rattle.game_core.specs.declared.tree.Kind.TheVariants.{End}
use Rattle.game_core.specs.declared.tree.Node.{Node}
use Rattle.game_core.specs.Tree.{AreInPrefixOrder, GameTree, IsGameTree, TreeOutcome, kind_at}
use Rattle.game_core.specs.TreeGame.{game_of_tree, outcome_pays}
use Rattle.game_core.proofs.PrefixOrderLemmas.{branch_at, branch_at-same}
use Rattle.subgames.specs.CutGames.{IsGivenEnd}
use Rattle.subgames.specs.CutTrees.{AgreeAtEnds, IsBareTree, IsCutAt}
use Rattle.subgames.proofs.CutNumberedSetLemmas.{parts-same, set-named, sets-same}

-- what stands past the end of a list
no_node : Node
no_node = record { kind = End; parent = None; branch = 0; set = None; outcome = None }

no_outcome : TreeOutcome
no_outcome = record { label = 0; name = []; payoffs = [] }

-- each node of a bare tree has the outcome with its number
outcome-own : (players : ℕ) (cut : GameTree) → IsBareTree players cut → (j : ℕ) → j < length cut.nodes → get_or (map (λ node. node.outcome) cut.nodes) j None ≡ Some j
outcome-own players cut bare j below =
    ap (λ outcomes. get_or outcomes j None) bare.own_outcomes ∙ get_or-map-range_with_len Some 0 (length cut.nodes) j j None below (omega arith)

pays-own : (players : ℕ) (cut : GameTree) → IsBareTree players cut → (j i : ℕ) → j < length cut.nodes → (game_of_tree cut).pays j i ≡ entry_at (get_or cut.outcomes j no_outcome).payoffs i
pays-own players cut bare j i below =
    ap (λ outcome. outcome_pays cut.outcomes outcome i) (outcome-own players cut bare j below)
    ∙ ap (λ payoffs. entry_at payoffs i) (get_or-map (λ outcome. outcome.payoffs) cut.outcomes j no_outcome [] (omega (arith, below, bare.outcomes)))

module _ (t : GameTree) (n : ℕ) (worth other : ℕ → ℕ → ℚ) (nodes sets : List ℕ) (cut cut_too : GameTree) (agree : AgreeAtEnds t n worth other) (one : IsCutAt t n worth nodes sets cut) (two : IsCutAt t n other nodes sets cut_too) (numbered : (tree : GameTree) → IsGameTree tree → AreNumberedByFirstNodes (game_of_tree tree)) where
  as_many : length cut.nodes ≡ length cut_too.nodes
  as_many = one.is_cut.is_cut.size ∙ sym two.is_cut.is_cut.size

  -- ---- nodes
  sets-alike : cut.sets ≡ cut_too.sets
  sets-alike = sets-same t n worth other nodes sets cut cut_too one two numbered

  hangs-same : (j : ℕ) → j < length cut.nodes → branch_at cut.nodes j ≡ branch_at cut_too.nodes j
  hangs-same =
      let order = subst (λ s. AreInPrefixOrder s 0 cut.nodes ((None, 0) ∷ []) []) sets-alike one.is_cut.is_tree.in_prefix_order in
      branch_at-same cut_too.sets 0 cut.nodes cut_too.nodes _ [] [] order two.is_cut.is_tree.in_prefix_order as_many (set-named t n worth other nodes sets cut cut_too one two numbered)

  node-same : (j : ℕ) → j < length cut.nodes → get_or cut.nodes j no_node ≡ get_or cut_too.nodes j no_node
  node-same j below =
      let inside : j < length cut_too.nodes = omega (arith, below, as_many) in
      let hung = hangs-same j below in
      let parents = parts-same (λ node. node.parent) cut.nodes cut_too.nodes j no_node None below inside (ap (λ b. b.0) hung) in
      let branches = parts-same (λ node. node.branch) cut.nodes cut_too.nodes j no_node 0 below inside (ap (λ b. b.1) hung) in
      let own = parts-same (λ node. node.set) cut.nodes cut_too.nodes j no_node None below inside (set-named t n worth other nodes sets cut cut_too one two numbered j below) in
      let outcomes = parts-same (λ node. node.outcome) cut.nodes cut_too.nodes j no_node None below inside (outcome-own _ cut one.is_bare j below ∙ sym (outcome-own _ cut_too two.is_bare j inside)) in
      let kinds = (one.is_cut.is_tree.nodes_fit j no_node below).kind_is ∙ ap₂ kind_at sets-alike own ∙ sym (two.is_cut.is_tree.nodes_fit j no_node inside).kind_is in
      λ p. record { kind = kinds p; parent = parents p; branch = branches p; set = own p; outcome = outcomes p }

  pub nodes-same : cut.nodes ≡ cut_too.nodes
  nodes-same = ext_get_or no_node cut.nodes cut_too.nodes as_many node-same

  -- ---- outcomes
  -- Nodes pay the same, whether or not their payoffs are given: either way they can't differ.
  pays-same : (j i : ℕ) → j < length cut.nodes → i < length t.players → (game_of_tree cut).pays j i ≡ (game_of_tree cut_too).pays j i
  pays-same j i below player = elim (eq_or_ne ((game_of_tree cut).pays j i) ((game_of_tree cut_too).pays j i)) [
    | inl same ↦ same
    | inr differ ↦
        let g = one.is_cut.is_cut in
        let k = get_or nodes j 0 in
        let here = g.same_nodes j below in
        let there = two.is_cut.is_cut.same_nodes j (omega (arith, below, as_many)) in
        let in_cut = g.are_nodes.sound k (Contains-get_or nodes j 0 (omega (arith, below, g.size))) in
        let own : IsGivenEnd (game_of_tree t) n k → ⊥ = λ given. differ ((here.given given).1 i player ∙ agree k i player in_cut given ∙ sym ((there.given given).1 i player)) in
        absurd (differ ((here.own own).1 i player ∙ sym ((there.own own).1 i player)))
  ]

  many_outcomes : length cut.outcomes ≡ length cut_too.outcomes
  many_outcomes = one.is_bare.outcomes ∙ as_many ∙ sym two.is_bare.outcomes

  module _ (j : ℕ) (below : j < length cut.outcomes) where
    inside : j < length cut_too.outcomes
    inside = omega (arith, below, many_outcomes)

    node : j < length cut.nodes
    node = omega (arith, below, one.is_bare.outcomes)

    many_payoffs : length (get_or cut.outcomes j no_outcome).payoffs ≡ length t.players
    many_payoffs = one.is_cut.is_tree.outcomes_fit j no_outcome below ∙ one.is_cut.is_cut.players

    many_payoffs_too : length (get_or cut_too.outcomes j no_outcome).payoffs ≡ length t.players
    many_payoffs_too = two.is_cut.is_tree.outcomes_fit j no_outcome inside ∙ two.is_cut.is_cut.players

    payoffs-same : (get_or cut.outcomes j no_outcome).payoffs ≡ (get_or cut_too.outcomes j no_outcome).payoffs
    payoffs-same =
        ext_get_or zero_ℚ _ _ (many_payoffs ∙ sym many_payoffs_too)
        (λ i few. sym (pays-own _ cut one.is_bare j i node) ∙ pays-same j i node (omega (arith, few, many_payoffs)) ∙ pays-own _ cut_too two.is_bare j i (omega (arith, node, as_many)))

    outcome-same : get_or cut.outcomes j no_outcome ≡ get_or cut_too.outcomes j no_outcome
    outcome-same =
        let bare = one.is_bare.bare_outcomes j no_outcome below in
        let bare_too = two.is_bare.bare_outcomes j no_outcome inside in
        let labels = bare.0 ∙ sym bare_too.0 in
        let names = bare.1 ∙ sym bare_too.1 in
        λ p. record { label = labels p; name = names p; payoffs = payoffs-same p }

  pub outcomes-same : cut.outcomes ≡ cut_too.outcomes
  outcomes-same = ext_get_or no_outcome cut.outcomes cut_too.outcomes many_outcomes outcome-same
