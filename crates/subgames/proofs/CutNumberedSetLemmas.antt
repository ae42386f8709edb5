-- The sets of two cuts at a node are the same, part by part.
use Rattle.std.proofs.Common.{ℕ, ◌<◌, ◌≡◌, None, List, [], length, map, get_or, sym, ap, ap₂, ◌∙◌, arith}
use Rattle.std.proofs.lemmas.List.{ext_get_or, get_or-map, length-map}
use Rattle.std.proofs.lemmas.Option.{slice_get-get_or}
use Rattle.rational.specs.Rational.{ℚ, zero_ℚ}
use Rattle.game_theory.specs.FirstNodes.{AreNumberedByFirstNodes}
use Rattle.game_theory.specs.OwnSets.{numbers_with}
use Rattle.game_core.specs.declared.tree.Action.{Action}
use Rattle.game_core.specs.Tree.{GameTree, InformationSet, IsGameTree, SetFits, probability_at}
use Rattle.game_core.specs.TreeGame.{game_of_tree}
use Rattle.subgames.specs.CutTrees.{IsCutAt}
use Rattle.subgames.proofs.CutNumberLemmas.{set_at-same}

-- a part of the elements of two lists at a number
pub parts-same : {X Y : Type 0} (f : X → Y) (xs ys : List X) (k : ℕ) (d : X) (e : Y) → k < length xs → k < length ys → get_or (map f xs) k e ≡ get_or (map f ys) k e → f (get_or xs k d) ≡ f (get_or ys k d)
parts-same f xs ys k d e below below_too same = sym (get_or-map f xs k d e below) ∙ same ∙ get_or-map f ys k d e below_too

-- what stands past the end of a list
no_action : Action
no_action = record { name = []; prob = zero_ℚ }

no_set : InformationSet
no_set = record { owner = None; label = 0; name = []; actions = []; members = [] }

module _ (t : GameTree) (n : ℕ) (worth other : ℕ → ℕ → ℚ) (nodes sets : List ℕ) (cut cut_too : GameTree) (one : IsCutAt t n worth nodes sets cut) (two : IsCutAt t n other nodes sets cut_too) (numbered : (tree : GameTree) → IsGameTree tree → AreNumberedByFirstNodes (game_of_tree tree)) where
  many_nodes : length cut.nodes ≡ length cut_too.nodes
  many_nodes = one.is_cut.is_cut.size ∙ sym two.is_cut.is_cut.size

  many_sets : length cut.sets ≡ length cut_too.sets
  many_sets = one.is_cut.is_cut.as_many_sets ∙ sym two.is_cut.is_cut.as_many_sets

  -- the nodes name the same sets
  pub set-named : (j : ℕ) → j < length cut.nodes → (game_of_tree cut).set j ≡ (game_of_tree cut_too).set j
  set-named j below =
      set_at-same (game_of_tree t) n worth other nodes sets sets (game_of_tree cut) (game_of_tree cut_too) one.is_cut.is_cut two.is_cut.is_cut
      (numbered cut one.is_cut.is_tree) (numbered cut_too two.is_cut.is_tree) j (omega (arith, below, one.is_cut.is_cut.size))

  names-same : map (λ node. node.set) cut.nodes ≡ map (λ node. node.set) cut_too.nodes
  names-same =
      ext_get_or None _ _ (length-map cut.nodes (λ node. node.set) ∙ many_nodes ∙ sym (length-map cut_too.nodes (λ node. node.set)))
      (λ j below. set-named j (omega (arith, below, length-map cut.nodes (λ node. node.set))))

  module _ (r : ℕ) (below : r < length cut.sets) where
    below_too : r < length cut_too.sets
    below_too = omega (arith, below, many_sets)

    abbrev here : InformationSet
    here = get_or cut.sets r no_set

    abbrev there : InformationSet
    there = get_or cut_too.sets r no_set

    fits : SetFits cut r here
    fits = one.is_cut.is_tree.sets_fit r here (slice_get-get_or cut.sets r no_set below)

    fits_too : SetFits cut_too r there
    fits_too = two.is_cut.is_tree.sets_fit r there (slice_get-get_or cut_too.sets r no_set below_too)

    members-same : here.members ≡ there.members
    members-same = fits.members_are ∙ ap₂ (λ names m. numbers_with (λ k. get_or names k None) r m) names-same many_nodes ∙ sym fits_too.members_are

    many_actions : length here.actions ≡ length there.actions
    many_actions = parts-same (λ set. length set.actions) cut.sets cut_too.sets r no_set 0 below below_too (one.is_cut.is_cut.actions r below ∙ sym (two.is_cut.is_cut.actions r below_too))

    probability-same : (a : ℕ) → a < length here.actions → probability_at here.actions a ≡ probability_at there.actions a
    probability-same a action =
        let count = get_or-map (λ set. length set.actions) cut.sets r no_set 0 below in
        let count_too = get_or-map (λ set. length set.actions) cut_too.sets r no_set 0 below_too in
        ap (λ actions. probability_at actions a) (sym (get_or-map (λ set. set.actions) cut.sets r no_set [] below))
        ∙ one.is_cut.is_cut.chances r a below (omega (arith, action, count)) ∙ sym (two.is_cut.is_cut.chances r a below_too (omega (arith, action, many_actions, count_too)))
        ∙ ap (λ actions. probability_at actions a) (get_or-map (λ set. set.actions) cut_too.sets r no_set [] below_too)

    action-same : (a : ℕ) → a < length here.actions → get_or here.actions a no_action ≡ get_or there.actions a no_action
    action-same a action =
        let action_too : a < length there.actions = omega (arith, action, many_actions) in
        let names = one.is_bare.action_names r no_set below a no_action action ∙ sym (two.is_bare.action_names r no_set below_too a no_action action_too) in
        let probs = parts-same (λ x. x.prob) here.actions there.actions a no_action zero_ℚ action action_too (probability-same a action) in
        λ j. record { name = names j; prob = probs j }

    set-same : here ≡ there
    set-same =
        let owners = parts-same (λ set. set.owner) cut.sets cut_too.sets r no_set None below below_too (one.is_cut.is_cut.owners r below ∙ sym (two.is_cut.is_cut.owners r below_too)) in
        let labels = parts-same (λ set. set.label) cut.sets cut_too.sets r no_set 0 below below_too
        (one.is_cut.labels r (omega (arith, below, one.is_cut.is_cut.as_many_sets)) ∙ sym (two.is_cut.labels r (omega (arith, below, one.is_cut.is_cut.as_many_sets)))) in
        let names = one.is_bare.set_names r no_set below ∙ sym (two.is_bare.set_names r no_set below_too) in
        let actions = ext_get_or no_action here.actions there.actions many_actions action-same in
        λ j. record { owner = owners j; label = labels j; name = names j; actions = actions j; members = members-same j }

  -- so the sets are the same
  pub sets-same : cut.sets ≡ cut_too.sets
  sets-same = ext_get_or no_set cut.sets cut_too.sets many_sets set-same
