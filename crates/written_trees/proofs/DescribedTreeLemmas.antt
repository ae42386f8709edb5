-- What is described is built.
use Rattle.std.proofs.Common.{◌≡◌, ℕ, ◌≤◌, List, [], ◌∷◌, ◌++◌, length, map, Some, nat_eq, refl, sym, ap, ap₂, ◌∙◌, subst₂, length-append, arith}
use Rattle.std.proofs.lemmas.Bool.Decides.{Decides-eqb}
use Rattle.std.proofs.lemmas.List.{length-map}
use Rattle.written_trees.proofs.NumberedKeyLemmas.{sets_of, outcomes_of, AreNumberedFor}
use Rattle.lists.specs.Options.{◌>>=◌}
use Rattle.game_core.specs.declared.tree.Node.{Node}
use Rattle.game_core.specs.Tree.{OpenBranch, IsBelow, LiesBelowRoot, most_nodes, most_depth}
use Rattle.written_trees.specs.Written.{WrittenNode}
use Rattle.written_trees.specs.Described.{key_of, same_set, set_uses, outcome_uses, uses_of_set, uses_of_outcome, described_set, described_outcome}
use Rattle.written_trees.specs.Building.{PartialSet, Branching, PartialTree, root_alone, open_branches, take_branch, add_nodes, finished_set, tree_so_far}
use Rattle.written_trees.specs.Laws.{DescribedIsBuilt}
use Rattle.written_trees.proofs.UseStepLemmas.{sets_so_far, AllAgree, outcomes_so_far, PayoffsAgree}
use Rattle.written_trees.proofs.KeyOrderLemmas.{determined}
use Rattle.written_trees.proofs.ListLemmas.{at_end}
use Rattle.written_trees.proofs.DepthLemmas.{lies_longer, lies_new}
use Rattle.written_trees.proofs.PlaceLemmas.{open_branches-take, order_less, order_once}
use Rattle.written_trees.proofs.MemberLemmas.{NameSets}
use Rattle.written_trees.proofs.SetGrowthLemmas.{used_number, grows}
use Rattle.written_trees.proofs.UseLemmas.{sets_more, outcomes_more}
use Rattle.written_trees.proofs.SetUseLemmas.{same_set-Decides}
use Rattle.written_trees.proofs.StandingNodeLemmas.{numbered_for, StandsIn, Stand, StandBefore, stand_before, stand_length, stand_shorter, stand_all, IsUsedIn, all_used, set_within}
use Rattle.written_trees.proofs.StepLemmas.{new_node, Step, grown, next_node, add_nodes-push, step_again}
use Rattle.written_trees.proofs.SoundTreeLemmas.{AreBranchings, AreInOrder, root_branch, order_stayed, IsSound, sound}
use Rattle.written_trees.proofs.BuiltTreeLemmas.{IsFromUses, from_uses, node_stands, sets_described, outcomes_described}

-- ---- what is described up to a node
-- nodes that written ones describe, and the places that they leave free
pub record IsDescribed (written : List WrittenNode) (nodes : List Node) (free : List OpenBranch) : Type 0 where
  pub nodes_stand : Stand written nodes written
  pub in_order : AreInOrder (sets_so_far (set_uses written)) nodes free
  pub few_nodes : length nodes ≤ most_nodes
  pub few_edges : (d k : ℕ) → LiesBelowRoot nodes d k → d ≤ most_depth
  pub sets_agree : AllAgree (set_uses written)
  pub outcomes_agree : PayoffsAgree (outcome_uses written)

-- the nodes name sets that are partial
name_so_far : (written : List WrittenNode) (nodes : List Node) → Stand written nodes written → NameSets (length (sets_so_far (set_uses written))) nodes
name_so_far written nodes h = rw length-map (stand_all written (IsUsedIn written) (λ node. IsBelow (length (sets_of (set_uses written))) node.set) (λ node one s u. rw s.set_is (set_within (set_uses written) one.set u.set_used)) nodes written h (all_used written))

-- the nodes before the last, whose place they leave free
pub record Before (written : List WrittenNode) (one : WrittenNode) (nodes : List Node) : Type 0 where
  pub last : StandBefore (written ++ one ∷ []) nodes written one
  pub others : List OpenBranch
  pub described : IsDescribed written last.front ((last.node.parent, last.node.branch) ∷ others)

-- where all are described, so are those before the last
before : (written : List WrittenNode) (one : WrittenNode) (nodes : List Node) (free : List OpenBranch) → IsDescribed (written ++ one ∷ []) nodes free → Before written one nodes
before written one nodes free h =
    let uses = set_uses written in
    let longer = set_uses (written ++ one ∷ []) in
    let last = stand_before (written ++ one ∷ []) nodes written one h.nodes_stand in
    let front = stand_shorter last.front written one last.front_stands in
    let order = order_less (map finished_set (sets_so_far longer)) 0 last.front last.node root_branch free (rw last.is at h.in_order) in
    let sets = (sets_more written one).agreed h.sets_agree in
    let outcomes = (outcomes_more written one).agreed h.outcomes_agree in
    let growth = grows (length written) (sets_so_far uses) (sets_so_far longer) one.set sets.1 in
    record {
      last = last;
      others = order.0;
      described = record {
        nodes_stand = front;
        in_order = order_stayed (length written) (sets_so_far uses) (sets_so_far longer) (used_number (sets_so_far uses) one.set) last.front _ growth (name_so_far written last.front front) order.1;
        few_nodes = omega (arith, ap length last.is, length-append last.front (last.node ∷ []), h.few_nodes);
        few_edges = λ d k lies. h.few_edges d k (rw last.is (lies_longer last.front (last.node ∷ []) d k lies));
        sets_agree = sets.0;
        outcomes_agree = outcomes.0;
      };
    }

-- ---- one node
-- the branching with the first open branch
pub record IsFirst (branchings : List Branching) (place : OpenBranch) : Type 0 where
  pub first : Branching
  pub rest : List Branching
  pub are : branchings ≡ first ∷ rest
  pub place_is : place ≡ (first.node, first.next)

-- it comes first
first_place : (nodes : List Node) (branchings : List Branching) (place : OpenBranch) (others : List OpenBranch) → AreBranchings nodes branchings → open_branches branchings ≡ place ∷ others → IsFirst branchings place
first_place nodes [] place others h e = cc
first_place nodes (b ∷ rest) place others h e =
    let both : (b.node, b.next) ∷ open_branches (take_branch b rest) ≡ place ∷ others = sym (open_branches-take b rest h.0.some_branch) ∙ e in
    record { first = b; rest = rest; are = refl; place_is = cc }

-- two nodes that hang at one place and stand for one
stands_once : (all : List WrittenNode) (a b : Node) (one : WrittenNode) → StandsIn all a one → StandsIn all b one → a.parent ≡ b.parent → a.branch ≡ b.branch → a ≡ b
stands_once all a b one s t parent branch =
    let kind : a.kind ≡ b.kind = s.kind_is ∙ sym t.kind_is in
    let set : a.set ≡ b.set = s.set_is ∙ sym t.set_is in
    let outcome : a.outcome ≡ b.outcome = s.outcome_is ∙ sym t.outcome_is in
    let same : record { kind = a.kind; parent = a.parent; branch = a.branch; set = a.set; outcome = a.outcome } ≡ b = rw (kind, parent, branch, set, outcome) refl in
    same

-- the order of nodes that are the same, with sets that are the same
same_order : (sets others : List PartialSet) (nodes same : List Node) (free : List OpenBranch) → others ≡ sets → same ≡ nodes → AreInOrder sets nodes free → AreInOrder others same free
same_order sets others nodes same free e f h = rw (e, f) h

-- the step to the last node
pub record StepTo (partial : PartialTree) (one : WrittenNode) (nodes : List Node) : Type 0 where
  pub step : Step partial one
  pub nodes_are : (grown partial one step).nodes ≡ nodes

-- where all are described, the last takes a step
step_to : (written : List WrittenNode) (one : WrittenNode) (nodes : List Node) (free : List OpenBranch) (partial : PartialTree) → IsDescribed (written ++ one ∷ []) nodes free → (b : Before written one nodes) → IsFromUses written partial → IsSound partial → partial.nodes ≡ b.last.front → StepTo partial one nodes
step_to written one nodes free partial h b from kept front_is = record { step = s; nodes_are = ap₂ (λ front node. front ++ node ∷ []) front_is same ∙ sym b.last.is }
  where
    order : AreInOrder partial.sets partial.nodes ((b.last.node.parent, b.last.node.branch) ∷ b.others)
    order = same_order _ partial.sets b.last.front partial.nodes _ from.sets_are front_is b.described.in_order

    free_is : open_branches partial.branchings ≡ (b.last.node.parent, b.last.node.branch) ∷ b.others
    free_is = order_once (map finished_set partial.sets) 0 partial.nodes root_branch _ _ kept.in_order order

    p : IsFirst partial.branchings (b.last.node.parent, b.last.node.branch)
    p = first_place partial.nodes partial.branchings (b.last.node.parent, b.last.node.branch) b.others kept.are_branchings free_is

    parent : b.last.node.parent ≡ p.first.node
    parent = ap (λ (place : OpenBranch). place.0) p.place_is

    branch : b.last.node.branch ≡ p.first.next
    branch = ap (λ (place : OpenBranch). place.1) p.place_is

    branchings : AreBranchings partial.nodes (p.first ∷ p.rest)
    branchings = rw p.are at kept.are_branchings

    all : nodes ≡ partial.nodes ++ b.last.node ∷ []
    all = rw front_is b.last.is

    long : length partial.nodes ≡ length written
    long = stand_length written partial.nodes written from.nodes_stand

    s : Step partial one
    s = record {
      first = p.first;
      rest = p.rest;
      sets = sets_so_far (set_uses (written ++ one ∷ []));
      outcomes = outcomes_so_far (outcome_uses (written ++ one ∷ []));
      branchings_are = p.are;
      more_nodes = omega (arith, ap length all, length-append partial.nodes (b.last.node ∷ []), h.few_nodes);
      few_edges = h.few_edges p.first.depth (length partial.nodes) (rw all (lies_new partial.nodes b.last.node p.first.node p.first.depth parent branchings.0.hangs));
      sets_are = rw (long, from.sets_are) (((sets_more written one).agreed h.sets_agree).1);
      outcomes_are = rw from.outcomes_are (((outcomes_more written one).agreed h.outcomes_agree).1);
    }

    same : new_node partial one p.first ≡ b.last.node
    same = stands_once (written ++ one ∷ []) (new_node partial one p.first) b.last.node one (node_stands written partial one s from.sets_are from.outcomes_are) b.last.node_stands (sym parent) (sym branch)

-- ---- all nodes
-- what is built up to some nodes
pub record IsBuiltTo (written : List WrittenNode) (nodes : List Node) : Type 0 where
  pub partial : PartialTree
  pub is_built : add_nodes root_alone written ≡ Some partial
  pub nodes_are : partial.nodes ≡ nodes

-- what is described is built, as far as it goes
built_to : (written : List WrittenNode) (nodes : List Node) (free : List OpenBranch) → IsDescribed written nodes free → IsBuiltTo written nodes
built_to = at_end (λ written. (nodes : List Node) (free : List OpenBranch) → IsDescribed written nodes free → IsBuiltTo written nodes) none more
  where
    none : (nodes : List Node) (free : List OpenBranch) → IsDescribed [] nodes free → IsBuiltTo [] nodes
    none [] free h = record { partial = root_alone; is_built = refl; nodes_are = refl }
    none (node ∷ nodes) free h = absurd h.nodes_stand

    more : (written : List WrittenNode) (one : WrittenNode) → ((nodes : List Node) (free : List OpenBranch) → IsDescribed written nodes free → IsBuiltTo written nodes) → (nodes : List Node) (free : List OpenBranch) → IsDescribed (written ++ one ∷ []) nodes free → IsBuiltTo (written ++ one ∷ []) nodes
    more written one built nodes free h =
        let b = before written one nodes free h in
        let t = built b.last.front _ b.described in
        let s = step_to written one nodes free t.partial h b (from_uses written t.partial t.is_built) (sound written t.partial t.is_built) t.nodes_are in
        record {
          partial = grown t.partial one s.step;
          is_built = add_nodes-push written root_alone one ∙ ap (λ o. o >>= λ next. next_node next one) t.is_built ∙ step_again t.partial one s.step;
          nodes_are = s.nodes_are;
        }

-- what is described is built
pub described_is_so : DescribedIsBuilt
described_is_so written t free h =
    let keys : h.keys ≡ sets_of (set_uses written) = determined same_set same_set-Decides (map (λ x. key_of x.1) (set_uses written)) h.keys h.keys_are in
    let labels : h.labels ≡ outcomes_of (outcome_uses written) = determined nat_eq Decides-eqb (map (λ x. x.1.label) (outcome_uses written)) h.labels h.labels_are in
    let sets : t.sets ≡ map finished_set (sets_so_far (set_uses written)) = h.sets_are ∙ ap (λ keys. map (λ key. described_set key (uses_of_set key (set_uses written))) keys) keys ∙ sym (sets_described (set_uses written)) in
    let described : IsDescribed written t.nodes free = record {
      nodes_stand = subst₂ (λ keys labels. AreNumberedFor keys labels t.nodes written) keys labels (numbered_for _ h.keys _ h.labels h.keys_are h.labels_are t.nodes written h.nodes_stand);
      in_order = rw sets at h.partial.in_prefix_order;
      few_nodes = h.partial.few_nodes;
      few_edges = h.partial.few_edges;
      sets_agree = h.sets_agree;
      outcomes_agree = h.outcomes_agree;
    } in
    let b = built_to written t.nodes free described in
    let from = from_uses written b.partial b.is_built in
    let order : AreInOrder b.partial.sets b.partial.nodes free = same_order _ b.partial.sets t.nodes b.partial.nodes free from.sets_are b.nodes_are described.in_order in
    let outcomes = h.outcomes_are ∙ ap (λ labels. map (λ label. described_outcome label (uses_of_outcome label (outcome_uses written))) labels) labels ∙ sym (outcomes_described (outcome_uses written)) in
    let tree : record { title = t.title; players = t.players; nodes = t.nodes; sets = t.sets; outcomes = t.outcomes } ≡ tree_so_far t.title t.players b.partial = rw (sets, outcomes, from.sets_are, from.outcomes_are, b.nodes_are) refl in
    record {
      partial = b.partial;
      is_built = b.is_built;
      tree_is = tree;
      free_is = order_once (map finished_set b.partial.sets) 0 b.partial.nodes root_branch _ _ order ((sound written b.partial b.is_built).in_order);
    }
