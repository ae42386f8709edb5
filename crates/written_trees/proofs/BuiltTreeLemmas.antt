-- What is built is described.
use Rattle.std.proofs.Common.{◌≡◌, ℕ, ◌<◌, ◌^◌, true, nat_eq, List, [], ◌∷◌, ◌++◌, length, map, slice_get, All, IfSome, Option, Some, None, refl, sym, ap, ◌∙◌, subst, arith}
use Rattle.std.proofs.lemmas.Bool.Decides.{Decides-eqb}
use Rattle.std.proofs.lemmas.List.{length-map}
use Rattle.std.proofs.lemmas.List.Elements.{All-nil, All-head, All-push, All-set, All-pop, All-map, All-weaker, All-get_or, All-filter, filter_passes}
use Rattle.std.proofs.lemmas.Option.{slice_get-map, slice_get_within, get_or_from_slice_get, same_Some}
use Rattle.written_trees.proofs.NumberedKeyLemmas.{sets_of, outcomes_of}
use Rattle.lists.proofs.OptionLemmas.{bind_some, chosen, mapped_some}
use Rattle.game_core.specs.declared.tree.Action.{Action}
use Rattle.game_core.specs.declared.tree.Node.{Node}
use Rattle.game_core.specs.Tree.{GameTree, InformationSet, IsBelow, ProbabilitiesFit, NodeFits, SetFits, IsPartialTree}
use Rattle.written_trees.specs.Written.{SetUse, OutcomeUse, WrittenNode}
use Rattle.written_trees.specs.Described.{SetKey, key_of, same_set, set_uses, outcome_uses, uses_of_set, uses_of_outcome, described_set, described_outcome, IsFirstList, AgreeOnActions, IsActionOf, IsActionList}
use Rattle.written_trees.specs.Building.{PartialSet, PartialOutcome, outcome_place, repeats_payoffs, new_outcome, used_outcome, with_outcome_use, use_outcome, use_some_outcome, open_branches, PartialTree, root_alone, add_nodes, finished_set, finished_outcome, tree_so_far}
use Rattle.written_trees.specs.Laws.{IsSetUse, IsOutcomeUse, IsWrittenNode, BuiltIsDescribed}
use Rattle.written_trees.proofs.UseStepLemmas.{partial_set, sets_so_far, AllAgree, partial_outcome, outcomes_so_far, PayoffsAgree}
use Rattle.written_trees.proofs.KeyOrderLemmas.{inserted}
use Rattle.written_trees.proofs.ListLemmas.{map-map}
use Rattle.written_trees.proofs.DepthLemmas.{few_edges_of}
use Rattle.written_trees.proofs.UseLemmas.{sets_more, outcomes_more, all_uses}
use Rattle.written_trees.proofs.SetUseLemmas.{same_set-Decides}
use Rattle.written_trees.proofs.StandingNodeLemmas.{StandsIn, Stand, stand_length, stand-push, stand_longer, stand_all, stand_for, IsUsedIn, all_used, set_within, outcome_within, kind_there}
use Rattle.written_trees.proofs.StepLemmas.{new_node, Step, grown, built_so}
use Rattle.written_trees.proofs.SoundTreeLemmas.{IsSound, sound}
use Rattle.written_trees.proofs.UseOrderLemmas.{sets-in_order, outcomes-in_order}

-- ---- what is partial beside the uses
-- the sets and the outcomes are those that the nodes use, whose uses agree, and the nodes stand for the written ones
pub record IsFromUses (written : List WrittenNode) (partial : PartialTree) : Type 0 where
  pub sets_are : partial.sets ≡ sets_so_far (set_uses written)
  pub outcomes_are : partial.outcomes ≡ outcomes_so_far (outcome_uses written)
  pub sets_agree : AllAgree (set_uses written)
  pub outcomes_agree : PayoffsAgree (outcome_uses written)
  pub nodes_stand : Stand written partial.nodes written

-- nothing but the root's branch
from_uses-nothing : IsFromUses [] root_alone
from_uses-nothing = record { sets_are = refl; outcomes_are = refl; sets_agree = λ key. tt; outcomes_agree = λ label. tt; nodes_stand = tt }

-- the new node stands for the written one
pub node_stands : (written : List WrittenNode) (partial : PartialTree) (one : WrittenNode) (s : Step partial one) → partial.sets ≡ sets_so_far (set_uses written) → partial.outcomes ≡ outcomes_so_far (outcome_uses written)
    → StandsIn (written ++ one ∷ []) (new_node partial one s.first) one
node_stands written partial one s sets outcomes = record {
  kind_is = refl;
  set_is = rw sets ((sets_more written one).number_is);
  outcome_is = rw outcomes ((outcomes_more written one).number_is);
}

-- a further node
from_uses-more : (written : List WrittenNode) (partial : PartialTree) (one : WrittenNode) (s : Step partial one) → IsFromUses written partial → IsFromUses (written ++ one ∷ []) (grown partial one s)
from_uses-more written partial one s h =
    let long : length partial.nodes ≡ length written = stand_length written partial.nodes written h.nodes_stand in
    let a = (sets_more written one).built s.sets h.sets_agree (rw (long, h.sets_are) at s.sets_are) in
    let b = (outcomes_more written one).built s.outcomes h.outcomes_agree (rw h.outcomes_are at s.outcomes_are) in
    record {
      sets_are = a.1;
      outcomes_are = b.1;
      sets_agree = a.0;
      outcomes_agree = b.0;
      nodes_stand = stand-push (written ++ one ∷ []) partial.nodes (new_node partial one s.first) written one (stand_longer partial.nodes written one h.nodes_stand) (node_stands written partial one s h.sets_are h.outcomes_are);
    }

-- what is built is from the uses
pub from_uses : (written : List WrittenNode) (partial : PartialTree) → add_nodes root_alone written ≡ Some partial → IsFromUses written partial
from_uses = built_so IsFromUses from_uses-nothing from_uses-more

-- its sets are the described ones at the end
pub sets_described : (uses : List (ℕ × SetUse)) → map finished_set (sets_so_far uses) ≡ map (λ key. described_set key (uses_of_set key uses)) (sets_of uses)
sets_described uses = map-map finished_set (λ key. partial_set key (uses_of_set key uses)) (sets_of uses)

-- and so are the outcomes
pub outcomes_described : (uses : List (ℕ × OutcomeUse)) → map finished_outcome (outcomes_so_far uses) ≡ map (λ label. described_outcome label (uses_of_outcome label uses)) (outcomes_of uses)
outcomes_described uses = map-map finished_outcome (λ label. partial_outcome label (uses_of_outcome label uses)) (outcomes_of uses)

-- ---- payoffs
-- each outcome pays so many players
abbrev pub PayAll : ℕ → List PartialOutcome → Type 0
PayAll n outcomes = All (λ outcome. length outcome.payoffs ≡ n) outcomes

-- a use of an outcome keeps that
pay-use : (n : ℕ) (outcomes others : List PartialOutcome) (used : OutcomeUse) → PayAll n outcomes → IsOutcomeUse n used → use_outcome outcomes used ≡ Some others → PayAll n others
pay-use n outcomes others used h u e = go (slice_get outcomes (outcome_place outcomes used.label)) refl e
  where
    go : (found : Option PartialOutcome) → slice_get outcomes (outcome_place outcomes used.label) ≡ found → with_outcome_use outcomes used found ≡ Some others → PayAll n others
    go None none is =
        let a = bind_some used.payoffs _ others is in
        let long : length a.0 ≡ n = rw a.1 at u in
        rw (← same_Some _ _ a.2) (All-push (λ outcome. length outcome.payoffs ≡ n) outcomes (new_outcome used a.0) h long)
    go (Some outcome) there is =
        let P = λ (one : PartialOutcome). length one.payoffs ≡ n in
        let p = outcome_place outcomes used.label in
        let long : length outcome.payoffs ≡ n = rw (get_or_from_slice_get outcomes p outcome outcome there) at (All-get_or P outcomes p outcome (slice_get_within outcomes p outcome there) h) in
        rw (← same_Some _ _ ((chosen (repeats_payoffs outcome.payoffs used.payoffs) _ others is).1)) (All-set P outcomes p (used_outcome used outcome) long h)

-- and so does what may be one
pay-some : (n : ℕ) (outcomes others : List PartialOutcome) (used : Option OutcomeUse) → PayAll n outcomes → IfSome used (IsOutcomeUse n) → use_some_outcome outcomes used ≡ Some others → PayAll n others
pay-some n outcomes others None h u e = rw (← same_Some _ _ e) h
pay-some n outcomes others (Some used) h u e = pay-use n outcomes others used h u e

-- in what is built each outcome pays each player
all_pay : (n : ℕ) (written : List WrittenNode) (partial : PartialTree) → add_nodes root_alone written ≡ Some partial → All (IsWrittenNode n) written → PayAll n partial.outcomes
all_pay n = built_so (λ written partial. All (IsWrittenNode n) written → PayAll n partial.outcomes) (λ h. All-nil (λ outcome. length outcome.payoffs ≡ n)) more
  where
    more : (written : List WrittenNode) (partial : PartialTree) (one : WrittenNode) (s : Step partial one) → (All (IsWrittenNode n) written → PayAll n partial.outcomes) → All (IsWrittenNode n) (written ++ one ∷ []) → PayAll n s.outcomes
    more written partial one s h are =
        let a = All-pop (IsWrittenNode n) (written ++ one ∷ []) written (Some one) refl are in
        pay-some n partial.outcomes s.outcomes one.outcome (h a.0) a.1.outcome_is s.outcomes_are

-- ---- sets
-- probabilities that fit
probabilities_fit : (owner : Option ℕ) (actions : List Action) → IsFirstList owner actions → All (IsActionOf owner) actions → ProbabilitiesFit owner actions
probabilities_fit None actions f h = f.is_distribution
probabilities_fit (Some i) actions f h = h

-- a set of one of so many players or of chance, with actions
pub record IsGoodSet (players : ℕ) (set : PartialSet) : Type 0 where
  pub owner_within : IsBelow players set.owner
  pub some_action : 0 < length set.actions
  pub probabilities : ProbabilitiesFit set.owner set.actions

-- the set of some uses that agree
good_set : (players : ℕ) (key : SetKey) (uses : List (ℕ × SetUse)) → All (λ x. same_set key (key_of x.1) ≡ true) uses → All (λ x. IsSetUse players x.1) uses → AgreeOnActions uses → 0 < length (map (λ x. x.0) uses) → IsGoodSet players (partial_set key uses)
good_set players key [] same are agree some = absurd (omega arith)
good_set players key (first ∷ later) same are agree some =
    let P = λ (x : ℕ × SetUse). same_set key (key_of x.1) ≡ true in
    let Q = λ (x : ℕ × SetUse). IsSetUse players x.1 in
    let owner : key.0 ≡ first.1.owner = ap (λ k. k.0) ((same_set-Decides key (key_of first.1)).0 (All-head P first later same)) in
    let of_first = All-head Q first later are in
    let list : IsActionList first.1.owner agree.0 = rw agree.1 at of_first.is_list in
    record {
      owner_within = rw owner of_first.owner_within;
      some_action = rw agree.1 list.some_action;
      probabilities = rw (owner, agree.1) (probabilities_fit first.1.owner agree.0 agree.2 list.are_of_owner);
    }

-- ---- the tree
module _ (title : List ℕ) (players : List (List ℕ)) (written : List WrittenNode) (partial : PartialTree) (are : All (IsWrittenNode (length players)) written) (built : add_nodes root_alone written ≡ Some partial) where
  -- the tree
  abbrev tree : GameTree
  tree = tree_so_far title players partial

  -- it is from the uses
  from : IsFromUses written partial
  from = from_uses written partial built

  -- what each tree keeps that is built
  kept : IsSound partial
  kept = sound written partial built

  -- each set is good
  sets_good : (s : ℕ) (set : PartialSet) → slice_get partial.sets s ≡ Some set → IsGoodSet (length players) set
  sets_good s set there =
      let F = λ (key : SetKey). partial_set key (uses_of_set key (set_uses written)) in
      let m = mapped_some F (slice_get (sets_of (set_uses written)) s) set (sym (slice_get-map F (sets_of (set_uses written)) s) ∙ ap (λ sets. slice_get sets s) (sym from.sets_are) ∙ there) in
      let some : 0 < length (F m.0).members = subst (λ (one : PartialSet). 0 < length one.members) (sym m.2) ((kept.have_members s set there).some) in
      let test = λ (x : ℕ × SetUse). same_set m.0 (key_of x.1) in
      let uses : All (λ x. IsSetUse (length players) x.1) (set_uses written) = all_uses (IsSetUse (length players)) (λ node. node.set) 0 written (All-weaker (IsWrittenNode (length players)) (λ node. IfSome node.set (IsSetUse (length players))) (λ node w. w.set_is) written are) in
      subst (IsGoodSet (length players)) m.2 (good_set (length players) m.0 (uses_of_set m.0 (set_uses written)) (filter_passes test (set_uses written)) (All-filter test (λ x. IsSetUse (length players) x.1) (set_uses written) uses) (from.sets_agree m.0) some)

  -- each set fits
  sets_fit : (s : ℕ) (set : InformationSet) → slice_get tree.sets s ≡ Some set → SetFits tree s set
  sets_fit s set e =
      let m = mapped_some finished_set (slice_get partial.sets s) set (sym (slice_get-map finished_set partial.sets s) ∙ e) in
      let good = sets_good s m.0 m.1 in
      let members = kept.have_members s m.0 m.1 in
      let fits : SetFits tree s (finished_set m.0) = record { owner_within = good.owner_within; some_action = good.some_action; probabilities = good.probabilities; members_are = members.are; some_member = members.some } in
      subst (SetFits tree s) m.2 fits

  -- each node fits
  nodes_fit : All (NodeFits tree) tree.nodes
  nodes_fit = stand_all written (IsUsedIn written) (NodeFits tree) fits partial.nodes written from.nodes_stand (all_used written)
    where
      sets_long : length tree.sets ≡ length (sets_of (set_uses written))
      sets_long = rw (from.sets_are, sets_described (set_uses written)) (length-map (sets_of (set_uses written)) _)

      outcomes_long : length tree.outcomes ≡ length (outcomes_of (outcome_uses written))
      outcomes_long = rw (from.outcomes_are, outcomes_described (outcome_uses written)) (length-map (outcomes_of (outcome_uses written)) _)

      owners : map (λ set. set.owner) tree.sets ≡ map (λ key. key.0) (sets_of (set_uses written))
      owners = rw (from.sets_are, sets_described (set_uses written)) (map-map _ _ (sets_of (set_uses written)))

      fits : (node : Node) (one : WrittenNode) → StandsIn written node one → IsUsedIn written one → NodeFits tree node
      fits node one s u = record {
        kind_is = rw s.set_is (s.kind_is ∙ kind_there (set_uses written) tree.sets one.set owners u.set_used);
        set_within = rw (s.set_is, sets_long) (set_within (set_uses written) one.set u.set_used);
        outcome_within = rw (s.outcome_is, outcomes_long) (outcome_within (outcome_uses written) one.outcome u.outcome_used);
      }

  -- it is a tree as far as it goes
  is_partial_tree : length players < 2 ^ 32 → IsPartialTree tree (open_branches partial.branchings)
  is_partial_tree few = record {
    in_prefix_order = kept.in_order;
    nodes_fit = nodes_fit;
    sets_fit = sets_fit;
    outcomes_fit = All-map (λ outcome. length outcome.payoffs ≡ length players) finished_outcome partial.outcomes (all_pay (length players) written partial built are);
    sets_in_order = sets-in_order written partial.nodes from.nodes_stand;
    outcomes_in_order = outcomes-in_order written partial.nodes from.nodes_stand;
    few_nodes = kept.few_nodes;
    few_sets = rw (length-map partial.sets finished_set) kept.few_sets;
    few_edges = λ d k lies. few_edges_of partial.nodes d k kept.lie lies;
    few_players = few;
  }

-- what is built is described
pub built_is_so : BuiltIsDescribed
built_is_so title players written partial few are built =
    let h = from_uses written partial built in
    record {
      keys = sets_of (set_uses written);
      labels = outcomes_of (outcome_uses written);
      keys_are = inserted same_set same_set-Decides (map (λ x. key_of x.1) (set_uses written));
      labels_are = inserted nat_eq Decides-eqb (map (λ x. x.1.label) (outcome_uses written));
      partial = is_partial_tree title players written partial are built few;
      nodes_stand = stand_for written partial.nodes written h.nodes_stand (all_used written);
      sets_are = rw h.sets_are (sets_described (set_uses written));
      outcomes_are = rw h.outcomes_are (outcomes_described (outcome_uses written));
      sets_agree = h.sets_agree;
      outcomes_agree = h.outcomes_agree;
    }
