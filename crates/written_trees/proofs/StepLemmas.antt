-- Building, a node at a time from the end.
use Rattle.std.proofs.Common.{◌≡◌, ◌<◌, ◌≤◌, nat_lt, nat_le, Bool, true, false, cond, List, [], ◌∷◌, ◌++◌, length, Option, Some, None, option_map, refl, sym, ◌∙◌, subst, arith}
use Rattle.std.proofs.lemmas.Bool.Decides.{nat_tests}
use Rattle.std.proofs.lemmas.Option.{same_Some}
use Rattle.lists.specs.Options.{◌>>=◌}
use Rattle.lists.proofs.OptionLemmas.{bind_some, bind_last}
use Rattle.game_core.specs.declared.tree.Node.{Node}
use Rattle.game_core.specs.declared.too_large.What.{What}
use Rattle.game_core.specs.declared.too_large.What.TheVariants.{Nodes, Depth}
use Rattle.game_core.specs.Tree.{most_nodes, most_depth}
use Rattle.written_trees.specs.Written.{WrittenNode}
use Rattle.written_trees.specs.Described.{key_of, kind_of_use}
use Rattle.written_trees.specs.Building.{set_place, outcome_place, PartialSet, PartialOutcome, Branching, PartialTree, root_alone, use_some_set, use_some_outcome, with_node, add_at, add_node, passed_at, passed, within_limits, add_nodes}
use Rattle.written_trees.proofs.ListLemmas.{at_end}

-- a further node within the limits
abbrev pub next_node : PartialTree → WrittenNode → Option PartialTree
next_node partial one = within_limits (passed partial) (add_node partial one)

-- chains of chains
bind_bind : {A B C : Type 0} (o : Option A) (f : A → Option B) (g : B → Option C) → (o >>= λ x. f x >>= g) ≡ ((o >>= f) >>= g)
bind_bind None f g = refl
bind_bind (Some x) f g = refl

-- the same follows
bind_same : {A B : Type 0} (o : Option A) (f g : A → Option B) → ((x : A) → f x ≡ g x) → (o >>= f) ≡ (o >>= g)
bind_same None f g h = refl
bind_same (Some x) f g h = h x

-- the last node is added to the tree of the others
pub add_nodes-push : (written : List WrittenNode) (partial : PartialTree) (one : WrittenNode) → add_nodes partial (written ++ one ∷ []) ≡ (add_nodes partial written >>= λ next. next_node next one)
add_nodes-push [] partial one = bind_last (next_node partial one)
add_nodes-push (node ∷ written) partial one =
    bind_same (next_node partial node) _ _ (λ next. add_nodes-push written next one) ∙ bind_bind (next_node partial node) (λ next. add_nodes next written) (λ next. next_node next one)

-- the node that is added at a place
abbrev pub new_node : PartialTree → WrittenNode → Branching → Node
new_node partial one b = record {
  kind = kind_of_use one.set;
  parent = b.node;
  branch = b.next;
  set = option_map (λ used. set_place partial.sets (key_of used)) one.set;
  outcome = option_map (λ used. outcome_place partial.outcomes used.label) one.outcome;
}

-- what a further node meets: an open branch, room for it, and sets and outcomes that it may use
pub record Step (partial : PartialTree) (one : WrittenNode) : Type 0 where
  pub first : Branching
  pub rest : List Branching
  pub sets : List PartialSet
  pub outcomes : List PartialOutcome
  pub branchings_are : partial.branchings ≡ first ∷ rest
  pub more_nodes : length partial.nodes < most_nodes
  pub few_edges : first.depth ≤ most_depth
  pub sets_are : use_some_set (length partial.nodes) partial.sets one.set ≡ Some sets
  pub outcomes_are : use_some_outcome partial.outcomes one.outcome ≡ Some outcomes

-- the tree with the node
abbrev pub grown : (partial : PartialTree) (one : WrittenNode) → Step partial one → PartialTree
grown partial one s = with_node partial one s.first s.rest s.sets s.outcomes

-- no limit is passed
abbrev pub HasRoom : PartialTree → Branching → Type 0
HasRoom partial b = (length partial.nodes < most_nodes) × (b.depth ≤ most_depth)

-- where nothing is passed there is room
room : (partial : PartialTree) (b : Branching) (rest : List Branching) → passed_at partial (b ∷ rest) ≡ None → HasRoom partial b
room partial b rest e = go (nat_le most_nodes (length partial.nodes)) (nat_lt most_depth b.depth) refl refl e
  where
    go : (v w : Bool) → nat_le most_nodes (length partial.nodes) ≡ v → nat_lt most_depth b.depth ≡ w → cond v (Some Nodes) (cond w (Some Depth) None) ≡ None → HasRoom partial b
    go true w p q h = cc
    go false true p q h = cc
    go false false p q h = (grind (arith, nat_tests), grind (arith, nat_tests))

-- and the other way round
room_again : (partial : PartialTree) (b : Branching) (rest : List Branching) → HasRoom partial b → passed_at partial (b ∷ rest) ≡ None
room_again partial b rest h =
    let p : nat_le most_nodes (length partial.nodes) ≡ false = grind (arith, nat_tests) in
    let q : nat_lt most_depth b.depth ≡ false = grind (arith, nat_tests) in
    rw (p, q) refl

-- nothing was passed
pub allowed : {A : Type 0} (p : Option What) (o : Option A) (x : A) → within_limits p o ≡ Some x → (p ≡ None) × (o ≡ Some x)
allowed None o x e = (refl, e)
allowed (Some what) o x e = cc

-- a node was added in a step
step_is : (partial : PartialTree) (one : WrittenNode) (next : PartialTree) → next_node partial one ≡ Some next → (s : Step partial one) × (grown partial one s ≡ next)
step_is partial one next e = go partial.branchings refl e
  where
    go : (branchings : List Branching) → partial.branchings ≡ branchings → within_limits (passed_at partial branchings) (add_at partial one branchings) ≡ Some next → (s : Step partial one) × (grown partial one s ≡ next)
    go [] is h = cc
    go (b ∷ rest) is h =
        let p = allowed (passed_at partial (b ∷ rest)) (add_at partial one (b ∷ rest)) next h in
        let r = room partial b rest p.0 in
        let s = bind_some (use_some_set (length partial.nodes) partial.sets one.set) _ next p.1 in
        let o = bind_some (use_some_outcome partial.outcomes one.outcome) _ next s.2 in
        (record { first = b; rest = rest; sets = s.0; outcomes = o.0; branchings_are = is; more_nodes = r.0; few_edges = r.1; sets_are = s.1; outcomes_are = o.1 }, same_Some _ _ o.2)

-- and each step adds a node
pub step_again : (partial : PartialTree) (one : WrittenNode) (s : Step partial one) → next_node partial one ≡ Some (grown partial one s)
step_again partial one s = rw (s.branchings_are, room_again partial s.first s.rest (s.more_nodes, s.few_edges), s.sets_are, s.outcomes_are) refl

-- what holds at first, and after each step, holds of what was built
pub built_so : (P : List WrittenNode → PartialTree → Type 0) → P [] root_alone → ((written : List WrittenNode) (partial : PartialTree) (one : WrittenNode) (s : Step partial one) → P written partial → P (written ++ one ∷ []) (grown partial one s))
    → (written : List WrittenNode) (partial : PartialTree) → add_nodes root_alone written ≡ Some partial → P written partial
built_so P none more = at_end (λ written. (partial : PartialTree) → add_nodes root_alone written ≡ Some partial → P written partial) (λ partial e. subst (P []) (same_Some _ _ e) none) last
  where
    last : (written : List WrittenNode) (one : WrittenNode) → ((partial : PartialTree) → add_nodes root_alone written ≡ Some partial → P written partial) → (partial : PartialTree) → add_nodes root_alone (written ++ one ∷ []) ≡ Some partial → P (written ++ one ∷ []) partial
    last written one h partial e =
        let b = bind_some (add_nodes root_alone written) (λ next. next_node next one) partial (sym (add_nodes-push written root_alone one) ∙ e) in
        let s = step_is b.0 one partial b.2 in
        subst (P (written ++ one ∷ [])) s.1 (more written b.0 one s.0 (h b.0 b.1))
