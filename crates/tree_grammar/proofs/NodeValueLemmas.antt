-- Reading a node with places of faults gives what reading it without places does, where each set that is known has a list of
-- actions, and each outcome pays all players. Nodes that are added keep to that.
use Rattle.std.proofs.Common.{◌≡◌, ℕ, ◌-◌, ◌&&◌, nat_le, List, [], ◌∷◌, ◌++◌, length, slice_get, slice_set, codes, Option, Some, None, inl, inr, All, refl, sym, ◌∙◌, subst}
use Rattle.std.proofs.lemmas.Option.{cond_some, same_Some}
use Rattle.std.proofs.lemmas.List.Elements.{All-push, All-set, All-head, All-tail}
use Rattle.std.specs.Prelude.{Ok, Err, IfSome}
use Rattle.rational.specs.Rational.{ℚ}
use Rattle.game_core.specs.declared.tree.Action.{Action}
use Rattle.game_core.specs.declared.token.Token.{Token}
use Rattle.file_parts.specs.Reading.{word_at, text_at, whole_at}
use Rattle.file_parts.proofs.TokenReaderLemmas.{some_or_none}
use Rattle.file_parts.proofs.ValueLemmas.{value, value_chain, value_if}
use Rattle.written_trees.specs.Written.{SetUse, OutcomeUse, WrittenNode}
use Rattle.written_trees.specs.Described.{key_of, IsActionList}
use Rattle.written_trees.specs.Building.{PartialTree, PartialSet, PartialOutcome, Branching, set_place, outcome_place, new_set, used_set, new_outcome, used_outcome, may_be_first, repeats_actions, repeats_payoffs, with_use, use_some_set, with_outcome_use, use_some_outcome, with_node, add_at, add_node, add_nodes}
use Rattle.written_trees.specs.Laws.{IsSetUse, IsOutcomeUse, IsWrittenNode}
use Rattle.tree_grammar.proofs.PartValueLemmas.{set_part_at, set_choice_at, player_at, own_choice_at, choice_part_at, outcome_part_at, next_at}
use Rattle.tree_grammar.specs.TreeParsing.{parse_player, parse_set, parse_set_choice, parse_own_choice, parse_choice, parse_outcome, parse_next}
use Rattle.tree_grammar.specs.declared.kinds.EfgKind.TheVariants.{UnknownPlayer}
use Rattle.tree_grammar.proofs.ChoiceStepLemmas.{no_word, no_name, by_chance, by_player, at_end, no_node}
use Rattle.tree_grammar.proofs.NodeStepLemmas.{with_both, next_in_steps}
use Rattle.tree_grammar.proofs.NodesLaws.{parts_added}
use Rattle.tree_grammar.proofs.TreeValueLemmas.{AreListed, ArePaid, value_set, value_outcome}
use Rattle.lists.specs.Options.{◌>>=◌}
use Rattle.lists.proofs.OptionLemmas.{bind_some}
use Rattle.std.proofs.lemmas.Bool.{cases_Bool}
use Rattle.std.specs.Str.{bytes_eq}
use Rattle.lists.proofs.ElementLemmas.{all_at}

-- ---- a choice
pub value_player : (players : ℕ) (tokens : List Token) → value (parse_player players tokens) ≡ player_at players tokens
unfolding parse_player player_at
value_player players tokens = elim (some_or_none (whole_at tokens)) [
  | inl p ↦ rw p.1 (value_if (nat_le 1 p.0.0 && nat_le p.0.0 players) (Ok (p.0.0 - 1, p.0.1)) (Err (UnknownPlayer, tokens)) (Some (p.0.0 - 1, p.0.1)) None refl refl)
  | inr none ↦ rw none refl
]

value_set_choice : (k : ℕ) (sets : List PartialSet) (owner : Option ℕ) (tokens : List Token) → AreListed sets → value (parse_set_choice k sets owner tokens) ≡ set_choice_at k sets owner tokens
unfolding parse_set_choice
value_set_choice k sets owner tokens all = value_chain (parse_set k sets owner tokens) (set_part_at k sets owner tokens) _ _ (value_set k sets owner tokens all) (λ x. refl)

value_own_choice : (players k : ℕ) (sets : List PartialSet) (tokens : List Token) → AreListed sets → value (parse_own_choice players k sets tokens) ≡ own_choice_at players k sets tokens
unfolding parse_own_choice
value_own_choice players k sets tokens all = value_chain (parse_player players tokens) (player_at players tokens) _ _ (value_player players tokens) (λ player. value_set_choice k sets (Some player.0) player.1 all)

pub value_choice : (players k : ℕ) (sets : List PartialSet) (tokens : List Token) → AreListed sets → value (parse_choice players k sets tokens) ≡ choice_part_at players k sets tokens
unfolding parse_choice
value_choice players k sets tokens all = elim (some_or_none (word_at tokens)) [
  | inl w ↦ elim (some_or_none (text_at w.0.1)) [
    | inl n ↦ elim (cases_Bool (bytes_eq w.0.0 (codes "c"))) [
      | inl c ↦ rw (w.1, n.1, c) (value_set_choice k sets None n.0.1 all ∙ sym (by_chance players k sets tokens w.0 n.0 w.1 n.1 c))
      | inr c ↦ elim (cases_Bool (bytes_eq w.0.0 (codes "p"))) [
        | inl p ↦ rw (w.1, n.1, c, p) (value_own_choice players k sets n.0.1 all ∙ sym (by_player players k sets tokens w.0 n.0 w.1 n.1 c p))
        | inr p ↦ elim (cases_Bool (bytes_eq w.0.0 (codes "t"))) [
          | inl t ↦ rw (w.1, n.1, c, p, t) (sym (at_end players k sets tokens w.0 n.0 w.1 n.1 c p t))
          | inr t ↦ rw (w.1, n.1, c, p, t) (sym (no_node players k sets tokens w.0 n.0 w.1 n.1 c p t))
        ]
      ]
    ]
    | inr none ↦ rw (w.1, none) (sym (no_name players k sets tokens w.0 w.1 none))
  ]
  | inr none ↦ rw none (sym (no_word players k sets tokens none))
]

-- ---- a node
-- what is known of the sets and the outcomes so far
pub record Keeps (players : ℕ) (partial : PartialTree) : Type 0 where
  pub listed : AreListed partial.sets
  pub paid : ArePaid players partial.outcomes

pub value_next : (players : ℕ) (partial : PartialTree) (b : Branching) (rest : List Branching) (tokens : List Token) → partial.branchings ≡ b ∷ rest → Keeps players partial → value (parse_next players partial b rest tokens) ≡ next_at players partial tokens
unfolding parse_next
value_next players partial b rest tokens e k =
    value_chain (parse_choice players (length partial.nodes) partial.sets tokens) (choice_part_at players (length partial.nodes) partial.sets tokens) _ (λ c. outcome_part_at players partial.outcomes c.1 >>= λ o. with_both partial c o) (value_choice players (length partial.nodes) partial.sets tokens k.listed) (λ c.
    value_chain (parse_outcome players partial.outcomes c.1) (outcome_part_at players partial.outcomes c.1) _ (λ o. with_both partial c o) (value_outcome players partial.outcomes c.1 k.paid) (λ o. rw e refl))
    ∙ sym (next_in_steps players partial tokens)

-- ---- nodes that are added
-- the sets with the one that is used
sets_keep : (players k : ℕ) (sets more : List PartialSet) (used : SetUse) (found : Option PartialSet) → slice_get sets (set_place sets (key_of used)) ≡ found → IsSetUse players used → AreListed sets → with_use k sets used found ≡ Some more → AreListed more
sets_keep players k sets more used None f h all e =
    let a = bind_some used.actions _ more e in
    let s = cond_some (may_be_first used.owner a.0) (sets ++ new_set k used a.0 ∷ []) more a.2 in
    let list : IsActionList used.owner a.0 = subst (λ (o : Option (List Action)). IfSome o (IsActionList used.owner)) a.1 h.is_list in
    subst AreListed s.1 (All-push (λ (set : PartialSet). IsActionList set.owner set.actions) sets (new_set k used a.0) all list)
sets_keep players k sets more used (Some set) f h all e =
    let place = set_place sets (key_of used) in
    let s = cond_some (repeats_actions set.actions used.actions) (slice_set sets place (used_set k used set)) more e in
    let list : IsActionList set.owner set.actions = all_at (λ (s : PartialSet). IsActionList s.owner s.actions) sets place set all f in
    subst AreListed s.1 (All-set (λ (set : PartialSet). IsActionList set.owner set.actions) sets place (used_set k used set) list all)

some_set_keeps : (players k : ℕ) (sets more : List PartialSet) (used : Option SetUse) → IfSome used (IsSetUse players) → AreListed sets → use_some_set k sets used ≡ Some more → AreListed more
some_set_keeps players k sets more None h all e = subst AreListed (same_Some _ _ e) all
some_set_keeps players k sets more (Some used) h all e = sets_keep players k sets more used (slice_get sets (set_place sets (key_of used))) refl h all e

-- the outcomes with the one that is used
outcomes_keep : (players : ℕ) (outcomes more : List PartialOutcome) (used : OutcomeUse) (found : Option PartialOutcome) → slice_get outcomes (outcome_place outcomes used.label) ≡ found → IsOutcomeUse players used → ArePaid players outcomes → with_outcome_use outcomes used found ≡ Some more → ArePaid players more
outcomes_keep players outcomes more used None f h all e =
    let a = bind_some used.payoffs _ more e in
    let paid : length a.0 ≡ players = subst (λ (o : Option (List ℚ)). IfSome o (λ payoffs. length payoffs ≡ players)) a.1 h in
    subst (ArePaid players) (same_Some _ _ a.2) (All-push (λ (o : PartialOutcome). length o.payoffs ≡ players) outcomes (new_outcome used a.0) all paid)
outcomes_keep players outcomes more used (Some outcome) f h all e =
    let place = outcome_place outcomes used.label in
    let s = cond_some (repeats_payoffs outcome.payoffs used.payoffs) (slice_set outcomes place (used_outcome used outcome)) more e in
    let paid : length outcome.payoffs ≡ players = all_at (λ (o : PartialOutcome). length o.payoffs ≡ players) outcomes place outcome all f in
    subst (ArePaid players) s.1 (All-set (λ (o : PartialOutcome). length o.payoffs ≡ players) outcomes place (used_outcome used outcome) paid all)

some_outcome_keeps : (players : ℕ) (outcomes more : List PartialOutcome) (used : Option OutcomeUse) → IfSome used (IsOutcomeUse players) → ArePaid players outcomes → use_some_outcome outcomes used ≡ Some more → ArePaid players more
some_outcome_keeps players outcomes more None h all e = subst (ArePaid players) (same_Some _ _ e) all
some_outcome_keeps players outcomes more (Some used) h all e = outcomes_keep players outcomes more used (slice_get outcomes (outcome_place outcomes used.label)) refl h all e

added_keeps : (players : ℕ) (partial next : PartialTree) (node : WrittenNode) (branchings : List Branching) → IsWrittenNode players node → Keeps players partial → add_at partial node branchings ≡ Some next → Keeps players next
added_keeps players partial next node [] h k e = cc
added_keeps players partial next node (b ∷ rest) h k e =
    let s = bind_some (use_some_set (length partial.nodes) partial.sets node.set) _ next e in
    let o = bind_some (use_some_outcome partial.outcomes node.outcome) _ next s.2 in
    let kept : Keeps players (with_node partial node b rest s.0 o.0) = record {
      listed = some_set_keeps players (length partial.nodes) partial.sets s.0 node.set h.set_is k.listed s.1;
      paid = some_outcome_keeps players partial.outcomes o.0 node.outcome h.outcome_is k.paid o.1;
    } in
    subst (Keeps players) (same_Some _ _ o.2) kept

pub node_keeps : (players : ℕ) (partial next : PartialTree) (node : WrittenNode) → IsWrittenNode players node → Keeps players partial → add_node partial node ≡ Some next → Keeps players next
node_keeps players partial next node h k e = added_keeps players partial next node partial.branchings h k e

pub nodes_keep : (players : ℕ) (written : List WrittenNode) (partial more : PartialTree) → All (IsWrittenNode players) written → Keeps players partial → add_nodes partial written ≡ Some more → Keeps players more
nodes_keep players [] partial more h k e = subst (Keeps players) (same_Some _ _ e) k
nodes_keep players (one ∷ written) partial more h k e =
    let a = parts_added partial more one written e in
    nodes_keep players written a.next more (All-tail (IsWrittenNode players) one written h) (node_keeps players partial a.next one (All-head (IsWrittenNode players) one written h) k a.added) a.others
