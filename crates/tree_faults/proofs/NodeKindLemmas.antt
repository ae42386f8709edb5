-- The kinds among the nodes are those that reading names.
use Rattle.std.proofs.Common.{◌≡◌, ℕ, suc, ◌-◌, ◌<◌, ◌≤◌, ◌&&◌, nat_le, nat_eq, slice_get, slice_set, List, [], ◌∷◌, ◌++◌, length, length-append, Option, Some, None, ◌⊎◌, inl, inr, refl, sym, ap, ◌∙◌, subst, append_assoc, arith}
use Rattle.std.specs.Prelude.{Ok, Err, codes}
use Rattle.std.specs.List.{flat_map}
use Rattle.std.proofs.lemmas.Bool.{cases_Bool}
use Rattle.std.proofs.lemmas.Bool.Decides.{Decides-eqb}
use Rattle.lists.proofs.ElementLemmas.{all_at}
use Rattle.rational.specs.Rational.{ℚ, ◌+ℚ◌}
use Rattle.frac128.specs.Steps.{AddFits, step_of}
use Rattle.frac128.specs.declared.steps.Op.TheVariants.{Add}
use Rattle.game_core.specs.declared.tree.Action.{Action}
use Rattle.game_core.specs.declared.token.Token.{Token}
use Rattle.game_core.specs.declared.token.Token.TheVariants.{Left, Text, Word}
use Rattle.file_parts.specs.Parts.{whole_number}
use Rattle.file_parts.proofs.TokenLaws.{whole_again}
use Rattle.written_trees.specs.Written.{SetUse, OutcomeUse}
use Rattle.written_trees.specs.Described.{key_of, set_uses, outcome_uses, uses_of_set, uses_of_outcome}
use Rattle.written_trees.specs.Building.{PartialSet, PartialOutcome, root_alone, set_place, outcome_place, new_set, used_set, new_outcome, used_outcome}
use Rattle.written_trees.proofs.UseStepLemmas.{partial_set, sets_so_far, partial_outcome, outcomes_so_far}
use Rattle.written_trees.proofs.FirstUseLemmas.{new_place, known_place}
use Rattle.written_trees.proofs.OutcomeUseLemmas.{outcome_step}
use Rattle.written_trees.proofs.BuiltTreeLemmas.{from_uses}
use Rattle.tree_grammar.specs.TreeFile.{action_tokens}
use Rattle.tree_grammar.specs.TreeParsing.{parse_list_of, parse_first_list, parse_later_list, bare_use, parse_use, parse_player, parse_set_choice, parse_own_choice, parse_choice, parse_first_payoffs, parse_later_payoffs, bare_outcome_use, parse_outcome_use}
use Rattle.tree_faults.specs.TreeFaults.{StopsAtPlayer, StopsAtSet, StopsAtOutcome, HasActions, WantsProbability, HasPayoffs}
use Rattle.tree_faults.specs.FaultKinds.{TextComes, BraceComes, NumberComes, DiffersFromFirst, sum_of, StopsInChances, SumsTo, PaysOtherwise, IsNodeKind}
use Rattle.file_parts.specs.Faults.{WholeComes}
use Rattle.tree_grammar.specs.declared.kinds.EfgKind.{EfgKind}
use Rattle.tree_grammar.specs.declared.kinds.EfgKind.TheVariants.{UnknownPlayer, SetMismatch, Probability, ProbabilityRange, OutcomeMismatch}
use Rattle.tree_grammar.proofs.SetLaws.{IsBare, optional_text_again}
use Rattle.tree_grammar.proofs.OutcomeLaws.{outcome_bare}
use Rattle.tree_grammar.proofs.NodeLaws.{inner_begins, choice_begins}
use Rattle.tree_grammar.proofs.NodesLaws.{all_written}
use Rattle.tree_grammar.proofs.NodeValueLemmas.{nodes_keep}
use Rattle.tree_faults.proofs.PartReaderLemmas.{own_list_reader, first_payoffs_reader}
use Rattle.tree_faults.proofs.ChanceReaderLemmas.{chance_list_reader}
use Rattle.tree_faults.proofs.NodeReaderLemmas.{first_list_reader}
use Rattle.tree_grammar.proofs.NodesReadLaws.{nothing_keeps}
use Rattle.tree_faults.proofs.TokenEndLemmas.{Within, reader_within, pure_within, set_choice_within}
use Rattle.tree_faults.proofs.StopLemmas.{GoesTo, goes_before, stop_kind, not_after}
use Rattle.tree_faults.proofs.RunLemmas.{found_none, found_some, run_to}
use Rattle.tree_faults.proofs.ChanceListLemmas.{sum_stops, probability_kind, brace_kind}
use Rattle.tree_faults.proofs.RepeatedListLemmas.{later_kind, later_number_kind}
use Rattle.tree_faults.proofs.PayoffListLemmas.{PayoffComes, first_payoffs_kind, later_payoffs_kind, lacks_payoffs}
use Rattle.tree_faults.proofs.NodeRunLemmas.{after_label, goes_by, choice_goes, next_goes, outcome_comes, outcome_goes}
use Rattle.tree_faults.proofs.LocatedReadingLemmas.{located_tree}

-- ---- what is found
-- of a set with these uses
abbrev pub found_of : SetUse → List (ℕ × SetUse) → Option PartialSet
found_of used [] = None
found_of used (first ∷ later) = Some (partial_set (key_of used) (first ∷ later))

pub found_is : (uses : List (ℕ × SetUse)) (used : SetUse) (earlier : List (ℕ × SetUse)) → earlier ≡ uses_of_set (key_of used) uses → slice_get (sets_so_far uses) (set_place (sets_so_far uses) (key_of used)) ≡ found_of used earlier
found_is uses used [] e = found_none uses used (sym e)
found_is uses used (first ∷ later) e = found_some uses used first later (sym e)

-- of an outcome with these uses
abbrev pub outcome_of : OutcomeUse → List (ℕ × OutcomeUse) → Option PartialOutcome
outcome_of used [] = None
outcome_of used (first ∷ later) = Some (partial_outcome used.label (first ∷ later))

pub outcome_found : (uses : List (ℕ × OutcomeUse)) (used : OutcomeUse) (earlier : List (ℕ × OutcomeUse)) → earlier ≡ uses_of_outcome used.label uses → slice_get (outcomes_so_far uses) (outcome_place (outcomes_so_far uses) used.label) ≡ outcome_of used earlier
outcome_found uses used [] e = ap (slice_get (outcomes_so_far uses)) (outcome_step uses 0 used).place_is ∙ new_place nat_eq (λ (u : OutcomeUse). u.label) Decides-eqb partial_outcome uses 0 used (sym e)
outcome_found uses used (first ∷ later) e = ap (slice_get (outcomes_so_far uses)) (outcome_step uses 0 used).place_is ∙ known_place nat_eq (λ (u : OutcomeUse). u.label) Decides-eqb partial_outcome uses 0 used first later (sym e)

-- ---- at a set
-- reading goes on to the list of the set
abbrev SetIsRead : SetUse → List (ℕ × SetUse) → List Token → EfgKind → List Token → Type 0
SetIsRead used earlier more kind rest = (k : ℕ) × (sets : List PartialSet) × GoesTo (parse_use k sets (bare_use used.owner used.label (after_label used.name more).0) (found_of used earlier) (after_label used.name more).1) kind rest

set_point : (before : List Token) (used : SetUse) (earlier : List (ℕ × SetUse)) (list : List Token) → StopsAtSet before used earlier list → (kind : EfgKind) (t : Token) (r : List Token) → located_tree (before ++ t ∷ r) ≡ Err (kind, t ∷ r) → SetIsRead used earlier (list ++ t ∷ r) kind (t ∷ r)
set_point before used earlier list s kind t r e =
    let players = length s.tree.players in
    let tail : List Token = list ++ t ∷ r in
    let tokens : before ++ t ∷ r ≡ s.partial ++ (s.front ++ tail) = ap (λ (q : List Token). q ++ t ∷ r) s.are_tokens ∙ append_assoc (s.partial ++ s.front) list (t ∷ r) ∙ append_assoc s.partial s.front tail in
    let word = inner_begins players used.owner s.front used s.is_front in
    let bare : IsBare (s.front ++ tail) = rw word.is (record { no_text = refl; no_list = refl }) in
    let size : length s.front ≡ suc (length word.tail) = ap length word.is in
    let n = run_to s.partial (s.front ++ tail) s.tree s.free s.is_partial kind t r bare (omega (arith, size, length-append s.front tail, length-append list (t ∷ r))) (ap located_tree (sym tokens) ∙ e) in
    let from = from_uses s.is_partial.written n.more n.added in
    let found : slice_get n.more.sets (set_place n.more.sets (key_of used)) ≡ found_of used earlier = ap (λ (sets : List PartialSet). slice_get sets (set_place sets (key_of used))) from.sets_are ∙ found_is (set_uses s.is_partial.written) used earlier s.earlier_are in
    let goes = choice_goes players (length n.more.nodes) n.more.sets used s.front tail (t ∷ r) kind s.is_front s.no_list (next_goes players n.more n.first n.others (s.front ++ tail) (t ∷ r) kind n.goes) in
    (length n.more.nodes, n.more.sets, subst (λ (o : Option PartialSet). GoesTo (parse_use (length n.more.nodes) n.more.sets (bare_use used.owner used.label (after_label used.name tail).0) o (after_label used.name tail).1) kind (t ∷ r)) found goes)

-- the first list, or a later one
first_goes : (used : SetUse) (more rest : List Token) (kind : EfgKind) → SetIsRead used [] more kind rest → GoesTo (parse_first_list used.owner used.label (after_label used.name more).1) kind rest
first_goes used more rest kind p = goes_before (parse_first_list used.owner used.label (after_label used.name more).1) (λ actions tokens. Ok (p.1 ++ new_set p.0 (bare_use used.owner used.label (after_label used.name more).0) actions ∷ [], tokens)) kind rest (λ _. pure_within _) p.2

later_goes : (used : SetUse) (first : ℕ × SetUse) (later : List (ℕ × SetUse)) (more rest : List Token) (kind : EfgKind) → SetIsRead used (first ∷ later) more kind rest → GoesTo (parse_later_list used.owner (partial_set (key_of used) (first ∷ later)).actions (after_label used.name more).1) kind rest
later_goes used first later more rest kind p = goes_before (parse_later_list used.owner (partial_set (key_of used) (first ∷ later)).actions (after_label used.name more).1) (λ _ tokens. Ok (slice_set p.1 (set_place p.1 (key_of used)) (used_set p.0 (bare_use used.owner used.label (after_label used.name more).0) (partial_set (key_of used) (first ∷ later))), tokens)) kind rest (λ _. pure_within _) p.2

-- after a name no text is a second one
opened_label : (name : Option (List ℕ)) (inner rest list : List Token) → list ≡ Left ∷ inner → (after_label name (list ++ rest)).1 ≡ Left ∷ (inner ++ rest)
opened_label name inner rest list e = ap (λ (q : List Token). (after_label name (q ++ rest)).1) e ∙ ap (λ (z : Option (List ℕ) × List Token). z.1) (optional_text_again name (Left ∷ (inner ++ rest)) refl)

-- the first list is wanted
list_within : (owner : Option ℕ) (set : ℕ) → Within (parse_list_of owner set)
list_within None set = reader_within (parse_list_of None set) (chance_list_reader set)
list_within (Some i) set = reader_within (parse_list_of (Some i) set) own_list_reader

lacks_list : (owner : Option ℕ) (set : ℕ) (t : Token) (r : List Token) (kind : EfgKind) → GoesTo (parse_first_list owner set (t ∷ r)) kind (t ∷ r) → kind ≡ SetMismatch
unfolding parse_first_list
lacks_list owner set Left r kind g = absurd (not_after (parse_list_of owner set) (list_within owner set) kind Left r g)
lacks_list owner set t r kind g = stop_kind (parse_first_list owner set (t ∷ r)) kind SetMismatch (t ∷ r) (t ∷ r) refl g

lacks_after : (owner : Option ℕ) (set : ℕ) (name : Option (List ℕ)) (t : Token) (r : List Token) (kind : EfgKind) → GoesTo (parse_first_list owner set (after_label name (t ∷ r)).1) kind (t ∷ r) → kind ≡ SetMismatch
lacks_after owner set (Some text) t r kind g = lacks_list owner set t r kind g
lacks_after owner set None (Text text) r kind g = absurd (not_after (parse_first_list owner set) (reader_within (parse_first_list owner set) (first_list_reader owner set chance_list_reader (λ _ _. own_list_reader))) kind (Text text) r g)
lacks_after owner set None t r kind g = lacks_list owner set t r kind g

-- a later list differs
differs : (before : List Token) (t : Token) (r : List Token) (kind : EfgKind) → DiffersFromFirst before (t ∷ r) → located_tree (before ++ t ∷ r) ≡ Err (kind, t ∷ r) → kind ≡ SetMismatch
differs before t r kind d e = by d.6
  where
    used : SetUse
    used = d.0

    own : List Action
    own = (partial_set (key_of used) (d.1 ∷ d.2)).actions

    goes : GoesTo (parse_later_list used.owner own (after_label used.name (d.4 ++ t ∷ r)).1) kind (t ∷ r)
    goes = later_goes d.0 d.1 d.2 (d.4 ++ t ∷ r) (t ∷ r) kind (set_point before d.0 (d.1 ∷ d.2) d.4 d.5 kind t r e)

    by : ((HasActions used.owner d.3 d.4 × (TextComes (t ∷ r) ⊎ BraceComes (t ∷ r))) ⊎ ((used.owner ≡ None) × WantsProbability d.3 d.4 × (v : ℚ) × NumberComes v (t ∷ r))) → kind ≡ SetMismatch
    by (inl h) =
        let label = opened_label used.name (flat_map (action_tokens used.owner) d.3) (t ∷ r) d.4 h.0 in
        later_kind used.owner own d.3 (t ∷ r) kind h.1 (subst (λ (q : List Token). GoesTo (parse_later_list used.owner own q) kind (t ∷ r)) label goes)
    by (inr h) =
        let inner : List Token = flat_map (action_tokens None) d.3 ++ Text h.1.0 ∷ [] in
        let label = opened_label used.name inner (t ∷ r) d.4 h.1.1 in
        let all : Left ∷ (inner ++ t ∷ r) ≡ Left ∷ (flat_map (action_tokens None) d.3 ++ Text h.1.0 ∷ (t ∷ r)) = ap (λ (q : List Token). Left ∷ q) (append_assoc (flat_map (action_tokens None) d.3) (Text h.1.0 ∷ []) (t ∷ r)) in
        let there : GoesTo (parse_later_list None own (Left ∷ (flat_map (action_tokens None) d.3 ++ Text h.1.0 ∷ (t ∷ r)))) kind (t ∷ r) = subst (λ (o : Option ℕ). GoesTo (parse_later_list o own (Left ∷ (flat_map (action_tokens None) d.3 ++ Text h.1.0 ∷ (t ∷ r)))) kind (t ∷ r)) h.0 (subst (λ (q : List Token). GoesTo (parse_later_list used.owner own q) kind (t ∷ r)) (label ∙ all) goes) in
        later_number_kind own d.3 h.1.0 h.2 h.3.0 kind (subst (λ (q : List Token). GoesTo (parse_later_list None own (Left ∷ (flat_map (action_tokens None) d.3 ++ Text h.1.0 ∷ q))) kind q) h.3.1 there)

-- ---- in a first list of chance
-- a probability comes
chance_number : (before : List Token) (t : Token) (r : List Token) (kind : EfgKind) (set : ℕ) (actions : List Action) (v : ℚ) → StopsInChances before set actions (WantsProbability actions) → NumberComes v (t ∷ r) → located_tree (before ++ t ∷ r) ≡ Err (kind, t ∷ r)
    → (AddFits (sum_of actions) v × (kind ≡ Probability set (sum_of actions +ℚ v))) ⊎ ((AddFits (sum_of actions) v → ⊥) × (kind ≡ ProbabilityRange set (step_of Add (sum_of actions) v)))
chance_number before t r kind set actions v s n e =
    let used = s.0 in
    let name = s.5.0 in
    let inner : List Token = flat_map (action_tokens None) actions ++ Text name ∷ [] in
    let label = opened_label used.name inner (t ∷ r) s.1 s.5.1 in
    let all : Left ∷ (inner ++ t ∷ r) ≡ Left ∷ (flat_map (action_tokens None) actions ++ Text name ∷ (t ∷ r)) = ap (λ (q : List Token). Left ∷ q) (append_assoc (flat_map (action_tokens None) actions) (Text name ∷ []) (t ∷ r)) in
    let goes = first_goes used (s.1 ++ t ∷ r) (t ∷ r) kind (set_point before used [] s.1 s.2 kind t r e) in
    let there = subst (λ (q : List Token). GoesTo (parse_first_list used.owner used.label q) kind (t ∷ r)) (label ∙ all) goes in
    let own = subst (λ (o : Option ℕ). GoesTo (parse_first_list o used.label (Left ∷ (flat_map (action_tokens None) actions ++ Text name ∷ (t ∷ r)))) kind (t ∷ r)) s.3 there in
    let its = subst (λ (m : ℕ). GoesTo (parse_first_list None m (Left ∷ (flat_map (action_tokens None) actions ++ Text name ∷ (t ∷ r)))) kind (t ∷ r)) s.4 own in
    sum_stops set (sum_of actions) v kind (probability_kind set actions name v n.0 kind (subst (λ (q : List Token). GoesTo (parse_first_list None set (Left ∷ (flat_map (action_tokens None) actions ++ Text name ∷ q))) kind q) n.1 its))

-- the brace comes
chance_brace : (before : List Token) (t : Token) (r : List Token) (kind : EfgKind) (set : ℕ) (actions : List Action) → StopsInChances before set actions (HasActions None actions) → 1 ≤ length actions → BraceComes (t ∷ r) → located_tree (before ++ t ∷ r) ≡ Err (kind, t ∷ r) → kind ≡ Probability set (sum_of actions)
chance_brace before t r kind set actions s some b e =
    let used = s.0 in
    let inner : List Token = flat_map (action_tokens None) actions in
    let label = opened_label used.name inner (t ∷ r) s.1 s.5 in
    let goes = first_goes used (s.1 ++ t ∷ r) (t ∷ r) kind (set_point before used [] s.1 s.2 kind t r e) in
    let there = subst (λ (q : List Token). GoesTo (parse_first_list used.owner used.label q) kind (t ∷ r)) label goes in
    let own = subst (λ (o : Option ℕ). GoesTo (parse_first_list o used.label (Left ∷ (inner ++ t ∷ r))) kind (t ∷ r)) s.3 there in
    let its = subst (λ (m : ℕ). GoesTo (parse_first_list None m (Left ∷ (inner ++ t ∷ r))) kind (t ∷ r)) s.4 own in
    brace_kind set actions b.0 kind some (subst (λ (q : List Token). GoesTo (parse_first_list None set (Left ∷ (inner ++ q))) kind q) b.1 its)

-- the sum is told
sums : (before : List Token) (t : Token) (r : List Token) (kind : EfgKind) (set : ℕ) (sum : ℚ) → SumsTo before (t ∷ r) set sum → located_tree (before ++ t ∷ r) ≡ Err (kind, t ∷ r) → kind ≡ Probability set sum
sums before t r kind set sum h e = elim h.1 [
  | inl p ↦ elim (chance_number before t r kind set h.0 p.1 p.0 p.2 e) [
    | inl k ↦ k.1 ∙ ap (λ (q : ℚ). Probability set q) (sym p.4)
    | inr k ↦ absurd (k.0 p.3)
  ]
  | inr b ↦ chance_brace before t r kind set h.0 b.0 b.1 b.2 e ∙ ap (λ (q : ℚ). Probability set q) (sym b.3)
]

-- ---- at an outcome
-- reading goes on to the outcome's payoffs
abbrev OutcomeIsRead : ℕ → OutcomeUse → List (ℕ × OutcomeUse) → List Token → EfgKind → List Token → Type 0
OutcomeIsRead players used earlier more kind rest = (outcomes : List PartialOutcome)
    × GoesTo (parse_outcome_use players outcomes (bare_outcome_use used.label (after_label used.name more).0) (outcome_of used earlier) (after_label used.name more).1) kind rest
    × ((outcome : PartialOutcome) → outcome_of used earlier ≡ Some outcome → length outcome.payoffs ≡ players)

outcome_point : (before : List Token) (used : OutcomeUse) (earlier : List (ℕ × OutcomeUse)) (list : List Token) (s : StopsAtOutcome before used earlier list) (kind : EfgKind) (t : Token) (r : List Token) → located_tree (before ++ t ∷ r) ≡ Err (kind, t ∷ r) → OutcomeIsRead (length s.tree.players) used earlier (list ++ t ∷ r) kind (t ∷ r)
outcome_point before used earlier list s kind t r e =
    let players = length s.tree.players in
    let tail : List Token = list ++ t ∷ r in
    let more : List Token = s.front ++ tail in
    let tokens : before ++ t ∷ r ≡ s.partial ++ (s.choice ++ more) =
    ap (λ (q : List Token). q ++ t ∷ r) s.are_tokens ∙ append_assoc (s.partial ++ s.choice ++ s.front) list (t ∷ r) ∙ append_assoc (s.partial ++ s.choice) s.front tail ∙ append_assoc s.partial s.choice more in
    let word = choice_begins players s.choice s.set s.is_choice in
    let bare : IsBare (s.choice ++ more) = rw word.is (record { no_text = refl; no_list = refl }) in
    let size : length s.choice ≡ suc (length word.tail) = ap length word.is in
    let front : 1 ≤ length s.front = subst (λ (q : List Token). 1 ≤ length q) (sym s.is_front.2) (omega arith) in
    let less : length (t ∷ r) < length more = omega (arith, front, length-append s.front tail, length-append list (t ∷ r)) in
    let n = run_to s.partial (s.choice ++ more) s.tree s.free s.is_partial kind t r bare (omega (arith, size, less, length-append s.choice more)) (ap located_tree (sym tokens) ∙ e) in
    let from = from_uses s.is_partial.written n.more n.added in
    let kept = nodes_keep players s.is_partial.written root_alone n.more (all_written players s.is_partial.nodes s.is_partial.written s.is_partial.are_nodes) (nothing_keeps players) n.added in
    let found : slice_get n.more.outcomes (outcome_place n.more.outcomes used.label) ≡ outcome_of used earlier = ap (λ (outcomes : List PartialOutcome). slice_get outcomes (outcome_place outcomes used.label)) from.outcomes_are ∙ outcome_found (outcome_uses s.is_partial.written) used earlier s.earlier_are in
    let comes = outcome_comes players n.more n.first n.others s.choice more (t ∷ r) s.set kind kept.listed s.is_choice (outcome_bare players s.front tail (Some used) s.is_front) less n.goes in
    let goes = outcome_goes players n.more.outcomes used s.front tail (t ∷ r) kind s.is_front s.no_list comes in (
      n.more.outcomes,
      subst (λ (o : Option PartialOutcome). GoesTo (parse_outcome_use players n.more.outcomes (bare_outcome_use used.label (after_label used.name tail).0) o (after_label used.name tail).1) kind (t ∷ r)) found goes,
      λ outcome f. all_at (λ (o : PartialOutcome). length o.payoffs ≡ players) n.more.outcomes (outcome_place n.more.outcomes used.label) outcome kept.paid (found ∙ f),
    )

-- the first payoffs, or later ones
first_paid : (players : ℕ) (used : OutcomeUse) (more rest : List Token) (kind : EfgKind) → OutcomeIsRead players used [] more kind rest → GoesTo (parse_first_payoffs players (after_label used.name more).1) kind rest
first_paid players used more rest kind p = goes_before (parse_first_payoffs players (after_label used.name more).1) (λ payoffs tokens. Ok (p.0 ++ new_outcome (bare_outcome_use used.label (after_label used.name more).0) payoffs ∷ [], tokens)) kind rest (λ _. pure_within _) p.1

later_paid : (players : ℕ) (used : OutcomeUse) (first : ℕ × OutcomeUse) (later : List (ℕ × OutcomeUse)) (more rest : List Token) (kind : EfgKind) → OutcomeIsRead players used (first ∷ later) more kind rest → GoesTo (parse_later_payoffs (partial_outcome used.label (first ∷ later)).payoffs (after_label used.name more).1) kind rest
later_paid players used first later more rest kind p = goes_before (parse_later_payoffs (partial_outcome used.label (first ∷ later)).payoffs (after_label used.name more).1) (λ _ tokens. Ok (slice_set p.0 (outcome_place p.0 used.label) (used_outcome (bare_outcome_use used.label (after_label used.name more).0) (partial_outcome used.label (first ∷ later))), tokens)) kind rest (λ _. pure_within _) p.1

-- the first payoffs are wanted
lacks_paid : (players : ℕ) (name : Option (List ℕ)) (t : Token) (r : List Token) (kind : EfgKind) → GoesTo (parse_first_payoffs players (after_label name (t ∷ r)).1) kind (t ∷ r) → kind ≡ OutcomeMismatch
lacks_paid players (Some text) t r kind g = lacks_payoffs players t r kind g
lacks_paid players None (Text text) r kind g = absurd (not_after (parse_first_payoffs players) (reader_within (parse_first_payoffs players) (first_payoffs_reader players)) kind (Text text) r g)
lacks_paid players None t r kind g = lacks_payoffs players t r kind g

-- payoffs are partial
open_paid : (players : ℕ) (used : OutcomeUse) (earlier : List (ℕ × OutcomeUse)) (list rest : List Token) (kind : EfgKind) → OutcomeIsRead players used earlier (list ++ rest) kind rest → HasPayoffs players list → PayoffComes rest → kind ≡ OutcomeMismatch
open_paid players used [] list rest kind p h c =
    let label = opened_label used.name h.0 rest list h.1 ∙ ap (λ (q : List Token). q ++ rest) (sym h.1) in
    first_payoffs_kind players list rest kind h c (subst (λ (q : List Token). GoesTo (parse_first_payoffs players q) kind rest) label (first_paid players used (list ++ rest) rest kind p))
open_paid players used (first ∷ later) list rest kind p h c =
    let label = opened_label used.name h.0 rest list h.1 ∙ ap (λ (q : List Token). q ++ rest) (sym h.1) in
    let payoffs = (partial_outcome used.label (first ∷ later)).payoffs in
    let paid : length payoffs ≡ players = p.2 (partial_outcome used.label (first ∷ later)) refl in
    later_payoffs_kind payoffs list rest kind (subst (λ (n : ℕ). HasPayoffs n list) (sym paid) h) c (subst (λ (q : List Token). GoesTo (parse_later_payoffs payoffs q) kind rest) label (later_paid players used first later (list ++ rest) rest kind p))

pays_otherwise : (before : List Token) (t : Token) (r : List Token) (kind : EfgKind) → PaysOtherwise before (t ∷ r) → located_tree (before ++ t ∷ r) ≡ Err (kind, t ∷ r) → kind ≡ OutcomeMismatch
pays_otherwise before t r kind p e = elim p.1 [
  | inl s ↦
      let there = outcome_point before p.0 [] [] s.0 kind t r e in
      lacks_paid (length s.0.tree.players) p.0.name t r kind (first_paid (length s.0.tree.players) p.0 (t ∷ r) (t ∷ r) kind there)
  | inr o ↦ open_paid (length o.2.tree.players) p.0 o.0 o.1 (t ∷ r) kind (outcome_point before p.0 o.0 o.1 o.2 kind t r e) o.3 o.4
]

-- ---- at a player's number
player_kind : (players n : ℕ) (more : List Token) (kind : EfgKind) → GoesTo (parse_player players (whole_number n ∷ more)) kind (whole_number n ∷ more) → kind ≡ UnknownPlayer
unfolding parse_player
player_kind players n more kind g = elim (cases_Bool (nat_le 1 n && nat_le n players)) [
  | inl e ↦
      let same : parse_player players (whole_number n ∷ more) ≡ Ok (n - 1, more) = rw (whole_again n more, e) refl in
      absurd (not_after (λ tokens. Ok (n - 1, tokens)) (pure_within (n - 1)) kind (whole_number n) more (goes_by (parse_player players (whole_number n ∷ more)) (Ok (n - 1, more)) kind (whole_number n ∷ more) same g))
  | inr e ↦
      let same : parse_player players (whole_number n ∷ more) ≡ Err (UnknownPlayer, whole_number n ∷ more) = rw (whole_again n more, e) refl in
      stop_kind (parse_player players (whole_number n ∷ more)) kind UnknownPlayer (whole_number n ∷ more) (whole_number n ∷ more) same g
]

unknown_player : (before : List Token) (t : Token) (r : List Token) (kind : EfgKind) → StopsAtPlayer before → WholeComes (t ∷ r) → located_tree (before ++ t ∷ r) ≡ Err (kind, t ∷ r) → kind ≡ UnknownPlayer
unfolding parse_choice parse_own_choice
unknown_player before t r kind s w e =
    let players = length s.1.players in
    let front : List Token = Word (codes "p") ∷ Text s.3 ∷ [] in
    let tokens : before ++ t ∷ r ≡ s.0 ++ (Word (codes "p") ∷ Text s.3 ∷ (t ∷ r)) = ap (λ (q : List Token). q ++ t ∷ r) s.5 ∙ append_assoc s.0 front (t ∷ r) in
    let n = run_to s.0 (Word (codes "p") ∷ Text s.3 ∷ (t ∷ r)) s.1 s.2 s.4 kind t r (record { no_text = refl; no_list = refl }) (omega arith) (ap located_tree (sym tokens) ∙ e) in
    let choice = next_goes players n.more n.first n.others (Word (codes "p") ∷ Text s.3 ∷ (t ∷ r)) (t ∷ r) kind n.goes in
    let goes : GoesTo (parse_player players (t ∷ r)) kind (t ∷ r) = goes_before (parse_player players (t ∷ r)) (λ player tokens. parse_set_choice (length n.more.nodes) n.more.sets (Some player) tokens) kind (t ∷ r) (λ player. set_choice_within (length n.more.nodes) n.more.sets (Some player)) choice in
    player_kind players w.0 w.1 kind (subst (λ (q : List Token). GoesTo (parse_player players q) kind q) w.2 goes)

-- ---- all kinds
-- a fault has the kind that it is
pub node_kind_told : (kind other : EfgKind) (before : List Token) (t : Token) (r : List Token) → IsNodeKind kind before (t ∷ r) → located_tree (before ++ t ∷ r) ≡ Err (other, t ∷ r) → other ≡ kind
node_kind_told UnknownPlayer other before t r h e = unknown_player before t r other h.0 h.1 e
node_kind_told SetMismatch other before t r h e = elim h [
  | inl l ↦ lacks_after l.0.owner l.0.label l.0.name t r other (first_goes l.0 (t ∷ r) (t ∷ r) other (set_point before l.0 [] [] l.1 other t r e))
  | inr d ↦ differs before t r other d e
]
node_kind_told (Probability set sum) other before t r h e = sums before t r other set sum h e
node_kind_told (ProbabilityRange set step) other before t r h e = elim (chance_number before t r other set h.0 h.1 h.2 h.3 e) [
  | inl k ↦ absurd (h.4 k.0)
  | inr k ↦ k.1 ∙ ap (λ s. ProbabilityRange set s) (sym h.5)
]
node_kind_told OutcomeMismatch other before t r h e = pays_otherwise before t r other h e
node_kind_told _ other before t r h e = absurd h
