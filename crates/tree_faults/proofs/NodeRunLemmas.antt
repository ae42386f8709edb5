-- Reading a node goes on to the list of its set, or of its outcome.
use Rattle.std.proofs.Common.{◌≡◌, ℕ, suc, ◌<◌, if◌then◌else◌, slice_get, List, [], ◌∷◌, ◌++◌, length, length-append, slice_set, true≢false, false, Option, Some, None, inl, inr, refl, sym, ap, ◌∙◌, subst, append-nil, append_assoc, arith}
use Rattle.std.specs.Prelude.{Ok, Err}
use Rattle.std.proofs.lemmas.Option.{cond_some, same_Some}
use Rattle.lists.proofs.ElementLemmas.{all_at}
use Rattle.lists.proofs.NumberLemmas.{not_zero}
use Rattle.lists.proofs.OptionLemmas.{bind_some}
use Rattle.game_core.specs.declared.tree.Action.{Action}
use Rattle.game_core.specs.declared.tree.Kind.TheVariants.{End}
use Rattle.game_core.specs.Tree.{kind_of_owner}
use Rattle.game_core.specs.declared.token.Token.{Token}
use Rattle.game_core.specs.declared.token.Token.TheVariants.{Left}
use Rattle.file_parts.specs.Parts.{whole_number, optional_text}
use Rattle.file_parts.specs.Reading.{optional_text_at, opens}
use Rattle.file_parts.specs.Parsing.{Parsed}
use Rattle.file_parts.proofs.FrontLemmas.{fronts}
use Rattle.file_parts.proofs.FrontLemmas.Goes.{same, first, second}
use Rattle.file_parts.proofs.ReaderLemmas.{chain, IsReader, not_empty, reads_alone}
use Rattle.file_parts.proofs.TokenLaws.{whole_again, count_again}
use Rattle.file_parts.proofs.ValueLemmas.{value, value_some}
use Rattle.written_trees.specs.Written.{SetUse, OutcomeUse}
use Rattle.written_trees.specs.Described.{SetKey, key_of, IsActionList}
use Rattle.written_trees.specs.Building.{PartialTree, PartialSet, PartialOutcome, Branching, set_place, outcome_place, repeats_actions, may_be_first, new_set, used_set, UsedSet, with_parts}
use Rattle.tree_grammar.specs.TreeFile.{AreActions, ArePayoffs, IsSetPart, IsInnerPart, IsChoicePart, IsOutcomePart}
use Rattle.tree_grammar.proofs.PartValueLemmas.{action_list_at, optional_at, first_list_at, later_list_at}
use Rattle.tree_grammar.specs.TreeParsing.{parse_first_list, parse_repeated_list, bare_use, parse_use, parse_set, parse_player, parse_set_choice, parse_own_choice, parse_choice, bare_outcome_use, parse_outcome_use, parse_named, parse_outcome, parse_next}
use Rattle.tree_grammar.specs.declared.kinds.EfgKind.{EfgKind}
use Rattle.tree_grammar.specs.declared.kinds.EfgKind.TheVariants.{SetMismatch}
use Rattle.tree_grammar.proofs.SetLaws.{IsBare, list_tokens, list_bare, optional_text_again, optional_again, action_list_again}
use Rattle.tree_grammar.proofs.NodeLaws.{player_again}
use Rattle.tree_grammar.proofs.TreeValueLemmas.{AreListed, found_key, mark, value_first_list, value_later_list}
use Rattle.tree_grammar.proofs.NodeValueLemmas.{value_player}
use Rattle.tree_faults.proofs.PartReaderLemmas.{own_list_reader, repeated_list_reader}
use Rattle.tree_faults.proofs.ChanceReaderLemmas.{chance_list_reader}
use Rattle.tree_faults.proofs.NodeReaderLemmas.{first_list_reader}
use Rattle.tree_faults.proofs.TokenEndLemmas.{bind_within, pure_within, outcome_within}
use Rattle.tree_faults.proofs.StopLemmas.{GoesTo, goes_before, not_earlier}

-- the same by an equal reading
pub goes_by : {X : Type 0} (o p : Parsed EfgKind X) (kind : EfgKind) (rest : List Token) → o ≡ p → GoesTo o kind rest → GoesTo p kind rest
goes_by {X} o p kind rest e g = subst (λ (q : Parsed EfgKind X). GoesTo q kind rest) e g

-- what is read without a fault
abbrev parsed : {X : Type 0} → X → List Token → Parsed EfgKind X
parsed x tokens = Ok (x, tokens)

-- ---- to a set
-- the name that is read after a set's number, and what follows it
abbrev pub after_label : Option (List ℕ) → List Token → Option (List ℕ) × List Token
after_label name more = optional_text_at (optional_text name ++ more)

-- a set's number and name without a list
set_front : (part more : List Token) (used : SetUse) → IsSetPart part used → used.actions ≡ None → part ++ more ≡ whole_number used.label ∷ (optional_text used.name ++ more)
set_front part more used h none =
    let empty : h.1 ≡ [] = subst (AreActions used.owner h.1) none h.3 in
    ap (λ (q : List Token). q ++ more) (h.2 ∙ ap (λ (q : List Token). whole_number used.label ∷ optional_text used.name ++ q) empty ∙ ap (λ (q : List Token). whole_number used.label ∷ q) (append-nil (optional_text used.name)))

-- what follows a set's number and name
set_goes : (k : ℕ) (sets : List PartialSet) (used : SetUse) (part more rest : List Token) (kind : EfgKind) → IsSetPart part used → used.actions ≡ None → GoesTo (parse_set k sets used.owner (part ++ more)) kind rest
    → GoesTo (parse_use k sets (bare_use used.owner used.label (after_label used.name more).0) (slice_get sets (set_place sets (key_of used))) (after_label used.name more).1) kind rest
unfolding parse_set
set_goes k sets used part more rest kind h none g =
    let reading = parse_use k sets (bare_use used.owner used.label (after_label used.name more).0) (slice_get sets (set_place sets (key_of used))) (after_label used.name more).1 in
    let same : parse_set k sets used.owner (whole_number used.label ∷ (optional_text used.name ++ more)) ≡ chain reading (λ x. Ok ((x.0, set_place sets (key_of used)), x.1)) = rw (count_again used.label (optional_text used.name ++ more) h.0) refl in
    goes_before reading (λ x tokens. Ok ((x, set_place sets (key_of used)), tokens)) kind rest (λ x. pure_within _)
    (goes_by (parse_set k sets used.owner (part ++ more)) (chain reading (λ x. Ok ((x.0, set_place sets (key_of used)), x.1))) kind rest (ap (parse_set k sets used.owner) (set_front part more used h none) ∙ same) g)

-- a player's number is read
player_is_read : (players i : ℕ) (rest : List Token) → i < players → parse_player players (whole_number (suc i) ∷ rest) ≡ Ok (i, rest)
player_is_read players i rest h = value_some (parse_player players (whole_number (suc i) ∷ rest)) (i, rest) (value_player players (whole_number (suc i) ∷ rest) ∙ player_again players i rest h)

-- a choice that is read up to its set
abbrev with_kind : Option ℕ → (List PartialSet × ℕ) × List Token → Parsed EfgKind UsedSet
with_kind owner used = Ok ((used.0.0, (kind_of_owner owner, Some used.0.1)), used.1)

inner_read : (players k : ℕ) (sets : List PartialSet) (owner : Option ℕ) (front more : List Token) (used : SetUse) → IsInnerPart players owner front used
    → (part : List Token) × IsSetPart part used × (parse_choice players k sets (front ++ more) ≡ chain (parse_set k sets owner (part ++ more)) (with_kind owner))
unfolding parse_choice parse_set_choice parse_own_choice
inner_read players k sets None front more used h = (h.1, h.3, rw h.2 refl)
inner_read players k sets (Some i) front more used h = (h.2, h.4, rw (h.3, player_is_read players i (h.2 ++ more) h.0) refl)

pub choice_goes : (players k : ℕ) (sets : List PartialSet) (used : SetUse) (front more rest : List Token) (kind : EfgKind) → IsInnerPart players used.owner front used → used.actions ≡ None → GoesTo (parse_choice players k sets (front ++ more)) kind rest
    → GoesTo (parse_use k sets (bare_use used.owner used.label (after_label used.name more).0) (slice_get sets (set_place sets (key_of used))) (after_label used.name more).1) kind rest
choice_goes players k sets used front more rest kind h none g =
    let r = inner_read players k sets used.owner front more used h in
    let set = goes_before (parse_set k sets used.owner (r.0 ++ more)) (λ x tokens. with_kind used.owner (x, tokens)) kind rest (λ x. pure_within _) (goes_by (parse_choice players k sets (front ++ more)) (chain (parse_set k sets used.owner (r.0 ++ more)) (with_kind used.owner)) kind rest r.2 g) in
    set_goes k sets used r.0 more rest kind r.1 none set

-- the choice of a further node
pub next_goes : (players : ℕ) (partial : PartialTree) (b : Branching) (others : List Branching) (tokens rest : List Token) (kind : EfgKind) → GoesTo (parse_next players partial b others tokens) kind rest → GoesTo (parse_choice players (length partial.nodes) partial.sets tokens) kind rest
unfolding parse_next
next_goes players partial b others tokens rest kind g =
    goes_before (parse_choice players (length partial.nodes) partial.sets tokens) (λ choice tokens. chain (parse_outcome players partial.outcomes tokens) (λ outcome. Ok (with_parts partial b others choice outcome.0, outcome.1))) kind rest
    (λ choice. bind_within (parse_outcome players partial.outcomes) (λ outcome tokens. Ok (with_parts partial b others choice outcome, tokens)) (outcome_within players partial.outcomes) (λ outcome. pure_within _)) g

-- ---- over a choice
-- a list that ends where it ends is read, where reading goes on after it
reads_whole : {X : Type 0} (p : List Token → Parsed EfgKind X) → IsReader p → (list more : List Token) → ((following : List Token) (y : X × List Token) → p (list ++ following) ≡ Ok y → y.1 ≡ following) → (kind : EfgKind) (rest : List Token) → length rest < length more → GoesTo (p (list ++ more)) kind rest
    → (x : X) × (p (list ++ more) ≡ Ok (x, more))
reads_whole {X} p P list more whole kind rest less (inr y) = (y.0.0, y.1 ∙ ap (λ (q : List Token). Ok (y.0.0, q)) (whole more y.0 y.1))
reads_whole p P list more whole kind rest less (inl g) =
    let s = (P.at (list ++ more)).sticks kind rest g in
    elim (fronts list more s.before rest s.is) [
      | same e ↦ let n : length more ≡ length rest = ap length e in absurd (omega (arith, n, less))
      | first t w b r ↦
          let tokens : List Token = s.before ++ s.next ∷ s.more in
          let all : tokens ≡ list ++ (t ∷ (w ++ s.next ∷ s.more)) = ap (λ (q : List Token). q ++ s.next ∷ s.more) b ∙ append_assoc list (t ∷ w) (s.next ∷ s.more) in
          absurd (not_empty [] t (w ++ s.next ∷ s.more) (sym (whole (t ∷ (w ++ s.next ∷ s.more)) (s.value, []) (ap p (sym all) ∙ reads_alone p tokens s.value s.goes_on))))
      | second t w a r ↦ let n : length rest ≡ suc (length (w ++ more)) = ap length r in absurd (omega (arith, n, length-append w more, less))
    ]

-- a list of actions ends where it ends
first_whole : (owner : Option ℕ) (set : ℕ) (actions : List Action) → IsActionList owner actions → (following : List Token) (y : List Action × List Token) → parse_first_list owner set (list_tokens owner actions ++ following) ≡ Ok y → y.1 ≡ following
unfolding first_list_at
first_whole owner set actions h following y e =
    let tokens : List Token = list_tokens owner actions ++ following in
    let a = bind_some (action_list_at owner tokens) _ y (sym (value_first_list owner set tokens) ∙ ap value e) in
    let c = cond_some (may_be_first owner a.0.0) a.0 y a.2 in
    let r : a.0 ≡ (actions, following) = same_Some _ _ (sym a.1 ∙ action_list_again owner actions following h) in
    ap (λ (z : List Action × List Token). z.1) (sym c.1 ∙ r)

later_whole : (owner : Option ℕ) (own actions : List Action) → IsActionList owner own → IsActionList owner actions → (following : List Token) (y : Unit {0} × List Token) → parse_repeated_list owner own (list_tokens owner actions ++ following) ≡ Ok y → y.1 ≡ following
unfolding later_list_at
later_whole owner own actions o h following y e =
    let tokens : List Token = list_tokens owner actions ++ following in
    let a = bind_some (later_list_at owner own tokens) mark y (sym (value_later_list owner own tokens o) ∙ ap value e) in
    let b = bind_some (optional_at (action_list_at owner) tokens) (λ list. if repeats_actions own list.0 then Some list.1 else None) a.0 a.1 in
    let c = cond_some (repeats_actions own b.0.0) b.0.1 a.0 b.2 in
    let r : b.0 ≡ (Some actions, following) = same_Some _ _ (sym b.1 ∙ optional_again (action_list_at owner) tokens (actions, following) refl (action_list_again owner actions following h)) in
    sym (ap (λ (z : Unit {0} × List Token). z.1) (same_Some _ _ a.2)) ∙ sym c.1 ∙ ap (λ (z : Option (List Action) × List Token). z.1) r

-- a use of a set is read, where reading goes on after it
use_passes : (k : ℕ) (sets : List PartialSet) (used : SetUse) (name : Option (List ℕ)) (found : Option PartialSet) (list more rest : List Token) (kind : EfgKind) → ((set : PartialSet) → found ≡ Some set → (set.owner ≡ used.owner) × IsActionList set.owner set.actions)
    → (actions : Option (List Action)) → AreActions used.owner list actions → opens more ≡ false → length rest < length more → GoesTo (parse_use k sets (bare_use used.owner used.label name) found (list ++ more)) kind rest
    → (x : List PartialSet) × (parse_use k sets (bare_use used.owner used.label name) found (list ++ more) ≡ Ok (x, more))
unfolding parse_first_list
use_passes k sets used name None list more rest kind known None h bare less g =
    let stops : parse_use k sets (bare_use used.owner used.label name) None (list ++ more) ≡ Err (SetMismatch, more) = rw h (unlisted more bare) in
    absurd (not_earlier (parse_use k sets (bare_use used.owner used.label name) None (list ++ more)) kind rest (SetMismatch, more) stops less g)
  where
    unlisted : (more : List Token) → opens more ≡ false → parse_use k sets (bare_use used.owner used.label name) None more ≡ Err (SetMismatch, more)
    unlisted (Left ∷ r) bare = absurd (true≢false bare)
    unlisted more bare = refl
use_passes k sets used name None list more rest kind known (Some actions) h bare less g =
    let p = parse_first_list used.owner used.label in
    let onward = λ (x : List Action) (tokens : List Token). parsed (sets ++ new_set k (bare_use used.owner used.label name) x ∷ []) tokens in
    let there : GoesTo (chain (p (list_tokens used.owner actions ++ more)) (λ z. onward z.0 z.1)) kind rest = subst (λ (q : List Token). GoesTo (parse_use k sets (bare_use used.owner used.label name) None (q ++ more)) kind rest) h.1 g in
    let r = reads_whole p (first_list_reader used.owner used.label chance_list_reader (λ _ _. own_list_reader)) (list_tokens used.owner actions) more (first_whole used.owner used.label actions h.0) kind rest less (goes_before (p (list_tokens used.owner actions ++ more)) onward kind rest (λ x. pure_within _) there) in
    (sets ++ new_set k (bare_use used.owner used.label name) r.0 ∷ [], ap (λ (q : List Token). parse_use k sets (bare_use used.owner used.label name) None (q ++ more)) h.1 ∙ ap (λ (o : Parsed EfgKind (List Action)). chain o (λ z. onward z.0 z.1)) r.1)
use_passes k sets used name (Some set) list more rest kind known None h bare less g = (slice_set sets (set_place sets (key_of used)) (used_set k (bare_use used.owner used.label name) set), rw (h, bare) refl)
use_passes k sets used name (Some set) list more rest kind known (Some actions) h bare less g =
    let o = known set refl in
    let is : IsActionList set.owner actions = subst (λ (w : Option ℕ). IsActionList w actions) (sym o.0) h.0 in
    let tokens : list ≡ list_tokens set.owner actions = h.1 ∙ ap (λ (w : Option ℕ). list_tokens w actions) (sym o.0) in
    let p = parse_repeated_list set.owner set.actions in
    let onward = λ (x : Unit {0}) (tokens : List Token). parsed (slice_set sets (set_place sets (key_of used)) (used_set k (bare_use used.owner used.label name) set)) tokens in
    let there : GoesTo (chain (p (list_tokens set.owner actions ++ more)) (λ z. onward z.0 z.1)) kind rest = subst (λ (q : List Token). GoesTo (parse_use k sets (bare_use used.owner used.label name) (Some set) (q ++ more)) kind rest) tokens g in
    let r = reads_whole p (repeated_list_reader set.owner set.actions) (list_tokens set.owner actions) more (later_whole set.owner set.actions actions o.1 is) kind rest less (goes_before (p (list_tokens set.owner actions ++ more)) onward kind rest (λ x. pure_within _) there) in
    (slice_set sets (set_place sets (key_of used)) (used_set k (bare_use used.owner used.label name) set), ap (λ (q : List Token). parse_use k sets (bare_use used.owner used.label name) (Some set) (q ++ more)) tokens ∙ ap (λ (o : Parsed EfgKind (Unit {0})). chain o (λ z. onward z.0 z.1)) r.1)

-- what is found of a set that is used
known_set : (sets : List PartialSet) (used : SetUse) → AreListed sets → (set : PartialSet) → slice_get sets (set_place sets (key_of used)) ≡ Some set → (set.owner ≡ used.owner) × IsActionList set.owner set.actions
known_set sets used all set e = (sym (ap (λ (key : SetKey). key.0) (found_key sets (key_of used) set e)), all_at (λ (s : PartialSet). IsActionList s.owner s.actions) sets (set_place sets (key_of used)) set all e)

-- a set is read, where reading goes on after it
set_passes : (k : ℕ) (sets : List PartialSet) (used : SetUse) (part more rest : List Token) (kind : EfgKind) → AreListed sets → IsSetPart part used → IsBare more → length rest < length more → GoesTo (parse_set k sets used.owner (part ++ more)) kind rest
    → (x : List PartialSet × ℕ) × (parse_set k sets used.owner (part ++ more) ≡ Ok (x, more))
unfolding parse_set
set_passes k sets used part more rest kind all h bare less g =
    let list = h.1 in
    let tokens : part ++ more ≡ whole_number used.label ∷ (optional_text used.name ++ (list ++ more)) = rw h.2 (ap (λ (q : List Token). whole_number used.label ∷ q) (append_assoc (optional_text used.name) list more)) in
    let text : after_label used.name (list ++ more) ≡ (used.name, list ++ more) = optional_text_again used.name (list ++ more) (list_bare used.owner list more used.actions h.3 bare.no_text) in
    let found = slice_get sets (set_place sets (key_of used)) in
    let reading = parse_use k sets (bare_use used.owner used.label used.name) found (list ++ more) in
    let same : parse_set k sets used.owner (part ++ more) ≡ chain reading (λ x. Ok ((x.0, set_place sets (key_of used)), x.1)) = ap (parse_set k sets used.owner) tokens ∙ rw (count_again used.label (optional_text used.name ++ (list ++ more)) h.0, text) refl in
    let there = goes_before reading (λ x tokens. Ok ((x, set_place sets (key_of used)), tokens)) kind rest (λ x. pure_within _) (goes_by (parse_set k sets used.owner (part ++ more)) (chain reading (λ x. Ok ((x.0, set_place sets (key_of used)), x.1))) kind rest same g) in
    let r = use_passes k sets used used.name found list more rest kind (known_set sets used all) used.actions h.3 bare.no_list less there in
    ((r.0, set_place sets (key_of used)), same ∙ ap (λ (o : Parsed EfgKind (List PartialSet)). chain o (λ x. Ok ((x.0, set_place sets (key_of used)), x.1))) r.1)

-- so is a choice
choice_passes : (players k : ℕ) (sets : List PartialSet) (front more rest : List Token) (set : Option SetUse) (kind : EfgKind) → AreListed sets → IsChoicePart players front set → IsBare more → length rest < length more → GoesTo (parse_choice players k sets (front ++ more)) kind rest
    → (x : UsedSet) × (parse_choice players k sets (front ++ more) ≡ Ok (x, more))
unfolding parse_choice
choice_passes players k sets front more rest None kind all h bare less g = ((sets, (End, None)), rw h.1 refl)
choice_passes players k sets front more rest (Some used) kind all h bare less g =
    let r = inner_read players k sets used.owner front more used h in
    let there = goes_before (parse_set k sets used.owner (r.0 ++ more)) (λ x tokens. with_kind used.owner (x, tokens)) kind rest (λ x. pure_within _) (goes_by (parse_choice players k sets (front ++ more)) (chain (parse_set k sets used.owner (r.0 ++ more)) (with_kind used.owner)) kind rest r.2 g) in
    let s = set_passes k sets used r.0 more rest kind all r.1 bare less there in
    ((s.0.0, (kind_of_owner used.owner, Some s.0.1)), r.2 ∙ ap (λ (o : Parsed EfgKind (List PartialSet × ℕ)). chain o (with_kind used.owner)) s.1)

-- ---- to an outcome
-- the outcome after a choice
pub outcome_comes : (players : ℕ) (partial : PartialTree) (b : Branching) (others : List Branching) (front more rest : List Token) (set : Option SetUse) (kind : EfgKind) → AreListed partial.sets → IsChoicePart players front set → IsBare more → length rest < length more → GoesTo (parse_next players partial b others (front ++ more)) kind rest
    → GoesTo (parse_outcome players partial.outcomes more) kind rest
unfolding parse_next
outcome_comes players partial b others front more rest set kind all h bare less g =
    let c = choice_passes players (length partial.nodes) partial.sets front more rest set kind all h bare less (next_goes players partial b others (front ++ more) rest kind g) in
    let onward = λ (outcome : List PartialOutcome × Option ℕ) (tokens : List Token). parsed (with_parts partial b others c.0 outcome) tokens in
    let same : parse_next players partial b others (front ++ more) ≡ chain (parse_outcome players partial.outcomes more) (λ z. onward z.0 z.1) = rw c.1 refl in
    goes_before (parse_outcome players partial.outcomes more) onward kind rest (λ x. pure_within _) (goes_by (parse_next players partial b others (front ++ more)) (chain (parse_outcome players partial.outcomes more) (λ z. onward z.0 z.1)) kind rest same g)

-- an outcome's number and name without a list
outcome_front : (players : ℕ) (front more : List Token) (used : OutcomeUse) → IsOutcomePart players front (Some used) → used.payoffs ≡ None → front ++ more ≡ whole_number used.label ∷ (optional_text used.name ++ more)
outcome_front players front more used h none =
    let empty : h.1 ≡ [] = subst (ArePayoffs players h.1) none h.3 in
    ap (λ (q : List Token). q ++ more) (h.2 ∙ ap (λ (q : List Token). whole_number used.label ∷ optional_text used.name ++ q) empty ∙ ap (λ (q : List Token). whole_number used.label ∷ q) (append-nil (optional_text used.name)))

-- what follows its number and name
pub outcome_goes : (players : ℕ) (outcomes : List PartialOutcome) (used : OutcomeUse) (front more rest : List Token) (kind : EfgKind) → IsOutcomePart players front (Some used) → used.payoffs ≡ None → GoesTo (parse_outcome players outcomes (front ++ more)) kind rest
    → GoesTo (parse_outcome_use players outcomes (bare_outcome_use used.label (after_label used.name more).0) (slice_get outcomes (outcome_place outcomes used.label)) (after_label used.name more).1) kind rest
unfolding parse_outcome parse_named
outcome_goes players outcomes used front more rest kind h none g =
    let reading = parse_outcome_use players outcomes (bare_outcome_use used.label (after_label used.name more).0) (slice_get outcomes (outcome_place outcomes used.label)) (after_label used.name more).1 in
    let onward = λ (x : List PartialOutcome) (tokens : List Token). parsed (x, Some (outcome_place outcomes used.label)) tokens in
    let same : parse_outcome players outcomes (whole_number used.label ∷ (optional_text used.name ++ more)) ≡ chain reading (λ z. onward z.0 z.1) = rw (whole_again used.label (optional_text used.name ++ more), not_zero used.label h.0) refl in
    goes_before reading onward kind rest (λ x. pure_within _) (goes_by (parse_outcome players outcomes (front ++ more)) (chain reading (λ z. onward z.0 z.1)) kind rest (ap (parse_outcome players outcomes) (outcome_front players front more used h none) ∙ same) g)
