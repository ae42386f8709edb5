-- Reading parts of a tree with places of faults gives what reading them without places does.
use Rattle.std.proofs.Common.{◌≡◌, ℕ, suc, Bool, true, false, if◌then◌else◌, nat_eq, List, [], ◌∷◌, ◌++◌, length, map, slice_get, slice_set, Option, Some, None, ◌⊎◌, inl, inr, All, refl, sym, ap, ◌∙◌, one-add}
use Rattle.std.proofs.lemmas.List.{length-map}
use Rattle.std.specs.Prelude.{Ok, Err}
use Rattle.std.specs.List.{position_or_len}
use Rattle.rational.specs.Rational.{ℚ, ◌+ℚ◌, zero_ℚ, one_ℚ}
use Rattle.rational.specs.Tests.{le_test, eq_ℚ}
use Rattle.frac128.specs.Steps.{step_of}
use Rattle.frac128.specs.declared.steps.Op.TheVariants.{Add}
use Rattle.game_core.specs.declared.tree.Action.{Action}
use Rattle.game_core.specs.declared.token.Token.{Token}
use Rattle.game_core.specs.declared.token.Token.TheVariants.{Left, Text, Number}
use Rattle.file_parts.specs.Reading.{opening_brace_at, closing_brace_at, number_at, whole_at, optional_text_at, payoff_start, payoff_at, texts_at, count_at}
use Rattle.file_parts.proofs.ValueLemmas.{payoffs_at, value, value_wanted, value_expected_mark, value_chain, value_if, value_each}
use Rattle.file_parts.specs.Parsing.{expected_mark, parse_each}
use Rattle.file_parts.proofs.TokenReaderLemmas.{some_or_none}
use Rattle.written_trees.specs.Described.{SetKey, same_set, IsActionList}
use Rattle.written_trees.specs.Building.{PartialSet, PartialOutcome, key_of_partial, set_place, outcome_place, new_set, used_set, new_outcome, used_outcome, add_test, may_follow}
use Rattle.written_trees.proofs.SetUseLemmas.{same_set-Decides}
use Rattle.tree_grammar.specs.TreePieces.{closed_at}
use Rattle.tree_grammar.proofs.PartValueLemmas.{action_list_at, optional_at, set_use_at, outcome_use_at, summed_at, first_list_at, repeated_at, all_repeated_at, later_list_at, set_part_at, payoff_list_at, payoffs_repeated_at, later_payoffs_at, named_part_at, outcome_part_at}
use Rattle.tree_grammar.specs.TreeParsing.{own_action, closes, has_text, has_number, sum_with, parse_chances, parse_own_list, parse_chance_list, parse_first_list, parse_same, parse_repeated, parse_all_repeated, parse_repeated_list, parse_later_list, bare_use, parse_use, parse_set, parse_payoff, parse_first_payoffs, parse_same_payoff, parse_same_payoffs, parse_repeated_payoffs, parse_later_payoffs, bare_outcome_use, parse_outcome_use, parse_named, parse_outcome}
use Rattle.tree_grammar.specs.declared.kinds.EfgKind.{EfgKind}
use Rattle.tree_grammar.specs.declared.kinds.EfgKind.TheVariants.{Node, SetMismatch, OutcomeMismatch, Probability, ProbabilityRange}
use Rattle.tree_grammar.proofs.ActionListLemmas.{closed_sum, first_without, own_list_is, chance_list_is, later_without, later_list_is}
use Rattle.tree_grammar.proofs.RepeatedPayoffLemmas.{later_opened}
use Rattle.tree_grammar.proofs.SetReadLemmas.{partial_step, used_step, step_is, first_comes, begins, goes_on}
use Rattle.tree_grammar.proofs.NamedOutcomeLemmas.{first_is, later_is}
use Rattle.lists.specs.Options.{◌>>=◌}
use Rattle.std.proofs.lemmas.Bool.{cases_Bool}
use Rattle.lists.proofs.ElementLemmas.{all_at}

-- the tokens after a mark
abbrev pub mark : List Token → Option (Unit {0} × List Token)
mark rest = Some (tt, rest)

-- a mark and what follows
marked_then : {X : Type 0} (o : Option (List Token)) (f : List Token → Option X) → ((o >>= mark) >>= λ x. f x.1) ≡ (o >>= f)
marked_then None f = refl
marked_then (Some rest) f = refl

-- two marks
both_marks : (o : Option (List Token)) (f : List Token → Option (List Token)) → ((o >>= f) >>= mark) ≡ (o >>= λ rest. f rest >>= mark)
both_marks None f = refl
both_marks (Some rest) f = refl

-- a mark that must come
value_mark : (kind : EfgKind) (tokens : List Token) (o : Option (List Token)) → value (expected_mark kind tokens o) ≡ (o >>= mark)
value_mark kind tokens None = refl
value_mark kind tokens (Some rest) = refl

-- ---- a first list
-- the sum with one more probability
sum_value : (set : ℕ) (sum prob : ℚ) → ((may_follow sum prob ≡ true) × (sum_with set sum prob ≡ Ok (sum +ℚ prob))) ⊎ ((may_follow sum prob ≡ false) × (kind : EfgKind) × (sum_with set sum prob ≡ Err kind))
unfolding sum_with may_follow
sum_value set sum prob = elim (cases_Bool (add_test sum prob)) [
  | inl a ↦ elim (cases_Bool (le_test zero_ℚ prob)) [
    | inl b ↦ elim (cases_Bool (le_test (sum +ℚ prob) one_ℚ)) [
      | inl c ↦ inl (rw (a, b, c) refl, rw (a, b, c) refl)
      | inr c ↦ inr (rw (a, b, c) refl, Probability set (sum +ℚ prob), rw (a, b, c) refl)
    ]
    | inr b ↦ inr (rw (a, b) refl, Probability set (sum +ℚ prob), rw (a, b) refl)
  ]
  | inr a ↦ elim (cases_Bool (le_test zero_ℚ prob)) [
    | inl b ↦ inr (rw (a, b) refl, ProbabilityRange set (step_of Add sum prob), rw a refl)
    | inr b ↦ inr (rw b refl, ProbabilityRange set (step_of Add sum prob), rw a refl)
  ]
]

value_chances : (set : ℕ) (sum : ℚ) (tokens : List Token) → value (parse_chances set sum tokens) ≡ summed_at sum tokens
value_chances set sum (Text name ∷ Number prob ∷ rest) = elim (sum_value set sum prob) [
  | inl h ↦ rw (h.0, h.1) (value_chain (parse_chances set (sum +ℚ prob) rest) (summed_at (sum +ℚ prob) rest) _ _ (value_chances set (sum +ℚ prob) rest) (λ more. refl))
  | inr h ↦ rw (h.0, h.2) refl
]
value_chances set sum (Text name ∷ rest) = refl
value_chances set sum tokens = refl

value_chance_list : (set : ℕ) (tokens : List Token) → value (parse_chance_list set tokens) ≡ (summed_at zero_ℚ tokens >>= closed_sum)
unfolding parse_chance_list
value_chance_list set tokens =
    value_chain (parse_chances set zero_ℚ tokens) (summed_at zero_ℚ tokens) _ closed_sum (value_chances set zero_ℚ tokens) (λ x.
    value_expected_mark Node x.1 (closed_at (length x.0.0) x.1) _ _ (λ rest. value_if (eq_ℚ x.0.1 one_ℚ) (Ok (x.0.0, rest)) (Err (Probability set x.0.1, x.1)) (Some (x.0.0, rest)) None refl refl))

value_own_list : (i : ℕ) (inner : List Token) → value (parse_own_list inner) ≡ first_list_at (Some i) (Left ∷ inner)
unfolding parse_own_list
value_own_list i inner =
    let actions : List Action = map own_action (texts_at inner).0 in
    let following : List Token = (texts_at inner).1 in
    let n : length (texts_at inner).0 ≡ length actions = sym (length-map (texts_at inner).0 own_action) in
    let read = own_list_is (Some i) i (length (texts_at inner).0) (Left ∷ inner) inner following actions (closed_at (length (texts_at inner).0) following) refl refl refl n refl in
    value_expected_mark Node following (closed_at (length (texts_at inner).0) following) _ (λ rest. Some (actions, rest)) (λ rest. refl) ∙ sym read

pub value_first_list : (owner : Option ℕ) (set : ℕ) (tokens : List Token) → value (parse_first_list owner set tokens) ≡ first_list_at owner tokens
unfolding parse_first_list
value_first_list None set (Left ∷ inner) = value_chance_list set inner ∙ sym (chance_list_is None (Left ∷ inner) inner (summed_at zero_ℚ inner) refl refl refl)
value_first_list (Some i) set (Left ∷ inner) = value_own_list i inner
value_first_list owner set tokens = sym (first_without owner tokens refl)

-- ---- a later list
value_same : (prob : ℚ) (tokens : List Token) → value (parse_same prob tokens) ≡ ((number_at tokens >>= λ x. if eq_ℚ x.0 prob then Some x.1 else None) >>= mark)
value_same prob (Number v ∷ rest) = elim (cases_Bool (eq_ℚ v prob)) [ inl e ↦ rw e refl | inr e ↦ rw e refl ]
value_same prob tokens = refl

value_repeated : (owner : Option ℕ) (action : Action) (tokens : List Token) → value (parse_repeated owner action tokens) ≡ (repeated_at owner action tokens >>= mark)
unfolding parse_repeated
value_repeated None action (Text name ∷ rest) = value_same action.prob rest
value_repeated (Some i) action (Text name ∷ rest) = refl
value_repeated None action tokens = refl
value_repeated (Some i) action tokens = refl

value_all_repeated : (owner : Option ℕ) (actions : List Action) (tokens : List Token) → value (parse_all_repeated owner actions tokens) ≡ (all_repeated_at owner actions tokens >>= mark)
value_all_repeated owner [] tokens = refl
value_all_repeated owner (action ∷ actions) tokens =
    value_chain (parse_repeated owner action tokens) (repeated_at owner action tokens >>= mark) _ (λ x. all_repeated_at owner actions x.1 >>= mark) (value_repeated owner action tokens) (λ x. value_all_repeated owner actions x.1)
    ∙ marked_then (repeated_at owner action tokens) (λ rest. all_repeated_at owner actions rest >>= mark) ∙ sym (both_marks (repeated_at owner action tokens) (all_repeated_at owner actions))

value_repeated_list : (owner : Option ℕ) (actions : List Action) (inner : List Token) → value (parse_repeated_list owner actions (Left ∷ inner)) ≡ ((all_repeated_at owner actions inner >>= closing_brace_at) >>= mark)
unfolding parse_repeated_list
value_repeated_list owner actions inner =
    value_chain (parse_all_repeated owner actions inner) (all_repeated_at owner actions inner >>= mark) _ (λ x. closing_brace_at x.1 >>= mark) (value_all_repeated owner actions inner) (λ x. value_mark (if has_text x.1 then SetMismatch else Node) x.1 (closing_brace_at x.1))
    ∙ marked_then (all_repeated_at owner actions inner) (λ rest. closing_brace_at rest >>= mark) ∙ sym (both_marks (all_repeated_at owner actions inner) closing_brace_at)

pub value_later_list : (owner : Option ℕ) (actions : List Action) (tokens : List Token) → IsActionList owner actions → value (parse_later_list owner actions tokens) ≡ (later_list_at owner actions tokens >>= mark)
value_later_list owner actions (Left ∷ inner) h = value_repeated_list owner actions inner ∙ ap (λ (o : Option (List Token)). o >>= mark) (sym (later_list_is owner actions (Left ∷ inner) inner h refl))
value_later_list owner actions tokens h = ap (λ (o : Option (List Token)). o >>= mark) (sym (later_without owner actions tokens refl))

-- ---- sets
-- each set has a list of actions
abbrev pub AreListed : List PartialSet → Type 0
AreListed sets = All (λ set. IsActionList set.owner set.actions) sets

-- what stands at a place passes the test by which it was found
pub found_passes : {A : Type 0} (p : A → Bool) (xs : List A) (x : A) → slice_get xs (position_or_len p xs) ≡ Some x → p x ≡ true
found_passes p [] x e = cc
found_passes {A} p (y ∷ ys) x e = elim (cases_Bool (p y)) [
  | inl h ↦ let o : ◌≡◌ {A = Option A} (Some y) (Some x) = rw h at e in let same : y ≡ x = cc in rw (← same) h
  | inr h ↦ let o : slice_get ys (position_or_len p ys) ≡ Some x = rw (h, one-add) at e in found_passes p ys x o
]

-- a set that is found by a key has it
pub found_key : (sets : List PartialSet) (key : SetKey) (set : PartialSet) → slice_get sets (set_place sets key) ≡ Some set → key ≡ key_of_partial set
found_key sets key set e = (same_set-Decides key (key_of_partial set)).0 (found_passes (λ s. same_set key (key_of_partial s)) sets set e)

-- a use and what follows it
abbrev placed : ℕ → List PartialSet × List Token → Option ((List PartialSet × ℕ) × List Token)
placed place x = Some ((x.0, place), x.1)

value_use : (k : ℕ) (sets : List PartialSet) (owner : Option ℕ) (label : ℕ) (name : Option (List ℕ)) (after tokens following : List Token) → AreListed sets → count_at tokens ≡ Some (label, following) → (name, after) ≡ optional_text_at following
    → (value (parse_use k sets (bare_use owner label name) (slice_get sets (set_place sets (owner, label))) after) >>= placed (set_place sets (owner, label))) ≡ set_part_at k sets owner tokens
unfolding later_list_at
value_use k sets owner label name after tokens following all p n = elim (some_or_none (slice_get sets (set_place sets (owner, label)))) [
  | inl found ↦
      let set = found.0 in
      let key = found_key sets (owner, label) set found.1 in
      let list : IsActionList set.owner set.actions = all_at (λ (s : PartialSet). IsActionList s.owner s.actions) sets (set_place sets (owner, label)) set all found.1 in
      let used : List PartialSet = slice_set sets (set_place sets (owner, label)) (used_set k (bare_use owner label name) set) in
      let read : value (parse_use k sets (bare_use owner label name) (Some set) after) ≡ (later_list_at set.owner set.actions after >>= λ rest. Some (used, rest)) =
      value_chain (parse_later_list set.owner set.actions after) (later_list_at set.owner set.actions after >>= mark) _ (λ x. Some (used, x.1)) (value_later_list set.owner set.actions after list) (λ x. refl) ∙ marked_then (later_list_at set.owner set.actions after) (λ rest. Some (used, rest)) in
      let step = step_is k sets owner label name tokens following after p n ∙ goes_on k sets (owner, label) name set (optional_at (action_list_at owner) after) found.1 in
      let same : set.owner ≡ owner = ap (λ (key : SetKey). key.0) (sym key) in
      rw found.1 (ap (λ o. o >>= placed (set_place sets (owner, label))) read ∙ then_placed (later_list_at set.owner set.actions after) used (set_place sets (owner, label)) ∙ ap (λ (who : Option ℕ). later_list_at who set.actions after >>= used_step k sets (set_place sets (owner, label)) name set) same ∙ sym step)
  | inr none ↦
      let read : value (parse_use k sets (bare_use owner label name) None after) ≡ (first_list_at owner after >>= λ x. Some (sets ++ new_set k (bare_use owner label name) x.0 ∷ [], x.1)) =
      value_chain (parse_first_list owner label after) (first_list_at owner after) _ _ (value_first_list owner label after) (λ x. refl) in
      let step = step_is k sets owner label name tokens following after p n ∙ begins k sets (owner, label) name (optional_at (action_list_at owner) after) none ∙ first_comes owner (partial_step k sets (set_place sets (owner, label)) (owner, label) name) after in
      rw none (ap (λ o. o >>= placed (set_place sets (owner, label))) read ∙ partial_placed (first_list_at owner after) (λ actions. sets ++ new_set k (bare_use owner label name) actions ∷ []) (set_place sets (owner, label)) ∙ sym step)
]
  where
    then_placed : (o : Option (List Token)) (used : List PartialSet) (place : ℕ) → ((o >>= λ rest. Some (used, rest)) >>= placed place) ≡ (o >>= λ rest. Some ((used, place), rest))
    then_placed None used place = refl
    then_placed (Some rest) used place = refl

    partial_placed : (o : Option (List Action × List Token)) (f : List Action → List PartialSet) (place : ℕ) → ((o >>= λ x. Some (f x.0, x.1)) >>= placed place) ≡ (o >>= λ x. Some ((f x.0, place), x.1))
    partial_placed None f place = refl
    partial_placed (Some x) f place = refl

-- a set without its number
set_without : (k : ℕ) (sets : List PartialSet) (owner : Option ℕ) (tokens : List Token) → count_at tokens ≡ None → value (parse_set k sets owner tokens) ≡ set_part_at k sets owner tokens
unfolding parse_set set_part_at set_use_at
set_without k sets owner tokens none = rw none refl

-- what follows its number
set_numbered : (k : ℕ) (sets : List PartialSet) (owner : Option ℕ) (tokens : List Token) (p : ℕ × List Token) → count_at tokens ≡ Some p
    → value (parse_set k sets owner tokens) ≡ (value (parse_use k sets (bare_use owner p.0 (optional_text_at p.1).0) (slice_get sets (set_place sets (owner, p.0))) (optional_text_at p.1).1) >>= placed (set_place sets (owner, p.0)))
unfolding parse_set
set_numbered k sets owner tokens p e =
    let o = parse_use k sets (bare_use owner p.0 (optional_text_at p.1).0) (slice_get sets (set_place sets (owner, p.0))) (optional_text_at p.1).1 in
    rw e (value_chain o (value o) _ (placed (set_place sets (owner, p.0))) refl (λ x. refl))

pub value_set : (k : ℕ) (sets : List PartialSet) (owner : Option ℕ) (tokens : List Token) → AreListed sets → value (parse_set k sets owner tokens) ≡ set_part_at k sets owner tokens
value_set k sets owner tokens all = elim (some_or_none (count_at tokens)) [
  | inl p ↦ set_numbered k sets owner tokens p.0 p.1 ∙ value_use k sets owner p.0.0 (optional_text_at p.0.1).0 (optional_text_at p.0.1).1 tokens p.0.1 all p.1 refl
  | inr none ↦ set_without k sets owner tokens none
]

-- ---- outcomes
pub value_first_payoffs : (players : ℕ) (tokens : List Token) → value (parse_first_payoffs players tokens) ≡ payoff_list_at players tokens
unfolding parse_first_payoffs payoff_list_at
value_first_payoffs players tokens =
    value_expected_mark OutcomeMismatch tokens (opening_brace_at tokens) _ _ (λ inner.
    value_chain (parse_each parse_payoff 0 players inner) (payoffs_at players inner) _ _ (value_each parse_payoff payoff_at (λ i rest. value_wanted (if closes (payoff_start i rest) then OutcomeMismatch else Node) (payoff_start i rest) (number_at (payoff_start i rest))) 0 players inner) (λ x.
    value_expected_mark (if has_number x.1 then OutcomeMismatch else Node) x.1 (closing_brace_at x.1) _ _ (λ rest. refl)))

value_same_payoffs : (i : ℕ) (payoffs : List ℚ) (tokens : List Token) → value (parse_same_payoffs i payoffs tokens) ≡ (payoffs_repeated_at i payoffs tokens >>= mark)
unfolding parse_same_payoff
value_same_payoffs i [] tokens = refl
value_same_payoffs i (payoff ∷ payoffs) tokens = elim (some_or_none (number_at (payoff_start i tokens))) [
  | inl p ↦ elim (cases_Bool (eq_ℚ p.0.0 payoff)) [
    | inl e ↦ rw (p.1, e) (value_same_payoffs (suc i) payoffs p.0.1)
    | inr e ↦ rw (p.1, e) refl
  ]
  | inr none ↦ rw none refl
]

value_repeated_payoffs : (payoffs : List ℚ) (inner : List Token) → value (parse_repeated_payoffs payoffs (Left ∷ inner)) ≡ ((payoffs_repeated_at 0 payoffs inner >>= closing_brace_at) >>= mark)
unfolding parse_repeated_payoffs
value_repeated_payoffs payoffs inner =
    value_chain (parse_same_payoffs 0 payoffs inner) (payoffs_repeated_at 0 payoffs inner >>= mark) _ (λ x. closing_brace_at x.1 >>= mark) (value_same_payoffs 0 payoffs inner) (λ x. value_mark (if has_number x.1 then OutcomeMismatch else Node) x.1 (closing_brace_at x.1))
    ∙ marked_then (payoffs_repeated_at 0 payoffs inner) (λ rest. closing_brace_at rest >>= mark) ∙ sym (both_marks (payoffs_repeated_at 0 payoffs inner) closing_brace_at)

pub value_later_payoffs : (payoffs : List ℚ) (tokens : List Token) → value (parse_later_payoffs payoffs tokens) ≡ (later_payoffs_at (length payoffs) payoffs tokens >>= mark)
unfolding later_payoffs_at
value_later_payoffs payoffs (Left ∷ inner) = value_repeated_payoffs payoffs inner ∙ ap (λ (o : Option (List Token)). o >>= mark) (sym (later_opened payoffs (Left ∷ inner) inner refl))
value_later_payoffs payoffs tokens = refl

-- each outcome pays so many players
abbrev pub ArePaid : ℕ → List PartialOutcome → Type 0
ArePaid players outcomes = All (λ outcome. length outcome.payoffs ≡ players) outcomes

-- the place of an outcome beside the outcomes
abbrev placed_outcome : ℕ → List PartialOutcome × List Token → Option ((List PartialOutcome × Option ℕ) × List Token)
placed_outcome place x = Some ((x.0, Some place), x.1)

value_outcome_use : (players label : ℕ) (outcomes : List PartialOutcome) (tokens : List Token) (name : Option (List ℕ)) (after : List Token) → ArePaid players outcomes → (name, after) ≡ optional_text_at tokens
    → (value (parse_outcome_use players outcomes (bare_outcome_use label name) (slice_get outcomes (outcome_place outcomes label)) after) >>= placed_outcome (outcome_place outcomes label)) ≡ named_part_at players label outcomes tokens
value_outcome_use players label outcomes tokens name after all n = elim (some_or_none (slice_get outcomes (outcome_place outcomes label))) [
  | inl found ↦
      let outcome = found.0 in
      let place = outcome_place outcomes label in
      let used : List PartialOutcome = slice_set outcomes place (used_outcome (bare_outcome_use label name) outcome) in
      let paid : length outcome.payoffs ≡ players = all_at (λ (o : PartialOutcome). length o.payoffs ≡ players) outcomes place outcome all found.1 in
      let read : value (parse_outcome_use players outcomes (bare_outcome_use label name) (Some outcome) after) ≡ (later_payoffs_at (length outcome.payoffs) outcome.payoffs after >>= λ rest. Some (used, rest)) =
      value_chain (parse_later_payoffs outcome.payoffs after) (later_payoffs_at (length outcome.payoffs) outcome.payoffs after >>= mark) _ (λ x. Some (used, x.1)) (value_later_payoffs outcome.payoffs after) (λ x. refl) ∙ marked_then (later_payoffs_at (length outcome.payoffs) outcome.payoffs after) (λ rest. Some (used, rest)) in
      rw found.1 (ap (λ o. o >>= placed_outcome place) read ∙ then_placed (later_payoffs_at (length outcome.payoffs) outcome.payoffs after) used place ∙ ap (λ (m : ℕ). later_payoffs_at m outcome.payoffs after >>= λ rest. Some ((used, Some place), rest)) paid ∙ sym (later_is players label outcomes name tokens after n outcome found.1))
  | inr none ↦
      let place = outcome_place outcomes label in
      let read : value (parse_outcome_use players outcomes (bare_outcome_use label name) None after) ≡ (payoff_list_at players after >>= λ x. Some (outcomes ++ new_outcome (bare_outcome_use label name) x.0 ∷ [], x.1)) =
      value_chain (parse_first_payoffs players after) (payoff_list_at players after) _ _ (value_first_payoffs players after) (λ x. refl) in
      rw none (ap (λ o. o >>= placed_outcome place) read ∙ partial_placed (payoff_list_at players after) (λ payoffs. outcomes ++ new_outcome (bare_outcome_use label name) payoffs ∷ []) place ∙ sym (first_is players label outcomes name tokens after n none))
]
  where
    then_placed : (o : Option (List Token)) (used : List PartialOutcome) (place : ℕ) → ((o >>= λ rest. Some (used, rest)) >>= placed_outcome place) ≡ (o >>= λ rest. Some ((used, Some place), rest))
    then_placed None used place = refl
    then_placed (Some rest) used place = refl

    partial_placed : (o : Option (List ℚ × List Token)) (f : List ℚ → List PartialOutcome) (place : ℕ) → ((o >>= λ x. Some (f x.0, x.1)) >>= placed_outcome place) ≡ (o >>= λ x. Some ((f x.0, Some place), x.1))
    partial_placed None f place = refl
    partial_placed (Some x) f place = refl

value_named : (players label : ℕ) (outcomes : List PartialOutcome) (tokens : List Token) → ArePaid players outcomes → value (parse_named players label outcomes tokens) ≡ named_part_at players label outcomes tokens
unfolding parse_named
value_named players label outcomes tokens all =
    let name = (optional_text_at tokens).0 in
    let after = (optional_text_at tokens).1 in
    let place = outcome_place outcomes label in
    let o = parse_outcome_use players outcomes (bare_outcome_use label name) (slice_get outcomes place) after in
    value_chain o (value o) _ (placed_outcome place) refl (λ x. refl) ∙ value_outcome_use players label outcomes tokens name after all refl

pub value_outcome : (players : ℕ) (outcomes : List PartialOutcome) (tokens : List Token) → ArePaid players outcomes → value (parse_outcome players outcomes tokens) ≡ outcome_part_at players outcomes tokens
unfolding parse_outcome outcome_part_at outcome_use_at named_part_at
value_outcome players outcomes tokens all = elim (some_or_none (whole_at tokens)) [
  | inl p ↦ elim (cases_Bool (nat_eq p.0.0 0)) [
    | inl e ↦ rw (p.1, e) refl
    | inr e ↦ rw (p.1, e) (value_named players p.0.0 outcomes p.0.1 all)
  ]
  | inr none ↦ rw none refl
]
