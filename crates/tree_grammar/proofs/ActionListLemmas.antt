-- First lists of actions, whose probabilities are added up as they are read, and later lists, which are compared as they are read.
use Rattle.std.proofs.Common.{◌≡◌, ℕ, ◌<◌, ◌≤◌, ◌&&◌, Bool, true, false, true≢false, List, [], ◌∷◌, length, Option, Some, None, if◌then◌else◌, nat_le, refl, sym, ap, ◌∙◌, All, arith}
use Rattle.std.specs.List.{AllByRecursion}
use Rattle.std.proofs.lemmas.List.Elements.{recursion_from_All}
use Rattle.rational.proofs.Decide.{eq_ℚ-decides}
use Rattle.rational.specs.Tests.{eq_ℚ}
use Rattle.lists.specs.Options.{◌>>=◌}
use Rattle.rational.specs.Rational.{ℚ, ◌+ℚ◌, zero_ℚ, one_ℚ}
use Rattle.game_core.specs.declared.tree.Action.{Action}
use Rattle.game_core.specs.declared.token.Token.{Token}
use Rattle.game_core.specs.declared.token.Token.TheVariants.{Left, Text, Number}
use Rattle.file_parts.specs.Reading.{opening_brace_at, closing_brace_at, texts_at, opens}
use Rattle.file_parts.proofs.TokenLaws.{opening_brace_is, le_passes}
use Rattle.written_trees.specs.Building.{may_follow, adds_up, may_be_first, repeats_actions}
use Rattle.written_trees.specs.Described.{IsActionOf, IsActionList}
use Rattle.written_trees.proofs.InsertedKeyLemmas.{eq_self}
use Rattle.tree_grammar.specs.TreePieces.{closed_at}
use Rattle.tree_grammar.proofs.PartValueLemmas.{chance_actions_at, actions_at, action_list_at, summed_at, first_list_at, all_repeated_at, later_list_at}

-- a reading of actions and their sum
abbrev pub Summed : Type 0
Summed = Option ((List Action × ℚ) × List Token)

-- a reading of actions
abbrev Listed : Type 0
Listed = Option (List Action × List Token)

-- one more action in front
abbrev more_actions : Action → List Action × List Token → Listed
more_actions action x = Some (action ∷ x.0, x.1)

-- ---- the sum of a list
-- the sum after one, where each probability may follow
abbrev sum_after : ℚ → List Action → Option ℚ
sum_after sum [] = Some sum
sum_after sum (action ∷ actions) = if may_follow sum action.prob then sum_after (sum +ℚ action.prob) actions else None

-- actions with their sum
abbrev with_sum : ℚ → List Action × List Token → Summed
with_sum sum x = sum_after sum x.0 >>= λ total. Some ((x.0, total), x.1)

-- one more action in front of a reading with a sum
abbrev more_summed : Action → Summed → Summed
more_summed action reading = reading >>= λ more. Some ((action ∷ more.0.0, more.0.1), more.1)

-- actions and what is after them, with their sum
abbrev summed : List Action → List Token → Option ℚ → Summed
summed actions rest total = total >>= λ t. Some ((actions, t), rest)

-- one more action in front of a sum
with_sum-cons : (action : Action) (actions : List Action) (rest : List Token) (may : Bool) (total : Option ℚ) → (if may then more_summed action (summed actions rest total) else None) ≡ summed (action ∷ actions) rest (if may then total else None)
with_sum-cons action actions rest true None = refl
with_sum-cons action actions rest true (Some t) = refl
with_sum-cons action actions rest false total = refl

-- nothing comes of nothing, whatever the test says
nothing_follows : {A : Type 0} (may : Bool) → (let none : Option A = None in if may then none else none) ≡ None
nothing_follows true = refl
nothing_follows false = refl

-- an action in front of a reading that is added up
sums_on : (sum : ℚ) (action : Action) (reading : Listed)
    → (if may_follow sum action.prob then more_summed action (reading >>= with_sum (sum +ℚ action.prob)) else None) ≡ ((reading >>= more_actions action) >>= with_sum sum)
sums_on sum action None = nothing_follows (may_follow sum action.prob)
sums_on sum action (Some x) = with_sum-cons action x.0 x.1 (may_follow sum action.prob) (sum_after (sum +ℚ action.prob) x.0)

-- what is added up as it is read is read, and then added up
summed_is : (sum : ℚ) (tokens : List Token) → summed_at sum tokens ≡ (chance_actions_at tokens >>= with_sum sum)
summed_is sum (Text name ∷ Number prob ∷ tokens) =
    let one : Action = record { name = name; prob = prob } in
    rw (summed_is (sum +ℚ prob) tokens) (sums_on sum one (chance_actions_at tokens))
summed_is sum (Text name ∷ tokens) = refl
summed_is sum tokens = refl

-- whether a sum is 1
abbrev is_one : Option ℚ → Bool
is_one None = false
is_one (Some total) = eq_ℚ total one_ℚ

-- probabilities add up where their sum is 1
adds_up_is : (sum : ℚ) (actions : List Action) → adds_up sum actions ≡ is_one (sum_after sum actions)
adds_up_is sum [] = refl
adds_up_is sum (action ∷ actions) = by (may_follow sum action.prob) (adds_up_is (sum +ℚ action.prob) actions)
  where
    by : (may : Bool) → adds_up (sum +ℚ action.prob) actions ≡ is_one (sum_after (sum +ℚ action.prob) actions) → (may && adds_up (sum +ℚ action.prob) actions) ≡ is_one (if may then sum_after (sum +ℚ action.prob) actions else None)
    by true e = e
    by false e = refl

-- ---- a first list
-- a list that is closed by a brace
abbrev closed_list : List Action × List Token → Listed
closed_list x = closed_at (length x.0) x.1 >>= λ rest. Some (x.0, rest)

-- a list that may stand first
abbrev tested : Option ℕ → Listed → Listed
tested owner reading = reading >>= λ x. if may_be_first owner x.0 then Some x else None

-- no list comes
pub first_without : (owner : Option ℕ) (tokens : List Token) → opening_brace_at tokens ≡ None → first_list_at owner tokens ≡ None
unfolding first_list_at action_list_at
first_without owner tokens l = rw l refl

-- after its brace a first list is read, closed and tested
pub first_list_is : (owner : Option ℕ) (tokens inner : List Token) → opening_brace_at tokens ≡ Some inner → first_list_at owner tokens ≡ tested owner (actions_at owner inner >>= closed_list)
unfolding first_list_at action_list_at
first_list_is owner tokens inner l = rw l refl

-- a player's list is not tested
own_tested : (i : ℕ) (reading : Listed) → tested (Some i) reading ≡ reading
own_tested i None = refl
own_tested i (Some x) = refl

-- a player's list is read and closed
pub own_list_is : (owner : Option ℕ) (i n : ℕ) (tokens inner following : List Token) (actions : List Action) (closed : Option (List Token)) → owner ≡ Some i → opening_brace_at tokens ≡ Some inner → actions_at (Some 0) inner ≡ Some (actions, following) → n ≡ length actions → closed_at n following ≡ closed
    → first_list_at owner tokens ≡ (closed >>= λ rest. Some (actions, rest))
own_list_is owner i n tokens inner following actions closed o l a e c =
    let rest : first_list_at (Some i) tokens ≡ (closed_at (length actions) following >>= λ rest. Some (actions, rest)) = first_list_is (Some i) tokens inner l ∙ ap (λ (r : Listed). tested (Some i) (r >>= closed_list)) a ∙ own_tested i (closed_list (actions, following)) in
    rw (o, ← c, e) rest

-- the list of chance that the code reads: added up as it is read, then closed, then tested
abbrev pub closed_sum : (List Action × ℚ) × List Token → Listed
closed_sum x = closed_at (length x.0.0) x.1 >>= λ rest. if eq_ℚ x.0.1 one_ℚ then Some (x.0.0, rest) else None

-- the sum is tested after the brace
sum_tested : (actions : List Action) (following : List Token) (total : Option ℚ) (closed : Option (List Token)) → closed_at (length actions) following ≡ closed → adds_up zero_ℚ actions ≡ is_one total
    → tested None (closed >>= λ rest. Some (actions, rest)) ≡ (summed actions following total >>= closed_sum)
sum_tested actions following None None e a = refl
sum_tested actions following None (Some rest) e a = rw a refl
sum_tested actions following (Some t) None e a = rw e refl
sum_tested actions following (Some t) (Some rest) e a = rw (e, a) refl

-- a list of chance is added up
sums_tested : (reading : Listed) → tested None (reading >>= closed_list) ≡ ((reading >>= with_sum zero_ℚ) >>= closed_sum)
sums_tested None = refl
sums_tested (Some x) = sum_tested x.0 x.1 (sum_after zero_ℚ x.0) (closed_at (length x.0) x.1) refl (adds_up_is zero_ℚ x.0)

-- a list of chance is added up, closed and tested
pub chance_list_is : (owner : Option ℕ) (tokens inner : List Token) (sums : Summed) → owner ≡ None → opening_brace_at tokens ≡ Some inner → summed_at zero_ℚ inner ≡ sums → first_list_at owner tokens ≡ (sums >>= closed_sum)
chance_list_is owner tokens inner sums o l s =
    let all : first_list_at None tokens ≡ (summed_at zero_ℚ inner >>= closed_sum) = first_list_is None tokens inner l ∙ sums_tested (chance_actions_at inner) ∙ ap (λ (r : Summed). r >>= closed_sum) (sym (summed_is zero_ℚ inner)) in
    rw (o, ← s) all

-- ---- a later list
-- the brace that closes actions, and whether they repeat others
abbrev repeated_after : List Action → List Action × List Token → Option (List Token)
repeated_after actions x = closing_brace_at x.1 >>= λ rest. if repeats_actions actions (Some x.0) then Some rest else None

-- nothing comes of a test that fails
never : (closed : Option (List Token)) → (let none : List Token → Option (List Token) = λ rest. None in closed >>= none) ≡ None
never None = refl
never (Some rest) = refl

-- a test that passes changes nothing
closed_as_it_is : (closed : Option (List Token)) → (closed >>= λ rest. if true then Some rest else None) ≡ closed
closed_as_it_is None = refl
closed_as_it_is (Some rest) = refl

-- no action is repeated by one
too_long : (action : Action) (reading : Listed) → ((reading >>= more_actions action) >>= repeated_after []) ≡ None
too_long action None = refl
too_long action (Some x) = never (closing_brace_at x.1)

-- the first action is compared, and then the others
compared : (same : Bool) (closed : Option (List Token)) (others : Bool) → (closed >>= λ rest. if same && others then Some rest else None) ≡ (if same then (closed >>= λ rest. if others then Some rest else None) else None)
compared true closed others = refl
compared false closed others = never closed

repeats_on : (one action : Action) (actions : List Action) (reading : Listed) → ((reading >>= more_actions one) >>= repeated_after (action ∷ actions)) ≡ (if eq_ℚ one.prob action.prob then (reading >>= repeated_after actions) else None)
repeats_on one action actions None = sym (nothing_follows (eq_ℚ one.prob action.prob))
repeats_on one action actions (Some x) = compared (eq_ℚ one.prob action.prob) (closing_brace_at x.1) (repeats_actions actions (Some x.0))

-- what follows a test that passes
after_test : (same : Bool) (tokens : List Token) (f : List Token → Option (List Token)) → (if same then (f tokens >>= closing_brace_at) else None) ≡ (((if same then Some tokens else None) >>= f) >>= closing_brace_at)
after_test true tokens f = refl
after_test false tokens f = refl

-- chance's actions repeat these, and are closed
chance_repeats : (actions : List Action) (tokens : List Token) → (chance_actions_at tokens >>= repeated_after actions) ≡ (all_repeated_at None actions tokens >>= closing_brace_at)
chance_repeats [] (Text name ∷ Number prob ∷ tokens) = too_long (record { name = name; prob = prob }) (chance_actions_at tokens)
chance_repeats [] (Text name ∷ tokens) = refl
chance_repeats [] tokens = closed_as_it_is (closing_brace_at tokens)
chance_repeats (action ∷ actions) (Text name ∷ Number prob ∷ tokens) =
    let one : Action = record { name = name; prob = prob } in
    repeats_on one action actions (chance_actions_at tokens) ∙ ap (λ (r : Option (List Token)). if eq_ℚ prob action.prob then r else None) (chance_repeats actions tokens) ∙ after_test (eq_ℚ prob action.prob) tokens (all_repeated_at None actions)
chance_repeats (action ∷ actions) (Text name ∷ tokens) = refl
chance_repeats (action ∷ actions) tokens = never (closing_brace_at tokens)

-- a player's actions repeat these, and are closed
own_repeats : (i : ℕ) (actions : List Action) (tokens : List Token) → AllByRecursion (IsActionOf (Some i)) actions → (actions_at (Some i) tokens >>= repeated_after actions) ≡ (all_repeated_at (Some i) actions tokens >>= closing_brace_at)
own_repeats i [] (Text name ∷ tokens) h = never (closing_brace_at (texts_at tokens).1)
own_repeats i [] tokens h = closed_as_it_is (closing_brace_at tokens)
own_repeats i (action ∷ actions) (Text name ∷ tokens) h = rw (h.0, eq_self eq_ℚ eq_ℚ-decides zero_ℚ) (own_repeats i actions tokens h.1)
own_repeats i (action ∷ actions) tokens h = never (closing_brace_at tokens)

-- actions repeat these, and are closed
actions_repeat : (owner : Option ℕ) (actions : List Action) (tokens : List Token) → All (IsActionOf owner) actions → (actions_at owner tokens >>= repeated_after actions) ≡ (all_repeated_at owner actions tokens >>= closing_brace_at)
actions_repeat None actions tokens h = chance_repeats actions tokens
actions_repeat (Some i) actions tokens h = own_repeats i actions tokens (recursion_from_All (IsActionOf (Some i)) actions h)

-- what repeats one or more actions has one or more
repeats_some : (actions list : List Action) → 0 < length actions → repeats_actions actions (Some list) ≡ true → 1 ≤ length list
repeats_some [] list some e = absurd (omega arith)
repeats_some (action ∷ actions) [] some e = absurd (true≢false (sym e))
repeats_some (action ∷ actions) (one ∷ list) some e = omega arith

-- the number of actions needs no test where they repeat one or more
counted : (closed : Option (List Token)) (n : ℕ) (repeats : Bool) → (repeats ≡ true → 1 ≤ n)
    → ((closed >>= λ rest. if nat_le 1 n then Some rest else None) >>= λ rest. if repeats then Some rest else None) ≡ (closed >>= λ rest. if repeats then Some rest else None)
counted None n repeats h = refl
counted (Some rest) n true h = rw (le_passes 1 n (h refl)) refl
counted (Some rest) n false h = by (nat_le 1 n)
  where
    by : (some : Bool) → ((if some then Some rest else None) >>= λ rest. if false then Some rest else None) ≡ None
    by true = refl
    by false = refl

-- a list that comes
abbrev pub that_comes : List Action × List Token → Option (Option (List Action) × List Token)
that_comes x = Some (Some x.0, x.1)

-- a list that comes is compared
abbrev compared_list : List Action → Listed → Option (List Token)
compared_list actions reading = (reading >>= that_comes) >>= λ list. if repeats_actions actions list.0 then Some list.1 else None

-- the comparison goes to the brace
compared_closed : (actions list : List Action) (closed : Option (List Token)) → compared_list actions (closed >>= λ rest. Some (list, rest)) ≡ (closed >>= λ rest. if repeats_actions actions (Some list) then Some rest else None)
compared_closed actions list None = refl
compared_closed actions list (Some rest) = refl

list_repeats : (actions : List Action) (reading : Listed) → 0 < length actions → compared_list actions (reading >>= closed_list) ≡ (reading >>= repeated_after actions)
list_repeats actions None some = refl
list_repeats actions (Some x) some = compared_closed actions x.0 (closed_at (length x.0) x.1) ∙ counted (closing_brace_at x.1) (length x.0) (repeats_actions actions (Some x.0)) (repeats_some actions x.0 some)

-- no later list comes
no_opening_brace : (tokens : List Token) → opening_brace_at tokens ≡ None → opens tokens ≡ false
no_opening_brace (Left ∷ tokens) e = cc
no_opening_brace _ e = refl

pub later_without : (owner : Option ℕ) (actions : List Action) (tokens : List Token) → opening_brace_at tokens ≡ None → later_list_at owner actions tokens ≡ Some tokens
unfolding later_list_at
later_without owner actions tokens l = rw (no_opening_brace tokens l) refl

-- a later list is compared as it is read
pub later_list_is : (owner : Option ℕ) (actions : List Action) (tokens inner : List Token) → IsActionList owner actions → opening_brace_at tokens ≡ Some inner → later_list_at owner actions tokens ≡ (all_repeated_at owner actions inner >>= closing_brace_at)
unfolding later_list_at action_list_at
later_list_is owner actions tokens inner h l = rw (opening_brace_is tokens inner l) (list_repeats actions (actions_at owner inner) h.some_action ∙ actions_repeat owner actions inner h.are_of_owner)
