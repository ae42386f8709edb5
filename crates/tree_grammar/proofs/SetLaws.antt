-- What is read as a set is one, and sets are read.
use Rattle.std.proofs.Common.{◌≡◌, ℕ, ◌^◌, ◌<◌, ◌≤◌, true, false, List, [], ◌∷◌, ◌++◌, length, map, Option, Some, None, ◌⊎◌, inl, inr, nat_le, refl, sym, ap, ◌∙◌, subst, append_assoc, arith}
use Rattle.std.proofs.lemmas.Option.{cond_some, same_Some}
use Rattle.std.proofs.lemmas.List.Elements.{All-map, recursion_from_All}
use Rattle.std.specs.Prelude.{All, pos}
use Rattle.std.specs.List.{AllByRecursion, flat_map}
use Rattle.rational.specs.Rational.{ℚ, zero_ℚ}
use Rattle.rational.proofs.PartLemmas.{whole-num}
use Rattle.game_core.specs.declared.tree.Action.{Action}
use Rattle.file_parts.specs.Parts.{whole_number, optional_text}
use Rattle.file_parts.specs.Reading.{opening_brace_at, closing_brace_at, optional_text_at, texts_at, opens, count_at}
use Rattle.file_parts.proofs.TokenLaws.{opening_brace_is, closing_brace_is, optional_text_is, passes_le, le_passes, count_is, count_again}
use Rattle.written_trees.specs.Written.{SetUse}
use Rattle.written_trees.specs.Described.{IsActionOf, IsActionList}
use Rattle.tree_grammar.specs.TreeFile.{action_tokens, AreActions, IsSetPart}
use Rattle.tree_grammar.specs.TreePieces.{closed_at}
use Rattle.tree_grammar.specs.TreeParsing.{own_action}
use Rattle.tree_grammar.proofs.PartValueLemmas.{chance_actions_at, actions_at, action_list_at, optional_at, set_use_at}
use Rattle.lists.specs.Options.{◌>>=◌}
use Rattle.lists.proofs.OptionLemmas.{bind_some, either}
use Rattle.game_core.specs.declared.token.Token.{Token}
use Rattle.game_core.specs.declared.token.Token.TheVariants.{Left, Right, Text, Number}
use Rattle.game_core.specs.Spacing.{IsShortToken}

-- ---- what may follow
-- neither a text nor a list begins here
pub record IsBare (tokens : List Token) : Type 0 where
  pub no_text : optional_text_at tokens ≡ (None, tokens)
  pub no_list : opens tokens ≡ false

-- a text that may come is read
pub optional_text_again : (name : Option (List ℕ)) (rest : List Token) → optional_text_at rest ≡ (None, rest) → optional_text_at (optional_text name ++ rest) ≡ (name, rest)
optional_text_again None rest e = e
optional_text_again (Some text) rest e = refl

-- a whole number that is short is a label
pub short_label : (n : ℕ) → IsShortToken (whole_number n) → n < 2 ^ 64
short_label n h = let small = rw (whole-num (pos n)) at h.num in omega (arith, small)

-- ---- a list that may come
-- what was read where a list may come
pub optional_is : {X : Type 0} (reading : List Token → Option (X × List Token)) (tokens : List Token) (x : Option X × List Token) → optional_at reading tokens ≡ Some x
    → ((y : X × List Token) × (reading tokens ≡ Some y) × ((Some y.0, y.1) ≡ x)) ⊎ ((None, tokens) ≡ x)
optional_is {X} reading tokens x e =
    elim (either (opens tokens) (reading tokens >>= λ y. Some (Some y.0, y.1)) (Some (None, tokens)) (Some x) e) [
      | inl p ↦ let a = bind_some (reading tokens) _ x p.1 in inl (a.0, a.1, same_Some _ _ a.2)
      | inr p ↦ inr (same_Some _ _ p.1)
    ]

-- a list that comes is read
pub optional_again : {X : Type 0} (reading : List Token → Option (X × List Token)) (tokens : List Token) (y : X × List Token) → opens tokens ≡ true → reading tokens ≡ Some y → optional_at reading tokens ≡ Some (Some y.0, y.1)
optional_again reading tokens y o e = rw (o, e) refl

-- no list comes
pub no_list_again : {X : Type 0} (reading : List Token → Option (X × List Token)) (tokens : List Token) → opens tokens ≡ false → optional_at reading tokens ≡ Some (None, tokens)
no_list_again reading tokens o = rw o refl

-- ---- actions
-- what is read as actions of chance are such
chance_actions_are : (tokens : List Token) (x : List Action × List Token) → chance_actions_at tokens ≡ Some x → tokens ≡ flat_map (action_tokens None) x.0 ++ x.1
chance_actions_are (Text name ∷ Number prob ∷ tokens) x e =
    let a = bind_some (chance_actions_at tokens) _ x e in
    let P : List Action × List Token → Type 0 = λ y. Text name ∷ Number prob ∷ tokens ≡ flat_map (action_tokens None) y.0 ++ y.1 in
    subst P (same_Some _ _ a.2) (ap (λ (r : List Token). Text name ∷ Number prob ∷ r) (chance_actions_are tokens a.0 a.1))
chance_actions_are (Text name ∷ tokens) x e = cc
chance_actions_are tokens x e = ap (λ (y : List Action × List Token). flat_map (action_tokens None) y.0 ++ y.1) (same_Some _ _ e)

-- the texts that are read are a player's actions
own_actions_are : (i : ℕ) (tokens : List Token) → tokens ≡ flat_map (action_tokens (Some i)) (map own_action (texts_at tokens).0) ++ (texts_at tokens).1
own_actions_are i (Text text ∷ tokens) = ap (λ (r : List Token). Text text ∷ r) (own_actions_are i tokens)
own_actions_are i _ = refl

-- actions come first
abbrev pub BeginWithActions : Option ℕ → List Token → List Action × List Token → Type 0
BeginWithActions owner tokens x = All (IsActionOf owner) x.0 × (tokens ≡ flat_map (action_tokens owner) x.0 ++ x.1)

-- what is read as actions are actions
actions_are : (owner : Option ℕ) (tokens : List Token) (x : List Action × List Token) → actions_at owner tokens ≡ Some x → BeginWithActions owner tokens x
actions_are None tokens x e = (λ k d lt. tt, chance_actions_are tokens x e)
actions_are (Some i) tokens x e =
    let names : List (List ℕ) = (texts_at tokens).0 in
    let none : All (IsActionOf (Some i)) (map own_action names) = All-map (IsActionOf (Some i)) own_action names (λ k d lt. refl) in
    subst (BeginWithActions (Some i) tokens) (same_Some _ _ e) (none, own_actions_are i tokens)

-- chance's actions before a closing brace are read
chance_actions_again : (actions : List Action) (rest : List Token) → chance_actions_at (flat_map (action_tokens None) actions ++ (Right ∷ rest)) ≡ Some (actions, Right ∷ rest)
chance_actions_again [] rest = refl
chance_actions_again (action ∷ actions) rest = rw (chance_actions_again actions rest) refl

-- an action without a probability is a player's
own_again : (action : Action) → action.prob ≡ zero_ℚ → own_action action.name ≡ action
own_again action e = ap (λ (p : ℚ). let same : Action = record { name = action.name; prob = p } in same) (sym e)

-- one more action in front
own_cons : (i : ℕ) (action : Action) (actions : List Action) (tokens rest : List Token) → own_action action.name ≡ action → actions_at (Some i) tokens ≡ Some (actions, rest) → actions_at (Some i) (Text action.name ∷ tokens) ≡ Some (action ∷ actions, rest)
own_cons i action actions tokens rest same more = ap (λ (y : List Action × List Token). Some (own_action action.name ∷ y.0, y.1)) (same_Some _ _ more) ∙ ap (λ (a : Action). Some (a ∷ actions, rest)) same

-- a player's actions before a closing brace are read
own_actions_again : (i : ℕ) (actions : List Action) (rest : List Token) → AllByRecursion (IsActionOf (Some i)) actions → actions_at (Some i) (flat_map (action_tokens (Some i)) actions ++ (Right ∷ rest)) ≡ Some (actions, Right ∷ rest)
own_actions_again i [] rest h = refl
own_actions_again i (action ∷ actions) rest h = own_cons i action actions _ _ (own_again action h.0) (own_actions_again i actions rest h.1)

-- actions before a closing brace are read
actions_again : (owner : Option ℕ) (actions : List Action) (rest : List Token) → All (IsActionOf owner) actions → actions_at owner (flat_map (action_tokens owner) actions ++ (Right ∷ rest)) ≡ Some (actions, Right ∷ rest)
actions_again None actions rest h = chance_actions_again actions rest
actions_again (Some i) actions rest h = own_actions_again i actions rest (recursion_from_All (IsActionOf (Some i)) actions h)

-- ---- a list of actions
-- what closes a list stands after at least one action
pub closed_is : (count : ℕ) (tokens rest : List Token) → closed_at count tokens ≡ Some rest → (1 ≤ count) × (tokens ≡ Right ∷ rest)
closed_is count tokens rest e =
    let a = bind_some (closing_brace_at tokens) _ rest e in
    let p = cond_some (nat_le 1 count) a.0 rest a.2 in
    (passes_le 1 count p.0, closing_brace_is tokens a.0 a.1 ∙ ap (λ (r : List Token). Right ∷ r) p.1)

-- the tokens of a list
abbrev pub list_tokens : Option ℕ → List Action → List Token
list_tokens owner actions = Left ∷ flat_map (action_tokens owner) actions ++ Right ∷ []

-- a list and what follows it
list_and : (owner : Option ℕ) (actions : List Action) (rest : List Token) → list_tokens owner actions ++ rest ≡ Left ∷ (flat_map (action_tokens owner) actions ++ (Right ∷ rest))
list_and owner actions rest = ap (λ (r : List Token). Left ∷ r) (append_assoc (flat_map (action_tokens owner) actions) (Right ∷ []) rest)

-- a list comes first
abbrev pub BeginsWithList : Option ℕ → List Token → List Action × List Token → Type 0
BeginsWithList owner tokens x = IsActionList owner x.0 × (tokens ≡ list_tokens owner x.0 ++ x.1)

-- what is read as a list of actions is one
action_list_is : (owner : Option ℕ) (tokens : List Token) (x : List Action × List Token) → action_list_at owner tokens ≡ Some x → BeginsWithList owner tokens x
unfolding action_list_at
action_list_is owner tokens x e =
    let a = bind_some (opening_brace_at tokens) _ x e in
    let b = bind_some (actions_at owner a.0) _ x a.2 in
    let c = bind_some (closed_at (length b.0.0) b.0.1) _ x b.2 in
    let some = closed_is (length b.0.0) b.0.1 c.0 c.1 in
    let actions = actions_are owner a.0 b.0 b.1 in
    let inner : a.0 ≡ flat_map (action_tokens owner) b.0.0 ++ (Right ∷ c.0) = actions.1 ∙ ap (λ (r : List Token). flat_map (action_tokens owner) b.0.0 ++ r) some.1 in
    let all : tokens ≡ list_tokens owner b.0.0 ++ c.0 = opening_brace_is tokens a.0 a.1 ∙ ap (λ (r : List Token). Left ∷ r) inner ∙ sym (list_and owner b.0.0 c.0) in
    let is : IsActionList owner b.0.0 = record { some_action = some.0; are_of_owner = actions.0 } in
    subst (BeginsWithList owner tokens) (same_Some _ _ c.2) (is, all)

-- a list of actions is read
pub action_list_again : (owner : Option ℕ) (actions : List Action) (rest : List Token) → IsActionList owner actions → action_list_at owner (list_tokens owner actions ++ rest) ≡ Some (actions, rest)
unfolding action_list_at
action_list_again owner actions rest h =
    let some : 1 ≤ length actions = h.some_action in
    rw (append_assoc (flat_map (action_tokens owner) actions) (Right ∷ []) rest, actions_again owner actions rest h.are_of_owner, le_passes 1 (length actions) some) refl

-- a list that may come comes first
abbrev pub MayBeginWithList : Option ℕ → List Token → Option (List Action) × List Token → Type 0
MayBeginWithList owner tokens x = (list : List Token) × AreActions owner list x.0 × (tokens ≡ list ++ x.1)

-- what is read where a list may come
optional_list_is : (owner : Option ℕ) (tokens : List Token) (x : Option (List Action) × List Token) → optional_at (action_list_at owner) tokens ≡ Some x → MayBeginWithList owner tokens x
optional_list_is owner tokens x e = elim (optional_is (action_list_at owner) tokens x e) [
  | inl a ↦ let l = action_list_is owner tokens a.0 a.1 in subst (MayBeginWithList owner tokens) a.2 (list_tokens owner a.0.0, (l.0, refl), l.1)
  | inr n ↦ subst (MayBeginWithList owner tokens) n ([], refl, refl)
]

-- a list that may come is read
optional_list_again : (owner : Option ℕ) (list rest : List Token) (actions : Option (List Action)) → AreActions owner list actions → opens rest ≡ false → optional_at (action_list_at owner) (list ++ rest) ≡ Some (actions, rest)
optional_list_again owner list rest None h o = rw h (no_list_again (action_list_at owner) rest o)
optional_list_again owner list rest (Some actions) h o = rw h.1 (optional_again (action_list_at owner) (list_tokens owner actions ++ rest) (actions, rest) refl (action_list_again owner actions rest h.0))

-- a list that may come begins with no text
pub list_bare : (owner : Option ℕ) (list rest : List Token) (actions : Option (List Action)) → AreActions owner list actions → optional_text_at rest ≡ (None, rest) → optional_text_at (list ++ rest) ≡ (None, list ++ rest)
list_bare owner list rest None h e = rw h e
list_bare owner list rest (Some actions) h e = rw h.1 refl

-- ---- a set
-- a set of this owner comes first
pub record BeginsWithSet (owner : Option ℕ) (tokens : List Token) (x : SetUse × List Token) : Type 0 where
  pub part : List Token
  pub is_set : IsSetPart part x.0
  pub is_owner : x.0.owner ≡ owner
  pub is : tokens ≡ part ++ x.1

-- what is read as a set is one
pub set_is : (owner : Option ℕ) (tokens : List Token) (x : SetUse × List Token) → set_use_at owner tokens ≡ Some x → BeginsWithSet owner tokens x
unfolding set_use_at
set_is owner tokens x e =
    let a = bind_some (count_at tokens) _ x e in
    let following : List Token = (optional_text_at a.0.1).1 in
    let b = bind_some (optional_at (action_list_at owner) following) _ x a.2 in
    let p = count_is tokens a.0 a.1 in
    let l = optional_list_is owner following b.0 b.1 in
    let name : List Token = optional_text (optional_text_at a.0.1).0 in
    let after : a.0.1 ≡ (name ++ l.0) ++ b.0.1 = optional_text_is a.0.1 ∙ ap (λ (r : List Token). name ++ r) l.2 ∙ sym (append_assoc name l.0 b.0.1) in
    let used : SetUse = record { owner = owner; label = a.0.0; name = (optional_text_at a.0.1).0; actions = b.0.0 } in
    let here : BeginsWithSet owner tokens (used, b.0.1) = record {
      part = whole_number a.0.0 ∷ (name ++ l.0);
      is_set = (p.0, l.0, refl, l.1);
      is_owner = refl;
      is = p.1 ∙ ap (λ (r : List Token). whole_number a.0.0 ∷ r) after;
    } in
    subst (BeginsWithSet owner tokens) (same_Some _ _ b.2) here

-- a set of its own owner is read
own_set_again : (part rest : List Token) (used : SetUse) → IsSetPart part used → IsBare rest → set_use_at used.owner (part ++ rest) ≡ Some (used, rest)
unfolding set_use_at
own_set_again part rest used h bare =
    let list = h.1 in
    let name : List Token = optional_text used.name in
    let tokens : part ++ rest ≡ whole_number used.label ∷ (name ++ (list ++ rest)) = rw h.2 (ap (λ (r : List Token). whole_number used.label ∷ r) (append_assoc name list rest)) in
    let label = count_again used.label (name ++ (list ++ rest)) h.0 in
    let text = optional_text_again used.name (list ++ rest) (list_bare used.owner list rest used.actions h.3 bare.no_text) in
    let actions = optional_list_again used.owner list rest used.actions h.3 bare.no_list in
    rw (tokens, label, text, actions) refl

-- a set is read
pub set_again : (owner : Option ℕ) (part rest : List Token) (used : SetUse) → used.owner ≡ owner → IsSetPart part used → IsBare rest → set_use_at owner (part ++ rest) ≡ Some (used, rest)
set_again owner part rest used e h bare = subst (λ (o : Option ℕ). set_use_at o (part ++ rest) ≡ Some (used, rest)) e (own_set_again part rest used h bare)
