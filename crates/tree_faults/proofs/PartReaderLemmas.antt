-- Lists of actions and of payoffs are read token by token.
use Rattle.std.proofs.Common.{◌≡◌, ℕ, zero, suc, List, [], ◌∷◌, length, map, Bool, true, false, if◌then◌else◌, Option, Some, None, ◌⊎◌, inl, inr, refl, sym, arith}
use Rattle.std.specs.Prelude.{Ok, Err}
use Rattle.rational.specs.Rational.{ℚ, zero_ℚ}
use Rattle.game_core.specs.declared.tree.Action.{Action}
use Rattle.game_core.specs.declared.token.Token.{Token}
use Rattle.game_core.specs.declared.token.Token.TheVariants.{Right, Comma, Text, Number}
use Rattle.file_parts.specs.Reading.{opening_brace_at, closing_brace_at, text_at, number_at, after_comma, payoff_start, texts_at}
use Rattle.file_parts.specs.Parsing.{Parsed, ◌>>=◌, wanted, expected_mark, parse_each}
use Rattle.file_parts.proofs.ReaderLemmas.{IsReader, token_reader, bind_reader, pure_reader, each_reader, choose, choose_reader, same_reader, ok_err}
use Rattle.file_parts.proofs.TokenReaderLemmas.{opening_brace_reader, text_reader}
use Rattle.file_parts.proofs.TokenLaws.{le_passes}
use Rattle.file_parts.proofs.PartReaderLemmas.{closed_texts, closed_reader}
use Rattle.tree_grammar.specs.TreePieces.{closed_at}
use Rattle.written_trees.proofs.InsertedKeyLemmas.{eq_self}
use Rattle.tree_grammar.specs.TreeParsing.{own_action, parse_own_list, closes, has_text, parse_same, parse_probability, parse_repeated, parse_all_repeated, parse_repeated_list, parse_payoff, parse_payoffs_end, parse_first_payoffs, parse_same_payoff, parse_same_payoffs, parse_repeated_payoffs}
use Rattle.tree_grammar.specs.declared.kinds.EfgKind.{EfgKind}
use Rattle.tree_grammar.specs.declared.kinds.EfgKind.TheVariants.{Node, SetMismatch, OutcomeMismatch}
use Rattle.rational.specs.Tests.{eq_ℚ}
use Rattle.std.proofs.lemmas.Bool.{cases_Bool}
use Rattle.rational.proofs.Decide.{eq_ℚ-decides}

-- ---- later lists of actions
-- the name of an action that is repeated
abbrev name_again : List Token → Parsed EfgKind (List ℕ)
name_again tokens = wanted (if closes tokens then SetMismatch else Node) tokens (text_at tokens)

name_token : (t : Token) → ((x : List ℕ) × ((rest : List Token) → name_again (t ∷ rest) ≡ Ok (x, rest))) ⊎ ((k : EfgKind) × ((rest : List Token) → name_again (t ∷ rest) ≡ Err (k, t ∷ rest)))
name_token (Text text) = inl (text, λ rest. refl)
name_token Right = inr (SetMismatch, λ rest. refl)
name_token _ = inr (Node, λ rest. refl)

name_reader : IsReader name_again
name_reader = token_reader name_again (record { token = Text []; value = []; is_read = λ rest. refl; kind = Node; at_end = refl; by_token = name_token })

-- the probability of an action that is repeated
same_token : (prob : ℚ) (t : Token) → ((x : Unit {0}) × ((rest : List Token) → parse_same prob (t ∷ rest) ≡ Ok (x, rest))) ⊎ ((k : EfgKind) × ((rest : List Token) → parse_same prob (t ∷ rest) ≡ Err (k, t ∷ rest)))
same_token prob (Number value) = elim (cases_Bool (eq_ℚ value prob)) [
  | inl e ↦ inl (tt, λ rest. rw e refl)
  | inr e ↦ inr (SetMismatch, λ rest. rw e refl)
]
same_token prob _ = inr (Node, λ rest. refl)

same_prob_reader : (prob : ℚ) → IsReader (parse_same prob)
same_prob_reader prob = token_reader (parse_same prob) (record {
  token = Number prob;
  value = tt;
  is_read = λ rest. rw (eq_self eq_ℚ eq_ℚ-decides prob) refl;
  kind = Node;
  at_end = refl;
  by_token = same_token prob;
})

pub probability_reader : (owner : Option ℕ) (prob : ℚ) → IsReader (parse_probability owner prob)
probability_reader None prob = same_prob_reader prob
probability_reader (Some i) prob = pure_reader tt

-- an action that is repeated
repeated_reader : (owner : Option ℕ) (action : Action) → IsReader (parse_repeated owner action)
unfolding parse_repeated
repeated_reader owner action = bind_reader name_again (λ _ tokens. parse_probability owner action.prob tokens) name_reader (λ _ _ _. probability_reader owner action.prob)

-- actions that are repeated
pub all_repeated_reader : (owner : Option ℕ) (actions : List Action) → IsReader (parse_all_repeated owner actions)
all_repeated_reader owner [] = pure_reader tt
all_repeated_reader owner (action ∷ actions) = bind_reader (parse_repeated owner action) (λ _ tokens. parse_all_repeated owner actions tokens) (repeated_reader owner action) (λ _ _ _. all_repeated_reader owner actions)

-- the brace after them
abbrev pub list_end : List Token → Parsed EfgKind (Unit {0})
list_end tokens = expected_mark (if has_text tokens then SetMismatch else Node) tokens (closing_brace_at tokens)

list_end_token : (t : Token) → ((x : Unit {0}) × ((rest : List Token) → list_end (t ∷ rest) ≡ Ok (x, rest))) ⊎ ((k : EfgKind) × ((rest : List Token) → list_end (t ∷ rest) ≡ Err (k, t ∷ rest)))
list_end_token Right = inl (tt, λ rest. refl)
list_end_token (Text text) = inr (SetMismatch, λ rest. refl)
list_end_token _ = inr (Node, λ rest. refl)

pub list_end_reader : IsReader list_end
list_end_reader = token_reader list_end (record { token = Right; value = tt; is_read = λ rest. refl; kind = Node; at_end = refl; by_token = list_end_token })

-- a later list
pub repeated_list_reader : (owner : Option ℕ) (actions : List Action) → IsReader (parse_repeated_list owner actions)
unfolding parse_repeated_list
repeated_list_reader owner actions =
    bind_reader (λ tokens. expected_mark Node tokens (opening_brace_at tokens)) (λ _ tokens. parse_all_repeated owner actions tokens >>= λ following. list_end following.1) (opening_brace_reader Node)
    (λ _ _ _. bind_reader (parse_all_repeated owner actions) (λ _ tokens. list_end tokens) (all_repeated_reader owner actions) (λ _ _ _. list_end_reader))

-- ---- payoffs
-- whether a comma comes
abbrev pub has_comma : List Token → Bool
has_comma (Comma ∷ rest) = true
has_comma _ = false

pub comma_first : (t : Token) (r s : List Token) → has_comma (t ∷ r) ≡ has_comma (t ∷ s)
comma_first Comma r s = refl
comma_first _ r s = refl

-- a comma
abbrev pub comma : List Token → Parsed EfgKind (Unit {0})
comma (Comma ∷ rest) = Ok (tt, rest)
comma tokens = Err (Node, tokens)

comma_token : (t : Token) → ((x : Unit {0}) × ((rest : List Token) → comma (t ∷ rest) ≡ Ok (x, rest))) ⊎ ((k : EfgKind) × ((rest : List Token) → comma (t ∷ rest) ≡ Err (k, t ∷ rest)))
comma_token Comma = inl (tt, λ rest. refl)
comma_token _ = inr (Node, λ rest. refl)

pub comma_reader : IsReader comma
comma_reader = token_reader comma (record { token = Comma; value = tt; is_read = λ rest. refl; kind = Node; at_end = refl; by_token = comma_token })

-- after a comma, where one comes
after_a_comma : {X : Type 0} → (List Token → Parsed EfgKind X) → List Token → Parsed EfgKind X
after_a_comma p tokens = comma tokens >>= λ x. p x.1

comma_or_not : {X : Type 0} (p : List Token → Parsed EfgKind X) (tokens : List Token) → p (after_comma tokens) ≡ choose has_comma (after_a_comma p) p tokens
unfolding after_a_comma
comma_or_not p (Comma ∷ rest) = refl
comma_or_not p tokens = refl

no_comma : {X : Type 0} (p : List Token → Parsed EfgKind X) (tokens : List Token) (y : X × List Token) → has_comma tokens ≡ false → after_a_comma p tokens ≡ Ok y → ⊥
unfolding after_a_comma
no_comma p (Comma ∷ rest) y h e = cc
no_comma p tokens y h e = ok_err y (Node, tokens) (sym e)

-- no comma is read
not_comma : {X : Type 0} (p : List Token → Parsed EfgKind X) → ((rest : List Token) (y : X × List Token) → p (Comma ∷ rest) ≡ Ok y → ⊥) → (tokens : List Token) (y : X × List Token) → has_comma tokens ≡ true → p tokens ≡ Ok y → ⊥
not_comma p never (Comma ∷ rest) y h e = never rest y e
not_comma p never _ y h e = cc

-- what reads one token but a comma, with a comma before it or not
comma_after : {X : Type 0} (p : List Token → Parsed EfgKind X) → IsReader p → ((rest : List Token) (y : X × List Token) → p (Comma ∷ rest) ≡ Ok y → ⊥) → IsReader (λ tokens. p (after_comma tokens))
unfolding after_a_comma
comma_after {X} p P never =
    same_reader _ (choose has_comma (after_a_comma p) p) (comma_or_not p)
    (choose_reader has_comma (after_a_comma p) p (record { heads = comma_first; only_p = no_comma p; only_q = not_comma p never }) (bind_reader comma (λ _ tokens. p tokens) comma_reader (λ _ _ _. P)) P)

-- a reader with a comma before it, where it is not the first
started : {X : Type 0} (p : List Token → Parsed EfgKind X) → IsReader p → ((rest : List Token) (y : X × List Token) → p (Comma ∷ rest) ≡ Ok y → ⊥) → (i : ℕ) → IsReader (λ tokens. p (payoff_start i tokens))
started p P never zero = P
started p P never (suc i) = comma_after p P never

-- a payoff
abbrev number_here : List Token → Parsed EfgKind ℚ
number_here tokens = wanted (if closes tokens then OutcomeMismatch else Node) tokens (number_at tokens)

number_token : (t : Token) → ((x : ℚ) × ((rest : List Token) → number_here (t ∷ rest) ≡ Ok (x, rest))) ⊎ ((k : EfgKind) × ((rest : List Token) → number_here (t ∷ rest) ≡ Err (k, t ∷ rest)))
number_token (Number value) = inl (value, λ rest. refl)
number_token Right = inr (OutcomeMismatch, λ rest. refl)
number_token _ = inr (Node, λ rest. refl)

pub payoff_reader : (i : ℕ) → IsReader (parse_payoff i)
payoff_reader i =
    started number_here (token_reader number_here (record { token = Number zero_ℚ; value = zero_ℚ; is_read = λ rest. refl; kind = Node; at_end = refl; by_token = number_token })) (λ rest y e. ok_err y (Node, Comma ∷ rest) (sym e)) i

-- the brace after payoffs
end_token : (t : Token) → ((x : Unit {0}) × ((rest : List Token) → parse_payoffs_end (t ∷ rest) ≡ Ok (x, rest))) ⊎ ((k : EfgKind) × ((rest : List Token) → parse_payoffs_end (t ∷ rest) ≡ Err (k, t ∷ rest)))
end_token Right = inl (tt, λ rest. refl)
end_token (Number value) = inr (OutcomeMismatch, λ rest. refl)
end_token _ = inr (Node, λ rest. refl)

pub payoffs_end_reader : IsReader parse_payoffs_end
payoffs_end_reader = token_reader parse_payoffs_end (record { token = Right; value = tt; is_read = λ rest. refl; kind = Node; at_end = refl; by_token = end_token })

-- payoffs of a first use
pub first_payoffs_reader : (players : ℕ) → IsReader (parse_first_payoffs players)
unfolding parse_first_payoffs
first_payoffs_reader players =
    bind_reader (λ tokens. expected_mark OutcomeMismatch tokens (opening_brace_at tokens)) (λ _ tokens. parse_each parse_payoff 0 players tokens >>= λ payoffs. parse_payoffs_end payoffs.1 >>= λ rest. Ok (payoffs.0, rest.1)) (opening_brace_reader OutcomeMismatch)
    (λ _ _ _. bind_reader (λ tokens. parse_each parse_payoff 0 players tokens) (λ payoffs tokens. parse_payoffs_end tokens >>= λ rest. Ok (payoffs, rest.1)) (each_reader parse_payoff payoff_reader 0 players)
    (λ _ payoffs _. bind_reader parse_payoffs_end (λ _ tokens. Ok (payoffs, tokens)) payoffs_end_reader (λ _ _ _. pure_reader payoffs)))

-- a payoff that is repeated
same_number : ℚ → List Token → Parsed EfgKind (Unit {0})
same_number payoff (Number value ∷ rest) = if eq_ℚ value payoff then Ok (tt, rest) else Err (OutcomeMismatch, Number value ∷ rest)
same_number payoff (Right ∷ rest) = Err (OutcomeMismatch, Right ∷ rest)
same_number payoff tokens = Err (Node, tokens)

same_number_token : (payoff : ℚ) (t : Token) → ((x : Unit {0}) × ((rest : List Token) → same_number payoff (t ∷ rest) ≡ Ok (x, rest))) ⊎ ((k : EfgKind) × ((rest : List Token) → same_number payoff (t ∷ rest) ≡ Err (k, t ∷ rest)))
unfolding same_number
same_number_token payoff (Number value) = elim (cases_Bool (eq_ℚ value payoff)) [
  | inl e ↦ inl (tt, λ rest. rw e refl)
  | inr e ↦ inr (OutcomeMismatch, λ rest. rw e refl)
]
same_number_token payoff Right = inr (OutcomeMismatch, λ rest. refl)
same_number_token payoff _ = inr (Node, λ rest. refl)

-- a payoff is repeated where the same number comes, from where it begins on
tested : (payoff : ℚ) (start : List Token) → Parsed EfgKind (Unit {0})
tested payoff start = number_here start >>= λ next. if eq_ℚ next.0 payoff then Ok (tt, next.1) else Err (OutcomeMismatch, start)

tested_is : (payoff : ℚ) (start : List Token) → tested payoff start ≡ same_number payoff start
unfolding tested same_number
tested_is payoff (Number value ∷ rest) = refl
tested_is payoff (Right ∷ rest) = refl
tested_is payoff start = refl

no_comma_number : (payoff : ℚ) (rest : List Token) (y : Unit {0} × List Token) → same_number payoff (Comma ∷ rest) ≡ Ok y → ⊥
unfolding same_number
no_comma_number payoff rest y e = ok_err y (Node, Comma ∷ rest) (sym e)

same_number_reader : (payoff : ℚ) → IsReader (same_number payoff)
unfolding same_number
same_number_reader payoff = token_reader (same_number payoff) (record { token = Number payoff; value = tt; is_read = λ rest. rw (eq_self eq_ℚ eq_ℚ-decides payoff) refl; kind = Node; at_end = refl; by_token = same_number_token payoff })

same_payoff_reader : (i : ℕ) (payoff : ℚ) → IsReader (parse_same_payoff i payoff)
unfolding parse_same_payoff tested
same_payoff_reader i payoff = same_reader (parse_same_payoff i payoff) (λ tokens. same_number payoff (payoff_start i tokens)) (λ tokens. tested_is payoff (payoff_start i tokens)) (started (same_number payoff) (same_number_reader payoff) (no_comma_number payoff) i)

-- payoffs that are repeated
pub same_payoffs_reader : (i : ℕ) (payoffs : List ℚ) → IsReader (parse_same_payoffs i payoffs)
same_payoffs_reader i [] = pure_reader tt
same_payoffs_reader i (payoff ∷ payoffs) = bind_reader (parse_same_payoff i payoff) (λ _ tokens. parse_same_payoffs (suc i) payoffs tokens) (same_payoff_reader i payoff) (λ _ _ _. same_payoffs_reader (suc i) payoffs)

-- payoffs of a later use
pub repeated_payoffs_reader : (payoffs : List ℚ) → IsReader (parse_repeated_payoffs payoffs)
unfolding parse_repeated_payoffs
repeated_payoffs_reader payoffs =
    bind_reader (λ tokens. expected_mark Node tokens (opening_brace_at tokens)) (λ _ tokens. parse_same_payoffs 0 payoffs tokens >>= λ following. parse_payoffs_end following.1) (opening_brace_reader Node)
    (λ _ _ _. bind_reader (parse_same_payoffs 0 payoffs) (λ _ tokens. parse_payoffs_end tokens) (same_payoffs_reader 0 payoffs) (λ _ _ _. payoffs_end_reader))

-- ---- a player's list
-- one or more texts and the closing brace
own_texts : List Token → Parsed EfgKind (List Action)
own_texts tokens = wanted Node tokens (text_at tokens) >>= λ x. closed_texts Node (λ names. map own_action (x.0 ∷ names)) x.1

-- the brace after an action
closed_some : (n : ℕ) (tokens : List Token) → closed_at (suc n) tokens ≡ closing_brace_at tokens
closed_some n (Right ∷ rest) = rw (le_passes 1 (suc n) (omega arith)) refl
closed_some n tokens = refl

own_list_is : (tokens : List Token) → parse_own_list tokens ≡ own_texts tokens
unfolding parse_own_list own_texts closed_texts
own_list_is (Text name ∷ tokens) = rw (closed_some (length (texts_at tokens).0) (texts_at tokens).1) refl
own_list_is (Right ∷ tokens) = refl
own_list_is tokens = refl

-- a first list of a player
pub own_list_reader : IsReader parse_own_list
unfolding own_texts
own_list_reader = same_reader parse_own_list own_texts own_list_is (bind_reader (λ tokens. wanted Node tokens (text_at tokens)) (λ name tokens. closed_texts Node (λ names. map own_action (name ∷ names)) tokens) (text_reader Node) (λ _ name _. closed_reader Node (λ names. map own_action (name ∷ names))))
