-- What follows the number of a set or of an outcome is read token by token, up to what follows it in turn.
use Rattle.std.proofs.Common.{◌≡◌, ℕ, List, [], ◌∷◌, ◌++◌, true, false, slice_set, Option, Some, None, refl, sym}
use Rattle.std.specs.Prelude.{Ok, Err}
use Rattle.rational.specs.Rational.{ℚ}
use Rattle.game_core.specs.declared.tree.Action.{Action}
use Rattle.game_core.specs.declared.token.Token.{Token}
use Rattle.game_core.specs.declared.token.Token.TheVariants.{Left, Text}
use Rattle.file_parts.specs.Reading.{opening_brace_at, text_at, optional_text_at, opens}
use Rattle.file_parts.specs.Parsing.{Parsed, ◌>>=◌, wanted, expected_mark}
use Rattle.file_parts.proofs.ReaderLemmas.{chain, IsReader, bind_reader, choose, choose_reader, same_reader, ok_err, bind_ok}
use Rattle.file_parts.proofs.TokenReaderLemmas.{opening_brace_reader, text_reader, opens_first}
use Rattle.written_trees.specs.Written.{SetUse, OutcomeUse}
use Rattle.written_trees.specs.Building.{PartialSet, PartialOutcome, set_place, outcome_place, new_set, used_set, new_outcome, used_outcome}
use Rattle.tree_grammar.specs.TreeParsing.{has_text, parse_optional, parse_list_of, parse_first_list, parse_repeated_list, parse_later_list, parse_use, parse_first_payoffs, parse_repeated_payoffs, parse_later_payoffs, parse_outcome_use}
use Rattle.tree_faults.proofs.PartReaderLemmas.{repeated_list_reader, first_payoffs_reader, repeated_payoffs_reader}
use Rattle.tree_grammar.specs.declared.kinds.EfgKind.{EfgKind}
use Rattle.tree_grammar.specs.declared.kinds.EfgKind.TheVariants.{Node, SetMismatch, OutcomeMismatch}

-- ---- what may come
-- nothing is read that begins with a text, or with an opening brace
pub record ReadsNoText {X : Type 0} (p : List Token → Parsed EfgKind X) : Type 0 where
  pub no_text : (text : List ℕ) (rest : List Token) (y : X × List Token) → p (Text text ∷ rest) ≡ Ok y → ⊥

pub record ReadsNoBrace {X : Type 0} (p : List Token → Parsed EfgKind X) : Type 0 where
  pub no_brace : (rest : List Token) (y : X × List Token) → p (Left ∷ rest) ≡ Ok y → ⊥

pub text_first : (t : Token) (r s : List Token) → has_text (t ∷ r) ≡ has_text (t ∷ s)
text_first (Text text) r s = refl
text_first _ r s = refl

-- ---- a name that may come
-- what follows a name that may come
abbrev pub named : {X : Type 0} → (Option (List ℕ) → List Token → Parsed EfgKind X) → List Token → Parsed EfgKind X
named f tokens = f (optional_text_at tokens).0 (optional_text_at tokens).1

-- with a name
with_name : {X : Type 0} → (Option (List ℕ) → List Token → Parsed EfgKind X) → List Token → Parsed EfgKind X
with_name f tokens = wanted Node tokens (text_at tokens) >>= λ x. f (Some x.0) x.1

named_is : {X : Type 0} (f : Option (List ℕ) → List Token → Parsed EfgKind X) (tokens : List Token) → named f tokens ≡ choose has_text (with_name f) (f None) tokens
unfolding with_name
named_is f (Text text ∷ rest) = refl
named_is f tokens = refl

name_only : {X : Type 0} (f : Option (List ℕ) → List Token → Parsed EfgKind X) (tokens : List Token) (y : X × List Token) → has_text tokens ≡ false → with_name f tokens ≡ Ok y → ⊥
unfolding with_name
name_only f (Text text ∷ rest) y h e = cc
name_only f tokens y h e = ok_err y (Node, tokens) (sym e)

no_name_only : {X : Type 0} (p : List Token → Parsed EfgKind X) → ReadsNoText p → (tokens : List Token) (y : X × List Token) → has_text tokens ≡ true → p tokens ≡ Ok y → ⊥
no_name_only p N (Text text ∷ rest) y h e = N.no_text text rest y e
no_name_only p N _ y h e = cc

pub named_reader : {X : Type 0} (f : Option (List ℕ) → List Token → Parsed EfgKind X) → ((name : Option (List ℕ)) → IsReader (f name)) → ReadsNoText (f None) → IsReader (named f)
unfolding with_name
named_reader f F N =
    same_reader (named f) (choose has_text (with_name f) (f None)) (named_is f)
    (choose_reader has_text (with_name f) (f None) (record { heads = text_first; only_p = name_only f; only_q = no_name_only (f None) N })
    (bind_reader (λ tokens. wanted Node tokens (text_at tokens)) (λ name tokens. f (Some name) tokens) (text_reader Node) (λ _ name _. F (Some name))) (F None))

-- ---- a list that may come
-- what follows a list that may come
abbrev pub listed : {X : Type 0} → (List Token → Parsed EfgKind (Unit {0})) → (List Token → Parsed EfgKind X) → List Token → Parsed EfgKind X
listed p g tokens = parse_optional p tokens >>= λ x. g x.1

-- with a list
with_list : {X : Type 0} → (List Token → Parsed EfgKind (Unit {0})) → (List Token → Parsed EfgKind X) → List Token → Parsed EfgKind X
with_list p g tokens = p tokens >>= λ x. g x.1

listed_is : {X : Type 0} (p : List Token → Parsed EfgKind (Unit {0})) (g : List Token → Parsed EfgKind X) (tokens : List Token) → listed p g tokens ≡ choose opens (with_list p g) g tokens
unfolding with_list
listed_is p g (Left ∷ rest) = refl
listed_is p g tokens = refl

list_only : {X : Type 0} (p : List Token → Parsed EfgKind (Unit {0})) (g : List Token → Parsed EfgKind X) → ((tokens : List Token) (y : Unit {0} × List Token) → opens tokens ≡ false → p tokens ≡ Ok y → ⊥) → (tokens : List Token) (y : X × List Token) → opens tokens ≡ false → with_list p g tokens ≡ Ok y → ⊥
unfolding with_list
list_only p g P tokens y h e = let a = bind_ok (p tokens) _ y e in P tokens a.0 h a.1

no_list_only : {X : Type 0} (g : List Token → Parsed EfgKind X) → ReadsNoBrace g → (tokens : List Token) (y : X × List Token) → opens tokens ≡ true → g tokens ≡ Ok y → ⊥
no_list_only g N (Left ∷ rest) y h e = N.no_brace rest y e
no_list_only g N _ y h e = cc

pub listed_reader : {X : Type 0} (p : List Token → Parsed EfgKind (Unit {0})) (g : List Token → Parsed EfgKind X) → ((tokens : List Token) (y : Unit {0} × List Token) → opens tokens ≡ false → p tokens ≡ Ok y → ⊥) → IsReader p → IsReader g → ReadsNoBrace g → IsReader (listed p g)
unfolding with_list
listed_reader p g only P G N =
    same_reader (listed p g) (choose opens (with_list p g) g) (listed_is p g)
    (choose_reader opens (with_list p g) g (record { heads = opens_first; only_p = list_only p g only; only_q = no_list_only g N }) (bind_reader p (λ _ tokens. g tokens) P (λ _ _ _. G)) G)

-- a list that is repeated opens
repeated_opens : (owner : Option ℕ) (actions : List Action) (tokens : List Token) (y : Unit {0} × List Token) → opens tokens ≡ false → parse_repeated_list owner actions tokens ≡ Ok y → ⊥
unfolding parse_repeated_list
repeated_opens owner actions (Left ∷ tokens) y h e = cc
repeated_opens owner actions tokens y h e = ok_err y (Node, tokens) (sym e)

payoffs_open : (payoffs : List ℚ) (tokens : List Token) (y : Unit {0} × List Token) → opens tokens ≡ false → parse_repeated_payoffs payoffs tokens ≡ Ok y → ⊥
unfolding parse_repeated_payoffs
payoffs_open payoffs (Left ∷ tokens) y h e = cc
payoffs_open payoffs tokens y h e = ok_err y (Node, tokens) (sym e)

-- ---- chains of three
-- a part whose value is seen by h, and what follows
pub map_then : {X Y Z : Type 0} (o : Parsed EfgKind X) (h : X → Y) (g : Y → List Token → Parsed EfgKind Z) → chain (chain {B = Y × List Token} o (λ x. Ok (h x.0, x.1))) (λ y. g y.0 y.1) ≡ chain o (λ x. g (h x.0) x.1)
map_then (Ok x) h g = refl
map_then (Err fault) h g = refl

-- ---- sets
-- a first list of actions
pub first_list_reader : (owner : Option ℕ) (set : ℕ) → ((set : ℕ) → IsReader (parse_list_of None set)) → ((i set : ℕ) → IsReader (parse_list_of (Some i) set)) → IsReader (parse_first_list owner set)
unfolding parse_first_list
first_list_reader None set C O = bind_reader (λ tokens. expected_mark SetMismatch tokens (opening_brace_at tokens)) (λ _ tokens. parse_list_of None set tokens) (opening_brace_reader SetMismatch) (λ _ _ _. C set)
first_list_reader (Some i) set C O = bind_reader (λ tokens. expected_mark SetMismatch tokens (opening_brace_at tokens)) (λ _ tokens. parse_list_of (Some i) set tokens) (opening_brace_reader SetMismatch) (λ _ _ _. O i set)

-- what follows a use of a set
abbrev pub use_then : {X : Type 0} → ℕ → List PartialSet → SetUse → Option PartialSet → (List PartialSet → List Token → Parsed EfgKind X) → List Token → Parsed EfgKind X
use_then k sets used found g tokens = parse_use k sets used found tokens >>= λ x. g x.0 x.1

pub use_reader : {X : Type 0} (k : ℕ) (sets : List PartialSet) (used : SetUse) (found : Option PartialSet) (g : List PartialSet → List Token → Parsed EfgKind X) → IsReader (parse_first_list used.owner used.label)
    → ((more : List PartialSet) → IsReader (g more)) → ((more : List PartialSet) → ReadsNoBrace (g more)) → IsReader (use_then k sets used found g)
use_reader k sets used None g F G N =
    same_reader (use_then k sets used None g) (λ tokens. parse_first_list used.owner used.label tokens >>= λ x. g (sets ++ new_set k used x.0 ∷ []) x.1)
    (λ tokens. map_then (parse_first_list used.owner used.label tokens) (λ actions. sets ++ new_set k used actions ∷ []) g)
    (bind_reader (parse_first_list used.owner used.label) (λ actions tokens. g (sets ++ new_set k used actions ∷ []) tokens) F (λ _ actions _. G (sets ++ new_set k used actions ∷ [])))
use_reader k sets used (Some set) g F G N =
    let more : List PartialSet = slice_set sets (set_place sets (used.owner, used.label)) (used_set k used set) in
    same_reader (use_then k sets used (Some set) g) (listed (parse_repeated_list set.owner set.actions) (g more))
    (λ tokens. map_then (parse_later_list set.owner set.actions tokens) (λ _. more) g)
    (listed_reader (parse_repeated_list set.owner set.actions) (g more) (repeated_opens set.owner set.actions) (repeated_list_reader set.owner set.actions) (G more) (N more))

-- ---- outcomes
abbrev pub outcome_then : {X : Type 0} → ℕ → List PartialOutcome → OutcomeUse → Option PartialOutcome → (List PartialOutcome → List Token → Parsed EfgKind X) → List Token → Parsed EfgKind X
outcome_then players outcomes used found g tokens = parse_outcome_use players outcomes used found tokens >>= λ x. g x.0 x.1

pub outcome_reader : {X : Type 0} (players : ℕ) (outcomes : List PartialOutcome) (used : OutcomeUse) (found : Option PartialOutcome) (g : List PartialOutcome → List Token → Parsed EfgKind X)
    → ((more : List PartialOutcome) → IsReader (g more)) → ((more : List PartialOutcome) → ReadsNoBrace (g more)) → IsReader (outcome_then players outcomes used found g)
outcome_reader players outcomes used None g G N =
    same_reader (outcome_then players outcomes used None g) (λ tokens. parse_first_payoffs players tokens >>= λ x. g (outcomes ++ new_outcome used x.0 ∷ []) x.1)
    (λ tokens. map_then (parse_first_payoffs players tokens) (λ payoffs. outcomes ++ new_outcome used payoffs ∷ []) g)
    (bind_reader (parse_first_payoffs players) (λ payoffs tokens. g (outcomes ++ new_outcome used payoffs ∷ []) tokens) (first_payoffs_reader players) (λ _ payoffs _. G (outcomes ++ new_outcome used payoffs ∷ [])))
outcome_reader players outcomes used (Some outcome) g G N =
    let more : List PartialOutcome = slice_set outcomes (outcome_place outcomes used.label) (used_outcome used outcome) in
    same_reader (outcome_then players outcomes used (Some outcome) g) (listed (parse_repeated_payoffs outcome.payoffs) (g more))
    (λ tokens. map_then (parse_later_payoffs outcome.payoffs tokens) (λ _. more) g)
    (listed_reader (parse_repeated_payoffs outcome.payoffs) (g more) (payoffs_open outcome.payoffs) (repeated_payoffs_reader outcome.payoffs) (G more) (N more))

-- ---- no text comes after a name
-- a list of a first use opens
pub outcome_no_text : {X : Type 0} (players : ℕ) (outcomes : List PartialOutcome) (used : OutcomeUse) (found : Option PartialOutcome) (g : List PartialOutcome → List Token → Parsed EfgKind X) → ((more : List PartialOutcome) → ReadsNoText (g more)) → ReadsNoText (outcome_then players outcomes used found g)
unfolding parse_first_payoffs
outcome_no_text players outcomes used None g T = record { no_text = λ text rest y e. ok_err y (OutcomeMismatch, Text text ∷ rest) (sym e) }
outcome_no_text players outcomes used (Some outcome) g T = record { no_text = λ text rest y e. (T (slice_set outcomes (outcome_place outcomes used.label) (used_outcome used outcome))).no_text text rest y e }

pub use_no_text : {X : Type 0} (k : ℕ) (sets : List PartialSet) (used : SetUse) (found : Option PartialSet) (g : List PartialSet → List Token → Parsed EfgKind X) → ((more : List PartialSet) → ReadsNoText (g more)) → ReadsNoText (use_then k sets used found g)
unfolding parse_first_list
use_no_text k sets used None g T = record { no_text = λ text rest y e. ok_err y (SetMismatch, Text text ∷ rest) (sym e) }
use_no_text k sets used (Some set) g T = record { no_text = λ text rest y e. (T (slice_set sets (set_place sets (used.owner, used.label)) (used_set k used set))).no_text text rest y e }
