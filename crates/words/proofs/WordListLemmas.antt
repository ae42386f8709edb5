-- What clap makes of all words of a tool.
use Rattle.std.proofs.Common.{◌≡◌, ◌∙◌, ◌+◌, refl, ap, rules, arith, ℕ, Bool, true, false, ◌&&◌, not, if◌then◌else◌, List, [], ◌∷◌, ◌++◌, map}
use Rattle.std.specs.Prelude.{count_by, fold, is_some}
use Rattle.std.specs.List.{list_all, list_any}
use Rattle.clap.specs.Walk.{Row, Rule, Text, finished, has_row, is_early_multiple, nothing_held, walk, walk_from, with_default}
use Rattle.clap.specs.Simple.{built, filled_from, is_in_order, matches_of}
use Rattle.clap.specs.Takes.{is_given}
use Rattle.clap.specs.Kinds.{Kinds, or_else}
use Rattle.clap.specs.Faults.{check_fault, default_fault, defaults_fault, fault_of, given_default_fault, is_simple_and_free, level_fault, settle_fault, walk_fault}
use Rattle.clap.proofs.FaultLemmas.{leaf_fault}
use Rattle.words.specs.Grammar.{Options}
use Rattle.words.specs.Commands.{app_with, flag_rule, prices_rules, rules_of, value_rule}
use Rattle.words.proofs.RuleLemmas.{app, built_rules, command_is, flag, plain, prices, prices_built, rules_filled, shape, value}
use Rattle.words.proofs.RunLemmas.{ready}
use Rattle.words.proofs.LineLemmas.{final, or_true, total}
use Rattle.words.proofs.WordTurnLemmas.{calm}

-- ---- tests of all arguments

all_letters : (test : Rule → Bool) (rule : ℕ → Rule) (letters : List ℕ) (rest : List Rule) → ((l : ℕ) → test (rule l) ≡ true) → list_all test rest ≡ true → list_all test (map rule letters ++ rest) ≡ true
all_letters test rule [] rest one later = later
all_letters test rule (l ∷ ls) rest one later = rw (one l) (all_letters test rule ls rest one later)

none_letters : (test : Rule → Bool) (rule : ℕ → Rule) (letters : List ℕ) (rest : List Rule) → ((l : ℕ) → test (rule l) ≡ false) → list_any test rest ≡ false → list_any test (map rule letters ++ rest) ≡ false
none_letters test rule [] rest one later = later
none_letters test rule (l ∷ ls) rest one later = rw (one l) (none_letters test rule ls rest one later)

abbrev counted_from : (Rule → Bool) → ℕ → List Rule → ℕ
counted_from test n rules = fold (λ k x. k + (if test x then 1 else 0)) n rules

count_letters : (test : Rule → Bool) (rule : ℕ → Rule) (letters : List ℕ) (rest : List Rule) (n : ℕ) → ((l : ℕ) → test (rule l) ≡ false)
    → counted_from test n (map rule letters ++ rest) ≡ counted_from test n rest
count_letters test rule [] rest n one = refl
count_letters test rule (l ∷ ls) rest n one =
    let same : n + (if test (rule l) then 1 else 0) ≡ n = rw (one l) (omega arith) in
    ap (λ k. counted_from test k (map rule ls ++ rest)) same ∙ count_letters test rule ls rest n one

all_built : (test : Rule → Bool) (o : Options) → test plain ≡ true → ((l : ℕ) → test (flag l) ≡ true) → ((l : ℕ) → test (value l) ≡ true) → test prices ≡ true → list_all test (built_rules o) ≡ true
all_built test o one for_flag for_value two = rw one (all_letters test flag o.flags (map value o.valued ++ prices_built o.prices) for_flag (all_letters test value o.valued (prices_built o.prices) for_value (go o.prices)))
  where
    go : (given : Bool) → list_all test (prices_built given) ≡ true
    go true = rw two refl
    go false = refl

none_built : (test : Rule → Bool) (o : Options) → test plain ≡ false → ((l : ℕ) → test (flag l) ≡ false) → ((l : ℕ) → test (value l) ≡ false) → test prices ≡ false → list_any test (built_rules o) ≡ false
none_built test o one for_flag for_value two = rw one (none_letters test flag o.flags (map value o.valued ++ prices_built o.prices) for_flag (none_letters test value o.valued (prices_built o.prices) for_value (go o.prices)))
  where
    go : (given : Bool) → list_any test (prices_built given) ≡ false
    go true = rw two refl
    go false = refl

one_place : (o : Options) → count_by (λ a. is_some a.index) (built_rules o) ≡ 1
one_place o = count_letters (λ a. is_some a.index) flag o.flags (map value o.valued ++ prices_built o.prices) 1 (λ l. refl)
    ∙ count_letters (λ a. is_some a.index) value o.valued (prices_built o.prices) 1 (λ l. refl) ∙ go o.prices
  where
    go : (given : Bool) → counted_from (λ a. is_some a.index) 1 (prices_built given) ≡ 1
    go true = refl
    go false = refl

in_order : (o : Options) → is_in_order (built_rules o) ≡ true
in_order o = ap (λ n. not (list_any (is_early_multiple n) (built_rules o))) (one_place o) ∙ ap not (none_built (is_early_multiple 1) o refl (λ l. refl) (λ l. refl) refl)

simple_app : (rs c : List Rule) → filled_from 1 rs ≡ c → list_all (λ a. a.is_simple) rs ≡ true → list_all (λ a. a.is_simple) c ≡ true → is_in_order c ≡ true → list_all (λ a. a.is_free) c ≡ true
    → is_simple_and_free (app rs) ≡ true
simple_app rs c is before after order free = λ i. (((true && before i) && true) && (((true && s i) && d i) && true)) && (f i && true)
  where
    s : list_all (λ a. a.is_simple) (filled_from 1 rs) ≡ true
    s = ap (list_all (λ (a : Rule). a.is_simple)) is ∙ after

    d : is_in_order (filled_from 1 rs) ≡ true
    d = ap is_in_order is ∙ order

    f : list_all (λ a. a.is_free) (filled_from 1 rs) ≡ true
    f = ap (list_all (λ (a : Rule). a.is_free)) is ∙ free

simple_rules : (o : Options) → list_all (λ a. a.is_simple) (rules_of o) ≡ true
simple_rules o = all_letters (λ a. a.is_simple) flag_rule o.flags (map value_rule o.valued ++ prices_rules o.prices) (λ l. refl)
    (all_letters (λ a. a.is_simple) value_rule o.valued (prices_rules o.prices) (λ l. refl) (go o.prices))
  where
    go : (given : Bool) → list_all (λ a. a.is_simple) (prices_rules given) ≡ true
    go true = refl
    go false = refl

pub simple_and_free : (o : Options) → is_simple_and_free (app_with o) ≡ true
simple_and_free o = ap is_simple_and_free (command_is o) ∙ simple_app (rules_of o) (built_rules o) (rules_filled o) (simple_rules o)
    (all_built (λ a. a.is_simple) o refl (λ l. refl) (λ l. refl) refl) (in_order o) (all_built (λ a. a.is_free) o refl (λ l. refl) (λ l. refl) refl)

-- ---- after the walk

abbrev Defaults : List Rule → Type 0
Defaults c = (rows : List Row) → defaults_fault rows c ≡ []

rule_default : (a : Rule) (rest : List Rule) → ((rows : List Row) → default_fault rows a ≡ []) → Defaults rest → Defaults (a ∷ rest)
unfolding defaults_fault
rule_default a rest one later rows = rw (one rows) (later (with_default rows a))

letter_defaults : (rule : ℕ → Rule) (letters : List ℕ) (rest : List Rule) → ((l : ℕ) (rows : List Row) → default_fault rows (rule l) ≡ []) → Defaults rest → Defaults (map rule letters ++ rest)
letter_defaults rule [] rest one later = later
letter_defaults rule (l ∷ ls) rest one later = rule_default (rule l) (map rule ls ++ rest) (one l) (letter_defaults rule ls rest one later)

flag_default : (l : ℕ) (rows : List Row) → default_fault rows (flag l) ≡ []
flag_default l rows = go (has_row (flag l).id rows) refl
  where
    go : (t : Bool) → has_row (flag l).id rows ≡ t → default_fault rows (flag l) ≡ []
    go true e = rw e refl
    go false e = rw e refl

prices_default : (rows : List Row) → default_fault rows prices ≡ []
prices_default rows = go (has_row prices.id rows) refl
  where
    go : (t : Bool) → has_row prices.id rows ≡ t → default_fault rows prices ≡ []
    go true e = rw e refl
    go false e = rw e refl

plain_default : (rows : List Row) → default_fault rows plain ≡ []
plain_default rows = ap (λ b. if b then [] else given_default_fault plain []) (or_true (has_row plain.id rows) true refl)

value_default : (l : ℕ) (rows : List Row) → default_fault rows (value l) ≡ []
value_default l rows = ap (λ b. if b then [] else given_default_fault (value l) []) (or_true (has_row (value l).id rows) true refl)

prices_defaults : (given : Bool) → Defaults (prices_built given)
unfolding defaults_fault
prices_defaults true = rule_default prices [] prices_default (λ rows. refl)
prices_defaults false = λ rows. refl

no_default_fault : (o : Options) → Defaults (built_rules o)
no_default_fault o = rule_default plain (map flag o.flags ++ (map value o.valued ++ prices_built o.prices)) plain_default
    (letter_defaults flag o.flags (map value o.valued ++ prices_built o.prices) flag_default (letter_defaults value o.valued (prices_built o.prices) value_default (prices_defaults o.prices)))

none_required : (o : Options) (rows : List Row) → check_fault (shape (built_rules o)) rows false ≡ []
none_required o rows = rw (none_built (λ a. a.required && not (is_given a.id rows)) o refl (λ l. refl) (λ l. refl) refl) refl

-- ---- the whole

or_none : (ks : Kinds) → or_else ks [] ≡ ks
or_none [] = refl
or_none (k ∷ ks) = refl

level_is : (o : Options) (words : List Text) → level_fault (shape (built_rules o)) [] nothing_held words false [] ≡ total (built_rules o) (calm (ready []) false false) words
level_is o words = rw (no_default_fault o, none_required o) (ap (or_else (walk_fault (shape (built_rules o)) [] (walk_from nothing_held) words)) (or_none (settle_fault (built_rules o) false (walk (built_rules o) [] nothing_held words).held)))

-- the fault of the words
pub fault_is : (o : Options) (words : List Text) → fault_of (app_with o) words ≡ total (built_rules o) (calm (ready []) false false) words
fault_is o words = ap (λ a. fault_of a words) (command_is o) ∙ leaf_fault (built (app (rules_of o))) nothing_held words refl
    ∙ ap (λ c. level_fault (shape c) [] nothing_held words false []) (rules_filled o) ∙ level_is o words

-- the rows at their end
pub matches_are : (o : Options) (words : List Text) → matches_of (app_with o) words ≡ fold with_default (final (built_rules o) (calm (ready []) false false) words) (built_rules o)
matches_are o words = ap (λ a. matches_of a words) (command_is o) ∙ ap (λ c. finished c (walk c [] nothing_held words).held) (rules_filled o)
