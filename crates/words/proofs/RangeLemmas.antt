-- The numbers of strategies and of workers that words give are within their ranges.
use Rattle.std.proofs.Common.{◌≡◌, ◌≤◌, refl, subst, sym, arith, tests, ℕ, Bool, true, false, if◌then◌else◌, List, [], ◌∷◌, length, Option, Some, None, Ok, codes, nat_lt}
use Rattle.std.specs.Prelude.{nat_le, option_and_then, option_map}
use Rattle.std.specs.Str.{all_ascii_digits}
use Rattle.std.specs.Str.Parse.{digits_value}
use Rattle.std.proofs.lemmas.Bool.{and_parts}
use Rattle.std.proofs.lemmas.Option.{option_and_then_some}
use Rattle.lists.proofs.OptionLemmas.{mapped_some}
use Rattle.words.specs.Grammar.{word_parts, plain_of, values_of, has_flag}
use Rattle.words.specs.Words.{Command, Enummixed, Make, answer, at_most_one, command_from, enummixed_of, enummixed_options, make_of, make_options, number_in_range, number_or, table_settings, understood, workers_from, IsFrom, IsWithinRanges}
use Rattle.words.proofs.NamedToolLemmas.{NamedFirst, any_named}
use Rattle.words.proofs.NumberLemmas.{passes}

number_range : (least most : ℕ) (text : List ℕ) (n : ℕ) → number_in_range least most text ≡ Some n → IsFrom least most n
number_range least most text n e = go (passes least most text) refl e
  where
    go : (b : Bool) → passes least most text ≡ b → (if b then Some (digits_value 10 text) else None) ≡ Some n → IsFrom least most n
    go false is e = absurd cc
    go true is e =
        let h = and_parts (all_ascii_digits text) _ is in
        let k = and_parts (nat_lt 0 (length text)) _ h.1 in
        let l = and_parts (nat_le (length text) 10) _ k.1 in
        let m = and_parts (nat_le least (digits_value 10 text)) _ l.1 in
        let same : digits_value 10 text ≡ n = cc in
        let low : least ≤ digits_value 10 text = grind (arith, tests, m.0) in
        let high : digits_value 10 text ≤ most = grind (arith, tests, m.1) in
        subst (IsFrom least most) same (low, high)

workers_given : (text : Option (List ℕ)) (n : ℕ) → number_or 1 1 64 text ≡ Some n → IsFrom 1 64 n
workers_given None n e = (let same : 1 ≡ n = cc in subst (IsFrom 1 64) same (omega arith, omega arith))
workers_given (Some text) n e = number_range 1 64 text n e

worker_count : (texts : List (List ℕ)) (n : ℕ) → workers_from texts ≡ Some n → IsFrom 1 64 n
worker_count texts n e = option_and_then_some (number_or 1 1 64) (at_most_one texts) n e (λ text _ f. workers_given text n f)

table_ranges : (workers : ℕ) (plain : List (List ℕ)) (command : Command) → IsFrom 1 64 workers → table_settings workers plain ≡ Some command → IsWithinRanges command
table_ranges workers (number ∷ rows ∷ columns ∷ []) command w e =
    option_and_then_some (λ n. option_and_then (λ r. option_map (λ c. Make n r c workers) (number_in_range 1 32 columns)) (number_in_range 1 32 rows)) (number_in_range 0 2147483647 number) command e
    (λ n _ f. option_and_then_some (λ r. option_map (λ c. Make n r c workers) (number_in_range 1 32 columns)) (number_in_range 1 32 rows) command f
    (λ r is g. (let h = mapped_some (λ c. Make n r c workers) (number_in_range 1 32 columns) command g in
    subst IsWithinRanges h.2 (number_range 1 32 rows r is, number_range 1 32 columns h.0 h.1, w))))
table_ranges workers _ command w e = absurd cc

make_ranges : (words : List (List ℕ)) (command : Command) → understood (answer make_options make_of words) ≡ Ok command → IsWithinRanges command
make_ranges words command e = go (answer make_options make_of words) refl e
  where
    go : (o : Option Command) → answer make_options make_of words ≡ o → understood o ≡ Ok command → IsWithinRanges command
    go None is e = absurd cc
    go (Some other) is e =
        let same : other ≡ command = cc in
        option_and_then_some make_of (word_parts make_options words None) other is (λ ps _ f.
        option_and_then_some (λ n. table_settings n (plain_of ps)) (workers_from (values_of 106 ps)) other f (λ n w g.
        subst IsWithinRanges same (table_ranges n (plain_of ps) other (worker_count (values_of 106 ps) n w) g)))

enummixed_ranges : (words : List (List ℕ)) (command : Command) → understood (answer enummixed_options enummixed_of words) ≡ Ok command → IsWithinRanges command
enummixed_ranges words command e = go (answer enummixed_options enummixed_of words) refl e
  where
    go : (o : Option Command) → answer enummixed_options enummixed_of words ≡ o → understood o ≡ Ok command → IsWithinRanges command
    go None is e = absurd cc
    go (Some other) is e =
        let same : other ≡ command = cc in
        option_and_then_some enummixed_of (word_parts enummixed_options words None) other is (λ ps _ f.
        let flag : Bool = has_flag 68 ps in
        option_and_then_some (λ n. option_map (Enummixed flag n) (at_most_one (plain_of ps))) (workers_from (values_of 106 ps)) other f (λ n w g.
        let h = mapped_some (Enummixed flag n) (at_most_one (plain_of ps)) other g in
        subst IsWithinRanges same (subst IsWithinRanges h.2 (worker_count (values_of 106 ps) n w))))

-- the ranges of a line of words
pub ranges : (words : List (List ℕ)) (command : Command) → command_from words ≡ Ok command → IsWithinRanges command
ranges [] command e = absurd cc
ranges (tool ∷ rest) (Make number rows columns workers) e =
    let command : Command = Make number rows columns workers in
    let named : codes "make" ≡ tool = subst (NamedFirst tool) e (any_named tool rest) in
    make_ranges rest command (subst (λ t. command_from (t ∷ rest) ≡ Ok command) (sym named) e)
ranges (tool ∷ rest) (Enummixed all workers file) e =
    let command : Command = Enummixed all workers file in
    let named : codes "enummixed" ≡ tool = subst (NamedFirst tool) e (any_named tool rest) in
    enummixed_ranges rest command (subst (λ t. command_from (t ∷ rest) ≡ Ok command) (sym named) e)
ranges (tool ∷ rest) _ e = tt
