-- What the matches of a tool's command come to.
use Rattle.std.proofs.Common.{◌≡◌, ◌∙◌, refl, sym, subst, true≢false, ℕ, Bool, true, false, ◌==◌, ◌&&◌, if◌then◌else◌, List, [], ◌∷◌, Option, Some, None, codes, eqb→eq, inl, inr, ◌⊎◌}
use Rattle.std.specs.Prelude.{option_and_then, option_map}
use Rattle.std.specs.Str.{bytes_eq}
use Rattle.std.proofs.lemmas.Slice.Eq.{bytes_eq-Decides}
use Rattle.clap.specs.Matches.{found_of}
use Rattle.clap.specs.Walk.{Text, rows_of}
use Rattle.clap.specs.declared.parser.matches.ArgMatches.{ArgMatches}
use Rattle.words.specs.Grammar.{Options, Part, has_flag, has_letter, word_parts, plain_of, values_of}
use Rattle.words.specs.Commands.{GivesHyphen, Says, SaysParts, flag_id, has_hyphen, is_counted, texts_at, value_id}
use Rattle.words.specs.Words.{Command, Lcp, answer, at_most_one, check_of, check_options, check_settings, convert_of, convert_options, convert_settings, enummixed_of, enummixed_options, enummixed_settings, enumpure_of, enumpure_options, enumpure_settings, is_one_or_none, layout_of, lcp_of, lcp_options, lcp_settings, lp_of, lp_options, lp_settings, make_of, make_options, make_settings, number_from, number_or, player_from}

-- what the matches come to is the answer, where a value `-` is refused
told_answer : (o : Options) (settings : List Part → Option Command) (words : List Text) (m : ArgMatches) → SaysParts o (word_parts o words None) m
    → ((ps : List Part) → GivesHyphen o ps → settings ps ≡ None) → (given : Option Command) → ((ps : List Part) → Says m ps → given ≡ settings ps) → given ≡ answer o settings words
told_answer o settings words m tells refuses given same = go (word_parts o words None) tells
  where
    go : (g : Option (List Part)) → SaysParts o g m → given ≡ option_and_then settings g
    go (Some ps) says = same ps says
    go None h = same h.0 h.2 ∙ refuses h.0 h.1

-- ---- a value `-` is refused

only : (l x : ℕ) → has_letter (l ∷ []) x ≡ true → l ≡ x
only l x e = go (l == x) refl e
  where
    go : (t : Bool) → (l == x) ≡ t → has_letter (l ∷ []) x ≡ true → l ≡ x
    go true is h = eqb→eq l x (rw is tt)
    go false is h = let none : has_letter (l ∷ []) x ≡ false = rw is refl in absurd (true≢false (sym h ∙ none))

first_or_rest : (l : ℕ) (ls : List ℕ) (x : ℕ) → has_letter (l ∷ ls) x ≡ true → (l ≡ x) ⊎ (has_letter ls x ≡ true)
first_or_rest l ls x e = go (l == x) refl e
  where
    go : (t : Bool) → (l == x) ≡ t → has_letter (l ∷ ls) x ≡ true → (l ≡ x) ⊎ (has_letter ls x ≡ true)
    go true is h = inl (eqb→eq l x (rw is tt))
    go false is h = let rest : has_letter ls x ≡ has_letter (l ∷ ls) x = rw is refl in inr (rest ∙ h)

-- the only text is `-`, or there are more
hyphen_alone : {X : Type 0} (test : Option Text → Option X) (texts : List Text) → has_hyphen texts ≡ true → test (Some (codes "-")) ≡ None → option_and_then test (at_most_one texts) ≡ None
hyphen_alone test [] h none = absurd (true≢false (sym h))
hyphen_alone {X} test (t ∷ []) h none = go (bytes_eq t (codes "-")) refl h
  where
    go : (b : Bool) → bytes_eq t (codes "-") ≡ b → has_hyphen (t ∷ []) ≡ true → test (Some t) ≡ None
    go true e h = rw ((bytes_eq-Decides t (codes "-")).0 e) none
    go false e h = let no : has_hyphen (t ∷ []) ≡ false = rw e refl in absurd (true≢false (sym h ∙ no))
hyphen_alone test (t ∷ u ∷ texts) h none = refl

hyphen_number : (default least most : ℕ) (texts : List Text) → has_hyphen texts ≡ true → number_from default least most texts ≡ None
hyphen_number default least most texts h = hyphen_alone (number_or default least most) texts h refl

none_after : {X Y : Type 0} (f : X → Option Y) (o : Option X) → ((x : X) → f x ≡ None) → option_and_then f o ≡ None
none_after f None e = refl
none_after f (Some x) e = e x

-- nothing, whatever a test says
either_none : {X : Type 0} (b : Bool) (o : Option X) → o ≡ None → (if b then None else o) ≡ None
either_none true o e = refl
either_none false o e = e

-- ---- the tools

no_value : (o : Options) (settings : List Part → Option Command) → o.valued ≡ [] → (ps : List Part) → GivesHyphen o ps → settings ps ≡ None
no_value o settings none ps h = let bad : has_letter [] h.0 ≡ true = subst (λ ls. has_letter ls h.0 ≡ true) none h.1 in absurd (true≢false (sym bad))

pub enumpure_told : (words : List Text) (m : ArgMatches) (strategic agents perfect : Bool) (plain : List Text) → SaysParts enumpure_options (word_parts enumpure_options words None) m
    → strategic ≡ is_counted (flag_id 83) (rows_of (found_of m)) → agents ≡ is_counted (flag_id 65) (rows_of (found_of m)) → perfect ≡ is_counted (flag_id 80) (rows_of (found_of m))
    → plain ≡ texts_at (codes "words") (rows_of (found_of m)) → enumpure_settings strategic agents perfect plain ≡ answer enumpure_options enumpure_of words
enumpure_told words m strategic agents perfect plain tells s a p w = told_answer enumpure_options enumpure_of words m tells (no_value enumpure_options enumpure_of refl) (enumpure_settings strategic agents perfect plain)
    (λ ps says i. enumpure_settings ((s ∙ says.flags 83) i) ((a ∙ says.flags 65) i) ((p ∙ says.flags 80) i) ((w ∙ says.plain) i))

enummixed_refuses : (ps : List Part) → GivesHyphen enummixed_options ps → enummixed_of ps ≡ None
enummixed_refuses ps h = let at_j : has_hyphen (values_of 106 ps) ≡ true = subst (λ x. has_hyphen (values_of x ps) ≡ true) (sym (only 106 h.0 h.1)) h.2 in
    rw (hyphen_number 1 1 64 (values_of 106 ps) at_j) refl

pub enummixed_told : (words : List Text) (m : ArgMatches) (all : Bool) (workers plain : List Text) → SaysParts enummixed_options (word_parts enummixed_options words None) m
    → all ≡ is_counted (flag_id 68) (rows_of (found_of m)) → workers ≡ texts_at (value_id 106) (rows_of (found_of m))
    → plain ≡ texts_at (codes "words") (rows_of (found_of m)) → enummixed_settings all workers plain ≡ answer enummixed_options enummixed_of words
enummixed_told words m all workers plain tells d j w = told_answer enummixed_options enummixed_of words m tells enummixed_refuses (enummixed_settings all workers plain)
    (λ ps says i. enummixed_settings ((d ∙ says.flags 68) i) ((j ∙ says.values 106) i) ((w ∙ says.plain) i))

lcp_refuses : (ps : List Part) → GivesHyphen lcp_options ps → lcp_of ps ≡ None
lcp_refuses ps h = let at_e : has_hyphen (values_of 101 ps) ≡ true = subst (λ x. has_hyphen (values_of x ps) ≡ true) (sym (only 101 h.0 h.1)) h.2 in
    either_none (has_flag 83 ps && has_flag 80 ps) _ (hyphen_alone (λ e. if is_one_or_none e then option_map (Lcp (has_flag 83 ps) (has_flag 80 ps)) (at_most_one (plain_of ps)) else None)
    (values_of 101 ps) at_e refl)

pub lcp_told : (words : List Text) (m : ArgMatches) (strategic perfect : Bool) (equilibria plain : List Text) → SaysParts lcp_options (word_parts lcp_options words None) m
    → strategic ≡ is_counted (flag_id 83) (rows_of (found_of m)) → perfect ≡ is_counted (flag_id 80) (rows_of (found_of m)) → equilibria ≡ texts_at (value_id 101) (rows_of (found_of m))
    → plain ≡ texts_at (codes "words") (rows_of (found_of m)) → lcp_settings strategic perfect equilibria plain ≡ answer lcp_options lcp_of words
lcp_told words m strategic perfect equilibria plain tells s p e w = told_answer lcp_options lcp_of words m tells lcp_refuses (lcp_settings strategic perfect equilibria plain)
    (λ ps says i. lcp_settings ((s ∙ says.flags 83) i) ((p ∙ says.flags 80) i) ((e ∙ says.values 101) i) ((w ∙ says.plain) i))

pub lp_told : (words : List Text) (m : ArgMatches) (strategic prices perfect : Bool) (plain : List Text) → SaysParts lp_options (word_parts lp_options words None) m
    → strategic ≡ is_counted (flag_id 83) (rows_of (found_of m)) → prices ≡ is_counted (codes "prices") (rows_of (found_of m)) → perfect ≡ is_counted (flag_id 80) (rows_of (found_of m))
    → plain ≡ texts_at (codes "words") (rows_of (found_of m)) → lp_settings strategic prices perfect plain ≡ answer lp_options lp_of words
lp_told words m strategic prices perfect plain tells s r p w = told_answer lp_options lp_of words m tells (no_value lp_options lp_of refl) (lp_settings strategic prices perfect plain)
    (λ ps says i. lp_settings ((s ∙ says.flags 83) i) ((r ∙ says.prices) i) ((p ∙ says.flags 80) i) ((w ∙ says.plain) i))

convert_refuses : (ps : List Part) → GivesHyphen convert_options ps → convert_of ps ≡ None
convert_refuses ps h = first (first_or_rest 79 (codes "rc") h.0 h.1)
  where
    at : (x : ℕ) → x ≡ h.0 → has_hyphen (values_of x ps) ≡ true
    at x e = subst (λ y. has_hyphen (values_of y ps) ≡ true) (sym e) h.2

    third : 99 ≡ h.0 → convert_of ps ≡ None
    third e = none_after _ (option_and_then layout_of (at_most_one (values_of 79 ps))) (λ layout. none_after _ (player_from 1 (values_of 114 ps)) (λ row. rw (hyphen_number 2 1 4294967295 (values_of 99 ps) (at 99 e)) refl))

    second : (114 ≡ h.0) ⊎ (has_letter (codes "c") h.0 ≡ true) → convert_of ps ≡ None
    second (inl e) = none_after _ (option_and_then layout_of (at_most_one (values_of 79 ps))) (λ layout. rw (hyphen_number 1 1 4294967295 (values_of 114 ps) (at 114 e)) refl)
    second (inr e) = third (only 99 h.0 e)

    first : (79 ≡ h.0) ⊎ (has_letter (codes "rc") h.0 ≡ true) → convert_of ps ≡ None
    first (inl e) = rw (hyphen_alone layout_of (values_of 79 ps) (at 79 e) refl) refl
    first (inr e) = second (first_or_rest 114 (codes "c") h.0 e)

pub convert_told : (words : List Text) (m : ArgMatches) (layouts rows columns plain : List Text) → SaysParts convert_options (word_parts convert_options words None) m
    → layouts ≡ texts_at (value_id 79) (rows_of (found_of m)) → rows ≡ texts_at (value_id 114) (rows_of (found_of m)) → columns ≡ texts_at (value_id 99) (rows_of (found_of m))
    → plain ≡ texts_at (codes "words") (rows_of (found_of m)) → convert_settings layouts rows columns plain ≡ answer convert_options convert_of words
convert_told words m layouts rows columns plain tells l r c w = told_answer convert_options convert_of words m tells convert_refuses (convert_settings layouts rows columns plain)
    (λ ps says i. convert_settings ((l ∙ says.values 79) i) ((r ∙ says.values 114) i) ((c ∙ says.values 99) i) ((w ∙ says.plain) i))

pub check_told : (words : List Text) (m : ArgMatches) (strategic : Bool) (plain : List Text) → SaysParts check_options (word_parts check_options words None) m
    → strategic ≡ is_counted (flag_id 83) (rows_of (found_of m)) → plain ≡ texts_at (codes "words") (rows_of (found_of m)) → check_settings strategic plain ≡ answer check_options check_of words
check_told words m strategic plain tells s w = told_answer check_options check_of words m tells (no_value check_options check_of refl) (check_settings strategic plain)
    (λ ps says i. check_settings ((s ∙ says.flags 83) i) ((w ∙ says.plain) i))

make_refuses : (ps : List Part) → GivesHyphen make_options ps → make_of ps ≡ None
make_refuses ps h = let at_j : has_hyphen (values_of 106 ps) ≡ true = subst (λ x. has_hyphen (values_of x ps) ≡ true) (sym (only 106 h.0 h.1)) h.2 in
    rw (hyphen_number 1 1 64 (values_of 106 ps) at_j) refl

pub make_told : (words : List Text) (m : ArgMatches) (workers plain : List Text) → SaysParts make_options (word_parts make_options words None) m
    → workers ≡ texts_at (value_id 106) (rows_of (found_of m)) → plain ≡ texts_at (codes "words") (rows_of (found_of m)) → make_settings workers plain ≡ answer make_options make_of words
make_told words m workers plain tells j w = told_answer make_options make_of words m tells make_refuses (make_settings workers plain)
    (λ ps says i. make_settings ((j ∙ says.values 106) i) ((w ∙ says.plain) i))
