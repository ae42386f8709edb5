-- The parts that files have in common are read token by token.
use Rattle.std.proofs.Common.{◌≡◌, ℕ, zero, suc, List, [], ◌∷◌, ◌++◌, length, if◌then◌else◌, nat_eq, refl, sym, ap, ◌∙◌, arith}
use Rattle.std.specs.Prelude.{Ok, Err}
use Rattle.lists.proofs.NumberLemmas.{not_zero}
use Rattle.rational.specs.Rational.{ℚ, zero_ℚ}
use Rattle.game_core.specs.declared.token.Token.{Token}
use Rattle.game_core.specs.declared.token.Token.TheVariants.{Right, Comma, Text, Number}
use Rattle.file_parts.specs.Reading.{opening_brace_at, closing_brace_at, text_at, number_at, after_word, version_at, letter_at, texts_at, after_comma, payoff_start}
use Rattle.file_parts.specs.Parsing.{Parsed, ◌>>=◌, wanted, expected_mark, parse_names, parse_payoff, parse_payoffs, parse_title}
use Rattle.file_parts.proofs.ReaderLemmas.{ReadsAs, IsStuck, IsReader, bind_reader, each_reader, ok_err, ok_same, same_first, stuck_by, same_reader, FaultsAre, bind_faults, pure_faults, each_faults}
use Rattle.file_parts.proofs.TokenReaderLemmas.{wanted_reader, number_head, opening_brace_reader, text_reader, word_reader, version_reader, letter_reader, wanted_faults, expected_mark_faults}

-- no token is left
pub no_empty : (t : Token) (r : List Token) → [] ≡ t ∷ r → ⊥
no_empty t r e = cc

-- ---- the title
pub title_reader : {K : Type 0} (kind : K) (word : List ℕ) (version : ℕ) → IsReader (parse_title kind word version)
unfolding parse_title
title_reader kind word version =
    bind_reader (λ tokens. expected_mark kind tokens (after_word word tokens)) (λ _ tokens. expected_mark kind tokens (version_at version tokens) >>= λ z. expected_mark kind z.1 (letter_at z.1) >>= λ y. wanted kind y.1 (text_at y.1)) (word_reader kind word)
    (λ _ _ _. bind_reader (λ tokens. expected_mark kind tokens (version_at version tokens)) (λ _ tokens. expected_mark kind tokens (letter_at tokens) >>= λ y. wanted kind y.1 (text_at y.1)) (version_reader kind version)
    (λ _ _ _. bind_reader (λ tokens. expected_mark kind tokens (letter_at tokens)) (λ _ tokens. wanted kind tokens (text_at tokens)) (letter_reader kind) (λ _ _ _. text_reader kind)))

-- ---- payoffs
-- a number
number_reader : {K : Type 0} (kind : K) → IsReader (λ tokens. wanted kind tokens (number_at tokens))
number_reader kind = wanted_reader kind number_at (record { none = refl; by_token = number_head }) (Number zero_ℚ) zero_ℚ (λ rest. refl)

-- a number after a comma or not
pub after_number : {K : Type 0} → K → List Token → Parsed K ℚ
after_number kind tokens = wanted kind (after_comma tokens) (number_at (after_comma tokens))

comma_reads : {K : Type 0} (kind : K) (tokens : List Token) (x : ℚ) (rest : List Token) → after_number kind tokens ≡ Ok (x, rest) → (front : List Token) × (tokens ≡ front ++ rest) × ReadsAs (after_number kind) front x
unfolding after_number
comma_reads kind (Comma ∷ Number v ∷ r) x rest e =
    let same = ok_same (v, r) (x, rest) e in
    (Comma ∷ Number v ∷ [], ap (λ (z : ℚ × List Token). Comma ∷ Number v ∷ z.1) same, λ more. ap (λ (z : ℚ × List Token). Ok (z.0, more)) same)
comma_reads kind (Number v ∷ r) x rest e =
    let same = ok_same (v, r) (x, rest) e in
    (Number v ∷ [], ap (λ (z : ℚ × List Token). Number v ∷ z.1) same, λ more. ap (λ (z : ℚ × List Token). Ok (z.0, more)) same)
comma_reads kind (Comma ∷ tokens) x rest e = absurd (ok_err (x, rest) (kind, tokens) (sym e))
comma_reads kind tokens x rest e = absurd (ok_err (x, rest) (kind, tokens) (sym e))

comma_sticks : {K : Type 0} (kind : K) (tokens : List Token) (fault : K × List Token) → after_number kind tokens ≡ Err fault → IsStuck (after_number kind) tokens fault.0 fault.1
unfolding after_number
comma_sticks kind [] fault e = stuck_by (after_number kind) [] kind [] fault e (record { before = []; is = refl; stays = λ u s more f. absurd (no_empty u s f); next = Number zero_ℚ; more = []; value = zero_ℚ; goes_on = λ rest. refl })
comma_sticks kind (Comma ∷ []) fault e = stuck_by (after_number kind) (Comma ∷ []) kind [] fault e (record { before = Comma ∷ []; is = refl; stays = λ u s more f. absurd (no_empty u s f); next = Number zero_ℚ; more = []; value = zero_ℚ; goes_on = λ rest. refl })
comma_sticks kind (Comma ∷ Number v ∷ r) fault e = absurd (ok_err (v, r) fault e)
comma_sticks kind (Comma ∷ t ∷ r) fault e = stuck_by (after_number kind) (Comma ∷ t ∷ r) kind (t ∷ r) fault e (record { before = Comma ∷ []; is = refl; stays = λ u s more f. rw (← same_first t u r s f) refl; next = Number zero_ℚ; more = []; value = zero_ℚ; goes_on = λ rest. refl })
comma_sticks kind (Number v ∷ r) fault e = absurd (ok_err (v, r) fault e)
comma_sticks kind (t ∷ r) fault e = stuck_by (after_number kind) (t ∷ r) kind (t ∷ r) fault e (record { before = []; is = refl; stays = λ u s more f. rw (← same_first t u r s f) refl; next = Number zero_ℚ; more = []; value = zero_ℚ; goes_on = λ rest. refl })

comma_reader : {K : Type 0} (kind : K) → IsReader (after_number kind)
unfolding after_number
comma_reader kind = record {
  some = record { sample = Number zero_ℚ ∷ []; value = zero_ℚ; is_sample = λ rest. refl };
  at = λ tokens. record { reads = comma_reads kind tokens; sticks = λ kind_is rest e. comma_sticks kind tokens (kind_is, rest) e };
}

-- a payoff
payoff_reader : {K : Type 0} (kind : K) (i : ℕ) → IsReader (parse_payoff kind i)
unfolding after_number
payoff_reader kind zero = number_reader kind
payoff_reader kind (suc i) = comma_reader kind

-- payoffs
pub payoffs_reader : {K : Type 0} (kind : K) (n : ℕ) → IsReader (parse_payoffs kind n)
payoffs_reader kind n = each_reader (parse_payoff kind) (payoff_reader kind) 0 n

-- ---- texts and the closing brace
-- texts up to a closing brace, seen by f
unfoldable pub closed_texts : {K X : Type 0} → K → (List (List ℕ) → X) → List Token → Parsed K X
closed_texts kind f tokens = expected_mark kind (texts_at tokens).1 (closing_brace_at (texts_at tokens).1) >>= λ rest. Ok (f (texts_at tokens).0, rest.1)

closed_reads : {K X : Type 0} (kind : K) (f : List (List ℕ) → X) (tokens : List Token) (x : X) (rest : List Token) → closed_texts kind f tokens ≡ Ok (x, rest) → (front : List Token) × (tokens ≡ front ++ rest) × ReadsAs (closed_texts kind f) front x
unfolding closed_texts
closed_reads {K} {X} kind f (Right ∷ r) x rest e =
    let same = ok_same (f [], r) (x, rest) e in
    (Right ∷ [], ap (λ (z : X × List Token). Right ∷ z.1) same, λ more. ap (λ (z : X × List Token). Ok (z.0, more)) same)
closed_reads kind f (Text t ∷ r) x rest e =
    let more = closed_reads kind (λ ts. f (t ∷ ts)) r x rest e in
    (Text t ∷ more.0, ap (λ (q : List Token). Text t ∷ q) more.1, more.2)
closed_reads kind f tokens x rest e = absurd (ok_err (x, rest) (kind, tokens) (sym e))

closed_sticks : {K X : Type 0} (kind : K) (f : List (List ℕ) → X) (tokens : List Token) (fault : K × List Token) → closed_texts kind f tokens ≡ Err fault → IsStuck (closed_texts kind f) tokens fault.0 fault.1
unfolding closed_texts
closed_sticks kind f [] fault e = stuck_by (closed_texts kind f) [] kind [] fault e (record { before = []; is = refl; stays = λ u s more g. absurd (no_empty u s g); next = Right; more = []; value = f []; goes_on = λ rest. refl })
closed_sticks kind f (Right ∷ r) fault e = absurd (ok_err (f [], r) fault e)
closed_sticks kind f (Text t ∷ r) fault e =
    let s = closed_sticks kind (λ ts. f (t ∷ ts)) r fault e in
    record { before = Text t ∷ s.before; is = ap (λ (q : List Token). Text t ∷ q) s.is; stays = s.stays; next = s.next; more = s.more; value = s.value; goes_on = s.goes_on }
closed_sticks kind f (t ∷ r) fault e = stuck_by (closed_texts kind f) (t ∷ r) kind (t ∷ r) fault e (record { before = []; is = refl; stays = λ u s more g. rw (← same_first t u r s g) refl; next = Right; more = []; value = f []; goes_on = λ rest. refl })

-- texts and a closing brace
pub closed_reader : {K X : Type 0} (kind : K) (f : List (List ℕ) → X) → IsReader (closed_texts kind f)
unfolding closed_texts
closed_reader kind f = record {
  some = record { sample = Right ∷ []; value = f []; is_sample = λ rest. refl };
  at = λ tokens. record { reads = closed_reads kind f tokens; sticks = λ kind_is rest e. closed_sticks kind f tokens (kind_is, rest) e };
}

-- one or more texts
some_texts : {K : Type 0} → K → List Token → Parsed K (List (List ℕ))
some_texts kind tokens = wanted kind tokens (text_at tokens) >>= λ x. closed_texts kind (λ ts. x.0 ∷ ts) x.1

some_reader : {K : Type 0} (kind : K) → IsReader (some_texts kind)
unfolding some_texts
some_reader kind = bind_reader (λ tokens. wanted kind tokens (text_at tokens)) (λ t tokens. closed_texts kind (λ ts. t ∷ ts) tokens) (text_reader kind) (λ front t r. closed_reader kind (λ ts. t ∷ ts))

-- names are an opening brace and one or more texts
names_are : {K : Type 0} (kind : K) (tokens : List Token) → (if nat_eq (length (texts_at tokens).0) 0 then Err (kind, (texts_at tokens).1) else Ok (texts_at tokens)) >>= (λ names. expected_mark kind names.1 (closing_brace_at names.1) >>= λ rest. Ok (names.0, rest.1)) ≡ some_texts kind tokens
unfolding some_texts closed_texts
names_are kind (Text t ∷ tokens) = rw (not_zero (suc (length (texts_at tokens).0)) (omega arith)) refl
names_are kind tokens = refl

-- names in braces
pub names_reader : {K : Type 0} (kind : K) → IsReader (parse_names kind)
unfolding parse_names
names_reader kind = bind_reader (λ tokens. expected_mark kind tokens (opening_brace_at tokens)) (λ _ tokens. (if nat_eq (length (texts_at tokens).0) 0 then Err (kind, (texts_at tokens).1) else Ok (texts_at tokens)) >>= (λ names. expected_mark kind names.1 (closing_brace_at names.1) >>= λ rest. Ok (names.0, rest.1))) (opening_brace_reader kind) (λ front x r. same_reader _ (some_texts kind) (names_are kind) (some_reader kind))

-- ---- kinds of faults
-- the title's
pub title_faults : {K : Type 0} (kind : K) (word : List ℕ) (version : ℕ) → FaultsAre (λ k _. k ≡ kind) (parse_title kind word version)
unfolding parse_title
title_faults {K} kind word version =
    let P : K → List Token → Type 0 = λ k _. k ≡ kind in
    bind_faults P (λ tokens. expected_mark kind tokens (after_word word tokens)) (λ _ tokens. expected_mark kind tokens (version_at version tokens) >>= λ z. expected_mark kind z.1 (letter_at z.1) >>= λ y. wanted kind y.1 (text_at y.1)) (expected_mark_faults kind (after_word word))
    (λ _. bind_faults P (λ tokens. expected_mark kind tokens (version_at version tokens)) (λ _ tokens. expected_mark kind tokens (letter_at tokens) >>= λ y. wanted kind y.1 (text_at y.1)) (expected_mark_faults kind (version_at version))
    (λ _. bind_faults P (λ tokens. expected_mark kind tokens (letter_at tokens)) (λ _ tokens. wanted kind tokens (text_at tokens)) (expected_mark_faults kind letter_at) (λ _. wanted_faults kind text_at)))

-- payoffs'
pub payoffs_faults : {K : Type 0} (kind : K) (n : ℕ) → FaultsAre (λ k _. k ≡ kind) (parse_payoffs kind n)
payoffs_faults {K} kind n = each_faults (λ k _. k ≡ kind) (parse_payoff kind) (λ i tokens. wanted_faults kind number_at (payoff_start i tokens)) 0 n

-- texts' and the closing brace's
closed_faults : {K X : Type 0} (kind : K) (f : List (List ℕ) → X) → FaultsAre (λ k _. k ≡ kind) (closed_texts kind f)
unfolding closed_texts
closed_faults {K} kind f tokens fault e = bind_faults (λ (k : K) (_ : List Token). k ≡ kind) (λ tokens. expected_mark kind tokens (closing_brace_at tokens)) (λ _ rest. Ok (f (texts_at tokens).0, rest)) (expected_mark_faults kind closing_brace_at) (λ _. pure_faults (λ k _. k ≡ kind) (f (texts_at tokens).0)) (texts_at tokens).1 fault e

-- one or more texts'
some_faults : {K : Type 0} (kind : K) → FaultsAre (λ k _. k ≡ kind) (some_texts kind)
unfolding some_texts
some_faults {K} kind = bind_faults (λ k _. k ≡ kind) (λ tokens. wanted kind tokens (text_at tokens)) (λ t tokens. closed_texts kind (λ ts. t ∷ ts) tokens) (wanted_faults kind text_at) (λ t. closed_faults kind (λ ts. t ∷ ts))

-- names'
pub names_faults : {K : Type 0} (kind : K) → FaultsAre (λ k _. k ≡ kind) (parse_names kind)
unfolding parse_names
names_faults {K} kind =
    let P : K → List Token → Type 0 = λ k _. k ≡ kind in
    bind_faults P (λ tokens. expected_mark kind tokens (opening_brace_at tokens)) (λ _ tokens. (if nat_eq (length (texts_at tokens).0) 0 then Err (kind, (texts_at tokens).1) else Ok (texts_at tokens)) >>= (λ names. expected_mark kind names.1 (closing_brace_at names.1) >>= λ rest. Ok (names.0, rest.1))) (expected_mark_faults kind opening_brace_at)
    (λ _ tokens fault e. some_faults kind tokens fault (sym (names_are kind tokens) ∙ e))
