-- Where reading stops, the fault has the kind of the part in which the tokens before it stop.
use Rattle.std.proofs.Common.{◌≡◌, ℕ, ◌*◌, ◌≤◌, List, [], ◌∷◌, ◌++◌, length, map, Option, Some, None, ◌⊎◌, inl, inr, true, false, Bool, if◌then◌else◌, nat_le, zero, suc, refl, sym, ap, ◌∙◌, subst, append_assoc}
use Rattle.std.proofs.lemmas.List.{append-nil}
use Rattle.std.proofs.lemmas.List.Concat.{flat_map_single}
use Rattle.std.specs.Prelude.{Ok, Err, codes}
use Rattle.std.specs.List.{flat_map}
use Rattle.std.proofs.lemmas.Bool.{cases_Bool}
use Rattle.lists.proofs.OptionLemmas.{some-none}
use Rattle.rational.specs.Rational.{ℚ}
use Rattle.game_core.specs.declared.token.Token.{Token}
use Rattle.game_core.specs.declared.token.Token.TheVariants.{Left, Right, Word}
use Rattle.file_parts.specs.Parts.{whole_number, IsComment, IsOpen, ArePlayers}
use Rattle.file_parts.specs.Reading.{opening_brace_at, closing_brace_at, text_at, whole_at, count_at, opens, after_text}
use Rattle.file_parts.specs.Parsing.{Parsed, ◌>>=◌, wanted, expected_mark, parse_each, parse_names, parse_payoffs, parse_title}
use Rattle.file_parts.proofs.TokenLaws.{names_is, closing_brace_is, comment_is, whole_is, whole_again}
use Rattle.file_parts.proofs.HeaderLaws.{title_is}
use Rattle.file_parts.proofs.NumberLaws.{payoffs_are, repeat_are}
use Rattle.file_parts.proofs.ReaderLemmas.{chain, ReadsAs, FaultsAre, bind_faults, each_faults, pure_faults, ok_same, err_same, ok_err, bind_ok, bind_err, reads_alone, each_reader}
use Rattle.file_parts.proofs.TokenReaderLemmas.{wanted_faults, expected_mark_faults, some_or_none}
use Rattle.file_parts.proofs.PartReaderLemmas.{title_reader, names_reader, payoffs_reader, title_faults, names_faults, payoffs_faults}
use Rattle.file_parts.proofs.ValueLemmas.{value, value_title, value_names, value_payoffs, value_each}
use Rattle.nfg_reader.specs.TableFile.{counted_names, outcome_payoffs, IsFront, AreOutcomes, AreStrategyTokens}
use Rattle.nfg_reader.specs.Fronts.{FrontPart, profiles, table_of}
use Rattle.nfg_reader.proofs.TableValueLemmas.{outcome_number_at}
use Rattle.nfg_reader.specs.TableParsing.{parse_count, parse_counted, parse_named, parse_strategies, parse_front, parse_outcome, parse_outcomes, parse_number, parse_outcome_body, parse_body}
use Rattle.nfg_reader.specs.Faults.{IsTitle, AreStrategiesOf, ArePayoffsOf, AreClosedOutcomes, AreNumbersOf, StopsInStrategies, HasBody, StopsInOutcomes, StopsInNumbers, StopsInPayoffs, IsKind}
use Rattle.file_parts.specs.Faults.{WholeComes}
use Rattle.nfg_reader.specs.declared.reading.NfgKind.{NfgKind}
use Rattle.nfg_reader.specs.declared.reading.NfgKind.TheVariants.{Header, Players, Strategies, Outcome, PayoffCount}
use Rattle.nfg_reader.proofs.FrontLaws.{front_is, strategies_are}
use Rattle.nfg_reader.proofs.BodyLaws.{outcomes_are, number_is}
use Rattle.nfg_reader.proofs.TableValueLemmas.{value_front, value_strategies, value_outcomes, value_number}
use Rattle.nfg_reader.proofs.TableReaderLemmas.{strategies_reader, front_reader, closed_outcomes, outcomes_reader, number_reader, numbers_of, numbers_beyond, parse_all}

-- ---- what is read are parts
-- a title
pub title_read : (front : List Token) (title : List ℕ) → ReadsAs (parse_title Header (codes "NFG") 1) front title → IsTitle front
title_read front title r =
    let t = title_is (codes "NFG") 1 front (title, []) (sym (value_title Header (codes "NFG") 1 front) ∙ ap value (reads_alone (parse_title Header (codes "NFG") 1) front title r)) in
    (Word (codes "NFG") ∷ whole_number 1 ∷ Word t.0 ∷ [], title, (t.0, t.1, refl), t.2)

-- players
pub players_read : (front : List Token) (players : List (List ℕ)) → ReadsAs (parse_names Players) front players → ArePlayers players front
players_read front players r =
    let n = names_is front (players, []) (sym (value_names Players front) ∙ ap value (reads_alone (parse_names Players) front players r)) in
    (n.0, n.1 ∙ append-nil _)

-- strategies
pub strategies_read_as : (n : ℕ) (front : List Token) (strategies : List (List (List ℕ))) → ReadsAs (parse_strategies n) front strategies → AreStrategiesOf n front
strategies_read_as n front strategies r =
    let s = strategies_are n front (strategies, []) (sym (value_strategies n front) ∙ ap value (reads_alone (parse_strategies n) front strategies r)) in
    let same : s.2.part ≡ front = sym (append-nil s.2.part) ∙ sym s.2.is ∙ sym s.1 in
    (strategies, subst (λ (q : List Token). AreStrategyTokens q strategies) same s.2.are, s.2.all)

-- a front
pub front_read : (part : List Token) (x : FrontPart) → ReadsAs parse_front part x → IsFront part x.title x.players x.strategies
front_read part x r =
    let f = front_is part (x, []) (sym (value_front part) ∙ ap value (reads_alone parse_front part x r)) in
    subst (λ (q : List Token). IsFront q x.title x.players x.strategies) (sym (append-nil f.0) ∙ sym f.2) f.1

-- payoffs
pub payoffs_read : (n : ℕ) (front : List Token) (payoffs : List ℚ) → ReadsAs (parse_payoffs PayoffCount n) front payoffs → ArePayoffsOf n front
payoffs_read n front payoffs r =
    let p = payoffs_are n front (payoffs, []) (sym (value_payoffs PayoffCount n front) ∙ ap value (reads_alone (parse_payoffs PayoffCount n) front payoffs r)) in
    subst (ArePayoffsOf n) (sym (append-nil p.front) ∙ sym p.is) (payoffs, p.are_numbers, p.all)

closed_read : (n : ℕ) (front : List Token) (outcomes : List (List ℚ)) (x : List (List ℚ) × List Token) → (list : List Token) × AreOutcomes n list x.0 × (front ≡ list ++ x.1) → (o : Option (List Token)) → closing_brace_at x.1 ≡ o → ◌≡◌ {A = Parsed NfgKind (List (List ℚ))} (chain (expected_mark Outcome x.1 o) (λ rest. Ok (x.0, rest.1))) (Ok (outcomes, [])) → AreClosedOutcomes n outcomes front
closed_read n front outcomes x l None r e = absurd (ok_err (outcomes, []) (Outcome, x.1) (sym e))
closed_read n front outcomes x l (Some rest) r e =
    let same = ok_same (x.0, rest) (outcomes, []) e in
    let all : AreClosedOutcomes n x.0 front = (l.0, l.1, l.2 ∙ ap (λ (q : List Token). l.0 ++ q) (closing_brace_is x.1 rest r ∙ ap (λ (z : List (List ℚ) × List Token). Right ∷ z.1) same)) in
    subst (λ (z : List (List ℚ) × List Token). AreClosedOutcomes n z.0 front) same all

-- outcomes and their closing brace
pub outcomes_read : (n : ℕ) (front : List Token) (outcomes : List (List ℚ)) → ReadsAs (closed_outcomes n (λ outcomes. outcomes)) front outcomes → AreClosedOutcomes n outcomes front
outcomes_read n front outcomes r =
    let a = bind_ok (parse_outcomes n (length front) front) _ (outcomes, []) (reads_alone (closed_outcomes n (λ outcomes. outcomes)) front outcomes r) in
    let o = outcomes_are n (length front) front a.0 (sym (value_outcomes n (length front) front) ∙ ap value a.1) in
    closed_read n front outcomes a.0 o (closing_brace_at a.0.1) refl a.2

-- numbers of outcomes
pub numbers_read : (outcomes n : ℕ) (front : List Token) (numbers : List ℕ) → ReadsAs (λ tokens. parse_each (parse_number outcomes) 0 n tokens) front numbers → AreNumbersOf outcomes n front
numbers_read outcomes n front numbers r =
    let e = sym (value_each (parse_number outcomes) (λ _. outcome_number_at outcomes) (value_number outcomes) 0 n front) ∙ ap value (reads_alone (λ tokens. parse_each (parse_number outcomes) 0 n tokens) front numbers r) in
    let p = repeat_are (λ _. outcome_number_at outcomes) (λ n. whole_number n ∷ []) (λ n. n ≤ outcomes) (number_is outcomes) 0 n front (numbers, []) e in
    (numbers, p.good, p.all, p.is ∙ append-nil _ ∙ flat_map_single whole_number numbers)

-- ---- kinds of the parts' faults
-- the faults of one of two
if_faults : {X : Type 0} (P : NfgKind → List Token → Type 0) (test : List Token → Bool) (p q : List Token → Parsed NfgKind X) → FaultsAre P p → FaultsAre P q → FaultsAre P (λ tokens. if test tokens then p tokens else q tokens)
if_faults P test p q one other tokens fault e = elim (cases_Bool (test tokens)) [
  | inl t ↦ one tokens fault (rw t at e)
  | inr f ↦ other tokens fault (rw f at e)
]

pub strategies_faults : (n : ℕ) → FaultsAre (λ k _. k ≡ Strategies) (parse_strategies n)
unfolding parse_strategies parse_counted parse_named
strategies_faults n =
    let P : NfgKind → List Token → Type 0 = λ k _. k ≡ Strategies in
    let counted : FaultsAre P (parse_counted n) = bind_faults P (λ tokens. parse_each parse_count 0 n tokens) (λ counts tokens. expected_mark Strategies tokens (closing_brace_at tokens) >>= λ rest. Ok (map counted_names counts, rest.1)) (each_faults P parse_count (λ _. wanted_faults Strategies count_at) 0 n)
    (λ counts. bind_faults P (λ tokens. expected_mark Strategies tokens (closing_brace_at tokens)) (λ _ tokens. Ok (map counted_names counts, tokens)) (expected_mark_faults Strategies closing_brace_at) (λ _. pure_faults P (map counted_names counts))) in
    let named : FaultsAre P (parse_named n) = bind_faults P (λ tokens. parse_each (λ _. parse_names Strategies) 0 n tokens) (λ lists tokens. expected_mark Strategies tokens (closing_brace_at tokens) >>= λ rest. Ok (lists, rest.1)) (each_faults P (λ _. parse_names Strategies) (λ _. names_faults Strategies) 0 n)
    (λ lists. bind_faults P (λ tokens. expected_mark Strategies tokens (closing_brace_at tokens)) (λ _ tokens. Ok (lists, tokens)) (expected_mark_faults Strategies closing_brace_at) (λ _. pure_faults P lists)) in
    bind_faults P (λ tokens. expected_mark Strategies tokens (opening_brace_at tokens)) (λ _ tokens. if opens tokens then parse_named n tokens else parse_counted n tokens) (expected_mark_faults Strategies opening_brace_at) (λ _. if_faults P opens (parse_named n) (parse_counted n) named counted)

outcome_faults : (n : ℕ) → FaultsAre (λ k _. k ≡ Outcome) (parse_outcome n)
unfolding parse_outcome
outcome_faults n =
    let P : NfgKind → List Token → Type 0 = λ k _. k ≡ Outcome in
    bind_faults P (λ tokens. expected_mark Outcome tokens (opening_brace_at tokens)) (λ _ tokens. wanted Outcome tokens (text_at tokens) >>= λ name. parse_payoffs Outcome n name.1 >>= λ payoffs. expected_mark Outcome payoffs.1 (closing_brace_at payoffs.1) >>= λ rest. Ok (payoffs.0, rest.1)) (expected_mark_faults Outcome opening_brace_at)
    (λ _. bind_faults P (λ tokens. wanted Outcome tokens (text_at tokens)) (λ _ tokens. parse_payoffs Outcome n tokens >>= λ payoffs. expected_mark Outcome payoffs.1 (closing_brace_at payoffs.1) >>= λ rest. Ok (payoffs.0, rest.1)) (wanted_faults Outcome text_at)
    (λ _. bind_faults P (parse_payoffs Outcome n) (λ payoffs tokens. expected_mark Outcome tokens (closing_brace_at tokens) >>= λ rest. Ok (payoffs, rest.1)) (payoffs_faults Outcome n)
    (λ payoffs. bind_faults P (λ tokens. expected_mark Outcome tokens (closing_brace_at tokens)) (λ _ tokens. Ok (payoffs, tokens)) (expected_mark_faults Outcome closing_brace_at) (λ _. pure_faults P payoffs))))

outcomes_faults : (n most : ℕ) → FaultsAre (λ k _. k ≡ Outcome) (parse_outcomes n most)
outcomes_faults n zero = pure_faults (λ k _. k ≡ Outcome) []
outcomes_faults n (suc most) =
    let P : NfgKind → List Token → Type 0 = λ k _. k ≡ Outcome in
    if_faults P opens (λ tokens. parse_outcome n tokens >>= λ one. parse_outcomes n most one.1 >>= λ more. Ok (one.0 ∷ more.0, more.1)) (λ tokens. Ok ([], tokens))
    (bind_faults P (parse_outcome n) (λ one tokens. parse_outcomes n most tokens >>= λ more. Ok (one ∷ more.0, more.1)) (outcome_faults n) (λ one. bind_faults P (parse_outcomes n most) (λ more tokens. Ok (one ∷ more, tokens)) (outcomes_faults n most) (λ more. pure_faults P (one ∷ more)))) (pure_faults P [])

pub closed_faults : (n : ℕ) → FaultsAre (λ k _. k ≡ Outcome) (closed_outcomes n (λ outcomes. outcomes))
closed_faults n tokens fault e =
    let P : NfgKind → List Token → Type 0 = λ k _. k ≡ Outcome in
    bind_faults P (parse_outcomes n (length tokens)) (λ outcomes rest. expected_mark Outcome rest (closing_brace_at rest) >>= λ after. Ok (outcomes, after.1)) (outcomes_faults n (length tokens)) (λ outcomes. bind_faults P (λ rest. expected_mark Outcome rest (closing_brace_at rest)) (λ _ rest. Ok (outcomes, rest)) (expected_mark_faults Outcome closing_brace_at) (λ _. pure_faults P outcomes)) tokens fault e

-- a whole number that no outcome has, or no whole number
abbrev pub IsNumberFault : NfgKind → List Token → Type 0
IsNumberFault kind rest = ((kind ≡ Outcome) × WholeComes rest) ⊎ ((kind ≡ PayoffCount) × ¬ (WholeComes rest))

above : (b : Bool) (x : ℕ × List Token) (tokens : List Token) → WholeComes tokens → (fault : NfgKind × List Token) → ◌≡◌ {A = Parsed NfgKind ℕ} (if b then Ok x else Err (Outcome, tokens)) (Err fault) → IsNumberFault fault.0 fault.1
above true x tokens w fault e = absurd (ok_err x fault e)
above false x tokens w fault e = subst (λ (f : NfgKind × List Token). IsNumberFault f.0 f.1) (err_same (Outcome, tokens) fault e) (inl (refl, w))

no_whole : (tokens : List Token) → whole_at tokens ≡ None → (fault : NfgKind × List Token) → ◌≡◌ {A = Parsed NfgKind ℕ} (Err (PayoffCount, tokens)) (Err fault) → IsNumberFault fault.0 fault.1
no_whole tokens n fault e = subst (λ (f : NfgKind × List Token). IsNumberFault f.0 f.1) (err_same (PayoffCount, tokens) fault e) (inr (refl, λ w. some-none (w.0, w.1) (sym (whole_again w.0 w.1) ∙ ap whole_at (sym w.2) ∙ n)))

pub number_faults : (outcomes i : ℕ) → FaultsAre IsNumberFault (parse_number outcomes i)
unfolding parse_number
number_faults outcomes i tokens fault e = elim (some_or_none (whole_at tokens)) [
  | inl y ↦ above (nat_le y.0.0 outcomes) y.0 tokens (y.0.0, y.0.1, whole_is tokens y.0 y.1) fault (rw y.1 at e)
  | inr n ↦ no_whole tokens n fault (rw n at e)
]

-- ---- where the front stops
-- three parts and the rest
three_parts : (a b c rest : List Token) → a ++ (b ++ (c ++ rest)) ≡ ((a ++ b) ++ c) ++ rest
three_parts a b c rest = sym (append_assoc a b (c ++ rest)) ∙ sym (append_assoc (a ++ b) c rest)

-- the kind of a fault of the front
pub front_kind : (tokens : List Token) (kind : NfgKind) (rest : List Token) → parse_front tokens ≡ Err (kind, rest) → (before : List Token) × (tokens ≡ before ++ rest) × IsKind kind before rest
unfolding parse_front
front_kind tokens kind rest e = elim (bind_err (parse_title Header (codes "NFG") 1 tokens) _ (kind, rest) e) [
  | inl f ↦
      let s = ((title_reader Header (codes "NFG") 1).at tokens).sticks kind rest f in
      let k : kind ≡ Header = title_faults Header (codes "NFG") 1 tokens (kind, rest) f in
      (s.before, s.is, subst (λ (k : NfgKind). IsKind k s.before rest) (sym k) (s.next, s.more, title_read (s.before ++ s.next ∷ s.more) s.value s.goes_on))
  | inr t ↦
      let one = ((title_reader Header (codes "NFG") 1).at tokens).reads t.0.0 t.0.1 t.1 in
      let title = title_read one.0 t.0.0 one.2 in
      elim (bind_err (parse_names Players t.0.1) _ (kind, rest) t.2) [
        | inl f ↦
            let s = ((names_reader Players).at t.0.1).sticks kind rest f in
            let k : kind ≡ Players = names_faults Players t.0.1 (kind, rest) f in
            let part : IsOpen (λ q. (players : List (List ℕ)) × ArePlayers players q) s.before = (s.next, s.more, (s.value, players_read (s.before ++ s.next ∷ s.more) s.value s.goes_on)) in
            (one.0 ++ s.before, one.1 ∙ ap (λ (q : List Token). one.0 ++ q) s.is ∙ sym (append_assoc one.0 s.before rest), subst (λ (k : NfgKind). IsKind k (one.0 ++ s.before) rest) (sym k) (one.0, s.before, refl, title, part))
        | inr n ↦
            let two = ((names_reader Players).at t.0.1).reads n.0.0 n.0.1 n.1 in
            let names = players_read two.0 n.0.0 two.2 in
            elim (bind_err (parse_strategies (length n.0.0) n.0.1) _ (kind, rest) n.2) [
              | inl f ↦
                  let s = ((strategies_reader (length n.0.0) names.0).at n.0.1).sticks kind rest f in
                  let k : kind ≡ Strategies = strategies_faults (length n.0.0) n.0.1 (kind, rest) f in
                  let before : List Token = one.0 ++ two.0 ++ s.before in
                  let part : StopsInStrategies before = (one.0, two.0, s.before, n.0.0, refl, title, names, (s.next, s.more, strategies_read_as (length n.0.0) (s.before ++ s.next ∷ s.more) s.value s.goes_on)) in
                  let all : tokens ≡ before ++ rest = one.1 ∙ ap (λ (q : List Token). one.0 ++ q) (two.1 ∙ ap (λ (q : List Token). two.0 ++ q) s.is) ∙ three_parts one.0 two.0 s.before rest in
                  (before, all, subst (λ (k : NfgKind). IsKind k before rest) (sym k) part)
              | inr o ↦ absurd (ok_err (record { title = t.0.0; players = n.0.0; strategies = o.0.0 }, o.0.1) (kind, rest) o.2)
            ]
      ]
]

-- ---- where the body stops
-- the kind of a fault in the body
abbrev pub IsBodyKind : ℕ → ℕ → NfgKind → List Token → List Token → Type 0
IsBodyKind n count Outcome before rest = StopsInOutcomes n count before ⊎ (StopsInNumbers n count before × WholeComes rest)
IsBodyKind n count PayoffCount before rest = StopsInPayoffs n count before ⊎ (StopsInNumbers n count before × ¬ (WholeComes rest))
IsBodyKind n count _ before rest = ⊥

-- the kind of a fault among the numbers
numbers_kind : (n count : ℕ) (before rest : List Token) (kind : NfgKind) → StopsInNumbers n count before → IsNumberFault kind rest → IsBodyKind n count kind before rest
numbers_kind n count before rest kind s (inl f) = subst (λ (k : NfgKind). IsBodyKind n count k before rest) (sym f.0) (inr (s, f.1))
numbers_kind n count before rest kind s (inr f) = subst (λ (k : NfgKind). IsBodyKind n count k before rest) (sym f.0) (inr (s, f.1))

-- after an opening brace
outcome_body_kind : (n count : ℕ) (inner : List Token) (kind : NfgKind) (rest : List Token) → (closed_outcomes n (λ outcomes. outcomes) inner >>= λ outcomes. numbers_of n count (outcomes.0, outcomes.1)) ≡ Err (kind, rest) → (before : List Token) × (Left ∷ inner ≡ before ++ rest) × IsBodyKind n count kind before rest
outcome_body_kind n count inner kind rest e = elim (bind_err (closed_outcomes n (λ outcomes. outcomes) inner) _ (kind, rest) e) [
  | inl f ↦
      let s = ((outcomes_reader n).at inner).sticks kind rest f in
      let k : kind ≡ Outcome = closed_faults n inner (kind, rest) f in
      let part : StopsInOutcomes n count (Left ∷ s.before) = (s.before, refl, (s.next, s.more, (s.value, outcomes_read n (s.before ++ s.next ∷ s.more) s.value s.goes_on))) in
      (Left ∷ s.before, ap (λ (q : List Token). Left ∷ q) s.is, subst (λ (k : NfgKind). IsBodyKind n count k (Left ∷ s.before) rest) (sym k) (inl part))
  | inr o ↦
      let one = ((outcomes_reader n).at inner).reads o.0.0 o.0.1 o.1 in
      let list = outcomes_read n one.0 o.0.0 one.2 in
      let step = parse_number (length o.0.0) in
      elim (bind_err (parse_each step 0 count o.0.1) _ (kind, rest) o.2) [
        | inl f ↦
            let s = ((each_reader step (number_reader (length o.0.0)) 0 count).at o.0.1).sticks kind rest f in
            let k = each_faults IsNumberFault step (number_faults (length o.0.0)) 0 count o.0.1 (kind, rest) f in
            let before : List Token = Left ∷ (one.0 ++ s.before) in
            let part : StopsInNumbers n count before = (one.0, s.before, o.0.0, refl, list, (s.next, s.more, numbers_read (length o.0.0) count (s.before ++ s.next ∷ s.more) s.value s.goes_on)) in
            (before, ap (λ (q : List Token). Left ∷ q) (one.1 ∙ ap (λ (q : List Token). one.0 ++ q) s.is ∙ sym (append_assoc one.0 s.before rest)), numbers_kind n count before rest kind part k)
        | inr m ↦ absurd (ok_err (flat_map (outcome_payoffs n o.0.0) m.0.0, m.0.1) (kind, rest) m.2)
      ]
]

-- the kind of a fault of the body
pub body_kind : (n count : ℕ) (tokens : List Token) (kind : NfgKind) (rest : List Token) → parse_body n count tokens ≡ Err (kind, rest) → (before : List Token) × (tokens ≡ before ++ rest) × IsBodyKind n count kind before rest
unfolding parse_body parse_outcome_body
body_kind n count (Left ∷ inner) kind rest e = outcome_body_kind n count inner kind rest (sym (numbers_beyond n count inner) ∙ e)
body_kind n count tokens kind rest e =
    let s = ((payoffs_reader PayoffCount (n * count)).at tokens).sticks kind rest e in
    let k : kind ≡ PayoffCount = payoffs_faults PayoffCount (n * count) tokens (kind, rest) e in
    (s.before, s.is, subst (λ (k : NfgKind). IsBodyKind n count k s.before rest) (sym k) (inl (s.next, s.more, payoffs_read (n * count) (s.before ++ s.next ∷ s.more) s.value s.goes_on)))

-- a body after a front and a comment
body_of : (Begins : ℕ → ℕ → List Token → Type 0) (x : FrontPart) (front comment body : List Token) → IsFront front x.title x.players x.strategies → IsComment comment → Begins (length x.players) (profiles x) body → HasBody Begins (front ++ comment ++ body)
body_of Begins x front comment body f c b = record { title = x.title; players = x.players; strategies = x.strategies; front = front; is_front = f; comment = comment; is_comment = c; body = body; begins = b; are_tokens = refl }

-- its kind is the file's
body_kind_is : (x : FrontPart) (front comment body rest : List Token) (kind : NfgKind) → IsFront front x.title x.players x.strategies → IsComment comment → IsBodyKind (length x.players) (profiles x) kind body rest → IsKind kind (front ++ comment ++ body) rest
body_kind_is x front comment body rest Outcome f c (inl b) = inl (body_of StopsInOutcomes x front comment body f c b)
body_kind_is x front comment body rest Outcome f c (inr b) = inr (body_of StopsInNumbers x front comment body f c b.0, b.1)
body_kind_is x front comment body rest PayoffCount f c (inl b) = inl (body_of StopsInPayoffs x front comment body f c b)
body_kind_is x front comment body rest PayoffCount f c (inr b) = inr (body_of StopsInNumbers x front comment body f c b.0, b.1)
body_kind_is x front comment body rest _ f c b = absurd b

-- ---- where the file stops
-- the kind of a fault before the end
pub kind_there : (tokens : List Token) (kind : NfgKind) (rest : List Token) → parse_all tokens ≡ Err (kind, rest) → (before : List Token) × (tokens ≡ before ++ rest) × IsKind kind before rest
kind_there tokens kind rest e = elim (bind_err (parse_front tokens) _ (kind, rest) e) [
  | inl f ↦ front_kind tokens kind rest f
  | inr x ↦
      let one = (front_reader.at tokens).reads x.0.0 x.0.1 x.1 in
      let front = front_read one.0 x.0.0 one.2 in
      let comment = comment_is x.0.1 in
      elim (bind_err (parse_body (length x.0.0.players) (profiles x.0.0) (after_text x.0.1)) _ (kind, rest) x.2) [
        | inl f ↦
            let b = body_kind (length x.0.0.players) (profiles x.0.0) (after_text x.0.1) kind rest f in
            let all : tokens ≡ (one.0 ++ comment.0 ++ b.0) ++ rest = one.1 ∙ ap (λ (q : List Token). one.0 ++ q) (comment.2 ∙ ap (λ (q : List Token). comment.0 ++ q) b.1) ∙ three_parts one.0 comment.0 b.0 rest in
            (one.0 ++ comment.0 ++ b.0, all, body_kind_is x.0.0 one.0 comment.0 b.0 rest kind front comment.1 b.2)
        | inr o ↦ absurd (ok_err (table_of x.0.0 o.0.0, o.0.1) (kind, rest) o.2)
      ]
]
