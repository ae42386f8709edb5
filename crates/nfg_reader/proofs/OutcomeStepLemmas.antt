-- Outcomes, one after another, as a loop reads them.
use Rattle.std.proofs.Common.{◌≡◌, ℕ, zero, suc, ◌+◌, ◌-◌, ◌<◌, ◌≤◌, true, false, List, [], ◌∷◌, ◌++◌, length, map, Some, refl, sym, ap, ◌∙◌, get_or, length-append, arith}
use Rattle.std.proofs.lemmas.List.{append-nil, length-map}
use Rattle.std.specs.List.{flat_map}
use Rattle.rational.specs.Rational.{ℚ}
use Rattle.game_core.specs.declared.token.Spanned.{Spanned}
use Rattle.game_core.specs.declared.token.Token.{Token}
use Rattle.file_parts.specs.declared.stop.PartStop.{PartStop}
use Rattle.file_parts.specs.declared.stop.PartStop.TheVariants as part_stops
use Rattle.game_core.specs.TokenList.{bare}
use Rattle.file_parts.specs.Reading.{opening_brace_at, closing_brace_at, text_at, opens}
use Rattle.file_parts.specs.Parsing.{Parsed, ◌>>=◌, parse_each, parse_payoffs, IsPartStop}
use Rattle.file_parts.proofs.TokenLaws.{opening_brace_is, closing_brace_is, text_is}
use Rattle.file_parts.proofs.NumberLaws.{payoffs_are}
use Rattle.file_parts.proofs.ParseLemmas.{following, following-cons}
use Rattle.file_parts.proofs.ReaderLemmas.{err_same}
use Rattle.file_parts.proofs.ValueLemmas.{value, value_payoffs}
use Rattle.std.specs.Prelude.{Ok, Err}
use Rattle.lists.proofs.ElementLemmas.{part-read}
use Rattle.nfg_reader.specs.TableFile.{outcome_payoffs}
use Rattle.nfg_reader.proofs.TableValueLemmas.{outcomes_at}
use Rattle.nfg_reader.specs.TableParsing.{parse_outcome, parse_outcomes, parse_number, parse_outcome_body}
use Rattle.nfg_reader.specs.declared.reading.NfgKind.{NfgKind}
use Rattle.nfg_reader.specs.declared.reading.NfgKind.TheVariants.{Outcome}

-- the next outcome and the others
one_outcome : (players m : ℕ) (tokens : List Token) → 0 < m → opens tokens ≡ true → parse_outcomes players m tokens ≡ (parse_outcome players tokens >>= λ one. parse_outcomes players (m - 1) one.1 >>= λ more. Ok (one.0 ∷ more.0, more.1))
one_outcome players zero tokens lt o = absurd (omega arith)
one_outcome players (suc m) tokens lt o = let e : suc m - 1 ≡ m = omega arith in rw (e, o) refl

-- one was read
pub outcomes_go_on : (players m n : ℕ) (front : List (List ℚ)) (tokens : List Token) (one : List ℚ) (after : List Token) (total : Parsed NfgKind (List (List ℚ))) → opens tokens ≡ true → 0 < m → n + 1 ≡ m → parse_outcome players tokens ≡ Ok (one, after)
    → following front (parse_outcomes players m tokens) ≡ total → following (front ++ one ∷ []) (parse_outcomes players n after) ≡ total
outcomes_go_on players m n front tokens one after total o lt less h so_far =
    let n_is : m - 1 ≡ n = omega arith in
    let next : following front (parse_outcomes players m tokens) ≡ following (front ++ one ∷ []) (parse_outcomes players n after) = rw (one_outcome players m tokens lt o, h, n_is) (following-cons front one (parse_outcomes players n after)) in
    sym next ∙ so_far

-- a fault comes next
outcomes_fault : (players m : ℕ) (front : List (List ℚ)) (tokens : List Token) (stopped : PartStop NfgKind) (total : Parsed NfgKind (List (List ℚ))) → opens tokens ≡ true → 0 < m → (o : Parsed NfgKind (List ℚ)) → parse_outcome players tokens ≡ o → IsPartStop stopped o → following front (parse_outcomes players m tokens) ≡ total → IsPartStop stopped total
outcomes_fault players m front tokens part_stops.Memory total o lt r e h so_far = tt
outcomes_fault players m front tokens (part_stops.Unexpected unfit) total o lt (Ok x) e h so_far = cc
outcomes_fault players m front tokens (part_stops.Unexpected unfit) total o lt (Err fault) e h so_far =
    let next : following front (parse_outcomes players m tokens) ≡ Err fault = rw (one_outcome players m tokens lt o, e) refl in
    let all : total ≡ Err fault = sym so_far ∙ next in
    rw all (ap (λ (f : NfgKind × ℕ). Err f) (err_same (fault.0, length fault.1) (unfit.kind, unfit.left) h))

-- the same by the outcome's own stop
pub outcomes_end : (players m : ℕ) (front : List (List ℚ)) (tokens : List Token) (stopped : PartStop NfgKind) (total : Parsed NfgKind (List (List ℚ))) → opens tokens ≡ true → 0 < m → IsPartStop stopped (parse_outcome players tokens) → following front (parse_outcomes players m tokens) ≡ total → IsPartStop stopped total
outcomes_end players m front tokens stopped total o lt h so_far = outcomes_fault players m front tokens stopped total o lt (parse_outcome players tokens) refl h so_far

-- nothing opens
pub no_outcome : (players m : ℕ) (tokens : List Token) → opens tokens ≡ false → outcomes_at players m tokens ≡ Some ([], tokens)
no_outcome players zero tokens o = refl
no_outcome players (suc m) tokens o = rw o refl

-- nothing opens
no_more : (players m : ℕ) (tokens : List Token) → opens tokens ≡ false → parse_outcomes players m tokens ≡ Ok ([], tokens)
no_more players zero tokens o = refl
no_more players (suc m) tokens o = rw o refl

-- all were read
pub outcomes_done : (players m : ℕ) (front : List (List ℚ)) (tokens : List Token) (total : Parsed NfgKind (List (List ℚ))) → opens tokens ≡ false → following front (parse_outcomes players m tokens) ≡ total → total ≡ Ok (front, tokens)
outcomes_done players m front tokens total o so_far =
    let next : following front (parse_outcomes players m tokens) ≡ Ok (front, tokens) = rw (no_more players m tokens o) (ap (λ (xs : List (List ℚ)). Ok (xs, tokens)) (append-nil front)) in
    sym so_far ∙ next

pub ruleset outcome_steps = (outcomes_go_on, outcomes_end, outcomes_done)

-- an outcome's number is read whichever it is
pub any_index : (outcomes i : ℕ) (tokens : List Token) (x : ℕ × List Token) → parse_number outcomes 0 tokens ≡ Ok x → parse_number outcomes i tokens ≡ Ok x
unfolding parse_number
any_index outcomes i tokens x e = e

-- and refused
pub any_stop : (outcomes i : ℕ) (tokens : List Token) (stopped : PartStop NfgKind) → IsPartStop stopped (parse_number outcomes 0 tokens) → IsPartStop stopped (parse_number outcomes i tokens)
unfolding parse_number
any_stop outcomes i tokens stopped r = r

-- what an outcome with a number pays
pub outcome_named : {V : Type 0} (outcomes : List V) (one : V) (players n : ℕ) (f : V → List ℚ) → 0 < n → n ≤ length outcomes → one ≡ get_or outcomes (n - 1) one → f one ≡ outcome_payoffs players (map f outcomes) n
outcome_named outcomes one players zero f lt le e = absurd (omega arith)
outcome_named outcomes one players (suc n) f lt le e =
    let less : suc n - 1 ≡ n = omega arith in
    part-read f outcomes n one [] (omega arith) (rw less at e)

-- an outcome takes tokens
pub outcome_shorter : (tokens inner following last rest : List Spanned) (name : List ℕ) (n : ℕ) (payoffs : List ℚ) → opening_brace_at (bare tokens) ≡ Some (bare inner) → text_at (bare inner) ≡ Some (name, bare following) → parse_payoffs Outcome n (bare following) ≡ Ok (payoffs, bare last) → closing_brace_at (bare last) ≡ Some (bare rest)
    → length rest < length tokens
outcome_shorter tokens inner following last rest name n payoffs l t p r =
    let L = λ (s : Spanned). s.token in
    let one = opening_brace_is (bare tokens) (bare inner) l in
    let two = text_is (bare inner) (name, bare following) t in
    let three = payoffs_are n (bare following) (payoffs, bare last) (sym (value_payoffs Outcome n (bare following)) ∙ ap value p) in
    let four = closing_brace_is (bare last) (bare rest) r in
    let a : length (bare tokens) ≡ suc (length (bare inner)) = ap length one in
    let b : length (bare inner) ≡ suc (length (bare following)) = ap length two in
    let d : length (bare following) ≡ length three.front + length (bare last) = ap length three.is ∙ length-append three.front (bare last) in
    let e : length (bare last) ≡ suc (length (bare rest)) = ap length four in
    let f : length (bare tokens) ≡ length tokens = length-map tokens L in
    let g : length (bare rest) ≡ length rest = length-map rest L in
    omega arith

-- one more in a list
pub length_push : {A : Type 0} (xs : List A) (x : A) (ys : List A) → ys ≡ xs ++ x ∷ [] → length ys ≡ length xs + 1
length_push xs x ys e = rw e (length-append xs (x ∷ []))

-- the parts of a body of outcomes
pub outcome_body_by : (players profiles : ℕ) (tokens inner following after rest : List Token) (outcomes : List (List ℚ)) (count : ℕ) (numbers : List ℕ) (payoffs : List ℚ) → opening_brace_at tokens ≡ Some inner → parse_outcomes players (length inner) inner ≡ Ok (outcomes, following) → closing_brace_at following ≡ Some after
    → count ≡ length outcomes → parse_each (parse_number count) 0 profiles after ≡ Ok (numbers, rest) → payoffs ≡ flat_map (outcome_payoffs players outcomes) numbers → parse_outcome_body players profiles tokens ≡ Ok (payoffs, rest)
unfolding parse_outcome_body
outcome_body_by players profiles tokens inner following after rest outcomes count numbers payoffs l o r k n p =
    let m : parse_each (parse_number (length outcomes)) 0 profiles after ≡ Ok (numbers, rest) = rw k at n in
    rw (l, o, r, m, p) refl
