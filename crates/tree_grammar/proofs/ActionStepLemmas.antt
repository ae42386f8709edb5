-- Lists of actions, as loops read them.
use Rattle.std.proofs.Common.{◌≡◌, ℕ, suc, ◌+◌, ◌<◌, List, [], ◌∷◌, ◌++◌, length, map, drop, get_or, Option, Some, None, true, false, refl, sym, ap, ◌∙◌, subst, append_assoc, add-one}
use Rattle.std.proofs.lemmas.List.{append-nil, length-map}
use Rattle.std.proofs.Math.Seq.{drop-cons}
use Rattle.std.specs.Prelude.{Ok, Err}
use Rattle.rational.specs.Rational.{ℚ, zero_ℚ, one_ℚ}
use Rattle.game_core.specs.declared.tree.Action.{Action}
use Rattle.file_parts.specs.declared.stop.Unexpected.{Unexpected}
use Rattle.file_parts.specs.declared.stop.PartStop.{PartStop}
use Rattle.file_parts.specs.declared.stop.PartStop.TheVariants as part_stops
use Rattle.file_parts.specs.Reading.{opening_brace_at, text_at, number_at, texts_at}
use Rattle.file_parts.specs.Parsing.{Parsed, ◌>>=◌, unexpected_at, IsFaultOf, IsPartStop}
use Rattle.file_parts.proofs.ParseLemmas.{refused_first, fault_first}
use Rattle.file_parts.proofs.ReaderLemmas.{chain, ok_same}
use Rattle.file_parts.proofs.TokenLaws.{text_is, number_is}
use Rattle.tree_grammar.specs.TreeParsing.{own_action, sum_with, parse_chances, parse_closed, parse_own_list, parse_chance_list, parse_first_list, parse_repeated, parse_all_repeated}
use Rattle.tree_grammar.specs.declared.kinds.EfgKind.{EfgKind}
use Rattle.tree_grammar.specs.declared.kinds.EfgKind.TheVariants.{Node, SetMismatch, Probability}
use Rattle.game_core.specs.declared.token.Token.{Token}
use Rattle.game_core.specs.declared.token.Token.TheVariants.{Text, Number}
use Rattle.rational.specs.Tests.{eq_ℚ}

-- ---- actions of chance
-- a reading of actions and their sum
abbrev pub Summed : Type 0
Summed = Parsed EfgKind (List Action × ℚ)

-- what was read before, and what is still read
abbrev pub after_actions : List Action → Summed → Summed
after_actions front reading = reading >>= λ x. Ok ((front ++ x.0.0, x.0.1), x.1)

-- one more in front
after_one : (front : List Action) (one : Action) (reading : Summed) → after_actions front (chain {B = (List Action × ℚ) × List Token} reading (λ x. Ok ((one ∷ x.0.0, x.0.1), x.1))) ≡ after_actions (front ++ one ∷ []) reading
after_one front one (Ok x) = ap (λ (xs : List Action). Ok ((xs, x.0.1), x.1)) (simp append_assoc)
after_one front one (Err fault) = refl

-- an action was read
pub summed_goes_on : (set : ℕ) (front : List Action) (sum next prob : ℚ) (name : List ℕ) (tokens after rest : List Token) (total : Summed) → text_at tokens ≡ Some (name, after) → number_at after ≡ Some (prob, rest) → Ok next ≡ sum_with set sum prob
    → after_actions front (parse_chances set sum tokens) ≡ total → after_actions (front ++ (record { name = name; prob = prob }) ∷ []) (parse_chances set next rest) ≡ total
summed_goes_on set front sum next prob name tokens after rest total t n may so_far =
    let one : Action = record { name = name; prob = prob } in
    let step : after_actions front (parse_chances set sum tokens) ≡ after_actions (front ++ one ∷ []) (parse_chances set next rest) = rw (text_is tokens (name, after) t, number_is after (prob, rest) n, ← may) (after_one front one (parse_chances set next rest)) in
    sym step ∙ so_far

-- its probability may not follow
pub summed_stops : (set : ℕ) (front : List Action) (sum prob : ℚ) (kind : EfgKind) (name : List ℕ) (tokens after rest : List Token) (stopped : PartStop EfgKind) (total : Summed) → text_at tokens ≡ Some (name, after) → number_at after ≡ Some (prob, rest) → Err kind ≡ sum_with set sum prob
    → stopped ≡ part_stops.Unexpected (unexpected_at kind after) → after_actions front (parse_chances set sum tokens) ≡ total → IsPartStop stopped total
summed_stops set front sum prob kind name tokens after rest stopped total t n may u so_far =
    let step : after_actions front (parse_chances set sum tokens) ≡ Err (kind, after) = rw (text_is tokens (name, after) t, number_is after (prob, rest) n, ← may) refl in
    rw (u, ← so_far, step) refl

-- a name without a probability
no_number : (set : ℕ) (sum : ℚ) (name : List ℕ) (after : List Token) → number_at after ≡ None → parse_chances set sum (Text name ∷ after) ≡ Err (Node, after)
no_number set sum name (Number prob ∷ rest) e = cc
no_number set sum name _ e = refl

-- no probability comes
pub summed_lacks : (set : ℕ) (front : List Action) (sum : ℚ) (name : List ℕ) (tokens after : List Token) (stopped : PartStop EfgKind) (total : Summed) → text_at tokens ≡ Some (name, after) → number_at after ≡ None → stopped ≡ part_stops.Unexpected (unexpected_at Node after)
    → after_actions front (parse_chances set sum tokens) ≡ total → IsPartStop stopped total
summed_lacks set front sum name tokens after stopped total t n u so_far =
    let step : after_actions front (parse_chances set sum tokens) ≡ Err (Node, after) = rw (text_is tokens (name, after) t, no_number set sum name after n) refl in
    rw (u, ← so_far, step) refl

-- no action comes
no_text : (set : ℕ) (sum : ℚ) (tokens : List Token) → text_at tokens ≡ None → parse_chances set sum tokens ≡ Ok (([], sum), tokens)
no_text set sum (Text name ∷ rest) e = cc
no_text set sum _ e = refl

-- all were read
pub summed_done : (set : ℕ) (front : List Action) (sum : ℚ) (tokens : List Token) (total : Summed) → text_at tokens ≡ None → after_actions front (parse_chances set sum tokens) ≡ total → total ≡ Ok ((front, sum), tokens)
summed_done set front sum tokens total t so_far =
    let step : after_actions front (parse_chances set sum tokens) ≡ Ok ((front, sum), tokens) = rw (no_text set sum tokens t) (ap (λ (xs : List Action). Ok ((xs, sum), tokens)) (append-nil front)) in
    sym so_far ∙ step

pub ruleset summed_steps = (summed_goes_on, summed_stops, summed_lacks, summed_done)

-- ---- a player's list
-- what closes a player's actions
pub own_list_by : (n : ℕ) (tokens : List Token) → n ≡ length (map own_action (texts_at tokens).0) → parse_own_list tokens ≡ chain {B = List Action × List Token} (parse_closed n (texts_at tokens).1) (λ rest. Ok (map own_action (texts_at tokens).0, rest.1))
unfolding parse_own_list
own_list_by n tokens e = rw (e, length-map (texts_at tokens).0 own_action) refl

-- ---- actions that are repeated
-- the next action and the others
next_repeated : (owner : Option ℕ) (actions : List Action) (i : ℕ) (action : Action) (tokens : List Token) → i < length actions → action ≡ get_or actions i action
    → parse_all_repeated owner (drop i actions) tokens ≡ (parse_repeated owner action tokens >>= λ rest. parse_all_repeated owner (drop (i + 1) actions) rest.1)
next_repeated owner actions i action tokens lt is =
    let here : drop i actions ≡ action ∷ drop (i + 1) actions = rw add-one (drop-cons actions i action lt ∙ ap (λ (a : Action). a ∷ drop (suc i) actions) (sym is)) in
    ap (λ (list : List Action). parse_all_repeated owner list tokens) here

-- one was repeated
pub repeats_go_on : (owner : Option ℕ) (actions : List Action) (i : ℕ) (action : Action) (tokens after : List Token) (total : Parsed EfgKind (Unit {0})) → i < length actions → action ≡ get_or actions i action → parse_repeated owner action tokens ≡ Ok (tt, after)
    → parse_all_repeated owner (drop i actions) tokens ≡ total → parse_all_repeated owner (drop (i + 1) actions) after ≡ total
repeats_go_on owner actions i action tokens after total lt is one so_far =
    let step : parse_all_repeated owner (drop i actions) tokens ≡ parse_all_repeated owner (drop (i + 1) actions) after = rw (next_repeated owner actions i action tokens lt is, one) refl in
    sym step ∙ so_far

-- one was not
pub repeats_stop : (owner : Option ℕ) (actions : List Action) (i : ℕ) (action : Action) (tokens : List Token) (fault : Unexpected EfgKind) (total : Parsed EfgKind (Unit {0})) → i < length actions → action ≡ get_or actions i action → IsFaultOf fault (parse_repeated owner action tokens)
    → parse_all_repeated owner (drop i actions) tokens ≡ total → IsFaultOf fault total
repeats_stop owner actions i action tokens fault total lt is r so_far =
    rw (← so_far, next_repeated owner actions i action tokens lt is) (fault_first fault (parse_repeated owner action tokens) _ r)

pub ruleset repeat_steps = (repeats_go_on, repeats_stop)

-- ---- first lists
-- no list comes
pub first_lacks : (owner : Option ℕ) (set : ℕ) (tokens : List Token) (stopped : PartStop EfgKind) → opening_brace_at tokens ≡ None → stopped ≡ part_stops.Unexpected (unexpected_at SetMismatch tokens) → IsPartStop stopped (parse_first_list owner set tokens)
unfolding parse_first_list
first_lacks owner set tokens stopped none u = rw (none, u) refl

-- the list of a player, and of chance, after its brace
pub first_own : (owner : Option ℕ) (i set : ℕ) (tokens inner : List Token) → owner ≡ Some i → opening_brace_at tokens ≡ Some inner → parse_first_list owner set tokens ≡ parse_own_list inner
unfolding parse_first_list
first_own owner i set tokens inner o l = rw (o, l) refl

pub first_chance : (owner : Option ℕ) (set : ℕ) (tokens inner : List Token) → owner ≡ None → opening_brace_at tokens ≡ Some inner → parse_first_list owner set tokens ≡ parse_chance_list set inner
unfolding parse_first_list
first_chance owner set tokens inner o l = rw (o, l) refl

-- a player's list that is not closed, and one that is
pub own_open : (owner : Option ℕ) (i set n : ℕ) (tokens inner following : List Token) (actions : List Action) (fault : Unexpected EfgKind) (stopped : PartStop EfgKind) → owner ≡ Some i → opening_brace_at tokens ≡ Some inner → ◌≡◌ {A = Parsed EfgKind (List Action)} (Ok (map own_action (texts_at inner).0, (texts_at inner).1)) (Ok (actions, following)) → n ≡ length actions
    → stopped ≡ part_stops.Unexpected fault → IsFaultOf fault (parse_closed n following) → IsPartStop stopped (parse_first_list owner set tokens)
own_open owner i set n tokens inner following actions fault stopped o l a e u r =
    let same : (map own_action (texts_at inner).0, (texts_at inner).1) ≡ (actions, following) = ok_same (map own_action (texts_at inner).0, (texts_at inner).1) (actions, following) a in
    let size : n ≡ length (map own_action (texts_at inner).0) = e ∙ sym (ap (λ (x : List Action × List Token). length x.0) same) in
    let rest : following ≡ (texts_at inner).1 = sym (ap (λ (x : List Action × List Token). x.1) same) in
    rw (u, first_own owner i set tokens inner o l, own_list_by n inner size) (fault_first fault (parse_closed n (texts_at inner).1) _ (subst (λ (q : List Token). IsFaultOf fault (parse_closed n q)) rest r))

pub own_closed : (owner : Option ℕ) (i set n : ℕ) (tokens inner following rest : List Token) (actions : List Action) → owner ≡ Some i → opening_brace_at tokens ≡ Some inner → ◌≡◌ {A = Parsed EfgKind (List Action)} (Ok (map own_action (texts_at inner).0, (texts_at inner).1)) (Ok (actions, following)) → n ≡ length actions
    → parse_closed n following ≡ Ok (tt, rest) → parse_first_list owner set tokens ≡ Ok (actions, rest)
own_closed owner i set n tokens inner following rest actions o l a e c =
    let same : (map own_action (texts_at inner).0, (texts_at inner).1) ≡ (actions, following) = ok_same (map own_action (texts_at inner).0, (texts_at inner).1) (actions, following) a in
    let size : n ≡ length (map own_action (texts_at inner).0) = e ∙ sym (ap (λ (x : List Action × List Token). length x.0) same) in
    let closed : parse_closed n (texts_at inner).1 ≡ Ok (tt, rest) = subst (λ (q : List Token). parse_closed n q ≡ Ok (tt, rest)) (sym (ap (λ (x : List Action × List Token). x.1) same)) c in
    rw (first_own owner i set tokens inner o l, own_list_by n inner size, closed) (ap (λ (x : List Action × List Token). Ok (x.0, rest)) same)

-- the list of chance: its actions are refused, it is not closed, its sum is another, or it is read
pub chance_stops : (owner : Option ℕ) (set : ℕ) (tokens inner : List Token) (stopped : PartStop EfgKind) → owner ≡ None → opening_brace_at tokens ≡ Some inner → IsPartStop stopped (parse_chances set zero_ℚ inner) → IsPartStop stopped (parse_first_list owner set tokens)
unfolding parse_chance_list
chance_stops owner set tokens inner stopped o l r = rw (first_chance owner set tokens inner o l) (refused_first stopped (parse_chances set zero_ℚ inner) _ r)

pub chance_open : (owner : Option ℕ) (set n : ℕ) (tokens inner following : List Token) (actions : List Action) (sum : ℚ) (fault : Unexpected EfgKind) (stopped : PartStop EfgKind) → owner ≡ None → opening_brace_at tokens ≡ Some inner → parse_chances set zero_ℚ inner ≡ Ok ((actions, sum), following) → n ≡ length actions
    → stopped ≡ part_stops.Unexpected fault → IsFaultOf fault (parse_closed n following) → IsPartStop stopped (parse_first_list owner set tokens)
unfolding parse_chance_list
chance_open owner set n tokens inner following actions sum fault stopped o l a e u r =
    rw (u, first_chance owner set tokens inner o l, a) (fault_first fault (parse_closed (length actions) following) _ (subst (λ (m : ℕ). IsFaultOf fault (parse_closed m following)) e r))

pub chance_differs : (owner : Option ℕ) (set n : ℕ) (tokens inner following rest : List Token) (actions : List Action) (sum : ℚ) (stopped : PartStop EfgKind) → owner ≡ None → opening_brace_at tokens ≡ Some inner → parse_chances set zero_ℚ inner ≡ Ok ((actions, sum), following) → n ≡ length actions
    → parse_closed n following ≡ Ok (tt, rest) → eq_ℚ sum one_ℚ ≡ false → stopped ≡ part_stops.Unexpected (unexpected_at (Probability set sum) following) → IsPartStop stopped (parse_first_list owner set tokens)
unfolding parse_chance_list
chance_differs owner set n tokens inner following rest actions sum stopped o l a e c t u =
    let closed : parse_closed (length actions) following ≡ Ok (tt, rest) = subst (λ (m : ℕ). parse_closed m following ≡ Ok (tt, rest)) e c in
    rw (first_chance owner set tokens inner o l, a, closed, t, u) refl

pub chance_closed : (owner : Option ℕ) (set n : ℕ) (tokens inner following rest : List Token) (actions : List Action) (sum : ℚ) → owner ≡ None → opening_brace_at tokens ≡ Some inner → parse_chances set zero_ℚ inner ≡ Ok ((actions, sum), following) → n ≡ length actions
    → parse_closed n following ≡ Ok (tt, rest) → eq_ℚ sum one_ℚ ≡ true → parse_first_list owner set tokens ≡ Ok (actions, rest)
unfolding parse_chance_list
chance_closed owner set n tokens inner following rest actions sum o l a e c t =
    let closed : parse_closed (length actions) following ≡ Ok (tt, rest) = subst (λ (m : ℕ). parse_closed m following ≡ Ok (tt, rest)) e c in
    rw (first_chance owner set tokens inner o l, a, closed, t) refl

pub ruleset list_steps = (first_lacks, own_open, own_closed, chance_stops, chance_open, chance_differs, chance_closed)
