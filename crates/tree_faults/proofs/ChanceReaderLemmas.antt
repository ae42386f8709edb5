-- A first list of actions of chance is read token by token: where its probabilities stop, they can go on to the sum 1.
use Rattle.std.proofs.Common.{◌≡◌, ℕ, suc, ◌+◌, ◌<◌, ◌^◌, nat_le, List, [], ◌∷◌, ◌++◌, length, true, if◌then◌else◌, ◌⊎◌, inl, inr, pos, lit<, refl, sym, ap, ◌∙◌, subst, arith}
use Rattle.std.specs.Prelude.{Result, Ok, Err}
use Rattle.rational.specs.Rational.{ℚ, ◌+ℚ◌, ◌≤ℚ◌, zero_ℚ, one_ℚ}
use Rattle.rational.specs.Tests.{le_test, eq_ℚ}
use Rattle.rational.proofs.Decide.{le_test-true, eq_ℚ-decides}
use Rattle.rational.proofs.Field.{le_refl, le_trans, le-add_left}
use Rattle.rational.proofs.PartLemmas.{frac-le}
use Rattle.rational.proofs.RationalRing.{+ℚ-zero}
use Rattle.std.proofs.lemmas.Int.{ints}
use Rattle.frac128.specs.Steps.{AddFits, step_of}
use Rattle.frac128.specs.declared.steps.Op.TheVariants.{Add}
use Rattle.frac128.proofs.PartLemmas.{zero-den}
use Rattle.game_core.specs.declared.tree.Action.{Action}
use Rattle.game_core.specs.declared.token.Token.{Token}
use Rattle.game_core.specs.declared.token.Token.TheVariants.{Right, Text, Number}
use Rattle.file_parts.specs.Parsing.{Parsed, ◌>>=◌}
use Rattle.file_parts.proofs.ReaderLemmas.{ReadsAs, IsStuck, IsReader, ok_same, ok_err, stuck_by, same_first, result_of, same_reader}
use Rattle.file_parts.proofs.TokenLaws.{le_passes}
use Rattle.written_trees.specs.Building.{add_test}
use Rattle.written_trees.proofs.ChanceLemmas.{add_test-Decides}
use Rattle.written_trees.proofs.InsertedKeyLemmas.{eq_self}
use Rattle.tree_grammar.specs.TreeParsing.{sum_with, parse_chances, parse_closed, parse_chance_list}
use Rattle.tree_faults.proofs.CompletedSumLemmas.{Rest, goes_to_one}
use Rattle.tree_grammar.specs.declared.kinds.EfgKind.{EfgKind}
use Rattle.tree_grammar.specs.declared.kinds.EfgKind.TheVariants.{Node, Probability, ProbabilityRange}
use Rattle.std.proofs.lemmas.Bool.{cases_Bool}
use Rattle.file_parts.proofs.PartReaderLemmas.{no_empty}

-- ---- sums
-- a sum that was reached
record IsRowEquivalent (sum : ℚ) : Type 0 where
  pub not_negative : zero_ℚ ≤ℚ sum
  pub within : sum ≤ℚ one_ℚ
  pub fits : sum.den < 2 ^ 127

-- what a probability that may come is
pub record MayCome (sum prob next : ℚ) : Type 0 where
  pub not_negative : zero_ℚ ≤ℚ prob
  pub fits : AddFits sum prob
  pub is : next ≡ sum +ℚ prob
  pub within : next ≤ℚ one_ℚ

-- the sum with it
pub may_come : (set : ℕ) (sum prob next : ℚ) → sum_with set sum prob ≡ Ok next → MayCome sum prob next
unfolding sum_with
may_come set sum prob next e = elim (cases_Bool (add_test sum prob)) [
  | inl a ↦ elim (cases_Bool (le_test zero_ℚ prob)) [
    | inl b ↦ elim (cases_Bool (le_test (sum +ℚ prob) one_ℚ)) [
      | inl c ↦
          let o : ◌≡◌ {A = Result ℚ EfgKind} (Ok (sum +ℚ prob)) (Ok next) = rw (a, b, c) at e in
          let same : sum +ℚ prob ≡ next = ok_same (sum +ℚ prob) next o in
          record { not_negative = (le_test-true zero_ℚ prob).0 b; fits = (add_test-Decides sum prob).0 a; is = sym same; within = subst (λ (x : ℚ). x ≤ℚ one_ℚ) same ((le_test-true (sum +ℚ prob) one_ℚ).0 c) }
      | inr c ↦ let o : ◌≡◌ {A = Result ℚ EfgKind} (Err (Probability set (sum +ℚ prob))) (Ok next) = rw (a, b, c) at e in absurd (ok_err next (Probability set (sum +ℚ prob)) (sym o))
    ]
    | inr b ↦ let o : ◌≡◌ {A = Result ℚ EfgKind} (Err (Probability set (sum +ℚ prob))) (Ok next) = rw (a, b) at e in absurd (ok_err next (Probability set (sum +ℚ prob)) (sym o))
  ]
  | inr a ↦ let o : ◌≡◌ {A = Result ℚ EfgKind} (Err (ProbabilityRange set (step_of Add sum prob))) (Ok next) = rw a at e in absurd (ok_err next (ProbabilityRange set (step_of Add sum prob)) (sym o))
]

-- and the other way round
comes : (set : ℕ) (sum prob : ℚ) → zero_ℚ ≤ℚ prob → AddFits sum prob → sum +ℚ prob ≡ one_ℚ → sum_with set sum prob ≡ Ok one_ℚ
unfolding sum_with
comes set sum prob p f e =
    let a = (add_test-Decides sum prob).1 f in
    let b = (le_test-true zero_ℚ prob).1 p in
    let c = (le_test-true (sum +ℚ prob) one_ℚ).1 (subst (λ (x : ℚ). x ≤ℚ one_ℚ) (sym e) (le_refl one_ℚ)) in
    rw (a, b, c) (ap (λ (x : ℚ). Ok x) e)

-- the next sum is reached
next_reached : (set : ℕ) (sum prob next : ℚ) → IsRowEquivalent sum → sum_with set sum prob ≡ Ok next → IsRowEquivalent next
next_reached set sum prob next r e =
    let m = may_come set sum prob next e in
    let up : sum ≤ℚ (sum +ℚ prob) = subst (λ (x : ℚ). x ≤ℚ (sum +ℚ prob)) (+ℚ-zero sum) (le-add_left sum zero_ℚ prob m.not_negative) in
    record {
      not_negative = subst (λ (x : ℚ). zero_ℚ ≤ℚ x) (sym m.is) (le_trans zero_ℚ sum (sum +ℚ prob) r.not_negative up);
      within = m.within;
      fits = subst (λ (x : ℚ). x.den < 2 ^ 127) (sym m.is) m.fits.den;
    }

zero_reached : IsRowEquivalent zero_ℚ
zero_reached = record { not_negative = le_refl zero_ℚ; within = (frac-le (pos 0) (pos 1) 1 1 (omega arith) (omega arith)).1 (omega (arith, ints)); fits = subst (λ m. m < 2 ^ 127) (sym zero-den) (lit< tt) }

-- what is left to 1
left : (sum : ℚ) → IsRowEquivalent sum → Rest sum
left sum r = goes_to_one sum r.not_negative r.within r.fits

-- ---- the list
-- the brace that closes actions with their sum, which come after so many
abbrev finish : {X : Type 0} → (List Action → X) → ℕ → ℕ → Parsed EfgKind (List Action × ℚ) → Parsed EfgKind X
finish f set count o =
    o >>= λ a. parse_closed (count + length a.0.0) a.1 >>= λ rest. if eq_ℚ a.0.1 one_ℚ then Ok (f a.0.0, rest.1) else Err (Probability set a.0.1, a.1)

-- actions of chance up to the brace that closes them, after so many with this sum
closed_chances : {X : Type 0} → (List Action → X) → ℕ → ℕ → ℚ → List Token → Parsed EfgKind X
closed_chances f set count sum tokens = finish f set count (parse_chances set sum tokens)

-- one more in front
one_more : {X : Type 0} (f : List Action → X) (set count : ℕ) (one : Action) (o : Parsed EfgKind (List Action × ℚ)) → finish f set count (o >>= λ more. Ok ((one ∷ more.0.0, more.0.1), more.1)) ≡ finish (λ actions. f (one ∷ actions)) set (suc count) o
one_more f set count one (Err fault) = refl
one_more f set count one (Ok x) =
    let e : count + length (one ∷ x.0.0) ≡ suc count + length x.0.0 = omega arith in
    rw e refl

-- an action whose probability may come
goes_on : {X : Type 0} (f : List Action → X) (set count : ℕ) (sum prob next : ℚ) (name : List ℕ) (rest : List Token) → sum_with set sum prob ≡ Ok next
    → closed_chances f set count sum (Text name ∷ Number prob ∷ rest) ≡ closed_chances (λ actions. f (record { name = name; prob = prob } ∷ actions)) set (suc count) next rest
unfolding closed_chances
goes_on f set count sum prob next name rest e = rw e (one_more f set count (record { name = name; prob = prob }) (parse_chances set next rest))

-- one whose probability may not come
stops_there : {X : Type 0} (f : List Action → X) (set count : ℕ) (sum prob : ℚ) (kind : EfgKind) (name : List ℕ) (rest : List Token) → sum_with set sum prob ≡ Err kind → closed_chances f set count sum (Text name ∷ Number prob ∷ rest) ≡ Err (kind, Number prob ∷ rest)
unfolding closed_chances
stops_there f set count sum prob kind name rest e = rw e refl

-- the brace after so many actions whose sum is 1
closes_here : {X : Type 0} (f : List Action → X) (set count : ℕ) (rest : List Token) → closed_chances f set (suc count) one_ℚ (Right ∷ rest) ≡ Ok (f [], rest)
unfolding closed_chances
closes_here f set count rest =
    let some : nat_le 1 (suc count + 0) ≡ true = le_passes 1 (suc count + 0) (omega arith) in
    rw (some, eq_self eq_ℚ eq_ℚ-decides one_ℚ) refl

-- the brace closes the list or does not, whatever follows
at_brace : {X : Type 0} (f : List Action → X) (set count : ℕ) (sum : ℚ) → ((rest : List Token) → closed_chances f set count sum (Right ∷ rest) ≡ Ok (f [], rest)) ⊎ ((kind : EfgKind) × ((rest : List Token) → closed_chances f set count sum (Right ∷ rest) ≡ Err (kind, Right ∷ rest)))
unfolding closed_chances
at_brace f set count sum = elim (cases_Bool (nat_le 1 (count + 0))) [
  | inl some ↦ elim (cases_Bool (eq_ℚ sum one_ℚ)) [
    | inl one ↦ inl (λ rest. rw (some, one) refl)
    | inr one ↦ inr (Probability set sum, λ rest. rw (some, one) refl)
  ]
  | inr some ↦ inr (Node, λ rest. rw some refl)
]

-- an action more, up to the sum 1
with_rest : {X : Type 0} (f : List Action → X) (set count : ℕ) (sum : ℚ) (r : IsRowEquivalent sum) (name : List ℕ) (rest : List Token)
    → closed_chances f set count sum (Text name ∷ Number (left sum r).rest ∷ Right ∷ rest) ≡ Ok (f (record { name = name; prob = (left sum r).rest } ∷ []), rest)
with_rest f set count sum r name rest =
    let l = left sum r in
    goes_on f set count sum l.rest one_ℚ name (Right ∷ rest) (comes set sum l.rest l.not_negative l.fits l.is_one) ∙ closes_here (λ actions. f (record { name = name; prob = l.rest } ∷ actions)) set count rest

-- what is read stays
closed_reads : {X : Type 0} (f : List Action → X) (set count : ℕ) (sum : ℚ) (tokens : List Token) (x : X) (rest : List Token) → closed_chances f set count sum tokens ≡ Ok (x, rest) → (front : List Token) × (tokens ≡ front ++ rest) × ReadsAs (closed_chances f set count sum) front x
unfolding closed_chances
closed_reads {X} f set count sum (Right ∷ r) x rest e = elim (at_brace f set count sum) [
  | inl h ↦
      let same = ok_same (f [], r) (x, rest) (sym (h r) ∙ e) in
      (Right ∷ [], ap (λ (z : X × List Token). Right ∷ z.1) same, λ more. h more ∙ ap (λ (z : X × List Token). Ok (z.0, more)) same)
  | inr h ↦ absurd (ok_err (x, rest) (h.0, Right ∷ r) (sym e ∙ h.1 r))
]
closed_reads f set count sum (Text name ∷ Number prob ∷ r) x rest e = elim (result_of (sum_with set sum prob)) [
  | inl n ↦
      let more = closed_reads (λ actions. f (record { name = name; prob = prob } ∷ actions)) set (suc count) n.0 r x rest (sym (goes_on f set count sum prob n.0 name r n.1) ∙ e) in
      (Text name ∷ Number prob ∷ more.0, ap (λ (q : List Token). Text name ∷ Number prob ∷ q) more.1, λ s. goes_on f set count sum prob n.0 name (more.0 ++ s) n.1 ∙ more.2 s)
  | inr k ↦ absurd (ok_err (x, rest) (k.0, Number prob ∷ r) (sym e ∙ stops_there f set count sum prob k.0 name r k.1))
]
closed_reads f set count sum (Text name ∷ r) x rest e = absurd (ok_err (x, rest) (Node, r) (sym e))
closed_reads f set count sum tokens x rest e = absurd (ok_err (x, rest) (Node, tokens) (sym e))

-- where reading stops before this token
stuck_first : {X : Type 0} (f : List Action → X) (set count : ℕ) (sum : ℚ) (r : IsRowEquivalent sum) (t : Token) (rest : List Token) (kind : EfgKind) → ((more : List Token) → closed_chances f set count sum (t ∷ more) ≡ Err (kind, t ∷ more)) → IsStuck (closed_chances f set count sum) (t ∷ rest) kind (t ∷ rest)
stuck_first f set count sum r t rest kind h = record {
  before = [];
  is = refl;
  stays = λ u s more g. rw (← same_first t u rest s g) (h more);
  next = Text [];
  more = Number (left sum r).rest ∷ Right ∷ [];
  value = f (record { name = []; prob = (left sum r).rest } ∷ []);
  goes_on = with_rest f set count sum r [];
}

-- where reading stops after a name
stuck_second : {X : Type 0} (f : List Action → X) (set count : ℕ) (sum : ℚ) (r : IsRowEquivalent sum) (name : List ℕ) (t : Token) (rest : List Token) (kind : EfgKind) → ((more : List Token) → closed_chances f set count sum (Text name ∷ t ∷ more) ≡ Err (kind, t ∷ more)) → IsStuck (closed_chances f set count sum) (Text name ∷ t ∷ rest) kind (t ∷ rest)
stuck_second f set count sum r name t rest kind h = record {
  before = Text name ∷ [];
  is = refl;
  stays = λ u s more g. rw (← same_first t u rest s g) (h more);
  next = Number (left sum r).rest;
  more = Right ∷ [];
  value = f (record { name = name; prob = (left sum r).rest } ∷ []);
  goes_on = with_rest f set count sum r name;
}

closed_sticks : {X : Type 0} (f : List Action → X) (set count : ℕ) (sum : ℚ) (r : IsRowEquivalent sum) (tokens : List Token) (fault : EfgKind × List Token) → closed_chances f set count sum tokens ≡ Err fault → IsStuck (closed_chances f set count sum) tokens fault.0 fault.1
unfolding closed_chances
closed_sticks f set count sum r [] fault e =
    stuck_by (closed_chances f set count sum) [] Node [] fault e (record { before = []; is = refl; stays = λ u s more g. absurd (no_empty u s g); next = Text []; more = Number (left sum r).rest ∷ Right ∷ []; value = f (record { name = []; prob = (left sum r).rest } ∷ []); goes_on = with_rest f set count sum r [] })
closed_sticks f set count sum r (Right ∷ rest) fault e = elim (at_brace f set count sum) [
  | inl h ↦ absurd (ok_err (f [], rest) fault (sym (h rest) ∙ e))
  | inr h ↦ stuck_by (closed_chances f set count sum) (Right ∷ rest) h.0 (Right ∷ rest) fault (sym (h.1 rest) ∙ e) (stuck_first f set count sum r Right rest h.0 h.1)
]
closed_sticks f set count sum r (Text name ∷ []) fault e =
    stuck_by (closed_chances f set count sum) (Text name ∷ []) Node [] fault e (record { before = Text name ∷ []; is = refl; stays = λ u s more g. absurd (no_empty u s g); next = Number (left sum r).rest; more = Right ∷ []; value = f (record { name = name; prob = (left sum r).rest } ∷ []); goes_on = with_rest f set count sum r name })
closed_sticks f set count sum r (Text name ∷ Number prob ∷ rest) fault e = elim (result_of (sum_with set sum prob)) [
  | inl n ↦
      let s = closed_sticks (λ actions. f (record { name = name; prob = prob } ∷ actions)) set (suc count) n.0 (next_reached set sum prob n.0 r n.1) rest fault (sym (goes_on f set count sum prob n.0 name rest n.1) ∙ e) in
      record {
        before = Text name ∷ Number prob ∷ s.before;
        is = ap (λ (q : List Token). Text name ∷ Number prob ∷ q) s.is;
        stays = λ t u more g. goes_on f set count sum prob n.0 name (s.before ++ t ∷ more) n.1 ∙ s.stays t u more g;
        next = s.next;
        more = s.more;
        value = s.value;
        goes_on = λ more. goes_on f set count sum prob n.0 name ((s.before ++ s.next ∷ s.more) ++ more) n.1 ∙ s.goes_on more;
      }
  | inr k ↦
      stuck_by (closed_chances f set count sum) (Text name ∷ Number prob ∷ rest) k.0 (Number prob ∷ rest) fault (sym (stops_there f set count sum prob k.0 name rest k.1) ∙ e)
      (stuck_second f set count sum r name (Number prob) rest k.0 (λ more. stops_there f set count sum prob k.0 name more k.1))
]
closed_sticks f set count sum r (Text name ∷ t ∷ rest) fault e = stuck_by (closed_chances f set count sum) (Text name ∷ t ∷ rest) Node (t ∷ rest) fault e (stuck_second f set count sum r name t rest Node (λ more. refl))
closed_sticks f set count sum r (t ∷ rest) fault e = stuck_by (closed_chances f set count sum) (t ∷ rest) Node (t ∷ rest) fault e (stuck_first f set count sum r t rest Node (λ more. refl))

-- actions of chance and the brace that closes them
closed_reader : {X : Type 0} (f : List Action → X) (set count : ℕ) (sum : ℚ) → IsRowEquivalent sum → IsReader (closed_chances f set count sum)
closed_reader f set count sum r = record {
  some = record { sample = Text [] ∷ Number (left sum r).rest ∷ Right ∷ []; value = f (record { name = []; prob = (left sum r).rest } ∷ []); is_sample = with_rest f set count sum r [] };
  at = λ tokens. record { reads = closed_reads f set count sum tokens; sticks = λ kind rest e. closed_sticks f set count sum r tokens (kind, rest) e };
}

-- a list of chance is closed
list_is : (set : ℕ) (tokens : List Token) → parse_chance_list set tokens ≡ closed_chances (λ actions. actions) set 0 zero_ℚ tokens
unfolding parse_chance_list closed_chances
list_is set tokens = elim (result_of (parse_chances set zero_ℚ tokens)) [
  | inl x ↦ let e : length x.0.0.0 ≡ 0 + length x.0.0.0 = omega arith in rw (x.1, ← e) refl
  | inr f ↦ rw f.1 refl
]

-- a first list of chance
pub chance_list_reader : (set : ℕ) → IsReader (parse_chance_list set)
chance_list_reader set = same_reader (parse_chance_list set) (closed_chances (λ actions. actions) set 0 zero_ℚ) (list_is set) (closed_reader (λ actions. actions) set 0 zero_ℚ zero_reached)
