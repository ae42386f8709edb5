-- First lists of actions of chance: where their reading stops, and which kind of fault that is.
use Rattle.std.proofs.Common.{◌≡◌, ℕ, ◌<◌, ◌≤◌, if◌then◌else◌, List, [], ◌∷◌, ◌++◌, length, length-append, Bool, true, false, true≢false, ◌⊎◌, inl, inr, refl, sym, ap, ◌∙◌, subst, append_assoc, append-nil, arith}
use Rattle.std.specs.Prelude.{Result, Ok, Err, Some, None, Option, ◌&&◌}
use Rattle.std.specs.List.{flat_map}
use Rattle.std.proofs.lemmas.Bool.{cases_Bool}
use Rattle.rational.specs.Rational.{ℚ, ◌+ℚ◌, zero_ℚ, one_ℚ}
use Rattle.rational.specs.Tests.{le_test, eq_ℚ}
use Rattle.rational.proofs.RationalRing.{+ℚ-zero}
use Rattle.rational.proofs.Rules.{zero-+ℚ}
use Rattle.frac128.specs.Steps.{AddFits, step_of}
use Rattle.frac128.specs.declared.steps.Op.TheVariants.{Add}
use Rattle.game_core.specs.declared.tree.Action.{Action}
use Rattle.game_core.specs.Tree.{probability_at}
use Rattle.game_core.specs.declared.token.Token.{Token}
use Rattle.game_core.specs.declared.token.Token.TheVariants.{Left, Right, Text, Number}
use Rattle.file_parts.specs.Parsing.{Parsed, ◌>>=◌, expected_mark}
use Rattle.file_parts.proofs.ReaderLemmas.{chain, bind_ok, bind_err, ok_same, err_same, ok_err, result_of}
use Rattle.file_parts.proofs.TokenLaws.{le_passes}
use Rattle.written_trees.specs.Building.{add_test}
use Rattle.written_trees.proofs.ChanceLemmas.{add_test-Decides, sum_onward}
use Rattle.tree_grammar.specs.TreeFile.{action_tokens}
use Rattle.tree_grammar.specs.TreePieces.{closed_at}
use Rattle.tree_grammar.specs.TreeParsing.{sum_with, at_tokens, parse_chances, parse_closed, parse_chance_list, parse_first_list}
use Rattle.tree_faults.specs.TreeFaults.{HasActions, WantsProbability}
use Rattle.tree_faults.specs.FaultKinds.{NumberComes, BraceComes, sum_of}
use Rattle.tree_grammar.specs.declared.kinds.EfgKind.{EfgKind}
use Rattle.tree_grammar.specs.declared.kinds.EfgKind.TheVariants.{Node, Probability, ProbabilityRange}
use Rattle.tree_grammar.proofs.SetLaws.{closed_is}
use Rattle.tree_faults.proofs.ChanceReaderLemmas.{may_come}
use Rattle.tree_faults.proofs.TokenEndLemmas.{Within, bind_within, pure_within}
use Rattle.tree_faults.proofs.StopLemmas.{GoesTo, stop_kind, not_earlier, not_after}

-- ---- sums
-- a first probability goes to the sum before it
sum_first : (sum : ℚ) (action : Action) (actions : List Action) → sum +ℚ sum_of (action ∷ actions) ≡ (sum +ℚ action.prob) +ℚ sum_of actions
sum_first sum action actions = sum_onward sum (length actions) (probability_at (action ∷ actions))

-- why a probability may not come
abbrev pub SumStops : ℕ → ℚ → ℚ → EfgKind → Type 0
SumStops set sum v kind = (AddFits sum v × (kind ≡ Probability set (sum +ℚ v))) ⊎ ((AddFits sum v → ⊥) × (kind ≡ ProbabilityRange set (step_of Add sum v)))

pub sum_stops : (set : ℕ) (sum v : ℚ) (kind : EfgKind) → sum_with set sum v ≡ Err kind → SumStops set sum v kind
unfolding sum_with
sum_stops set sum v kind e = elim (cases_Bool (add_test sum v)) [
  | inl a ↦
      let o : (if le_test zero_ℚ v && le_test (sum +ℚ v) one_ℚ then Ok (sum +ℚ v) else Err (Probability set (sum +ℚ v))) ≡ Err kind = rw a at e in
      inl ((add_test-Decides sum v).0 a, by (le_test zero_ℚ v && le_test (sum +ℚ v) one_ℚ) o)
  | inr a ↦
      let o : ◌≡◌ {A = Result ℚ EfgKind} (Err (ProbabilityRange set (step_of Add sum v))) (Err kind) = rw a at e in
      inr (λ f. true≢false (sym ((add_test-Decides sum v).1 f) ∙ a), sym (err_same (ProbabilityRange set (step_of Add sum v)) kind o))
]
  where
    by : (is : Bool) → ◌≡◌ {A = Result ℚ EfgKind} (if is then Ok (sum +ℚ v) else Err (Probability set (sum +ℚ v))) (Err kind) → kind ≡ Probability set (sum +ℚ v)
    by true o = absurd (ok_err (sum +ℚ v) kind o)
    by false o = sym (err_same (Probability set (sum +ℚ v)) kind o)

-- a kind of fault that is named at tokens
at_ok : (tokens : List Token) (o : Result ℚ EfgKind) (x : ℚ) → at_tokens tokens o ≡ Ok x → o ≡ Ok x
at_ok tokens (Ok y) x e = ap (λ (z : ℚ). Ok z) (ok_same y x e)
at_ok tokens (Err kind) x e = absurd (ok_err x (kind, tokens) (sym e))

at_err : (tokens : List Token) (o : Result ℚ EfgKind) (f : EfgKind × List Token) → at_tokens tokens o ≡ Err f → (o ≡ Err f.0) × (tokens ≡ f.1)
at_err tokens (Ok y) f e = absurd (ok_err y f e)
at_err tokens (Err kind) f e =
    let same = err_same {A = ℚ} (kind, tokens) f e in
    (ap (λ (z : EfgKind × List Token). Err z.0) same, ap (λ (z : EfgKind × List Token). z.1) same)

-- ---- what is read
-- the actions that are read come first, and their sum is read with them
abbrev AreRead : ℚ → List Token → (List Action × ℚ) × List Token → Type 0
AreRead sum tokens x = (tokens ≡ flat_map (action_tokens None) x.0.0 ++ x.1) × (x.0.1 ≡ sum +ℚ sum_of x.0.0)

chances_read : (set : ℕ) (sum : ℚ) (tokens : List Token) (x : (List Action × ℚ) × List Token) → parse_chances set sum tokens ≡ Ok x → AreRead sum tokens x
chances_read set sum (Text name ∷ Number prob ∷ rest) x e =
    let a = bind_ok (at_tokens (Number prob ∷ rest) (sum_with set sum prob)) _ x e in
    let b = bind_ok (parse_chances set a.0 rest) _ x a.2 in
    let m = chances_read set a.0 rest b.0 b.1 in
    let one : Action = record { name = name; prob = prob } in
    let s = (may_come set sum prob a.0 (at_ok (Number prob ∷ rest) (sum_with set sum prob) a.0 a.1)).is in
    let total : b.0.0.1 ≡ sum +ℚ sum_of (one ∷ b.0.0.0) = m.1 ∙ ap (λ (z : ℚ). z +ℚ sum_of b.0.0.0) s ∙ sym (sum_first sum one b.0.0.0) in
    subst (AreRead sum (Text name ∷ Number prob ∷ rest)) (ok_same ((one ∷ b.0.0.0, b.0.0.1), b.0.1) x b.2) (ap (λ (q : List Token). Text name ∷ Number prob ∷ q) m.0, total)
chances_read set sum (Text name ∷ rest) x e = absurd (ok_err x (Node, rest) (sym e))
chances_read set sum tokens x e = subst (AreRead sum tokens) (ok_same (([], sum), tokens) x e) (refl, sym (+ℚ-zero sum))

-- ---- where the actions stop
-- a name comes after whole actions, and what follows it is no number, or one that may not come
record ChancesStop (set : ℕ) (sum : ℚ) (tokens : List Token) (kind : EfgKind) (rest : List Token) : Type 0 where
  pub actions : List Action
  pub name : List ℕ
  pub are : tokens ≡ flat_map (action_tokens None) actions ++ Text name ∷ rest
  pub why : (kind ≡ Node) ⊎ ((v : ℚ) × NumberComes v rest × (sum_with set (sum +ℚ sum_of actions) v ≡ Err kind))

chances_stop : (set : ℕ) (sum : ℚ) (tokens : List Token) (f : EfgKind × List Token) → parse_chances set sum tokens ≡ Err f → ChancesStop set sum tokens f.0 f.1
chances_stop set sum (Text name ∷ Number prob ∷ rest) f e = elim (bind_err (at_tokens (Number prob ∷ rest) (sum_with set sum prob)) _ f e) [
  | inl g ↦
      let h = at_err (Number prob ∷ rest) (sum_with set sum prob) f g in
      let sum_is : sum_with set (sum +ℚ sum_of []) prob ≡ Err f.0 = ap (λ (s : ℚ). sum_with set s prob) (+ℚ-zero sum) ∙ h.0 in
      record { actions = []; name = name; are = ap (λ (q : List Token). Text name ∷ q) h.1; why = inr (prob, (rest, sym h.1), sum_is) }
  | inr a ↦ elim (bind_err (parse_chances set a.0 rest) _ f a.2) [
    | inl g ↦
        let one : Action = record { name = name; prob = prob } in
        let s = (may_come set sum prob a.0 (at_ok (Number prob ∷ rest) (sum_with set sum prob) a.0 a.1)).is in
        let m = chances_stop set a.0 rest f g in
        let total : a.0 +ℚ sum_of m.actions ≡ sum +ℚ sum_of (one ∷ m.actions) = ap (λ (z : ℚ). z +ℚ sum_of m.actions) s ∙ sym (sum_first sum one m.actions) in
        record { actions = one ∷ m.actions; name = m.name; are = ap (λ (q : List Token). Text name ∷ Number prob ∷ q) m.are; why = onward m.actions total m.why }
    | inr b ↦ absurd (ok_err _ f b.2)
  ]
]
  where
    onward : {before after : ℚ} (actions : List Action) → before ≡ after → (f.0 ≡ Node) ⊎ ((v : ℚ) × NumberComes v f.1 × (sum_with set before v ≡ Err f.0)) → (f.0 ≡ Node) ⊎ ((v : ℚ) × NumberComes v f.1 × (sum_with set after v ≡ Err f.0))
    onward actions same (inl n) = inl n
    onward actions same (inr w) = inr (w.0, w.1, ap (λ (s : ℚ). sum_with set s w.0) (sym same) ∙ w.2)
chances_stop set sum (Text name ∷ rest) f e =
    let same = err_same {A = (List Action × ℚ) × List Token} (Node, rest) f e in
    record { actions = []; name = name; are = ap (λ (z : EfgKind × List Token). Text name ∷ z.1) same; why = inl (sym (ap (λ (z : EfgKind × List Token). z.0) same)) }
chances_stop set sum tokens f e = absurd (ok_err _ f e)

-- so what is left is an end
chances_within : (set : ℕ) (sum : ℚ) → Within (parse_chances set sum)
chances_within set sum = record {
  ok = λ tokens x e. (flat_map (action_tokens None) x.0.0, (chances_read set sum tokens x e).0);
  err = λ tokens f e.
      let s = chances_stop set sum tokens f e in
      (flat_map (action_tokens None) s.actions ++ Text s.name ∷ [], s.are ∙ sym (append_assoc (flat_map (action_tokens None) s.actions) (Text s.name ∷ []) f.1));
}

-- ---- the brace after them
-- what follows actions with their sum
abbrev closing : ℕ → List Action × ℚ → List Token → Parsed EfgKind (List Action)
closing set x tokens = parse_closed (length x.0) tokens >>= λ rest. if eq_ℚ x.1 one_ℚ then Ok (x.0, rest.1) else Err (Probability set x.1, tokens)

-- where a closing brace may stand
closed_ok : (n : ℕ) (tokens : List Token) (x : Unit {0} × List Token) → parse_closed n tokens ≡ Ok x → (1 ≤ n) × (tokens ≡ Right ∷ x.1)
closed_ok n tokens x e = by (closed_at n tokens) refl e
  where
    by : (o : Option (List Token)) → closed_at n tokens ≡ o → expected_mark Node tokens o ≡ Ok x → (1 ≤ n) × (tokens ≡ Right ∷ x.1)
    by None h e = absurd (ok_err x (Node, tokens) (sym e))
    by (Some rest) h e =
        let c = closed_is n tokens rest h in
        (c.0, c.1 ∙ ap (λ (z : Unit {0} × List Token). Right ∷ z.1) (ok_same (tt, rest) x e))

pub closed_err : (n : ℕ) (tokens : List Token) (f : EfgKind × List Token) → parse_closed n tokens ≡ Err f → (Node, tokens) ≡ f
closed_err n tokens f e = by (closed_at n tokens) e
  where
    by : (o : Option (List Token)) → expected_mark Node tokens o ≡ Err f → (Node, tokens) ≡ f
    by None e = err_same {A = Unit {0} × List Token} (Node, tokens) f e
    by (Some rest) e = absurd (ok_err (tt, rest) f e)

-- the end of a list, where it stops
closing_stop : (set : ℕ) (x : List Action × ℚ) (tokens : List Token) (f : EfgKind × List Token) → closing set x tokens ≡ Err f → (tokens ≡ f.1) × ((f.0 ≡ Node) ⊎ ((1 ≤ length x.0) × BraceComes tokens × (f.0 ≡ Probability set x.1)))
closing_stop set x tokens f e = elim (bind_err (parse_closed (length x.0) tokens) _ f e) [
  | inl g ↦ let same = closed_err (length x.0) tokens f g in (ap (λ (z : EfgKind × List Token). z.1) same, inl (sym (ap (λ (z : EfgKind × List Token). z.0) same)))
  | inr a ↦ by (eq_ℚ x.1 one_ℚ) a.0.1 (closed_ok (length x.0) tokens a.0 a.1) a.2
]
  where
    by : (is : Bool) (rest : List Token) → (1 ≤ length x.0) × (tokens ≡ Right ∷ rest) → ◌≡◌ {A = Parsed EfgKind (List Action)} (if is then Ok (x.0, rest) else Err (Probability set x.1, tokens)) (Err f) → (tokens ≡ f.1) × ((f.0 ≡ Node) ⊎ ((1 ≤ length x.0) × BraceComes tokens × (f.0 ≡ Probability set x.1)))
    by true rest c e = absurd (ok_err (x.0, rest) f e)
    by false rest c e =
        let same = err_same {A = List Action × List Token} (Probability set x.1, tokens) f e in
        (ap (λ (z : EfgKind × List Token). z.1) same, inr (c.0, (rest, c.1), sym (ap (λ (z : EfgKind × List Token). z.0) same)))

closing_within : (set : ℕ) (x : List Action × ℚ) → Within (closing set x)
closing_within set x = record {
  ok = λ tokens y e. let a = bind_ok (parse_closed (length x.0) tokens) _ y e in by (eq_ℚ x.1 one_ℚ) tokens a.0.1 y (closed_ok (length x.0) tokens a.0 a.1).1 a.2;
  err = λ tokens f e. ([], (closing_stop set x tokens f e).0);
}
  where
    by : (is : Bool) (tokens rest : List Token) (y : List Action × List Token) → tokens ≡ Right ∷ rest → ◌≡◌ {A = Parsed EfgKind (List Action)} (if is then Ok (x.0, rest) else Err (Probability set x.1, tokens)) (Ok y) → (front : List Token) × (tokens ≡ front ++ y.1)
    by true tokens rest y c e = (Right ∷ [], c ∙ ap (λ (z : List Action × List Token). Right ∷ z.1) (ok_same (x.0, rest) y e))
    by false tokens rest y c e = absurd (ok_err y (Probability set x.1, tokens) (sym e))

-- ---- where the list stops
-- inside a list of chance: a probability comes that may not, or the brace after actions whose sum is another
abbrev pub ChanceListStops : ℕ → List Token → EfgKind → List Token → Type 0
ChanceListStops set tokens kind rest = (actions : List Action) × (list : List Token) × (tokens ≡ list ++ rest)
    × ((WantsProbability actions list × (v : ℚ) × NumberComes v rest × (sum_with set (sum_of actions) v ≡ Err kind))
    ⊎ (HasActions None actions list × (1 ≤ length actions) × BraceComes rest × (kind ≡ Probability set (sum_of actions))))

pub chance_list_stops : (set : ℕ) (inner : List Token) (kind : EfgKind) (rest : List Token) → parse_chance_list set inner ≡ Err (kind, rest) → (kind ≡ Node) ⊎ ChanceListStops set (Left ∷ inner) kind rest
unfolding parse_chance_list
chance_list_stops set inner kind rest e = elim (bind_err (parse_chances set zero_ℚ inner) (λ x. closing set x.0 x.1) (kind, rest) e) [
  | inl f ↦ in_actions (chances_stop set zero_ℚ inner (kind, rest) f)
  | inr a ↦ following a.0 (chances_read set zero_ℚ inner a.0 a.1) (closing_stop set a.0.0 a.0.1 (kind, rest) a.2)
]
  where
    in_actions : ChancesStop set zero_ℚ inner kind rest → (kind ≡ Node) ⊎ ChanceListStops set (Left ∷ inner) kind rest
    in_actions s = by s.why
      where
        list : List Token
        list = Left ∷ (flat_map (action_tokens None) s.actions ++ Text s.name ∷ [])

        all : Left ∷ inner ≡ list ++ rest
        all = ap (λ (q : List Token). Left ∷ q) (s.are ∙ sym (append_assoc (flat_map (action_tokens None) s.actions) (Text s.name ∷ []) rest))

        by : (kind ≡ Node) ⊎ ((v : ℚ) × NumberComes v rest × (sum_with set (zero_ℚ +ℚ sum_of s.actions) v ≡ Err kind)) → (kind ≡ Node) ⊎ ChanceListStops set (Left ∷ inner) kind rest
        by (inl n) = inl n
        by (inr w) = inr (s.actions, list, all, inl ((s.name, refl), w.0, w.1, ap (λ (q : ℚ). sum_with set q w.0) (sym (zero-+ℚ (sum_of s.actions))) ∙ w.2))

    following : (x : (List Action × ℚ) × List Token) → AreRead zero_ℚ inner x → (x.1 ≡ rest) × ((kind ≡ Node) ⊎ ((1 ≤ length x.0.0) × BraceComes x.1 × (kind ≡ Probability set x.0.1))) → (kind ≡ Node) ⊎ ChanceListStops set (Left ∷ inner) kind rest
    following x r (place, inl n) = inl n
    following x r (place, inr w) =
        let total : x.0.1 ≡ sum_of x.0.0 = r.1 ∙ zero-+ℚ (sum_of x.0.0) in
        let all : Left ∷ inner ≡ (Left ∷ flat_map (action_tokens None) x.0.0) ++ rest = ap (λ (q : List Token). Left ∷ q) (r.0 ∙ ap (λ (q : List Token). flat_map (action_tokens None) x.0.0 ++ q) place) in
        inr (x.0.0, Left ∷ flat_map (action_tokens None) x.0.0, all, inr (refl, w.0, (w.1.0, sym place ∙ w.1.1), w.2 ∙ ap (λ (q : ℚ). Probability set q) total))

-- ---- which kind it is
-- after whole actions
abbrev with_actions : List Action → (List Action × ℚ) × List Token → Parsed EfgKind (List Action × ℚ)
with_actions actions more = Ok ((actions ++ more.0.0, more.0.1), more.1)

with_none : (o : Parsed EfgKind (List Action × ℚ)) → chain o (with_actions []) ≡ o
with_none (Ok x) = refl
with_none (Err f) = refl

with_one : (action : Action) (actions : List Action) (o : Parsed EfgKind (List Action × ℚ)) → chain (chain o (with_actions actions)) (with_actions (action ∷ [])) ≡ chain o (with_actions (action ∷ actions))
with_one action actions (Ok x) = refl
with_one action actions (Err f) = refl

-- whole actions are passed, or one of them stops
abbrev PassesTo : {X : Type 0} → Parsed EfgKind X → Parsed EfgKind X → List Token → Type 0
PassesTo reading more tail = ((f : EfgKind × List Token) × (reading ≡ Err f) × (length tail < length f.1)) ⊎ (reading ≡ more)

chances_pass : (set : ℕ) (sum : ℚ) (actions : List Action) (tail : List Token) → PassesTo (parse_chances set sum (flat_map (action_tokens None) actions ++ tail)) (chain (parse_chances set (sum +ℚ sum_of actions) tail) (with_actions actions)) tail
chances_pass set sum [] tail = inr (ap (λ (s : ℚ). parse_chances set s tail) (sym (+ℚ-zero sum)) ∙ sym (with_none (parse_chances set (sum +ℚ zero_ℚ) tail)))
chances_pass set sum (action ∷ actions) tail = elim (result_of (sum_with set sum action.prob)) [
  | inl n ↦ elim (chances_pass set n.0 actions tail) [
    | inl f ↦ inl (f.0, rw (n.1, f.1) refl, f.2)
    | inr e ↦
        let s : n.0 +ℚ sum_of actions ≡ sum +ℚ sum_of (action ∷ actions) = ap (λ (z : ℚ). z +ℚ sum_of actions) (may_come set sum action.prob n.0 n.1).is ∙ sym (sum_first sum action actions) in
        let one : parse_chances set sum (Text action.name ∷ Number action.prob ∷ (flat_map (action_tokens None) actions ++ tail)) ≡ chain (chain (parse_chances set (n.0 +ℚ sum_of actions) tail) (with_actions actions)) (with_actions (action ∷ [])) = rw (n.1, e) refl in
        inr (one ∙ with_one action actions (parse_chances set (n.0 +ℚ sum_of actions) tail) ∙ ap (λ (q : ℚ). chain (parse_chances set q tail) (with_actions (action ∷ actions))) s)
  ]
  | inr f ↦ inl ((f.0, Number action.prob ∷ (flat_map (action_tokens None) actions ++ tail)), rw f.1 refl, omega (arith, length-append (flat_map (action_tokens None) actions) tail))
]

list_pass : (set : ℕ) (actions : List Action) (tail : List Token) → PassesTo (parse_chance_list set (flat_map (action_tokens None) actions ++ tail)) (chain (chain (parse_chances set (sum_of actions) tail) (with_actions actions)) (λ x. closing set x.0 x.1)) tail
unfolding parse_chance_list
list_pass set actions tail = elim (chances_pass set zero_ℚ actions tail) [
  | inl f ↦ inl (f.0, ap (λ (o : Parsed EfgKind (List Action × ℚ)). chain o (λ x. closing set x.0 x.1)) f.1, f.2)
  | inr e ↦ inr (ap (λ (o : Parsed EfgKind (List Action × ℚ)). chain o (λ x. closing set x.0 x.1)) (e ∙ ap (λ (s : ℚ). chain (parse_chances set s tail) (with_actions actions)) (zero-+ℚ (sum_of actions))))
]

-- a probability comes
pub probability_kind : (set : ℕ) (actions : List Action) (name : List ℕ) (v : ℚ) (r : List Token) (kind : EfgKind) → GoesTo (parse_first_list None set (Left ∷ (flat_map (action_tokens None) actions ++ Text name ∷ Number v ∷ r))) kind (Number v ∷ r) → sum_with set (sum_of actions) v ≡ Err kind
unfolding parse_first_list
probability_kind set actions name v r kind g = elim (list_pass set actions (Text name ∷ Number v ∷ r)) [
  | inl f ↦ absurd (not_earlier (parse_chance_list set (flat_map (action_tokens None) actions ++ Text name ∷ Number v ∷ r)) kind (Number v ∷ r) f.0 f.1 (omega (arith, f.2)) g)
  | inr e ↦ elim (result_of (sum_with set (sum_of actions) v)) [
    | inl n ↦
        let same : parse_chance_list set (flat_map (action_tokens None) actions ++ Text name ∷ Number v ∷ r) ≡ onward n.0 r = e ∙ rw n.1 refl in
        absurd (not_after (onward n.0) (onward_within n.0) kind (Number v) r (subst (λ (o : Parsed EfgKind (List Action)). GoesTo o kind (Number v ∷ r)) same g))
    | inr k ↦
        let same : parse_chance_list set (flat_map (action_tokens None) actions ++ Text name ∷ Number v ∷ r) ≡ Err (k.0, Number v ∷ r) = e ∙ rw k.1 refl in
        k.1 ∙ ap (λ (z : EfgKind). Err z) (sym (stop_kind (parse_chance_list set (flat_map (action_tokens None) actions ++ Text name ∷ Number v ∷ r)) kind k.0 (Number v ∷ r) (Number v ∷ r) same g))
  ]
]
  where
    one : Action
    one = record { name = name; prob = v }

    onward : ℚ → List Token → Parsed EfgKind (List Action)
    onward next tokens = chain (chain (chain (parse_chances set next tokens) (with_actions (one ∷ []))) (with_actions actions)) (λ x. closing set x.0 x.1)

    onward_within : (next : ℚ) → Within (onward next)
    onward_within next =
        bind_within (λ tokens. chain (chain (parse_chances set next tokens) (with_actions (one ∷ []))) (with_actions actions)) (λ x tokens. closing set x tokens)
        (bind_within (λ tokens. chain (parse_chances set next tokens) (with_actions (one ∷ []))) (λ x tokens. with_actions actions (x, tokens))
        (bind_within (parse_chances set next) (λ x tokens. with_actions (one ∷ []) (x, tokens)) (chances_within set next) (λ x. pure_within _)) (λ x. pure_within _)) (closing_within set)

-- the brace comes
pub brace_kind : (set : ℕ) (actions : List Action) (r : List Token) (kind : EfgKind) → 1 ≤ length actions → GoesTo (parse_first_list None set (Left ∷ (flat_map (action_tokens None) actions ++ Right ∷ r))) kind (Right ∷ r) → kind ≡ Probability set (sum_of actions)
unfolding parse_first_list
brace_kind set actions r kind some g = elim (list_pass set actions (Right ∷ r)) [
  | inl f ↦ absurd (not_earlier (parse_chance_list set (flat_map (action_tokens None) actions ++ Right ∷ r)) kind (Right ∷ r) f.0 f.1 f.2 g)
  | inr e ↦
      let h : GoesTo (closing set (actions ++ [], sum_of actions) (Right ∷ r)) kind (Right ∷ r) = subst (λ (o : Parsed EfgKind (List Action)). GoesTo o kind (Right ∷ r)) e g in
      by (subst (λ (list : List Action). GoesTo (closing set (list, sum_of actions) (Right ∷ r)) kind (Right ∷ r)) (append-nil actions) h)
]
  where
    by : GoesTo (closing set (actions, sum_of actions) (Right ∷ r)) kind (Right ∷ r) → kind ≡ Probability set (sum_of actions)
    by h = elim (cases_Bool (eq_ℚ (sum_of actions) one_ℚ)) [
      | inl e ↦
          let same : closing set (actions, sum_of actions) (Right ∷ r) ≡ Ok (actions, r) = rw (le_passes 1 (length actions) some, e) refl in
          absurd (not_after (λ q. Ok (actions, q)) (pure_within actions) kind Right r (subst (λ (o : Parsed EfgKind (List Action)). GoesTo o kind (Right ∷ r)) same h))
      | inr e ↦
          let same : closing set (actions, sum_of actions) (Right ∷ r) ≡ Err (Probability set (sum_of actions), Right ∷ r) = rw (le_passes 1 (length actions) some, e) refl in
          stop_kind (closing set (actions, sum_of actions) (Right ∷ r)) kind (Probability set (sum_of actions)) (Right ∷ r) (Right ∷ r) same h
    ]
