-- Later lists of actions: where their reading stops, and which kind of fault that is.
use Rattle.std.proofs.Common.{◌≡◌, ℕ, if◌then◌else◌, List, [], ◌∷◌, ◌++◌, Bool, true, false, Option, Some, None, ◌⊎◌, inl, inr, refl, sym, ap, ◌∙◌, subst, append_assoc}
use Rattle.std.specs.Prelude.{Ok, Err}
use Rattle.std.specs.List.{flat_map}
use Rattle.std.proofs.lemmas.Bool.{cases_Bool}
use Rattle.rational.specs.Rational.{ℚ, zero_ℚ}
use Rattle.rational.specs.Tests.{eq_ℚ}
use Rattle.game_core.specs.declared.tree.Action.{Action}
use Rattle.game_core.specs.declared.token.Token.{Token}
use Rattle.game_core.specs.declared.token.Token.TheVariants.{Left, Right, Text, Number}
use Rattle.file_parts.specs.Parsing.{Parsed}
use Rattle.file_parts.proofs.ReaderLemmas.{chain, bind_ok, bind_err, ok_same, err_same, ok_err}
use Rattle.tree_grammar.specs.TreeFile.{action_tokens}
use Rattle.tree_grammar.specs.TreeParsing.{parse_probability, parse_repeated, parse_all_repeated, parse_repeated_list, parse_later_list}
use Rattle.tree_faults.specs.TreeFaults.{HasActions, WantsProbability}
use Rattle.tree_faults.specs.FaultKinds.{NumberComes, TextComes, BraceComes}
use Rattle.tree_grammar.specs.declared.kinds.EfgKind.{EfgKind}
use Rattle.tree_grammar.specs.declared.kinds.EfgKind.TheVariants.{Node, SetMismatch}
use Rattle.tree_faults.proofs.PartReaderLemmas.{probability_reader, all_repeated_reader, list_end, list_end_reader}
use Rattle.tree_faults.proofs.TokenEndLemmas.{Within, reader_within, bind_within, pure_within}
use Rattle.tree_faults.proofs.StopLemmas.{GoesTo, stop_kind, not_after}

-- ---- what is read
-- an action comes first
abbrev BeginsWithAction : Option ℕ → List Token → List Token → Type 0
BeginsWithAction owner tokens rest = (action : Action) × (tokens ≡ action_tokens owner action ++ rest)

one_read : (owner : Option ℕ) (action : Action) (tokens : List Token) (x : Unit {0} × List Token) → parse_repeated owner action tokens ≡ Ok x → BeginsWithAction owner tokens x.1
unfolding parse_repeated
one_read None action (Text name ∷ Number v ∷ rest) x e = by (eq_ℚ v action.prob) e
  where
    by : (is : Bool) → ◌≡◌ {A = Parsed EfgKind (Unit {0})} (if is then Ok (tt, rest) else Err (SetMismatch, Number v ∷ rest)) (Ok x) → BeginsWithAction None (Text name ∷ Number v ∷ rest) x.1
    by true o = (record { name = name; prob = v }, ap (λ (z : Unit {0} × List Token). Text name ∷ Number v ∷ z.1) (ok_same (tt, rest) x o))
    by false o = absurd (ok_err x (SetMismatch, Number v ∷ rest) (sym o))
one_read None action (Text name ∷ rest) x e = absurd (ok_err x (Node, rest) (sym e))
one_read (Some i) action (Text name ∷ rest) x e = (record { name = name; prob = zero_ℚ }, ap (λ (z : Unit {0} × List Token). Text name ∷ z.1) (ok_same (tt, rest) x e))
one_read owner action tokens x e = absurd (ok_err x _ (sym e))

-- actions come first
all_read : (owner : Option ℕ) (own : List Action) (tokens : List Token) (x : Unit {0} × List Token) → parse_all_repeated owner own tokens ≡ Ok x → (actions : List Action) × (tokens ≡ flat_map (action_tokens owner) actions ++ x.1)
all_read owner [] tokens x e = ([], ap (λ (z : Unit {0} × List Token). z.1) (ok_same (tt, tokens) x e))
all_read owner (one ∷ own) tokens x e =
    let a = bind_ok (parse_repeated owner one tokens) _ x e in
    let h = one_read owner one tokens a.0 a.1 in
    let more = all_read owner own a.0.1 x a.2 in
    (h.0 ∷ more.0, h.1 ∙ ap (λ (q : List Token). action_tokens owner h.0 ++ q) more.1 ∙ sym (append_assoc (action_tokens owner h.0) (flat_map (action_tokens owner) more.0) x.1))

-- ---- where it stops
-- the brace comes too early, or another number
abbrev ActionStops : Option ℕ → List Token → List Token → Type 0
ActionStops owner tokens rest = ((tokens ≡ rest) × BraceComes rest) ⊎ ((owner ≡ None) × (name : List ℕ) × (tokens ≡ Text name ∷ rest) × (v : ℚ) × NumberComes v rest)

-- a fault that is named outright
node_named : {P : Type 0} (tokens : List Token) (f : EfgKind × List Token) → ◌≡◌ {A = Parsed EfgKind (Unit {0})} (Err (Node, tokens)) (Err f) → (f.0 ≡ Node) ⊎ P
node_named tokens f e = inl (sym (ap (λ (z : EfgKind × List Token). z.0) (err_same {A = Unit {0} × List Token} (Node, tokens) f e)))

brace_named : (owner : Option ℕ) (rest : List Token) (f : EfgKind × List Token) → ◌≡◌ {A = Parsed EfgKind (Unit {0})} (Err (SetMismatch, Right ∷ rest)) (Err f) → (f.0 ≡ Node) ⊎ ((f.0 ≡ SetMismatch) × ActionStops owner (Right ∷ rest) f.1)
brace_named owner rest f e =
    let same = err_same {A = Unit {0} × List Token} (SetMismatch, Right ∷ rest) f e in
    let place : Right ∷ rest ≡ f.1 = ap (λ (z : EfgKind × List Token). z.1) same in
    inr (sym (ap (λ (z : EfgKind × List Token). z.0) same), inl (place, (rest, sym place)))

one_stop : (owner : Option ℕ) (action : Action) (tokens : List Token) (f : EfgKind × List Token) → parse_repeated owner action tokens ≡ Err f → (f.0 ≡ Node) ⊎ ((f.0 ≡ SetMismatch) × ActionStops owner tokens f.1)
unfolding parse_repeated
one_stop None action (Text name ∷ Number v ∷ rest) f e = by (eq_ℚ v action.prob) e
  where
    by : (is : Bool) → ◌≡◌ {A = Parsed EfgKind (Unit {0})} (if is then Ok (tt, rest) else Err (SetMismatch, Number v ∷ rest)) (Err f) → (f.0 ≡ Node) ⊎ ((f.0 ≡ SetMismatch) × ActionStops None (Text name ∷ Number v ∷ rest) f.1)
    by true o = absurd (ok_err (tt, rest) f o)
    by false o =
        let same = err_same {A = Unit {0} × List Token} (SetMismatch, Number v ∷ rest) f o in
        let place : Number v ∷ rest ≡ f.1 = ap (λ (z : EfgKind × List Token). z.1) same in
        inr (sym (ap (λ (z : EfgKind × List Token). z.0) same), inr (refl, name, ap (λ (q : List Token). Text name ∷ q) place, v, (rest, sym place)))
one_stop None action (Text name ∷ rest) f e = node_named rest f e
one_stop (Some i) action (Text name ∷ rest) f e = absurd (ok_err (tt, rest) f e)
one_stop owner action (Right ∷ rest) f e = brace_named owner rest f e
one_stop owner action tokens f e = node_named tokens f e

-- after whole actions
abbrev ActionsStop : Option ℕ → List Token → List Token → Type 0
ActionsStop owner tokens rest = (actions : List Action) × (((tokens ≡ flat_map (action_tokens owner) actions ++ rest) × BraceComes rest) ⊎ ((owner ≡ None) × (name : List ℕ) × (tokens ≡ flat_map (action_tokens owner) actions ++ Text name ∷ rest) × (v : ℚ) × NumberComes v rest))

all_stop : (owner : Option ℕ) (own : List Action) (tokens : List Token) (f : EfgKind × List Token) → parse_all_repeated owner own tokens ≡ Err f → (f.0 ≡ Node) ⊎ ((f.0 ≡ SetMismatch) × ActionsStop owner tokens f.1)
all_stop owner [] tokens f e = absurd (ok_err (tt, tokens) f e)
all_stop owner (one ∷ own) tokens f e = elim (bind_err (parse_repeated owner one tokens) _ f e) [
  | inl g ↦ elim (one_stop owner one tokens f g) [
    | inl n ↦ inl n
    | inr s ↦ inr (s.0, ([], s.1))
  ]
  | inr a ↦
      let h = one_read owner one tokens a.0 a.1 in
      elim (all_stop owner own a.0.1 f a.2) [
        | inl n ↦ inl n
        | inr s ↦ inr (s.0, (h.0 ∷ s.1.0, onward h s.1.0 s.1.1))
      ]
]
  where
    longer : (action : Action) (actions : List Action) (middle more : List Token) → tokens ≡ action_tokens owner action ++ middle → middle ≡ flat_map (action_tokens owner) actions ++ more → tokens ≡ flat_map (action_tokens owner) (action ∷ actions) ++ more
    longer action actions middle more e g = e ∙ ap (λ (q : List Token). action_tokens owner action ++ q) g ∙ sym (append_assoc (action_tokens owner action) (flat_map (action_tokens owner) actions) more)

    onward : {middle rest : List Token} (h : BeginsWithAction owner tokens middle) (actions : List Action) → (((middle ≡ flat_map (action_tokens owner) actions ++ rest) × BraceComes rest) ⊎ ((owner ≡ None) × (name : List ℕ) × (middle ≡ flat_map (action_tokens owner) actions ++ Text name ∷ rest) × (v : ℚ) × NumberComes v rest))
        → (((tokens ≡ flat_map (action_tokens owner) (h.0 ∷ actions) ++ rest) × BraceComes rest) ⊎ ((owner ≡ None) × (name : List ℕ) × (tokens ≡ flat_map (action_tokens owner) (h.0 ∷ actions) ++ Text name ∷ rest) × (v : ℚ) × NumberComes v rest))
    onward {middle} {rest} h actions (inl b) = inl (longer h.0 actions middle rest h.1 b.0, b.1)
    onward {middle} {rest} h actions (inr n) = inr (n.0, n.1, longer h.0 actions middle (Text n.1 ∷ rest) h.1 n.2, n.3, n.4)

-- the end of the list
end_stop : (tokens : List Token) (f : EfgKind × List Token) → list_end tokens ≡ Err f → (f.0 ≡ Node) ⊎ ((f.0 ≡ SetMismatch) × (tokens ≡ f.1) × TextComes f.1)
end_stop (Right ∷ rest) f e = absurd (ok_err (tt, rest) f e)
end_stop (Text text ∷ rest) f e =
    let same = err_same {A = Unit {0} × List Token} (SetMismatch, Text text ∷ rest) f e in
    let place : Text text ∷ rest ≡ f.1 = ap (λ (z : EfgKind × List Token). z.1) same in
    inr (sym (ap (λ (z : EfgKind × List Token). z.0) same), place, (text, rest, sym place))
end_stop tokens f e = node_named tokens f e

-- After whole actions a text or the closing brace is too early or too late, or a probability is another.
abbrev pub LaterListStops : Option ℕ → List Token → List Token → Type 0
LaterListStops owner tokens rest = (actions : List Action) × (list : List Token) × (tokens ≡ list ++ rest)
    × ((HasActions owner actions list × (TextComes rest ⊎ BraceComes rest)) ⊎ ((owner ≡ None) × WantsProbability actions list × (v : ℚ) × NumberComes v rest))

inner_stops : (owner : Option ℕ) (own : List Action) (inner : List Token) (f : EfgKind × List Token) → parse_repeated_list owner own (Left ∷ inner) ≡ Err f → (f.0 ≡ Node) ⊎ ((f.0 ≡ SetMismatch) × LaterListStops owner (Left ∷ inner) f.1)
unfolding parse_repeated_list
inner_stops owner own inner f e = elim (bind_err (parse_all_repeated owner own inner) (λ following. list_end following.1) f e) [
  | inl g ↦ elim (all_stop owner own inner f g) [
    | inl n ↦ inl n
    | inr s ↦ inr (s.0, in_actions s.1.0 s.1.1)
  ]
  | inr a ↦ elim (end_stop a.0.1 f a.2) [
    | inl n ↦ inl n
    | inr s ↦
        let m = all_read owner own inner a.0 a.1 in
        inr (s.0, (m.0, Left ∷ flat_map (action_tokens owner) m.0, ap (λ (q : List Token). Left ∷ q) (m.1 ∙ ap (λ (q : List Token). flat_map (action_tokens owner) m.0 ++ q) s.1), inl (refl, inl s.2)))
  ]
]
  where
    in_actions : (actions : List Action) → (((inner ≡ flat_map (action_tokens owner) actions ++ f.1) × BraceComes f.1) ⊎ ((owner ≡ None) × (name : List ℕ) × (inner ≡ flat_map (action_tokens owner) actions ++ Text name ∷ f.1) × (v : ℚ) × NumberComes v f.1)) → LaterListStops owner (Left ∷ inner) f.1
    in_actions actions (inl b) = (actions, Left ∷ flat_map (action_tokens owner) actions, ap (λ (q : List Token). Left ∷ q) b.0, inl (refl, inr b.1))
    in_actions actions (inr n) =
        let tail : flat_map (action_tokens owner) actions ++ Text n.1 ∷ f.1 ≡ (flat_map (action_tokens owner) actions ++ Text n.1 ∷ []) ++ f.1 = sym (append_assoc (flat_map (action_tokens owner) actions) (Text n.1 ∷ []) f.1) in
        let wants : WantsProbability actions (Left ∷ flat_map (action_tokens owner) actions ++ Text n.1 ∷ []) = (n.1, ap (λ (o : Option ℕ). Left ∷ flat_map (action_tokens o) actions ++ Text n.1 ∷ []) n.0) in
        (actions, Left ∷ flat_map (action_tokens owner) actions ++ Text n.1 ∷ [], ap (λ (q : List Token). Left ∷ q) (n.2 ∙ tail), inr (n.0, wants, n.3, n.4))

pub later_list_stops : (owner : Option ℕ) (own : List Action) (tokens : List Token) (f : EfgKind × List Token) → parse_later_list owner own tokens ≡ Err f → (f.0 ≡ Node) ⊎ ((f.0 ≡ SetMismatch) × LaterListStops owner tokens f.1)
later_list_stops owner own (Left ∷ inner) f e = inner_stops owner own inner f e
later_list_stops owner own tokens f e = absurd (ok_err (tt, tokens) f e)

-- ---- which kind it is
-- actions that repeat these, and the brace
abbrev pub repeating : Option ℕ → List Action → List Token → Parsed EfgKind (Unit {0})
repeating owner own tokens = chain (parse_all_repeated owner own tokens) (λ following. list_end following.1)

-- whole actions are passed, or one of them differs
abbrev RepeatsTo : Option ℕ → List Action → List Token → List Token → Type 0
RepeatsTo owner own tokens tail = ((place : List Token) × (repeating owner own tokens ≡ Err (SetMismatch, place))) ⊎ ((more : List Action) × (repeating owner own tokens ≡ repeating owner more tail))

repeats_to : (owner : Option ℕ) (own actions : List Action) (tail : List Token) → RepeatsTo owner own (flat_map (action_tokens owner) actions ++ tail) tail
unfolding parse_repeated
repeats_to owner own [] tail = inr (own, refl)
repeats_to None [] (action ∷ actions) tail = inl (Text action.name ∷ Number action.prob ∷ (flat_map (action_tokens None) actions ++ tail), refl)
repeats_to None (one ∷ own) (action ∷ actions) tail = elim (cases_Bool (eq_ℚ action.prob one.prob)) [
  | inl e ↦ elim (repeats_to None own actions tail) [
    | inl f ↦ inl (f.0, rw e f.1)
    | inr m ↦ inr (m.0, rw e m.1)
  ]
  | inr e ↦ inl (Number action.prob ∷ (flat_map (action_tokens None) actions ++ tail), rw e refl)
]
repeats_to (Some i) [] (action ∷ actions) tail = inl (Text action.name ∷ (flat_map (action_tokens (Some i)) actions ++ tail), refl)
repeats_to (Some i) (one ∷ own) (action ∷ actions) tail = repeats_to (Some i) own actions tail

-- actions that follow one are read to an end
pub repeating_within : (owner : Option ℕ) (own : List Action) → Within (repeating owner own)
repeating_within owner own = bind_within (parse_all_repeated owner own) (λ _ tokens. list_end tokens) (reader_within (parse_all_repeated owner own) (all_repeated_reader owner own)) (λ _. reader_within list_end list_end_reader)

named_within : (owner : Option ℕ) (one : Action) (own : List Action) → Within (λ tokens. chain (chain (parse_probability owner one.prob tokens) (λ rest. parse_all_repeated owner own rest.1)) (λ following. list_end following.1))
named_within owner one own =
    bind_within (λ tokens. chain (parse_probability owner one.prob tokens) (λ rest. parse_all_repeated owner own rest.1)) (λ _ tokens. list_end tokens)
    (bind_within (parse_probability owner one.prob) (λ _ tokens. parse_all_repeated owner own tokens) (reader_within (parse_probability owner one.prob) (probability_reader owner one.prob)) (λ _. reader_within (parse_all_repeated owner own) (all_repeated_reader owner own)))
    (λ _. reader_within list_end list_end_reader)

-- a text comes
text_kind : (owner : Option ℕ) (own : List Action) (text : List ℕ) (r : List Token) (kind : EfgKind) → GoesTo (repeating owner own (Text text ∷ r)) kind (Text text ∷ r) → kind ≡ SetMismatch
unfolding parse_repeated
text_kind owner [] text r kind g = stop_kind (repeating owner [] (Text text ∷ r)) kind SetMismatch (Text text ∷ r) (Text text ∷ r) refl g
text_kind owner (one ∷ own) text r kind g = absurd (not_after (λ tokens. chain (chain (parse_probability owner one.prob tokens) (λ rest. parse_all_repeated owner own rest.1)) (λ following. list_end following.1)) (named_within owner one own) kind (Text text) r g)

-- the brace comes
brace_kind : (owner : Option ℕ) (own : List Action) (r : List Token) (kind : EfgKind) → GoesTo (repeating owner own (Right ∷ r)) kind (Right ∷ r) → kind ≡ SetMismatch
unfolding parse_repeated
brace_kind owner [] r kind g = absurd (not_after (λ tokens. Ok (tt, tokens)) (pure_within tt) kind Right r g)
brace_kind owner (one ∷ own) r kind g = stop_kind (repeating owner (one ∷ own) (Right ∷ r)) kind SetMismatch (Right ∷ r) (Right ∷ r) refl g

-- a number comes after a name
number_kind : (own : List Action) (name : List ℕ) (v : ℚ) (r : List Token) (kind : EfgKind) → GoesTo (repeating None own (Text name ∷ Number v ∷ r)) kind (Number v ∷ r) → kind ≡ SetMismatch
unfolding parse_repeated
number_kind [] name v r kind g = stop_kind (repeating None [] (Text name ∷ Number v ∷ r)) kind SetMismatch (Number v ∷ r) (Text name ∷ Number v ∷ r) refl g
number_kind (one ∷ own) name v r kind g = elim (cases_Bool (eq_ℚ v one.prob)) [
  | inl e ↦
      let same : repeating None (one ∷ own) (Text name ∷ Number v ∷ r) ≡ repeating None own r = rw e refl in
      absurd (not_after (repeating None own) (repeating_within None own) kind (Number v) r (subst (λ (o : Parsed EfgKind (Unit {0})). GoesTo o kind (Number v ∷ r)) same g))
  | inr e ↦
      let same : repeating None (one ∷ own) (Text name ∷ Number v ∷ r) ≡ Err (SetMismatch, Number v ∷ r) = rw e refl in
      stop_kind (repeating None (one ∷ own) (Text name ∷ Number v ∷ r)) kind SetMismatch (Number v ∷ r) (Number v ∷ r) same g
]

-- after whole actions
pub later_kind : (owner : Option ℕ) (own actions : List Action) (rest : List Token) (kind : EfgKind) → TextComes rest ⊎ BraceComes rest → GoesTo (parse_later_list owner own (Left ∷ (flat_map (action_tokens owner) actions ++ rest))) kind rest → kind ≡ SetMismatch
unfolding parse_repeated_list
later_kind owner own actions rest kind comes g = elim (repeats_to owner own actions rest) [
  | inl f ↦ stop_kind (repeating owner own (flat_map (action_tokens owner) actions ++ rest)) kind SetMismatch rest f.0 f.1 g
  | inr m ↦ by m.0 comes (subst (λ (o : Parsed EfgKind (Unit {0})). GoesTo o kind rest) m.1 g)
]
  where
    by : (more : List Action) → TextComes rest ⊎ BraceComes rest → GoesTo (repeating owner more rest) kind rest → kind ≡ SetMismatch
    by more (inl t) h = text_kind owner more t.0 t.1 kind (subst (λ (q : List Token). GoesTo (repeating owner more q) kind q) t.2 h)
    by more (inr b) h = brace_kind owner more b.0 kind (subst (λ (q : List Token). GoesTo (repeating owner more q) kind q) b.1 h)

pub later_number_kind : (own actions : List Action) (name : List ℕ) (v : ℚ) (r : List Token) (kind : EfgKind) → GoesTo (parse_later_list None own (Left ∷ (flat_map (action_tokens None) actions ++ Text name ∷ Number v ∷ r))) kind (Number v ∷ r) → kind ≡ SetMismatch
unfolding parse_repeated_list
later_number_kind own actions name v r kind g = elim (repeats_to None own actions (Text name ∷ Number v ∷ r)) [
  | inl f ↦ stop_kind (repeating None own (flat_map (action_tokens None) actions ++ Text name ∷ Number v ∷ r)) kind SetMismatch (Number v ∷ r) f.0 f.1 g
  | inr m ↦ number_kind m.0 name v r kind (subst (λ (o : Parsed EfgKind (Unit {0})). GoesTo o kind (Number v ∷ r)) m.1 g)
]
