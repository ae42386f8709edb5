-- Lists of payoffs: where their reading stops, and which kind of fault that is.
use Rattle.std.proofs.Common.{◌≡◌, ℕ, suc, ◌≤◌, if◌then◌else◌, List, [], ◌∷◌, ◌++◌, length, length-append, Bool, true, false, true≢false, Option, Some, None, ◌⊎◌, inl, inr, refl, sym, ap, ◌∙◌, subst, append-nil, arith}
use Rattle.std.specs.Prelude.{Ok, Err}
use Rattle.std.proofs.lemmas.Option.{cond_some, same_Some}
use Rattle.rational.specs.Rational.{ℚ}
use Rattle.rational.specs.Tests.{eq_ℚ}
use Rattle.lists.specs.Options.{◌>>=◌}
use Rattle.lists.proofs.OptionLemmas.{bind_some}
use Rattle.game_core.specs.declared.token.Token.{Token}
use Rattle.game_core.specs.declared.token.Token.TheVariants.{Left, Right, Number}
use Rattle.file_parts.specs.Parts.{IsOpen}
use Rattle.file_parts.specs.Reading.{number_at, payoff_start}
use Rattle.file_parts.specs.Parsing.{Parsed, wanted, parse_each}
use Rattle.file_parts.proofs.ReaderLemmas.{chain, ReadsAs, reads_alone, bind_err, err_same, ok_err, ends_early, same_first, same_front, FaultsAre, bind_faults, pure_faults, each_faults, each_reader}
use Rattle.file_parts.proofs.FrontLemmas.{fronts}
use Rattle.file_parts.proofs.FrontLemmas.Goes.{same, first, second}
use Rattle.file_parts.proofs.ValueLemmas.{value, value_some}
use Rattle.written_trees.specs.Building.{repeats_payoffs}
use Rattle.tree_grammar.specs.TreeFile.{ArePayoffs}
use Rattle.tree_grammar.proofs.PartValueLemmas.{payoff_list_at, optional_at, later_payoffs_at}
use Rattle.tree_grammar.specs.TreeParsing.{closes, has_number, parse_payoff, parse_payoffs_end, parse_first_payoffs, parse_same_payoff, parse_same_payoffs, parse_repeated_payoffs, parse_later_payoffs}
use Rattle.tree_faults.specs.TreeFaults.{HasPayoffs}
use Rattle.tree_faults.specs.FaultKinds.{NumberComes, BraceComes}
use Rattle.tree_grammar.specs.declared.kinds.EfgKind.{EfgKind}
use Rattle.tree_grammar.specs.declared.kinds.EfgKind.TheVariants.{Node, OutcomeMismatch}
use Rattle.tree_grammar.proofs.OutcomeLaws.{payoff_list_is, payoff_list_again}
use Rattle.tree_grammar.proofs.TreeValueLemmas.{mark, value_first_payoffs, value_later_payoffs}
use Rattle.tree_faults.proofs.PartReaderLemmas.{payoff_reader, payoffs_end_reader, first_payoffs_reader, repeated_payoffs_reader}
use Rattle.tree_faults.proofs.TokenEndLemmas.{Within, reader_within, bind_within, pure_within}
use Rattle.tree_faults.proofs.StopLemmas.{GoesTo, stop_kind, not_after}

-- ---- kinds inside a list
-- a number or the closing brace comes
abbrev pub PayoffComes : List Token → Type 0
PayoffComes rest = ((v : ℚ) × NumberComes v rest) ⊎ BraceComes rest

-- then the kind is that of payoffs, and else that of the node's form
abbrev PayoffFault : EfgKind → List Token → Type 0
PayoffFault kind rest = ((kind ≡ OutcomeMismatch) × PayoffComes rest) ⊎ ((kind ≡ Node) × (PayoffComes rest → ⊥))

none_comes : (rest : List Token) → has_number rest ≡ false → closes rest ≡ false → PayoffComes rest → ⊥
none_comes rest n c (inl h) = true≢false (sym (ap has_number h.1.1) ∙ n)
none_comes rest n c (inr h) = true≢false (sym (ap closes h.1) ∙ c)

mismatch : {X : Type 0} (tokens : List Token) (f : EfgKind × List Token) → PayoffComes tokens → ◌≡◌ {A = Parsed EfgKind X} (Err (OutcomeMismatch, tokens)) (Err f) → PayoffFault f.0 f.1
mismatch {X} tokens f c e = subst (λ (z : EfgKind × List Token). PayoffFault z.0 z.1) (err_same {A = X × List Token} (OutcomeMismatch, tokens) f e) (inl (refl, c))

ill_formed : {X : Type 0} (tokens : List Token) (f : EfgKind × List Token) → (PayoffComes tokens → ⊥) → ◌≡◌ {A = Parsed EfgKind X} (Err (Node, tokens)) (Err f) → PayoffFault f.0 f.1
ill_formed {X} tokens f c e = subst (λ (z : EfgKind × List Token). PayoffFault z.0 z.1) (err_same {A = X × List Token} (Node, tokens) f e) (inr (refl, c))

-- a payoff
number_fault : (start : List Token) (f : EfgKind × List Token) → wanted (if closes start then OutcomeMismatch else Node) start (number_at start) ≡ Err f → PayoffFault f.0 f.1
number_fault (Number v ∷ rest) f e = absurd (ok_err (v, rest) f e)
number_fault (Right ∷ rest) f e = mismatch {X = ℚ} (Right ∷ rest) f (inr (rest, refl)) e
number_fault tokens f e = ill_formed {X = ℚ} tokens f (none_comes tokens refl refl) e

payoff_fault : (i : ℕ) → FaultsAre PayoffFault (parse_payoff i)
payoff_fault i tokens f e = number_fault (payoff_start i tokens) f e

number_comes : (start : List Token) (x : ℚ × List Token) → wanted (if closes start then OutcomeMismatch else Node) start (number_at start) ≡ Ok x → PayoffComes start
number_comes (Number v ∷ rest) x e = inl (v, (rest, refl))
number_comes tokens x e = absurd (ok_err x _ (sym e))

-- the brace
end_fault : FaultsAre PayoffFault parse_payoffs_end
end_fault (Right ∷ rest) f e = absurd (ok_err (tt, rest) f e)
end_fault (Number v ∷ rest) f e = mismatch {X = Unit {0}} (Number v ∷ rest) f (inl (v, (rest, refl))) e
end_fault tokens f e = ill_formed {X = Unit {0}} tokens f (none_comes tokens refl refl) e

-- a payoff that is repeated
same_fault : (i : ℕ) (payoff : ℚ) → FaultsAre PayoffFault (parse_same_payoff i payoff)
unfolding parse_same_payoff
same_fault i payoff tokens f e = elim (bind_err (parse_payoff i tokens) _ f e) [
  | inl g ↦ payoff_fault i tokens f g
  | inr a ↦ by (eq_ℚ a.0.0 payoff) a.0.1 (number_comes (payoff_start i tokens) a.0 a.1) a.2
]
  where
    by : (is : Bool) (rest : List Token) → PayoffComes (payoff_start i tokens) → ◌≡◌ {A = Parsed EfgKind (Unit {0})} (if is then Ok (tt, rest) else Err (OutcomeMismatch, payoff_start i tokens)) (Err f) → PayoffFault f.0 f.1
    by true rest c e = absurd (ok_err (tt, rest) f e)
    by false rest c e = mismatch {X = Unit {0}} (payoff_start i tokens) f c e

all_fault : (i : ℕ) (payoffs : List ℚ) → FaultsAre PayoffFault (parse_same_payoffs i payoffs)
all_fault i [] = pure_faults PayoffFault tt
all_fault i (payoff ∷ payoffs) = bind_faults PayoffFault (parse_same_payoff i payoff) (λ _ tokens. parse_same_payoffs (suc i) payoffs tokens) (same_fault i payoff) (λ _. all_fault (suc i) payoffs)

-- after the opening brace
first_fault : (players : ℕ) (inner : List Token) (f : EfgKind × List Token) → parse_first_payoffs players (Left ∷ inner) ≡ Err f → PayoffFault f.0 f.1
unfolding parse_first_payoffs
first_fault players inner f e =
    bind_faults PayoffFault (λ tokens. parse_each parse_payoff 0 players tokens) (λ payoffs tokens. chain (parse_payoffs_end tokens) (λ rest. Ok (payoffs, rest.1))) (each_faults PayoffFault parse_payoff payoff_fault 0 players)
    (λ payoffs. bind_faults PayoffFault parse_payoffs_end (λ _ tokens. Ok (payoffs, tokens)) end_fault (λ _. pure_faults PayoffFault payoffs)) inner f e

repeated_fault : (payoffs : List ℚ) (inner : List Token) (f : EfgKind × List Token) → parse_repeated_payoffs payoffs (Left ∷ inner) ≡ Err f → PayoffFault f.0 f.1
unfolding parse_repeated_payoffs
repeated_fault payoffs inner f e = bind_faults PayoffFault (parse_same_payoffs 0 payoffs) (λ _ tokens. parse_payoffs_end tokens) (all_fault 0 payoffs) (λ _. end_fault) inner f e

-- ---- open lists
-- payoffs in braces are read
list_again : (players : ℕ) (list : List Token) (payoffs : List ℚ) → ArePayoffs players list (Some payoffs) → ReadsAs (parse_first_payoffs players) list payoffs
list_again players list payoffs h rest =
    let again : payoff_list_at players (list ++ rest) ≡ Some (payoffs, rest) = rw h.1 (payoff_list_again players h.0 rest payoffs h.2 h.3) in
    value_some (parse_first_payoffs players (list ++ rest)) (payoffs, rest) (value_first_payoffs players (list ++ rest) ∙ again)

-- payoffs that repeat others are payoffs in braces
repeated_are_list : (payoffs : List ℚ) (inner : List Token) (x : Unit {0} × List Token) → parse_repeated_payoffs payoffs (Left ∷ inner) ≡ Ok x → (y : List ℚ × List Token) × (payoff_list_at (length payoffs) (Left ∷ inner) ≡ Some y) × (y.1 ≡ x.1)
unfolding later_payoffs_at
repeated_are_list payoffs inner x e =
    let v : (later_payoffs_at (length payoffs) payoffs (Left ∷ inner) >>= mark) ≡ Some x = sym (value_later_payoffs payoffs (Left ∷ inner)) ∙ ap value e in
    let a = bind_some (later_payoffs_at (length payoffs) payoffs (Left ∷ inner)) mark x v in
    let b = bind_some (optional_at (payoff_list_at (length payoffs)) (Left ∷ inner)) (λ list. if repeats_payoffs payoffs list.0 then Some list.1 else None) a.0 a.1 in
    let c = cond_some (repeats_payoffs payoffs b.0.0) b.0.1 a.0 b.2 in
    let d = bind_some (payoff_list_at (length payoffs) (Left ∷ inner)) (λ list. Some (Some list.0, list.1)) b.0 b.1 in
    let end : a.0 ≡ x.1 = ap (λ (z : Unit {0} × List Token). z.1) (same_Some _ _ a.2) in
    (d.0, d.1, ap (λ (z : Option (List ℚ) × List Token). z.1) (same_Some _ _ d.2) ∙ c.1 ∙ end)

-- an open list is not read to its end
not_finished : (players : ℕ) (list rest : List Token) (y : List ℚ × List Token) → IsOpen (λ tokens. (payoffs : List ℚ) × ArePayoffs players tokens (Some payoffs)) list → payoff_list_at players (list ++ rest) ≡ Some y → length rest ≤ length y.1 → ⊥
not_finished players list rest y open_list e long =
    let l = payoff_list_is players (list ++ rest) y e in
    elim (fronts list rest l.0 y.1 l.2) [
      | same f ↦
          let front : list ≡ l.0 = same_front list l.0 rest (l.2 ∙ ap (λ (q : List Token). l.0 ++ q) (sym f)) in
          read_early l.0 [] l.1 (front ∙ sym (append-nil l.0))
      | first t w b r ↦ let n : length rest ≡ suc (length (w ++ y.1)) = ap length r in absurd (omega (arith, n, length-append w y.1, long))
      | second t w a s ↦ read_early l.0 (t ∷ w) l.1 a
    ]
  where
    read_early : (front following : List Token) → ArePayoffs players front (Some y.0) → list ≡ front ++ following → ⊥
    read_early front following h is =
        let f = ends_early (parse_first_payoffs players) (first_payoffs_reader players) list open_list.0 open_list.1 open_list.2.0 (list_again players (list ++ open_list.0 ∷ open_list.1) open_list.2.0 open_list.2.1) in
        absurd (ok_err (y.0, following) (f.0, []) (sym (list_again players front y.0 h following) ∙ ap (parse_first_payoffs players) (sym is) ∙ f.1))

-- ---- which kind it is
-- what a kind of payoffs is where one comes
as_payoffs : (kind : EfgKind) (rest : List Token) → PayoffComes rest → PayoffFault kind rest → kind ≡ OutcomeMismatch
as_payoffs kind rest c (inl h) = h.0
as_payoffs kind rest c (inr h) = absurd (h.1 c)

pub first_payoffs_kind : (players : ℕ) (list rest : List Token) (kind : EfgKind) → HasPayoffs players list → PayoffComes rest → GoesTo (parse_first_payoffs players (list ++ rest)) kind rest → kind ≡ OutcomeMismatch
first_payoffs_kind players list rest kind h c (inl e) =
    as_payoffs kind rest c (first_fault players (h.0 ++ rest) (kind, rest) (ap (λ (q : List Token). parse_first_payoffs players (q ++ rest)) (sym h.1) ∙ e))
first_payoffs_kind players list rest kind h c (inr y) = absurd (not_finished players list rest y.0 h.2 (sym (value_first_payoffs players (list ++ rest)) ∙ ap value y.1) y.2)

pub later_payoffs_kind : (payoffs : List ℚ) (list rest : List Token) (kind : EfgKind) → HasPayoffs (length payoffs) list → PayoffComes rest → GoesTo (parse_later_payoffs payoffs (list ++ rest)) kind rest → kind ≡ OutcomeMismatch
later_payoffs_kind payoffs list rest kind h c (inl e) =
    as_payoffs kind rest c (repeated_fault payoffs (h.0 ++ rest) (kind, rest) (ap (λ (q : List Token). parse_later_payoffs payoffs (q ++ rest)) (sym h.1) ∙ e))
later_payoffs_kind payoffs list rest kind h c (inr y) =
    let l = repeated_are_list payoffs (h.0 ++ rest) y.0 (ap (λ (q : List Token). parse_later_payoffs payoffs (q ++ rest)) (sym h.1) ∙ y.1) in
    let there : payoff_list_at (length payoffs) (list ++ rest) ≡ Some l.0 = ap (λ (q : List Token). payoff_list_at (length payoffs) (q ++ rest)) h.1 ∙ l.1 in
    absurd (not_finished (length payoffs) list rest l.0 h.2 there (subst (λ (q : List Token). length rest ≤ length q) (sym l.2) y.2))

-- the payoffs of a first use are wanted
pub lacks_payoffs : (players : ℕ) (t : Token) (r : List Token) (kind : EfgKind) → GoesTo (parse_first_payoffs players (t ∷ r)) kind (t ∷ r) → kind ≡ OutcomeMismatch
unfolding parse_first_payoffs
lacks_payoffs players Left r kind g = absurd (not_after inner inner_within kind Left r g)
  where
    inner : List Token → Parsed EfgKind (List ℚ)
    inner tokens = chain (parse_each parse_payoff 0 players tokens) (λ payoffs. chain (parse_payoffs_end payoffs.1) (λ rest. Ok (payoffs.0, rest.1)))

    inner_within : Within inner
    inner_within =
        bind_within (λ tokens. parse_each parse_payoff 0 players tokens) (λ payoffs tokens. chain (parse_payoffs_end tokens) (λ rest. Ok (payoffs, rest.1))) (reader_within (λ tokens. parse_each parse_payoff 0 players tokens) (each_reader parse_payoff payoff_reader 0 players))
        (λ payoffs. bind_within parse_payoffs_end (λ _ tokens. Ok (payoffs, tokens)) (reader_within parse_payoffs_end payoffs_end_reader) (λ _. pure_within payoffs))
lacks_payoffs players t r kind g = stop_kind (parse_first_payoffs players (t ∷ r)) kind OutcomeMismatch (t ∷ r) (t ∷ r) refl g

-- ---- where a list stops
-- the tokens before are an open list
pub record PayoffsStop (players : ℕ) (tokens rest : List Token) : Type 0 where
  pub list : List Token
  pub are_tokens : tokens ≡ list ++ rest
  pub has : HasPayoffs players list
  pub comes : PayoffComes rest

-- it begins with the brace
opened : (players : ℕ) (inner before rest : List Token) → Left ∷ inner ≡ before ++ rest → PayoffComes rest → IsOpen (λ tokens. (payoffs : List ℚ) × ArePayoffs players tokens (Some payoffs)) before → HasPayoffs players before
opened players inner [] rest e (inl n) o = let f : Left ∷ inner ≡ Number n.0 ∷ n.1.0 = e ∙ n.1.1 in absurd (true≢false (sym (ap has_number f)))
opened players inner [] rest e (inr b) o = let f : Left ∷ inner ≡ Right ∷ b.0 = e ∙ b.1 in absurd (true≢false (sym (ap closes f)))
opened players inner (t ∷ before) rest e c o =
    let h : t ≡ Left = sym (same_first Left t inner (before ++ rest) e) in
    (before, ap (λ (u : Token). u ∷ before) h, o)

-- what a list that is read as payoffs is
is_list : (players : ℕ) (list : List Token) (y : List ℚ × List Token) → y.1 ≡ [] → payoff_list_at players list ≡ Some y → (payoffs : List ℚ) × ArePayoffs players list (Some payoffs)
is_list players list y none e =
    let l = payoff_list_is players list y e in
    (y.0, subst (λ (q : List Token). ArePayoffs players q (Some y.0)) (sym (l.2 ∙ ap (λ (q : List Token). l.0 ++ q) none ∙ append-nil l.0)) l.1)

pub first_payoffs_stop : (players : ℕ) (tokens : List Token) (f : EfgKind × List Token) → parse_first_payoffs players tokens ≡ Err f → (f.0 ≡ Node) ⊎ ((f.0 ≡ OutcomeMismatch) × ((tokens ≡ f.1) ⊎ PayoffsStop players tokens f.1))
unfolding parse_first_payoffs
first_payoffs_stop players (Left ∷ inner) f e = by (first_fault players inner f e)
  where
    by : PayoffFault f.0 f.1 → (f.0 ≡ Node) ⊎ ((f.0 ≡ OutcomeMismatch) × ((Left ∷ inner ≡ f.1) ⊎ PayoffsStop players (Left ∷ inner) f.1))
    by (inr n) = inl n.0
    by (inl h) =
        let s = ((first_payoffs_reader players).at (Left ∷ inner)).sticks f.0 f.1 e in
        let all : List Token = s.before ++ s.next ∷ s.more in
        let read : payoff_list_at players all ≡ Some (s.value, []) = sym (value_first_payoffs players all) ∙ ap value (reads_alone (parse_first_payoffs players) all s.value s.goes_on) in
        inr (h.0, inr (record { list = s.before; are_tokens = s.is; has = opened players inner s.before f.1 s.is h.1 (s.next, s.more, is_list players all (s.value, []) refl read); comes = h.1 }))
first_payoffs_stop players tokens f e =
    let same = err_same {A = List ℚ × List Token} (OutcomeMismatch, tokens) f e in
    inr (sym (ap (λ (z : EfgKind × List Token). z.0) same), inl (ap (λ (z : EfgKind × List Token). z.1) same))

-- a list that goes on to repeat others
repeated_open : (payoffs : List ℚ) (inner before rest : List Token) (next : Token) (more : List Token) → Left ∷ inner ≡ before ++ rest → PayoffComes rest → ReadsAs (parse_repeated_payoffs payoffs) (before ++ next ∷ more) tt → IsOpen (λ tokens. (list : List ℚ) × ArePayoffs (length payoffs) tokens (Some list)) before
repeated_open payoffs inner [] rest next more e (inl n) r = let f : Left ∷ inner ≡ Number n.0 ∷ n.1.0 = e ∙ n.1.1 in absurd (true≢false (sym (ap has_number f)))
repeated_open payoffs inner [] rest next more e (inr b) r = let f : Left ∷ inner ≡ Right ∷ b.0 = e ∙ b.1 in absurd (true≢false (sym (ap closes f)))
repeated_open payoffs inner (t ∷ before) rest next more e c r =
    let h : t ≡ Left = sym (same_first Left t inner (before ++ rest) e) in
    let all : List Token = before ++ next ∷ more in
    let read : parse_repeated_payoffs payoffs (Left ∷ all) ≡ Ok (tt, []) = ap (λ (u : Token). parse_repeated_payoffs payoffs (u ∷ all)) (sym h) ∙ reads_alone (parse_repeated_payoffs payoffs) (t ∷ all) tt r in
    let l = repeated_are_list payoffs all (tt, []) read in
    (next, more, is_list (length payoffs) (t ∷ all) l.0 l.2 (ap (λ (u : Token). payoff_list_at (length payoffs) (u ∷ all)) h ∙ l.1))

pub later_payoffs_stop : (payoffs : List ℚ) (tokens : List Token) (f : EfgKind × List Token) → parse_later_payoffs payoffs tokens ≡ Err f → (f.0 ≡ Node) ⊎ ((f.0 ≡ OutcomeMismatch) × PayoffsStop (length payoffs) tokens f.1)
later_payoffs_stop payoffs (Left ∷ inner) f e = by (repeated_fault payoffs inner f e)
  where
    by : PayoffFault f.0 f.1 → (f.0 ≡ Node) ⊎ ((f.0 ≡ OutcomeMismatch) × PayoffsStop (length payoffs) (Left ∷ inner) f.1)
    by (inr n) = inl n.0
    by (inl h) =
        let s = ((repeated_payoffs_reader payoffs).at (Left ∷ inner)).sticks f.0 f.1 e in
        inr (h.0, record { list = s.before; are_tokens = s.is; has = opened (length payoffs) inner s.before f.1 s.is h.1 (repeated_open payoffs inner s.before f.1 s.next s.more s.is h.1 s.goes_on); comes = h.1 })
later_payoffs_stop payoffs tokens f e = absurd (ok_err (tt, tokens) f e)
