-- What a part reads it reads with more tokens after it, where it goes on to a stop before them: so after a file a token is trailing.
use Rattle.std.proofs.Common.{◌≡◌, ℕ, zero, suc, ◌≤◌, if◌then◌else◌, nat_eq, slice_get, List, [], ◌∷◌, ◌++◌, length, length-append, Bool, true, false, true≢false, Option, Some, None, inl, inr, refl, sym, ap, ◌∙◌, append_assoc, arith}
use Rattle.std.specs.Prelude.{Ok, Err, codes}
use Rattle.std.proofs.lemmas.Bool.{cases_Bool}
use Rattle.std.specs.Str.{bytes_eq}
use Rattle.rational.specs.Rational.{ℚ}
use Rattle.game_core.specs.declared.tree.Action.{Action}
use Rattle.game_core.specs.declared.tree.Kind.TheVariants.{End}
use Rattle.game_core.specs.declared.token.Token.{Token}
use Rattle.game_core.specs.declared.token.Token.TheVariants.{Left, Text, Word}
use Rattle.file_parts.proofs.TokenReaderLemmas.{count_reader}
use Rattle.file_parts.specs.Reading.{whole_at, optional_text_at, opens, count_at}
use Rattle.file_parts.specs.Parsing.{Parsed, ◌>>=◌, wanted}
use Rattle.file_parts.proofs.ReaderLemmas.{chain, IsReader, bind_ok, ok_same, err_same, ok_err}
use Rattle.written_trees.specs.Written.{SetUse, OutcomeUse}
use Rattle.written_trees.specs.Building.{PartialTree, PartialSet, PartialOutcome, Branching, root_alone, set_place, outcome_place, UsedSet}
use Rattle.tree_grammar.specs.TreePieces.{begins_node}
use Rattle.tree_grammar.specs.TreeParsing.{is_whole, has_text, parse_first_list, parse_repeated_list, parse_later_list, bare_use, parse_use, parse_set, parse_player, parse_set_choice, parse_own_choice, parse_after, parse_choice, parse_payoffs_end, parse_first_payoffs, parse_same_payoffs, parse_repeated_payoffs, parse_later_payoffs, bare_outcome_use, parse_outcome_use, parse_named, parse_outcome, parse_next, parse_front}
use Rattle.tree_faults.specs.TreeFaults.{IsFile}
use Rattle.tree_grammar.specs.declared.kinds.EfgKind.{EfgKind}
use Rattle.tree_grammar.specs.declared.kinds.EfgKind.TheVariants.{Node, Trailing}
use Rattle.tree_faults.proofs.PartReaderLemmas.{own_list_reader, repeated_list_reader, first_payoffs_reader, same_payoffs_reader, payoffs_end_reader, repeated_payoffs_reader}
use Rattle.tree_faults.proofs.ChanceReaderLemmas.{chance_list_reader}
use Rattle.tree_faults.proofs.NodeReaderLemmas.{first_list_reader, text_first}
use Rattle.tree_faults.proofs.MarkedReaderLemmas.{label_reader, player_token}
use Rattle.tree_grammar.proofs.FrontLaws.{front_read_is}
use Rattle.tree_grammar.proofs.FileLaws.{tree_read}
use Rattle.tree_faults.proofs.TokenEndLemmas.{Within, reader_within, bind_within, pure_within, use_within, after_number_within, outcome_use_within, after_label_within, set_choice_within, outcome_within, nodes_within}
use Rattle.tree_faults.proofs.StopLemmas.{GoesTo, goes_before, not_after}
use Rattle.tree_faults.proofs.RepeatedListLemmas.{repeating, repeating_within}
use Rattle.tree_faults.proofs.NodeRunLemmas.{goes_by}
use Rattle.tree_faults.proofs.RunLemmas.{tree_err}
use Rattle.tree_faults.proofs.LocatedReadingLemmas.{located_at, located_nodes, located_end, located_all_nodes, located_tree, located_ok, located_is, all_located}

-- what is read of some tokens is read of them with more after, where reading goes on to a stop before these
record ReadsOn {X : Type 0} (p : List Token → Parsed EfgKind X) : Type 0 where
  pub on : (a : List Token) (x : X × List Token) (kind : EfgKind) (t : Token) (r : List Token) → p a ≡ Ok x → GoesTo (p (a ++ t ∷ r)) kind (t ∷ r) → p (a ++ t ∷ r) ≡ Ok (x.0, x.1 ++ t ∷ r)

-- ---- parts
reader_on : {X : Type 0} (p : List Token → Parsed EfgKind X) → IsReader p → ReadsOn p
reader_on p P = record { on = λ a x kind t r e g. let f = (P.at a).reads x.0 x.1 e in ap (λ (q : List Token). p (q ++ t ∷ r)) f.1 ∙ ap p (append_assoc f.0 x.1 (t ∷ r)) ∙ f.2 (x.1 ++ t ∷ r) }

pure_on : {X : Type 0} (x : X) → ReadsOn (λ tokens. Ok (x, tokens))
pure_on {X} x = record { on = λ a y kind t r e g. ap (λ (z : X × List Token). Ok (z.0, z.1 ++ t ∷ r)) (ok_same (x, a) y e) }

bind_on : {X Y : Type 0} (p : List Token → Parsed EfgKind X) (q : X → List Token → Parsed EfgKind Y) → ReadsOn p → ((x : X) → ReadsOn (q x)) → ((x : X) → Within (q x)) → ReadsOn (λ tokens. chain (p tokens) (λ z. q z.0 z.1))
bind_on {X} p q P Q W = record {
  on = λ a y kind t r e g.
      let m = bind_ok (p a) (λ z. q z.0 z.1) y e in
      let one = P.on a m.0 kind t r m.1 (goes_before (p (a ++ t ∷ r)) q kind (t ∷ r) W g) in
      let same = ap (λ (o : Parsed EfgKind X). chain o (λ z. q z.0 z.1)) one in
      same ∙ (Q m.0.0).on m.0.1 y kind t r m.2 (goes_by (chain (p (a ++ t ∷ r)) (λ z. q z.0 z.1)) (q m.0.0 (m.0.1 ++ t ∷ r)) kind (t ∷ r) same g);
}

-- a name that may come
named_on : {X : Type 0} (f : Option (List ℕ) → List Token → Parsed EfgKind X) → ((name : Option (List ℕ)) → ReadsOn (f name)) → ((name : Option (List ℕ)) → Within (f name)) → ReadsOn (λ tokens. f (optional_text_at tokens).0 (optional_text_at tokens).1)
named_on {X} f F W = record { on = by }
  where
    by : (a : List Token) (x : X × List Token) (kind : EfgKind) (t : Token) (r : List Token) → f (optional_text_at a).0 (optional_text_at a).1 ≡ Ok x → GoesTo (f (optional_text_at (a ++ t ∷ r)).0 (optional_text_at (a ++ t ∷ r)).1) kind (t ∷ r) → f (optional_text_at (a ++ t ∷ r)).0 (optional_text_at (a ++ t ∷ r)).1 ≡ Ok (x.0, x.1 ++ t ∷ r)
    by [] x kind (Text text) r e g = absurd (not_after (f (Some text)) (W (Some text)) kind (Text text) r g)
    by [] x kind t r e g = (F None).on [] x kind t r e g
    by (Text text ∷ a) x kind t r e g = (F (Some text)).on a x kind t r e g
    by (u ∷ a) x kind t r e g = (F None).on (u ∷ a) x kind t r e g

-- a list that may come
optional_on : (p : List Token → Parsed EfgKind (Unit {0})) → ReadsOn p → ((kind : EfgKind) (r : List Token) → GoesTo (p (Left ∷ r)) kind (Left ∷ r) → ⊥) → ReadsOn (λ tokens. if opens tokens then p tokens else Ok (tt, tokens))
optional_on p P B = record { on = by }
  where
    by : (a : List Token) (x : Unit {0} × List Token) (kind : EfgKind) (t : Token) (r : List Token) → (if opens a then p a else Ok (tt, a)) ≡ Ok x → GoesTo (if opens (a ++ t ∷ r) then p (a ++ t ∷ r) else Ok (tt, a ++ t ∷ r)) kind (t ∷ r) → (if opens (a ++ t ∷ r) then p (a ++ t ∷ r) else Ok (tt, a ++ t ∷ r)) ≡ Ok (x.0, x.1 ++ t ∷ r)
    by [] x kind Left r e g = absurd (B kind r g)
    by [] x kind t r e g = (pure_on tt).on [] x kind t r e (inr ((tt, t ∷ r), refl, omega arith))
    by (Left ∷ a) x kind t r e g = P.on (Left ∷ a) x kind t r e g
    by (u ∷ a) x kind t r e g = (pure_on tt).on (u ∷ a) x kind t r e g

-- after the brace of a list nothing stops before it
no_list_brace : (owner : Option ℕ) (own : List Action) (kind : EfgKind) (r : List Token) → GoesTo (parse_repeated_list owner own (Left ∷ r)) kind (Left ∷ r) → ⊥
unfolding parse_repeated_list
no_list_brace owner own kind r g = not_after (repeating owner own) (repeating_within owner own) kind Left r g

no_payoffs_brace : (payoffs : List ℚ) (kind : EfgKind) (r : List Token) → GoesTo (parse_repeated_payoffs payoffs (Left ∷ r)) kind (Left ∷ r) → ⊥
unfolding parse_repeated_payoffs
no_payoffs_brace payoffs kind r g =
    not_after (λ tokens. chain (parse_same_payoffs 0 payoffs tokens) (λ following. parse_payoffs_end following.1))
    (bind_within (parse_same_payoffs 0 payoffs) (λ _ tokens. parse_payoffs_end tokens) (reader_within (parse_same_payoffs 0 payoffs) (same_payoffs_reader 0 payoffs)) (λ _. reader_within parse_payoffs_end payoffs_end_reader)) kind Left r g

-- ---- sets
use_on : (k : ℕ) (sets : List PartialSet) (used : SetUse) (found : Option PartialSet) → ReadsOn (parse_use k sets used found)
use_on k sets used None = bind_on (parse_first_list used.owner used.label) _ (reader_on (parse_first_list used.owner used.label) (first_list_reader used.owner used.label chance_list_reader (λ _ _. own_list_reader))) (λ actions. pure_on _) (λ actions. pure_within _)
use_on k sets used (Some set) = bind_on (parse_later_list set.owner set.actions) _ (optional_on (parse_repeated_list set.owner set.actions) (reader_on (parse_repeated_list set.owner set.actions) (repeated_list_reader set.owner set.actions)) (no_list_brace set.owner set.actions)) (λ _. pure_on _) (λ _. pure_within _)

set_on : (k : ℕ) (sets : List PartialSet) (owner : Option ℕ) → ReadsOn (parse_set k sets owner)
unfolding parse_set
set_on k sets owner =
    bind_on (λ tokens. wanted Node tokens (count_at tokens)) (λ label tokens. parse_use k sets (bare_use owner label (optional_text_at tokens).0) (slice_get sets (set_place sets (owner, label))) (optional_text_at tokens).1 >>= λ more. Ok ((more.0, set_place sets (owner, label)), more.1))
    (reader_on _ (count_reader Node))
    (λ label. bind_on (λ tokens. parse_use k sets (bare_use owner label (optional_text_at tokens).0) (slice_get sets (set_place sets (owner, label))) (optional_text_at tokens).1) (λ more tokens. Ok ((more, set_place sets (owner, label)), tokens))
    (named_on (λ name. parse_use k sets (bare_use owner label name) (slice_get sets (set_place sets (owner, label)))) (λ name. use_on k sets (bare_use owner label name) (slice_get sets (set_place sets (owner, label)))) (λ name. use_within k sets (bare_use owner label name) (slice_get sets (set_place sets (owner, label))))) (λ more. pure_on _) (λ more. pure_within _))
    (after_number_within k sets owner)

-- ---- outcomes
outcome_use_on : (players : ℕ) (outcomes : List PartialOutcome) (used : OutcomeUse) (found : Option PartialOutcome) → ReadsOn (parse_outcome_use players outcomes used found)
outcome_use_on players outcomes used None = bind_on (parse_first_payoffs players) _ (reader_on (parse_first_payoffs players) (first_payoffs_reader players)) (λ payoffs. pure_on _) (λ payoffs. pure_within _)
outcome_use_on players outcomes used (Some outcome) = bind_on (parse_later_payoffs outcome.payoffs) _ (optional_on (parse_repeated_payoffs outcome.payoffs) (reader_on (parse_repeated_payoffs outcome.payoffs) (repeated_payoffs_reader outcome.payoffs)) (no_payoffs_brace outcome.payoffs)) (λ _. pure_on _) (λ _. pure_within _)

named_outcome_on : (players label : ℕ) (outcomes : List PartialOutcome) → ReadsOn (parse_named players label outcomes)
unfolding parse_named
named_outcome_on players label outcomes =
    bind_on (λ tokens. parse_outcome_use players outcomes (bare_outcome_use label (optional_text_at tokens).0) (slice_get outcomes (outcome_place outcomes label)) (optional_text_at tokens).1) (λ more tokens. Ok ((more, Some (outcome_place outcomes label)), tokens))
    (named_on (λ name. parse_outcome_use players outcomes (bare_outcome_use label name) (slice_get outcomes (outcome_place outcomes label))) (λ name. outcome_use_on players outcomes (bare_outcome_use label name) (slice_get outcomes (outcome_place outcomes label))) (λ name. outcome_use_within players outcomes (bare_outcome_use label name) (slice_get outcomes (outcome_place outcomes label)))) (λ more. pure_on _) (λ more. pure_within _)

after_label_on : (players : ℕ) (outcomes : List PartialOutcome) (label : ℕ) → ReadsOn (λ tokens. if nat_eq label 0 then Ok ((outcomes, None), tokens) else parse_named players label outcomes tokens)
after_label_on players outcomes label = by (nat_eq label 0)
  where
    by : (zero : Bool) → ReadsOn (λ tokens. if zero then Ok ((outcomes, None), tokens) else parse_named players label outcomes tokens)
    by true = pure_on (outcomes, None)
    by false = named_outcome_on players label outcomes

outcome_on : (players : ℕ) (outcomes : List PartialOutcome) → ReadsOn (parse_outcome players outcomes)
unfolding parse_outcome
outcome_on players outcomes = bind_on (λ tokens. wanted Node tokens (whole_at tokens)) (λ label tokens. if nat_eq label 0 then Ok ((outcomes, None), tokens) else parse_named players label outcomes tokens) (reader_on _ label_reader) (after_label_on players outcomes) (after_label_within players outcomes)

-- ---- nodes
set_choice_on : (k : ℕ) (sets : List PartialSet) (owner : Option ℕ) → ReadsOn (parse_set_choice k sets owner)
unfolding parse_set_choice
set_choice_on k sets owner = bind_on (parse_set k sets owner) _ (set_on k sets owner) (λ used. pure_on _) (λ used. pure_within _)

player_on : (players : ℕ) → ReadsOn (parse_player players)
unfolding parse_player whole_at
player_on players = record { on = by }
  where
    by : (a : List Token) (x : ℕ × List Token) (kind : EfgKind) (t : Token) (r : List Token) → parse_player players a ≡ Ok x → GoesTo (parse_player players (a ++ t ∷ r)) kind (t ∷ r) → parse_player players (a ++ t ∷ r) ≡ Ok (x.0, x.1 ++ t ∷ r)
    by [] x kind t r e g = absurd (ok_err x _ (sym e))
    by (u ∷ a) x kind t r e g = elim (player_token players u) [
      | inl h ↦ h.1 (a ++ t ∷ r) ∙ ap (λ (z : ℕ × List Token). Ok (z.0, z.1 ++ t ∷ r)) (ok_same (h.0, a) x (sym (h.1 a) ∙ e))
      | inr h ↦ absurd (ok_err x (h.0, u ∷ a) (sym e ∙ h.1 a))
    ]

own_choice_on : (players k : ℕ) (sets : List PartialSet) → ReadsOn (parse_own_choice players k sets)
unfolding parse_own_choice
own_choice_on players k sets = bind_on (parse_player players) (λ player tokens. parse_set_choice k sets (Some player) tokens) (player_on players) (λ player. set_choice_on k sets (Some player)) (λ player. set_choice_within k sets (Some player))

-- what follows the word and the name of a node, which may begin at another place
after_on : (players k : ℕ) (sets : List PartialSet) (word : List ℕ) (start other a : List Token) (x : UsedSet × List Token) (kind : EfgKind) (t : Token) (r : List Token) → parse_after players k sets word start a ≡ Ok x → GoesTo (parse_after players k sets word other (a ++ t ∷ r)) kind (t ∷ r)
    → parse_after players k sets word other (a ++ t ∷ r) ≡ Ok (x.0, x.1 ++ t ∷ r)
after_on players k sets word start other a x kind t r = by (bytes_eq word (codes "c")) (bytes_eq word (codes "p")) (bytes_eq word (codes "t"))
  where
    reading : (c p t : Bool) → List Token → List Token → Parsed EfgKind UsedSet
    reading c p t from tokens = if c then parse_set_choice k sets None tokens else if p then parse_own_choice players k sets tokens else if t then Ok ((sets, (End, None)), tokens) else Err (Node, from)

    by : (c p w : Bool) → reading c p w start a ≡ Ok x → GoesTo (reading c p w other (a ++ t ∷ r)) kind (t ∷ r) → reading c p w other (a ++ t ∷ r) ≡ Ok (x.0, x.1 ++ t ∷ r)
    by true p w e g = (set_choice_on k sets None).on a x kind t r e g
    by false true w e g = (own_choice_on players k sets).on a x kind t r e g
    by false false true e g = (pure_on (sets, (End, None))).on a x kind t r e g
    by false false false e g = absurd (ok_err x (Node, start) (sym e))

choice_on : (players k : ℕ) (sets : List PartialSet) → ReadsOn (parse_choice players k sets)
unfolding parse_choice
choice_on players k sets = record { on = by }
  where
    by : (a : List Token) (x : UsedSet × List Token) (kind : EfgKind) (t : Token) (r : List Token) → parse_choice players k sets a ≡ Ok x → GoesTo (parse_choice players k sets (a ++ t ∷ r)) kind (t ∷ r) → parse_choice players k sets (a ++ t ∷ r) ≡ Ok (x.0, x.1 ++ t ∷ r)
    by (Word word ∷ Text name ∷ a) x kind t r e g = after_on players k sets word (Word word ∷ Text name ∷ a) (Word word ∷ Text name ∷ (a ++ t ∷ r)) a x kind t r e g
    by a x kind t r e g = absurd (ok_err x _ (sym e))

next_on : (players : ℕ) (partial : PartialTree) (b : Branching) (others : List Branching) → ReadsOn (parse_next players partial b others)
unfolding parse_next
next_on players partial b others =
    bind_on (parse_choice players (length partial.nodes) partial.sets) _ (choice_on players (length partial.nodes) partial.sets) (λ choice. bind_on (parse_outcome players partial.outcomes) _ (outcome_on players partial.outcomes) (λ outcome. pure_on _) (λ outcome. pure_within _))
    (λ choice. bind_within (parse_outcome players partial.outcomes) _ (outcome_within players partial.outcomes) (λ outcome. pure_within _))

-- the word of a node comes as it came
begins_on : (a : List Token) (t : Token) (r : List Token) → begins_node a ≡ true → begins_node (a ++ t ∷ r) ≡ true
begins_on (Word word ∷ a) t r n = n
begins_on a t r n = absurd (true≢false (sym n))

at_on : (players : ℕ) (partial : PartialTree) (branchings : List Branching) → ReadsOn (located_at players partial branchings)
at_on players partial branchings = record {
  on = λ a x kind t r e g.
      let s = located_ok players partial branchings a x e in
      let is = located_is players partial branchings (a ++ t ∷ r) (record { first = s.0.first; others = s.0.others; are = s.0.are; begins = begins_on a t r s.0.begins; room = s.0.room }) in
      is ∙ (next_on players partial s.0.first s.0.others).on a x kind t r s.1 (goes_by (located_at players partial branchings (a ++ t ∷ r)) (parse_next players partial s.0.first s.0.others (a ++ t ∷ r)) kind (t ∷ r) is g);
}

nodes_on : (most other players : ℕ) (partial : PartialTree) (a : List Token) (x : PartialTree × List Token) (kind : EfgKind) (t : Token) (r : List Token) → most ≤ other → located_nodes most players partial a ≡ Ok x → GoesTo (located_nodes other players partial (a ++ t ∷ r)) kind (t ∷ r)
    → located_nodes other players partial (a ++ t ∷ r) ≡ Ok (x.0, x.1 ++ t ∷ r)
nodes_on zero other players partial a x kind t r le e g = absurd (ok_err x (Node, a) (sym e))
nodes_on (suc most) zero players partial a x kind t r le e g = absurd (omega arith)
nodes_on (suc most) (suc other) players partial a x kind t r le e g = elim (cases_Bool (is_whole partial)) [
  | inl w ↦ let f : ◌≡◌ {A = Parsed EfgKind PartialTree} (Ok (partial, a)) (Ok x) = rw w at e in rw w (ap (λ (z : PartialTree × List Token). Ok (z.0, z.1 ++ t ∷ r)) (ok_same (partial, a) x f))
  | inr w ↦
      let f : chain (located_at players partial partial.branchings a) (λ z. located_nodes most players z.0 z.1) ≡ Ok x = rw w at e in
      let h : GoesTo (chain (located_at players partial partial.branchings (a ++ t ∷ r)) (λ z. located_nodes other players z.0 z.1)) kind (t ∷ r) = rw w at g in
      let m = bind_ok (located_at players partial partial.branchings a) (λ z. located_nodes most players z.0 z.1) x f in
      let one = (at_on players partial partial.branchings).on a m.0 kind t r m.1 (goes_before (located_at players partial partial.branchings (a ++ t ∷ r)) (λ z tokens. located_nodes other players z tokens) kind (t ∷ r) (nodes_within other players) h) in
      let same = ap (λ (o : Parsed EfgKind PartialTree). chain o (λ z. located_nodes other players z.0 z.1)) one in
      let more = nodes_on most other players m.0.0 m.0.1 x kind t r (omega arith) m.2 (goes_by (chain (located_at players partial partial.branchings (a ++ t ∷ r)) (λ z. located_nodes other players z.0 z.1)) (located_nodes other players m.0.0 (m.0.1 ++ t ∷ r)) kind (t ∷ r) same h) in
      rw w (same ∙ more)
]

-- ---- after a file
-- all nodes are read
all_on : (players : ℕ) (a : List Token) (partial : PartialTree) (kind : EfgKind) (t : Token) (r : List Token) → located_all_nodes players a ≡ Ok partial → located_all_nodes players (a ++ t ∷ r) ≡ Err (kind, t ∷ r) → kind ≡ Trailing
unfolding located_all_nodes
all_on players a partial kind t r e f =
    let steps = suc (length (a ++ t ∷ r)) in
    let m = bind_ok (located_nodes (suc (length a)) players root_alone a) located_end partial e in
    let nodes = located_nodes steps players root_alone (a ++ t ∷ r) in
    let g = stops_before nodes f in
    let one = nodes_on (suc (length a)) steps players root_alone a m.0 kind t r (omega (arith, length-append a (t ∷ r))) m.1 g in
    let same : located_end (m.0.0, m.0.1 ++ t ∷ r) ≡ Err (kind, t ∷ r) = ap (λ (o : Parsed EfgKind PartialTree). chain o located_end) (sym one) ∙ f in
    trailing m.0.0 m.0.1 same
  where
    stops_before : (o : Parsed EfgKind PartialTree) → chain o located_end ≡ Err (kind, t ∷ r) → GoesTo o kind (t ∷ r)
    stops_before (Err f) e = inl (ap (λ (z : EfgKind × List Token). Err z) (err_same {A = PartialTree} f (kind, t ∷ r) e))
    stops_before (Ok (one, [])) e = absurd (ok_err one (kind, t ∷ r) e)
    stops_before (Ok (one, u ∷ s)) e =
        let same : u ∷ s ≡ t ∷ r = ap (λ (z : EfgKind × List Token). z.1) (err_same {A = PartialTree} (Trailing, u ∷ s) (kind, t ∷ r) e) in
        let n : length (u ∷ s) ≡ length (t ∷ r) = ap length same in
        inr ((one, u ∷ s), refl, omega (arith, n))

    trailing : (one : PartialTree) (left : List Token) → located_end (one, left ++ t ∷ r) ≡ Err (kind, t ∷ r) → kind ≡ Trailing
    trailing one [] e = sym (ap (λ (z : EfgKind × List Token). z.0) (err_same {A = PartialTree} (Trailing, t ∷ r) (kind, t ∷ r) e))
    trailing one (u ∷ left) e = sym (ap (λ (z : EfgKind × List Token). z.0) (err_same {A = PartialTree} (Trailing, (u ∷ left) ++ t ∷ r) (kind, t ∷ r) e))

-- without tokens there are no nodes
some_body : (players : ℕ) (body : List Token) (partial : PartialTree) → located_all_nodes players body ≡ Ok partial → (u : Token) × (more : List Token) × (body ≡ u ∷ more)
unfolding located_all_nodes
some_body players [] partial e = absurd (ok_err partial (Node, []) (sym e))
some_body players (u ∷ more) partial e = (u, more, refl)

-- a token after a file is trailing
pub file_trails : (before : List Token) (t : Token) (r : List Token) (kind : EfgKind) → IsFile before → located_tree (before ++ t ∷ r) ≡ Err (kind, t ∷ r) → kind ≡ Trailing
unfolding located_tree
file_trails before t r kind file e =
    let f = tree_read before file.0 file.1 in
    let players = length f.x.0.1 in
    let all = all_located players f.x.1 f.partial f.are_nodes in
    let s = some_body players f.x.1 f.partial all in
    let h = front_read_is before f.x f.is_front in
    let text = ap (λ (q : List Token). has_text (q ++ t ∷ r)) s.2 ∙ text_first s.0 (s.1 ++ t ∷ r) s.1 ∙ ap has_text (sym s.2) in
    let tokens : before ++ t ∷ r ≡ h.front ++ (f.x.1 ++ t ∷ r) = ap (λ (q : List Token). q ++ t ∷ r) h.is ∙ append_assoc h.front f.x.1 (t ∷ r) in
    let front : parse_front (before ++ t ∷ r) ≡ Ok (f.x.0, f.x.1 ++ t ∷ r) = ap parse_front tokens ∙ h.again (f.x.1 ++ t ∷ r) text in
    all_on players f.x.1 f.partial kind t r all (tree_err (before ++ t ∷ r) (f.x.0, f.x.1 ++ t ∷ r) kind t r front e)
