-- What is read as nodes are nodes, nodes are read, and a limit is met where a node passes it.
use Rattle.std.proofs.Common.{◌≡◌, ℕ, zero, suc, ◌+◌, ◌-◌, ◌<◌, if◌then◌else◌, nat_eq, true, false, true≢false, List, [], ◌∷◌, ◌++◌, length, Some, None, inl, inr, refl, sym, ap, ◌∙◌, subst, append_assoc, length-append, arith}
use Rattle.std.proofs.lemmas.Bool.{cases_Bool}
use Rattle.std.proofs.lemmas.List.Elements.{All-nil}
use Rattle.std.proofs.lemmas.Option.{same_Some}
use Rattle.std.specs.Prelude.{Result, Ok, Err}
use Rattle.lists.proofs.OptionLemmas.{bind_some}
use Rattle.game_core.specs.declared.too_large.What.{What}
use Rattle.game_core.specs.declared.token.Token.{Token}
use Rattle.game_core.specs.declared.token.Token.TheVariants.{Word}
use Rattle.file_parts.specs.Reading.{ends}
use Rattle.file_parts.proofs.ReaderLemmas.{chain, bind_ok, bind_err, ok_same, ok_err}
use Rattle.file_parts.proofs.ValueLemmas.{value, value_some}
use Rattle.written_trees.specs.Written.{WrittenNode}
use Rattle.written_trees.specs.Building.{PartialTree, PartialSet, PartialOutcome, Branching, root_alone, open_branches, add_node, add_nodes, passed}
use Rattle.written_trees.specs.Described.{IsActionList}
use Rattle.tree_grammar.specs.TreeFile.{IsNode, AreNodes, IsNodeWord}
use Rattle.tree_grammar.specs.TreePieces.{begins_node}
use Rattle.tree_grammar.specs.TreeParsing.{NodeStop, ParsedNodes, is_whole, parse_next, parse_at, parse_nodes, parse_all_nodes}
use Rattle.tree_grammar.specs.declared.kinds.EfgKind.TheVariants.{Node, Trailing}
use Rattle.tree_grammar.proofs.PartValueLemmas.{node_at, next_at}
use Rattle.tree_grammar.proofs.SetLaws.{IsBare}
use Rattle.tree_grammar.proofs.NodeLaws.{node_is, node_again, node_written, node_begins, node_word_passes}
use Rattle.tree_grammar.proofs.NodesLaws.{BeginsWithNext, BeginsWithNodes, none_more, one_before, place_free, parts_added, nodes_bare, nodes_take, no_branching, limit_free}
use Rattle.tree_grammar.proofs.NodeStopLemmas.{at_is, at_ok, at_met, unlimited_ok}
use Rattle.tree_grammar.proofs.NodeValueLemmas.{Keeps, value_next, node_keeps}

-- nothing is partial
pub nothing_keeps : (players : ℕ) → Keeps players root_alone
nothing_keeps players = record { listed = All-nil (λ (set : PartialSet). IsActionList set.owner set.actions); paid = All-nil (λ (outcome : PartialOutcome). length outcome.payoffs ≡ players) }

-- ---- one more node
-- what is read as a further node is one
pub next_is : (players : ℕ) (partial : PartialTree) (tokens : List Token) (x : PartialTree × List Token) → Keeps players partial → parse_at players partial partial.branchings tokens ≡ Ok x → BeginsWithNext players partial tokens x
unfolding next_at
next_is players partial tokens x k e =
    let s = at_ok players partial partial.branchings tokens x e in
    let read : next_at players partial tokens ≡ Some x = sym (value_next players partial s.0.first s.0.others tokens s.0.are k) ∙ ap value s.1 in
    let a = bind_some (node_at players tokens) _ x read in
    let b = bind_some (add_node partial a.0.0) _ x a.2 in
    let n = node_is players tokens a.0 a.1 in
    let here : BeginsWithNext players partial tokens (b.0, a.0.1) = record { limit = s.0.room; node = a.0.0; part = n.0; is_node = n.1; added = b.1; is = n.2 } in
    subst (BeginsWithNext players partial tokens) (same_Some _ _ b.2) here

-- so the tree keeps to its lists
pub next_keeps : (players : ℕ) (partial : PartialTree) (tokens : List Token) (x : PartialTree × List Token) → Keeps players partial → BeginsWithNext players partial tokens x → Keeps players x.0
next_keeps players partial tokens x k n = node_keeps players partial x.0 n.node (node_written players n.part n.node n.is_node) k n.added

-- and tokens are taken
pub next_takes : (players : ℕ) (partial : PartialTree) (tokens : List Token) (x : PartialTree × List Token) → BeginsWithNext players partial tokens x → length x.1 < length tokens
next_takes players partial tokens x n =
    let word = node_begins players n.part n.node n.is_node in
    let part : length n.part ≡ suc (length word.tail) = ap length word.is in
    let all : length tokens ≡ length n.part + length x.1 = ap length n.is ∙ length-append n.part x.1 in
    omega arith

-- a further node is read
pub next_again : (players : ℕ) (partial next : PartialTree) (part rest : List Token) (node : WrittenNode) → Keeps players partial → IsNode players part node → IsBare rest → passed partial ≡ None → add_node partial node ≡ Some next
    → parse_at players partial partial.branchings (part ++ rest) ≡ Ok (next, rest)
unfolding next_at
next_again players partial next part rest node k h bare room added = by partial.branchings refl (place_free partial next node partial.branchings added)
  where
    begins : begins_node (part ++ rest) ≡ true
    begins = let word = node_begins players part node h in rw word.is (node_word_passes word.word word.is_word)

    read : next_at players partial (part ++ rest) ≡ Some (next, rest)
    read = rw (node_again players part rest node h bare, added) refl

    by : (branchings : List Branching) → partial.branchings ≡ branchings → nat_eq (length branchings) 0 ≡ false → parse_at players partial branchings (part ++ rest) ≡ Ok (next, rest)
    by [] free some = absurd (true≢false some)
    by (b ∷ others) free some =
        let o = value_some (parse_next players partial b others (part ++ rest)) (next, rest) (value_next players partial b others (part ++ rest) free k ∙ read) in
        at_is players partial (b ∷ others) (part ++ rest) (record { first = b; others = others; are = refl; begins = begins; room = room }) ∙ unlimited_ok (parse_next players partial b others (part ++ rest)) (next, rest) o

-- ---- nodes
-- what is read as nodes are nodes, and no branch is left open
pub nodes_are : (most players : ℕ) (partial : PartialTree) (tokens : List Token) (x : PartialTree × List Token) → Keeps players partial → parse_nodes most players partial tokens ≡ Ok x → BeginsWithNodes players partial tokens x × (is_whole x.0 ≡ true)
nodes_are zero players partial tokens x k e = absurd (ok_err x (inl (Node, tokens)) (sym e))
nodes_are (suc most) players partial tokens x k e = elim (cases_Bool (is_whole partial)) [
  | inl w ↦
      let o : ◌≡◌ {A = ParsedNodes PartialTree} (Ok (partial, tokens)) (Ok x) = rw w at e in
      subst (λ (y : PartialTree × List Token). BeginsWithNodes players partial tokens y × (is_whole y.0 ≡ true)) (ok_same (partial, tokens) x o) (none_more players partial tokens, w)
  | inr w ↦
      let o : chain (parse_at players partial partial.branchings tokens) (λ y. parse_nodes most players y.0 y.1) ≡ Ok x = rw w at e in
      let a = bind_ok (parse_at players partial partial.branchings tokens) (λ y. parse_nodes most players y.0 y.1) x o in
      let n = next_is players partial tokens a.0 k a.1 in
      let more = nodes_are most players a.0.0 a.0.1 x (next_keeps players partial tokens a.0 k n) a.2 in
      (one_before players partial tokens a.0 x n more.0, more.1)
]

-- nodes come first, and then one begins that passes a limit
pub record BeginsBeyond (players : ℕ) (partial : PartialTree) (tokens : List Token) (what : What) : Type 0 where
  pub x : PartialTree × List Token
  pub nodes : BeginsWithNodes players partial tokens x
  pub begins : begins_node x.1 ≡ true
  pub limit : passed x.0 ≡ Some what

-- a limit that is met is passed by a node
nodes_met : (most players : ℕ) (partial : PartialTree) (tokens : List Token) (what : What) → Keeps players partial → parse_nodes most players partial tokens ≡ Err (inr what) → BeginsBeyond players partial tokens what
nodes_met zero players partial tokens what k e = cc
nodes_met (suc most) players partial tokens what k e = elim (cases_Bool (is_whole partial)) [
  | inl w ↦ let o : ◌≡◌ {A = ParsedNodes PartialTree} (Ok (partial, tokens)) (Err (inr what)) = rw w at e in absurd (ok_err (partial, tokens) (inr what) o)
  | inr w ↦
      let o : chain (parse_at players partial partial.branchings tokens) (λ y. parse_nodes most players y.0 y.1) ≡ Err (inr what) = rw w at e in
      elim (bind_err (parse_at players partial partial.branchings tokens) (λ y. parse_nodes most players y.0 y.1) (inr what) o) [
        | inl m ↦
            let here = at_met players partial partial.branchings tokens what m in
            record { x = (partial, tokens); nodes = none_more players partial tokens; begins = here.0; limit = here.1 }
        | inr a ↦
            let n = next_is players partial tokens a.0 k a.1 in
            let more = nodes_met most players a.0.0 a.0.1 what (next_keeps players partial tokens a.0 k n) a.2 in
            record { x = more.x; nodes = one_before players partial tokens a.0 more.x n more.nodes; begins = more.begins; limit = more.limit }
      ]
]

-- a loop that goes on after each node that is read
abbrev pub GoesOn : {E : Type 0} → ℕ → (ℕ → PartialTree → List Token → Result (PartialTree × List Token) E) → Type 0
GoesOn players loop = (most : ℕ) (partial : PartialTree) (tokens : List Token) (x : PartialTree × List Token) → is_whole partial ≡ false → parse_at players partial partial.branchings tokens ≡ Ok x → loop (suc most) partial tokens ≡ loop most x.0 x.1

-- nodes are read by it, and what follows them is read next
nodes_pass : {E : Type 0} (loop : ℕ → PartialTree → List Token → Result (PartialTree × List Token) E) (most left players : ℕ) (partial more : PartialTree) (nodes rest : List Token) (written : List WrittenNode) → GoesOn players loop → Keeps players partial → AreNodes players nodes written → IsBare rest → add_nodes partial written ≡ Some more
    → most ≡ length written + left → loop most partial (nodes ++ rest) ≡ loop left more rest
nodes_pass loop most left players partial more nodes rest [] goes k h bare added n =
    let steps : most ≡ left = omega arith in
    rw (h, steps, same_Some _ _ added) refl
nodes_pass loop zero left players partial more nodes rest (one ∷ written) goes k h bare added n = absurd (omega arith)
nodes_pass loop (suc most) left players partial more nodes rest (one ∷ written) goes k h bare added n =
    let front = h.0 in
    let back = h.1 in
    let tokens : nodes ++ rest ≡ front ++ (back ++ rest) = rw h.2 (append_assoc front back rest) in
    let a = parts_added partial more one written added in
    let step = next_again players partial a.next front (back ++ rest) one k h.3 (nodes_bare players back rest written h.4 bare) a.limit a.added in
    let free : is_whole partial ≡ false = place_free partial a.next one partial.branchings a.added in
    let kept = node_keeps players partial a.next one (node_written players front one h.3) k a.added in
    let others = nodes_pass loop most left players a.next more back rest written goes kept h.4 bare a.others (omega arith) in
    ap (loop (suc most) partial) tokens ∙ goes most partial (front ++ (back ++ rest)) (a.next, back ++ rest) free step ∙ others

-- as many steps as there are tokens, and one, are enough
pub first_nodes_pass : {E : Type 0} (loop : ℕ → PartialTree → List Token → Result (PartialTree × List Token) E) (players : ℕ) (more : PartialTree) (nodes rest : List Token) (written : List WrittenNode) → GoesOn players loop → AreNodes players nodes written → IsBare rest → add_nodes root_alone written ≡ Some more
    → (left : ℕ) × (loop (suc (length (nodes ++ rest))) root_alone (nodes ++ rest) ≡ loop (suc left) more rest)
first_nodes_pass loop players more nodes rest written goes h bare added =
    let tokens : List Token = nodes ++ rest in
    let few = nodes_take players nodes written h in
    let size = length-append nodes rest in
    (length tokens - length written, nodes_pass loop (suc (length tokens)) (suc (length tokens - length written)) players root_alone more nodes rest written goes (nothing_keeps players) h bare added (omega arith))

-- the reading of nodes is one
nodes_go_on : (players : ℕ) → GoesOn players (λ most partial tokens. parse_nodes most players partial tokens)
nodes_go_on players most partial tokens x free e = rw (free, e) refl

-- ---- all nodes
-- after nodes the tokens end
abbrev pub at_end : PartialTree × List Token → Result PartialTree NodeStop
at_end x = if ends x.1 then Ok x.0 else Err (inl (Trailing, x.1))

ended : (x : PartialTree × List Token) (partial : PartialTree) → at_end x ≡ Ok partial → x ≡ (partial, [])
ended (one, []) partial e = ap (λ (b : PartialTree). (b, [])) (ok_same one partial e)
ended (one, t ∷ rest) partial e = absurd (ok_err partial (inl (Trailing, t ∷ rest)) (sym e))

-- what is read as the nodes of a file are nodes that leave no branch open, and end it
pub all_nodes_are : (players : ℕ) (tokens : List Token) (partial : PartialTree) → parse_all_nodes players tokens ≡ Ok partial → BeginsWithNodes players root_alone tokens (partial, []) × (open_branches partial.branchings ≡ [])
unfolding parse_all_nodes
all_nodes_are players tokens partial e =
    let a = bind_ok (parse_nodes (suc (length tokens)) players root_alone tokens) at_end partial e in
    let n = nodes_are (suc (length tokens)) players root_alone tokens a.0 (nothing_keeps players) a.1 in
    subst (λ (y : PartialTree × List Token). BeginsWithNodes players root_alone tokens y × (open_branches y.0.branchings ≡ [])) (ended a.0 partial a.2) (n.0, no_branching a.0.0.branchings n.1)

-- a limit that is met is passed by a node of the file
pub all_nodes_met : (players : ℕ) (tokens : List Token) (what : What) → parse_all_nodes players tokens ≡ Err (inr what) → BeginsBeyond players root_alone tokens what
unfolding parse_all_nodes
all_nodes_met players tokens what e = elim (bind_err (parse_nodes (suc (length tokens)) players root_alone tokens) at_end (inr what) e) [
  | inl m ↦ nodes_met (suc (length tokens)) players root_alone tokens what (nothing_keeps players) m
  | inr a ↦ absurd (no_limit a.0 a.2)
]
  where
    no_limit : (x : PartialTree × List Token) → at_end x ≡ Err (inr what) → ⊥
    no_limit (one, []) e = cc
    no_limit (one, t ∷ rest) e = cc

-- nodes that leave no branch open are read
pub all_nodes_again : (players : ℕ) (partial : PartialTree) (nodes : List Token) (written : List WrittenNode) → AreNodes players nodes written → add_nodes root_alone written ≡ Some partial → is_whole partial ≡ true
    → parse_all_nodes players (nodes ++ []) ≡ Ok partial
unfolding parse_all_nodes
all_nodes_again players partial nodes written h added whole =
    let steps = first_nodes_pass (λ most partial tokens. parse_nodes most players partial tokens) players partial nodes [] written (nodes_go_on players) h (record { no_text = refl; no_list = refl }) added in
    let read : parse_nodes (suc (length (nodes ++ []))) players root_alone (nodes ++ []) ≡ Ok (partial, []) = steps.1 ∙ rw whole refl in
    rw read refl

-- a limit that a node passes is met
pub all_nodes_beyond : (players : ℕ) (partial : PartialTree) (nodes : List Token) (written : List WrittenNode) (word : List ℕ) (rest : List Token) (what : What) → AreNodes players nodes written
    → add_nodes root_alone written ≡ Some partial → IsNodeWord word → passed partial ≡ Some what → parse_all_nodes players (nodes ++ (Word word ∷ rest)) ≡ Err (inr what)
unfolding parse_all_nodes
all_nodes_beyond players partial nodes written word rest what h added is_word limit =
    let tokens : List Token = nodes ++ (Word word ∷ rest) in
    let steps = first_nodes_pass (λ most partial tokens. parse_nodes most players partial tokens) players partial nodes (Word word ∷ rest) written (nodes_go_on players) h (record { no_text = refl; no_list = refl }) added in
    let free = limit_free partial what partial.branchings limit in
    let read : parse_nodes (suc (length tokens)) players root_alone tokens ≡ Err (inr what) = steps.1 ∙ rw (free, by partial.branchings free) refl in
    rw read refl
  where
    by : (branchings : List Branching) → nat_eq (length branchings) 0 ≡ false → parse_at players partial branchings (Word word ∷ rest) ≡ Err (inr what)
    by [] free = absurd (true≢false free)
    by (b ∷ others) free = rw (node_word_passes word is_word, limit) refl
