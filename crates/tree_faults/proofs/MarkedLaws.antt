-- What is read up to a comma are nodes; nodes with a comma after them are read; and nodes stop where they stop up to a comma.
use Rattle.std.proofs.Common.{◌≡◌, ℕ, zero, suc, ◌<◌, ◌≤◌, nat_eq, List, [], ◌∷◌, ◌++◌, length, true, false, true≢false, Some, ◌⊎◌, inl, inr, refl, sym, ap, ◌∙◌, subst, append_assoc, arith}
use Rattle.std.proofs.lemmas.Bool.Decides.{nat_tests}
use Rattle.std.specs.Prelude.{Ok, Err}
use Rattle.game_core.specs.declared.token.Token.{Token}
use Rattle.game_core.specs.declared.token.Token.TheVariants.{Comma}
use Rattle.file_parts.specs.Parsing.{Parsed, ◌>>=◌}
use Rattle.file_parts.proofs.ReaderLemmas.{bind_ok, bind_err, ok_same, err_same, ok_err}
use Rattle.written_trees.specs.Written.{WrittenNode}
use Rattle.written_trees.specs.Building.{PartialTree, Branching, add_nodes}
use Rattle.tree_grammar.specs.TreeFile.{IsNode, AreNodes}
use Rattle.tree_grammar.specs.TreeParsing.{is_whole}
use Rattle.tree_grammar.specs.declared.kinds.EfgKind.{EfgKind}
use Rattle.tree_grammar.specs.declared.kinds.EfgKind.TheVariants.{Node}
use Rattle.tree_grammar.proofs.NodeLaws.{node_written, node_begins}
use Rattle.tree_grammar.proofs.NodesLaws.{BeginsWithNodes, none_more, one_before, nodes_bare, parts_added}
use Rattle.tree_grammar.proofs.NodesReadLaws.{next_is, next_keeps, next_takes, next_again}
use Rattle.tree_grammar.proofs.NodeValueLemmas.{Keeps, node_keeps}
use Rattle.tree_faults.proofs.PartReaderLemmas.{has_comma}
use Rattle.tree_faults.proofs.MarkedNodeLemmas.{mark_here, marked}
use Rattle.std.proofs.lemmas.Option.{same_Some}
use Rattle.std.proofs.lemmas.Bool.{cases_Bool}
use Rattle.tree_faults.proofs.LocatedReadingLemmas.{located_at, located_nodes, located, at_read}

-- ---- up to a comma
-- the comma was read
marked_here : (players : ℕ) (partial : PartialTree) (tokens : List Token) (y : PartialTree × List Token) → mark_here partial tokens ≡ Ok y → BeginsWithNodes players partial tokens (y.0, Comma ∷ y.1)
marked_here players partial (Comma ∷ rest) y e =
    let same : (partial, rest) ≡ y = ok_same (partial, rest) y e in
    subst (λ (z : PartialTree × List Token). BeginsWithNodes players partial (Comma ∷ rest) (z.0, Comma ∷ z.1)) same (none_more players partial (Comma ∷ rest))
marked_here players partial tokens y e = absurd (ok_err y (Node, tokens) (sym e))

-- what is read up to a comma are nodes
pub marked_is : (most players : ℕ) (partial : PartialTree) (tokens : List Token) (y : PartialTree × List Token) → Keeps players partial → marked most players partial tokens ≡ Ok y → BeginsWithNodes players partial tokens (y.0, Comma ∷ y.1)
marked_is zero players partial tokens y k e = marked_here players partial tokens y e
marked_is (suc most) players partial tokens y k e = elim (cases_Bool (has_comma tokens)) [
  | inl c ↦ marked_here players partial tokens y (rw c at e)
  | inr c ↦
      let o : (located_at players partial partial.branchings tokens >>= λ x. marked most players x.0 x.1) ≡ Ok y = rw c at e in
      let a = bind_ok (located_at players partial partial.branchings tokens) (λ x. marked most players x.0 x.1) y o in
      let n = next_is players partial tokens a.0 k (at_read players partial partial.branchings tokens a.0 a.1) in
      one_before players partial tokens a.0 (y.0, Comma ∷ y.1) n (marked_is most players a.0.0 a.0.1 y (next_keeps players partial tokens a.0 k n) a.2)
]

-- nodes begin with no comma
no_comma_first : (players : ℕ) (part rest : List Token) (node : WrittenNode) → IsNode players part node → has_comma (part ++ rest) ≡ false
no_comma_first players part rest node h = let word = node_begins players part node h in rw word.is refl

-- a comma after no nodes is read
comma_again : (most players : ℕ) (partial : PartialTree) (rest : List Token) → marked most players partial (Comma ∷ rest) ≡ Ok (partial, rest)
comma_again zero players partial rest = refl
comma_again (suc most) players partial rest = refl

-- nodes with a comma after them are read
pub marked_again : (most players : ℕ) (partial more : PartialTree) (nodes rest : List Token) (written : List WrittenNode) → Keeps players partial → AreNodes players nodes written → add_nodes partial written ≡ Some more → length written ≤ most
    → marked most players partial (nodes ++ Comma ∷ rest) ≡ Ok (more, rest)
marked_again most players partial more nodes rest [] k h added few = rw (h, ← same_Some _ _ added) (comma_again most players partial rest)
marked_again zero players partial more nodes rest (one ∷ written) k h added few = absurd (omega arith)
marked_again (suc most) players partial more nodes rest (one ∷ written) k h added few =
    let front = h.0 in
    let back = h.1 in
    let tokens : nodes ++ Comma ∷ rest ≡ front ++ (back ++ Comma ∷ rest) = rw h.2 (append_assoc front back (Comma ∷ rest)) in
    let a = parts_added partial more one written added in
    let bare = nodes_bare players back (Comma ∷ rest) written h.4 (record { no_text = refl; no_list = refl }) in
    let step = ap (located (front ++ (back ++ Comma ∷ rest))) (next_again players partial a.next front (back ++ Comma ∷ rest) one k h.3 bare a.limit a.added) in
    let kept = node_keeps players partial a.next one (node_written players front one h.3) k a.added in
    rw (tokens, no_comma_first players front (back ++ Comma ∷ rest) one h.3, step) (marked_again most players a.next more back rest written kept h.4 a.others (omega arith))

-- ---- where nodes stop
-- a comma where a node is wanted
comma_stops : (players : ℕ) (partial : PartialTree) (branchings : List Branching) (rest : List Token) → located_at players partial branchings (Comma ∷ rest) ≡ Err (Node, Comma ∷ rest)
comma_stops players partial [] rest = refl
comma_stops players partial (b ∷ branchings) rest = refl

-- nodes stop where they stop up to a comma, or before a comma
abbrev pub StopsAsMarked : Parsed EfgKind PartialTree → EfgKind → List Token → Type 0
StopsAsMarked reading kind rest = (reading ≡ Err (kind, rest)) ⊎ ((y : PartialTree × List Token) × (reading ≡ Ok y) × (kind ≡ Node) × (rest ≡ Comma ∷ y.1))

-- a comma comes
comma_comes : (tokens : List Token) → has_comma tokens ≡ true → (rest : List Token) × (tokens ≡ Comma ∷ rest)
comma_comes (Comma ∷ rest) e = (rest, refl)
comma_comes _ e = absurd (true≢false (sym e))

-- where a comma comes
at_comma : (most players : ℕ) (partial : PartialTree) (tokens : List Token) (kind : EfgKind) (rest : List Token) → has_comma tokens ≡ true → located_at players partial partial.branchings tokens ≡ Err (kind, rest) → StopsAsMarked (marked (suc most) players partial tokens) kind rest
at_comma most players partial tokens kind rest c e =
    let t = comma_comes tokens c in
    let o : ◌≡◌ {A = Parsed EfgKind PartialTree} (Err (Node, Comma ∷ t.0)) (Err (kind, rest)) = sym (ap (located_at players partial partial.branchings) t.1 ∙ comma_stops players partial partial.branchings t.0) ∙ e in
    let same = err_same (Node, Comma ∷ t.0) (kind, rest) o in
    inr ((partial, t.0), ap (marked (suc most) players partial) t.1, sym (ap (λ (f : EfgKind × List Token). f.0) same), sym (ap (λ (f : EfgKind × List Token). f.1) same))

-- after a node that was read
one_marked : (most players : ℕ) (partial : PartialTree) (tokens : List Token) (x : PartialTree × List Token) → has_comma tokens ≡ false → located_at players partial partial.branchings tokens ≡ Ok x → marked (suc most) players partial tokens ≡ marked most players x.0 x.1
one_marked most players partial tokens x c e = rw (c, e) refl

pub nodes_stop : (steps most players : ℕ) (partial : PartialTree) (tokens : List Token) (kind : EfgKind) (rest : List Token) → Keeps players partial → length tokens < steps → steps ≤ most → located_nodes steps players partial tokens ≡ Err (kind, rest)
    → StopsAsMarked (marked most players partial tokens) kind rest
nodes_stop zero most players partial tokens kind rest k enough le e = absurd (omega arith)
nodes_stop (suc steps) zero players partial tokens kind rest k enough le e = absurd (omega arith)
nodes_stop (suc steps) (suc most) players partial tokens kind rest k enough le e = elim (cases_Bool (is_whole partial)) [
  | inl w ↦ let o : ◌≡◌ {A = Parsed EfgKind PartialTree} (Ok (partial, tokens)) (Err (kind, rest)) = rw w at e in absurd (ok_err (partial, tokens) (kind, rest) o)
  | inr w ↦
      let o : (located_at players partial partial.branchings tokens >>= λ x. located_nodes steps players x.0 x.1) ≡ Err (kind, rest) = rw w at e in
      elim (bind_err (located_at players partial partial.branchings tokens) (λ x. located_nodes steps players x.0 x.1) (kind, rest) o) [
        | inl f ↦ elim (cases_Bool (has_comma tokens)) [
          | inl c ↦ at_comma most players partial tokens kind rest c f
          | inr c ↦ inl (rw (c, f) refl)
        ]
        | inr a ↦
            let n = next_is players partial tokens a.0 k (at_read players partial partial.branchings tokens a.0 a.1) in
            let shorter = next_takes players partial tokens a.0 n in
            let c : has_comma tokens ≡ false = rw n.is (no_comma_first players n.part a.0.1 n.node n.is_node) in
            let more = nodes_stop steps most players a.0.0 a.0.1 kind rest (next_keeps players partial tokens a.0 k n) (omega arith) (omega arith) a.2 in
            let same : marked (suc most) players partial tokens ≡ marked most players a.0.0 a.0.1 = one_marked most players partial tokens a.0 c a.1 in
            subst (λ (o : Parsed EfgKind PartialTree). StopsAsMarked o kind rest) (sym same) more
      ]
]

-- after whole nodes only a comma may come
after_whole : (most players : ℕ) (partial : PartialTree) (t : Token) (rest : List Token) → is_whole partial ≡ true → StopsAsMarked (marked (suc most) players partial (t ∷ rest)) Node (t ∷ rest)
after_whole most players partial t rest w = elim (cases_Bool (has_comma (t ∷ rest))) [
  | inl c ↦ at_comma most players partial (t ∷ rest) Node (t ∷ rest) c (whole_stops players partial partial.branchings (t ∷ rest) w)
  | inr c ↦ inl (rw (c, whole_stops players partial partial.branchings (t ∷ rest) w) refl)
]
  where
    whole_stops : (players : ℕ) (partial : PartialTree) (branchings : List Branching) (tokens : List Token) → nat_eq (length branchings) 0 ≡ true → located_at players partial branchings tokens ≡ Err (Node, tokens)
    whole_stops players partial [] tokens w = refl
    whole_stops players partial (b ∷ branchings) tokens w = absurd (grind (arith, nat_tests))

pub nodes_end : (steps most players : ℕ) (partial : PartialTree) (tokens : List Token) (x : PartialTree) (t : Token) (rest : List Token) → Keeps players partial → steps ≤ most → located_nodes steps players partial tokens ≡ Ok (x, t ∷ rest)
    → StopsAsMarked (marked most players partial tokens) Node (t ∷ rest)
nodes_end zero most players partial tokens x t rest k le e = absurd (ok_err (x, t ∷ rest) (Node, tokens) (sym e))
nodes_end (suc steps) zero players partial tokens x t rest k le e = absurd (omega arith)
nodes_end (suc steps) (suc most) players partial tokens x t rest k le e = elim (cases_Bool (is_whole partial)) [
  | inl w ↦
      let o : ◌≡◌ {A = Parsed EfgKind PartialTree} (Ok (partial, tokens)) (Ok (x, t ∷ rest)) = rw w at e in
      let same : tokens ≡ t ∷ rest = ap (λ (z : PartialTree × List Token). z.1) (ok_same (partial, tokens) (x, t ∷ rest) o) in
      subst (λ (q : List Token). StopsAsMarked (marked (suc most) players partial q) Node (t ∷ rest)) (sym same) (after_whole most players partial t rest w)
  | inr w ↦
      let o : (located_at players partial partial.branchings tokens >>= λ x. located_nodes steps players x.0 x.1) ≡ Ok (x, t ∷ rest) = rw w at e in
      let a = bind_ok (located_at players partial partial.branchings tokens) (λ x. located_nodes steps players x.0 x.1) (x, t ∷ rest) o in
      let n = next_is players partial tokens a.0 k (at_read players partial partial.branchings tokens a.0 a.1) in
      let c : has_comma tokens ≡ false = rw n.is (no_comma_first players n.part a.0.1 n.node n.is_node) in
      let more = nodes_end steps most players a.0.0 a.0.1 x t rest (next_keeps players partial tokens a.0 k n) (omega arith) a.2 in
      let same : marked (suc most) players partial tokens ≡ marked most players a.0.0 a.0.1 = one_marked most players partial tokens a.0 c a.1 in
      subst (λ (o : Parsed EfgKind PartialTree). StopsAsMarked o Node (t ∷ rest)) (sym same) more
]
