-- Reading goes to the point of a node at which tokens stop.
use Rattle.std.proofs.Common.{◌≡◌, ℕ, suc, ◌<◌, slice_get, List, [], ◌∷◌, ◌++◌, length, Some, None, inl, inr, refl, sym, ap, ◌∙◌, subst, arith}
use Rattle.std.specs.Prelude.{Ok, Err}
use Rattle.std.proofs.lemmas.Bool.{cases_Bool}
use Rattle.game_core.specs.Tree.{GameTree, OpenBranch}
use Rattle.game_core.specs.declared.token.Token.{Token}
use Rattle.file_parts.specs.Parsing.{Parsed}
use Rattle.file_parts.proofs.ReaderLemmas.{chain, bind_ok, bind_err, err_same, ok_err}
use Rattle.written_trees.specs.Written.{SetUse, WrittenNode}
use Rattle.written_trees.specs.Described.{key_of, same_set, uses_of_set}
use Rattle.written_trees.specs.Building.{PartialTree, Branching, root_alone, add_nodes, set_place, tree_so_far}
use Rattle.written_trees.proofs.UseStepLemmas.{partial_set, sets_so_far}
use Rattle.written_trees.proofs.FirstUseLemmas.{new_place, known_place}
use Rattle.written_trees.proofs.SetUseLemmas.{same_set-Decides, set_step}
use Rattle.written_trees.proofs.DescribedTreeLemmas.{described_is_so}
use Rattle.tree_grammar.specs.TreeFile.{IsPartialFile}
use Rattle.tree_grammar.specs.TreeParsing.{FrontPart, is_whole, parse_front, parse_next}
use Rattle.tree_grammar.specs.declared.kinds.EfgKind.{EfgKind}
use Rattle.tree_grammar.specs.declared.kinds.EfgKind.TheVariants.{Node, Trailing}
use Rattle.tree_grammar.proofs.SetLaws.{IsBare}
use Rattle.tree_grammar.proofs.FileLaws.{partial_front}
use Rattle.tree_grammar.proofs.NodesReadLaws.{GoesOn, first_nodes_pass}
use Rattle.tree_faults.proofs.FileStopLaws.{inner_fault}
use Rattle.tree_faults.proofs.TokenEndLemmas.{Ends, ends_shorter, nodes_within}
use Rattle.tree_faults.proofs.StopLemmas.{GoesTo}
use Rattle.tree_faults.proofs.LocatedReadingLemmas.{located_at, located_nodes, located_end, located_all_nodes, in_located, located_tree, located_ok, located_err}

-- ---- what is found of a set
-- none before its first use
pub found_none : (uses : List (ℕ × SetUse)) (u : SetUse) → uses_of_set (key_of u) uses ≡ [] → slice_get (sets_so_far uses) (set_place (sets_so_far uses) (key_of u)) ≡ None
found_none uses u h = ap (slice_get (sets_so_far uses)) (set_step uses 0 u).place_is ∙ new_place same_set key_of same_set-Decides partial_set uses 0 u h

-- and then the one that its uses begin
pub found_some : (uses : List (ℕ × SetUse)) (u : SetUse) (first : ℕ × SetUse) (later : List (ℕ × SetUse)) → uses_of_set (key_of u) uses ≡ first ∷ later → slice_get (sets_so_far uses) (set_place (sets_so_far uses) (key_of u)) ≡ Some (partial_set (key_of u) (first ∷ later))
found_some uses u first later h = ap (slice_get (sets_so_far uses)) (set_step uses 0 u).place_is ∙ known_place same_set key_of same_set-Decides partial_set uses 0 u first later h

-- ---- a run
-- where a node goes to the stop
pub record AtNode (players : ℕ) (written : List WrittenNode) (X : List Token) (kind : EfgKind) (rest : List Token) : Type 0 where
  pub more : PartialTree
  pub added : add_nodes root_alone written ≡ Some more
  pub first : Branching
  pub others : List Branching
  pub goes : GoesTo (parse_next players more first others X) kind rest

-- a fault before X names no fewer tokens than X
not_before : {X : Type 0} (tokens rest : List Token) (kind other : EfgKind) → length rest < length tokens → ◌≡◌ {A = Parsed EfgKind X} (Err (other, tokens)) (Err (kind, rest)) → ⊥
not_before tokens rest kind other less e = let n : length tokens ≡ length rest = ap (λ (z : EfgKind × List Token). length z.1) (err_same (other, tokens) (kind, rest) e) in absurd (omega (arith, n, less))

-- the node after whole nodes
node_goes : (players : ℕ) (more : PartialTree) (branchings : List Branching) (X : List Token) (kind : EfgKind) (rest : List Token) → length rest < length X → GoesTo (located_at players more branchings X) kind rest → (first : Branching) × (others : List Branching) × GoesTo (parse_next players more first others X) kind rest
node_goes players more branchings X kind rest less (inl e) = elim (located_err players more branchings X (kind, rest) e) [
  | inl n ↦ absurd (not_before {X = PartialTree} X rest kind Node less (ap (λ (z : EfgKind × List Token). Err z) n))
  | inr s ↦ (s.0.first, s.0.others, inl s.1)
]
node_goes players more branchings X kind rest less (inr y) = let s = located_ok players more branchings X y.0 y.1 in (s.0.first, s.0.others, inr (y.0, s.1, y.2))

-- a fault after a front is one of the nodes
pub tree_err : (tokens : List Token) (x : FrontPart × List Token) (kind : EfgKind) (t : Token) (r : List Token) → parse_front tokens ≡ Ok x → located_tree tokens ≡ Err (kind, t ∷ r) → located_all_nodes (length x.0.1) x.1 ≡ Err (kind, t ∷ r)
unfolding located_tree
tree_err tokens x kind t r front e =
    let o : chain (in_located (located_all_nodes (length x.0.1) x.1)) (λ partial. Ok (tree_so_far x.0.0 x.0.1 partial)) ≡ Err (kind, t ∷ r) = rw front at e in
    elim (bind_err (in_located (located_all_nodes (length x.0.1) x.1)) _ (kind, t ∷ r) o) [
      | inl f ↦
          let i = inner_fault (located_all_nodes (length x.0.1) x.1) kind (t ∷ r) f in
          elim i.2 [
            | inl none ↦ absurd (some_token t r none.0)
            | inr s ↦ i.1 ∙ ap (λ (k : EfgKind). Err (k, t ∷ r)) (sym s.0)
          ]
      | inr b ↦ absurd (ok_err _ (kind, t ∷ r) b.2)
    ]
  where
    some_token : (t : Token) (r : List Token) → t ∷ r ≡ [] → ⊥
    some_token t r e = cc

-- after whole nodes with an open branch the fault lies in a node, or after it
after_nodes : (left players : ℕ) (more : PartialTree) (X : List Token) (kind : EfgKind) (rest : List Token) → length rest < length X → chain (located_nodes (suc left) players more X) located_end ≡ Err (kind, rest) → GoesTo (located_at players more more.branchings X) kind rest
after_nodes left players more X kind rest less e = elim (cases_Bool (is_whole more)) [
  | inl w ↦ let f : located_end (more, X) ≡ Err (kind, rest) = rw w at e in absurd (trailing X f less)
  | inr w ↦
      let f : chain (chain (located_at players more more.branchings X) (λ x. located_nodes left players x.0 x.1)) located_end ≡ Err (kind, rest) = rw w at e in
      elim (bind_err (chain (located_at players more more.branchings X) (λ x. located_nodes left players x.0 x.1)) located_end (kind, rest) f) [
        | inl g ↦ elim (bind_err (located_at players more more.branchings X) (λ x. located_nodes left players x.0 x.1) (kind, rest) g) [
          | inl h ↦ inl h
          | inr a ↦ inr (a.0, a.1, ends_shorter rest a.0.1 ((nodes_within left players a.0.0).err a.0.1 (kind, rest) a.2))
        ]
        | inr y ↦
            let a = bind_ok (located_at players more more.branchings X) (λ x. located_nodes left players x.0 x.1) y.0 y.1 in
            inr (a.0, a.1, ends_shorter rest a.0.1 (subst (λ (q : List Token). Ends q a.0.1) (left_after y.0 y.2) ((nodes_within left players a.0.0).ok a.0.1 y.0 a.2)))
      ]
]
  where
    trailing : (X : List Token) → located_end (more, X) ≡ Err (kind, rest) → length rest < length X → ⊥
    trailing [] f less = absurd (ok_err more (kind, rest) f)
    trailing (t ∷ X) f less = not_before {X = Unit {0}} (t ∷ X) rest kind Trailing less (ap (λ (z : EfgKind × List Token). Err z) (err_same {A = PartialTree} (Trailing, t ∷ X) (kind, rest) f))

    left_after : (y : PartialTree × List Token) → located_end y ≡ Err (kind, rest) → y.1 ≡ rest
    left_after (b, []) f = absurd (ok_err b (kind, rest) f)
    left_after (b, t ∷ r) f = ap (λ (z : EfgKind × List Token). z.1) (err_same {A = PartialTree} (Trailing, t ∷ r) (kind, rest) f)

-- reading goes on after each node
located_go_on : (players : ℕ) → GoesOn players (λ most partial tokens. located_nodes most players partial tokens)
located_go_on players most partial tokens x free e = rw (free, e) refl

-- reading goes to the node
pub run_to : (partial X : List Token) (tree : GameTree) (free : List OpenBranch) (f : IsPartialFile partial tree free) (kind : EfgKind) (t : Token) (r : List Token) → IsBare X → length (t ∷ r) < length X → located_tree (partial ++ X) ≡ Err (kind, t ∷ r) → AtNode (length tree.players) f.written X kind (t ∷ r)
unfolding located_all_nodes
run_to partial X tree free f kind t r bare less e =
    let players = length tree.players in
    let front = partial_front (partial ++ X) partial X tree free f refl bare in
    let built = described_is_so f.written tree free f.describe in
    let all = tree_err (partial ++ X) ((tree.title, tree.players), f.nodes ++ X) kind t r front e in
    let pass = first_nodes_pass (λ most partial tokens. located_nodes most players partial tokens) players built.partial f.nodes X f.written (located_go_on players) f.are_nodes bare built.is_built in
    let following : chain (located_nodes (suc pass.0) players built.partial X) located_end ≡ Err (kind, t ∷ r) = sym (ap (λ (o : Parsed EfgKind PartialTree). chain o located_end) pass.1) ∙ all in
    let n = node_goes players built.partial built.partial.branchings X kind (t ∷ r) less (after_nodes pass.0 players built.partial X kind (t ∷ r) less following) in
    record { more = built.partial; added = built.is_built; first = n.0; others = n.1; goes = n.2 }
