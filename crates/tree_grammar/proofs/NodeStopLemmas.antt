-- What the reading of a further node says of where the node stands: at the first open branch, within the limits.
use Rattle.std.proofs.Common.{◌≡◌, ℕ, true, List, [], ◌∷◌, Option, Some, None, ◌⊎◌, inl, inr, refl, sym, ap, ◌∙◌}
use Rattle.std.specs.Prelude.{Result, Ok, Err}
use Rattle.std.proofs.lemmas.Bool.{cases_Bool}
use Rattle.game_core.specs.declared.too_large.What.{What}
use Rattle.game_core.specs.declared.token.Token.{Token}
use Rattle.file_parts.proofs.ReaderLemmas.{ok_err}
use Rattle.written_trees.specs.Building.{PartialTree, Branching, passed}
use Rattle.tree_grammar.specs.TreePieces.{begins_node}
use Rattle.tree_grammar.specs.TreeParsing.{NodeStop, ParsedNodes, within_limit, parse_next, parse_at}
use Rattle.tree_grammar.specs.declared.kinds.EfgKind.{EfgKind}
use Rattle.tree_grammar.specs.declared.kinds.EfgKind.TheVariants.{Node}

-- ---- within a limit
-- two equal faults are one
fault_same : {X : Type 0} (one other : EfgKind × List Token) → ◌≡◌ {A = Result X NodeStop} (Err (inl one)) (Err (inl other)) → one ≡ other
fault_same one other e = cc

-- what is read within a limit
within_ok : {X : Type 0} (limit : Option What) (reading : Result X (EfgKind × List Token)) (x : X) → within_limit limit reading ≡ Ok x → (limit ≡ None) × (reading ≡ Ok x)
within_ok None (Ok y) x e = (refl, cc)
within_ok None (Err fault) x e = cc
within_ok (Some what) reading x e = cc

-- a fault of it
within_err : {X : Type 0} (limit : Option What) (reading : Result X (EfgKind × List Token)) (fault : EfgKind × List Token) → within_limit limit reading ≡ Err (inl fault) → (limit ≡ None) × (reading ≡ Err fault)
within_err None (Ok y) fault e = cc
within_err None (Err other) fault e = (refl, cc)
within_err (Some what) reading fault e = cc

-- a limit that is met is passed
within_met : {X : Type 0} (limit : Option What) (reading : Result X (EfgKind × List Token)) (what : What) → within_limit limit reading ≡ Err (inr what) → limit ≡ Some what
within_met None (Ok y) what e = cc
within_met None (Err fault) what e = cc
within_met (Some other) reading what e = cc

-- where there is none
pub unlimited_ok : {X : Type 0} (reading : Result X (EfgKind × List Token)) (x : X) → reading ≡ Ok x → within_limit None reading ≡ Ok x
unlimited_ok reading x e = rw e refl

pub unlimited_read : {X : Type 0} (reading : Result X (EfgKind × List Token)) (x : X) → within_limit None reading ≡ Ok x → reading ≡ Ok x
unlimited_read reading x e = (within_ok None reading x e).1

-- ---- a further node
-- a branch is open, a node's word comes, and no limit is passed
pub record MayStand (partial : PartialTree) (branchings : List Branching) (tokens : List Token) : Type 0 where
  pub first : Branching
  pub others : List Branching
  pub are : branchings ≡ first ∷ others
  pub begins : begins_node tokens ≡ true
  pub room : passed partial ≡ None

-- where it may stand, a node is read
at_first : (players : ℕ) (partial : PartialTree) (b : Branching) (others : List Branching) (tokens : List Token) → begins_node tokens ≡ true → passed partial ≡ None → parse_at players partial (b ∷ others) tokens ≡ within_limit None (parse_next players partial b others tokens)
at_first players partial b others tokens n room = rw (n, room) refl

pub at_is : (players : ℕ) (partial : PartialTree) (branchings : List Branching) (tokens : List Token) (s : MayStand partial branchings tokens) → parse_at players partial branchings tokens ≡ within_limit None (parse_next players partial s.first s.others tokens)
at_is players partial branchings tokens s = ap (λ (bs : List Branching). parse_at players partial bs tokens) s.are ∙ at_first players partial s.first s.others tokens s.begins s.room

-- what is read as a further node may stand there
pub at_ok : (players : ℕ) (partial : PartialTree) (branchings : List Branching) (tokens : List Token) (x : PartialTree × List Token) → parse_at players partial branchings tokens ≡ Ok x → (s : MayStand partial branchings tokens) × (parse_next players partial s.first s.others tokens ≡ Ok x)
at_ok players partial [] tokens x e = absurd (ok_err x (inl (Node, tokens)) (sym e))
at_ok players partial (b ∷ others) tokens x e = elim (cases_Bool (begins_node tokens)) [
  | inl n ↦
      let f : within_limit (passed partial) (parse_next players partial b others tokens) ≡ Ok x = rw n at e in
      let w = within_ok (passed partial) (parse_next players partial b others tokens) x f in
      (record { first = b; others = others; are = refl; begins = n; room = w.0 }, w.1)
  | inr n ↦ let f : ◌≡◌ {A = ParsedNodes PartialTree} (Err (inl (Node, tokens))) (Ok x) = rw n at e in absurd (ok_err x (inl (Node, tokens)) (sym f))
]

-- where none is read, its word does not come, or a node that may stand there stops
pub at_err : (players : ℕ) (partial : PartialTree) (branchings : List Branching) (tokens : List Token) (fault : EfgKind × List Token) → parse_at players partial branchings tokens ≡ Err (inl fault)
    → ((Node, tokens) ≡ fault) ⊎ ((s : MayStand partial branchings tokens) × (parse_next players partial s.first s.others tokens ≡ Err fault))
at_err players partial [] tokens fault e = inl (fault_same {X = PartialTree × List Token} (Node, tokens) fault e)
at_err players partial (b ∷ others) tokens fault e = elim (cases_Bool (begins_node tokens)) [
  | inl n ↦
      let f : within_limit (passed partial) (parse_next players partial b others tokens) ≡ Err (inl fault) = rw n at e in
      let w = within_err (passed partial) (parse_next players partial b others tokens) fault f in
      inr (record { first = b; others = others; are = refl; begins = n; room = w.0 }, w.1)
  | inr n ↦ let f : ◌≡◌ {A = ParsedNodes PartialTree} (Err (inl (Node, tokens))) (Err (inl fault)) = rw n at e in inl (fault_same {X = PartialTree × List Token} (Node, tokens) fault f)
]

-- a node that passes a limit begins
pub at_met : (players : ℕ) (partial : PartialTree) (branchings : List Branching) (tokens : List Token) (what : What) → parse_at players partial branchings tokens ≡ Err (inr what) → (begins_node tokens ≡ true) × (passed partial ≡ Some what)
at_met players partial [] tokens what e = cc
at_met players partial (b ∷ others) tokens what e = elim (cases_Bool (begins_node tokens)) [
  | inl n ↦
      let f : within_limit (passed partial) (parse_next players partial b others tokens) ≡ Err (inr what) = rw n at e in
      (n, within_met (passed partial) (parse_next players partial b others tokens) what f)
  | inr n ↦ let f : ◌≡◌ {A = ParsedNodes PartialTree} (Err (inl (Node, tokens))) (Err (inr what)) = rw n at e in cc
]
