-- Reading nodes where a limit that is passed is a fault too, at the word of the node that passes it: so each stop has a kind and a place.
use Rattle.std.proofs.Common.{◌≡◌, ℕ, zero, suc, if◌then◌else◌, List, [], ◌∷◌, length, Bool, true, false, None, ◌⊎◌, inl, inr, refl, sym, ap, ◌∙◌, subst}
use Rattle.std.specs.Prelude.{Result, Ok, Err}
use Rattle.game_core.specs.Tree.{GameTree}
use Rattle.game_core.specs.declared.token.Token.{Token}
use Rattle.file_parts.specs.Reading.{ends}
use Rattle.file_parts.specs.Parsing.{Parsed, ◌>>=◌}
use Rattle.file_parts.proofs.ReaderLemmas.{chain, ok_same, err_same, ok_err}
use Rattle.written_trees.specs.Building.{PartialTree, Branching, root_alone, tree_so_far}
use Rattle.tree_grammar.specs.TreeParsing.{NodeStop, within_limit, is_whole, parse_next, parse_at, parse_nodes, in_nodes, parse_front, parse_all_nodes, parse_tree}
use Rattle.tree_grammar.specs.declared.kinds.EfgKind.{EfgKind}
use Rattle.tree_grammar.specs.declared.kinds.EfgKind.TheVariants.{Node, Trailing}
use Rattle.tree_grammar.proofs.NodeStopLemmas.{MayStand, at_is, at_ok, at_err}

-- ---- the reading
-- a limit that is passed is a fault at these tokens
abbrev pub located : {X : Type 0} → List Token → Result X NodeStop → Result X (EfgKind × List Token)
located tokens (Ok x) = Ok x
located tokens (Err (inl fault)) = Err fault
located tokens (Err (inr what)) = Err (Node, tokens)

-- a further node
abbrev pub located_at : ℕ → PartialTree → List Branching → List Token → Parsed EfgKind PartialTree
located_at players partial branchings tokens = located tokens (parse_at players partial branchings tokens)

-- nodes until no branch is open, and at most so many
abbrev pub located_nodes : ℕ → ℕ → PartialTree → List Token → Parsed EfgKind PartialTree
located_nodes zero players partial tokens = Err (Node, tokens)
located_nodes (suc most) players partial tokens = if is_whole partial then Ok (partial, tokens) else (located_at players partial partial.branchings tokens >>= λ x. located_nodes most players x.0 x.1)

-- after nodes the tokens end
abbrev pub located_end : PartialTree × List Token → Result PartialTree (EfgKind × List Token)
located_end x = if ends x.1 then Ok x.0 else Err (Trailing, x.1)

-- the nodes, with which the file ends
unfoldable pub located_all_nodes : ℕ → List Token → Result PartialTree (EfgKind × List Token)
located_all_nodes players tokens = located_nodes (suc (length tokens)) players root_alone tokens >>= located_end

-- where the tokens end inside the nodes, that is the fault
abbrev pub in_located : {X : Type 0} → Result X (EfgKind × List Token) → Result X (EfgKind × List Token)
in_located reading = located [] (in_nodes (within_limit None reading))

-- the tree of a file
unfoldable pub located_tree : List Token → Result GameTree (EfgKind × List Token)
located_tree tokens = do
  front ← parse_front tokens
  partial ← in_located (located_all_nodes (length front.0.1) front.1)
  Ok (tree_so_far front.0.0 front.0.1 partial)

-- ---- a further node
-- what is read with places is read
located_read : {X : Type 0} (tokens : List Token) (reading : Result X NodeStop) (x : X) → located tokens reading ≡ Ok x → reading ≡ Ok x
located_read {X} tokens (Ok y) x e = ap (λ (z : X). Ok z) (ok_same y x e)
located_read tokens (Err (inl fault)) x e = absurd (ok_err x fault (sym e))
located_read tokens (Err (inr what)) x e = absurd (ok_err x (Node, tokens) (sym e))

pub at_read : (players : ℕ) (partial : PartialTree) (branchings : List Branching) (tokens : List Token) (x : PartialTree × List Token) → located_at players partial branchings tokens ≡ Ok x → parse_at players partial branchings tokens ≡ Ok x
at_read players partial branchings tokens x e = located_read tokens (parse_at players partial branchings tokens) x e

-- where no limit is passed it is read as it is
pub located_unlimited : {X : Type 0} (tokens : List Token) (reading : Result X (EfgKind × List Token)) → located tokens (within_limit None reading) ≡ reading
located_unlimited tokens (Ok x) = refl
located_unlimited tokens (Err fault) = refl

-- where a node may stand
pub located_is : (players : ℕ) (partial : PartialTree) (branchings : List Branching) (tokens : List Token) (s : MayStand partial branchings tokens) → located_at players partial branchings tokens ≡ parse_next players partial s.first s.others tokens
located_is players partial branchings tokens s = ap (located tokens) (at_is players partial branchings tokens s) ∙ located_unlimited tokens (parse_next players partial s.first s.others tokens)

-- what is read as a further node may stand there
pub located_ok : (players : ℕ) (partial : PartialTree) (branchings : List Branching) (tokens : List Token) (x : PartialTree × List Token) → located_at players partial branchings tokens ≡ Ok x → (s : MayStand partial branchings tokens) × (parse_next players partial s.first s.others tokens ≡ Ok x)
located_ok players partial branchings tokens x e = at_ok players partial branchings tokens x (at_read players partial branchings tokens x e)

-- where none is read, its word cannot come, or a node that may stand there stops
pub located_err : (players : ℕ) (partial : PartialTree) (branchings : List Branching) (tokens : List Token) (fault : EfgKind × List Token) → located_at players partial branchings tokens ≡ Err fault
    → ((Node, tokens) ≡ fault) ⊎ ((s : MayStand partial branchings tokens) × (parse_next players partial s.first s.others tokens ≡ Err fault))
located_err players partial branchings tokens fault e = by (parse_at players partial branchings tokens) refl e
  where
    by : (reading : Result (PartialTree × List Token) NodeStop) → parse_at players partial branchings tokens ≡ reading → located tokens reading ≡ Err fault → ((Node, tokens) ≡ fault) ⊎ ((s : MayStand partial branchings tokens) × (parse_next players partial s.first s.others tokens ≡ Err fault))
    by (Ok x) is e = absurd (ok_err x fault e)
    by (Err (inl other)) is e = at_err players partial branchings tokens fault (is ∙ ap (λ (z : EfgKind × List Token). Err (inl z)) (err_same {A = PartialTree × List Token} other fault e))
    by (Err (inr what)) is e = inl (err_same {A = PartialTree × List Token} (Node, tokens) fault e)

-- ---- both readings
-- the second reading is the first, but where that passes a limit it has some fault
abbrev Locates : {X : Type 0} → Result X NodeStop → Result X (EfgKind × List Token) → Type 0
Locates (Ok x) reading = reading ≡ Ok x
Locates (Err (inl fault)) reading = reading ≡ Err fault
Locates {X} (Err (inr what)) reading = (fault : EfgKind × List Token) × (reading ≡ Err fault)

locates_here : {X : Type 0} (tokens : List Token) (o : Result X NodeStop) → Locates o (located tokens o)
locates_here tokens (Ok x) = refl
locates_here tokens (Err (inl fault)) = refl
locates_here tokens (Err (inr what)) = ((Node, tokens), refl)

locates_unlimited : {X : Type 0} (reading : Result X (EfgKind × List Token)) → Locates (within_limit None reading) reading
locates_unlimited (Ok x) = refl
locates_unlimited (Err fault) = refl

locates_chain : {X Y : Type 0} (o : Result X NodeStop) (p : Result X (EfgKind × List Token)) (f : X → Result Y NodeStop) (g : X → Result Y (EfgKind × List Token)) → Locates o p → ((x : X) → Locates (f x) (g x)) → Locates (chain o f) (chain p g)
locates_chain {X} {Y} (Ok x) p f g e same = subst (λ (q : Result X (EfgKind × List Token)). Locates (f x) (chain q g)) (sym e) (same x)
locates_chain (Err (inl fault)) p f g e same = rw e refl
locates_chain (Err (inr what)) p f g e same = (e.0, rw e.1 refl)

locates_in : {X : Type 0} (o : Result X NodeStop) (p : Result X (EfgKind × List Token)) → Locates o p → Locates (in_nodes o) (in_located p)
locates_in (Ok x) p e = rw e refl
locates_in (Err (inl (kind, []))) p e = rw e refl
locates_in (Err (inl (kind, t ∷ rest))) p e = rw e refl
locates_in {X} (Err (inr what)) p e = subst (λ (q : Result X (EfgKind × List Token)). (fault : EfgKind × List Token) × (in_located q ≡ Err fault)) (sym e.1) (by e.0)
  where
    by : (f : EfgKind × List Token) → (fault : EfgKind × List Token) × (in_located {X = X} (Err f) ≡ Err fault)
    by (kind, []) = (_, refl)
    by (kind, t ∷ rest) = (_, refl)

locates_nodes : (most players : ℕ) (partial : PartialTree) (tokens : List Token) → Locates (parse_nodes most players partial tokens) (located_nodes most players partial tokens)
locates_nodes zero players partial tokens = refl
locates_nodes (suc most) players partial tokens = by (is_whole partial) (λ x. locates_nodes most players x.0 x.1)
  where
    by : (whole : Bool) → ((x : PartialTree × List Token) → Locates (parse_nodes most players x.0 x.1) (located_nodes most players x.0 x.1)) → Locates (if whole then Ok (partial, tokens) else (parse_at players partial partial.branchings tokens >>= λ x. parse_nodes most players x.0 x.1)) (if whole then Ok (partial, tokens) else (located_at players partial partial.branchings tokens >>= λ x. located_nodes most players x.0 x.1))
    by true more = refl
    by false more = locates_chain (parse_at players partial partial.branchings tokens) (located_at players partial partial.branchings tokens) _ _ (locates_here tokens (parse_at players partial partial.branchings tokens)) more

locates_all : (players : ℕ) (tokens : List Token) → Locates (parse_all_nodes players tokens) (located_all_nodes players tokens)
unfolding parse_all_nodes located_all_nodes
locates_all players tokens = locates_chain (parse_nodes (suc (length tokens)) players root_alone tokens) (located_nodes (suc (length tokens)) players root_alone tokens) _ located_end (locates_nodes (suc (length tokens)) players root_alone tokens) end
  where
    end : (x : PartialTree × List Token) → Locates (if ends x.1 then Ok x.0 else Err (inl (Trailing, x.1))) (located_end x)
    end (one, []) = refl
    end (one, t ∷ rest) = refl

locates_tree : (tokens : List Token) → Locates (parse_tree tokens) (located_tree tokens)
unfolding parse_tree located_tree
locates_tree tokens = locates_chain (within_limit None (parse_front tokens)) (parse_front tokens) _ _ (locates_unlimited (parse_front tokens)) (λ front.
    locates_chain (in_nodes (parse_all_nodes (length front.0.1) front.1)) (in_located (located_all_nodes (length front.0.1) front.1)) _ _ (locates_in _ _ (locates_all (length front.0.1) front.1)) (λ partial. refl))

-- what one of them reads the other does
locates_back : {X : Type 0} (o : Result X NodeStop) (p : Result X (EfgKind × List Token)) (x : X) → Locates o p → p ≡ Ok x → o ≡ Ok x
locates_back {X} (Ok y) p x h e = ap (λ (z : X). Ok z) (ok_same y x (sym h ∙ e))
locates_back (Err (inl fault)) p x h e = absurd (ok_err x fault (sym e ∙ h))
locates_back (Err (inr what)) p x h e = absurd (ok_err x h.0 (sym e ∙ h.1))

pub nodes_read_back : (most players : ℕ) (partial : PartialTree) (tokens : List Token) (x : PartialTree × List Token) → located_nodes most players partial tokens ≡ Ok x → parse_nodes most players partial tokens ≡ Ok x
nodes_read_back most players partial tokens x e = locates_back _ _ x (locates_nodes most players partial tokens) e

pub tree_read_back : (tokens : List Token) (tree : GameTree) → located_tree tokens ≡ Ok tree → parse_tree tokens ≡ Ok tree
tree_read_back tokens tree e = locates_back _ _ tree (locates_tree tokens) e

pub all_located : (players : ℕ) (tokens : List Token) (partial : PartialTree) → parse_all_nodes players tokens ≡ Ok partial → located_all_nodes players tokens ≡ Ok partial
all_located players tokens partial e = subst (λ (o : Result PartialTree NodeStop). Locates o (located_all_nodes players tokens)) e (locates_all players tokens)

pub tree_located : (tokens : List Token) (tree : GameTree) → parse_tree tokens ≡ Ok tree → located_tree tokens ≡ Ok tree
tree_located tokens tree e = subst (λ (o : Result GameTree NodeStop). Locates o (located_tree tokens)) e (locates_tree tokens)

-- and its faults
pub fault_located : (tokens : List Token) (fault : EfgKind × List Token) → parse_tree tokens ≡ Err (inl fault) → located_tree tokens ≡ Err fault
fault_located tokens fault e = subst (λ (o : Result GameTree NodeStop). Locates o (located_tree tokens)) e (locates_tree tokens)
