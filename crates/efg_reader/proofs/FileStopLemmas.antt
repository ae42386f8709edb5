-- How reading a file ends.
use Rattle.std.proofs.Common.{◌≡◌, ℕ, zero, suc, ◌<◌, ◌^◌, inl, inr, List, [], ◌∷◌, length, map, Result, Ok, Err, refl, sym, ap, ◌∙◌, subst, arith}
use Rattle.std.proofs.lemmas.List.{length-map}
use Rattle.std.specs.Prelude.{IfOk, IfErr}
use Rattle.std.specs.List.{AllByRecursion}
use Rattle.answers.specs.Answers.{Gives, IsSingle}
use Rattle.game_core.specs.declared.too_large.TooLarge.{TooLarge}
use Rattle.game_core.specs.declared.too_large.What.{What}
use Rattle.game_core.specs.declared.too_large.What.TheVariants as what
use Rattle.game_core.specs.Tree.{GameTree, IsGameTree}
use Rattle.file_parts.specs.Reading.{offset_of}
use Rattle.file_parts.specs.Parsing.{counted, IsPartStop}
use Rattle.file_parts.specs.declared.stop.PartStop.{PartStop}
use Rattle.file_parts.specs.declared.stop.PartStop.TheVariants as part_stops
use Rattle.file_parts.proofs.ReaderLemmas.{err_same}
use Rattle.written_trees.specs.Building.{PartialTree, tree_so_far}
use Rattle.tree_grammar.specs.declared.kinds.EfgKind.{EfgKind}
use Rattle.efg_reader.specs.declared.fault.EfgStop.{EfgStop}
use Rattle.efg_reader.specs.declared.fault.EfgStop.TheVariants as stops
use Rattle.efg_reader.specs.declared.nodes.NodesStop.{NodesStop}
use Rattle.efg_reader.specs.declared.nodes.NodesStop.TheVariants.{Refused, Passed}
use Rattle.efg_reader.specs.States.{IsStop}
use Rattle.efg_reader.specs.Stops.{IsPassed, IsEfgStop, kind_in_nodes, IsNodesStop, tree_in}
use Rattle.tree_grammar.specs.TreeFile.{IsTreeFile, PassesLimit}
use Rattle.tree_grammar.specs.TreeParsing.{FrontPart, parse_front, parse_all_nodes, in_nodes, parse_tree}
use Rattle.tree_grammar.proofs.FileLaws.{read_is_file, met_is_passed, no_front_is_nothing, no_nodes_are_nothing, one_tree, not_passed, one_limit}
use Rattle.tree_grammar.proofs.WholeFileLaws.{few_players}
use Rattle.tree_faults.proofs.FaultLaws.{stop_is_fault, one_fault_at, no_fault_of_file}
use Rattle.game_core.specs.TokenList.{TokenList, bare}
use Rattle.game_core.specs.declared.token.Spanned.{Spanned}
use Rattle.game_core.specs.declared.token.Token.{Token}
use Rattle.game_core.specs.Spacing.{AreSpaced, IsShortToken}

-- ---- the tokens
-- numbers of tokens in place are short
pub all_short : (from to : ℕ) (list : List Spanned) → AreSpaced from to list → AllByRecursion IsShortToken (map (λ s. s.token) list)
all_short from to [] h = tt
all_short from to (one ∷ list) h = (h.2, all_short one.end to list h.3)

-- ---- stops
-- a counted fault is a fault
counted_fault : {Y : Type 0} (o : Result Y (EfgKind × List Token)) (kind : EfgKind) (left : ℕ) → counted o ≡ Err (kind, left) → (rest : List Token) × (o ≡ Err (kind, rest)) × (length rest ≡ left)
counted_fault (Ok x) kind left e = cc
counted_fault {Y} (Err fault) kind left e =
    let same = err_same (fault.0, length fault.1) (kind, left) e in
    (fault.1, ap (λ (k : EfgKind). Err (k, fault.1)) (ap (λ (f : EfgKind × ℕ). f.0) same), ap (λ (f : EfgKind × ℕ). f.1) same)

-- a fault of the file, which passes no limit
fault_stop : (tokens : TokenList) (kind : EfgKind) (rest : List Token) (stop : EfgStop) → length (bare tokens.list) < 2 ^ 32 → parse_tree (bare tokens.list) ≡ Err (inl (kind, rest)) → ((what : What) → PassesLimit (bare tokens.list) what → ⊥)
    → stop ≡ stops.Fault (record { at = offset_of tokens (length rest); kind = kind }) → Gives stops.Memory (tree_in tokens) (Err stop)
fault_stop tokens kind rest stop few e none s = subst (λ x. Gives stops.Memory (tree_in tokens) (Err x)) (sym s) (inr ((rest, stop_is_fault (bare tokens.list) kind rest few e, refl), none))

-- a fault of the front is one of the file
front_fault : (tokens : List Token) (kind : EfgKind) (rest : List Token) → parse_front tokens ≡ Err (kind, rest) → parse_tree tokens ≡ Err (inl (kind, rest))
unfolding parse_tree
front_fault tokens kind rest e = rw e refl

-- a stop for a front that is not read
pub front_stop : (tokens : TokenList) (stopped : PartStop EfgKind) (stop : EfgStop) → length tokens.list < 2 ^ 32 → IsPartStop stopped (parse_front (bare tokens.list)) → IsEfgStop stopped tokens stop → Gives stops.Memory (tree_in tokens) (Err stop)
front_stop tokens part_stops.Memory stop few r s = inl s
front_stop tokens (part_stops.Unexpected fault) stop few r s =
    let f = counted_fault (parse_front (bare tokens.list)) fault.kind fault.left r in
    let none = no_front_is_nothing (bare tokens.list) (fault.kind, f.0) f.1 in
    let t = front_fault (bare tokens.list) fault.kind f.0 f.1 in
    fault_stop tokens fault.kind f.0 stop (rw (length-map tokens.list (λ s. s.token)) few) t none.no_limit (s ∙ ap (λ (n : ℕ). stops.Fault (record { at = offset_of tokens n; kind = fault.kind })) (sym f.2))

-- the limit that is passed
passed_stop : (tokens : TokenList) (passed : What) (stop : EfgStop) → PassesLimit (bare tokens.list) passed → IsNodesStop (Passed passed) tokens stop → Gives stops.Memory (tree_in tokens) (Err stop)
passed_stop tokens what.Nodes stop p s = subst (λ x. Gives stops.Memory (tree_in tokens) (Err x)) (sym s) (inr (inl (refl, p)))
passed_stop tokens what.Depth stop p s = subst (λ x. Gives stops.Memory (tree_in tokens) (Err x)) (sym s) (inr (inr (refl, p)))
passed_stop tokens _ stop p s = absurd p.passes

-- the fault of nodes
in_nodes_at : (kind : EfgKind) (rest : List Token) (left : ℕ) → length rest ≡ left → in_nodes {X = PartialTree} (Err (inl (kind, rest))) ≡ Err (inl (kind_in_nodes kind left, rest))
in_nodes_at kind [] zero e = refl
in_nodes_at kind [] (suc left) e = absurd (omega arith)
in_nodes_at kind (t ∷ rest) zero e = absurd (omega arith)
in_nodes_at kind (t ∷ rest) (suc left) e = refl

-- and so is one of the nodes
body_fault : (tokens : List Token) (x : FrontPart × List Token) (kind : EfgKind) (rest : List Token) (left : ℕ) → parse_front tokens ≡ Ok x → parse_all_nodes (length x.0.1) x.1 ≡ Err (inl (kind, rest)) → length rest ≡ left → parse_tree tokens ≡ Err (inl (kind_in_nodes kind left, rest))
unfolding parse_tree
body_fault tokens x kind rest left e f n = rw (e, f, in_nodes_at kind rest left n) refl

-- a stop for nodes that are not read
pub nodes_stop : (tokens : TokenList) (x : FrontPart × List Token) (stopped : NodesStop) (stop : EfgStop) → length tokens.list < 2 ^ 32 → parse_front (bare tokens.list) ≡ Ok x
    → IsStop stopped (parse_all_nodes (length x.0.1) x.1) → IsNodesStop stopped tokens stop → Gives stops.Memory (tree_in tokens) (Err stop)
nodes_stop tokens x (Refused part_stops.Memory) stop few e h s = inl s
nodes_stop tokens x (Refused (part_stops.Unexpected fault)) stop few e h s =
    let none = no_nodes_are_nothing (bare tokens.list) x (fault.kind, h.0) e h.1 in
    let t = body_fault (bare tokens.list) x fault.kind h.0 fault.left e h.1 h.2 in
    fault_stop tokens (kind_in_nodes fault.kind fault.left) h.0 stop (rw (length-map tokens.list (λ s. s.token)) few) t none.no_limit (s ∙ ap (λ (n : ℕ). stops.Fault (record { at = offset_of tokens n; kind = kind_in_nodes fault.kind fault.left })) (sym h.2))
nodes_stop tokens x (Passed passed) stop few e h s =
    passed_stop tokens passed stop (met_is_passed (bare tokens.list) x passed (few_players (bare tokens.list) x (rw (length-map tokens.list (λ s. s.token)) few) e) e h) s

-- ---- the tree
-- so players are few
pub few_of : (list : List Spanned) (x : FrontPart × List Token) → length list < 2 ^ 32 → parse_front (map (λ s. s.token) list) ≡ Ok x → length x.0.1 < 2 ^ 32
few_of list x few e = few_players (map (λ s. s.token) list) x (rw (length-map list (λ s. s.token)) few) e

-- what is read is a file, and so a tree
pub read_file : (list : List Spanned) (x : FrontPart × List Token) (partial : PartialTree) → length list < 2 ^ 32 → parse_front (map (λ s. s.token) list) ≡ Ok x → parse_all_nodes (length x.0.1) x.1 ≡ Ok partial → IsTreeFile (map (λ s. s.token) list) (tree_so_far x.0.0 x.0.1 partial)
read_file list x partial few e f = read_is_file (map (λ s. s.token) list) x partial (few_of list x few e) e f

pub read_tree : (list : List Spanned) (x : FrontPart × List Token) (partial : PartialTree) → length list < 2 ^ 32 → parse_front (map (λ s. s.token) list) ≡ Ok x → parse_all_nodes (length x.0.1) x.1 ≡ Ok partial → IsGameTree (tree_so_far x.0.0 x.0.1 partial)
read_tree list x partial few e f = (read_file list x partial few e f).describe.partial

-- a tree that has been made is that of the file
pub made_tree : (result : Result GameTree EfgStop) (tokens : TokenList) (tree : GameTree) → IfOk result (λ t. t ≡ tree) → IfErr result (λ stop. stop ≡ stops.Memory) → IsTreeFile (bare tokens.list) tree → Gives stops.Memory (tree_in tokens) result
made_tree (Ok t) tokens tree e m f = subst (IsTreeFile (bare tokens.list)) (sym e) f
made_tree (Err stop) tokens tree e m f = inl m

-- ---- one answer
-- a limit of trees that is passed is one of these
some_limit : (tokens : List Token) (limit : TooLarge) → IsPassed tokens limit → (what : What) × PassesLimit tokens what
some_limit tokens limit (inl p) = (what.Nodes, p.1)
some_limit tokens limit (inr p) = (what.Depth, p.1)

-- a tree passes no limit
no_limit : (tokens : List Token) (tree : GameTree) (limit : TooLarge) → IsTreeFile tokens tree → IsPassed tokens limit → ⊥
no_limit tokens tree limit f p = let some = some_limit tokens limit p in not_passed tokens tree some.0 f some.1

-- one limit is passed at most
passed-same : (tokens : List Token) (one other : TooLarge) → IsPassed tokens one → IsPassed tokens other → one ≡ other
passed-same tokens one other (inl h) (inl k) = h.0 ∙ sym k.0
passed-same tokens one other (inr h) (inr k) = h.0 ∙ sym k.0
passed-same tokens one other (inl h) (inr k) = let same = one_limit tokens what.Nodes what.Depth h.1 k.1 in cc
passed-same tokens one other (inr h) (inl k) = let same = one_limit tokens what.Nodes what.Depth k.1 h.1 in cc

-- a stop by its fault's place and kind
same_stop : (at place : ℕ) (kind other : EfgKind) → at ≡ place → kind ≡ other → stops.Fault (record { at = at; kind = kind }) ≡ stops.Fault (record { at = place; kind = other })
same_stop at place kind other a k = ap (λ at. stops.Fault (record { at = at; kind = kind })) a ∙ ap (λ kind. stops.Fault (record { at = place; kind = kind })) k

pub tree_in-single : (tokens : TokenList) → IsSingle (tree_in tokens)
tree_in-single tokens (Ok one) (Ok other) h k = ap Ok (one_tree (bare tokens.list) one other h k)
tree_in-single tokens (Ok one) (Err (stops.Fault fault)) h k = absurd (no_fault_of_file tokens fault.kind fault.at (one, h) k.0)
tree_in-single tokens (Ok one) (Err (stops.TooLarge limit)) h k = absurd (no_limit (bare tokens.list) one limit h k)
tree_in-single tokens (Err (stops.Fault fault)) (Ok other) h k = absurd (no_fault_of_file tokens fault.kind fault.at (other, k) h.0)
tree_in-single tokens (Err (stops.Fault fault)) (Err (stops.Fault next)) h k =
    let same = one_fault_at tokens fault.kind next.kind fault.at next.at h.0 k.0 in
    ap Err (same_stop fault.at next.at fault.kind next.kind same.1 same.0)
tree_in-single tokens (Err (stops.Fault fault)) (Err (stops.TooLarge limit)) h k = (let some = some_limit (bare tokens.list) limit k in absurd (h.1 some.0 some.1))
tree_in-single tokens (Err (stops.TooLarge limit)) (Ok other) h k = absurd (no_limit (bare tokens.list) other limit k h)
tree_in-single tokens (Err (stops.TooLarge limit)) (Err (stops.Fault fault)) h k = (let some = some_limit (bare tokens.list) limit h in absurd (k.1 some.0 some.1))
tree_in-single tokens (Err (stops.TooLarge limit)) (Err (stops.TooLarge next)) h k = ap (λ limit. Err (stops.TooLarge limit)) (passed-same (bare tokens.list) limit next h k)
tree_in-single tokens (Err stops.Memory) other h k = absurd h
tree_in-single tokens one (Err stops.Memory) h k = absurd k
