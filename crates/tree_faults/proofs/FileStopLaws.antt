-- Where the reading of a file of a tree stops, the tokens so far begin a file, and no more of them do.
use Rattle.std.proofs.Common.{◌≡◌, ℕ, suc, ◌+◌, ◌<◌, ◌≤◌, ◌^◌, List, [], ◌∷◌, ◌++◌, length, Some, ◌⊎◌, inl, inr, refl, sym, ap, ◌∙◌, subst, append_assoc, arith}
use Rattle.std.proofs.lemmas.List.{append-nil}
use Rattle.std.specs.Prelude.{Result, Ok, Err}
use Rattle.game_core.specs.Tree.{GameTree, OpenBranch, most_nodes}
use Rattle.game_core.specs.declared.token.Token.{Token}
use Rattle.game_core.specs.declared.token.Token.TheVariants.{Comma}
use Rattle.file_parts.proofs.ReaderLemmas.{reads_alone, bind_err, ok_same, err_same, ok_err, same_test, same_first, same_rest, same_front, both_cons, not_empty, cut}
use Rattle.written_trees.specs.Written.{WrittenNode}
use Rattle.written_trees.specs.Building.{PartialTree, root_alone, add_nodes, tree_so_far, open_branches}
use Rattle.written_trees.proofs.BuiltTreeLemmas.{built_is_so}
use Rattle.written_trees.proofs.DescribedTreeLemmas.{described_is_so}
use Rattle.written_trees.proofs.StandingNodeLemmas.{each_length}
use Rattle.tree_grammar.specs.TreeFile.{IsFront, AreNodes, IsPartialFile, IsTreeFile}
use Rattle.tree_grammar.specs.TreeParsing.{FrontPart, has_text, parse_front}
use Rattle.tree_faults.specs.TreeFaults.{IsFile}
use Rattle.tree_grammar.specs.declared.kinds.EfgKind.{EfgKind}
use Rattle.tree_grammar.specs.declared.kinds.EfgKind.TheVariants.{Node, Unfinished, Trailing}
use Rattle.tree_grammar.proofs.FileLaws.{partial_front}
use Rattle.tree_grammar.proofs.NodesLaws.{all_written}
use Rattle.tree_faults.proofs.NodeReaderLemmas.{text_first}
use Rattle.tree_faults.proofs.MarkedNodeLemmas.{marked, marked_reader}
use Rattle.tree_faults.proofs.MarkedLaws.{StopsAsMarked, marked_is, marked_again, nodes_stop, nodes_end}
use Rattle.tree_grammar.proofs.NodesReadLaws.{nothing_keeps}
use Rattle.tree_faults.proofs.FrontLemmas.{Stops, CannotCome}
use Rattle.tree_grammar.proofs.FrontLaws.{ReadsFront, front_read_is}
use Rattle.tree_faults.proofs.LocatedReadingLemmas.{located_nodes, located_end, located_all_nodes, in_located, located_tree, tree_located}
use Rattle.tree_grammar.proofs.WholeFileLaws.{file_is_read}

-- ---- the whole
-- a file of a tree is read with its places
pub file_is_located : (tokens : List Token) (tree : GameTree) → IsTreeFile tokens tree → located_tree tokens ≡ Ok tree
file_is_located tokens tree f = tree_located tokens tree (file_is_read tokens tree f)

-- ---- partial files
-- a front and nodes are a partial file
pub nodes_begin : (front nodes : List Token) (x : FrontPart) (partial : PartialTree) (written : List WrittenNode) → IsFront front x.0 x.1 → length x.1 < 2 ^ 32 → AreNodes (length x.1) nodes written → add_nodes root_alone written ≡ Some partial
    → IsPartialFile (front ++ nodes) (tree_so_far x.0 x.1 partial) (open_branches partial.branchings)
nodes_begin front nodes x partial written f few n added = record {
  front = front;
  is_front = f;
  written = written;
  nodes = nodes;
  are_nodes = n;
  describe = built_is_so x.0 x.1 written partial few (all_written (length x.1) nodes written n) added;
  are_tokens = refl;
}

-- a partial file has no more nodes than the limit
few_written : (tokens : List Token) (tree : GameTree) (free : List OpenBranch) (f : IsPartialFile tokens tree free) → length f.written ≤ most_nodes
few_written tokens tree free f =
    let same : length tree.nodes ≡ length f.written = each_length f.describe.keys f.describe.labels tree.nodes f.written f.describe.nodes_stand in
    subst (λ (n : ℕ). n ≤ most_nodes) same f.describe.partial.few_nodes

-- The nodes of a partial file that begins with this front are read up to a comma.
pub record ReadsNodes (most : ℕ) (players : ℕ) (nodes : List Token) : Type 0 where
  pub partial : PartialTree
  pub is_read : marked most players root_alone (nodes ++ Comma ∷ []) ≡ Ok (partial, [])

pub partial_nodes : (most : ℕ) (front body : List Token) (x : FrontPart) (tree : GameTree) (free : List OpenBranch) → most_nodes ≤ most → parse_front (front ++ body) ≡ Ok (x, body) → IsPartialFile (front ++ body) tree free → ReadsNodes most (length x.1) body
partial_nodes most front body x tree free le e f =
    let all = front ++ body in
    let read : parse_front all ≡ Ok ((tree.title, tree.players), f.nodes ++ []) = partial_front all all [] tree free f (sym (append-nil all)) (record { no_text = refl; no_list = refl }) in
    let same : ((tree.title, tree.players), f.nodes ++ []) ≡ (x, body) = ok_same _ _ (sym read ∙ e) in
    let nodes : f.nodes ≡ body = sym (append-nil f.nodes) ∙ ap (λ (z : FrontPart × List Token). z.1) same in
    let players : length tree.players ≡ length x.1 = ap (λ (z : FrontPart × List Token). length z.0.1) same in
    let built = described_is_so f.written tree free f.describe in
    let few = few_written all tree free f in
    let o = marked_again most (length tree.players) root_alone built.partial f.nodes [] f.written (nothing_keeps (length tree.players)) f.are_nodes built.is_built (le_through (length f.written) most few le) in
    record { partial = built.partial; is_read = subst (λ (n : ℕ). marked most n root_alone (body ++ Comma ∷ []) ≡ Ok (built.partial, [])) players (subst (λ (q : List Token). marked most (length tree.players) root_alone (q ++ Comma ∷ []) ≡ Ok (built.partial, [])) nodes o) }
  where
    le_through : (n most : ℕ) → n ≤ most_nodes → most_nodes ≤ most → n ≤ most
    le_through n most few le = omega (arith, few, le)

-- ---- where nodes stop
-- what stands before the last token
before_last : (before : List Token) (t : Token) (more nodes : List Token) (last : Token) → before ++ t ∷ more ≡ nodes ++ last ∷ [] → (middle : List Token) × (nodes ≡ before ++ middle)
before_last [] t more nodes last e = (nodes, refl)
before_last (u ∷ before) t more [] last e = absurd (too_long before t more (same_rest u last (before ++ t ∷ more) [] e))
  where
    too_long : (before : List Token) (t : Token) (more : List Token) → before ++ t ∷ more ≡ [] → ⊥
    too_long [] t more e = cc
    too_long (u ∷ before) t more e = cc
before_last (u ∷ before) t more (v ∷ nodes) last e =
    let m = before_last before t more nodes last (same_rest u v (before ++ t ∷ more) (nodes ++ last ∷ []) e) in
    let first : v ≡ u = sym (same_first u v (before ++ t ∷ more) (nodes ++ last ∷ []) e) in
    (m.0, both_cons v u nodes (before ++ m.0) first m.1)

-- more tokens after, and a comma
after_comma_too : (before : List Token) (t : Token) (more : List Token) → (before ++ t ∷ more) ++ Comma ∷ [] ≡ before ++ t ∷ (more ++ Comma ∷ [])
after_comma_too before t more = append_assoc before (t ∷ more) (Comma ∷ [])

-- where nodes stop, what comes cannot come: with what comes the nodes would be read up to a comma
cannot_by : (most : ℕ) (tokens : List Token) (x : FrontPart × List Token) (h : ReadsFront tokens x) (before rest : List Token) → most_nodes ≤ most → x.1 ≡ before ++ rest
    → ((t : Token) (r more : List Token) → rest ≡ t ∷ r → ReadsNodes most (length x.0.1) (before ++ t ∷ more) → ⊥) → (rest ≡ [] → ¬ (IsFile tokens)) → CannotCome (h.front ++ before) rest
cannot_by most tokens x h before [] le e never none = λ f.
    let all : h.front ++ before ≡ tokens = sym (h.is ∙ ap (λ (r : List Token). h.front ++ r) (e ∙ append-nil before)) in
    none refl (subst IsFile all f)
cannot_by most tokens x h before (t ∷ rest) le e never none = λ b.
    let body : List Token = before ++ t ∷ b.0 in
    let all : ((h.front ++ before) ++ t ∷ []) ++ b.0 ≡ h.front ++ body = cut (h.front ++ before) t b.0 ∙ append_assoc h.front before (t ∷ b.0) in
    let text : has_text body ≡ has_text x.1 = same_test has_text text_first before t b.0 rest ∙ ap has_text (sym e) in
    never t rest b.0 refl (partial_nodes most h.front body x.0 b.1 b.2 le (h.again body text) (subst (λ (q : List Token). IsPartialFile q b.1 b.2) all b.3))

-- where reading stops after a front
abbrev pub StopsAfter : (tokens : List Token) → {x : FrontPart × List Token} → ReadsFront tokens x → List Token → Type 0
StopsAfter tokens h rest = (s : Stops tokens rest) × (inner : List Token) × (s.before ≡ h.front ++ inner)

-- nodes stop where they are stuck up to a comma
stuck_stops : (most : ℕ) (tokens : List Token) (x : FrontPart × List Token) (kind : EfgKind) (rest : List Token) (h : ReadsFront tokens x) → length x.0.1 < 2 ^ 32 → most_nodes ≤ most → marked most (length x.0.1) root_alone x.1 ≡ Err (kind, rest) → (rest ≡ [] → ¬ (IsFile tokens)) → StopsAfter tokens h rest
stuck_stops most tokens x kind rest h few le e none =
    let players = length x.0.1 in
    let s = ((marked_reader most players h.is_front.some_player root_alone).at x.1).sticks kind rest e in
    let n = marked_is most players root_alone (s.before ++ s.next ∷ s.more) (s.value, []) (nothing_keeps players) (reads_alone (marked most players root_alone) (s.before ++ s.next ∷ s.more) s.value s.goes_on) in
    let m = before_last s.before s.next s.more n.nodes Comma n.is in
    let file = nodes_begin h.front n.nodes x.0 s.value n.written h.is_front few n.are_nodes n.added in
    let all : h.front ++ n.nodes ≡ (h.front ++ s.before) ++ m.0 = ap (λ (q : List Token). h.front ++ q) m.1 ∙ sym (append_assoc h.front s.before m.0) in (
      record {
        before = h.front ++ s.before;
        are_tokens = h.is ∙ ap (λ (r : List Token). h.front ++ r) s.is ∙ sym (append_assoc h.front s.before rest);
        begins = (m.0, tree_so_far x.0.0 x.0.1 s.value, open_branches s.value.branchings, subst (λ (q : List Token). IsPartialFile q (tree_so_far x.0.0 x.0.1 s.value) (open_branches s.value.branchings)) all file);
        stops = cannot_by most tokens x h s.before rest le s.is
            (λ t r more f g. absurd (ok_err (g.partial, []) (kind, t ∷ (more ++ Comma ∷ [])) (sym g.is_read ∙ ap (marked most players root_alone) (after_comma_too s.before t more) ∙ s.stays t r (more ++ Comma ∷ []) f)))
            none;
      },
      s.before,
      refl,
    )

-- nodes stop before a comma
comma_stops : (most : ℕ) (tokens : List Token) (x : FrontPart × List Token) (partial : PartialTree) (rest : List Token) (h : ReadsFront tokens x) → length x.0.1 < 2 ^ 32 → most_nodes ≤ most → marked most (length x.0.1) root_alone x.1 ≡ Ok (partial, rest) → StopsAfter tokens h (Comma ∷ rest)
comma_stops most tokens x partial rest h few le e =
    let players = length x.0.1 in
    let n = marked_is most players root_alone x.1 (partial, rest) (nothing_keeps players) e in
    let file = nodes_begin h.front n.nodes x.0 partial n.written h.is_front few n.are_nodes n.added in
    let r = ((marked_reader most players h.is_front.some_player root_alone).at x.1).reads partial rest e in (
      record {
        before = h.front ++ n.nodes;
        are_tokens = h.is ∙ ap (λ (r : List Token). h.front ++ r) n.is ∙ sym (append_assoc h.front n.nodes (Comma ∷ rest));
        begins = ([], tree_so_far x.0.0 x.0.1 partial, open_branches partial.branchings, rw (append-nil (h.front ++ n.nodes)) file);
        stops = cannot_by most tokens x h n.nodes (Comma ∷ rest) le n.is (λ t q more f g. never n.nodes t more (same_first Comma t rest q f) g r n.is) (λ f. absurd (not_empty [] Comma rest f));
      },
      n.nodes,
      refl,
    )
  where
    never : (nodes : List Token) (t : Token) (more : List Token) → Comma ≡ t → ReadsNodes most (length x.0.1) (nodes ++ t ∷ more) → (r : (front : List Token) × (x.1 ≡ front ++ rest) × ((after : List Token) → marked most (length x.0.1) root_alone (front ++ after) ≡ Ok (partial, after))) → x.1 ≡ nodes ++ Comma ∷ rest → ⊥
    never nodes t more c g r is =
        let front : r.0 ≡ nodes ++ Comma ∷ [] = same_front r.0 (nodes ++ Comma ∷ []) rest (sym r.1 ∙ is ∙ sym (append_assoc nodes (Comma ∷ []) rest)) in
        let there : marked most (length x.0.1) root_alone ((nodes ++ Comma ∷ []) ++ (more ++ Comma ∷ [])) ≡ Ok (partial, more ++ Comma ∷ []) = subst (λ (q : List Token). marked most (length x.0.1) root_alone (q ++ (more ++ Comma ∷ [])) ≡ Ok (partial, more ++ Comma ∷ [])) front (r.2 (more ++ Comma ∷ [])) in
        let all : (nodes ++ t ∷ more) ++ Comma ∷ [] ≡ (nodes ++ Comma ∷ []) ++ (more ++ Comma ∷ []) = rw (← c) (after_comma_too nodes Comma more ∙ sym (append_assoc nodes (Comma ∷ []) (more ++ Comma ∷ []))) in
        let same = ok_same (g.partial, []) (partial, more ++ Comma ∷ []) (sym g.is_read ∙ ap (marked most (length x.0.1) root_alone) all ∙ there) in
        absurd (not_empty more Comma [] (sym (ap (λ (z : PartialTree × List Token). z.1) same)))

-- nodes stop
pub nodes_stops : (most : ℕ) (tokens : List Token) (x : FrontPart × List Token) (kind : EfgKind) (rest : List Token) (h : ReadsFront tokens x) → length x.0.1 < 2 ^ 32 → most_nodes ≤ most → StopsAsMarked (marked most (length x.0.1) root_alone x.1) kind rest → (rest ≡ [] → ¬ (IsFile tokens)) → StopsAfter tokens h rest
nodes_stops most tokens x kind rest h few le (inl e) none = stuck_stops most tokens x kind rest h few le e none
nodes_stops most tokens x kind rest h few le (inr y) none = subst (StopsAfter tokens h) (sym y.3) (comma_stops most tokens x y.0.0 y.0.1 h few le y.1)

-- all nodes stop where they stop up to a comma
all_nodes_stop : (most players : ℕ) (tokens : List Token) (kind : EfgKind) (rest : List Token) → suc (length tokens) ≤ most → located_all_nodes players tokens ≡ Err (kind, rest) → (other : EfgKind) × StopsAsMarked (marked most players root_alone tokens) other rest
unfolding located_all_nodes
all_nodes_stop most players tokens kind rest le e = elim (bind_err (located_nodes (suc (length tokens)) players root_alone tokens) located_end (kind, rest) e) [
  | inl f ↦ (kind, nodes_stop (suc (length tokens)) most players root_alone tokens kind rest (nothing_keeps players) (omega arith) le f)
  | inr x ↦ (Node, following x.0 x.1 x.2)
]
  where
    following : (x : PartialTree × List Token) → located_nodes (suc (length tokens)) players root_alone tokens ≡ Ok x → located_end x ≡ Err (kind, rest) → StopsAsMarked (marked most players root_alone tokens) Node rest
    following (partial, []) e f = absurd (ok_err partial (kind, rest) f)
    following (partial, t ∷ r) e f = subst (λ (q : List Token). StopsAsMarked (marked most players root_alone tokens) Node q) (ap (λ (z : EfgKind × List Token). z.1) (err_same (Trailing, t ∷ r) (kind, rest) f)) (nodes_end (suc (length tokens)) most players root_alone tokens partial t r (nothing_keeps players) le e)

-- inside the nodes the end is a fault of its own
pub inner_fault : {X : Type 0} (o : Result X (EfgKind × List Token)) (kind : EfgKind) (rest : List Token) → in_located o ≡ Err (kind, rest) → (other : EfgKind) × (o ≡ Err (other, rest)) × (((rest ≡ []) × (kind ≡ Unfinished)) ⊎ ((kind ≡ other) × (t : Token) × (r : List Token) × (rest ≡ t ∷ r)))
inner_fault {X} (Ok x) kind rest e = absurd (ok_err x (kind, rest) e)
inner_fault {X} (Err (other, [])) kind rest e =
    let same = err_same (Unfinished, []) (kind, rest) e in
    let none : rest ≡ [] = sym (ap (λ (z : EfgKind × List Token). z.1) same) in
    (other, ap (λ (q : List Token). Err (other, q)) (sym none), inl (none, sym (ap (λ (z : EfgKind × List Token). z.0) same)))
inner_fault {X} (Err (other, t ∷ r)) kind rest e =
    let same = err_same (other, t ∷ r) (kind, rest) e in
    let all : rest ≡ t ∷ r = sym (ap (λ (z : EfgKind × List Token). z.1) same) in
    (other, ap (λ (q : List Token). Err (other, q)) (sym all), inr (sym (ap (λ (z : EfgKind × List Token). z.0) same), t, r, all))

-- where nodes stop after a front
pub body_stops : (tokens : List Token) (x : FrontPart × List Token) (kind : EfgKind) (rest : List Token) → length x.0.1 < 2 ^ 32 → parse_front tokens ≡ Ok x → located_all_nodes (length x.0.1) x.1 ≡ Err (kind, rest) → (¬ (IsFile tokens)) → (h : ReadsFront tokens x) × (s : Stops tokens rest) × (inner : List Token) × (s.before ≡ h.front ++ inner)
body_stops tokens x kind rest few e f none = by (suc (length x.1) + most_nodes) (omega arith) (omega arith)
  where
    by : (most : ℕ) → suc (length x.1) ≤ most → most_nodes ≤ most → (h : ReadsFront tokens x) × (s : Stops tokens rest) × (inner : List Token) × (s.before ≡ h.front ++ inner)
    by most steps limit =
        let h = front_read_is tokens x e in
        let m = all_nodes_stop most (length x.0.1) x.1 kind rest steps f in
        let s = nodes_stops most tokens x m.0 rest h few limit m.1 (λ _. none) in
        (h, s.0, s.1, s.2)
