-- What is read of a whole file is what its tokens stand for.
use Rattle.std.proofs.Common.{◌≡◌, ℕ, ◌<◌, ◌^◌, List, [], ◌∷◌, ◌++◌, length, Option, Some, Result, Ok, Err, inl, inr, refl, sym, ap, ap₂, ◌∙◌, subst, append_assoc}
use Rattle.std.proofs.lemmas.List.{append-nil}
use Rattle.game_core.specs.declared.too_large.What.{What}
use Rattle.game_core.specs.Tree.{GameTree, OpenBranch}
use Rattle.file_parts.specs.Reading.{optional_text_at, after_text}
use Rattle.written_trees.specs.Written.{WrittenNode}
use Rattle.written_trees.specs.Building.{PartialTree, root_alone, passed, tree_so_far, open_branches}
use Rattle.written_trees.specs.Described.{PassesAt}
use Rattle.written_trees.specs.Laws.{IsBuilt}
use Rattle.tree_grammar.specs.TreeFile.{IsPartialFile, IsTreeFile, PassesLimit}
use Rattle.tree_grammar.specs.TreeParsing.{FrontPart, NodeStop, parse_front, parse_all_nodes}
use Rattle.written_trees.proofs.BuiltTreeLemmas.{built_is_so}
use Rattle.written_trees.proofs.LimitLemmas.{limits_are_so}
use Rattle.written_trees.proofs.DescribedTreeLemmas.{described_is_so}
use Rattle.written_trees.proofs.SoundTreeLemmas.{sound}
use Rattle.tree_grammar.proofs.FileStatementLemmas.{ReadIsFile, MetIsPassed, NoFrontIsNothing, NoNodesAreNothing, OneTree, NotPassed, OneLimit}
use Rattle.tree_grammar.proofs.SetLaws.{IsBare}
use Rattle.tree_grammar.proofs.NodeLaws.{beginning_is}
use Rattle.tree_grammar.proofs.NodesLaws.{BeginsWithNodes, nodes_bare, whole_again, all_written}
use Rattle.tree_grammar.proofs.NodesReadLaws.{all_nodes_are, all_nodes_met, all_nodes_again, all_nodes_beyond}
use Rattle.tree_grammar.proofs.FrontLaws.{front_read_is, front_again}
use Rattle.file_parts.proofs.ReaderLemmas.{ok_same, ok_err}
use Rattle.game_core.specs.declared.token.Token.{Token}
use Rattle.game_core.specs.declared.token.Token.TheVariants.{Text, Word}

-- ---- what was read is a file
-- a file that is partial comes first
abbrev pub BeginsWithFile : List Token → FrontPart → PartialTree × List Token → Type 0
BeginsWithFile tokens front y = (partial : List Token) × IsPartialFile partial (tree_so_far front.0 front.1 y.0) (open_branches y.0.branchings) × (tokens ≡ partial ++ y.1)

-- a front and nodes after it begin a file
pub partial_is : (tokens : List Token) (x : FrontPart × List Token) (y : PartialTree × List Token) → length x.0.1 < 2 ^ 32 → parse_front tokens ≡ Ok x → BeginsWithNodes (length x.0.1) root_alone x.1 y → BeginsWithFile tokens x.0 y
partial_is tokens x y few e n =
    let f = front_read_is tokens x e in
    let is : IsPartialFile (f.front ++ n.nodes) (tree_so_far x.0.0 x.0.1 y.0) (open_branches y.0.branchings) = record {
      front = f.front;
      is_front = f.is_front;
      written = n.written;
      nodes = n.nodes;
      are_nodes = n.are_nodes;
      describe = built_is_so x.0.0 x.0.1 n.written y.0 few (all_written (length x.0.1) n.nodes n.written n.are_nodes) n.added;
      are_tokens = refl;
    } in
    (f.front ++ n.nodes, is, f.is ∙ ap (λ (r : List Token). f.front ++ r) n.is ∙ sym (append_assoc f.front n.nodes y.1))

-- what is read is a file of the tree
pub read_is_file : ReadIsFile
read_is_file tokens x partial few front nodes =
    let t = tree_so_far x.0.0 x.0.1 partial in
    let n = all_nodes_are (length x.0.1) x.1 partial nodes in
    let f = partial_is tokens x (partial, []) few front n.0 in
    let same : f.0 ≡ tokens = sym (f.2 ∙ append-nil f.0) in
    subst (λ (all : List Token). IsTreeFile all t) same (subst (λ (free : List OpenBranch). IsPartialFile f.0 t free) n.1 f.1)

-- a limit that is met is passed
pub met_is_passed : MetIsPassed
met_is_passed tokens x what few front nodes =
    let b = all_nodes_met (length x.0.1) x.1 what nodes in
    let f = partial_is tokens x b.x few front b.nodes in
    let word = beginning_is b.x.1 b.begins in
    record {
      tree = tree_so_far x.0.0 x.0.1 b.x.0;
      free = open_branches b.x.0.branchings;
      partial = f.0;
      is_partial = f.1;
      passes = (limits_are_so b.nodes.written x.0.0 x.0.1 b.x.0 b.nodes.added).passes what b.limit;
      word = word.word;
      is_word = word.is_word;
      rest = word.tail;
      are_tokens = f.2 ∙ ap (λ (r : List Token). f.0 ++ r) word.is;
    }

-- ---- what tokens stand for is read
-- what is bare begins with no text
bare_after : (tokens : List Token) → (optional_text_at tokens).1 ≡ after_text tokens
bare_after (Text text ∷ tokens) = refl
bare_after _ = refl

-- the front of a file that is partial is read
pub partial_front : (tokens partial rest : List Token) (t : GameTree) (free : List OpenBranch) (f : IsPartialFile partial t free) → tokens ≡ partial ++ rest → IsBare rest → parse_front tokens ≡ Ok ((t.title, t.players), f.nodes ++ rest)
partial_front tokens partial rest t free f e bare =
    let all : tokens ≡ f.front ++ (f.nodes ++ rest) = e ∙ ap (λ (r : List Token). r ++ rest) f.are_tokens ∙ append_assoc f.front f.nodes rest in
    let no_text = (nodes_bare (length t.players) f.nodes rest f.written f.are_nodes bare).no_text in
    let following : after_text (f.nodes ++ rest) ≡ f.nodes ++ rest = sym (bare_after (f.nodes ++ rest)) ∙ ap (λ (y : Option (List ℕ) × List Token). y.1) no_text in
    rw all (front_again f.front (f.nodes ++ rest) t.title t.players f.is_front following)

-- the front of a tree's file
pub tree_front : (tokens : List Token) (t : GameTree) (f : IsTreeFile tokens t) → parse_front tokens ≡ Ok ((t.title, t.players), f.nodes ++ [])
tree_front tokens t f = partial_front tokens tokens [] t [] f (sym (append-nil tokens)) (record { no_text = refl; no_list = refl })

-- the front of a file that passes a limit
passed_front : (tokens : List Token) (what : What) (p : PassesLimit tokens what) → parse_front tokens ≡ Ok ((p.tree.title, p.tree.players), p.is_partial.nodes ++ (Word p.word ∷ p.rest))
passed_front tokens what p = partial_front tokens p.partial (Word p.word ∷ p.rest) p.tree p.free p.is_partial p.are_tokens (record { no_text = refl; no_list = refl })

-- tokens of which no front is read stand for nothing
pub no_front_is_nothing : NoFrontIsNothing
no_front_is_nothing tokens fault e = record { no_tree = λ t f. absurd (ok_err _ fault (sym (tree_front tokens t f) ∙ e)); no_limit = λ what p. absurd (ok_err _ fault (sym (passed_front tokens what p) ∙ e)) }

-- what is read of a tree's file
pub record IsRead (tokens : List Token) (t : GameTree) : Type 0 where
  pub x : FrontPart × List Token
  pub is_front : parse_front tokens ≡ Ok x
  pub partial : PartialTree
  pub are_nodes : parse_all_nodes (length x.0.1) x.1 ≡ Ok partial
  pub tree_is : t ≡ tree_so_far x.0.0 x.0.1 partial

-- a tree's file is read
pub tree_read : (tokens : List Token) (t : GameTree) → IsTreeFile tokens t → IsRead tokens t
tree_read tokens t f =
    let built = described_is_so f.written t [] f.describe in
    let whole = whole_again built.partial (sound f.written built.partial built.is_built).are_branchings (sym built.free_is) in
    record {
      x = ((t.title, t.players), f.nodes ++ []);
      is_front = tree_front tokens t f;
      partial = built.partial;
      are_nodes = all_nodes_again (length t.players) built.partial f.nodes f.written f.are_nodes built.is_built whole;
      tree_is = built.tree_is;
    }

-- what is read of a file that passes a limit
record IsStopped (tokens : List Token) (what : What) : Type 0 where
  x : FrontPart × List Token
  is_front : parse_front tokens ≡ Ok x
  is_met : parse_all_nodes (length x.0.1) x.1 ≡ Err (inr what)

-- what passes by the tree passes by what was built
limit_built : (written : List WrittenNode) (t : GameTree) (free : List OpenBranch) (what : What) (built : IsBuilt written t free) → PassesAt t free what → passed built.partial ≡ Some what
limit_built written t free what built p =
    let so_far : GameTree = tree_so_far t.title t.players built.partial in
    let of_tree : PassesAt so_far free what = subst (λ (u : GameTree). PassesAt u free what) built.tree_is p in
    let of_both = subst (λ (places : List OpenBranch). PassesAt so_far places what) built.free_is of_tree in
    (limits_are_so written t.title t.players built.partial built.is_built).passed_so what of_both

-- a limit that is passed is met
stop_read : (tokens : List Token) (what : What) → PassesLimit tokens what → IsStopped tokens what
stop_read tokens what p =
    let f = p.is_partial in
    let t = p.tree in
    let following : List Token = Word p.word ∷ p.rest in
    let built = described_is_so f.written t p.free f.describe in
    record {
      x = ((t.title, t.players), f.nodes ++ following);
      is_front = passed_front tokens what p;
      is_met = all_nodes_beyond (length t.players) built.partial f.nodes f.written p.word p.rest what f.are_nodes built.is_built p.is_word (limit_built f.written t p.free what built p.passes);
    }

-- ---- tokens stand for one thing at most
-- one reading gives one answer
one_answer : (tokens : List Token) (x y : FrontPart × List Token) (r s : Result PartialTree NodeStop) → parse_front tokens ≡ Ok x → parse_front tokens ≡ Ok y → parse_all_nodes (length x.0.1) x.1 ≡ r → parse_all_nodes (length y.0.1) y.1 ≡ s → r ≡ s
one_answer tokens x y r s e f g h = sym g ∙ ap (λ (z : FrontPart × List Token). parse_all_nodes (length z.0.1) z.1) (ok_same x y (sym e ∙ f)) ∙ h

-- tokens of which no nodes are read stand for nothing
pub no_nodes_are_nothing : NoNodesAreNothing
no_nodes_are_nothing tokens x fault front none = record {
  no_tree = λ t f. let r = tree_read tokens t f in let same = one_answer tokens x r.x (Err (inl fault)) (Ok r.partial) front r.is_front none r.are_nodes in cc;
  no_limit = λ what p. let s = stop_read tokens what p in let same = one_answer tokens x s.x (Err (inl fault)) (Err (inr what)) front s.is_front none s.is_met in cc;
}

-- tokens stand for one tree at most
pub one_tree : OneTree
one_tree tokens one other f g =
    let r = tree_read tokens one f in
    let s = tree_read tokens other g in
    let fronts : r.x ≡ s.x = ok_same r.x s.x (sym r.is_front ∙ s.is_front) in
    let nodes : r.partial ≡ s.partial = let same = one_answer tokens r.x s.x (Ok r.partial) (Ok s.partial) r.is_front s.is_front r.are_nodes s.are_nodes in cc in
    r.tree_is ∙ ap₂ (λ (x : FrontPart × List Token) (b : PartialTree). tree_so_far x.0.0 x.0.1 b) fronts nodes ∙ sym s.tree_is

-- a tree's file passes no limit
pub not_passed : NotPassed
not_passed tokens t what f p =
    let r = tree_read tokens t f in
    let s = stop_read tokens what p in
    let same = one_answer tokens r.x s.x (Ok r.partial) (Err (inr what)) r.is_front s.is_front r.are_nodes s.is_met in
    cc

-- tokens pass one limit at most
pub one_limit : OneLimit
one_limit tokens one other p q =
    let r = stop_read tokens one p in
    let s = stop_read tokens other q in
    let same = one_answer tokens r.x s.x (Err (inr one)) (Err (inr other)) r.is_front s.is_front r.is_met s.is_met in
    cc
