-- What reading a whole file gives: the statements.
use Rattle.std.proofs.Common.{◌<◌, ◌^◌, ◌≡◌, List, length, Ok, Err, inl, inr}
use Rattle.game_core.specs.declared.too_large.What.{What}
use Rattle.game_core.specs.Tree.{GameTree}
use Rattle.written_trees.specs.Building.{PartialTree, tree_so_far}
use Rattle.tree_grammar.specs.TreeFile.{IsTreeFile, PassesLimit}
use Rattle.tree_grammar.specs.TreeParsing.{FrontPart, parse_front, parse_all_nodes}
use Rattle.tree_grammar.specs.declared.kinds.EfgKind.{EfgKind}
use Rattle.game_core.specs.declared.token.Token.{Token}

-- nothing that the tokens stand for
pub record StandForNothing (tokens : List Token) : Type 0 where
  pub no_tree : (t : GameTree) → IsTreeFile tokens t → ⊥
  pub no_limit : (what : What) → PassesLimit tokens what → ⊥

-- what is read is a file of the tree
abbrev pub ReadIsFile : Type 0
ReadIsFile =
    (tokens : List Token) (x : FrontPart × List Token) (partial : PartialTree) → length x.0.1 < 2 ^ 32 → parse_front tokens ≡ Ok x → parse_all_nodes (length x.0.1) x.1 ≡ Ok partial
    → IsTreeFile tokens (tree_so_far x.0.0 x.0.1 partial)

-- a limit that is met is passed
abbrev pub MetIsPassed : Type 0
MetIsPassed =
    (tokens : List Token) (x : FrontPart × List Token) (what : What) → length x.0.1 < 2 ^ 32 → parse_front tokens ≡ Ok x → parse_all_nodes (length x.0.1) x.1 ≡ Err (inr what)
    → PassesLimit tokens what

-- tokens of which nothing is read stand for nothing
abbrev pub NoFrontIsNothing : Type 0
NoFrontIsNothing = (tokens : List Token) (fault : EfgKind × List Token) → parse_front tokens ≡ Err fault → StandForNothing tokens

abbrev pub NoNodesAreNothing : Type 0
NoNodesAreNothing =
    (tokens : List Token) (x : FrontPart × List Token) (fault : EfgKind × List Token) → parse_front tokens ≡ Ok x → parse_all_nodes (length x.0.1) x.1 ≡ Err (inl fault)
    → StandForNothing tokens

-- tokens stand for one tree at most, or pass one limit
abbrev pub OneTree : Type 0
OneTree = (tokens : List Token) (one other : GameTree) → IsTreeFile tokens one → IsTreeFile tokens other → one ≡ other

abbrev pub NotPassed : Type 0
NotPassed = (tokens : List Token) (t : GameTree) (what : What) → IsTreeFile tokens t → PassesLimit tokens what → ⊥

abbrev pub OneLimit : Type 0
OneLimit = (tokens : List Token) (one other : What) → PassesLimit tokens one → PassesLimit tokens other → one ≡ other
