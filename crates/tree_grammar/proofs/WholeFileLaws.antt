-- A file of a tree is read whole, and what is read is a file.
use Rattle.std.proofs.Common.{◌≡◌, ◌<◌, ◌^◌, List, [], ◌∷◌, length, inl, inr, sym, ap, subst, arith}
use Rattle.std.specs.Prelude.{Result, Ok, Err, None}
use Rattle.game_core.specs.Tree.{GameTree}
use Rattle.game_core.specs.declared.token.Token.{Token}
use Rattle.file_parts.proofs.ReaderLemmas.{bind_ok, ok_same, ok_err}
use Rattle.tree_grammar.specs.TreeFile.{IsTreeFile}
use Rattle.tree_grammar.specs.TreeParsing.{FrontPart, NodeStop, within_limit, parse_front, in_nodes, parse_all_nodes, parse_tree}
use Rattle.tree_grammar.specs.declared.kinds.EfgKind.TheVariants.{Unfinished}
use Rattle.tree_grammar.proofs.FileLaws.{tree_read, read_is_file as is_file_of}
use Rattle.tree_grammar.proofs.NodeStopLemmas.{unlimited_read}
use Rattle.tree_grammar.proofs.FrontLaws.{front_read_is}

-- what is read as nodes was read without a fault
pub no_fault : {X : Type 0} (o : Result X NodeStop) (x : X) → in_nodes o ≡ Ok x → o ≡ Ok x
no_fault (Ok y) x e = e
no_fault {X} (Err (inl (kind, []))) x e = absurd (ok_err {A = X} x (inl (Unfinished, [])) (sym e))
no_fault {X} (Err (inl (kind, t ∷ rest))) x e = absurd (ok_err {A = X} x (inl (kind, t ∷ rest)) (sym e))
no_fault {X} (Err (inr what)) x e = absurd (ok_err {A = X} x (inr what) (sym e))

-- a file of a tree is read
pub file_is_read : (tokens : List Token) (tree : GameTree) → IsTreeFile tokens tree → parse_tree tokens ≡ Ok tree
unfolding parse_tree
file_is_read tokens tree f =
    let r = tree_read tokens tree f in
    rw (r.is_front, r.are_nodes) (ap (λ (t : GameTree). Ok t) (sym r.tree_is))

-- there are fewer players than tokens
pub few_players : (tokens : List Token) (x : FrontPart × List Token) → length tokens < 2 ^ 32 → parse_front tokens ≡ Ok x → length x.0.1 < 2 ^ 32
few_players tokens x short e = let h = front_read_is tokens x e in omega (arith, h.few, short)

-- what is read is a file, where there are few players
pub few_is_file : (tokens : List Token) (tree : GameTree) → ((x : FrontPart × List Token) → parse_front tokens ≡ Ok x → length x.0.1 < 2 ^ 32) → parse_tree tokens ≡ Ok tree → IsTreeFile tokens tree
unfolding parse_tree
few_is_file tokens tree few e =
    let a = bind_ok (within_limit None (parse_front tokens)) _ tree e in
    let front = unlimited_read (parse_front tokens) a.0 a.1 in
    let b = bind_ok (in_nodes (parse_all_nodes (length a.0.0.1) a.0.1)) _ tree a.2 in
    subst (IsTreeFile tokens) (ok_same _ _ b.2) (is_file_of tokens a.0 b.0 (few a.0 front) front (no_fault (parse_all_nodes (length a.0.0.1) a.0.1) b.0 b.1))

-- what is read is a file
pub read_is_file : (tokens : List Token) (tree : GameTree) → length tokens < 2 ^ 32 → parse_tree tokens ≡ Ok tree → IsTreeFile tokens tree
read_is_file tokens tree short e = few_is_file tokens tree (λ x h. few_players tokens x short h) e
