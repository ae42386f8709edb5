use Rattle.std.proofs.Common.{◌<◌, ◌≡◌, ◌+◌, ◌∙◌, ◌∷◌, [], ap, length, refl, sym, subst, arith}
use Rattle.std.specs.Prelude.{IfSome}
use Rattle.std.proofs.lemmas.Iterator.Adapters.{YieldsList-from_vec}
use Rattle.std.proofs.lemmas.Iterator.Consumers.{YieldsList-turn, YieldsList-end}
use Rattle.std.proofs.lemmas.List.{length-append}
use Rattle.std.proofs.lemmas.Result.{err_from_is_err_and}
use Rattle.basis_enum.specs.Children.{IsReachedAt}
use Rattle.basis_enum.specs.Found.{AreFoundIn}
use Rattle.basis_enum.proofs.NextLevelLemmas.{made_more, stop_made}
use Rattle.basis_enum.proofs.WalkLemmas.{adding_more, adding_start}
use Rattle.basis_enum.proofs.children.share_children.Goals as goal

pub unboxed-requires-clause-place_in : goal.unboxed-requires-clause-place_in
unboxed-requires-clause-place_in g c =
    let pieces = c.in_ok-pieces.pieces in
    let gives = c.into_iter-piece-iterator.ensures.into_iter_gives in
    let turn = YieldsList-turn (YieldsList-from_vec pieces.items gives.0 (gives.1 ∙ pieces.ok.0)) c.loop-piece.yielded c.loop-piece.piece-iterator c.loop-piece.yielded_by c.next.result c.next.new.self c.in-Some.piece c.in-Some.is c.next.ensures.steps in
    omega (arith, turn.0, c.in_ok-pieces.ensures.size, c.len.ensures, c.loop-piece.made.tableaux.ok.0, c.loop-piece.invariant.at, c.len-first.ensures, c.args.made.now.tableaux.ok.0)

pub unboxed-requires-clause-boxed : goal.unboxed-requires-clause-boxed
unboxed-requires-clause-boxed g c =
    let e = c.args.expansion.now in
    let first = c.len-first.result in
    let n = length c.loop-piece.yielded in
    let pieces = c.in_ok-pieces.pieces in
    let gives = c.into_iter-piece-iterator.ensures.into_iter_gives in
    let turn = YieldsList-turn (YieldsList-from_vec pieces.items gives.0 (gives.1 ∙ pieces.ok.0)) c.loop-piece.yielded c.loop-piece.piece-iterator c.loop-piece.yielded_by c.next.result c.next.new.self c.in-Some.piece c.in-Some.is c.next.ensures.steps in
    let met = c.in_ok-pieces.ensures.each n c.in-Some.piece turn.0 in
    let at : first + n ≡ c.len.result = omega (arith, c.len.ensures, c.loop-piece.made.tableaux.ok.0, c.loop-piece.invariant.at, c.len-first.ensures, c.args.made.now.tableaux.ok.0) in
    subst (λ k. IfSome c.in-Some.piece (λ b. IsReachedAt e k b.value)) at (subst (λ a. IfSome a (λ b. IsReachedAt e (first + n) b.value)) (sym turn.1) met)

pub loop-piece-preserved : goal.loop-piece-preserved
loop-piece-preserved g c =
    let e = c.args.expansion.now in
    let old = c.loop-piece.made in
    let is = c.loop-piece.invariant in
    let pieces = c.in_ok-pieces.pieces in
    let gives = c.into_iter-piece-iterator.ensures.into_iter_gives in
    let turn = YieldsList-turn (YieldsList-from_vec pieces.items gives.0 (gives.1 ∙ pieces.ok.0)) c.loop-piece.yielded c.loop-piece.piece-iterator c.loop-piece.yielded_by c.next.result c.next.new.self c.in-Some.piece c.in-Some.is c.next.ensures.steps in
    let below : c.len.result < length e.next.now = omega (arith, turn.0, c.in_ok-pieces.ensures.size, c.len.ensures, old.tableaux.ok.0, is.at, c.len-first.ensures, c.args.made.now.tableaux.ok.0) in
    let r = c.in_ok-reached.reached in
    let reached = c.in_ok-reached.ensures in
    let added = c.in_ok-add_reached.ensures in
    let size = ap length added.tableaux ∙ length-append old.tableaux.items (r.tableau ∷ []) in
    let one = length-append c.loop-piece.yielded (c.in-Some.piece ∷ []) in
    record {
      at = omega (arith, size, is.at, one);
      made = made_more e old _ c.len.result r (omega (arith, c.len.ensures, old.tableaux.ok.0)) below added.tableaux added.found is.made reached;
      vertices = adding_more e.system.now c.args.made.now.tableaux.items old.tableaux.items _ r.tableau c.args.vertices.now.items c.loop-piece.vertices.items _ r.findings.vertex added.tableaux added.vertices is.vertices reached.vertex;
      counted = omega (arith, c.tick.ensures, is.counted, size);
    }

pub returns-clause-all : goal.returns-clause-all
returns-clause-all g c =
    let pieces = c.in_ok-pieces.pieces in
    let gives = c.into_iter-piece-iterator.ensures.into_iter_gives in
    let end = YieldsList-end (YieldsList-from_vec pieces.items gives.0 (gives.1 ∙ pieces.ok.0)) c.loop-piece.yielded c.loop-piece.piece-iterator c.loop-piece.yielded_by c.next.result c.next.new.self c.in-None.is c.next.ensures.steps in
    omega (arith, end.1, c.loop-piece.invariant.at, c.in_ok-pieces.ensures.size, c.len-first.ensures, c.args.made.now.tableaux.ok.0)

pub loop-piece-init : goal.loop-piece-init
loop-piece-init g c = record {
  at = omega arith;
  made = record {
    tableaux = c.requires.made.tableaux;
    pivots_are = subst (AreFoundIn c.args.made.now.tableaux.items c.args.expansion.now.known.now) (sym c.reserve.ensures.items) c.requires.made.pivots_are;
  };
  vertices = adding_start c.args.expansion.now.system.now c.args.made.now.tableaux.items c.args.vertices.now.items;
  counted = refl;
}

pub returns-in_err-reached-clause-stop : goal.returns-in_err-reached-clause-stop
returns-in_err-reached-clause-stop g c =
    let pieces = c.in_ok-pieces.pieces in
    let gives = c.into_iter-piece-iterator.ensures.into_iter_gives in
    let turn = YieldsList-turn (YieldsList-from_vec pieces.items gives.0 (gives.1 ∙ pieces.ok.0)) c.loop-piece.yielded c.loop-piece.piece-iterator c.loop-piece.yielded_by c.next.result c.next.new.self c.in-Some.piece c.in-Some.is c.next.ensures.steps in
    let is = c.loop-piece.invariant in
    let below : c.len.result < length c.args.expansion.now.next.now = omega (arith, turn.0, c.in_ok-pieces.ensures.size, c.len.ensures, c.loop-piece.made.tableaux.ok.0, is.at, c.len-first.ensures, c.args.made.now.tableaux.ok.0) in
    let p = err_from_is_err_and c.from_residual-in_err-reached.result c.from_residual-in_err-reached.ensures.1 in
    rw (p.1, p.2) (stop_made c.args.expansion.now c.loop-piece.made c.len.result c.in_err-reached.field-0.0 (omega (arith, c.len.ensures, c.loop-piece.made.tableaux.ok.0)) below is.made c.in_err-reached.ensures)

pub returns-in_err-reached-clause-bounded : goal.returns-in_err-reached-clause-bounded
returns-in_err-reached-clause-bounded g c = omega (arith, c.loop-piece.invariant.counted, c.loop-piece.invariant.made.tableaux.within)

pub returns-in_err-reached-clause-risen : goal.returns-in_err-reached-clause-risen
returns-in_err-reached-clause-risen g c = omega (arith, c.loop-piece.invariant.counted, c.loop-piece.invariant.at)

pub returns-in_err-add_reached-clause-bounded : goal.returns-in_err-add_reached-clause-bounded
returns-in_err-add_reached-clause-bounded g c =
    let pieces = c.in_ok-pieces.pieces in
    let gives = c.into_iter-piece-iterator.ensures.into_iter_gives in
    let turn = YieldsList-turn (YieldsList-from_vec pieces.items gives.0 (gives.1 ∙ pieces.ok.0)) c.loop-piece.yielded c.loop-piece.piece-iterator c.loop-piece.yielded_by c.next.result c.next.new.self c.in-Some.piece c.in-Some.is c.next.ensures.steps in
    let is = c.loop-piece.invariant in
    let below : c.len.result < length c.args.expansion.now.next.now = omega (arith, turn.0, c.in_ok-pieces.ensures.size, c.len.ensures, c.loop-piece.made.tableaux.ok.0, is.at, c.len-first.ensures, c.args.made.now.tableaux.ok.0) in
    omega (arith, c.tick.ensures, is.counted, below, c.len.ensures, c.loop-piece.made.tableaux.ok.0)

pub returns-in_err-add_reached-clause-risen : goal.returns-in_err-add_reached-clause-risen
returns-in_err-add_reached-clause-risen g c = omega (arith, c.tick.ensures, c.loop-piece.invariant.counted, c.loop-piece.invariant.at)

pub returns-clause-bounded : goal.returns-clause-bounded
returns-clause-bounded g c = omega (arith, c.loop-piece.invariant.counted, c.loop-piece.invariant.made.tableaux.within)

pub returns-clause-risen : goal.returns-clause-risen
returns-clause-risen g c = omega (arith, c.loop-piece.invariant.counted, c.loop-piece.invariant.at)
