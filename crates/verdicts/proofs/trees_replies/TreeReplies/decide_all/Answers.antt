use Rattle.std.proofs.Common.{◌≡◌, ◌∙◌, [], ◌∷◌, ◌++◌, ap, sym, append_assoc}
use Rattle.std.proofs.lemmas.List.{append-nil}
use Rattle.std.proofs.lemmas.Result.{err_from_is_err_and}
use Rattle.std.specs.Iterator.Adapters.{rev_source}
use Rattle.std.specs.Slice.Iter.{iter_rest}
use Rattle.game_theory.specs.OwnSets.{own_sets}
use Rattle.verdicts.specs.TreeReplies.{tree_game_at}
use Rattle.verdicts.proofs.TreeOwnSetLemmas.{all-done, all-none, all-own, between-own, decision-refused, later-decided}
use Rattle.verdicts.proofs.trees_replies.TreeReplies.decide_all.Goals as goal
use Rattle.verdicts.proofs.trees_replies.TreeReplies.decide_all.Goals.{In-Some}

-- the own sets: those that are left, this one, and the later ones
own : (c : In-Some) → iter_rest (rev_source c.next.new.self) ++ c.in-Some.set.now ∷ c.loop-set.invariant.later ≡ own_sets (tree_game_at c.args.self.now) c.args.self.now.player
own c =
    let left = iter_rest (rev_source c.next.new.self) in
    sym (append_assoc left (c.in-Some.set.now ∷ []) c.loop-set.invariant.later) ∙ ap (λ xs. xs ++ c.loop-set.invariant.later) (sym c.in-Some.ensures.steps) ∙ c.loop-set.invariant.own

pub loop-set-init : goal.loop-set-init
loop-set-init c =
    let all = ap (λ iterator. iter_rest (rev_source iterator)) c.into_iter-set-iterator.ensures.into_iter_gives ∙ ap iter_rest c.rev-set-items.ensures.source ∙ c.iter.ensures.rest ∙ c.sets_of.ensures in
    record {
      choices = c.requires.choices;
      later = [];
      own = append-nil _ ∙ all;
      decided = λ b choice none. all-none (tree_game_at c.args.self.now) b c.args.self.now.player choice _ _ _ _ all none;
    }

pub decide-requires-clause-set : goal.decide-requires-clause-set
decide-requires-clause-set c =
    (between-own (tree_game_at c.args.self.now) c.args.self.now.player c.in-Some.set.now _ _ (own (goal.at.decide-requires-clause-set c).In-Some)).0

pub decide-requires-clause-own : goal.decide-requires-clause-own
decide-requires-clause-own c =
    (between-own (tree_game_at c.args.self.now) c.args.self.now.player c.in-Some.set.now _ _ (own (goal.at.decide-requires-clause-own c).In-Some)).1

pub loop-set-preserved : goal.loop-set-preserved
loop-set-preserved c =
    let t = tree_game_at c.args.self.now in
    let before = c.loop-set.invariant in
    let s = c.in-Some.set.now in
    let sets = own (goal.at.loop-set-preserved c).In-Some in
    record {
      choices = c.decide.ensures.choices;
      later = s ∷ before.later;
      own = sets;
      decided = λ b choice none.
          let made = c.in_ok-decide.ensures.decided b choice (later-decided t b c.args.self.now.player choice _ _ _ s _ _ before.later c.in-Some.ensures.steps sets (before.decided b choice none)) in
          all-own t b c.args.self.now.player choice _ _ _ s _ _ before.later c.in-Some.ensures.steps sets (before.decided b choice none) _ _ made.0 made.1;
    }

pub returns-in_err-decide-clause-decided : goal.returns-in_err-decide-clause-decided
returns-in_err-decide-clause-decided c = λ b choice none.
    let t = tree_game_at c.args.self.now in
    let before = c.loop-set.invariant in
    let s = c.in-Some.set.now in
    let sets = own (goal.at.returns-in_err-decide-clause-decided c).In-Some in
    let p = err_from_is_err_and c.from_residual.result c.from_residual.ensures.1 in
    rw (p.1, p.2) (decision-refused t b c.args.self.now.player choice _ _ _ s _ _ before.later c.in-Some.ensures.steps sets (before.decided b choice none) _
    (c.in_err-decide.ensures.decided b choice (later-decided t b c.args.self.now.player choice _ _ _ s _ _ before.later c.in-Some.ensures.steps sets (before.decided b choice none))))

pub returns-clause-decided : goal.returns-clause-decided
returns-clause-decided c = λ b choice none.
    let before = c.loop-set.invariant in
    all-done (tree_game_at c.args.self.now) b c.args.self.now.player choice _ _ _ _ before.later c.in-None.ensures.steps.0 before.own (before.decided b choice none)
