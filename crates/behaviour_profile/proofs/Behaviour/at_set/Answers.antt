use Rattle.std.proofs.Common.{◌+◌, ◌≤◌, ◌∙◌, length, slice_index_or, ap, sym, subst, arith}
use Rattle.game_core.specs.TreeGame.{game_of_tree}
use Rattle.game_theory.specs.Lines.{listed}
use Rattle.behaviour_profile.proofs.EntryStartLemmas.{starts-within, starts-read}
use Rattle.behaviour_profile.proofs.ListedEntryLemmas.{listed-part}
use Rattle.behaviour_profile.proofs.Behaviour.at_set.Goals as goal
use Rattle.behaviour_profile.proofs.Behaviour.at_set.Goals.{After-action_count}

-- the set's entries are there
within : (c : After-action_count) → slice_index_or c.args.starts.now c.args.set 0 + c.action_count.result ≤ length c.deref.result.now
within c =
    let set = c.requires.set in
    subst (λ n. slice_index_or c.args.starts.now c.args.set 0 + n ≤ length c.deref.result.now) (sym c.action_count.ensures)
    (starts-within (game_of_tree c.args.tree.now) c.args.starts.now c.deref.result.now c.requires.entries.0 c.stands_for_game_tree.ensures.game c.requires.starts (c.deref.ensures.value ∙ c.self.view_is ∙ c.requires.entries.1) c.args.set set.0 set.1 set.2)

pub overflow_add-result : goal.overflow_add-result
overflow_add-result c = omega (arith, within (goal.at.overflow_add-result c).After-action_count, c.deref.ensures.len)

pub offset_bounds-deref-start : goal.offset_bounds-deref-start
offset_bounds-deref-start c = omega (arith, within (goal.at.offset_bounds-deref-start c).After-action_count, c.deref.ensures.len)

pub slice_bounds-result-end : goal.slice_bounds-result-end
slice_bounds-result-end c = within (goal.at.slice_bounds-result-end c).After-action_count

pub returns : goal.returns
returns c = λ b is.
    let t = game_of_tree c.args.tree.now in
    let set = c.requires.set in
    listed-part c.action_count.result (slice_index_or c.args.starts.now c.args.set 0) c.deref.result.now (b c.args.set) (within (goal.at.returns c).After-action_count)
    (λ k l. starts-read t c.args.starts.now c.deref.result.now b c.stands_for_game_tree.ensures.game c.requires.starts (c.deref.ensures.value ∙ c.self.view_is ∙ is) c.args.set set.0 k set.1 set.2 (omega (arith, l, c.action_count.ensures)))
    ∙ ap (λ n. listed n (b c.args.set)) c.action_count.ensures
