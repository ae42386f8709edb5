use Rattle.std.proofs.Common.{◌≡◌, Some, sym, ◌∙◌}
use Rattle.std.specs.Prelude.{slice_get}
use Rattle.tree_grammar.proofs.SetStepLemmas.{count_found, found_at}
use Rattle.tree_grammar.proofs.sets.Sets.count.Goals as goal

pub returns-in-Some-get : goal.returns-in-Some-get
returns-in-Some-get c =
    let sets = c.self.inside.list.items in
    let set = c.in-Some-get.set.now in
    let lookup = rw c.deref.ensures.value at c.in-Some-get.ensures.lookup in
    let found : slice_get sets c.in-Some.set ≡ Some set = found_at sets c.in-Some.set set (lookup.0, lookup.1) in
    rw (← c.self.view_is, c.in-Some.is) (c.len.ensures ∙ set.actions.ok.0 ∙ sym (count_found sets c.in-Some.set set found))
