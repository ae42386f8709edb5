use Rattle.std.proofs.Common.{ℕ, ◌≡◌, ◌∙◌, ◌<◌, true, false, Option, None, Some, [], get_or, set, length, map, refl, sym, ap, subst, arith}
use Rattle.std.specs.Prelude.{is_some}
use Rattle.std.proofs.lemmas.List.{get_or-map, length-map, map-set, with_items_is}
use Rattle.game_theory.specs.Behaviour.{Behaviour}
use Rattle.game_theory.specs.Lines.{listed}
use Rattle.game_theory.specs.TreeEntries.{tree_entries}
use Rattle.game_theory.proofs.ProfileLineLemmas.{length-listed}
use Rattle.game_core.specs.TreeGame.{game_of_tree}
use Rattle.behaviour_profile.specs.EntryStarts.{AreBehaviourEntries}
use Rattle.two_player_tools.proofs.KnownCutLemmas.{kept-next, kept-passed}
use Rattle.two_player_tools.proofs.perfect.keep_lists.Goals.{then-is_some, else-is_some}
use Rattle.two_player_tools.proofs.perfect.keep_lists.Goals as goal

-- what is there
there : (o : Option ℕ) → is_some o ≡ true → (i : ℕ) × (o ≡ Some i)
there None e = absurd (cc e)
there (Some i) e = (i, refl)

-- where nothing is there
nothing : (o : Option ℕ) → is_some o ≡ false → o ≡ None
nothing None e = refl
nothing (Some i) e = absurd (cc e)

pub at_set-probabilities-requires-clause-entries :
    goal.at_set-probabilities-requires-clause-entries
at_set-probabilities-requires-clause-entries c = subst (λ tree. AreBehaviourEntries tree c.args.behaviour.now) (sym c.tree-tree.ensures) c.requires.entries

pub copy_from_slice-requires : goal.copy_from_slice-requires
copy_from_slice-requires c =
    let cut = c.args.cut.now in
    let n = c.loop-set.set in
    let lists = c.loop-set.lists in
    let found = c.requires.entries in
    let number = get_or c.sets.result.now n 0 in
    let below : n < length cut.sets = omega (arith, c.loop-set-test.true, ap length c.sets-set-end.ensures.sets, ap (λ t. length t.sets) c.tree-tree.ensures, c.requires.sets) in
    let same : number ≡ get_or cut.sets n 0 = ap (λ sets. get_or sets n 0) c.sets.ensures in
    let within : number < length lists = omega (arith, c.requires.within n 0 below, same, c.loop-set.auto.lists) in
    let room = (c.loop-set.invariant found.0 found.1).as_long (get_or cut.sets n 0) ∙ c.requires.room n below in
    let read = subst (λ tree. (b : Behaviour) → c.args.behaviour.now ≡ tree_entries (game_of_tree tree) b → c.at_set-probabilities.result.now ≡ listed ((game_of_tree tree).actions n) (b n)) c.tree-tree.ensures c.at_set-probabilities.ensures in
    ap length c.as_mut_slice.ensures.value ∙ ap length (sym (get_or-map (λ v. v.items) lists number c.index-lists-number.result [] within)) ∙ ap (λ k. length (get_or (map (λ v. v.items) lists) k [])) same ∙ room
    ∙ sym (ap length (read found.0 found.1) ∙ length-listed ((game_of_tree cut.tree).actions n) (found.0 n))

pub loop-set-preserved : goal.loop-set-preserved
loop-set-preserved c = λ b e.
    let cut = c.args.cut.now in
    let n = c.loop-set.set in
    let lists = c.loop-set.lists in
    let old = map (λ v. v.items) c.args.lists.now in
    let now = map (λ v. v.items) lists in
    let before = c.loop-set.invariant b e in
    let below : n < length cut.sets = omega (arith, c.loop-set-test.true, ap length c.sets-set-end.ensures.sets, ap (λ t. length t.sets) c.tree-tree.ensures, c.requires.sets) in
    let owner = c.owner.ensures ∙ ap (λ tree. (game_of_tree tree).owner n) c.tree-tree.ensures in
    elim c.if-is_some.branch [
      | then-is_some w ↦
          let number = get_or w.sets.result.now n 0 in
          let same : number ≡ get_or cut.sets n 0 = ap (λ sets. get_or sets n 0) w.sets.ensures in
          let read = subst (λ tree. (b : Behaviour) → c.args.behaviour.now ≡ tree_entries (game_of_tree tree) b → w.at_set-probabilities.result.now ≡ listed ((game_of_tree tree).actions n) (b n)) c.tree-tree.ensures w.at_set-probabilities.ensures in
          let held = get_or lists number w.index-lists-number.result in
          let written = with_items_is held w.copy_from_slice.new.self (w.copy_from_slice.ensures.len ∙ w.as_mut_slice.ensures.len) in
          let is_list = w.copy_from_slice.ensures.after ∙ read b e in
          let room = ap (λ k. length (get_or now k [])) same ∙ before.as_long (get_or cut.sets n 0) ∙ c.requires.room n below in
          let owned = there c.owner.result (sym c.is_some.ensures ∙ w.if-is_some.true) in
          kept-next cut n owned.0 b old now (map (λ v. v.items) c.if-is_some.lists) number w.copy_from_slice.new.self c.requires.differ below (sym owner ∙ owned.1) same
          (omega (arith, c.requires.within n 0 below, same, c.loop-set.auto.lists, length-map lists (λ v. v.items)))
          is_list (ap length is_list ∙ length-listed ((game_of_tree cut.tree).actions n) (b n) ∙ sym room)
          (ap (map (λ v. v.items)) w.lists-is ∙ map-set (λ v. v.items) lists number _ ∙ ap (set now number) written) before
      | else-is_some w ↦
          rw w.lists-is (kept-passed cut n b old now (sym owner ∙ nothing c.owner.result (sym c.is_some.ensures ∙ w.if-is_some.false)) before)
    ]
