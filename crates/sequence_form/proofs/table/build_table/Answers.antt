use Rattle.std.proofs.Common.{◌<◌, ◌∙◌, suc, All, List, ap, sym, subst, length, arith}
use Rattle.sequence_data.specs.Data.{IsSideData, LeafFits}
use Rattle.sequence_data.specs.declared.types.Leaf.{Leaf}
use Rattle.sequence_form.specs.Laws.{count_of_columns, count_of_rows}
use Rattle.sequence_form.specs.Sequences.{start_side}
use Rattle.sequence_form.proofs.BuiltFormLemmas.{table-gives}
use Rattle.game_core.proofs.TableCountLemmas.{few_players}
use Rattle.sequence_form.proofs.TableLeafLemmas.{columns-few, profiles-fit, rows-few, some-columns, some-profile, some-rows, start-is_side}
use Rattle.sequence_form.proofs.table.build_table.Goals as goal

pub overflow_cast-result : goal.overflow_cast-result
overflow_cast-result c = omega (arith, few_players c.args.table.now c.players-players.ensures.valid, ap length c.players-players.ensures.players)

pub overflow_cast-strategy_count : goal.overflow_cast-strategy_count
overflow_cast-strategy_count c =
    let two = ap length (sym c.players-players.ensures.players) ∙ c.if-players-ne2.false in
    omega (arith, rows-few c.args.table.now c.players-players.ensures.valid two, c.strategy_count.ensures.count)

pub start_side-requires : goal.start_side-requires
start_side-requires c =
    let two = ap length (sym c.players-players.ensures.players) ∙ c.if-players-ne2.false in
    omega (arith, rows-few c.args.table.now c.players-players.ensures.valid two, c.strategy_count.ensures.count)

pub overflow_cast-strategy_count-2 : goal.overflow_cast-strategy_count-2
overflow_cast-strategy_count-2 c =
    let two = ap length (sym c.players-players.ensures.players) ∙ c.if-players-ne2.false in
    omega (arith, columns-few c.args.table.now c.players-players.ensures.valid two, c.strategy_count-2.ensures.count)

pub start_side-requires-2 : goal.start_side-requires-2
start_side-requires-2 c =
    let two = ap length (sym c.players-players.ensures.players) ∙ c.if-players-ne2.false in
    omega (arith, columns-few c.args.table.now c.players-players.ensures.valid two, c.strategy_count-2.ensures.count)

pub of_leaves-requires-clause-first : goal.of_leaves-requires-clause-first
of_leaves-requires-clause-first c =
    let two = ap length (sym c.players-players.ensures.players) ∙ c.if-players-ne2.false in
    let is = c.in_ok-first.ensures ∙ ap start_side c.strategy_count.ensures.count in
    subst IsSideData (sym is) (start-is_side (count_of_rows c.args.table.now) (some-rows c.args.table.now c.players-players.ensures.valid two))

pub of_leaves-requires-clause-second : goal.of_leaves-requires-clause-second
of_leaves-requires-clause-second c =
    let two = ap length (sym c.players-players.ensures.players) ∙ c.if-players-ne2.false in
    let is = c.in_ok-second.ensures ∙ ap start_side c.strategy_count-2.ensures.count in
    subst IsSideData (sym is) (start-is_side (count_of_columns c.args.table.now) (some-columns c.args.table.now c.players-players.ensures.valid two))

pub of_leaves-requires-clause-some_leaf : goal.of_leaves-requires-clause-some_leaf
of_leaves-requires-clause-some_leaf c =
    let two = ap length (sym c.players-players.ensures.players) ∙ c.if-players-ne2.false in
    subst (λ (xs : List Leaf). 0 < length xs) (sym c.in_ok-leaves.ensures) (some-profile c.args.table.now c.players-players.ensures.valid two)

pub of_leaves-requires-clause-leaves_fit : goal.of_leaves-requires-clause-leaves_fit
of_leaves-requires-clause-leaves_fit c =
    let t = c.args.table.now in
    let two = ap length (sym c.players-players.ensures.players) ∙ c.if-players-ne2.false in
    let rows = ap (λ s. s.sequences) (c.in_ok-first.ensures ∙ ap start_side c.strategy_count.ensures.count) in
    let columns = ap (λ s. s.sequences) (c.in_ok-second.ensures ∙ ap start_side c.strategy_count-2.ensures.count) in
    let fit = subst (λ n. All (LeafFits n (suc (count_of_columns t))) c.in_ok-leaves.leaves.items) (sym rows) (subst (All (LeafFits (suc (count_of_rows t)) (suc (count_of_columns t)))) (sym c.in_ok-leaves.ensures) (profiles-fit t c.players-players.ensures.valid two)) in
    subst (λ n. All (LeafFits c.in_ok-first.first.sequences n) c.in_ok-leaves.leaves.items) (sym columns) fit

pub returns : goal.returns
returns c =
    let t = c.args.table.now in
    let two = ap length (sym c.players-players.ensures.players) ∙ c.if-players-ne2.false in
    let first = c.in_ok-first.ensures ∙ ap start_side c.strategy_count.ensures.count in
    let second = c.in_ok-second.ensures ∙ ap start_side c.strategy_count-2.ensures.count in
    table-gives t c.in_ok-first.first c.in_ok-second.second c.in_ok-leaves.leaves.items c.of_leaves.result two first second c.in_ok-leaves.ensures c.of_leaves.ensures
