use Rattle.std.proofs.Common.{◌≡◌, ◌∙◌, ◌<◌, length, ap, sym, subst, arith}
use Rattle.extreme_equilibria.specs.Systems.{first_system, second_system}
use Rattle.reply_polytope.specs.Polytopes.{IsRatedSystem}
use Rattle.reply_polytope.specs.Shapes.{cell_in}
use Rattle.game_core.proofs.TableCountLemmas.{few_players, some_profile}
use Rattle.reply_polytope.proofs.TableLemmas.{profiles-are, long-is, labels-stop, first-stop, second-stop, polytopes-are}
use Rattle.reply_polytope.proofs.table_systems.polytopes.Goals as goal

pub overflow_cast-result : goal.overflow_cast-result
overflow_cast-result c =
    omega (arith, few_players c.args.table.now c.players-players.ensures.valid, ap length c.players-players.ensures.players)

pub returns-in_err-within : goal.returns-in_err-within
returns-in_err-within c =
    let t = c.args.table.now in
    let valid = c.players-players.ensures.valid in
    let two : length t.players ≡ 2 = omega (arith, ap length c.players-players.ensures.players, c.if-players-ne2.false) in
    labels-stop t valid two c.strategy_count-rows.result c.strategy_count-columns.result c.strategy_count-rows.ensures.count c.strategy_count-columns.ensures.count
    c.in_err-within.field-0.0 c.from_residual.result c.in_err-within.ensures c.from_residual.ensures.1

pub shifted_payoffs-requires-clause-some : goal.shifted_payoffs-requires-clause-some
shifted_payoffs-requires-clause-some c =
    let t = c.args.table.now in
    let valid = c.players-players.ensures.valid in
    let two : length t.players ≡ 2 = omega (arith, ap length c.players-players.ensures.players, c.if-players-ne2.false) in
    subst (λ k. 0 < k) (sym (profiles-are t valid two c.strategy_count-rows.result c.strategy_count-columns.result c.strategy_count-rows.ensures.count c.strategy_count-columns.ensures.count)) (some_profile t valid)

pub returns-in_err-first : goal.returns-in_err-first
returns-in_err-first c =
    let t = c.args.table.now in
    let valid = c.players-players.ensures.valid in
    let two : length t.players ≡ 2 = omega (arith, ap length c.players-players.ensures.players, c.if-players-ne2.false) in
    first-stop t valid two c.strategy_count-rows.result c.strategy_count-columns.result c.strategy_count-rows.ensures.count c.strategy_count-columns.ensures.count c.in_ok-within.ensures
    c.in_err-first.field-0.0 c.from_residual-in_err-first.result c.in_err-first.ensures c.from_residual-in_err-first.ensures.1

pub returns-in_err-second : goal.returns-in_err-second
returns-in_err-second c =
    let t = c.args.table.now in
    let valid = c.players-players.ensures.valid in
    let two : length t.players ≡ 2 = omega (arith, ap length c.players-players.ensures.players, c.if-players-ne2.false) in
    second-stop t valid two c.strategy_count-rows.result c.strategy_count-columns.result c.strategy_count-rows.ensures.count c.strategy_count-columns.ensures.count c.in_ok-within.ensures
    c.in_ok-first.first.items c.in_ok-first.ensures c.in_err-second.field-0.0 c.from_residual-in_err-second.result c.in_err-second.ensures c.from_residual-in_err-second.ensures.1

pub second_reply_system-requires-clause-payoffs : goal.second_reply_system-requires-clause-payoffs
second_reply_system-requires-clause-payoffs c =
    let t = c.args.table.now in
    let valid = c.players-players.ensures.valid in
    let two : length t.players ≡ 2 = omega (arith, ap length c.players-players.ensures.players, c.if-players-ne2.false) in
    ap length c.deref-2.ensures.value ∙ long-is t valid two c.strategy_count-rows.result c.strategy_count-columns.result c.strategy_count-rows.ensures.count c.strategy_count-columns.ensures.count 0 c.in_ok-first.first.items c.in_ok-first.ensures

pub first_reply_system-requires-clause-payoffs : goal.first_reply_system-requires-clause-payoffs
first_reply_system-requires-clause-payoffs c =
    let t = c.args.table.now in
    let valid = c.players-players.ensures.valid in
    let two : length t.players ≡ 2 = omega (arith, ap length c.players-players.ensures.players, c.if-players-ne2.false) in
    ap length c.deref.ensures.value ∙ long-is t valid two c.strategy_count-rows.result c.strategy_count-columns.result c.strategy_count-rows.ensures.count c.strategy_count-columns.ensures.count 1 c.in_ok-second.second.items c.in_ok-second.ensures

pub returns : goal.returns
returns c =
    let t = c.args.table.now in
    let valid = c.players-players.ensures.valid in
    let two : length t.players ≡ 2 = omega (arith, ap length c.players-players.ensures.players, c.if-players-ne2.false) in
    let m = c.strategy_count-rows.result in
    let n = c.strategy_count-columns.result in
    polytopes-are t valid two m n c.strategy_count-rows.ensures.count c.strategy_count-columns.ensures.count c.in_ok-within.ensures c.in_ok-first.first.items c.in_ok-second.second.items c.in_ok-first.ensures c.in_ok-second.ensures c.in_ok-one.one c.in_ok-two.two
    (subst (λ xs. IsRatedSystem (first_system m n (cell_in xs m 1)) c.in_ok-one.one) c.deref.ensures.value c.in_ok-one.ensures)
    (subst (λ xs. IsRatedSystem (second_system m n (cell_in xs 1 m)) c.in_ok-two.two) c.deref-2.ensures.value c.in_ok-two.ensures)
