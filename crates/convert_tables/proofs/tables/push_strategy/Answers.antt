use Rattle.std.proofs.Common.{◌<◌, ◌≡◌, ◌++◌, length, sym, ◌∙◌, subst, arith}
use Rattle.std.specs.Prelude.{OnOk}
use Rattle.convert_tables.specs.Layouts.{strategy_name}
use Rattle.convert_tables.specs.Names.{name_text}
use Rattle.game_core.proofs.TableCountLemmas.{strategy_count-names}
use Rattle.convert_tables.proofs.CellPlaceLemmas.{strategy_name_is}
use Rattle.convert_tables.proofs.tables.push_strategy.Goals as goal

pub bounds-strategies-strategy : goal.bounds-strategies-strategy
bounds-strategies-strategy c =
    omega (arith, c.requires.strategy, strategy_count-names c.args.table.now c.args.player c.strategies.result.now c.strategies.ensures.strategies)

pub returns : goal.returns
returns c =
    let t = c.args.table.now in
    let names = c.strategies.result.now in
    let inside : c.args.strategy < length names = omega (arith, c.requires.strategy, strategy_count-names t c.args.player names c.strategies.ensures.strategies) in
    let name : c.bytes.result.now ≡ strategy_name t c.args.player c.args.strategy = c.bytes.ensures ∙ sym (strategy_name_is t c.args.player c.args.strategy names c.index-strategies-strategy.result c.strategies.ensures.strategies inside c.index-strategies-strategy.is) in
    subst (λ v. OnOk c.push_name.result (c.push_name.new.text.items ≡ c.args.text.now.items ++ name_text c.args.style v)) name c.push_name.ensures
