use Rattle.std.proofs.Common.{List, ◌<◌, ◌∙◌, All, length, map, arith, ap, sym, subst, subst₂}
use Rattle.std.specs.List.Sorted.{IsStrictlyIncreasing}
use Rattle.rational.specs.Rational.{ℚ}
use Rattle.game_core.specs.Table.{game_of}
use Rattle.game_core.proofs.TableCountLemmas.{strategy_count-names}
use Rattle.kept_strategies.proofs.EliminationLemmas.{kept-all}
use Rattle.enummixed.specs.ExtremeText.{IsExtremeEquilibriaText}
use Rattle.enummixed.specs.Pairs.{pairs_of}
use Rattle.enummixed.specs.Spread.{AreSpreadPoints}
use Rattle.enummixed.proofs.KeptLineLemmas.{two-counts, spread-text}
use Rattle.enummixed.proofs.VertexPairLemmas.{within-weaker}
use Rattle.enummixed.proofs.listing.spread_text.Goals as goal

pub spread_points-requires-clause-within : goal.spread_points-requires-clause-within
spread_points-requires-clause-within c =
    subst (λ n. All (λ s. s < n) c.first.result.now) (strategy_count-names c.args.table.now 0 c.strategies.result.now c.strategies.ensures.strategies)
    (kept-all c.args.table.now 0 c.args.kept.now.first c.first.result.now (c.requires.kept.are_kept.are_kept 0 (omega arith)) c.first.ensures)

pub spread_points-requires-2-clause-ascending : goal.spread_points-requires-2-clause-ascending
spread_points-requires-2-clause-ascending c =
    subst IsStrictlyIncreasing (sym c.second.ensures) (c.requires.kept.are_kept.are_kept 1 (omega arith)).ascending

pub spread_points-requires-2-clause-within : goal.spread_points-requires-2-clause-within
spread_points-requires-2-clause-within c =
    subst (λ n. All (λ s. s < n) c.second.result.now) (strategy_count-names c.args.table.now 1 c.strategies-2.result.now c.strategies-2.ensures.strategies)
    (kept-all c.args.table.now 1 c.args.kept.now.second c.second.result.now (c.requires.kept.are_kept.are_kept 1 (omega arith)) c.second.ensures)

pub returns : goal.returns
returns c = λ h.
    let t = c.args.table.now in
    let k = c.args.kept.now in
    let firsts : List (List ℚ) = map (λ v. v.items) c.as_slice-firsts.result.now in
    let seconds : List (List ℚ) = map (λ v. v.items) c.as_slice-seconds.result.now in
    let wide : List (List ℚ) = map (λ v. v.items) c.deref.result.now in
    let wide' : List (List ℚ) = map (λ v. v.items) c.deref-2.result.now in
    let m = length c.strategies.result.now in
    let n = length c.strategies-2.result.now in
    let spread : AreSpreadPoints m k.first firsts wide = subst₂ (λ places points. AreSpreadPoints m places firsts (map (λ v. v.items) points)) c.first.ensures (sym c.deref.ensures.value) (c.in_ok-wide_firsts.ensures {u = tt}) in
    let spread' : AreSpreadPoints n k.second seconds wide' = subst₂ (λ places points. AreSpreadPoints n places seconds (map (λ v. v.items) points)) c.second.ensures (sym c.deref-2.ensures.value) (c.in_ok-wide_seconds.ensures {u = tt}) in
    let counts = two-counts t k c.requires.kept c.strategies.result.now c.strategies-2.result.now c.strategies.ensures.strategies c.strategies-2.ensures.strategies in
    within-weaker _ (IsExtremeEquilibriaText (game_of t)) (λ text r. subst (IsExtremeEquilibriaText (game_of t)) (sym r.is_text)
    (spread-text (game_of t) (game_of k.table) k.first k.second m n counts c.requires.kept.are_kept c.requires.kept.same_cells firsts seconds wide wide' spread spread' (pairs_of c.args.extreme) h r.sorted
    (ap (map (λ v. v.items)) c.as_slice-firsts.ensures.value ∙ c.requires.scaled.firsts) (ap (map (λ v. v.items)) c.as_slice-seconds.ensures.value ∙ c.requires.scaled.seconds) r.permutation r.in_order)) _ c.text_in_order.ensures
