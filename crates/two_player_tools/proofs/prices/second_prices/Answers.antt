use Rattle.std.proofs.Common.{◌≡◌, suc, [], ◌∙◌, ap, arith}
use Rattle.zero_sum_lp.specs.Parts.{second_prices}
use Rattle.game_theory.specs.Lines.{listed}
use Rattle.game_theory.proofs.EntryLemmas.{listed-push}
use Rattle.two_player_tools.proofs.prices.second_prices.Goals as goal

pub loop-set-preserved : goal.loop-set-preserved
loop-set-preserved c =
    listed-push c.push.new.self.items c.loop-set.prices.items [] c.loop-set.set (second_prices c.args.optimum.now) c.price_two.result c.loop-set.invariant c.in_ok-push.ensures.items c.price_two.ensures

pub returns : goal.returns
returns c =
    let all : c.loop-set.set ≡ suc c.args.sets = omega arith in
    c.loop-set.invariant ∙ ap (λ n. listed n (second_prices c.args.optimum.now)) all
