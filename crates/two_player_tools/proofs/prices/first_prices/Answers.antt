use Rattle.std.proofs.Common.{◌≡◌, suc, [], ◌∙◌, ap, arith}
use Rattle.zero_sum_lp.specs.Parts.{first_prices}
use Rattle.game_theory.specs.Lines.{listed}
use Rattle.game_theory.proofs.EntryLemmas.{listed-push}
use Rattle.two_player_tools.proofs.prices.first_prices.Goals as goal

pub loop-set-preserved : goal.loop-set-preserved
loop-set-preserved c =
    listed-push c.push.new.self.items c.loop-set.prices.items [] c.loop-set.set (first_prices c.args.optimum.now) c.price_one.result c.loop-set.invariant c.in_ok-push.ensures.items c.price_one.ensures

pub returns : goal.returns
returns c =
    let all : c.loop-set.set ≡ suc c.args.sets = omega arith in
    c.loop-set.invariant ∙ ap (λ n. listed n (first_prices c.args.optimum.now)) all
