use Rattle.std.proofs.Common.{◌-◌, ◌≡◌, refl, rules}
use Rattle.std.specs.Ordering.{nat_cmp}
use Rattle.std.proofs.lemmas.Iterator.{YieldsList-from_slice, YieldsList-from_map}
use Rattle.std.proofs.lemmas.Iterator.Consumers.{YieldsList-at}
use Rattle.std.proofs.lemmas.Iterator.Search.{cmp_from_yields_List}
use Rattle.enumpure_trees.proofs.orders.compare_completed.Goals as goal

pub returns : goal.returns
returns c =
    cmp_from_yields_List (λ x y. y ≡ x) _ nat_cmp _ c.cmp.ensures.ran (YieldsList-from_map _ (λ n. n - 1) (YieldsList-from_slice c.args.one.now cc) c.map-one.ensures.closure (λ x r q k. search rules)) (λ it e. YieldsList-at e (YieldsList-from_map _ (λ n. n - 1) (YieldsList-from_slice c.args.other.now cc) c.map.ensures.closure (λ x r q k. search rules))) (λ x y. refl)
