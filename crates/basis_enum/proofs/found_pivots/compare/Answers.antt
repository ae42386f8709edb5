use Rattle.std.proofs.Common.{rules, ◌∙◌}
use Rattle.basis_enum.proofs.FirstPivotLemmas.{keys_ranked}
use Rattle.basis_enum.proofs.found_pivots.compare.Goals as goal

pub returns : goal.returns
returns c =
    c.cmp.ensures ∙ keys_ranked c.order_key.result c.order_key-2.result c.args.a.now c.args.b.now c.order_key.ensures c.order_key-2.ensures (search rules) (search rules) (search rules) (search rules)
