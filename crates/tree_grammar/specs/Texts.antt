-- The words for a fault in a file of a tree.
use Rattle.std.specs.Prelude.{ℕ, List, ◌++◌, codes}
use Rattle.std.specs.Fmt.{decimal}
use Rattle.rational.specs.Text.{number_text}
use Rattle.frac128.specs.Texts.{step_text}
use Rattle.tree_grammar.specs.declared.kinds.EfgKind.{EfgKind}
use Rattle.tree_grammar.specs.declared.kinds.EfgKind.TheVariants as efg_kind

-- the kind of a fault
abbrev pub efg_kind_text : EfgKind → List ℕ
efg_kind_text efg_kind.Header = codes "header"
efg_kind_text efg_kind.Players = codes "players"
efg_kind_text efg_kind.Node = codes "node"
efg_kind_text efg_kind.UnknownPlayer = codes "unknown player"
efg_kind_text efg_kind.SetMismatch = codes "set mismatch"
efg_kind_text (efg_kind.Probability set sum) =
    codes "probability of set " ++ decimal set ++ codes " sums to " ++ number_text sum
efg_kind_text (efg_kind.ProbabilityRange set step) =
    codes "probability of set " ++ decimal set ++ codes " out of range: " ++ step_text step
efg_kind_text efg_kind.OutcomeMismatch = codes "outcome mismatch"
efg_kind_text efg_kind.Unfinished = codes "unfinished"
efg_kind_text efg_kind.Trailing = codes "trailing"
