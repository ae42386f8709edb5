-- The words for what is counted.
use Rattle.std.specs.Prelude.{ℕ, List, codes}
use Rattle.game_core.specs.declared.too_large.What.{What}
use Rattle.game_core.specs.declared.too_large.What.TheVariants as what

-- what there are too many of
abbrev pub what_text : What → List ℕ
what_text what.Payoffs = codes "payoffs"
what_text what.Choices = codes "choices"
what_text what.Nodes = codes "nodes"
what_text what.Depth = codes "depth"
what_text what.Labels = codes "labels"
what_text what.Bases = codes "bases"
what_text what.Pairs = codes "pairs"
what_text what.Rows = codes "rows"
what_text what.Text = codes "bytes of text"
