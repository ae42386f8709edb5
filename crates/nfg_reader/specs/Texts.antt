-- The words for a fault in a file of a table.
use Rattle.std.specs.Prelude.{ℕ, List, codes}
use Rattle.nfg_reader.specs.declared.reading.NfgKind.{NfgKind}
use Rattle.nfg_reader.specs.declared.reading.NfgKind.TheVariants as nfg_kind

-- the kind of a fault
abbrev pub nfg_kind_text : NfgKind → List ℕ
nfg_kind_text nfg_kind.Header = codes "header"
nfg_kind_text nfg_kind.Players = codes "players"
nfg_kind_text nfg_kind.Strategies = codes "strategies"
nfg_kind_text nfg_kind.Outcome = codes "outcome"
nfg_kind_text nfg_kind.PayoffCount = codes "payoff count"
nfg_kind_text nfg_kind.Trailing = codes "trailing"
