-- What the tokens of a table answer: the table, or why it is not read.
use Rattle.std.specs.Prelude.{◌≡◌, Ok, Err}
use Rattle.answers.specs.Answers.{Answer}
use Rattle.game_core.specs.Limits.{first_above}
use Rattle.game_core.specs.Table.{GameTable, IsTable, most_payoffs}
use Rattle.game_core.specs.declared.too_large.What.TheVariants.{Payoffs}
use Rattle.game_core.specs.TokenList.{TokenList, bare}
use Rattle.file_parts.specs.Reading.{offset_of}
use Rattle.file_parts.specs.declared.stop.PartStop.{PartStop}
use Rattle.file_parts.specs.declared.stop.PartStop.TheVariants as part_stops
use Rattle.nfg_reader.specs.TableFile.{IsTableFile, HasTooManyPayoffs}
use Rattle.nfg_reader.specs.Faults.{IsFault}
use Rattle.nfg_reader.specs.declared.reading.NfgKind.{NfgKind}
use Rattle.nfg_reader.specs.declared.reading.NfgStop.{NfgStop}
use Rattle.nfg_reader.specs.declared.reading.NfgStop.TheVariants as stops

-- The table of a file, within the limit on payoffs. A fault comes with its kind and offset where
-- the tokens have one and do not pass the limit; the limit comes where it is passed.
abbrev pub table_in : TokenList → Answer NfgStop GameTable
table_in tokens (Ok table) = IsTableFile (bare tokens.list) table × IsTable table
table_in tokens (Err (stops.Fault fault)) =
    IsFault tokens fault.kind fault.at × ¬ (HasTooManyPayoffs (bare tokens.list))
table_in tokens (Err (stops.TooLarge limit)) =
    HasTooManyPayoffs (bare tokens.list) × (limit ≡ first_above Payoffs most_payoffs)
table_in tokens (Err stops.Memory) = ⊥

-- the stop that a part's becomes
abbrev pub IsNfgStop : PartStop NfgKind → TokenList → NfgStop → Type 0
IsNfgStop (part_stops.Unexpected fault) tokens stop =
    stop ≡ stops.Fault (record { at = offset_of tokens fault.left; kind = fault.kind })
IsNfgStop part_stops.Memory tokens stop = stop ≡ stops.Memory
