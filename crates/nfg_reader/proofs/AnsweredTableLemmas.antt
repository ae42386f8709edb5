-- The tokens of a source have an answer: a table, a limit that is passed, or a fault.
use Rattle.std.proofs.Common.{inl, inr, refl, Ok, Err}
use Rattle.answers.specs.Answered.{IsAnswered}
use Rattle.game_core.specs.Limits.{first_above}
use Rattle.game_core.specs.Table.{most_payoffs}
use Rattle.game_core.specs.TokenList.{TokenList, bare}
use Rattle.game_core.specs.declared.too_large.What.TheVariants.{Payoffs}
use Rattle.lists.proofs.DeniedLemmas.{holds_or_not}
use Rattle.nfg_reader.specs.Stops.{table_in}
use Rattle.nfg_reader.specs.TableFile.{HasTooManyPayoffs}
use Rattle.nfg_reader.specs.declared.reading.NfgStop.TheVariants as stops
use Rattle.nfg_reader.proofs.FileLaws.{file_is_table}
use Rattle.nfg_reader.proofs.OneAnswerLaws.{fault_of_others}

pub table_in-answered : (tokens : TokenList) → IsAnswered (table_in tokens)
table_in-answered tokens none =
    holds_or_not {A = HasTooManyPayoffs (bare tokens.list)} (λ payoffs. elim payoffs [
      | inl many ↦ none (Err (stops.TooLarge (first_above Payoffs most_payoffs))) (many, refl)
      | inr few ↦ elim (fault_of_others tokens) [
        | inl file ↦ none (Ok file.0) (file.1, file_is_table (bare tokens.list) file.0 file.1 few)
        | inr fault ↦ none (Err (stops.Fault (record { at = fault.1; kind = fault.0 }))) (fault.2, few)
      ]
    ])
