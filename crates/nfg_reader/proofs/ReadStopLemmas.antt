-- A stop of a part answers the fault of the file.
use Rattle.std.proofs.Common.{◌≡◌, ℕ, ◌*◌, ◌≤◌, List, length, Some, inl, inr, refl, sym, ap, ◌∙◌, subst}
use Rattle.std.specs.Prelude.{Result, Ok, Err}
use Rattle.answers.specs.Answers.{Gives}
use Rattle.rational.specs.Rational.{ℚ}
use Rattle.game_core.specs.Table.{most_payoffs}
use Rattle.game_core.specs.TokenList.{TokenList, bare}
use Rattle.game_core.specs.declared.token.Token.{Token}
use Rattle.file_parts.specs.declared.stop.PartStop.{PartStop}
use Rattle.file_parts.specs.declared.stop.PartStop.TheVariants as part_stops
use Rattle.file_parts.specs.Reading.{offset_of}
use Rattle.file_parts.specs.Parsing.{counted, IsPartStop}
use Rattle.file_parts.proofs.ReaderLemmas.{err_same}
use Rattle.file_parts.proofs.ValueLemmas.{value}
use Rattle.nfg_reader.specs.TableFile.{HasTooManyPayoffs}
use Rattle.nfg_reader.specs.Fronts.{FrontPart, profiles}
use Rattle.nfg_reader.proofs.TableValueLemmas.{front_at, rest_at}
use Rattle.nfg_reader.specs.TableParsing.{parse_front, parse_rest, parse_table}
use Rattle.nfg_reader.specs.Stops.{table_in, IsNfgStop}
use Rattle.nfg_reader.specs.declared.reading.NfgKind.{NfgKind}
use Rattle.nfg_reader.specs.declared.reading.NfgStop.{NfgStop}
use Rattle.nfg_reader.specs.declared.reading.NfgStop.TheVariants as stops
use Rattle.nfg_reader.proofs.FileLaws.{no_front, no_rest_of}
use Rattle.nfg_reader.proofs.TableValueLemmas.{value_front, value_rest}
use Rattle.nfg_reader.proofs.FaultLaws.{stop_is_fault}

-- what is read without places
pub front_value : (tokens : List Token) (x : FrontPart × List Token) → parse_front tokens ≡ Ok x → front_at tokens ≡ Some x
front_value tokens x e = sym (value_front tokens) ∙ ap value e

-- and after the strategies
pub rest_value : (players count : ℕ) (tokens : List Token) (payoffs : List ℚ) → parse_rest players count tokens ≡ Ok payoffs → rest_at players count tokens ≡ Some payoffs
rest_value players count tokens payoffs e = sym (value_rest players count tokens) ∙ ap value e

-- a counted fault is a fault
counted_fault : {Y : Type 0} (o : Result Y (NfgKind × List Token)) (kind : NfgKind) (left : ℕ) → counted o ≡ Err (kind, left) → (rest : List Token) × (o ≡ Err (kind, rest)) × (length rest ≡ left)
counted_fault (Ok x) kind left e = cc
counted_fault {Y} (Err fault) kind left e =
    let same = err_same (fault.0, length fault.1) (kind, left) e in
    (fault.1, ap (λ (k : NfgKind). Err (k, fault.1)) (ap (λ (f : NfgKind × ℕ). f.0) same), ap (λ (f : NfgKind × ℕ). f.1) same)

-- a stop that is the fault of the file
fault_stop : {Y : Type 0} (tokens : TokenList) (o : Result Y (NfgKind × List Token)) (stopped : PartStop NfgKind) (stop : NfgStop) → IsPartStop stopped o → IsNfgStop stopped tokens stop → ((kind : NfgKind) (rest : List Token) → o ≡ Err (kind, rest) → (parse_table (bare tokens.list) ≡ Err (kind, rest)) × ¬ (HasTooManyPayoffs (bare tokens.list))) → Gives stops.Memory (table_in tokens) (Err stop)
fault_stop tokens o part_stops.Memory stop r s all = inl s
fault_stop tokens o (part_stops.Unexpected fault) stop r s all =
    let f = counted_fault o fault.kind fault.left r in
    let t = all fault.kind f.0 f.1 in
    subst (λ stop. Gives stops.Memory (table_in tokens) (Err stop)) (sym s) (inr ((f.0, stop_is_fault (bare tokens.list) fault.kind f.0 t.0, ap (offset_of tokens) (sym f.2)), t.1))

-- where no front is read
pub front_stop : (tokens : TokenList) (stopped : PartStop NfgKind) (stop : NfgStop) → IsPartStop stopped (parse_front (bare tokens.list)) → IsNfgStop stopped tokens stop → Gives stops.Memory (table_in tokens) (Err stop)
unfolding parse_table
front_stop tokens stopped stop r s = fault_stop tokens (parse_front (bare tokens.list)) stopped stop r s (λ kind rest e. (rw e refl, (no_front (bare tokens.list) (sym (value_front (bare tokens.list)) ∙ ap value e)).1))

-- where no payoffs are read
pub rest_stop : (tokens : TokenList) (front : FrontPart × List Token) (players count : ℕ) (stopped : PartStop NfgKind) (stop : NfgStop) → parse_front (bare tokens.list) ≡ Ok front → players ≡ length front.0.players → count ≡ profiles front.0 → players * count ≤ most_payoffs
    → IsPartStop stopped (parse_rest players count front.1) → IsNfgStop stopped tokens stop → Gives stops.Memory (table_in tokens) (Err stop)
unfolding parse_table
rest_stop tokens front players count stopped stop e p c few r s = fault_stop tokens (parse_rest players count front.1) stopped stop r s (λ kind rest f.
    let g : parse_rest (length front.0.players) (profiles front.0) front.1 ≡ Err (kind, rest) = rw (p, c) at f in
    (rw (e, g) refl, (no_rest_of (bare tokens.list) front players count (front_value (bare tokens.list) front e) p c few (sym (value_rest players count front.1) ∙ ap value f)).1))
