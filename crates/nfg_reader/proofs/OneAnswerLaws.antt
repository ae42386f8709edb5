-- The tokens of a source have at most one answer: a table, a limit that is passed, or a fault with its kind and offset.
use Rattle.std.proofs.Common.{◌≡◌, ℕ, List, length, ◌⊎◌, inl, inr, Ok, Err, refl, sym, ap, ◌∙◌}
use Rattle.answers.specs.Answers.{IsSingle}
use Rattle.game_core.specs.TokenList.{TokenList, bare}
use Rattle.game_core.specs.declared.token.Token.{Token}
use Rattle.file_parts.specs.Reading.{offset_of}
use Rattle.nfg_reader.specs.Faults.{IsFile, IsFault}
use Rattle.nfg_reader.specs.Stops.{table_in}
use Rattle.nfg_reader.specs.declared.reading.NfgKind.{NfgKind}
use Rattle.nfg_reader.specs.declared.reading.NfgStop.TheVariants as stops
use Rattle.nfg_reader.proofs.FileLaws.{one_table, within}
use Rattle.nfg_reader.proofs.FaultLaws.{one_fault, file_is_faultless, fault_or_file}

-- ---- faults of a source
-- at most one
pub one_fault_at : (tokens : TokenList) (kind other : NfgKind) (at place : ℕ) → IsFault tokens kind at → IsFault tokens other place → (kind ≡ other) × (at ≡ place)
one_fault_at tokens kind other at place f g =
    let same = one_fault (bare tokens.list) kind other f.0 g.0 f.1 g.1 in
    (same.0, f.2 ∙ ap (λ (q : List Token). offset_of tokens (length q)) same.1 ∙ sym g.2)

-- none of a file
pub no_fault_of_file : (tokens : TokenList) (kind : NfgKind) (at : ℕ) → IsFile (bare tokens.list) → IsFault tokens kind at → ⊥
no_fault_of_file tokens kind at file f = file_is_faultless (bare tokens.list) kind f.0 file f.1

-- one of any other
pub fault_of_others : (tokens : TokenList) → IsFile (bare tokens.list) ⊎ ((kind : NfgKind) × (at : ℕ) × IsFault tokens kind at)
fault_of_others tokens = elim (fault_or_file (bare tokens.list)) [
  | inl f ↦ inl f
  | inr f ↦ inr (f.0, offset_of tokens (length f.1), (f.1, f.2, refl))
]

-- ---- one answer
-- a stop by its fault's place and kind
same_stop : (at place : ℕ) (kind other : NfgKind) → at ≡ place → kind ≡ other → stops.Fault (record { at = at; kind = kind }) ≡ stops.Fault (record { at = place; kind = other })
same_stop at place kind other a k = ap (λ at. stops.Fault (record { at = at; kind = kind })) a ∙ ap (λ kind. stops.Fault (record { at = place; kind = kind })) k

pub table_in-single : (tokens : TokenList) → IsSingle (table_in tokens)
table_in-single tokens (Ok one) (Ok other) h k = ap Ok (one_table (bare tokens.list) one other h.0 k.0)
table_in-single tokens (Ok one) (Err (stops.Fault fault)) h k = absurd (no_fault_of_file tokens fault.kind fault.at (one, h.0) k.0)
table_in-single tokens (Ok one) (Err (stops.TooLarge limit)) h k = absurd (within (bare tokens.list) one h.0 h.1 k.0)
table_in-single tokens (Err (stops.Fault fault)) (Ok other) h k = absurd (no_fault_of_file tokens fault.kind fault.at (other, k.0) h.0)
table_in-single tokens (Err (stops.Fault fault)) (Err (stops.Fault next)) h k =
    let same = one_fault_at tokens fault.kind next.kind fault.at next.at h.0 k.0 in
    ap Err (same_stop fault.at next.at fault.kind next.kind same.1 same.0)
table_in-single tokens (Err (stops.Fault fault)) (Err (stops.TooLarge limit)) h k = absurd (h.1 k.0)
table_in-single tokens (Err (stops.TooLarge limit)) (Ok other) h k = absurd (within (bare tokens.list) other k.0 k.1 h.0)
table_in-single tokens (Err (stops.TooLarge limit)) (Err (stops.Fault fault)) h k = absurd (k.1 h.0)
table_in-single tokens (Err (stops.TooLarge limit)) (Err (stops.TooLarge next)) h k = ap (λ limit. Err (stops.TooLarge limit)) (h.1 ∙ sym k.1)
table_in-single tokens (Err stops.Memory) other h k = absurd h
table_in-single tokens one (Err stops.Memory) h k = absurd k
