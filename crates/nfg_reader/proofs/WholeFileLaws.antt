-- A file of a table is read whole, and where reading stops the tokens so far begin a file, and no more of them do.
use Rattle.std.proofs.Common.{◌≡◌, List, [], ◌∷◌, ◌++◌, length, Some, inl, inr, if◌then◌else◌, refl, sym, ap, ◌∙◌, subst}
use Rattle.std.proofs.lemmas.List.{append-nil}
use Rattle.std.specs.Prelude.{Result, Ok, Err}
use Rattle.std.proofs.lemmas.Option.{same_Some}
use Rattle.lists.proofs.OptionLemmas.{bind_some}
use Rattle.rational.specs.Rational.{ℚ}
use Rattle.game_core.specs.Table.{GameTable}
use Rattle.game_core.specs.declared.token.Token.{Token}
use Rattle.file_parts.specs.Reading.{ends}
use Rattle.file_parts.specs.Parsing.{Parsed, ◌>>=◌}
use Rattle.file_parts.proofs.ReaderLemmas.{IsStuck, result_of, ok_same, ok_err, bind_ok, reads_alone, cut}
use Rattle.file_parts.proofs.ValueLemmas.{value, value_some}
use Rattle.nfg_reader.specs.TableFile.{IsTableFile}
use Rattle.nfg_reader.specs.Fronts.{FrontPart, profiles, table_of}
use Rattle.nfg_reader.proofs.TableValueLemmas.{front_at, rest_at, table_at}
use Rattle.nfg_reader.specs.TableParsing.{parse_front, parse_rest, parse_table}
use Rattle.file_parts.specs.Faults.{CannotCome as CannotComeIn}
use Rattle.nfg_reader.specs.Faults.{IsFile, BeginsFile}
use Rattle.nfg_reader.specs.declared.reading.NfgKind.{NfgKind}
use Rattle.nfg_reader.specs.declared.reading.NfgKind.TheVariants.{Trailing}
use Rattle.nfg_reader.proofs.FileLaws.{table_next, table_again}
use Rattle.nfg_reader.proofs.TableValueLemmas.{value_table}
use Rattle.nfg_reader.proofs.TableReaderLemmas.{after_strategies, parse_all, all_reader}

-- what comes cannot come in a file of a table
abbrev pub CannotCome : List Token → List Token → Type 0
CannotCome = CannotComeIn IsFile BeginsFile

-- ---- the table and the end
-- the end
abbrev pub at_end : GameTable × List Token → Result GameTable (NfgKind × List Token)
at_end x = if ends x.1 then Ok x.0 else Err (Trailing, x.1)

-- the payoffs and the end
rest_end : (front : FrontPart) (o : Parsed NfgKind (List ℚ)) → ((o >>= λ payoffs. if ends payoffs.1 then Ok payoffs.0 else Err (Trailing, payoffs.1)) >>= λ payoffs. Ok (table_of front payoffs)) ≡ ((o >>= λ payoffs. Ok (table_of front payoffs.0, payoffs.1)) >>= at_end)
rest_end front (Err fault) = refl
rest_end front (Ok (payoffs, [])) = refl
rest_end front (Ok (payoffs, t ∷ rest)) = refl

-- a table is read up to the end
pub table_all : (tokens : List Token) → parse_table tokens ≡ (parse_all tokens >>= at_end)
unfolding parse_table parse_rest
table_all tokens = elim (result_of (parse_front tokens)) [
  | inl y ↦ rw y.1 (rest_end y.0.0 (after_strategies (length y.0.0.players) (profiles y.0.0) y.0.1))
  | inr f ↦ rw f.1 refl
]

-- what is read is the table of a file
pub read_is_file : (tokens : List Token) (table : GameTable) → parse_table tokens ≡ Ok table → IsTableFile tokens table
unfolding table_at
read_is_file tokens table e =
    let o : table_at tokens ≡ Some table = sym (value_table tokens) ∙ ap value e in
    let a = bind_some (front_at tokens) _ table o in
    let b = bind_some (rest_at (length a.0.0.players) (profiles a.0.0) a.0.1) _ table a.2 in
    subst (IsTableFile tokens) (same_Some _ _ b.2) (table_next tokens a.0 b.0 a.1 b.1)

-- a file of a table is read
pub file_is_read : (tokens : List Token) (table : GameTable) → IsTableFile tokens table → parse_table tokens ≡ Ok table
file_is_read tokens table f = value_some (parse_table tokens) table (value_table tokens ∙ table_again tokens table f)

-- at the end the table is read
ended : (x : GameTable × List Token) (table : GameTable) → at_end x ≡ Ok table → x ≡ (table, [])
ended (one, []) table e = ap (λ (t : GameTable). (t, [])) (ok_same one table e)
ended (one, t ∷ rest) table e = absurd (ok_err table (Trailing, t ∷ rest) (sym e))

-- a file of a table is read up to its end
pub file_to_end : (tokens : List Token) (table : GameTable) → IsTableFile tokens table → parse_all tokens ≡ Ok (table, [])
file_to_end tokens table f =
    let a = bind_ok (parse_all tokens) at_end table (sym (table_all tokens) ∙ file_is_read tokens table f) in
    a.1 ∙ ap (λ (x : GameTable × List Token). Ok x) (ended a.0 table a.2)

-- what is read up to its end is a file
pub end_is_file : (tokens : List Token) (table : GameTable) → parse_all tokens ≡ Ok (table, []) → IsTableFile tokens table
end_is_file tokens table e = read_is_file tokens table (table_all tokens ∙ rw e refl)

-- ---- where reading stops
-- what comes where reading stops cannot come
stuck_there : (tokens : List Token) (kind : NfgKind) (rest : List Token) (s : IsStuck parse_all tokens kind rest) → parse_all tokens ≡ Err (kind, rest) → CannotCome s.before rest
stuck_there tokens kind [] s e = λ f.
    let all : tokens ≡ s.before = s.is ∙ append-nil s.before in
    absurd (ok_err (f.0, []) (kind, []) (sym (file_to_end s.before f.0 f.1) ∙ ap parse_all (sym all) ∙ e))
stuck_there tokens kind (t ∷ rest) s e = λ b.
    let there : parse_all (s.before ++ t ∷ b.0) ≡ Ok (b.1.0, []) = ap parse_all (sym (cut s.before t b.0)) ∙ file_to_end ((s.before ++ t ∷ []) ++ b.0) b.1.0 b.1.1 in
    absurd (ok_err (b.1.0, []) (kind, t ∷ b.0) (sym there ∙ s.stays t rest b.0 refl))

-- where reading stops before a token or at the end
pub record Stops (tokens : List Token) (rest : List Token) : Type 0 where
  pub before : List Token
  pub are_tokens : tokens ≡ before ++ rest
  pub begins : BeginsFile before
  pub stops : CannotCome before rest

-- where a part stops
pub part_stops : (tokens : List Token) (kind : NfgKind) (rest : List Token) → parse_all tokens ≡ Err (kind, rest) → Stops tokens rest
part_stops tokens kind rest e =
    let s = (all_reader.at tokens).sticks kind rest e in
    record {
      before = s.before;
      are_tokens = s.is;
      begins = (s.next ∷ s.more, (s.value, end_is_file (s.before ++ s.next ∷ s.more) s.value (reads_alone parse_all (s.before ++ s.next ∷ s.more) s.value s.goes_on)));
      stops = stuck_there tokens kind rest s e;
    }

-- some tokens are not none
some_token : (t : Token) (r : List Token) → t ∷ r ≡ [] → ⊥
some_token t r e = cc

-- where tokens stand after the end
pub file_stops : (tokens : List Token) (table : GameTable) (t : Token) (rest : List Token) → parse_all tokens ≡ Ok (table, t ∷ rest) → (s : Stops tokens (t ∷ rest)) × IsTableFile s.before table
file_stops tokens table t rest e =
    let one = (all_reader.at tokens).reads table (t ∷ rest) e in
    let file : IsTableFile one.0 table = end_is_file one.0 table (reads_alone parse_all one.0 table one.2) in
    let no_more : BeginsFile (one.0 ++ t ∷ []) → ⊥ = λ b.
    let there : parse_all (one.0 ++ t ∷ b.0) ≡ Ok (b.1.0, []) = ap parse_all (sym (cut one.0 t b.0)) ∙ file_to_end ((one.0 ++ t ∷ []) ++ b.0) b.1.0 b.1.1 in
    let same = ok_same (table, t ∷ b.0) (b.1.0, []) (sym (one.2 (t ∷ b.0)) ∙ there) in
    absurd (some_token t b.0 (ap (λ (x : GameTable × List Token). x.1) same)) in
    (record { before = one.0; are_tokens = one.1; begins = ([], (table, rw (append-nil one.0) file)); stops = no_more }, file)
