-- The tokens that were read, from one token to the next.
use Rattle.std.proofs.Common.{◌≡◌, ℕ, ◌+◌, ◌-◌, ◌<◌, ◌≤◌, List, [], ◌∷◌, ◌++◌, length, take, drop, sym, ap, ◌∙◌, length-append, length-drop, arith}
use Rattle.std.proofs.lemmas.List.{take-append-drop}
use Rattle.std.specs.List.{prefix_len}
use Rattle.game_core.specs.declared.token.Spanned.{Spanned}
use Rattle.game_text.specs.Tokens.{AreTokensBefore}
use Rattle.game_core.specs.Spacing.{AreSpaced}
use Rattle.game_text.specs.Reading.{IsNext, is_blank}
use Rattle.game_text.proofs.TokenPassLemmas.{BlanksBefore, tokens_push, token_is_short, are_spaced_push}
use Rattle.game_text.proofs.ByteRunLemmas.{take_blanks}

-- the blanks that are left out
pub blanks_before : (bytes rest : List ℕ) → rest ≡ drop (prefix_len is_blank bytes) bytes → BlanksBefore bytes rest
blanks_before bytes rest e =
    let n = prefix_len is_blank bytes in
    let whole : take n bytes ++ drop n bytes ≡ bytes = take-append-drop n bytes in
    (take n bytes, take_blanks bytes, rw e (sym whole))

-- without blanks there are no more bytes
pub blanks_shorten : (bytes rest : List ℕ) → rest ≡ drop (prefix_len is_blank bytes) bytes → length rest ≤ length bytes
blanks_shorten bytes rest e = rw (e, length-drop) (omega arith)

-- a token that is read after others: its span, and the bytes after it
pub record IsRead (bytes rest after : List ℕ) (one : Spanned) : Type 0 where
  pub within : length rest ≤ length bytes
  pub next : IsNext rest after one.token
  pub start : one.start ≡ length bytes - length rest
  pub end : one.end ≡ length bytes - length after

-- a token leaves fewer bytes
pub shorter : (bytes rest after : List ℕ) (one : Spanned) → IsRead bytes rest after one → length after < length rest
shorter bytes rest after one h =
    omega (arith, h.next.some, ap length h.next.parts ∙ length-append h.next.front after)

-- one more token was read
pub read_tokens : (bytes rest after next : List ℕ) (list : List Spanned) (one : Spanned) → IsRead bytes rest after one → AreTokensBefore 0 bytes list rest → next ≡ drop (prefix_len is_blank after) after → AreTokensBefore 0 bytes (list ++ one ∷ []) next
read_tokens bytes rest after next list one h t e =
    let size : length rest ≡ length h.next.front + length after = ap length h.next.parts ∙ length-append h.next.front after in
    let start : one.start + length rest ≡ 0 + length bytes = omega (arith, h.start, h.within) in
    let end : one.end ≡ one.start + length h.next.front = omega (arith, h.start, h.end, h.within) in
    tokens_push 0 bytes list rest h.next.front after next one t h.next.parts h.next.is_token start end (blanks_before after next e)

-- one more span is in place
pub read_places : (bytes rest after next : List ℕ) (list : List Spanned) (one : Spanned) → IsRead bytes rest after one → AreSpaced 0 (length bytes - length rest) list → next ≡ drop (prefix_len is_blank after) after → AreSpaced 0 (length bytes - length next) (list ++ one ∷ [])
read_places bytes rest after next list one h p e =
    let less = shorter bytes rest after one h in
    let ends = blanks_shorten after next e in
    are_spaced_push 0 (length bytes - length rest) (length bytes - length next) list one p (omega (arith, h.start)) (omega (arith, h.start, h.end, h.within)) (token_is_short h.next.front after one.token h.next.is_token) (omega (arith, h.end))
