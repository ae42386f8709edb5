-- What the first byte tells of the token or fault that comes.
use Rattle.std.proofs.Common.{◌≡◌, ◌≢◌, ℕ, ◌<◌, true, false, if◌then◌else◌, ◌==◌, List, [], ◌∷◌, ◌++◌, refl, arith}
use Rattle.std.proofs.lemmas.Bool.{false_from_ne_true}
use Rattle.game_core.specs.TokenList.{token_parts}
use Rattle.game_core.specs.declared.token.Token.{Token}
use Rattle.game_core.specs.declared.token.Token.TheVariants.{Left, Right, Comma, Text, Word, Number}
use Rattle.game_text.specs.declared.reading.TextKind.{TextKind}
use Rattle.game_text.specs.declared.reading.TextKind.TheVariants.{BadChar, OpenText, BadNumber, NumberTooLarge}
use Rattle.game_text.specs.Tokens.{FirstIs, BeginsNoToken, IsBlank, IsLetter, IsRun, IsTokenAt, BeginsWithFault}
use Rattle.game_text.specs.Reading.{is_blank, is_letter, is_bare}
use Rattle.game_text.proofs.ByteLemmas.{tells_blank, tells_letter, tells_bare, blank_not_bare, not_bare_no_letter}
use Rattle.lists.proofs.NumberLemmas.{unequal}

-- 0 to 5 for the kinds of tokens, 6 for a byte that begins none, 7 for a blank, and 8 at the end
abbrev pub kind_at : List ℕ → ℕ
kind_at [] = 8
kind_at (b ∷ bytes) =
    if is_letter b then 4 else if is_bare b then 5 else if is_blank b then 7 else if b == 34 then 3 else if b == 44 then 2 else if b == 125 then 1 else if b == 123 then 0 else 6

-- the kind of the byte at which a fault stands
abbrev pub kind_of_fault : TextKind → ℕ
kind_of_fault BadChar = 6
kind_of_fault OpenText = 3
kind_of_fault BadNumber = 5
kind_of_fault NumberTooLarge = 5

kind_at-word : (run rest back : List ℕ) → IsRun run rest → FirstIs IsLetter run → kind_at (run ++ back) ≡ 4
kind_at-word [] rest back h k = absurd k
kind_at-word (b ∷ run) rest back h k = let e : is_letter b ≡ true = (tells_letter b).1 k in rw e refl

kind_at-number : (run rest back : List ℕ) → IsRun run rest → ¬ (FirstIs IsLetter run) → kind_at (run ++ back) ≡ 5
kind_at-number [] rest back h k = absurd (let s : 0 < 0 = h.some in omega arith)
kind_at-number (b ∷ run) rest back h k =
    let no : is_letter b ≡ false = false_from_ne_true (is_letter b) (λ e. k ((tells_letter b).0 e)) in
    let bare : is_bare b ≡ true = (tells_bare b).1 h.bare.0 in
    rw (bare, no) refl

kind_at-blank : (bytes : List ℕ) → FirstIs IsBlank bytes → kind_at bytes ≡ 7
kind_at-blank [] h = absurd h
kind_at-blank (b ∷ bytes) h =
    let blank : is_blank b ≡ true = (tells_blank b).1 h in
    let bare : is_bare b ≡ false = blank_not_bare b h in
    let no : is_letter b ≡ false = not_bare_no_letter b bare in
    rw (bare, no, blank) refl

-- the first byte tells a token's kind
pub kind_at-token : (front back : List ℕ) (token : Token) → IsTokenAt front back token → kind_at (front ++ back) ≡ (token_parts token).0
kind_at-token front back Left h = rw h refl
kind_at-token front back Right h = rw h refl
kind_at-token front back Comma h = rw h refl
kind_at-token front back (Text text) h = rw h.1 refl
kind_at-token front back (Word word) h = kind_at-word front back back h.0 h.1
kind_at-token front back (Number value) h = kind_at-number front back back h.0 h.1

kind_at-bad_char : (bytes : List ℕ) → FirstIs BeginsNoToken bytes → kind_at bytes ≡ 6
kind_at-bad_char [] h = absurd h
kind_at-bad_char (b ∷ bytes) h =
    let bare : is_bare b ≡ false = false_from_ne_true (is_bare b) (λ e. h.not_bare ((tells_bare b).0 e)) in
    let no : is_letter b ≡ false = not_bare_no_letter b bare in
    let blank : is_blank b ≡ false = false_from_ne_true (is_blank b) (λ e. h.no_blank ((tells_blank b).0 e)) in
    let quote : (b == 34) ≡ false = unequal b 34 h.no_quote in
    let comma : (b == 44) ≡ false = unequal b 44 h.no_comma in
    let right : (b == 125) ≡ false = unequal b 125 h.no_brace.1 in
    let left : (b == 123) ≡ false = unequal b 123 h.no_brace.0 in
    rw (bare, no, blank, quote, comma, right, left) refl

kind_at-quote : (bytes : List ℕ) → FirstIs (λ b. b ≡ 34) bytes → kind_at bytes ≡ 3
kind_at-quote [] h = absurd h
kind_at-quote (b ∷ bytes) h = rw h refl

-- the first byte tells a fault's kind, but for numbers
pub kind_at-fault : (bytes : List ℕ) (kind : TextKind) → BeginsWithFault bytes kind → kind_at bytes ≡ kind_of_fault kind
kind_at-fault bytes BadChar h = kind_at-bad_char bytes h
kind_at-fault bytes OpenText h = kind_at-quote bytes h.0
kind_at-fault bytes BadNumber h = rw h.2 (kind_at-number h.0 h.1 h.1 h.3 h.4)
kind_at-fault bytes NumberTooLarge h = rw h.2 (kind_at-number h.0 h.1 h.1 h.3 h.4)

-- no blank comes where the kind is another
pub kind_no_blank : (bytes : List ℕ) → kind_at bytes ≢ 7 → ¬ (FirstIs IsBlank bytes)
kind_no_blank bytes h k = h (kind_at-blank bytes k)
