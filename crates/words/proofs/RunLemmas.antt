-- What clap makes of a run of letters.
use Rattle.std.proofs.Common.{◌≡◌, ◌∙◌, ◌≤◌, ◌<◌, refl, ap, sym, arith, tests, ℕ, zero, suc, min, Bool, true, false, ◌==◌, if◌then◌else◌, List, [], ◌∷◌, ◌++◌, length, drop, pos, Some, None, nat_lt}
use Rattle.std.specs.Prelude.{slice_get, encode_utf8}
use Rattle.std.specs.Str.{chars, IsUtf8}
use lib.Utf8.{scalars, encodes}
use Rattle.std.proofs.lemmas.Str.{chars-encodes, chars-nil, char_from_byte, byte_from_char, encode_ascii, IsUtf8-drop, IsCharBoundary-after_ascii}
use Rattle.clap.specs.Matches.{count_text}
use Rattle.clap.specs.ValueTests.{accepts}
use Rattle.clap.proofs.ValueTestLemmas.{Accepts-accepts}
use Rattle.clap.proofs.CountText.{IsSignedIn-count_text}
use Rattle.clap.specs.Walk.{Held, Outcome, Row, Rule, Text, attached_value, bundle_met, bundle_step, done, reacted, settled, short_met, used, waits}
use Rattle.clap.specs.Kinds.{Kinds}
use Rattle.clap.specs.Faults.{bundle_step_fault, flags_fault, react_fault, settle_fault, short_fault, use_fault}
use Rattle.clap.specs.declared.builder.value_parser.ValueParser.TheVariants as vp
use Rattle.words.specs.Grammar.{Options, Part, Flag, Value, Prices, Plain, Reading, refused, gives, wants, flag_then, has_letter, run_of, value_reading}
use Rattle.words.specs.Commands.{value_id}
use Rattle.words.proofs.RuleLemmas.{Fits, flag, letter_rule, plain, prices, value}

-- ---- rows

-- the rows after one more part
abbrev pub used_by : Part → List Row → List Row
used_by (Flag letter) rows = used (flag letter) [] rows
used_by (Value letter text) rows = used (value letter) (text ∷ []) rows
used_by Prices rows = used prices [] rows
used_by (Plain word) rows = used plain (word ∷ []) rows

-- the rows after the parts
abbrev pub rows_of : List Part → List Row → List Row
rows_of [] rows = rows
rows_of (part ∷ parts) rows = rows_of parts (used_by part rows)

pub rows_append : (ps qs : List Part) (rows : List Row) → rows_of (ps ++ qs) rows ≡ rows_of qs (rows_of ps rows)
rows_append [] qs rows = refl
rows_append (p ∷ ps) qs rows = rows_append ps qs (used_by p rows)

-- ---- what is held

-- nothing is pending
abbrev pub ready : List Row → Held
ready rows = record { rows = rows; pending = None; skip = 0 }

-- a letter waits for its value
abbrev pub asking : ℕ → List Row → Held
asking letter rows = record { rows = rows; pending = Some (value_id letter, []); skip = 0 }

-- what is pending is whole, and with it these are the rows
pub record Holds (c : List Rule) (h : Held) (rows : List Row) : Type 0 where
  pub whole : settle_fault c false h ≡ []
  pub rows_are : settled c h ≡ ready rows

pub counted : (n : ℕ) → accepts false (vp.Signed (pos 0) (pos 255)) (count_text (min n 255)) ≡ true
counted n = Accepts-accepts false (vp.Signed (pos 0) (pos 255)) (count_text (min n 255)) (IsSignedIn-count_text (min n 255) (omega arith))

-- ---- each use passes

pub flag_passes : (x : ℕ) (rows : List Row) → use_fault false (flag x) [] rows ≡ []
flag_passes x rows = rw counted refl

pub prices_passes : (rows : List Row) → use_fault false prices [] rows ≡ []
prices_passes rows = rw counted refl

pub value_passes : (x : ℕ) (text : Text) (rows : List Row) → use_fault false (value x) (text ∷ []) rows ≡ []
value_passes x text rows = refl

-- ---- the first character

-- a text begins with a byte below 128, which is its first character, or with a greater character
pub data First (b : ℕ) (rest : List ℕ) : Type 0 where
  byte : b < 128 → slice_get (chars (b ∷ rest)) 0 ≡ Some b → drop (length (encode_utf8 b)) (b ∷ rest) ≡ rest → IsUtf8 rest → First b rest
  wide : 128 ≤ b → (c : ℕ) → 128 ≤ c → slice_get (chars (b ∷ rest)) 0 ≡ Some c → First b rest

first_low : (b d : ℕ) (rest ds : List ℕ) → IsUtf8 (b ∷ rest) → scalars (d ∷ ds) ≡ true → encodes (d ∷ ds) ≡ b ∷ rest → b < 128 → First b rest
first_low b d rest ds u s e lt =
    let same : d ≡ b = char_from_byte (b ∷ rest) (encodes ds) d (sym e) lt (omega arith) in
    let all : chars (b ∷ rest) ≡ b ∷ ds = ap chars (sym e) ∙ chars-encodes (d ∷ ds) s ∙ ap (λ x. x ∷ ds) same in
    byte lt (ap (λ l. slice_get l 0) all) (rw (encode_ascii b lt) refl) (IsUtf8-drop (b ∷ rest) 1 u (IsCharBoundary-after_ascii (b ∷ rest) 0 u (omega arith) lt))

first_high : (b d : ℕ) (rest ds : List ℕ) → scalars (d ∷ ds) ≡ true → encodes (d ∷ ds) ≡ b ∷ rest → 128 ≤ b → First b rest
first_high b d rest ds s e ge =
    let all : chars (b ∷ rest) ≡ d ∷ ds = ap chars (sym e) ∙ chars-encodes (d ∷ ds) s in
    wide ge d (go (nat_lt d 128) refl) (ap (λ l. slice_get l 0) all)
  where
    go : (t : Bool) → nat_lt d 128 ≡ t → 128 ≤ d
    go true is = let lt : d < 128 = grind (arith, tests) in let same : b ≡ d = byte_from_char (b ∷ rest) (encodes ds) d (sym e) lt in omega (arith, same, lt, ge)
    go false is = grind (arith, tests)

pub first_of : (b : ℕ) (rest : List ℕ) → IsUtf8 (b ∷ rest) → First b rest
first_of b rest u = go u.0 u.1.0 u.1.1 (nat_lt b 128) refl
  where
    go : (cs : List ℕ) → scalars cs ≡ true → encodes cs ≡ b ∷ rest → (t : Bool) → nat_lt b 128 ≡ t → First b rest
    go [] s e t is = let bad : 0 ≡ length (b ∷ rest) = ap length e in absurd (omega (arith, bad))
    go (d ∷ ds) s e true is = first_low b d rest ds u s e (grind (arith, tests))
    go (d ∷ ds) s e false is = first_high b d rest ds s e (grind (arith, tests))

-- ---- a run

-- a letter of the tool
pub record Sound (o : Options) : Type 0 where
  pub flags : (x : ℕ) → 128 ≤ x → has_letter o.flags x ≡ false
  pub valued : (x : ℕ) → 128 ≤ x → has_letter o.valued x ≡ false

-- the fault of a run and what is held after it, by what the run gives
abbrev pub RunsTo : Options → List Rule → Reading → Kinds → Held × Outcome → List Row → Type 0
RunsTo o c refused fault met rows = 0 < length fault
RunsTo o c (gives parts) fault met rows = (fault ≡ []) × (met.1 ≡ done) × Holds c met.0 (rows_of parts rows)
RunsTo o c (wants parts letter) fault met rows = (fault ≡ []) × (met ≡ (asking letter (rows_of parts rows), waits (value_id letter))) × (has_letter o.valued letter ≡ true)

flag_first : (o : Options) (c : List Rule) (x : ℕ) (r : Reading) (fault : Kinds) (met : Held × Outcome) (rows : List Row)
    → RunsTo o c r fault met (used (flag x) [] rows) → RunsTo o c (flag_then x r) fault met rows
flag_first o c x refused fault met rows h = h
flag_first o c x (gives parts) fault met rows h = h
flag_first o c x (wants parts letter) fault met rows h = h

pub attached_is : (b : ℕ) (rest : List ℕ) → attached_value (b ∷ rest) ≡ Some (if b == 61 then rest else b ∷ rest)
attached_is b rest = go (b == 61) refl
  where
    go : (t : Bool) → (b == 61) ≡ t → attached_value (b ∷ rest) ≡ Some (if b == 61 then rest else b ∷ rest)
    go true e = rw e refl
    go false e = rw e refl

-- after a use that passes
pub holds_used : (c : List Rule) (a : Rule) (values : List Text) (h : Held) (rows : List Row) → Holds c h rows → Holds c (reacted c a values h) (used a values rows)
holds_used c a values h rows holds = record { whole = refl; rows_are = ap (λ (g : Held). record g { rows = used a values g.rows }) holds.rows_are }

pub react_passes : (c : List Rule) (a : Rule) (values : List Text) (h : Held) (rows : List Row) → Holds c h rows → ((now : List Row) → use_fault false a values now ≡ []) → react_fault c false a values h ≡ []
react_passes c a values h rows holds passes = rw (holds.whole) (passes (settled c h).rows)

module _ (o : Options) (c : List Rule) (fits : Fits o c) (sound : Sound o) where
  -- a letter that takes a value
  value_runs : (x : ℕ) (rest : List ℕ) (h : Held) (rows : List Row) (next : Held → Kinds) (later : Held → Held × Outcome) → Holds c h rows → has_letter o.valued x ≡ true
      → RunsTo o c (value_reading x rest) (short_fault c false (Some (value x)) rest h next) (short_met c (Some (value x)) rest h later) rows
  value_runs x [] h rows next later holds valued = (holds.whole, ap (λ (g : Held). (record g { pending = Some (value_id x, []) }, waits (value_id x))) holds.rows_are, valued)
  value_runs x (b ∷ rest) h rows next later holds valued =
      let text = if b == 61 then rest else b ∷ rest in
      rw (attached_is b rest) (react_passes c (value x) (text ∷ []) h rows holds (value_passes x text), refl, holds_used c (value x) (text ∷ []) h rows holds)

  pub run_is : (bytes : List ℕ) → IsUtf8 bytes → (k : ℕ) → length bytes ≤ k → (h : Held) (rows : List Row) → Holds c h rows
      → RunsTo o c (run_of o bytes) (flags_fault c false k bytes 0 h) (bundle_met c k bytes 0 done h) rows
  unfolding flags_fault bundle_met
  run_is [] u zero le h rows holds = (refl, refl, holds)
  run_is [] u (suc k) le h rows holds = rw chars-nil (refl, refl, holds)
  run_is (x ∷ rest) u zero le h rows holds = absurd (omega (arith, le))
  run_is (x ∷ rest) u (suc k) le h rows holds = by_first (first_of x rest u)
      (λ u' h' rows' holds'. run_is rest u' k (omega (arith, le)) h' rows' holds')
    where
      Goal : Type 0
      Goal = RunsTo o c (run_of o (x ∷ rest)) (bundle_step_fault c false (slice_get (chars (x ∷ rest)) 0) (x ∷ rest) 0 h (flags_fault c false k))
          (bundle_step c (slice_get (chars (x ∷ rest)) 0) (x ∷ rest) 0 done h (bundle_met c k)) rows

      by_letter : IsUtf8 rest
          → ((u' : IsUtf8 rest) (h' : Held) (rows' : List Row) → Holds c h' rows' → RunsTo o c (run_of o rest) (flags_fault c false k rest 0 h') (bundle_met c k rest 0 done h') rows')
          → (t : Bool) → has_letter o.flags x ≡ t → (v : Bool) → has_letter o.valued x ≡ v
          → RunsTo o c (run_of o (x ∷ rest)) (short_fault c false (letter_rule o x) rest h (flags_fault c false k rest 0)) (short_met c (letter_rule o x) rest h (bundle_met c k rest 0 done)) rows
      by_letter u' later true e v f = rw (e, react_passes c (flag x) [] h rows holds (flag_passes x))
          (flag_first o c x (run_of o rest) _ _ rows (later u' (reacted c (flag x) [] h) (used (flag x) [] rows) (holds_used c (flag x) [] h rows holds)))
      by_letter u' later false e true f = rw (e, f) (value_runs x rest h rows (flags_fault c false k rest 0) (bundle_met c k rest 0 done) holds f)
      by_letter u' later false e false f = rw (e, f) (omega arith)

      by_first : First x rest
          → ((u' : IsUtf8 rest) (h' : Held) (rows' : List Row) → Holds c h' rows' → RunsTo o c (run_of o rest) (flags_fault c false k rest 0 h') (bundle_met c k rest 0 done h') rows')
          → Goal
      by_first (byte lt first past u') later = rw (first, past, fits.short x) (by_letter u' later (has_letter o.flags x) refl (has_letter o.valued x) refl)
      by_first (wide ge d far first) later = rw (first, fits.short d, sound.flags d far, sound.valued d far, sound.flags x ge, sound.valued x ge) (omega arith)
