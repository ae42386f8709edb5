-- What clap makes of one word.
use Rattle.std.proofs.Common.{◌≡◌, ◌∙◌, ◌<◌, refl, ap, sym, subst, arith, true≢false, not, take, ℕ, suc, Bool, true, false, ◌&&◌, ◌==◌, if◌then◌else◌, List, [], ◌∷◌, length, Option, Some, None, eqb→eq, codes}
use Rattle.std.specs.Prelude.{slice_get}
use Rattle.std.specs.List.{after_first, before_first, prefix_len}
use Rattle.std.proofs.Math.Seq.{take-length}
use Rattle.std.proofs.lemmas.Bool.Decides.{Decides-eqb}
use Rattle.std.specs.Str.{bytes_eq, chars, IsUtf8}
use Rattle.std.proofs.lemmas.Slice.Eq.{bytes_eq-Decides}
use Rattle.std.proofs.lemmas.Str.{IsUtf8-drop, IsCharBoundary-after_ascii}
use Rattle.clap.specs.Lexer.{has_byte, name_and_value, short_of}
use Rattle.clap.specs.Lexer.{long_of as long_word_of}
use Rattle.clap.specs.Walk.{Held, Outcome, Row, Rule, Text, Waiting, Walk, after_flag, after_step, arg_by_long, bundle, bundle_met, done, idle, is_pending, long_met, option, plain as not_flag, positional, positional_held, pushed, used, walked}
use Rattle.clap.specs.Kinds.{Kinds, or_else}
use Rattle.clap.specs.Faults.{bundle_fault, flags_fault, long_fault, positional_fault, react_fault, settle_fault, short_fault, step_fault, turn_fault}
use Rattle.words.specs.Grammar.{Options, Prices, Plain, Reading, refused, gives, wants, has_letter, long_of, reading_of, run_of}
use Rattle.words.specs.Commands.{value_id}
use Rattle.words.proofs.RuleLemmas.{Fits, and_false, flag, letter_rule, long_rule, plain, prices, shape, value}
use Rattle.words.proofs.RunLemmas.{First, byte, wide, first_of, Holds, RunsTo, Sound, asking, attached_is, holds_used, prices_passes, react_passes, rows_of, run_is}

-- the six kinds of words
pub by_word : (P : List ℕ → Type 0) → P [] → P (45 ∷ []) → P (45 ∷ 45 ∷ []) → ((x : ℕ) (xs : List ℕ) → P (45 ∷ 45 ∷ x ∷ xs))
    → ((y : ℕ) (ys : List ℕ) → (y == 45) ≡ false → P (45 ∷ y ∷ ys)) → ((y : ℕ) (ys : List ℕ) → (y == 45) ≡ false → P (y ∷ ys)) → (word : List ℕ) → P word
by_word P empty hyphen end long run other [] = empty
by_word P empty hyphen end long run other (b ∷ bytes) = first (b == 45) refl bytes
  where
    second : (t : Bool) (y : ℕ) → (y == 45) ≡ t → (ys : List ℕ) → P (45 ∷ y ∷ ys)
    second true y e [] = subst (λ z. P (45 ∷ z ∷ [])) (sym (eqb→eq y 45 (rw e tt))) end
    second true y e (x ∷ xs) = subst (λ z. P (45 ∷ z ∷ x ∷ xs)) (sym (eqb→eq y 45 (rw e tt))) (long x xs)
    second false y e ys = run y ys e

    after_hyphen : (bytes : List ℕ) → P (45 ∷ bytes)
    after_hyphen [] = hyphen
    after_hyphen (y ∷ ys) = second (y == 45) y refl ys

    first : (t : Bool) → (b == 45) ≡ t → (bytes : List ℕ) → P (b ∷ bytes)
    first true e bytes = subst (λ z. P (z ∷ bytes)) (sym (eqb→eq b 45 (rw e tt))) (after_hyphen bytes)
    first false e bytes = other b bytes e

-- ---- where the walk stands

-- no letter waits for a value
abbrev pub resting : Bool → Waiting
resting true = positional
resting false = idle

abbrev pub calm : Held → Bool → Bool → Walk
calm h b is_trailing = record { held = h; waiting = resting b; position = 1; is_trailing = is_trailing; stopped = None }

abbrev pub asks : ℕ → List Row → Bool → Walk
asks letter rows is_trailing = record { held = asking letter rows; waiting = option (value_id letter); position = 1; is_trailing = is_trailing; stopped = None }

-- an argument with one value is pending
abbrev pub whole : Text → Text → List Row → Held
whole id word rows = record { rows = rows; pending = Some (id, word ∷ []); skip = 0 }

-- the fault of a word and where the walk stands after it, by what the word gives
abbrev pub TurnsTo : Options → List Rule → Reading → Kinds → Walk → List Row → Type 0
TurnsTo o c refused fault after rows = 0 < length fault
TurnsTo o c (gives parts) fault after rows = (fault ≡ []) × ((h : Held) × (b : Bool) × (after ≡ calm h b false) × Holds c h (rows_of parts rows))
TurnsTo o c (wants parts letter) fault after rows = (fault ≡ []) × (after ≡ asks letter (rows_of parts rows) false) × (has_letter o.valued letter ≡ true)

pub first_long : (a b : Kinds) → 0 < length a → 0 < length (or_else a b)
first_long [] b h = absurd (omega (arith, h))
first_long (k ∷ ks) b h = h

all_before : (bytes : List ℕ) → has_byte 61 bytes ≡ false → prefix_len (λ x. not (x == 61)) bytes ≡ length bytes
all_before [] e = refl
all_before (x ∷ xs) e = go (x == 61) refl e (all_before xs)
  where
    go : (t : Bool) → (x == 61) ≡ t → has_byte 61 (x ∷ xs) ≡ false → (has_byte 61 xs ≡ false → prefix_len (λ y. not (y == 61)) xs ≡ length xs)
        → prefix_len (λ y. not (y == 61)) (x ∷ xs) ≡ length (x ∷ xs)
    go true is h later = let found : has_byte 61 (x ∷ xs) ≡ true = rw is refl in absurd (true≢false (sym found ∙ h))
    go false is h later = let rest : has_byte 61 xs ≡ has_byte 61 (x ∷ xs) = rw is refl in rw is (omega (arith, later (rest ∙ h)))

no_equals : (bytes : List ℕ) → has_byte 61 bytes ≡ false → before_first (λ x. x == 61) bytes ≡ bytes
no_equals bytes e = ap (λ n. take n bytes) (all_before bytes e) ∙ take-length bytes

-- a name with `=` is not `prices`
equals_apart : (name : Text) → has_byte 61 name ≡ true → bytes_eq (codes "prices") name ≡ false
equals_apart name e = go (bytes_eq (codes "prices") name) refl
  where
    go : (t : Bool) → bytes_eq (codes "prices") name ≡ t → bytes_eq (codes "prices") name ≡ false
    go true is = let same : codes "prices" ≡ name = (bytes_eq-Decides (codes "prices") name).0 is in absurd (true≢false (sym e ∙ ap (has_byte 61) (sym same)))
    go false is = is

module _ (o : Options) (c : List Rule) (fits : Fits o c) (sound : Sound o) where
  plain_held : (word : Text) (h : Held) (rows : List Row) → Holds c h rows → positional_held c plain word h ≡ whole plain.id word rows
  plain_held word h rows holds = rw (and_false (is_pending plain h.pending)) (ap (pushed plain.id word) holds.rows_are)

  plain_fault : (h : Held) (rows : List Row) → Holds c h rows → positional_fault c false plain h ≡ []
  plain_fault h rows holds = rw (and_false (is_pending plain h.pending)) holds.whole

  pub plain_holds : (word : Text) (rows : List Row) → Holds c (whole plain.id word rows) (used plain (word ∷ []) rows)
  plain_holds word rows = record { whole = rw fits.words refl; rows_are = rw fits.words refl }

  pub value_holds : (x : ℕ) (word : Text) (rows : List Row) → has_letter o.valued x ≡ true → Holds c (whole (value_id x) word rows) (used (value x) (word ∷ []) rows)
  value_holds x word rows valued = let found = fits.letter x valued in record { whole = rw found refl; rows_are = rw found refl }

  -- a plain word
  plain_turn : (word : Text) → bytes_eq word (45 ∷ 45 ∷ []) ≡ false → long_word_of word ≡ None → short_of word ≡ None → (h : Held) (b : Bool) (rows : List Row) → Holds c h rows
      → TurnsTo o c (gives (Plain word ∷ [])) (turn_fault (shape c) [] (calm h b false) word) (walked c [] (calm h b false) word) rows
  unfolding walked
  plain_turn word e l s h true rows holds = rw (e, l, s, fits.place) (plain_fault h rows holds, (whole plain.id word rows, true, ap (λ g. calm g true false) (plain_held word h rows holds), plain_holds word rows))
  plain_turn word e l s h false rows holds = rw (e, l, s, fits.place) (plain_fault h rows holds, (whole plain.id word rows, true, ap (λ g. calm g true false) (plain_held word h rows holds), plain_holds word rows))

  -- a word after `--`
  pub trailing_turn : (word : Text) (h : Held) (b : Bool) (rows : List Row) → Holds c h rows
      → (turn_fault (shape c) [] (calm h b true) word ≡ []) × (walked c [] (calm h b true) word ≡ calm (whole plain.id word rows) true true)
  unfolding walked
  trailing_turn word h b rows holds = rw fits.place (plain_fault h rows holds, ap (λ g. calm g true true) (plain_held word h rows holds))

  -- the word `--`
  pub end_turn : (h : Held) (b : Bool) (rows : List Row) → (turn_fault (shape c) [] (calm h b false) (45 ∷ 45 ∷ []) ≡ []) × (walked c [] (calm h b false) (45 ∷ 45 ∷ []) ≡ calm h b true)
  unfolding walked
  end_turn h true rows = (refl, refl)
  end_turn h false rows = (refl, refl)

  -- a run of letters
  bundle_faults : (flags : Text) (h : Held) → h.skip ≡ 0 → bundle_fault c false flags h ≡ flags_fault c false (length flags) flags 0 h
  bundle_faults flags h e = λ i. flags_fault c false (length flags) flags (e i) (record h { skip = sym e i })

  bundle_is : (y : ℕ) (ys : List ℕ) (h : Held) (x : ℕ) → h.skip ≡ 0 → slice_get (chars (y ∷ ys)) 0 ≡ Some x → bundle c (y ∷ ys) h ≡ bundle_met c (suc (length ys)) (y ∷ ys) 0 done h
  unfolding bundle_met
  bundle_is y ys h x e first = (λ i. bundle_met c (suc (length ys)) (y ∷ ys) (e i) not_flag (record h { skip = sym e i })) ∙ rw first refl

  first_char : (y : ℕ) (ys : List ℕ) → IsUtf8 (y ∷ ys) → (x : ℕ) × (slice_get (chars (y ∷ ys)) 0 ≡ Some x)
  first_char y ys u = go (first_of y ys u)
    where
      go : First y ys → (x : ℕ) × (slice_get (chars (y ∷ ys)) 0 ≡ Some x)
      go (byte lt e past rest) = (y, e)
      go (wide ge x far e) = (x, e)

  run_ends : (word : Text) (h : Held) (b : Bool) (rows : List Row) (r : Reading) (fault : Kinds) (met : Held × Outcome) → RunsTo o c r fault met rows
      → TurnsTo o c r (or_else fault (step_fault (shape c) 1 (after_flag c (resting b) word met.0 met.1).0 (after_flag c (resting b) word met.0 met.1).1))
      (after_step c word (calm h b false) (after_flag c (resting b) word met.0 met.1).0 (after_flag c (resting b) word met.0 met.1).1) rows
  run_ends word h b rows refused fault met run = first_long fault _ run
  run_ends word h b rows (gives parts) fault met run = rw (run.0, run.1) (refl, (met.0, false, refl, run.2))
  run_ends word h b rows (wants parts letter) fault met run = rw (run.0, run.1) (refl, refl, run.2)

  run_turn : (y : ℕ) (ys : List ℕ) → (y == 45) ≡ false → IsUtf8 (y ∷ ys) → (h : Held) (b : Bool) (rows : List Row) → Holds c h rows
      → TurnsTo o c (run_of o (y ∷ ys)) (turn_fault (shape c) [] (calm h b false) (45 ∷ y ∷ ys)) (walked c [] (calm h b false) (45 ∷ y ∷ ys)) rows
  unfolding walked
  run_turn y ys e u h b rows holds = go b
    where
      skips : h.skip ≡ 0
      skips = ap (λ (g : Held). g.skip) holds.rows_are

      not_end : bytes_eq (45 ∷ y ∷ ys) (45 ∷ 45 ∷ []) ≡ false
      not_end = rw e refl

      not_long : long_word_of (45 ∷ y ∷ ys) ≡ None
      not_long = rw e refl

      is_short : short_of (45 ∷ y ∷ ys) ≡ Some (y ∷ ys)
      is_short = rw e refl

      first : (x : ℕ) × (slice_get (chars (y ∷ ys)) 0 ≡ Some x)
      first = first_char y ys u

      runs : RunsTo o c (run_of o (y ∷ ys)) (bundle_fault c false (y ∷ ys) h) (bundle c (y ∷ ys) h) rows
      runs = rw (bundle_faults (y ∷ ys) h skips, bundle_is y ys h first.0 skips first.1) (run_is o c fits sound (y ∷ ys) u (suc (length ys)) (omega arith) h rows holds)

      go : (b : Bool) → TurnsTo o c (run_of o (y ∷ ys)) (turn_fault (shape c) [] (calm h b false) (45 ∷ y ∷ ys)) (walked c [] (calm h b false) (45 ∷ y ∷ ys)) rows
      go true = rw (not_end, not_long, is_short) (run_ends (45 ∷ y ∷ ys) h true rows (run_of o (y ∷ ys)) (bundle_fault c false (y ∷ ys) h) (bundle c (y ∷ ys) h) runs)
      go false = rw (not_end, not_long, is_short) (run_ends (45 ∷ y ∷ ys) h false rows (run_of o (y ∷ ys)) (bundle_fault c false (y ∷ ys) h) (bundle c (y ∷ ys) h) runs)

  -- `--name`
  long_runs : (name : Text) (t : Bool) → has_byte 61 name ≡ t → (h : Held) (rows : List Row) → Holds c h rows
      → RunsTo o c (long_of o name) (long_fault c false (long_rule o (name_and_value name).0) (name_and_value name).1 h) (long_met c (long_rule o (name_and_value name).0) (name_and_value name).1 h) rows
  long_runs name true e h rows holds = rw (e, equals_apart name e, and_false o.prices) (go (o.prices && bytes_eq (codes "prices") (before_first (λ x. x == 61) name)))
    where
      go : (t : Bool) → 0 < length (long_fault c false (if t then Some prices else None) (Some (after_first (λ x. x == 61) name)) h)
      go true = omega arith
      go false = omega arith
  long_runs name false e h rows holds = rw (e, no_equals name e) (go (o.prices && bytes_eq (codes "prices") name))
    where
      go : (t : Bool) → RunsTo o c (if t then gives (Prices ∷ []) else refused) (long_fault c false (if t then Some prices else None) None h) (long_met c (if t then Some prices else None) None h) rows
      go true = (react_passes c prices [] h rows holds prices_passes, refl, holds_used c prices [] h rows holds)
      go false = omega arith

  long_turn : (x : ℕ) (xs : List ℕ) → (h : Held) (b : Bool) (rows : List Row) → Holds c h rows
      → TurnsTo o c (long_of o (x ∷ xs)) (turn_fault (shape c) [] (calm h b false) (45 ∷ 45 ∷ x ∷ xs)) (walked c [] (calm h b false) (45 ∷ 45 ∷ x ∷ xs)) rows
  unfolding walked
  long_turn x xs h b rows holds = go b
    where
      name : Text
      name = x ∷ xs

      runs : RunsTo o c (long_of o (x ∷ xs)) (long_fault c false (arg_by_long c (name_and_value (x ∷ xs)).0) (name_and_value (x ∷ xs)).1 h) (long_met c (arg_by_long c (name_and_value (x ∷ xs)).0) (name_and_value (x ∷ xs)).1 h) rows
      runs = rw (fits.long (name_and_value (x ∷ xs)).0) (long_runs (x ∷ xs) (has_byte 61 (x ∷ xs)) refl h rows holds)

      go : (b : Bool) → TurnsTo o c (long_of o (x ∷ xs)) (turn_fault (shape c) [] (calm h b false) (45 ∷ 45 ∷ x ∷ xs)) (walked c [] (calm h b false) (45 ∷ 45 ∷ x ∷ xs)) rows
      go true = run_ends (45 ∷ 45 ∷ x ∷ xs) h true rows (long_of o (x ∷ xs)) (long_fault c false (arg_by_long c (name_and_value (x ∷ xs)).0) (name_and_value (x ∷ xs)).1 h) (long_met c (arg_by_long c (name_and_value (x ∷ xs)).0) (name_and_value (x ∷ xs)).1 h) runs
      go false = run_ends (45 ∷ 45 ∷ x ∷ xs) h false rows (long_of o (x ∷ xs)) (long_fault c false (arg_by_long c (name_and_value (x ∷ xs)).0) (name_and_value (x ∷ xs)).1 h) (long_met c (arg_by_long c (name_and_value (x ∷ xs)).0) (name_and_value (x ∷ xs)).1 h) runs

  -- a word where no letter waits for its value
  pub turn_is : (word : Text) → IsUtf8 word → bytes_eq word (codes "--") ≡ false → (h : Held) (b : Bool) (rows : List Row) → Holds c h rows
      → TurnsTo o c (reading_of o word) (turn_fault (shape c) [] (calm h b false) word) (walked c [] (calm h b false) word) rows
  turn_is = by_word (λ word. IsUtf8 word → bytes_eq word (codes "--") ≡ false → (h : Held) (b : Bool) (rows : List Row) → Holds c h rows
      → TurnsTo o c (reading_of o word) (turn_fault (shape c) [] (calm h b false) word) (walked c [] (calm h b false) word) rows)
      (λ u e. plain_turn [] refl refl refl)
      (λ u e. plain_turn (45 ∷ []) refl refl refl)
      (λ u e. absurd (true≢false e))
      (λ x xs u e. long_turn x xs)
      (λ y ys e u not_end h b rows holds. let run : reading_of o (45 ∷ y ∷ ys) ≡ run_of o (y ∷ ys) = rw e refl in
      subst (λ r. TurnsTo o c r (turn_fault (shape c) [] (calm h b false) (45 ∷ y ∷ ys)) (walked c [] (calm h b false) (45 ∷ y ∷ ys)) rows) (sym run)
      (run_turn y ys e (IsUtf8-drop (45 ∷ y ∷ ys) 1 u (IsCharBoundary-after_ascii (45 ∷ y ∷ ys) 0 u (omega arith) (omega arith))) h b rows holds))
      (λ y ys e u not_end h b rows holds. let word : reading_of o (y ∷ ys) ≡ gives (Plain (y ∷ ys) ∷ []) = rw e refl in
      subst (λ r. TurnsTo o c r (turn_fault (shape c) [] (calm h b false) (y ∷ ys)) (walked c [] (calm h b false) (y ∷ ys)) rows) (sym word)
      (plain_turn (y ∷ ys) (rw e refl) (rw e refl) (rw e refl) h b rows holds))

  -- where a letter waits for its value: a word that does not begin with `-`, or is `-`, is the value
  pub value_turn : (x : ℕ) (rows : List Row) (word : Text) → has_letter o.valued x ≡ true → bytes_eq word (45 ∷ 45 ∷ []) ≡ false → long_word_of word ≡ None → short_of word ≡ None
      → (turn_fault (shape c) [] (asks x rows false) word ≡ []) × (walked c [] (asks x rows false) word ≡ calm (whole (value_id x) word rows) false false)
  unfolding walked
  value_turn x rows word valued e l s = let same : (x == x) ≡ true = (Decides-eqb x x).1 refl in rw (e, l, s, fits.letter x valued, same) (refl, refl)

  pub asking_fault : (x : ℕ) (rows : List Row) → has_letter o.valued x ≡ true → 0 < length (settle_fault c false (asking x rows))
  asking_fault x rows valued = rw (fits.letter x valued) (omega arith)

  -- the fault of an argument that is used where a letter waits for its value
  react_long : (a : Rule) (values : List Text) (h : Held) → 0 < length (settle_fault c false h) → 0 < length (react_fault c false a values h)
  react_long a values h long = first_long (settle_fault c false h) _ long

  -- the fault of the word after a letter that waits for its value, where it begins with `-` and is longer
  pub asked_turn : (x : ℕ) (rows : List Row) → has_letter o.valued x ≡ true → (y : ℕ) (ys : List ℕ) → (y == 45) ≡ false → IsUtf8 (45 ∷ y ∷ ys) → 0 < length (turn_fault (shape c) [] (asks x rows false) (45 ∷ y ∷ ys))
  unfolding flags_fault
  asked_turn x rows valued y ys e u =
      let not_end : bytes_eq (45 ∷ y ∷ ys) (45 ∷ 45 ∷ []) ≡ false = rw e refl in
      let not_long : long_word_of (45 ∷ y ∷ ys) ≡ None = rw e refl in
      let is_short : short_of (45 ∷ y ∷ ys) ≡ Some (y ∷ ys) = rw e refl in
      rw (not_end, not_long, is_short) (first_long (bundle_fault c false (y ∷ ys) (asking x rows)) _ (run_faults y ys (first_char y ys
      (IsUtf8-drop (45 ∷ y ∷ ys) 1 u (IsCharBoundary-after_ascii (45 ∷ y ∷ ys) 0 u (omega arith) (omega arith))))))
    where
      letter_faults : (d : ℕ) (rest : Text) (next : Held → Kinds) → 0 < length (short_fault c false (letter_rule o d) rest (asking x rows) next)
      letter_faults d rest next = go (has_letter o.flags d) (has_letter o.valued d) rest
        where
          go : (f v : Bool) (rest : Text) → 0 < length (short_fault c false (if f then Some (flag d) else if v then Some (value d) else None) rest (asking x rows) next)
          go true v rest = first_long (react_fault c false (flag d) [] (asking x rows)) _ (react_long (flag d) [] (asking x rows) (asking_fault x rows valued))
          go false true [] = asking_fault x rows valued
          go false true (b ∷ rest) = rw (attached_is b rest) (react_long (value d) ((if b == 61 then rest else b ∷ rest) ∷ []) (asking x rows) (asking_fault x rows valued))
          go false false rest = omega arith

      run_faults : (y : ℕ) (ys : List ℕ) → (d : ℕ) × (slice_get (chars (y ∷ ys)) 0 ≡ Some d) → 0 < length (bundle_fault c false (y ∷ ys) (asking x rows))
      run_faults y ys first = rw (first.1, fits.short first.0) (letter_faults first.0 _ _)

  -- the same for `--name`
  pub asked_long_turn : (x : ℕ) (rows : List Row) → has_letter o.valued x ≡ true → (y : ℕ) (ys : List ℕ) → 0 < length (turn_fault (shape c) [] (asks x rows false) (45 ∷ 45 ∷ y ∷ ys))
  asked_long_turn x rows valued y ys = first_long (long_fault c false (arg_by_long c (name_and_value (y ∷ ys)).0) (name_and_value (y ∷ ys)).1 (asking x rows)) _
      (rw (fits.long (name_and_value (y ∷ ys)).0) (go (o.prices && bytes_eq (codes "prices") (name_and_value (y ∷ ys)).0) (name_and_value (y ∷ ys)).1))
    where
      go : (t : Bool) (v : Option Text) → 0 < length (long_fault c false (if t then Some prices else None) v (asking x rows))
      go true None = react_long prices [] (asking x rows) (asking_fault x rows valued)
      go true (Some v) = omega arith
      go false v = omega arith

  -- the same for `--`, and then another word or the end
  pub asked_end : (x : ℕ) (rows : List Row) → (turn_fault (shape c) [] (asks x rows false) (45 ∷ 45 ∷ []) ≡ []) × (walked c [] (asks x rows false) (45 ∷ 45 ∷ []) ≡ asks x rows true)
  unfolding walked
  asked_end x rows = (refl, refl)

  pub asked_rest : (x : ℕ) (rows : List Row) → has_letter o.valued x ≡ true → (word : Text) → 0 < length (turn_fault (shape c) [] (asks x rows true) word)
  asked_rest x rows valued word = rw (fits.place, and_false (is_pending plain (asking x rows).pending)) (asking_fault x rows valued)
