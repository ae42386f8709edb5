-- What clap makes of a list of words.
use Rattle.std.proofs.Common.{◌≡◌, ◌∙◌, ◌<◌, refl, ap, sym, subst, ℕ, Bool, true, false, ◌||◌, ◌==◌, List, [], ◌∷◌, ◌++◌, map, length, Option, Some, None, option_map, codes, ◌⊎◌, inl, inr}
use Rattle.std.specs.Prelude.{fold}
use Rattle.std.specs.Str.{bytes_eq, IsUtf8}
use Rattle.std.proofs.lemmas.Slice.Eq.{bytes_eq-Decides}
use Rattle.std.proofs.lemmas.List.Folds.{list_any-append}
use Rattle.std.proofs.lemmas.Bool.Decides.{Decides-eqb}
use Rattle.clap.specs.Lexer.{short_of}
use Rattle.clap.specs.Lexer.{long_of as long_word_of}
use Rattle.clap.specs.Walk.{Held, Row, Rule, Text, Walk, settled, walked}
use Rattle.clap.specs.Kinds.{Kinds, or_else}
use Rattle.clap.specs.Faults.{settle_fault, turn_fault, walk_fault}
use Rattle.words.specs.Grammar.{Options, Part, Flag, Value, Prices, Plain, Reading, refused, gives, wants, has_letter, word_parts, parts_then, reading_of, values_of}
use Rattle.words.specs.Commands.{GivesHyphen, value_id}
use Rattle.words.proofs.RuleLemmas.{Fits, plain, shape}
use Rattle.words.proofs.RunLemmas.{Holds, Sound, ready, rows_append, rows_of}
use Rattle.words.proofs.WordTurnLemmas.{TurnsTo, asked_end, asked_long_turn, asked_rest, asked_turn, asking_fault, asks, by_word, calm, end_turn, first_long, plain_holds, trailing_turn, turn_is, value_holds, value_turn, whole}

-- ---- a value `-`, which clap takes

pub values_append : (x : ℕ) (ps qs : List Part) → values_of x (ps ++ qs) ≡ values_of x ps ++ values_of x qs
values_append x [] qs = refl
values_append x (Flag l ∷ ps) qs = values_append x ps qs
values_append x (Prices ∷ ps) qs = values_append x ps qs
values_append x (Plain w ∷ ps) qs = values_append x ps qs
values_append x (Value l v ∷ ps) qs = go (l == x) refl (values_append x ps qs)
  where
    go : (t : Bool) → (l == x) ≡ t → values_of x (ps ++ qs) ≡ values_of x ps ++ values_of x qs → values_of x ((Value l v ∷ ps) ++ qs) ≡ values_of x (Value l v ∷ ps) ++ values_of x qs
    go true e later = rw e (ap (λ vs. v ∷ vs) later)
    go false e later = rw e later

pub or_true : (a b : Bool) → b ≡ true → (a || b) ≡ true
or_true true b e = refl
or_true false b e = e

hyphen_later : (o : Options) (ps qs : List Part) → GivesHyphen o qs → GivesHyphen o (ps ++ qs)
hyphen_later o ps qs h = (h.0, h.1, rw (values_append h.0 ps qs, list_any-append (λ value. bytes_eq value (45 ∷ [])) (values_of h.0 ps) (values_of h.0 qs)) (or_true _ _ h.2))

hyphen_here : (o : Options) (x : ℕ) (qs : List Part) → has_letter o.valued x ≡ true → GivesHyphen o (Value x (45 ∷ []) ∷ qs)
hyphen_here o x qs valued = (x, valued, let same : (x == x) ≡ true = (Decides-eqb x x).1 refl in rw same refl)

-- ---- the whole walk

-- the fault of the words and of what is pending at their end, and the rows then
abbrev pub total : List Rule → Walk → List Text → Kinds
total c w words = or_else (walk_fault (shape c) [] w words) (settle_fault c false (fold (walked c []) w words).held)

abbrev pub final : List Rule → Walk → List Text → List Row
final c w words = (settled c (fold (walked c []) w words).held).rows

-- the walk agrees with what the words give: a fault comes exactly where they are refused, but that the value `-` may come in its place
abbrev pub Agrees : Options → Option (List Part) → Kinds → List Row → List Row → Type 0
Agrees o (Some parts) fault end rows = (fault ≡ []) × (end ≡ rows_of parts rows)
Agrees o None fault end rows = (0 < length fault) ⊎ ((parts : List Part) × GivesHyphen o parts × (end ≡ rows_of parts rows))

agrees_after : (o : Options) (ps : List Part) (g : Option (List Part)) (fault : Kinds) (end rows : List Row) → Agrees o g fault end (rows_of ps rows)
    → Agrees o (option_map (λ more. ps ++ more) g) fault end rows
agrees_after o ps (Some qs) fault end rows h = (h.0, h.1 ∙ sym (rows_append ps qs rows))
agrees_after o ps None fault end rows (inl x) = inl x
agrees_after o ps None fault end rows (inr h) = inr (ps ++ h.0, hyphen_later o ps h.0 h.1, h.2 ∙ sym (rows_append ps h.0 rows))

agrees_hyphen : (o : Options) (x : ℕ) (g : Option (List Part)) (fault : Kinds) (end rows : List Row) → has_letter o.valued x ≡ true
    → Agrees o g fault end (rows_of (Value x (45 ∷ []) ∷ []) rows) → Agrees o None fault end rows
agrees_hyphen o x (Some qs) fault end rows valued h = inr (Value x (45 ∷ []) ∷ qs, hyphen_here o x qs valued, h.1)
agrees_hyphen o x None fault end rows valued (inl e) = inl e
agrees_hyphen o x None fault end rows valued (inr h) = inr (Value x (45 ∷ []) ∷ h.0, hyphen_later o (Value x (45 ∷ []) ∷ []) h.0 h.1, h.2)

abbrev pub AllUtf8 : List Text → Type 0
AllUtf8 [] = Unit {0}
AllUtf8 (word ∷ words) = IsUtf8 word × AllUtf8 words

module _ (o : Options) (c : List Rule) (fits : Fits o c) (sound : Sound o) where
  step_total : (w after : Walk) (word : Text) (words : List Text) → turn_fault (shape c) [] w word ≡ [] → walked c [] w word ≡ after → total c w (word ∷ words) ≡ total c after words
  unfolding walk_fault
  step_total w after word words none is = rw none (ap (λ v. total c v words) is)

  step_final : (w after : Walk) (word : Text) (words : List Text) → walked c [] w word ≡ after → final c w (word ∷ words) ≡ final c after words
  step_final w after word words is = ap (λ v. final c v words) is

  faulty : (w : Walk) (word : Text) (words : List Text) → 0 < length (turn_fault (shape c) [] w word) → 0 < length (total c w (word ∷ words))
  unfolding walk_fault
  faulty w word words long = first_long _ _ (first_long (turn_fault (shape c) [] w word) _ long)

  -- one step, whose parts come first
  agrees_step : (ps : List Part) (g : Option (List Part)) (w after : Walk) (word : Text) (words : List Text) (rows : List Row) → turn_fault (shape c) [] w word ≡ [] → walked c [] w word ≡ after
      → Agrees o g (total c after words) (final c after words) (rows_of ps rows) → Agrees o (option_map (λ more. ps ++ more) g) (total c w (word ∷ words)) (final c w (word ∷ words)) rows
  agrees_step ps g w after word words rows none is h = agrees_after o ps g (total c w (word ∷ words)) (final c w (word ∷ words)) rows
      (rw (step_total w after word words none is, step_final w after word words is) h)

  -- after `--` all words are plain
  trailing : (words : List Text) (h : Held) (b : Bool) (rows : List Row) → Holds c h rows → Agrees o (Some (map Plain words)) (total c (calm h b true) words) (final c (calm h b true) words) rows
  unfolding walk_fault
  trailing [] h b rows holds = (holds.whole, ap (λ (g : Held). g.rows) holds.rows_are)
  trailing (word ∷ words) h b rows holds =
      let turn = trailing_turn o c fits sound word h b rows holds in
      agrees_step (Plain word ∷ []) (Some (map Plain words)) (calm h b true) (calm (whole plain.id word rows) true true) word words rows turn.0 turn.1
      (trailing words (whole plain.id word rows) true (rows_of (Plain word ∷ []) rows) (plain_holds o c fits sound word rows))

  -- the walk from here on
  abbrev Calmly : List Text → Type 0
  Calmly words = (h : Held) (b : Bool) (rows : List Row) → Holds c h rows → Agrees o (word_parts o words None) (total c (calm h b false) words) (final c (calm h b false) words) rows

  abbrev Asked : List Text → Type 0
  Asked words = (x : ℕ) (rows : List Row) → has_letter o.valued x ≡ true → Agrees o (word_parts o words (Some x)) (total c (asks x rows false) words) (final c (asks x rows false) words) rows

  -- a word other than `--`
  calm_step : (word : Text) (words : List Text) (h : Held) (b : Bool) (rows : List Row) → Calmly words → Asked words → (r : Reading)
      → TurnsTo o c r (turn_fault (shape c) [] (calm h b false) word) (walked c [] (calm h b false) word) rows
      → Agrees o (parts_then r (word_parts o words)) (total c (calm h b false) (word ∷ words)) (final c (calm h b false) (word ∷ words)) rows
  calm_step word words h b rows calmly asked refused turn = inl (faulty (calm h b false) word words turn)
  calm_step word words h b rows calmly asked (gives ps) turn =
      agrees_step ps (word_parts o words None) (calm h b false) (calm turn.1.0 turn.1.1 false) word words rows turn.0 turn.1.2 (calmly turn.1.0 turn.1.1 (rows_of ps rows) turn.1.3)
  calm_step word words h b rows calmly asked (wants ps x) turn =
      agrees_step ps (word_parts o words (Some x)) (calm h b false) (asks x (rows_of ps rows) false) word words rows turn.0 turn.1 (asked x (rows_of ps rows) turn.2)

  -- the word `--`
  calm_end : (words : List Text) (h : Held) (b : Bool) (rows : List Row) → Holds c h rows
      → Agrees o (Some (map Plain words)) (total c (calm h b false) ((45 ∷ 45 ∷ []) ∷ words)) (final c (calm h b false) ((45 ∷ 45 ∷ []) ∷ words)) rows
  calm_end words h b rows holds =
      let turn = end_turn o c fits sound h b rows in
      agrees_step [] (Some (map Plain words)) (calm h b false) (calm h b true) (45 ∷ 45 ∷ []) words rows turn.0 turn.1 (trailing words h b rows holds)

  calm_word : (word : Text) (words : List Text) → IsUtf8 word → Calmly words → Asked words → Calmly (word ∷ words)
  calm_word word words u calmly asked h b rows holds = go (bytes_eq word (codes "--")) refl
    where
      go : (t : Bool) → bytes_eq word (codes "--") ≡ t → Agrees o (word_parts o (word ∷ words) None) (total c (calm h b false) (word ∷ words)) (final c (calm h b false) (word ∷ words)) rows
      go true e = rw e (subst (λ w. Agrees o (Some (map Plain words)) (total c (calm h b false) (w ∷ words)) (final c (calm h b false) (w ∷ words)) rows)
          (sym ((bytes_eq-Decides word (codes "--")).0 e)) (calm_end words h b rows holds))
      go false e = rw e (calm_step word words h b rows calmly asked (reading_of o word) (turn_is o c fits sound word u e h b rows holds))

  -- the word after a letter that waits for its value
  asked_value : (word : Text) (words : List Text) (x : ℕ) (rows : List Row) → has_letter o.valued x ≡ true → Calmly words → bytes_eq word (45 ∷ 45 ∷ []) ≡ false → long_word_of word ≡ None → short_of word ≡ None
      → Agrees o (option_map (λ more. Value x word ∷ more) (word_parts o words None)) (total c (asks x rows false) (word ∷ words)) (final c (asks x rows false) (word ∷ words)) rows
  asked_value word words x rows valued calmly e l s =
      let turn = value_turn o c fits sound x rows word valued e l s in
      agrees_step (Value x word ∷ []) (word_parts o words None) (asks x rows false) (calm (whole (value_id x) word rows) false false) word words rows turn.0 turn.1
      (calmly (whole (value_id x) word rows) false (rows_of (Value x word ∷ []) rows) (value_holds o c fits sound x word rows valued))

  asked_hyphen : (words : List Text) (x : ℕ) (rows : List Row) → has_letter o.valued x ≡ true → Calmly words
      → Agrees o None (total c (asks x rows false) ((45 ∷ []) ∷ words)) (final c (asks x rows false) ((45 ∷ []) ∷ words)) rows
  asked_hyphen words x rows valued calmly =
      let turn = value_turn o c fits sound x rows (45 ∷ []) valued refl refl refl in
      agrees_hyphen o x (word_parts o words None) _ _ rows valued
      (rw (step_total (asks x rows false) (calm (whole (value_id x) (45 ∷ []) rows) false false) (45 ∷ []) words turn.0 turn.1, step_final (asks x rows false) (calm (whole (value_id x) (45 ∷ []) rows) false false) (45 ∷ []) words turn.1)
      (calmly (whole (value_id x) (45 ∷ []) rows) false (rows_of (Value x (45 ∷ []) ∷ []) rows) (value_holds o c fits sound x (45 ∷ []) rows valued)))

  asked_ends : (words : List Text) (x : ℕ) (rows : List Row) → has_letter o.valued x ≡ true → 0 < length (total c (asks x rows false) ((45 ∷ 45 ∷ []) ∷ words))
  unfolding walk_fault
  asked_ends words x rows valued =
      let turn = asked_end o c fits sound x rows in
      rw (step_total (asks x rows false) (asks x rows true) (45 ∷ 45 ∷ []) words turn.0 turn.1) (go words)
    where
      go : (words : List Text) → 0 < length (total c (asks x rows true) words)
      go [] = asking_fault o c fits sound x rows valued
      go (word ∷ words) = faulty (asks x rows true) word words (asked_rest o c fits sound x rows valued word)

  asked_word : (word : Text) (words : List Text) → IsUtf8 word → Calmly words → Asked (word ∷ words)
  asked_word = by_word (λ word. (words : List Text) → IsUtf8 word → Calmly words → Asked (word ∷ words))
      (λ words u calmly x rows valued. asked_value [] words x rows valued calmly refl refl refl)
      (λ words u calmly x rows valued. asked_hyphen words x rows valued calmly)
      (λ words u calmly x rows valued. inl (asked_ends words x rows valued))
      (λ y ys words u calmly x rows valued. inl (faulty (asks x rows false) (45 ∷ 45 ∷ y ∷ ys) words (asked_long_turn o c fits sound x rows valued y ys)))
      (λ y ys e words u calmly x rows valued. inl (faulty (asks x rows false) (45 ∷ y ∷ ys) words (asked_turn o c fits sound x rows valued y ys e u)))
      (λ y ys e words u calmly x rows valued. rw e (asked_value (y ∷ ys) words x rows valued calmly (rw e refl) (rw e refl) (rw e refl)))

  both_ways : (words : List Text) → AllUtf8 words → Calmly words × Asked words
  unfolding walk_fault
  both_ways [] u = (λ h b rows holds. (holds.whole, ap (λ (g : Held). g.rows) holds.rows_are), λ x rows valued. inl (asking_fault o c fits sound x rows valued))
  both_ways (word ∷ words) u =
      let later = both_ways words u.1 in
      (calm_word word words u.0 later.0 later.1, asked_word word words u.0 later.0)

  pub words_agree : (words : List Text) → AllUtf8 words → Agrees o (word_parts o words None) (total c (calm (ready []) false false) words) (final c (calm (ready []) false false) words) []
  words_agree words u = (both_ways words u).0 (ready []) false [] (record { whole = refl; rows_are = refl })
