-- What the rows that clap keeps say of the parts.
use Rattle.std.proofs.Common.{◌≡◌, ◌∙◌, ◌+◌, refl, ap, sym, subst, rules, arith, tests, true≢false, ℕ, min, Bool, true, false, ◌||◌, ◌==◌, if◌then◌else◌, List, [], ◌∷◌, ◌++◌, map, Option, Some, None, option_map, codes, nat_lt, eqb→eq, append_assoc}
use Rattle.std.specs.Prelude.{find, fold, unwrap_or}
use Rattle.std.specs.List.{list_any}
use Rattle.std.specs.Option.{option_map_or}
use Rattle.std.specs.Str.{bytes_eq}
use Rattle.std.proofs.lemmas.Slice.Eq.{bytes_eq-Decides}
use Rattle.std.proofs.Math.Bool.{or_assoc, or-false}
use Rattle.clap.specs.Matches.{count_text}
use Rattle.clap.specs.Walk.{Row, Rule, Text, at_row, count_of, default_rows, first_as_count, has_row, more_values, new_count, reading_by, stronger, with_count, with_default, with_values, without}
use Rattle.clap.specs.declared.builder.value_parser.Reading.{Reading}
use Rattle.clap.specs.declared.parser.matches.ValueSource.{ValueSource}
use Rattle.clap.specs.declared.parser.matches.ValueSource.TheVariants.{CommandLine, DefaultValue}
use Rattle.words.specs.Grammar.{Options, Part, Flag, Value, Prices, Plain, has_flag, has_prices, is_flag, is_prices, plain_of, values_of}
use Rattle.words.specs.Commands.{flag_id, is_counted, texts_at, value_id}
use Rattle.words.proofs.RuleLemmas.{and_false, built_rules, flag, plain, prices, prices_built, value}
use Rattle.words.proofs.LineLemmas.{or_true, values_append}
use Rattle.words.proofs.RunLemmas.{rows_of, used_by}

abbrev is_id : Text → Row → Bool
is_id id r = bytes_eq r.id id

same_id : (id : Text) → bytes_eq id id ≡ true
same_id id = (bytes_eq-Decides id id).1 refl

other_row : (r : Row) (id other : Text) → bytes_eq r.id id ≡ true → bytes_eq id other ≡ false → bytes_eq r.id other ≡ false
other_row r id other e f = rw ((bytes_eq-Decides r.id id).0 e) f

-- a change of the row of one id leaves the row of another
find_other : (id other : Text) (change : Row → List Row) (missing rows : List Row) → bytes_eq id other ≡ false → find (is_id other) missing ≡ None
    → ((r : Row) (rs : List Row) → bytes_eq r.id other ≡ false → find (is_id other) (change r ++ rs) ≡ find (is_id other) rs)
    → find (is_id other) (at_row id change missing rows) ≡ find (is_id other) rows
find_other id other change missing [] apart none keeps = none
find_other id other change missing (r ∷ rs) apart none keeps = go (bytes_eq r.id id) refl (bytes_eq r.id other) refl (find_other id other change missing rs apart none keeps)
  where
    go : (t : Bool) → bytes_eq r.id id ≡ t → (d : Bool) → bytes_eq r.id other ≡ d → find (is_id other) (at_row id change missing rs) ≡ find (is_id other) rs
        → find (is_id other) (at_row id change missing (r ∷ rs)) ≡ find (is_id other) (r ∷ rs)
    go true e d f later = let away = other_row r id other e apart in rw (e, away) (keeps r rs away)
    go false e true f later = rw (e, f) refl
    go false e false f later = rw (e, f) later

-- the row of the id itself
find_own : (id : Text) (change : Row → Row) (missing : Row) (rows : List Row) → missing.id ≡ id → ((r : Row) → (change r).id ≡ r.id)
    → find (is_id id) (at_row id (λ r. change r ∷ []) (missing ∷ []) rows) ≡ Some (option_map_or change (find (is_id id) rows) missing)
find_own id change missing [] is keeps = rw (is, same_id id) refl
find_own id change missing (r ∷ rs) is keeps = go (bytes_eq r.id id) refl (find_own id change missing rs is keeps)
  where
    go : (t : Bool) → bytes_eq r.id id ≡ t → find (is_id id) (at_row id (λ r. change r ∷ []) (missing ∷ []) rs) ≡ Some (option_map_or change (find (is_id id) rs) missing)
        → find (is_id id) (at_row id (λ r. change r ∷ []) (missing ∷ []) (r ∷ rs)) ≡ Some (option_map_or change (find (is_id id) (r ∷ rs)) missing)
    go true e later = rw (e, keeps r, e) refl
    go false e later = rw (e, e) later

-- ---- values

texts_other : (id other : Text) (how : Reading) (s : ValueSource) (values : List Text) (rows : List Row) → bytes_eq id other ≡ false
    → find (is_id other) (with_values id how s values rows) ≡ find (is_id other) rows
texts_other id other how s values rows apart = find_other id other (more_values s values) _ rows apart (rw apart refl) (λ r rs away. rw away refl)

texts_own : (id : Text) (how : Reading) (s : ValueSource) (values : List Text) (rows : List Row) → texts_at id (with_values id how s values rows) ≡ texts_at id rows ++ values
texts_own id how s values rows = rw (find_own id (λ r. record r { values = r.values ++ values; source = Some (stronger r.source s) }) (record { id = id; values = values; count = None; source = Some s; reading = how }) rows refl (λ r. refl)) (go (find (is_id id) rows))
  where
    go : (found : Option Row) → unwrap_or (option_map (λ (r : Row). r.values) (Some (option_map_or (λ (r : Row). record r { values = r.values ++ values; source = Some (stronger r.source s) }) found
        (record { id = id; values = values; count = None; source = Some s; reading = how })))) [] ≡ unwrap_or (option_map (λ (r : Row). r.values) found) [] ++ values
    go None = refl
    go (Some r) = refl

-- ---- counts

count_other : (id other : Text) (how : Reading) (s : ValueSource) (n : ℕ) (rows : List Row) → bytes_eq id other ≡ false
    → find (is_id other) (with_count id how s n (without id rows)) ≡ find (is_id other) rows
count_other id other how s n rows apart = find_other id other (new_count s n) _ (without id rows) apart (rw apart refl) (λ r rs away. rw away refl)
    ∙ find_other id other (λ _. []) [] rows apart refl (λ r rs away. refl)

count_own : (id : Text) (how : Reading) (s : ValueSource) (n : ℕ) (rows : List Row) → count_of id (with_count id how s n rows) ≡ n
count_own id how s n rows = rw (find_own id (λ r. record r { values = r.values ++ count_text n ∷ []; count = Some n; source = Some (stronger r.source s) }) (record { id = id; values = count_text n ∷ []; count = Some n; source = Some s; reading = how }) rows refl (λ r. refl)) (go (find (is_id id) rows))
  where
    go : (found : Option Row) → option_map_or (λ (r : Row). unwrap_or r.count (first_as_count r.values)) (Some (option_map_or (λ (r : Row). record r { values = r.values ++ count_text n ∷ []; count = Some n; source = Some (stronger r.source s) }) found
        (record { id = id; values = count_text n ∷ []; count = Some n; source = Some s; reading = how }))) 0 ≡ n
    go None = refl
    go (Some r) = refl

-- ---- each part

abbrev found_texts : Option Row → List Text
found_texts found = unwrap_or (option_map (λ (r : Row). r.values) found) []

abbrev found_count : Option Row → Bool
found_count found = nat_lt 0 (option_map_or (λ (r : Row). unwrap_or r.count (first_as_count r.values)) found 0)

append_none : (l : List Text) → l ≡ l ++ []
append_none l = search rules

-- the id under which a part is kept
abbrev id_of : Part → Text
id_of (Flag l) = flag_id l
id_of (Value l v) = value_id l
id_of Prices = codes "prices"
id_of (Plain w) = codes "words"

-- a part leaves the rows of other ids
part_other : (p : Part) (other : Text) (rows : List Row) → bytes_eq (id_of p) other ≡ false → find (is_id other) (used_by p rows) ≡ find (is_id other) rows
part_other (Flag l) other rows e = count_other (flag_id l) other (reading_by (flag l)) CommandLine (min (count_of (flag_id l) rows + 1) 255) rows e
part_other (Value l v) other rows e = texts_other (value_id l) other (reading_by (value l)) CommandLine (v ∷ []) rows e
part_other Prices other rows e = count_other (codes "prices") other (reading_by prices) CommandLine (min (count_of (codes "prices") rows + 1) 255) rows e
part_other (Plain w) other rows e = texts_other (codes "words") other (reading_by plain) CommandLine (w ∷ []) rows e

other_texts : (p : Part) (other : Text) (rows : List Row) → bytes_eq (id_of p) other ≡ false → texts_at other (used_by p rows) ≡ texts_at other rows ++ []
other_texts p other rows e = ap found_texts (part_other p other rows e) ∙ append_none (texts_at other rows)

other_count : (p : Part) (other : Text) (rows : List Row) → bytes_eq (id_of p) other ≡ false → is_counted other (used_by p rows) ≡ (is_counted other rows || false)
other_count p other rows e = ap found_count (part_other p other rows e) ∙ sym (or-false (is_counted other rows))

values_step : (x : ℕ) (p : Part) (rows : List Row) → texts_at (value_id x) (used_by p rows) ≡ texts_at (value_id x) rows ++ values_of x (p ∷ [])
values_step x (Flag l) rows = other_texts (Flag l) (value_id x) rows (and_false (l == 45))
values_step x Prices rows = other_texts Prices (value_id x) rows refl
values_step x (Plain w) rows = other_texts (Plain w) (value_id x) rows refl
values_step x (Value l v) rows = go (l == x) refl
  where
    go : (t : Bool) → (l == x) ≡ t → texts_at (value_id x) (used_by (Value l v) rows) ≡ texts_at (value_id x) rows ++ values_of x (Value l v ∷ [])
    go true e = rw e (subst (λ y. texts_at (value_id y) (used_by (Value l v) rows) ≡ texts_at (value_id y) rows ++ v ∷ []) (eqb→eq l x (rw e tt))
        (texts_own (value_id l) (reading_by (value l)) CommandLine (v ∷ []) rows))
    go false e = rw e (other_texts (Value l v) (value_id x) rows (rw e refl))

plain_step : (p : Part) (rows : List Row) → texts_at (codes "words") (used_by p rows) ≡ texts_at (codes "words") rows ++ plain_of (p ∷ [])
plain_step (Flag l) rows = other_texts (Flag l) (codes "words") rows (and_false (l == 119))
plain_step Prices rows = other_texts Prices (codes "words") rows refl
plain_step (Value l v) rows = other_texts (Value l v) (codes "words") rows refl
plain_step (Plain w) rows = texts_own (codes "words") (reading_by plain) CommandLine (w ∷ []) rows

counted_more : (n : ℕ) → nat_lt 0 (min (n + 1) 255) ≡ true
counted_more n = grind (arith, tests)

flag_own : (l : ℕ) (rows : List Row) → is_counted (flag_id l) (used_by (Flag l) rows) ≡ true
flag_own l rows = ap (nat_lt 0) (count_own (flag_id l) (reading_by (flag l)) CommandLine (min (count_of (flag_id l) rows + 1) 255) (without (flag_id l) rows)) ∙ counted_more (count_of (flag_id l) rows)

prices_own : (rows : List Row) → is_counted (codes "prices") (used_by Prices rows) ≡ true
prices_own rows = ap (nat_lt 0) (count_own (codes "prices") (reading_by prices) CommandLine (min (count_of (codes "prices") rows + 1) 255) (without (codes "prices") rows)) ∙ counted_more (count_of (codes "prices") rows)

flag_step : (x : ℕ) (p : Part) (rows : List Row) → is_counted (flag_id x) (used_by p rows) ≡ (is_counted (flag_id x) rows || is_flag x p)
flag_step x Prices rows = other_count Prices (flag_id x) rows (and_false (112 == x))
flag_step x (Plain w) rows = other_count (Plain w) (flag_id x) rows (and_false (119 == x))
flag_step x (Value l v) rows = other_count (Value l v) (flag_id x) rows (and_false (45 == x))
flag_step x (Flag l) rows = go (l == x) refl
  where
    go : (t : Bool) → (l == x) ≡ t → is_counted (flag_id x) (used_by (Flag l) rows) ≡ (is_counted (flag_id x) rows || is_flag x (Flag l))
    go true e = rw e (subst (λ y. is_counted (flag_id y) (used_by (Flag l) rows) ≡ true) (eqb→eq l x (rw e tt)) (flag_own l rows) ∙ sym (or_true (is_counted (flag_id x) rows) true refl))
    go false e = rw e (other_count (Flag l) (flag_id x) rows (rw e refl))

prices_step : (p : Part) (rows : List Row) → is_counted (codes "prices") (used_by p rows) ≡ (is_counted (codes "prices") rows || is_prices p)
prices_step (Flag l) rows = other_count (Flag l) (codes "prices") rows (and_false (l == 112))
prices_step (Plain w) rows = other_count (Plain w) (codes "prices") rows refl
prices_step (Value l v) rows = other_count (Value l v) (codes "prices") rows refl
prices_step Prices rows = prices_own rows ∙ sym (or_true (is_counted (codes "prices") rows) true refl)

-- ---- all parts

values_all : (x : ℕ) (ps : List Part) (rows : List Row) → texts_at (value_id x) (rows_of ps rows) ≡ texts_at (value_id x) rows ++ values_of x ps
values_all x [] rows = append_none (texts_at (value_id x) rows)
values_all x (p ∷ ps) rows = values_all x ps (used_by p rows) ∙ ap (λ l. l ++ values_of x ps) (values_step x p rows)
    ∙ append_assoc (texts_at (value_id x) rows) (values_of x (p ∷ [])) (values_of x ps) ∙ ap (λ l. texts_at (value_id x) rows ++ l) (sym (values_append x (p ∷ []) ps))

plain_append : (p : Part) (ps : List Part) → plain_of (p ∷ []) ++ plain_of ps ≡ plain_of (p ∷ ps)
plain_append (Flag l) ps = refl
plain_append (Value l v) ps = refl
plain_append Prices ps = refl
plain_append (Plain w) ps = refl

plain_all : (ps : List Part) (rows : List Row) → texts_at (codes "words") (rows_of ps rows) ≡ texts_at (codes "words") rows ++ plain_of ps
plain_all [] rows = append_none (texts_at (codes "words") rows)
plain_all (p ∷ ps) rows = plain_all ps (used_by p rows) ∙ ap (λ l. l ++ plain_of ps) (plain_step p rows)
    ∙ append_assoc (texts_at (codes "words") rows) (plain_of (p ∷ [])) (plain_of ps) ∙ ap (λ l. texts_at (codes "words") rows ++ l) (plain_append p ps)

counted_all : (id : Text) (test : Part → Bool) → ((p : Part) (rows : List Row) → is_counted id (used_by p rows) ≡ (is_counted id rows || test p))
    → (ps : List Part) (rows : List Row) → is_counted id (rows_of ps rows) ≡ (is_counted id rows || list_any test ps)
counted_all id test step [] rows = sym (or-false (is_counted id rows))
counted_all id test step (p ∷ ps) rows = counted_all id test step ps (used_by p rows) ∙ ap (λ b. b || list_any test ps) (step p rows) ∙ or_assoc (is_counted id rows) (test p) (list_any test ps)

-- ---- defaults

no_row : (id : Text) (rows : List Row) → has_row id rows ≡ false → find (is_id id) rows ≡ None
no_row id [] e = refl
no_row id (r ∷ rs) e = go (bytes_eq r.id id) refl e (no_row id rs)
  where
    go : (t : Bool) → bytes_eq r.id id ≡ t → has_row id (r ∷ rs) ≡ false → (has_row id rs ≡ false → find (is_id id) rs ≡ None) → find (is_id id) (r ∷ rs) ≡ None
    go true is h later = let found : has_row id (r ∷ rs) ≡ true = rw is refl in absurd (true≢false (sym found ∙ h))
    go false is h later = let rest : has_row id rs ≡ has_row id (r ∷ rs) = rw is refl in rw is (later (rest ∙ h))

if_same : {X : Type 0} (b : Bool) (x : X) → (if b then x else x) ≡ x
if_same true x = refl
if_same false x = refl

-- the default of a flag counts 0
zero_default : (id other : Text) (how : Reading) (rows : List Row) → found_count (find (is_id other) (if has_row id rows then rows else default_rows id how (codes "0" ∷ []) rows)) ≡ found_count (find (is_id other) rows)
zero_default id other how rows = go (has_row id rows) refl (bytes_eq id other) refl
  where
    own : has_row id rows ≡ false → found_count (find (is_id id) (default_rows id how (codes "0" ∷ []) rows)) ≡ found_count (find (is_id id) rows)
    own e = rw (
      find_own id (λ r. record r { values = r.values ++ (codes "0" ∷ []); source = Some (stronger r.source DefaultValue) }) (record { id = id; values = codes "0" ∷ []; count = None; source = Some DefaultValue; reading = how }) rows refl (λ r. refl),
      no_row id rows e,
    ) refl

    go : (t : Bool) → has_row id rows ≡ t → (d : Bool) → bytes_eq id other ≡ d
        → found_count (find (is_id other) (if has_row id rows then rows else default_rows id how (codes "0" ∷ []) rows)) ≡ found_count (find (is_id other) rows)
    go true e d f = rw e refl
    go false e false f = rw e (ap found_count (texts_other id other how DefaultValue (codes "0" ∷ []) rows f))
    go false e true f = rw e (subst (λ y. found_count (find (is_id y) (default_rows id how (codes "0" ∷ []) rows)) ≡ found_count (find (is_id y) rows)) ((bytes_eq-Decides id other).0 f) (own e))

other_default : (id other : Text) (how : Reading) (values : List Text) (rows : List Row) → bytes_eq id other ≡ false
    → find (is_id other) (if has_row id rows then rows else default_rows id how values rows) ≡ find (is_id other) rows
other_default id other how [] rows apart = ap (find (is_id other)) (if_same (has_row id rows) rows)
other_default id other how (v ∷ vs) rows apart = go (has_row id rows) refl
  where
    go : (t : Bool) → has_row id rows ≡ t → find (is_id other) (if has_row id rows then rows else default_rows id how (v ∷ vs) rows) ≡ find (is_id other) rows
    go true e = rw e refl
    go false e = rw e (texts_other id other how DefaultValue (v ∷ vs) rows apart)

-- what the defaults of all arguments leave
module _ {X : Type 0} (read : List Row → X) where
  keeps_letters : (rule : ℕ → Rule) (letters : List ℕ) (rest : List Rule) (rows : List Row) → ((l : ℕ) (now : List Row) → read (with_default now (rule l)) ≡ read now)
      → ((now : List Row) → read (fold with_default now rest) ≡ read now) → read (fold with_default rows (map rule letters ++ rest)) ≡ read rows
  keeps_letters rule [] rest rows one later = later rows
  keeps_letters rule (l ∷ ls) rest rows one later = keeps_letters rule ls rest (with_default rows (rule l)) one later ∙ one l rows

  keeps_prices : (given : Bool) (rows : List Row) → ((now : List Row) → read (with_default now prices) ≡ read now) → read (fold with_default rows (prices_built given)) ≡ read rows
  keeps_prices true rows one = one rows
  keeps_prices false rows one = refl

  keeps_all : (o : Options) (rows : List Row) → ((now : List Row) → read (with_default now plain) ≡ read now) → ((l : ℕ) (now : List Row) → read (with_default now (flag l)) ≡ read now)
      → ((l : ℕ) (now : List Row) → read (with_default now (value l)) ≡ read now) → ((now : List Row) → read (with_default now prices) ≡ read now)
      → read (fold with_default rows (built_rules o)) ≡ read rows
  keeps_all o rows for_plain for_flag for_value for_prices =
      keeps_letters flag o.flags (map value o.valued ++ prices_built o.prices) (with_default rows plain) for_flag
      (λ now. keeps_letters value o.valued (prices_built o.prices) now for_value (λ later. keeps_prices o.prices later for_prices)) ∙ for_plain rows

-- the rows at the end
abbrev pub end_rows : Options → List Part → List Row
end_rows o ps = fold with_default (rows_of ps []) (built_rules o)

pub count_end : (o : Options) (id : Text) (rows : List Row) → is_counted id (fold with_default rows (built_rules o)) ≡ is_counted id rows
count_end o id rows = keeps_all (is_counted id) o rows
    (λ now. ap (is_counted id) (if_same (has_row plain.id now) now))
    (λ l now. zero_default (flag_id l) id (reading_by (flag l)) now)
    (λ l now. ap (is_counted id) (if_same (has_row (value_id l) now) now))
    (λ now. zero_default (codes "prices") id (reading_by prices) now)

-- a flag is counted exactly where it is given
pub flag_end : (o : Options) (x : ℕ) (ps : List Part) → is_counted (flag_id x) (end_rows o ps) ≡ has_flag x ps
flag_end o x ps = count_end o (flag_id x) (rows_of ps []) ∙ counted_all (flag_id x) (is_flag x) (flag_step x) ps []

pub prices_end : (o : Options) (ps : List Part) → is_counted (codes "prices") (end_rows o ps) ≡ has_prices ps
prices_end o ps = count_end o (codes "prices") (rows_of ps []) ∙ counted_all (codes "prices") is_prices prices_step ps []

pub values_end : (o : Options) (x : ℕ) (ps : List Part) → texts_at (value_id x) (end_rows o ps) ≡ values_of x ps
values_end o x ps = keeps_all (texts_at (value_id x)) o (rows_of ps [])
    (λ now. ap (texts_at (value_id x)) (if_same (has_row plain.id now) now))
    (λ l now. ap found_texts (other_default (flag_id l) (value_id x) (reading_by (flag l)) (codes "0" ∷ []) now (and_false (l == 45))))
    (λ l now. ap (texts_at (value_id x)) (if_same (has_row (value_id l) now) now))
    (λ now. ap found_texts (other_default (codes "prices") (value_id x) (reading_by prices) (codes "0" ∷ []) now refl)) ∙ values_all x ps []

pub plain_end : (o : Options) (ps : List Part) → texts_at (codes "words") (end_rows o ps) ≡ plain_of ps
plain_end o ps = keeps_all (texts_at (codes "words")) o (rows_of ps [])
    (λ now. ap (texts_at (codes "words")) (if_same (has_row plain.id now) now))
    (λ l now. ap found_texts (other_default (flag_id l) (codes "words") (reading_by (flag l)) (codes "0" ∷ []) now (and_false (l == 119))))
    (λ l now. ap (texts_at (codes "words")) (if_same (has_row (value_id l) now) now))
    (λ now. ap found_texts (other_default (codes "prices") (codes "words") (reading_by prices) (codes "0" ∷ []) now refl)) ∙ plain_all ps []
