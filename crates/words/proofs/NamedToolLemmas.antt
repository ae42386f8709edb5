-- The command that words give is one of the tool that they name.
use Rattle.std.proofs.Common.{◌≡◌, sym, subst, refl, ℕ, Bool, true, false, ◌&&◌, ◌||◌, if◌then◌else◌, List, [], ◌∷◌, Option, Some, None, Result, codes, IfOk}
use Rattle.std.specs.Prelude.{option_and_then, option_map}
use Rattle.std.proofs.lemmas.Slice.Eq.{bytes_eq-Decides}
use Rattle.words.specs.Grammar.{has_flag, has_prices, word_parts, plain_of, values_of}
use Rattle.std.specs.Str.{bytes_eq}
use Rattle.words.specs.Words.{Command, Enumpure, Enummixed, Lcp, Lp, Convert, Check, Make, answer, command_from, at_most_one, check_of, check_options, check_settings, convert_of, convert_options, enummixed_of, enummixed_options, enumpure_of, enumpure_options, is_one_or_none, layout_of, lcp_of, lcp_options, lp_of, lp_options, make_of, make_options, number_in_range, player_from, table_settings, understood, workers_from}
use Rattle.words.specs.declared.Usage.{Usage}

-- the name of a command's tool
abbrev pub tool_name : Command → List ℕ
tool_name (Enumpure strategic agents perfect file) = codes "enumpure"
tool_name (Enummixed all workers file) = codes "enummixed"
tool_name (Lcp strategic perfect file) = codes "lcp"
tool_name (Lp strategic prices perfect file) = codes "lp"
tool_name (Convert layout row column file) = codes "convert"
tool_name (Check strategic game lines) = codes "check"
tool_name (Make number rows columns workers) = codes "make"

-- a command, if there is one, is of the tool with this name
abbrev Named : List ℕ → Option Command → Type 0
Named name None = Unit {0}
Named name (Some command) = tool_name command ≡ name

map_named : {X : Type 0} (name : List ℕ) (f : X → Command) → ((x : X) → tool_name (f x) ≡ name) → (o : Option X) → Named name (option_map f o)
map_named name f is None = tt
map_named name f is (Some x) = is x

then_named : {X : Type 0} (name : List ℕ) (f : X → Option Command) → ((x : X) → Named name (f x)) → (o : Option X) → Named name (option_and_then f o)
then_named name f is None = tt
then_named name f is (Some x) = is x

if_named : (name : List ℕ) (b : Bool) (o other : Option Command) → Named name o → Named name other → Named name (if b then o else other)
if_named name true o other is also = is
if_named name false o other is also = also

-- ---- the tools
enumpure_named : (words : List (List ℕ)) → Named (codes "enumpure") (answer enumpure_options enumpure_of words)
enumpure_named words = then_named _ enumpure_of (λ ps. if_named _ (has_flag 83 ps && (has_flag 65 ps || has_flag 80 ps)) None _ tt
    (map_named _ (Enumpure (has_flag 83 ps) (has_flag 65 ps) (has_flag 80 ps)) (λ file. refl) (at_most_one (plain_of ps)))) (word_parts enumpure_options words None)

enummixed_named : (words : List (List ℕ)) → Named (codes "enummixed") (answer enummixed_options enummixed_of words)
enummixed_named words = then_named _ enummixed_of (λ ps. then_named _ (λ n. option_map (Enummixed (has_flag 68 ps) n) (at_most_one (plain_of ps)))
    (λ n. map_named _ (Enummixed (has_flag 68 ps) n) (λ file. refl) (at_most_one (plain_of ps))) (workers_from (values_of 106 ps))) (word_parts enummixed_options words None)

lcp_named : (words : List (List ℕ)) → Named (codes "lcp") (answer lcp_options lcp_of words)
lcp_named words = then_named _ lcp_of (λ ps. if_named _ (has_flag 83 ps && has_flag 80 ps) None _ tt
    (then_named _ (λ e. if is_one_or_none e then option_map (Lcp (has_flag 83 ps) (has_flag 80 ps)) (at_most_one (plain_of ps)) else None)
    (λ e. if_named _ (is_one_or_none e) _ None (map_named _ (Lcp (has_flag 83 ps) (has_flag 80 ps)) (λ file. refl) (at_most_one (plain_of ps))) tt) (at_most_one (values_of 101 ps)))) (word_parts lcp_options words None)

lp_named : (words : List (List ℕ)) → Named (codes "lp") (answer lp_options lp_of words)
lp_named words = then_named _ lp_of (λ ps. if_named _ (has_flag 80 ps && (has_flag 83 ps || has_prices ps)) None _ tt
    (map_named _ (Lp (has_flag 83 ps) (has_prices ps) (has_flag 80 ps)) (λ file. refl) (at_most_one (plain_of ps)))) (word_parts lp_options words None)

convert_named : (words : List (List ℕ)) → Named (codes "convert") (answer convert_options convert_of words)
convert_named words = then_named _ convert_of (λ ps. then_named _ _ (λ layout. then_named _ _ (λ row. then_named _ _ (λ column.
    map_named _ (Convert layout row column) (λ file. refl) (at_most_one (plain_of ps))) (player_from 2 (values_of 99 ps))) (player_from 1 (values_of 114 ps)))
    (option_and_then layout_of (at_most_one (values_of 79 ps)))) (word_parts convert_options words None)

game_named : (strategic : Bool) (plain : List (List ℕ)) → Named (codes "check") (check_settings strategic plain)
game_named strategic [] = tt
game_named strategic (game ∷ plain) = map_named _ (Check strategic game) (λ lines. refl) (at_most_one plain)

check_named : (words : List (List ℕ)) → Named (codes "check") (answer check_options check_of words)
check_named words = then_named _ check_of (λ ps. game_named (has_flag 83 ps) (plain_of ps)) (word_parts check_options words None)

table_named : (workers : ℕ) (plain : List (List ℕ)) → Named (codes "make") (table_settings workers plain)
table_named workers (number ∷ rows ∷ columns ∷ []) = then_named _ _ (λ n. then_named _ _ (λ r. map_named _ (λ c. Make n r c workers) (λ c. refl) (number_in_range 1 32 columns)) (number_in_range 1 32 rows)) (number_in_range 0 2147483647 number)
table_named workers _ = tt

make_named : (words : List (List ℕ)) → Named (codes "make") (answer make_options make_of words)
make_named words = then_named _ make_of (λ ps. then_named _ (λ n. table_settings n (plain_of ps)) (λ n. table_named n (plain_of ps)) (workers_from (values_of 106 ps))) (word_parts make_options words None)

-- ---- the whole line
-- the first word names the tool of the line's command
abbrev pub NamedFirst : List ℕ → Result Command Usage → Type 0
NamedFirst tool line = IfOk line (λ command. tool_name command ≡ tool)

understood_named : (tool : List ℕ) (o : Option Command) → Named tool o → NamedFirst tool (understood o)
understood_named tool None is = tt
understood_named tool (Some command) is = is

either_named : (tool name : List ℕ) (o : Option Command) (other : Result Command Usage) → Named name o → NamedFirst tool other → NamedFirst tool (if bytes_eq tool name then understood o else other)
either_named tool name o other is rest = go (bytes_eq tool name) refl
  where
    go : (t : Bool) → bytes_eq tool name ≡ t → NamedFirst tool (if t then understood o else other)
    go true e = understood_named tool o (subst (λ n. Named n o) (sym ((bytes_eq-Decides tool name).0 e)) is)
    go false e = rest

pub any_named : (tool : List ℕ) (words : List (List ℕ)) → NamedFirst tool (command_from (tool ∷ words))
any_named tool words =
    either_named tool (codes "enumpure") _ _ (enumpure_named words) (either_named tool (codes "enummixed") _ _ (enummixed_named words) (either_named tool (codes "lcp") _ _ (lcp_named words)
    (either_named tool (codes "lp") _ _ (lp_named words) (either_named tool (codes "convert") _ _ (convert_named words) (either_named tool (codes "check") _ _ (check_named words)
    (either_named tool (codes "make") _ _ (make_named words) tt))))))
