-- What a command line asks for.
use Rattle.std.specs.Prelude.{ℕ, Bool, true, false, if◌then◌else◌, ◌&&◌, ◌||◌, ◌≡◌, ◌≤◌, List, [], ◌∷◌, length, Option, None, Some, option_map, option_and_then, string_bytes, Result, Ok, Err, codes, nat_le, nat_lt, slice_index}
use Prim.Native.String.{String}
use Rattle.std.specs.Str.{all_ascii_digits, bytes_eq}
use Rattle.std.specs.Str.Parse.{digits_value}
use Rattle.words.specs.declared.Layout.{Layout}
use Rattle.words.specs.declared.Layout.TheVariants.{Html, Sgame}
use Rattle.words.specs.declared.Settings.{Settings}
use Rattle.words.specs.declared.Settings.TheVariants as settings
use Rattle.words.specs.declared.SettingsStop.{SettingsStop}
use Rattle.words.specs.declared.SettingsStop.TheVariants as stops
use Rattle.words.specs.declared.Usage.{Usage}
use Rattle.words.specs.declared.Usage.TheVariants.{NoTool, UnknownTool, Words}
use Rattle.words.specs.Grammar.{Options, Part, has_flag, has_prices, word_parts, plain_of, values_of}

-- A tool and how it works; a file that is None is standard input. Where `all` is true, `enummixed`
-- looks through all strategies, and else without the strictly dominated ones. Where `agents` or
-- `perfect` is true, `enumpure` lists the choices that are equilibria of the agent form, or in
-- every subgame; where `perfect` is true, `lcp` and `lp` find behaviour that is an equilibrium in
-- every subgame.
pub data Command : Type 0 where
  Enumpure : (strategic agents perfect : Bool) → (file : Option (List ℕ)) → Command
  Enummixed : (all : Bool) → (workers : ℕ) → (file : Option (List ℕ)) → Command
  Lcp : (strategic perfect : Bool) → (file : Option (List ℕ)) → Command
  Lp : (strategic prices perfect : Bool) → (file : Option (List ℕ)) → Command
  Convert : (layout : Layout) → (row column : ℕ) → (file : Option (List ℕ)) → Command
  Check : (strategic : Bool) → (game : List ℕ) → (lines : Option (List ℕ)) → Command
  Make : (number rows columns workers : ℕ) → Command

-- ---- plain words and values

-- the text, or None, where there is at most one
abbrev pub at_most_one : List (List ℕ) → Option (Option (List ℕ))
at_most_one [] = Some None
at_most_one (text ∷ []) = Some (Some text)
at_most_one (text ∷ other ∷ texts) = None

-- a number of one to ten digits, in its range
abbrev pub number_in_range : (least most : ℕ) → List ℕ → Option ℕ
number_in_range least most text =
    if all_ascii_digits text && (nat_lt 0 (length text) && (nat_le (length text) 10
    && (nat_le least (digits_value 10 text) && nat_le (digits_value 10 text) most)))
    then Some (digits_value 10 text) else None

-- the number in its range that a text gives, or a default where there is no text
abbrev pub number_or : ℕ → (least most : ℕ) → Option (List ℕ) → Option ℕ
number_or default least most None = Some default
number_or default least most (Some text) = number_in_range least most text

-- the number that an option gives, or its default
abbrev pub number_from : ℕ → (least most : ℕ) → List (List ℕ) → Option ℕ
number_from default least most texts =
    option_and_then (number_or default least most) (at_most_one texts)

-- `-j`
abbrev pub workers_from : List (List ℕ) → Option ℕ
workers_from = number_from 1 1 64

-- `-r` and `-c`
abbrev pub player_from : ℕ → List (List ℕ) → Option ℕ
player_from default = number_from default 1 4294967295

-- `-e`, which may be left out or be `1`
abbrev pub is_one_or_none : Option (List ℕ) → Bool
is_one_or_none None = true
is_one_or_none (Some text) = bytes_eq text (codes "1")

-- `-O`, which must be there
abbrev pub layout_of : Option (List ℕ) → Option Layout
layout_of None = None
layout_of (Some text) =
    if bytes_eq text (codes "html") then Some Html else if bytes_eq text (codes "sgame")
    then Some Sgame else None

-- ---- the tools, each with its options and what they say

-- the first letter of a text
abbrev pub letter : String → ℕ
letter text = slice_index (codes text) 0

-- the options of `enumpure`
abbrev pub enumpure_options : Options
enumpure_options = record { flags = codes "qSAP"; valued = []; prices = false }

-- strategies are not asked for beside the agent form or subgames
abbrev pub enumpure_settings : (strategic agents perfect : Bool) → (plain : List (List ℕ))
    → Option Command
enumpure_settings strategic agents perfect plain =
    if strategic && (agents || perfect) then None
    else option_map (Enumpure strategic agents perfect) (at_most_one plain)

-- what the parts of the words after `enumpure` ask for
abbrev pub enumpure_of : List Part → Option Command
enumpure_of parts =
    enumpure_settings (has_flag (letter "S") parts) (has_flag (letter "A") parts)
    (has_flag (letter "P") parts) (plain_of parts)

-- the options of `enummixed`
abbrev pub enummixed_options : Options
enummixed_options = record { flags = codes "qD"; valued = codes "j"; prices = false }

-- what `enummixed` is asked for
abbrev pub enummixed_settings : (all : Bool) → (workers plain : List (List ℕ)) → Option Command
enummixed_settings all workers plain =
    option_and_then (λ n. option_map (Enummixed all n) (at_most_one plain)) (workers_from workers)

-- what the parts of the words after `enummixed` ask for
abbrev pub enummixed_of : List Part → Option Command
enummixed_of parts =
    enummixed_settings (has_flag (letter "D") parts) (values_of (letter "j") parts) (plain_of parts)

-- the options of `lcp`
abbrev pub lcp_options : Options
lcp_options = record { flags = codes "qSP"; valued = codes "e"; prices = false }

-- strategies are not asked for beside subgames
abbrev pub lcp_settings : (strategic perfect : Bool) → (equilibria plain : List (List ℕ))
    → Option Command
lcp_settings strategic perfect equilibria plain =
    if strategic && perfect then None
    else option_and_then
    (λ e. if is_one_or_none e then option_map (Lcp strategic perfect) (at_most_one plain) else None)
    (at_most_one equilibria)

-- what the parts of the words after `lcp` ask for
abbrev pub lcp_of : List Part → Option Command
lcp_of parts =
    lcp_settings (has_flag (letter "S") parts) (has_flag (letter "P") parts)
    (values_of (letter "e") parts) (plain_of parts)

-- the options of `lp`
abbrev pub lp_options : Options
lp_options = record { flags = codes "qSP"; valued = []; prices = true }

-- neither strategies nor prices are asked for beside subgames
abbrev pub lp_settings : (strategic prices perfect : Bool) → (plain : List (List ℕ))
    → Option Command
lp_settings strategic prices perfect plain =
    if perfect && (strategic || prices) then None
    else option_map (Lp strategic prices perfect) (at_most_one plain)

-- what the parts of the words after `lp` ask for
abbrev pub lp_of : List Part → Option Command
lp_of parts =
    lp_settings (has_flag (letter "S") parts) (has_prices parts) (has_flag (letter "P") parts)
    (plain_of parts)

-- the options of `convert`
abbrev pub convert_options : Options
convert_options = record { flags = codes "q"; valued = codes "Orc"; prices = false }

-- what `convert` is asked for
abbrev pub convert_settings : (layouts rows columns plain : List (List ℕ)) → Option Command
convert_settings layouts rows columns plain =
    option_and_then (λ layout. option_and_then (λ row. option_and_then (λ column.
    option_map (Convert layout row column) (at_most_one plain))
    (player_from 2 columns)) (player_from 1 rows)) (option_and_then layout_of (at_most_one layouts))

-- what the parts of the words after `convert` ask for
abbrev pub convert_of : List Part → Option Command
convert_of parts =
    convert_settings (values_of (letter "O") parts) (values_of (letter "r") parts)
    (values_of (letter "c") parts) (plain_of parts)

-- the options of `check`
abbrev pub check_options : Options
check_options = record { flags = codes "qS"; valued = []; prices = false }

-- what `check` is asked for: the first plain word names the game
abbrev pub check_settings : (strategic : Bool) → (plain : List (List ℕ)) → Option Command
check_settings strategic [] = None
check_settings strategic (game ∷ plain) = option_map (Check strategic game) (at_most_one plain)

-- what the parts of the words after `check` ask for
abbrev pub check_of : List Part → Option Command
check_of parts = check_settings (has_flag (letter "S") parts) (plain_of parts)

-- the options of `make`
abbrev pub make_options : Options
make_options = record { flags = codes "q"; valued = codes "j"; prices = false }

-- the number, the rows and the columns of `make`
abbrev pub table_settings : (workers : ℕ) → List (List ℕ) → Option Command
table_settings workers (number ∷ rows ∷ columns ∷ []) =
    option_and_then (λ n. option_and_then (λ r. option_map (λ c. Make n r c workers)
    (number_in_range 1 32 columns)) (number_in_range 1 32 rows))
    (number_in_range 0 2147483647 number)
table_settings workers plain = None

-- what `make` is asked for
abbrev pub make_settings : (workers plain : List (List ℕ)) → Option Command
make_settings workers plain = option_and_then (λ n. table_settings n plain) (workers_from workers)

-- what the parts of the words after `make` ask for
abbrev pub make_of : List Part → Option Command
make_of parts = make_settings (values_of (letter "j") parts) (plain_of parts)

-- ---- the whole line

-- the command that the words after the tool's name give, where they are understood
abbrev pub answer : Options → (List Part → Option Command) → List (List ℕ) → Option Command
answer options settings words = option_and_then settings (word_parts options words None)

-- a command, or that the words are not understood
abbrev pub understood : Option Command → Result Command Usage
understood (Some command) = Ok command
understood None = Err Words

-- The command that the words after the program's name give, or how they are refused: the first word
-- names the tool.
abbrev pub command_from : List (List ℕ) → Result Command Usage
command_from [] = Err NoTool
command_from (tool ∷ words) =
    if bytes_eq tool (codes "enumpure") then understood (answer enumpure_options enumpure_of words)
    else if bytes_eq tool (codes "enummixed")
    then understood (answer enummixed_options enummixed_of words)
    else if bytes_eq tool (codes "lcp") then understood (answer lcp_options lcp_of words)
    else if bytes_eq tool (codes "lp") then understood (answer lp_options lp_of words)
    else if bytes_eq tool (codes "convert")
    then understood (answer convert_options convert_of words)
    else if bytes_eq tool (codes "check") then understood (answer check_options check_of words)
    else if bytes_eq tool (codes "make") then understood (answer make_options make_of words)
    else Err UnknownTool

-- a number from the least to the most
abbrev pub IsFrom : (least most n : ℕ) → Type 0
IsFrom least most n = (least ≤ n) × (n ≤ most)

-- the numbers of workers and of strategies that a command names are within their ranges
abbrev pub IsWithinRanges : Command → Type 0
IsWithinRanges (Enummixed all workers file) = IsFrom 1 64 workers
IsWithinRanges (Make number rows columns workers) =
    IsFrom 1 32 rows × IsFrom 1 32 columns × IsFrom 1 64 workers
IsWithinRanges _ = Unit {0}

-- ---- the code's answers

-- the command that settings stand for
abbrev pub command_of : Settings → Command
command_of (settings.Enumpure strategic agents perfect file) =
    Enumpure strategic agents perfect (option_map string_bytes file)
command_of (settings.Enummixed all workers file) =
    Enummixed all workers (option_map string_bytes file)
command_of (settings.Lcp strategic perfect file) =
    Lcp strategic perfect (option_map string_bytes file)
command_of (settings.Lp strategic prices perfect file) =
    Lp strategic prices perfect (option_map string_bytes file)
command_of (settings.Convert layout row column file) =
    Convert layout row column (option_map string_bytes file)
command_of (settings.Check strategic game lines) =
    Check strategic (string_bytes game) (option_map string_bytes lines)
command_of (settings.Make number rows columns workers) = Make number rows columns workers

-- there is no answer: the words are not understood
abbrev pub IsNotUnderstood : {X : Type 0} → Option X → Usage → Type 0
IsNotUnderstood answer usage = (answer ≡ None) × (usage ≡ Words)

-- why there is no answer: the words are not understood, or memory ran out
abbrev pub IsRefused : {X : Type 0} → Option X → SettingsStop → Type 0
IsRefused answer (stops.Usage usage) = IsNotUnderstood answer usage
IsRefused answer stops.Memory = Unit {0}

-- the settings are those of the answer, or there is none, or memory ran out
abbrev pub IsAnswer : Option Command → Result Settings SettingsStop → Type 0
IsAnswer answer (Ok s) = answer ≡ Some (command_of s)
IsAnswer answer (Err stop) = IsRefused answer stop

-- why reading gives no settings: the words are refused so, or memory ran out
abbrev pub IsSettingsStop : Result Command Usage → SettingsStop → Type 0
IsSettingsStop line (stops.Usage usage) = line ≡ Err usage
IsSettingsStop line stops.Memory = Unit {0}
