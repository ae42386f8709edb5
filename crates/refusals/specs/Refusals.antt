-- The status and the line of each refusal.
use Rattle.std.specs.Prelude.{ℕ, ◌+◌, ◌≡◌, ◌⊎◌, List, [], ◌∷◌, ◌++◌, Option, None, Some, codes}
use Rattle.std.specs.Fmt.{decimal}
use Rattle.rational.specs.Text.{number_text}
use Rattle.frac128.specs.Texts.{step_text}
use Rattle.basis_enum.specs.Texts.{spaced}
use Rattle.game_core.specs.Texts.{what_text}
use Rattle.game_text.specs.Texts.{text_kind_text}
use Rattle.nfg_reader.specs.Texts.{nfg_kind_text}
use Rattle.tree_grammar.specs.Texts.{efg_kind_text}
use Rattle.words.specs.declared.Usage.{Usage}
use Rattle.words.specs.declared.Usage.TheVariants as usage
use Rattle.refusals.specs.declared.site.Site.{Site}
use Rattle.refusals.specs.declared.site.Site.TheVariants as site
use Rattle.refusals.specs.declared.refusal.Refusal.{Refusal}
use Rattle.refusals.specs.declared.refusal.Refusal.TheVariants as refusal

-- the status of a refusal: 1 for the game, 2 for the words, 3 for an input, 4 for the output, 5 for
-- want of memory
abbrev pub status_of : Refusal → ℕ
status_of (refusal.Usage u) = 2
status_of refusal.OpenFault = 3
status_of refusal.ReadFault = 3
status_of refusal.WriteFault = 4
status_of refusal.TooLong = 1
status_of (refusal.Text fault) = 1
status_of (refusal.Nfg fault) = 1
status_of (refusal.Efg fault) = 1
status_of (refusal.NotTwoPlayers count) = 1
status_of (refusal.Forgets f) = 1
status_of (refusal.NotConstant sums) = 1
status_of (refusal.TooLarge passed) = 1
status_of (refusal.Range place step) = 1
status_of (refusal.SubgameRange node place step) = 1
status_of (refusal.BadLine line) = 1
status_of (refusal.NoSuchPlayer number) = 1
status_of (refusal.SamePlayer number) = 1
status_of refusal.Memory = 5

-- the status of a run, which is 0 where nothing is refused
abbrev pub run_status : Option Refusal → ℕ
run_status None = 0
run_status (Some r) = status_of r

-- what is wrong with the words
abbrev pub usage_text : Usage → List ℕ
usage_text usage.NoTool = codes "no tool"
usage_text usage.UnknownTool = codes "unknown tool"
usage_text usage.Words = codes "words not understood"

-- where a step stands; profiles, choices, nodes, players, rows of a start and polytopes are counted
-- from 1, as lines are everywhere, levels and sequences from 0: sequence 0 is the empty one
abbrev pub site_text : Site → List ℕ
site_text (site.Cell profile player) =
    codes "profile " ++ decimal (profile + 1) ++ codes " player " ++ decimal (player + 1)
site_text (site.Choice choice node player) =
    codes "choice " ++ decimal (choice + 1) ++ codes " node " ++ decimal (node + 1)
    ++ codes " player " ++ decimal (player + 1)
site_text (site.Place place) = codes "place " ++ decimal (place + 1)
site_text (site.Sum place) = codes "sum " ++ decimal (place + 1)
site_text (site.Gain row column) =
    codes "gain row " ++ decimal row ++ codes " column " ++ decimal column
site_text (site.Cost player row column) =
    codes "cost player " ++ decimal (player + 1) ++ codes " row " ++ decimal row
    ++ codes " column " ++ decimal column
site_text (site.Start row) = codes "path start row " ++ decimal (row + 1)
site_text (site.Step step entering) =
    codes "path step " ++ decimal step ++ codes " entering " ++ decimal entering
site_text (site.Plan player) = codes "plan player " ++ decimal (player + 1)
site_text (site.Behaviour player set) =
    codes "behaviour player " ++ decimal (player + 1) ++ codes " set " ++ decimal set
site_text site.Value = codes "value"
site_text (site.PlayerValue player) = codes "value of player " ++ decimal (player + 1)
site_text (site.Shift player profile) =
    codes "shift player " ++ decimal (player + 1) ++ codes " profile " ++ decimal (profile + 1)
site_text (site.PolytopeStart polytope row) =
    codes "polytope " ++ decimal (polytope + 1) ++ codes " start row " ++ decimal (row + 1)
site_text (site.Level polytope level basis entering) =
    codes "polytope " ++ decimal (polytope + 1) ++ codes " level " ++ decimal level
    ++ codes " basis" ++ spaced basis ++ codes " entering " ++ decimal entering
site_text (site.Scaling polytope) = codes "scale polytope " ++ decimal (polytope + 1)
site_text (site.Line line) = codes "line " ++ decimal line

-- the text of a refusal; players, nodes and profiles are counted from 1
abbrev pub refusal_text : Refusal → List ℕ
refusal_text (refusal.Usage u) = usage_text u
refusal_text refusal.OpenFault = codes "cannot open"
refusal_text refusal.ReadFault = codes "read failed"
refusal_text refusal.WriteFault = codes "write failed"
refusal_text refusal.TooLong = codes "file longer than 16777216 bytes"
refusal_text (refusal.Text fault) =
    codes "text fault at " ++ decimal fault.at ++ codes ": " ++ text_kind_text fault.kind
refusal_text (refusal.Nfg fault) =
    codes "nfg fault at " ++ decimal fault.at ++ codes ": " ++ nfg_kind_text fault.kind
refusal_text (refusal.Efg fault) =
    codes "efg fault at " ++ decimal fault.at ++ codes ": " ++ efg_kind_text fault.kind
refusal_text (refusal.NotTwoPlayers count) = decimal count ++ codes " players, not two"
refusal_text (refusal.Forgets f) =
    codes "player " ++ decimal (f.player + 1) ++ codes " forgets at set " ++ decimal f.set
    ++ codes ", nodes " ++ decimal (f.first_node + 1) ++ codes " and "
    ++ decimal (f.second_node + 1)
refusal_text (refusal.NotConstant sums) =
    codes "not constant sum: " ++ decimal (sums.first + 1) ++ codes " has "
    ++ number_text sums.first_sum
    ++ codes ", " ++ decimal (sums.second + 1) ++ codes " has " ++ number_text sums.second_sum
refusal_text (refusal.TooLarge passed) =
    codes "too large: " ++ decimal passed.count ++ codes " " ++ what_text passed.what
    ++ codes ", limit " ++ decimal passed.limit
refusal_text (refusal.Range place step) =
    codes "range in " ++ site_text place ++ codes ": " ++ step_text step
refusal_text (refusal.SubgameRange node place step) =
    codes "range in subgame " ++ decimal (node + 1) ++ codes " " ++ site_text place ++ codes ": "
    ++ step_text step
refusal_text (refusal.BadLine line) = codes "line " ++ decimal line ++ codes " is not a profile"
refusal_text (refusal.NoSuchPlayer number) = codes "no player " ++ decimal number
refusal_text (refusal.SamePlayer number) =
    codes "player " ++ decimal number ++ codes " is both row and column"
refusal_text refusal.Memory = codes "out of memory"

-- the line of a refusal on standard error
abbrev pub refusal_line : Refusal → List ℕ
refusal_line r = codes "gambit: " ++ refusal_text r ++ 10 ∷ []

-- a refusal whose line is formed from what it tells, which takes memory
abbrev pub HasFormedLine : Refusal → Type 0
HasFormedLine (refusal.Usage u) = ⊥
HasFormedLine refusal.OpenFault = ⊥
HasFormedLine refusal.ReadFault = ⊥
HasFormedLine refusal.WriteFault = ⊥
HasFormedLine refusal.TooLong = ⊥
HasFormedLine refusal.Memory = ⊥
HasFormedLine _ = Unit {0}

-- the refusal that is told: itself, or want of memory where its line takes memory to form
abbrev pub IsToldAs : Refusal → Refusal → Type 0
IsToldAs r told = (told ≡ r) ⊎ (HasFormedLine r × (told ≡ refusal.Memory))
