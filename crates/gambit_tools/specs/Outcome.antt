-- What a run does: what it answers and why, what it reads and writes, and what it tells on standard
-- error.
use Rattle.std.specs.Prelude.{ℕ, zero, suc, ◌+◌, ◌<◌, ◌≤◌, ◌≡◌, ◌⊎◌, true, false, All, List, [], ◌∷◌, length, slice_get, take, Contains, Option, None, Some, Ok, Err, Result}
use Rattle.std.specs.Result.{result_err}
use Rattle.outside.specs.Counts.{Rose, count_of_more}
use Rattle.outside.specs.Inputs.{InputName, InputsSeen}
use Rattle.outside.specs.Sink.{SinkSeen, Takes}
use Rattle.words.specs.Words.{Command, command_from}
use Rattle.words.specs.declared.Usage.{Usage}
use Rattle.gambit_tools.specs.Seen.{Outside, Seen, but_for_err}
use Rattle.gambit_tools.specs.Input.{most_bytes, AreBytesOf, IsOpenFault, IsReadFault, IsReadToEnd, IsReadTooFar, CountsDetermine}
use Rattle.gambit_tools.specs.Commands.{inputs_of, answer_of}
use Rattle.gambit_tools.specs.Origins.{Origin, Words, OutsideFault, Length, Contents, Memory, Fault, Opening, Reading, Writing, origin}
use Rattle.refusals.specs.Refusals.{run_status, refusal_line}
use Rattle.refusals.specs.declared.refusal.Refusal.{Refusal}
use Rattle.refusals.specs.declared.refusal.Refusal.TheVariants as refusal

-- what a run answers: the text, or why it is refused
abbrev pub RunAnswer : Type 0
RunAnswer = Result (List ℕ) Refusal

-- ---- contents
-- the contents are those of the inputs with these names, each by what is known of it
abbrev pub AreContentsBy : (InputName → List ℕ → Type 0) → List InputName → List (List ℕ) → Type 0
AreContentsBy known [] [] = Unit {0}
AreContentsBy known (name ∷ names) (bytes ∷ contents) =
    known name bytes × AreContentsBy known names contents
AreContentsBy known _ _ = ⊥

-- the contents are those of the inputs with these names, where they are told
abbrev pub AreContents : (InputName → Option (List ℕ)) → List InputName → List (List ℕ) → Type 0
AreContents held = AreContentsBy (λ name bytes. AreBytesOf (held name) bytes)

-- the contents are those that the inputs with these names tell
abbrev pub AreToldContents : (InputName → Option (List ℕ)) → List InputName → List (List ℕ) → Type 0
AreToldContents held = AreContentsBy (λ name bytes. held name ≡ Some bytes)

-- the contents of a command's inputs have this answer
pub record HasAnswer (command : Command) (before : InputsSeen) (answer : RunAnswer) : Type 0 where
  pub contents : List (List ℕ)
  pub are_contents : AreContents before.held (inputs_of command) contents
  pub is_answer : answer_of command contents answer

-- ---- what is read
-- the last of these names is that of the selected input, which was read to its end
abbrev pub IsLastRead : List InputName → InputsSeen → Type 0
IsLastRead [] after = Unit {0}
IsLastRead (name ∷ []) after = IsReadToEnd name after
IsLastRead (name ∷ other ∷ names) after = IsLastRead (other ∷ names) after

-- after the inputs with these names were read to their ends, one after another
pub record AreReadToEnd (names : List InputName) (before after : InputsSeen) : Type 0 where
  pub last : IsLastRead names after
  -- as many selections were made as there are names, and the end was met in as many: in each of
  -- them, where nothing was selected before
  pub selections : after.selections ≡ count_of_more before.selections (length names)
  pub ends : after.ends ≡ count_of_more before.ends (length names)
  -- none of these names is known to be that of no input
  pub are_there : All (λ name. before.absent name ≡ false) names

-- what was read of inputs with these names, one after another
abbrev pub AreRead : List InputName → InputsSeen → InputsSeen → Type 0
AreRead [] before after = after ≡ before
AreRead (name ∷ names) before after = AreReadToEnd (name ∷ names) before after

-- the count of met ends after so many more
abbrev pub with_ends : ℕ → ℕ → ℕ
with_ends ends zero = ends
with_ends ends (suc more) = count_of_more ends (suc more)

-- before what was done at a place among these names the end was met in as many selections as there
-- are names before it, and one selection more was made; where bytes are told, the inputs with these
-- names before it have no more of them than an input may have
pub record IsInTurn (names : List InputName) (place : ℕ) (before after : InputsSeen) : Type 0 where
  pub selections : after.selections ≡ count_of_more before.selections (suc place)
  pub ends : after.ends ≡ with_ends before.ends place
  pub within_limit : (k : ℕ) (name : InputName) (bytes : List ℕ) → k < place
      → slice_get names k ≡ Some name → before.held name ≡ Some bytes → length bytes ≤ most_bytes

-- an input with this name, which could not be opened or read, or is too long, came in its turn
-- among these names
abbrev pub ComesInTurn : List InputName → InputName → InputsSeen → InputsSeen → Type 0
ComesInTurn names name before after =
    (place : ℕ) × (slice_get names place ≡ Some name) × IsInTurn names place before after

-- what was read of inputs with these names before a refusal with this origin
abbrev pub HasReadBefore : List InputName → InputsSeen → InputsSeen → Origin → Type 0
HasReadBefore names before after (Words usage) = after ≡ before
HasReadBefore names before after (OutsideFault Writing) = AreRead names before after
HasReadBefore names before after (OutsideFault _) =
    (after.selected ≡ None) × (name : InputName) × (after.failed ≡ Some name)
    × ComesInTurn names name before after
HasReadBefore names before after Length =
    (name : InputName) × ComesInTurn names name before after × IsReadTooFar name before after
HasReadBefore names before after Contents = AreRead names before after
HasReadBefore names before after Memory =
    (after ≡ before) ⊎ ((name : InputName) × Contains names name × (after.selected ≡ Some name))

-- what a run has read: its inputs to their ends, or what it had to before a refusal
abbrev pub HasRead : List InputName → InputsSeen → InputsSeen → RunAnswer → Type 0
HasRead names before after (Ok text) = AreRead names before after
HasRead names before after (Err r) = HasReadBefore names before after (origin r)

-- ---- what is answered
-- a fault of an input with one of these names, which its count tells
abbrev pub IsInputFault : List InputName → InputsSeen → InputsSeen → Fault → Type 0
IsInputFault names before after Opening =
    (name : InputName) × Contains names name × IsOpenFault name before after
IsInputFault names before after Reading =
    (name : InputName) × Contains names name × IsReadFault name before after
IsInputFault names before after Writing = ⊥

-- why a command's text is not computed, by where the refusal comes from
abbrev pub IsRefusedIn : Command → InputsSeen → InputsSeen → Refusal → Origin → Type 0
IsRefusedIn command before after r (Words usage) = ⊥
IsRefusedIn command before after r (OutsideFault fault) =
    IsInputFault (inputs_of command) before after fault
IsRefusedIn command before after r Length = HasAnswer command before (Err r)
IsRefusedIn command before after r Contents = HasAnswer command before (Err r)
IsRefusedIn command before after r Memory = Unit {0}

-- why a command answers so
abbrev pub Answers : Command → InputsSeen → InputsSeen → RunAnswer → Type 0
Answers command before after (Ok text) = HasAnswer command before (Ok text)
Answers command before after (Err r) = IsRefusedIn command before after r (origin r)

-- no more selections were made than there are inputs with these names
abbrev pub SelectsFew : List InputName → InputsSeen → InputsSeen → Type 0
SelectsFew names before after = after.selections ≤ before.selections + length names

-- what reading a command's inputs and computing its text does
pub record IsComputed (command : Command) (before after : InputsSeen)
    (answer : RunAnswer) : Type 0 where
  pub answers : Answers command before after answer
  pub has_read : HasRead (inputs_of command) before after answer
  pub selects_few : SelectsFew (inputs_of command) before after
  -- a count rose only with its own refusal, and no input is changed
  pub counts : CountsDetermine before after (result_err answer)
  pub inputs_stay : (name : InputName) → after.held name ≡ before.held name

-- ---- what is written
-- why a run with this command does not end well: its text is not computed, and nothing is done to
-- the output; or it is not written whole, and a front of it is
abbrev pub IsRunStop : Command → Outside → Outside → Refusal → Origin → Type 0
IsRunStop command before after r (OutsideFault Writing) =
    Rose before.out.faults after.out.faults × (text : List ℕ)
    × HasAnswer command before.inputs (Ok text)
    × (count : ℕ) × Takes before.out.taken after.out.taken (take count text)
IsRunStop command before after r o =
    IsRefusedIn command before.inputs after.inputs r o × (after.out ≡ before.out)

-- what a run with this command writes, and why: the whole text, which is flushed, or what it has
-- written before a refusal
abbrev pub Ends : Command → Outside → Outside → RunAnswer → Type 0
Ends command before after (Ok text) =
    HasAnswer command before.inputs (Ok text) × Takes before.out.taken after.out.taken text
    × (after.out.flushed ≡ true)
Ends command before after (Err r) = IsRunStop command before after r (origin r)

-- a run with this command
pub record IsCommandRun (command : Command) (before after : Outside)
    (answer : RunAnswer) : Type 0 where
  pub ends : Ends command before after answer
  pub has_read : HasRead (inputs_of command) before.inputs after.inputs answer
  pub selects_few : SelectsFew (inputs_of command) before.inputs after.inputs

-- a run whose words are refused: it is refused so, or for want of memory, and nothing is done to
-- the inputs and to the output
pub record IsUsageRun (usage : Usage) (before after : Outside) (answer : RunAnswer) : Type 0 where
  pub is_refused : (answer ≡ Err (refusal.Usage usage)) ⊎ (answer ≡ Err refusal.Memory)
  pub nothing_read : after.inputs ≡ before.inputs
  pub nothing_written : after.out ≡ before.out

-- a run whose words give this
abbrev pub IsRunOf : Result Command Usage → Outside → Outside → RunAnswer → Type 0
IsRunOf (Ok command) before after answer = IsCommandRun command before after answer
IsRunOf (Err usage) before after answer = IsUsageRun usage before after answer

-- ---- what is told
-- a front of a line was taken, and all of it, which is flushed, where the count of faults did not
-- rise
abbrev pub TakesLine : SinkSeen → SinkSeen → List ℕ → Type 0
TakesLine before after line =
    (count : ℕ) × Takes before.taken after.taken (take count line)
    × (((length line ≤ count) × (after.flushed ≡ true)) ⊎ Rose before.faults after.faults)

-- what standard error took: nothing is done to it where nothing is refused, else it took the line
-- of the refusal
abbrev pub IsTold : SinkSeen → SinkSeen → Option Refusal → Type 0
IsTold before after None = after ≡ before
IsTold before after (Some r) = TakesLine before after (refusal_line r)

-- ---- runs
-- no count of faults rose
pub record NoFault (before after : Outside) : Type 0 where
  pub opening : Rose before.inputs.open_faults after.inputs.open_faults → ⊥
  pub reading : Rose before.inputs.read_faults after.inputs.read_faults → ⊥
  pub writing : Rose before.out.faults after.out.faults → ⊥

-- Where the words are a command, the inputs tell their contents and no fault was counted, the
-- contents have this answer and no other, unless memory runs out.
abbrev pub IsExact : List (List ℕ) → Outside → Outside → RunAnswer → Type 0
IsExact words before after answer =
    (command : Command) → command_from words ≡ Ok command
    → (contents : List (List ℕ)) → AreToldContents before.inputs.held (inputs_of command) contents
    → NoFault before after
    → (answer ≡ Err refusal.Memory)
    ⊎ (answer_of command contents answer
    × ((other : RunAnswer) → answer_of command contents other → answer ≡ other))

-- Where then the contents are not refused, the status is 0, and the text that is their answer was
-- written whole and is flushed; or memory ran out, and the status is 5.
abbrev pub IsComplete : List (List ℕ) → Outside → Outside → ℕ → Type 0
IsComplete words before after status =
    (command : Command) → command_from words ≡ Ok command
    → (contents : List (List ℕ)) → AreToldContents before.inputs.held (inputs_of command) contents
    → NoFault before after
    → ((r : Refusal) → ¬ (answer_of command contents (Err r)))
    → (status ≡ 5)
    ⊎ ((status ≡ 0) × (text : List ℕ) × answer_of command contents (Ok text)
    × Takes before.out.taken after.out.taken text × (after.out.flushed ≡ true))

-- a run with this answer, which is told by the status and on standard error
pub record IsToldRun (words : List (List ℕ)) (before after : Seen) (status : ℕ)
    (answer : RunAnswer) : Type 0 where
  pub status_is : status ≡ run_status (result_err answer)
  pub is_run : IsRunOf (command_from words) (but_for_err before) (but_for_err after) answer
  pub is_exact : IsExact words (but_for_err before) (but_for_err after) answer
  pub tells : IsTold before.err after.err (result_err answer)
  -- a fault that was counted is what is told
  pub input_faults : CountsDetermine before.inputs after.inputs (result_err answer)
  pub output_faults :
      before.out.faults < after.out.faults → result_err answer ≡ Some refusal.WriteFault
  -- no input is changed
  pub inputs_stay : (name : InputName) → after.inputs.held name ≡ before.inputs.held name
