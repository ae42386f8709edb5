-- Commands with one input: what reading it and computing the text does.
use Rattle.std.proofs.Common.{ℕ, ◌≡◌, ◌+◌, ◌≤◌, ◌<◌, ◌∙◌, inl, inr, sym, ap, subst, refl, arith, length-append, List, [], ◌∷◌, length, false, Contains, Option, None, Some, Result, Ok, Err}
use Rattle.std.proofs.lemmas.List.Elements.{All-cons, All-nil}
use Rattle.std.specs.Io.KnownBytes.{Consumes}
use Rattle.answers.specs.Answers.{Gives}
use Rattle.outside.specs.Counts.{next_count}
use Rattle.outside.specs.Inputs.{InputName, InputsSeen}
use Rattle.words.specs.Words.{Command, Check, Make}
use Rattle.game_core.specs.declared.game.Game.{Game}
use Rattle.gambit_tools.specs.Input.{most_bytes, AreBytesOf, IsInputRefusal, IsReadToEnd, CountsDetermine}
use Rattle.gambit_tools.specs.Games.{game_in}
use Rattle.gambit_tools.specs.Commands.{inputs_of, tool_of, game_answer, answer_of}
use Rattle.gambit_tools.specs.Outcome.{AreContents, AreRead, RunAnswer, HasAnswer, HasReadBefore, ComesInTurn, IsComputed, IsRefusedIn, SelectsFew}
use Rattle.refusals.specs.declared.refusal.Refusal.{Refusal}
use Rattle.refusals.specs.declared.refusal.Refusal.TheVariants as refusal
use Rattle.gambit_tools.proofs.ContentLaws.{game_in-contents, game_in-too_long, tool_of-contents}
use Rattle.gambit_tools.proofs.FormContentLemmas.{IsOfContents, contents-origin}

-- the one input that a command names
the_input : (command : Command) (name : InputName) → inputs_of command ≡ name ∷ [] → Contains (inputs_of command) name
the_input command name one = subst (λ names. Contains names name) (sym one) (0, omega arith, refl)

-- the bytes of the one input are the contents
one_content : (command : Command) (name : InputName) (before : InputsSeen) (bytes : List ℕ) → inputs_of command ≡ name ∷ [] → AreBytesOf (before.held name) bytes → AreContents before.held (inputs_of command) (bytes ∷ [])
one_content command name before bytes one are = subst (λ names. AreContents before.held names (bytes ∷ [])) (sym one) (are, tt)

-- what the tool answers for the game in the one input
one_answer : (command : Command) (name : InputName) (bytes : List ℕ) (answer : Result (List ℕ) Refusal) → inputs_of command ≡ name ∷ [] → game_answer command bytes answer → answer_of command (bytes ∷ []) answer
one_answer (Check strategic game lines) name bytes answer one g = absurd (let two : 2 ≡ 1 = ap length one in omega (arith, two))
one_answer (Make number rows columns workers) name bytes answer one g = absurd (let none : 0 ≡ 1 = ap length one in omega (arith, none))
one_answer command name bytes answer one g = g

-- one selection is made for the one input
one_selection : (command : Command) (name : InputName) (before after : InputsSeen) → inputs_of command ≡ name ∷ [] → after.selections ≡ next_count before.selections → SelectsFew (inputs_of command) before after
one_selection command name before after one once =
    let few : SelectsFew (name ∷ []) before after = omega (arith, once) in
    subst (λ names. SelectsFew names before after) (sym one) few

-- the one input comes in its turn
one_in_turn : (command : Command) (name : InputName) (before after : InputsSeen) → inputs_of command ≡ name ∷ [] → after.selections ≡ next_count before.selections → after.ends ≡ before.ends → ComesInTurn (inputs_of command) name before after
one_in_turn command name before after one once ends =
    let turn : ComesInTurn (name ∷ []) name before after = (0, refl, record { selections = once; ends = ends; within_limit = λ k other bytes none. absurd (omega (arith, none)) }) in
    subst (λ names. ComesInTurn names name before after) (sym one) turn

-- an input of which too many bytes were read is too long
pub too_long : (held left : Option (List ℕ)) (taken : List ℕ) → length taken ≡ most_bytes + 1 → Consumes held left taken → (bytes : List ℕ) × AreBytesOf held bytes × (most_bytes < length bytes)
too_long None left taken e c = (taken, tt, omega (arith, e))
too_long (Some known) None taken e c = absurd c
too_long (Some known) (Some rest) taken e c = (known, refl, (let n = ap length c ∙ length-append taken rest in omega (arith, e, n)))

-- where no count rose, each tells any refusal
pub counts_none : (before after : InputsSeen) (r : Refusal) → CountsDetermine before after None → CountsDetermine before after (Some r)
counts_none before after r h = record { opening = λ l. (let e = h.opening l in absurd cc); reading = λ l. (let e = h.reading l in absurd cc) }

-- an input that is not read
pub refused-computed : (command : Command) (name : InputName) (before after : InputsSeen) (r : Refusal) → inputs_of command ≡ name ∷ [] → IsInputRefusal name before after r → CountsDetermine before after (Some r)
    → after.selections ≡ next_count before.selections → after.ends ≡ before.ends → ((n : InputName) → after.held n ≡ before.held n) → IsComputed command before after (Err r)
refused-computed command name before after refusal.OpenFault one h counts few ends stay = record { answers = (name, the_input command name one, h); has_read = (h.none_selected, name, h.failed, one_in_turn command name before after one few ends); selects_few = one_selection command name before after one few; counts = counts; inputs_stay = stay }
refused-computed command name before after refusal.ReadFault one h counts few ends stay = record { answers = (name, the_input command name one, h); has_read = (h.none_selected, name, h.failed, one_in_turn command name before after one few ends); selects_few = one_selection command name before after one few; counts = counts; inputs_stay = stay }
refused-computed command name before after refusal.TooLong one h counts few ends stay =
    (let long = too_long (before.held name) after.left h.taken h.count h.are_first in
    record {
      answers = record { contents = long.0 ∷ []; are_contents = one_content command name before long.0 one long.1; is_answer = one_answer command name long.0 (Err refusal.TooLong) one (inl (game_in-too_long long.0 long.2)) };
      has_read = (name, one_in_turn command name before after one few ends, h);
      selects_few = one_selection command name before after one few;
      counts = counts;
      inputs_stay = stay;
    })
refused-computed command name before after refusal.Memory one h counts few ends stay = record { answers = tt; has_read = inr (name, the_input command name one, h); selects_few = one_selection command name before after one few; counts = counts; inputs_stay = stay }
refused-computed command name before after _ one h counts few ends stay = elim h [ ]

-- ---- inputs that are read
-- an input that is read to its end, and no count rose
pub record IsRead (command : Command) (name : InputName) (before after : InputsSeen) (bytes : List ℕ) : Type 0 where
  pub one : inputs_of command ≡ name ∷ []
  pub are : AreBytesOf (before.held name) bytes
  pub there : before.absent name ≡ false
  pub few : length bytes ≤ most_bytes
  pub read : IsReadToEnd name after
  pub ends : after.ends ≡ next_count before.ends
  pub counts : CountsDetermine before after None
  pub once : after.selections ≡ next_count before.selections
  pub stay : (n : InputName) → after.held n ≡ before.held n

-- that is what is read of the one input
one_read : (command : Command) (name : InputName) (before after : InputsSeen) (bytes : List ℕ) → IsRead command name before after bytes → AreRead (inputs_of command) before after
one_read command name before after bytes h =
    let read : AreRead (name ∷ []) before after = record { last = h.read; selections = h.once; ends = h.ends; are_there = All-cons (λ n. before.absent n ≡ false) name [] h.there (All-nil (λ n. before.absent n ≡ false)) } in
    subst (λ names. AreRead names before after) (sym h.one) read

-- want of memory
memory-computed : (command : Command) (name : InputName) (before after : InputsSeen) (bytes : List ℕ) → IsRead command name before after bytes → IsComputed command before after (Err refusal.Memory)
memory-computed command name before after bytes h =
    record { answers = tt; has_read = inr (name, the_input command name h.one, h.read.selected); selects_few = one_selection command name before after h.one h.once; counts = counts_none before after refusal.Memory h.counts; inputs_stay = h.stay }

-- a refusal by the contents
contents-computed : (command : Command) (name : InputName) (before after : InputsSeen) (bytes : List ℕ) (r : Refusal) → IsRead command name before after bytes → IsOfContents r → answer_of command (bytes ∷ []) (Err r) → IsComputed command before after (Err r)
contents-computed command name before after bytes r h c g =
    let o = contents-origin r c in
    let answer : HasAnswer command before (Err r) = record { contents = bytes ∷ []; are_contents = one_content command name before bytes h.one h.are; is_answer = g } in
    record {
      answers = subst (λ o. IsRefusedIn command before after r o) (sym o) answer;
      has_read = subst (λ o. HasReadBefore (inputs_of command) before after o) (sym o) (one_read command name before after bytes h);
      selects_few = one_selection command name before after h.one h.once;
      counts = counts_none before after r h.counts;
      inputs_stay = h.stay;
    }

-- a game that is refused
pub game-computed : (command : Command) (name : InputName) (before after : InputsSeen) (bytes : List ℕ) (r : Refusal) → IsRead command name before after bytes → Gives refusal.Memory (game_in bytes) (Err r) → IsComputed command before after (Err r)
game-computed command name before after bytes r h (inl e) = subst (λ r. IsComputed command before after (Err r)) (sym e) (memory-computed command name before after bytes h)
game-computed command name before after bytes r h (inr g) = contents-computed command name before after bytes r h (game_in-contents bytes r h.few g) (one_answer command name bytes (Err r) h.one (inl g))

-- what a tool answers for the game
pub text-computed : (command : Command) (name : InputName) (before after : InputsSeen) (bytes : List ℕ) (game : Game) (answer : RunAnswer) → IsRead command name before after bytes → game_in bytes (Ok game)
    → Gives refusal.Memory (tool_of command game) answer → IsComputed command before after answer
text-computed command name before after bytes game (Ok text) h k g = record {
  answers = record { contents = bytes ∷ []; are_contents = one_content command name before bytes h.one h.are; is_answer = one_answer command name bytes (Ok text) h.one (game, k, g) };
  has_read = one_read command name before after bytes h;
  selects_few = one_selection command name before after h.one h.once;
  counts = h.counts;
  inputs_stay = h.stay;
}
text-computed command name before after bytes game (Err r) h k (inl e) = subst (λ r. IsComputed command before after (Err r)) (sym e) (memory-computed command name before after bytes h)
text-computed command name before after bytes game (Err r) h k (inr g) = contents-computed command name before after bytes r h (tool_of-contents command game r g) (one_answer command name bytes (Err r) h.one (inr (game, k, g)))
