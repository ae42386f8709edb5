-- Commands with two inputs: what reading them and judging the lines of the second does.
use Rattle.std.proofs.Common.{ℕ, zero, suc, slice_get, ap, ◌≡◌, ◌≤◌, ◌<◌, ◌∙◌, inl, inr, sym, subst, refl, arith, Bool, false, List, [], ◌∷◌, length, Option, None, Some, Ok, Err}
use Rattle.std.proofs.lemmas.Option.{same_Some}
use Rattle.std.proofs.lemmas.List.Elements.{All-cons, All-nil}
use Rattle.std.specs.Io.KnownBytes.{Consumes}
use Rattle.answers.specs.Answers.{Gives}
use Rattle.outside.specs.Counts.{Rose, count_of_more, next_count}
use Rattle.outside.specs.Inputs.{InputName, InputsSeen}
use Rattle.words.specs.Words.{Command, Check}
use Rattle.game_core.specs.declared.game.Game.{Game}
use Rattle.gambit_tools.specs.Check.{check, verdicts}
use Rattle.gambit_tools.specs.Input.{most_bytes, AreBytesOf, IsInputRefusal, IsReadToEnd, CountsDetermine}
use Rattle.gambit_tools.specs.Games.{game_in}
use Rattle.gambit_tools.specs.Outcome.{AreRead, HasAnswer, HasReadBefore, ComesInTurn, IsComputed, IsRefusedIn, RunAnswer, SelectsFew}
use Rattle.refusals.specs.declared.refusal.Refusal.{Refusal}
use Rattle.refusals.specs.declared.refusal.Refusal.TheVariants as refusal
use Rattle.gambit_tools.proofs.CheckContentLemmas.{verdicts-contents}
use Rattle.gambit_tools.proofs.OneInputLemmas.{counts_none, too_long}
use Rattle.gambit_tools.proofs.ContentLaws.{game_in-contents}
use Rattle.gambit_tools.proofs.FormContentLemmas.{IsOfContents, contents-origin}

-- bytes that an input may hold
some_bytes : (held : Option (List ℕ)) → (bytes : List ℕ) × AreBytesOf held bytes
some_bytes None = ([], tt)
some_bytes (Some known) = (known, refl)

-- after an input was read to its end the others are as they were, and one more end was met
pub record IsAfterOne (before between : InputsSeen) : Type 0 where
  pub opening : between.open_faults ≡ before.open_faults
  pub reading : between.read_faults ≡ before.read_faults
  pub once : between.selections ≡ next_count before.selections
  pub ends : between.ends ≡ next_count before.ends
  pub stay : (n : InputName) → between.held n ≡ before.held n
  pub absent : (n : InputName) → between.absent n ≡ before.absent n

counts_after : (before between after : InputsSeen) (r : Option Refusal) → IsAfterOne before between → CountsDetermine between after r → CountsDetermine before after r
counts_after before between after r s h = record {
  opening = λ less. h.opening (subst (λ n. n < after.open_faults) (sym s.opening) less);
  reading = λ less. h.reading (subst (λ n. n < after.read_faults) (sym s.reading) less);
}

-- two ends were met, one after the other
ends_after_both : (before between after : InputsSeen) → IsAfterOne before between → after.ends ≡ next_count between.ends → after.ends ≡ count_of_more before.ends 2
ends_after_both before between after s more = let one = s.ends in omega (arith, one, more)

held_after : (before between after : InputsSeen) → IsAfterOne before between → ((n : InputName) → after.held n ≡ between.held n) → (n : InputName) → after.held n ≡ before.held n
held_after before between after s stay n = stay n ∙ s.stay n

module _ (strategic : Bool) (bytes_name : List ℕ) (lines_name : InputName) where
  abbrev command : Command
  command = Check strategic bytes_name lines_name

  abbrev game_name : InputName
  game_name = Some bytes_name

  -- ---- the first input is not read
  -- it comes in its turn
  first_turn : (before after : InputsSeen) → after.selections ≡ next_count before.selections → after.ends ≡ before.ends → ComesInTurn (game_name ∷ lines_name ∷ []) game_name before after
  first_turn before after once ends = (0, refl, record { selections = once; ends = ends; within_limit = λ k other bytes none. absurd (omega (arith, none)) })

  pub first-refused : (before after : InputsSeen) (r : Refusal) → IsInputRefusal game_name before after r → CountsDetermine before after (Some r) → after.selections ≡ next_count before.selections
      → after.ends ≡ before.ends → ((n : InputName) → after.held n ≡ before.held n) → IsComputed command before after (Err r)
  first-refused before after refusal.OpenFault h counts few ends stay = record { answers = (game_name, (0, omega arith, refl), h); has_read = (h.none_selected, game_name, h.failed, first_turn before after few ends); selects_few = omega (arith, few); counts = counts; inputs_stay = stay }
  first-refused before after refusal.ReadFault h counts few ends stay = record { answers = (game_name, (0, omega arith, refl), h); has_read = (h.none_selected, game_name, h.failed, first_turn before after few ends); selects_few = omega (arith, few); counts = counts; inputs_stay = stay }
  first-refused before after refusal.TooLong h counts few ends stay =
      (let long = too_long (before.held game_name) after.left h.taken h.count h.are_first in
      let other = some_bytes (before.held lines_name) in
      record {
        answers = record { contents = long.0 ∷ other.0 ∷ []; are_contents = (long.1, (other.1, tt)); is_answer = inl (long.2, refl) };
        has_read = (game_name, first_turn before after few ends, h);
        selects_few = omega (arith, few);
        counts = counts;
        inputs_stay = stay;
      })
  first-refused before after refusal.Memory h counts few ends stay = record { answers = tt; has_read = inr (game_name, (0, omega arith, refl), h); selects_few = omega (arith, few); counts = counts; inputs_stay = stay }
  first-refused before after _ h counts few ends stay = elim h [ ]

  -- ---- the second input is not read
  -- it comes in its turn, after the first
  second_turn : (before between after : InputsSeen) (bytes : List ℕ) → IsAfterOne before between → AreBytesOf (before.held game_name) bytes → length bytes ≤ most_bytes → after.selections ≡ next_count between.selections → after.ends ≡ between.ends
      → ComesInTurn (game_name ∷ lines_name ∷ []) lines_name before after
  second_turn before between after bytes s are short once ends =
      (1, refl, record { selections = (let first = s.once in omega (arith, first, once)); ends = ends ∙ s.ends; within_limit = within })
    where
      within : (k : ℕ) (other : InputName) (known : List ℕ) → k < 1 → slice_get (game_name ∷ lines_name ∷ []) k ≡ Some other → before.held other ≡ Some known → length known ≤ most_bytes
      within zero other known l is told =
          let same : known ≡ bytes = subst (λ held. AreBytesOf held bytes) (ap before.held (same_Some _ _ is) ∙ told) are in
          subst (λ b. length b ≤ most_bytes) (sym same) short
      within (suc k) other known l is told = absurd (omega (arith, l))

  pub second-refused : (before between after : InputsSeen) (bytes : List ℕ) (r : Refusal) → IsAfterOne before between → AreBytesOf (before.held game_name) bytes → length bytes ≤ most_bytes
      → IsInputRefusal lines_name between after r → CountsDetermine between after (Some r) → after.selections ≡ next_count between.selections → after.ends ≡ between.ends
      → ((n : InputName) → after.held n ≡ between.held n) → IsComputed command before after (Err r)
  second-refused before between after bytes refusal.OpenFault s are short h counts few ends stay = record {
    answers = (lines_name, (1, omega arith, refl), record { rose = subst (λ n. Rose n after.open_faults) s.opening h.rose; failed = h.failed; none_selected = h.none_selected });
    has_read = (h.none_selected, lines_name, h.failed, second_turn before between after bytes s are short few ends);
    selects_few = (let once = s.once in omega (arith, few, once));
    counts = counts_after before between after (Some refusal.OpenFault) s counts;
    inputs_stay = held_after before between after s stay;
  }
  second-refused before between after bytes refusal.ReadFault s are short h counts few ends stay = record {
    answers = (lines_name, (1, omega arith, refl), record { rose = subst (λ n. Rose n after.read_faults) s.reading h.rose; failed = h.failed; none_selected = h.none_selected });
    has_read = (h.none_selected, lines_name, h.failed, second_turn before between after bytes s are short few ends);
    selects_few = (let once = s.once in omega (arith, few, once));
    counts = counts_after before between after (Some refusal.ReadFault) s counts;
    inputs_stay = held_after before between after s stay;
  }
  second-refused before between after bytes refusal.TooLong s are short h counts few ends stay =
      (let first = subst (λ held. Consumes held after.left h.taken) (s.stay lines_name) h.are_first in
      let long = too_long (before.held lines_name) after.left h.taken h.count first in
      record {
        answers = record { contents = bytes ∷ long.0 ∷ []; are_contents = (are, (long.1, tt)); is_answer = inr (tt, (λ more. omega (arith, short, more)), inl (long.2, refl)) };
        has_read = (lines_name, second_turn before between after bytes s are short few ends, record { selected = h.selected; taken = h.taken; count = h.count; are_first = first });
        selects_few = (let once = s.once in omega (arith, few, once));
        counts = counts_after before between after (Some refusal.TooLong) s counts;
        inputs_stay = held_after before between after s stay;
      })
  second-refused before between after bytes refusal.Memory s are short h counts few ends stay = record {
    answers = tt;
    has_read = inr (lines_name, (1, omega arith, refl), h);
    selects_few = (let once = s.once in omega (arith, few, once));
    counts = counts_after before between after (Some refusal.Memory) s counts;
    inputs_stay = held_after before between after s stay;
  }
  second-refused before between after bytes _ s are short h counts few ends stay = elim h [ ]

  -- ---- both are read
  pub record AreBothRead (before after : InputsSeen) (bytes lines : List ℕ) : Type 0 where
    pub are_bytes : AreBytesOf (before.held game_name) bytes
    pub are_lines : AreBytesOf (before.held lines_name) lines
    pub game_there : before.absent game_name ≡ false
    pub lines_there : before.absent lines_name ≡ false
    pub few_bytes : length bytes ≤ most_bytes
    pub few_lines : length lines ≤ most_bytes
    pub read : IsReadToEnd lines_name after
    pub counts : CountsDetermine before after None
    pub twice : after.selections ≡ count_of_more before.selections 2
    pub ends : after.ends ≡ count_of_more before.ends 2
    pub stay : (n : InputName) → after.held n ≡ before.held n

  -- one input after the other
  pub both-read : (before between after : InputsSeen) (bytes lines : List ℕ) → IsAfterOne before between → AreBytesOf (before.held game_name) bytes → AreBytesOf (between.held lines_name) lines → before.absent game_name ≡ false → between.absent lines_name ≡ false
      → length bytes ≤ most_bytes → length lines ≤ most_bytes → IsReadToEnd lines_name after → CountsDetermine between after None → after.selections ≡ next_count between.selections → after.ends ≡ next_count between.ends
      → ((n : InputName) → after.held n ≡ between.held n) → AreBothRead before after bytes lines
  both-read before between after bytes lines s are_bytes are_lines game_there lines_there few_bytes few_lines read counts few ends stay = record {
    are_bytes = are_bytes;
    are_lines = subst (λ held. AreBytesOf held lines) (s.stay lines_name) are_lines;
    game_there = game_there;
    lines_there = sym (s.absent lines_name) ∙ lines_there;
    few_bytes = few_bytes;
    few_lines = few_lines;
    read = read;
    counts = counts_after before between after None s counts;
    twice = (let once = s.once in omega (arith, few, once));
    ends = ends_after_both before between after s ends;
    stay = held_after before between after s stay;
  }

  -- that is what is read of both
  both : (before after : InputsSeen) (bytes lines : List ℕ) → AreBothRead before after bytes lines → AreRead (game_name ∷ lines_name ∷ []) before after
  both before after bytes lines h = record {
    last = h.read;
    selections = h.twice;
    ends = h.ends;
    are_there = All-cons (λ n. before.absent n ≡ false) game_name (lines_name ∷ []) h.game_there (All-cons (λ n. before.absent n ≡ false) lines_name [] h.lines_there (All-nil (λ n. before.absent n ≡ false)));
  }

  -- no more selections are made than there are names
  few_selections : (before after : InputsSeen) (bytes lines : List ℕ) → AreBothRead before after bytes lines → SelectsFew (game_name ∷ lines_name ∷ []) before after
  few_selections before after bytes lines h = let twice = h.twice in omega (arith, twice)

  memory-computed : (before after : InputsSeen) (bytes lines : List ℕ) → AreBothRead before after bytes lines → IsComputed command before after (Err refusal.Memory)
  memory-computed before after bytes lines h =
      record { answers = tt; has_read = inr (lines_name, (1, omega arith, refl), h.read.selected); selects_few = few_selections before after bytes lines h; counts = counts_none before after refusal.Memory h.counts; inputs_stay = h.stay }

  -- what the contents answer
  whole : (before after : InputsSeen) (bytes lines : List ℕ) (answer : RunAnswer) → AreBothRead before after bytes lines → check strategic bytes lines answer → HasAnswer command before answer
  whole before after bytes lines answer h g = record { contents = bytes ∷ lines ∷ []; are_contents = (h.are_bytes, (h.are_lines, tt)); is_answer = g }

  contents-computed : (before after : InputsSeen) (bytes lines : List ℕ) (r : Refusal) → AreBothRead before after bytes lines → IsOfContents r → check strategic bytes lines (Err r) → IsComputed command before after (Err r)
  contents-computed before after bytes lines r h c g =
      let o = contents-origin r c in
      let answer : HasAnswer command before (Err r) = whole before after bytes lines (Err r) h g in
      record {
        answers = subst (λ o. IsRefusedIn command before after r o) (sym o) answer;
        has_read = subst (λ o. HasReadBefore (game_name ∷ lines_name ∷ []) before after o) (sym o) (both before after bytes lines h);
        selects_few = few_selections before after bytes lines h;
        counts = counts_none before after r h.counts;
        inputs_stay = h.stay;
      }

  -- the contents are within the limit
  later : (before after : InputsSeen) (bytes lines : List ℕ) (r : Refusal) → AreBothRead before after bytes lines → ((game : Game) × game_in bytes (Ok game) × verdicts strategic game lines (Err r)) → check strategic bytes lines (Err r)
  later before after bytes lines r h k = inr (tt, (λ more. (let few = h.few_bytes in omega (arith, few, more))), inr (tt, (λ more. (let few = h.few_lines in omega (arith, few, more))), inr k))

  -- a game that is refused
  pub game-computed : (before after : InputsSeen) (bytes lines : List ℕ) (r : Refusal) → AreBothRead before after bytes lines → Gives refusal.Memory (game_in bytes) (Err r) → IsComputed command before after (Err r)
  game-computed before after bytes lines r h (inl e) = subst (λ r. IsComputed command before after (Err r)) (sym e) (memory-computed before after bytes lines h)
  game-computed before after bytes lines r h (inr g) =
      contents-computed before after bytes lines r h (game_in-contents bytes r h.few_bytes g)
      (inr (tt, (λ more. (let few = h.few_bytes in omega (arith, few, more))), inr (tt, (λ more. (let few = h.few_lines in omega (arith, few, more))), inl g)))

  -- what the lines are judged to be
  pub verdicts-computed : (before after : InputsSeen) (bytes lines : List ℕ) (game : Game) (answer : RunAnswer) → AreBothRead before after bytes lines → game_in bytes (Ok game) → Gives refusal.Memory (verdicts strategic game lines) answer → IsComputed command before after answer
  verdicts-computed before after bytes lines game (Ok text) h k g = record {
    answers = whole before after bytes lines (Ok text) h (tt, (λ more. (let few = h.few_bytes in omega (arith, few, more))), (tt, (λ more. (let few = h.few_lines in omega (arith, few, more))), (game, k, g)));
    has_read = both before after bytes lines h;
    selects_few = few_selections before after bytes lines h;
    counts = h.counts;
    inputs_stay = h.stay;
  }
  verdicts-computed before after bytes lines game (Err r) h k (inl e) = subst (λ r. IsComputed command before after (Err r)) (sym e) (memory-computed before after bytes lines h)
  verdicts-computed before after bytes lines game (Err r) h k (inr g) = contents-computed before after bytes lines r h (verdicts-contents strategic game lines r g) (later before after bytes lines r h (game, k, g))
