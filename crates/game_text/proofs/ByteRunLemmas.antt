-- Runs of bare bytes.
use Rattle.std.proofs.Common.{◌≡◌, ℕ, ◌<◌, true, List, [], ◌∷◌, ◌++◌, length, take, drop}
use Rattle.std.specs.List.{prefix_len, AllByRecursion}
use Rattle.std.proofs.lemmas.Bool.{false_from_ne_true}
use Rattle.game_text.specs.Tokens.{FirstIs, IsBlank, IsBare, IsRun}
use Rattle.game_text.specs.Reading.{is_bare, is_blank}
use Rattle.game_text.proofs.ByteLemmas.{tells_bare, tells_blank}
use Rattle.game_text.proofs.PrefixLemmas.{Stops, front-passes, following-stops, following-is}

-- bare bytes, by test and by fact
passes_bare : (run : List ℕ) → AllByRecursion (λ b. is_bare b ≡ true) run → AllByRecursion IsBare run
passes_bare [] h = tt
passes_bare (b ∷ run) h = ((tells_bare b).0 h.0, passes_bare run h.1)

bare_passes : (run : List ℕ) → AllByRecursion IsBare run → AllByRecursion (λ b. is_bare b ≡ true) run
bare_passes [] h = tt
bare_passes (b ∷ run) h = ((tells_bare b).1 h.0, bare_passes run h.1)

-- no bare byte comes, by test and by fact
bare_stops : (rest : List ℕ) → Stops is_bare rest → ¬ (FirstIs IsBare rest)
bare_stops [] s h = h
bare_stops (b ∷ rest) s h = let e : is_bare b ≡ true = (tells_bare b).1 h in cc

stops_bare : (rest : List ℕ) → ¬ (FirstIs IsBare rest) → Stops is_bare rest
stops_bare [] h = tt
stops_bare (b ∷ rest) h = false_from_ne_true (is_bare b) (λ e. h ((tells_bare b).0 e))

-- the longest front of bare bytes is a run, if it has any
pub run_is : (bytes run rest : List ℕ) → run ≡ take (prefix_len is_bare bytes) bytes → rest ≡ drop (prefix_len is_bare bytes) bytes → 0 < length run → IsRun run rest
run_is bytes run rest e f h = record {
  some = h;
  bare = rw e (passes_bare (take (prefix_len is_bare bytes) bytes) (front-passes is_bare bytes));
  longest = rw f (bare_stops (drop (prefix_len is_bare bytes) bytes) (following-stops is_bare bytes));
}

-- what comes after a run
pub drop-run : (run rest : List ℕ) → IsRun run rest → drop (prefix_len is_bare (run ++ rest)) (run ++ rest) ≡ rest
drop-run run rest h = following-is is_bare run rest (bare_passes run h.bare) (stops_bare rest h.longest)

-- the blanks at the front of bytes
passes_blank : (bytes : List ℕ) → AllByRecursion (λ b. is_blank b ≡ true) bytes → AllByRecursion IsBlank bytes
passes_blank [] h = tt
passes_blank (b ∷ bytes) h = ((tells_blank b).0 h.0, passes_blank bytes h.1)

pub take_blanks : (bytes : List ℕ) → AllByRecursion IsBlank (take (prefix_len is_blank bytes) bytes)
take_blanks bytes = passes_blank (take (prefix_len is_blank bytes) bytes) (front-passes is_blank bytes)

blank_stops : (rest : List ℕ) → Stops is_blank rest → ¬ (FirstIs IsBlank rest)
blank_stops [] s h = h
blank_stops (b ∷ rest) s h = let e : is_blank b ≡ true = (tells_blank b).1 h in cc

-- no blank comes after the blanks
pub drop_blanks : (bytes : List ℕ) → ¬ (FirstIs IsBlank (drop (prefix_len is_blank bytes) bytes))
drop_blanks bytes = blank_stops (drop (prefix_len is_blank bytes) bytes) (following-stops is_blank bytes)
