-- Runs: from the computed text to what is told, and that they are exact.
use Rattle.std.proofs.Common.{ℕ, ◌≡◌, ◌<◌, ◌⊎◌, ◌∙◌, inl, inr, sym, ap, subst, refl, List, [], ◌∷◌, Contains, Option, None, Some, Result, Ok, Err, true}
use Rattle.std.specs.Result.{result_err}
use Rattle.std.proofs.lemmas.Option.{same_Some}
use Rattle.answers.proofs.AnswerLemmas.{err_same}
use Rattle.answers.specs.Answers.{IsSingle, map_ok}
use Rattle.lists.proofs.ElementLemmas.{first_in, rest_in}
use Rattle.lists.proofs.OptionLemmas.{some-none}
use Rattle.outside.specs.Inputs.{InputName, InputsSeen}
use Rattle.outside.specs.Sink.{Takes}
use Rattle.words.specs.Words.{Command, command_from}
use Rattle.words.specs.declared.Usage.{Usage}
use Rattle.gambit_tools.specs.Seen.{Outside, Seen, but_for_err}
use Rattle.gambit_tools.specs.Input.{AreBytesOf, CountsDetermine}
use Rattle.gambit_tools.specs.Commands.{inputs_of, answer_of}
use Rattle.gambit_tools.specs.Origins.{Origin, Words, OutsideFault, Length, Contents as OfContents, Memory, Opening, Reading, Writing, origin}
use Rattle.gambit_tools.specs.Outcome.{RunAnswer, AreContents, AreToldContents, HasAnswer, AreRead, IsLastRead, HasReadBefore, IsRunStop, IsCommandRun, IsRunOf, IsExact, IsComplete, NoFault, IsTold, IsToldRun}
use Rattle.refusals.specs.Refusals.{status_of, run_status, HasFormedLine, IsToldAs}
use Rattle.refusals.specs.declared.refusal.Refusal.{Refusal}
use Rattle.refusals.specs.declared.refusal.Refusal.TheVariants as refusal

-- ---- what is told
-- a refusal whose line is formed comes from the contents
formed_contents : (r : Refusal) → HasFormedLine r → origin r ≡ OfContents
formed_contents (refusal.Text fault) names = refl
formed_contents (refusal.Nfg fault) names = refl
formed_contents (refusal.Efg fault) names = refl
formed_contents (refusal.NotTwoPlayers count) names = refl
formed_contents (refusal.Forgets f) names = refl
formed_contents (refusal.NotConstant sums) names = refl
formed_contents (refusal.TooLarge passed) names = refl
formed_contents (refusal.Range place step) names = refl
formed_contents (refusal.SubgameRange node place step) names = refl
formed_contents (refusal.BadLine line) names = refl
formed_contents (refusal.NoSuchPlayer number) names = refl
formed_contents (refusal.SamePlayer number) names = refl
formed_contents _ names = elim names [ ]

-- the input that was read last is selected
last_selected : (name : InputName) (names : List InputName) (after : InputsSeen) → IsLastRead (name ∷ names) after → (chosen : InputName) × Contains (name ∷ names) chosen × (after.selected ≡ Some chosen)
last_selected name [] after h = (name, first_in name [], h.selected)
last_selected name (other ∷ names) after h = let s = last_selected other names after h in (s.0, rest_in name s.0 (other ∷ names) s.1, s.2)

-- of inputs that were read one is selected, or nothing was read
some_read : (names : List InputName) (before after : InputsSeen) → AreRead names before after → (after ≡ before) ⊎ ((name : InputName) × Contains names name × (after.selected ≡ Some name))
some_read [] before after h = inl h
some_read (name ∷ names) before after h = inr (last_selected name names after h.last)

-- want of memory that is told in place of a refusal by the contents
memory_told : (command : Command) (before after : Outside) (r : Refusal) → origin r ≡ OfContents → IsCommandRun command before after (Err r) → IsCommandRun command before after (Err refusal.Memory)
memory_told command before after r o h =
    let stopped = subst (IsRunStop command before after r) o h.ends in
    record { ends = (tt, stopped.1); has_read = some_read (inputs_of command) before.inputs after.inputs (subst (HasReadBefore (inputs_of command) before.inputs after.inputs) o h.has_read); selects_few = h.selects_few }

pub told-run : (given : Result Command Usage) (before after : Outside) (r told : Refusal) → IsToldAs r told → IsRunOf given before after (Err r) → IsRunOf given before after (Err told)
told-run given before after r told (inl e) h = subst (λ x. IsRunOf given before after (Err x)) (sym e) h
told-run (Ok command) before after r told (inr (names, e)) h = subst (λ x. IsRunOf (Ok command) before after (Err x)) (sym e) (memory_told command before after r (formed_contents r names) h)
told-run (Err usage) before after r told (inr (names, e)) h = absurd (elim h.is_refused [
  | inl u ↦ subst HasFormedLine (err_same r (refusal.Usage usage) u) names
  | inr m ↦ subst HasFormedLine (err_same r refusal.Memory m) names
])

-- a counted fault of an input is told
pub counts-told : (before after : InputsSeen) (r told : Refusal) → IsToldAs r told → CountsDetermine before after (Some r) → CountsDetermine before after (Some told)
counts-told before after r told (inl t) counts = subst (λ x. CountsDetermine before after (Some x)) (sym t) counts
counts-told before after r told (inr p) counts = record {
  opening = λ l. absurd (subst HasFormedLine (same_Some r refusal.OpenFault (counts.opening l)) p.0);
  reading = λ l. absurd (subst HasFormedLine (same_Some r refusal.ReadFault (counts.reading l)) p.0);
}

-- a counted fault of the output is told
pub write_fault-told : (r told : Refusal) → IsToldAs r told → Some r ≡ Some refusal.WriteFault → Some told ≡ Some refusal.WriteFault
write_fault-told r told (inl t) f = ap Some t ∙ f
write_fault-told r told (inr p) f = absurd (subst HasFormedLine (same_Some r refusal.WriteFault f) p.0)

-- ---- runs are exact
-- contents that are told are the contents
told_contents : (held : InputName → Option (List ℕ)) (names : List InputName) (one other : List (List ℕ)) → AreContents held names one → AreToldContents held names other → one ≡ other
told_contents held [] [] [] h k = refl
told_contents held (name ∷ names) (bytes ∷ one) (told ∷ other) h k =
    (let same : told ≡ bytes = subst (λ x. AreBytesOf x bytes) k.0 h.0 in
    let rest : one ≡ other = told_contents held names one other h.1 k.1 in
    subst (λ x. bytes ∷ one ≡ x ∷ other) (sym same) (ap (λ x. bytes ∷ x) rest))
told_contents held [] [] (told ∷ other) h k = absurd k
told_contents held [] (bytes ∷ one) other h k = absurd h
told_contents held (name ∷ names) [] other h k = absurd h
told_contents held (name ∷ names) (bytes ∷ one) [] h k = absurd k

-- an answer by the contents is one by what the inputs tell
by_told : (command : Command) (before : InputsSeen) (contents : List (List ℕ)) (answer : RunAnswer) → AreToldContents before.held (inputs_of command) contents → HasAnswer command before answer → answer_of command contents answer
by_told command before contents answer told h = subst (λ c. answer_of command c answer) (told_contents before.held (inputs_of command) h.contents contents h.are_contents told) h.is_answer

of_memory : (r : Refusal) → origin r ≡ Memory → r ≡ refusal.Memory
of_memory refusal.Memory e = refl
of_memory _ e = absurd cc

-- a refusal is by what the inputs tell, where no fault was counted and memory did not run out
told_refusal : (command : Command) (before after : Outside) (contents : List (List ℕ)) (r : Refusal) (o : Origin) → origin r ≡ o → IsRunStop command before after r o
    → AreToldContents before.inputs.held (inputs_of command) contents → NoFault before after → (◌≡◌ {A = RunAnswer} (Err r) (Err refusal.Memory)) ⊎ answer_of command contents (Err r)
told_refusal command before after contents r (Words usage) e h told none = absurd h.0
told_refusal command before after contents r (OutsideFault Opening) e h told none = absurd (none.opening h.0.2.rose)
told_refusal command before after contents r (OutsideFault Reading) e h told none = absurd (none.reading h.0.2.rose)
told_refusal command before after contents r (OutsideFault Writing) e h told none = absurd (none.writing h.0)
told_refusal command before after contents r Length e h told none = inr (by_told command before.inputs contents (Err r) told h.0)
told_refusal command before after contents r OfContents e h told none = inr (by_told command before.inputs contents (Err r) told h.0)
told_refusal command before after contents r Memory e h told none = inl (ap Err (of_memory r e))

-- and so is an answer
told_answer : (command : Command) (before after : Outside) (contents : List (List ℕ)) (answer : RunAnswer) → IsCommandRun command before after answer
    → AreToldContents before.inputs.held (inputs_of command) contents → NoFault before after → (answer ≡ Err refusal.Memory) ⊎ answer_of command contents answer
told_answer command before after contents (Ok text) h told none = inr (by_told command before.inputs contents (Ok text) told h.ends.0)
told_answer command before after contents (Err r) h told none = told_refusal command before after contents r (origin r) refl h.ends told none

-- contents have at most one answer
abbrev pub AnswersAreSingle : Type 0
AnswersAreSingle = (command : Command) (contents : List (List ℕ)) → IsSingle (answer_of command contents)

run-exact : AnswersAreSingle → (words : List (List ℕ)) (before after : Outside) (answer : RunAnswer) → IsRunOf (command_from words) before after answer → IsExact words before after answer
run-exact single words before after answer h command e contents told none =
    elim (told_answer command before after contents answer (subst (λ w. IsRunOf w before after answer) e h) told none) [
      | inl m ↦ inl m
      | inr g ↦ inr (g, λ other k. single command contents answer other g k)
    ]

-- ---- outcomes
-- a run that answers the text
pub outcome-text : {X : Type 0} → AnswersAreSingle → (words : List (List ℕ)) (before after : Seen) (answered : Result X Refusal) (view : X → List ℕ) → None ≡ result_err answered
    → IsRunOf (command_from words) (but_for_err before) (but_for_err after) (map_ok answered view) → CountsDetermine before.inputs after.inputs (result_err answered)
    → (before.out.faults < after.out.faults → result_err answered ≡ Some refusal.WriteFault)
    → ((name : InputName) → after.inputs.held name ≡ before.inputs.held name) → after.err ≡ before.err → IsToldRun words before after 0 (map_ok answered view)
outcome-text single words before after (Ok x) view e h counts faults stay untold = record {
  status_is = refl;
  is_run = h;
  is_exact = run-exact single words (but_for_err before) (but_for_err after) (Ok (view x)) h;
  tells = untold;
  input_faults = counts;
  output_faults = faults;
  inputs_stay = stay;
}
outcome-text single words before after (Err r) view e h counts faults stay untold = absurd (some-none r (sym e))

-- a run that is refused
pub outcome-told : {X : Type 0} → AnswersAreSingle → (words : List (List ℕ)) (before after : Seen) (answered : Result X Refusal) (view : X → List ℕ) (r told : Refusal) (status : ℕ) → Some r ≡ result_err answered
    → IsRunOf (command_from words) (but_for_err before) (but_for_err after) (map_ok answered view) → CountsDetermine before.inputs after.inputs (result_err answered)
    → (before.out.faults < after.out.faults → result_err answered ≡ Some refusal.WriteFault)
    → ((name : InputName) → after.inputs.held name ≡ before.inputs.held name) → IsToldAs r told → status ≡ status_of told → IsTold before.err after.err (Some told)
    → IsToldRun words before after status (Err told)
outcome-told single words before after (Ok x) view r told status e h counts faults stay is status_is tells = absurd (some-none r e)
outcome-told single words before after (Err q) view r told status e h counts faults stay is status_is tells =
    (let same : IsToldAs q told = subst (λ x. IsToldAs x told) (same_Some r q e) is in
    let run : IsRunOf (command_from words) (but_for_err before) (but_for_err after) (Err told) = told-run (command_from words) (but_for_err before) (but_for_err after) q told same h in
    record {
      status_is = status_is;
      is_run = run;
      is_exact = run-exact single words (but_for_err before) (but_for_err after) (Err told) run;
      tells = tells;
      input_faults = counts-told before.inputs after.inputs q told same counts;
      output_faults = λ rose. write_fault-told q told same (faults rose);
      inputs_stay = stay;
    })

-- what is not refused is answered
unrefused : (command : Command) (contents : List (List ℕ)) (before after : Outside) (answer : RunAnswer) (status : ℕ) → status ≡ run_status (result_err answer) → IsCommandRun command before after answer → answer_of command contents answer → ((r : Refusal) → ¬ (answer_of command contents (Err r)))
    → (status ≡ 5) ⊎ ((status ≡ 0) × (text : List ℕ) × answer_of command contents (Ok text) × Takes before.out.taken after.out.taken text × (after.out.flushed ≡ true))
unrefused command contents before after (Ok text) status e run g none = inr (e, text, g, run.ends.1, run.ends.2)
unrefused command contents before after (Err r) status e run g none = absurd (none r g)

pub outcome-complete : (words : List (List ℕ)) (before after : Seen) (status : ℕ) (answer : RunAnswer) → IsToldRun words before after status answer → IsComplete words (but_for_err before) (but_for_err after) status
outcome-complete words before after status answer o command e contents told none not_refused =
    elim (o.is_exact command e contents told none) [
      | inl m ↦ inl (o.status_is ∙ ap (λ x. run_status (result_err x)) m)
      | inr g ↦ unrefused command contents (but_for_err before) (but_for_err after) answer status o.status_is (subst (λ w. IsRunOf w (but_for_err before) (but_for_err after) answer) e o.is_run) g.0 not_refused
    ]
