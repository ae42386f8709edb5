-- Refusals of what the tools for two players make of a game, and print of two plans, come from the contents of the input,
-- and the steps that they name do not fit.
use Rattle.std.proofs.Common.{ℕ, ◌≡◌, ◌≢◌, inl, inr, refl, subst, sym, Bool, true, false, List, length, Err}
use Rattle.std.specs.List.{range_with_len, enumerate_from}
use Rattle.answers.specs.Answers.{Answer, only, such_that, refuse_where, ◌>>=◌, ◌>>◌, refused_by}
use Rattle.frac128.specs.FirstUnfit.{all_fit}
use Rattle.frac128.specs.Steps.{Step, StepFits}
use Rattle.rational.specs.Rational.{ℚ}
use Rattle.game_theory.specs.Lines.{line_text}
use Rattle.game_core.specs.declared.game.Game.{Game}
use Rattle.game_core.specs.declared.game.Game.TheVariants.{Strategic, Extensive}
use Rattle.game_core.specs.Limits.{most_rows, within}
use Rattle.game_core.specs.Table.{GameTable}
use Rattle.game_core.specs.Tree.{GameTree}
use Rattle.game_core.specs.TreeGame.{game_of_tree}
use Rattle.game_core.specs.declared.too_large.What.TheVariants as what
use Rattle.behaviour_profile.specs.Plans.{both_plans, own_actions, own_quotients_in, plan_behaviour, quotient_steps, quotient_stop}
use Rattle.behaviour_profile.specs.declared.plans.BehaviourStop.{BehaviourStop}
use Rattle.perfect_recall.specs.Found.{recall_of}
use Rattle.perfect_recall.specs.declared.recall.RecallStop.{RecallStop}
use Rattle.perfect_recall.specs.declared.recall.RecallStop.TheVariants as recall_stop
use Rattle.reduced_form.specs.Limits.{cell_steps, cells}
use Rattle.reduced_form.specs.Stops.{reduced_form_of}
use Rattle.reduced_form.specs.declared.stop.ReduceStop.{ReduceStop}
use Rattle.reduced_form.specs.declared.stop.ReduceStop.TheVariants as reduce_stop
use Rattle.sequence_data.specs.Data.{IsFormOf, SideData, form_of_leaves}
use Rattle.sequence_data.specs.Steps.{gathering_in, leaf_steps}
use Rattle.sequence_data.specs.declared.stop.SeqStop.TheVariants as sequence_stop
use Rattle.sequence_data.specs.declared.types.Leaf.{Leaf}
use Rattle.sequence_form.specs.Forms.{of_two_players, table_form, table_leaves, tree_form}
use Rattle.sequence_form.specs.Laws.{count_of_columns, count_of_rows}
use Rattle.sequence_form.specs.Paths.{node_steps, paths_in, tree_leaves}
use Rattle.sequence_form.specs.Sequences.{start_side, tree_side}
use Rattle.sequence_data.specs.declared.sizes.Counts.{Counts}
use Rattle.two_player_tools.specs.Entries.{entries_in, plans_line}
use Rattle.gambit_tools.specs.Laws.{FaultNamesStep}
use Rattle.gambit_tools.specs.Origins.{Contents, origin}
use Rattle.two_player_tools.specs.StrategicForms.{strategic_table}
use Rattle.two_player_tools.specs.TwoPlayers.{form_in, table_form_within, tree_form_within, table_counts, tree_counts, two_players}
use Rattle.refusals.specs.Told.{behaviour_refusal, form_refusal, recall_refusal, sequence_refusal}
use Rattle.refusals.specs.declared.refusal.Refusal.{Refusal}
use Rattle.refusals.specs.declared.refusal.Refusal.TheVariants as refusal

-- a refusal comes from the contents, and where it names a step, that step does not fit
abbrev pub IsOfContents : Refusal → Type 0
IsOfContents (refusal.Efg fault) = (step : Step) → FaultNamesStep fault.kind step → ¬ (StepFits step)
IsOfContents (refusal.Range place step) = ¬ (StepFits step)
IsOfContents (refusal.SubgameRange node place step) = ¬ (StepFits step)
IsOfContents r = origin r ≡ Contents

pub contents-origin : (r : Refusal) → IsOfContents r → origin r ≡ Contents
contents-origin (refusal.Efg fault) h = refl
contents-origin (refusal.Range place step) h = refl
contents-origin (refusal.SubgameRange node place step) h = refl
contents-origin r h = h

-- all refusals of a stage do
abbrev pub AreContents : {Y : Type 0} → Answer Refusal Y → Type 0
AreContents p = (r : Refusal) → p (Err r) → IsOfContents r

-- ---- stages
pub then-contents : {Y Z : Type 0} (p : Answer Refusal Y) (f : Y → Answer Refusal Z) → AreContents p → ((y : Y) → AreContents (f y)) → AreContents (p >>= f)
then-contents p f first later r (inl h) = first r h
then-contents p f first later r (inr h) = later h.0 r h.2

pub told-contents : {S Y : Type 0} (told : S → Refusal) (p : Answer S Y) → ((stop : S) → p (Err stop) → IsOfContents (told stop)) → AreContents (refused_by told p)
told-contents told p each r h = subst IsOfContents (sym h.2) (each h.0 h.1)

pub where-contents : (P : Type 0) (reason : Refusal) → (P → IsOfContents reason) → AreContents (refuse_where P reason)
where-contents P reason each r h = subst IsOfContents (sym h.1) (each h.0)

pub only-contents : {Y : Type 0} (y : Y) → AreContents (only y)
only-contents y r e = cc

-- ---- stages whose reasons to stop are told by refusals
-- all refusals that tell a stage's reasons come from the contents
abbrev pub AreReasons : {S Y : Type 0} → (S → Refusal) → Answer S Y → Type 0
AreReasons {S} told p = (stop : S) → p (Err stop) → IsOfContents (told stop)

pub then-reasons : {S Y Z : Type 0} (told : S → Refusal) (p : Answer S Y) (f : Y → Answer S Z) → AreReasons told p → ((y : Y) → AreReasons told (f y)) → AreReasons told (p >>= f)
then-reasons told p f first later stop (inl h) = first stop h
then-reasons told p f first later stop (inr h) = later h.0 stop h.2

pub inner-reasons : {R S Y : Type 0} (told : S → Refusal) (inner : R → S) (p : Answer R Y) → ((stop : R) → p (Err stop) → IsOfContents (told (inner stop))) → AreReasons told (refused_by inner p)
inner-reasons told inner p each stop h = subst (λ s. IsOfContents (told s)) (sym h.2) (each h.0 h.1)

pub where-reasons : {S : Type 0} (told : S → Refusal) (P : Type 0) (reason : S) → IsOfContents (told reason) → AreReasons told (refuse_where P reason)
where-reasons told P reason each stop h = subst (λ s. IsOfContents (told s)) (sym h.1) each

pub only-reasons : {S Y : Type 0} (told : S → Refusal) (y : Y) → AreReasons told (only y)
only-reasons told y stop e = cc

-- a step that does not fit is told
pub fitting-reasons : {S X : Type 0} (told : S → Refusal) (inner : X × Step → S) (steps : X → List Step) (xs : List X)
    → ((stop : X × Step) → ¬ (StepFits stop.1) → IsOfContents (told (inner stop))) → AreReasons told (refused_by inner (all_fit steps xs))
fitting-reasons told inner steps xs each = inner-reasons told inner (all_fit steps xs) (λ stop h. each stop h.first_unfit.does_not_fit)

-- ---- reasons to stop
pub recall-contents : (t : GameTree) (stop : RecallStop) → recall_of t (Err stop) → IsOfContents (recall_refusal stop)
recall-contents t (recall_stop.Forgets f) h = refl
recall-contents t recall_stop.Memory h = absurd h

pub form-contents : (tree : GameTree) (stop : ReduceStop) → reduced_form_of tree (Err stop) → IsOfContents (form_refusal stop)
form-contents tree stop (inl h) = absurd h
form-contents tree stop (inr (strategies, _, inl h)) = subst (λ s. IsOfContents (form_refusal s)) (sym h.2) refl
form-contents tree stop (inr (strategies, _, inr (_, _, inl h))) =
    let t = game_of_tree tree in
    fitting-reasons form_refusal (λ stop. reduce_stop.Range stop.0.0 stop.0.1 stop.1) (λ cell. cell_steps t strategies cell.0 cell.1) (cells t strategies) (λ stop u. u) stop h
form-contents tree stop (inr (strategies, _, inr (_, _, inr (_, _, h)))) = absurd h

-- two players
players-reasons : (n : ℕ) → AreReasons sequence_refusal (of_two_players n)
players-reasons n = where-reasons sequence_refusal (n ≢ 2) (sequence_stop.NotTwoPlayers n) refl

-- a form over sides and leaves
leaves-reasons : (first second : SideData) (leaves : List Leaf) → AreReasons sequence_refusal (form_of_leaves first second leaves)
leaves-reasons first second leaves =
    then-reasons sequence_refusal (gathering_in leaves) (λ _. such_that (IsFormOf first second leaves))
    (fitting-reasons sequence_refusal (λ stop. sequence_stop.Range stop.0.1.place stop.1) (leaf_steps leaves) (enumerate_from 0 leaves) (λ stop u. u))
    (λ _ stop h. absurd h)

tree_form-contents : (t : GameTree) → AreReasons sequence_refusal (tree_form t)
tree_form-contents t =
    let g = game_of_tree t in
    let form = form_of_leaves (tree_side g 0) (tree_side g 1) (tree_leaves g) in
    then-reasons sequence_refusal (of_two_players (length t.players)) (λ _. paths_in g >> form) (players-reasons (length t.players))
    (λ _. then-reasons sequence_refusal (paths_in g) (λ _. form)
    (fitting-reasons sequence_refusal (λ stop. sequence_stop.Range stop.0 stop.1) (node_steps g) (range_with_len 0 g.size) (λ stop u. u))
    (λ _. leaves-reasons (tree_side g 0) (tree_side g 1) (tree_leaves g)))

table_form-contents : (t : GameTable) → AreReasons sequence_refusal (table_form t)
table_form-contents t =
    let rows = start_side (count_of_rows t) in
    let columns = start_side (count_of_columns t) in
    then-reasons sequence_refusal (of_two_players (length t.players)) (λ _. form_of_leaves rows columns (table_leaves t)) (players-reasons (length t.players))
    (λ _. leaves-reasons rows columns (table_leaves t))

quotients-reasons : (t : GameTree) (one two : List ℚ) (i : ℕ) → AreReasons behaviour_refusal (own_quotients_in t (both_plans one two) i)
quotients-reasons t one two i =
    fitting-reasons behaviour_refusal (quotient_stop t) (quotient_steps (game_of_tree t) (both_plans one two)) (own_actions (game_of_tree t) i) (λ stop u. u)

pub behaviour-contents : (t : GameTree) (one two : List ℚ) (stop : BehaviourStop) → plan_behaviour t one two (Err stop) → IsOfContents (behaviour_refusal stop)
behaviour-contents t one two stop (inl h) = quotients-reasons t one two 0 stop h
behaviour-contents t one two stop (inr (_, _, inl h)) = quotients-reasons t one two 1 stop h
behaviour-contents t one two stop (inr (_, _, inr (_, _, h))) = only-reasons behaviour_refusal _ stop h

-- ---- the number of players
pub two_players-contents : (game : Game) → AreContents (two_players game)
two_players-contents game = where-contents _ _ (λ _. refl)

-- ---- the form
pub strategic_table-contents : (game : Game) → AreContents (strategic_table game)
strategic_table-contents (Strategic table) = only-contents table
strategic_table-contents (Extensive tree) =
    then-contents (refused_by form_refusal (reduced_form_of tree)) (λ form. only form.table) (told-contents form_refusal (reduced_form_of tree) (form-contents tree)) (λ form. only-contents form.table)

table_form_within-contents : (rows : Counts → ℕ) (t : GameTable) → AreContents (table_form_within rows t)
table_form_within-contents rows t =
    then-contents (refused_by refusal.TooLarge (within what.Rows most_rows (rows (table_counts t)))) (λ _. refused_by sequence_refusal (table_form t))
    (told-contents refusal.TooLarge (within what.Rows most_rows (rows (table_counts t))) (λ stop h. refl)) (λ _. told-contents sequence_refusal (table_form t) (table_form-contents t))

tree_form_within-contents : (rows : Counts → ℕ) (t : GameTree) → AreContents (tree_form_within rows t)
tree_form_within-contents rows t =
    then-contents (refused_by recall_refusal (recall_of t)) (λ _. refused_by refusal.TooLarge (within what.Rows most_rows (rows (tree_counts t))) >> refused_by sequence_refusal (tree_form t))
    (told-contents recall_refusal (recall_of t) (recall-contents t))
    (λ _. then-contents (refused_by refusal.TooLarge (within what.Rows most_rows (rows (tree_counts t)))) (λ _. refused_by sequence_refusal (tree_form t))
    (told-contents refusal.TooLarge (within what.Rows most_rows (rows (tree_counts t))) (λ stop h. refl)) (λ _. told-contents sequence_refusal (tree_form t) (tree_form-contents t)))

strategic-contents : (rows : Counts → ℕ) (game : Game) → AreContents (strategic_table game >>= table_form_within rows)
strategic-contents rows game = then-contents (strategic_table game) (table_form_within rows) (strategic_table-contents game) (table_form_within-contents rows)

pub form_in-contents : (rows : Counts → ℕ) (strategic : Bool) (game : Game) → AreContents (form_in rows strategic game)
form_in-contents rows true (Strategic t) = strategic-contents rows (Strategic t)
form_in-contents rows false (Strategic t) = strategic-contents rows (Strategic t)
form_in-contents rows true (Extensive t) = strategic-contents rows (Extensive t)
form_in-contents rows false (Extensive t) = tree_form_within-contents rows t

-- ---- the line
pub entries-contents : (strategic : Bool) (game : Game) (one two : List ℚ) → AreContents (entries_in strategic game one two)
entries-contents true (Strategic t) one two = only-contents _
entries-contents false (Strategic t) one two = only-contents _
entries-contents true (Extensive t) one two = only-contents _
entries-contents false (Extensive t) one two = told-contents behaviour_refusal (plan_behaviour t one two) (behaviour-contents t one two)

pub plans_line-contents : (strategic : Bool) (game : Game) (one two : List ℚ) → AreContents (plans_line strategic game one two)
plans_line-contents strategic game one two =
    then-contents (entries_in strategic game one two) (λ entries. only (line_text entries)) (entries-contents strategic game one two)
    (λ entries. only-contents (line_text entries))
