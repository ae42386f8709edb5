use Rattle.std.proofs.Common.{rules, ℕ, ◌*◌, ◌<◌, ◌≤◌, ◌≡◌, Result, Ok, Err, List, ◌++◌, drop, length, map, All, sym, ap, ap₂, ◌∙◌, subst, arith}
use Rattle.std.specs.Result.{IsErrAnd}
use Rattle.std.proofs.lemmas.List.{length-append, length-map, take-append-le, take_all}
use Rattle.answers.specs.Answers.{Answer, Gives, map_ok, refused_by}
use Rattle.rational.specs.Rational.{ℚ}
use Rattle.game_theory.specs.Behaviour.{payoff, pure}
use Rattle.game_theory.specs.Lines.{listed}
use Rattle.game_theory.proofs.ProfileLineLemmas.{length-listed}
use Rattle.game_theory.specs.Profiles.{IsProfile, profile_at, profile_count}
use Rattle.game_theory.proofs.ProfileNumberLemmas.{IsProfile-profile_at}
use Rattle.game_theory.specs.Trees.{Tree, IsTree}
use Rattle.reduced_strategies.specs.StrategicForm.{AreStrategies, completed, strategic_form}
use Rattle.game_core.specs.Table.{most_payoffs}
use Rattle.game_core.specs.TreeGame.{game_of_tree}
use Rattle.pure_payoffs.specs.Stops.{payoffs_fit}
use Rattle.reduced_form.specs.Cells.{at_profile}
use Rattle.reduced_form.specs.Stops.{cells_in}
use Rattle.reduced_form.specs.declared.stop.ReduceStop.{ReduceStop}
use Rattle.reduced_form.specs.declared.stop.ReduceStop.TheVariants as stops
use Rattle.reduced_form.proofs.CellRowLemmas.{all_fit, cells-more, profile_fits, profile_stops}
use Rattle.reduced_form.proofs.FormCountLemmas.{counts-positive}
use Rattle.reduced_form.proofs.FormLaws.{few_profiles, few_of_each}
use Rattle.reduced_form.proofs.cells.cells.Goals as goal
use Rattle.reduced_form.proofs.cells.cells.Goals.{After-deref-in-loop-number, In-loop-number}

-- each player has a strategy
some : (t : Tree) (counts : List ℕ) (strategies : List (List (List ℕ))) → IsTree t → AreStrategies t strategies → counts ≡ map length strategies → All (λ n. 0 < n) counts
some t counts strategies w a is = subst (All (λ n. 0 < n)) (sym is) (counts-positive t strategies w a)

-- there are few profiles
few : (t : Tree) (counts : List ℕ) (strategies : List (List (List ℕ))) → AreStrategies t strategies → counts ≡ map length strategies → t.players * profile_count counts ≤ most_payoffs → profile_count counts ≤ most_payoffs
few t counts strategies a is h = few_profiles t.players counts (ap length is ∙ length-map strategies (length {A = List ℕ}) ∙ a.one_for_each) h

-- what the exit of a `?` gives
exit : {X : Type 0} (p : Answer ReduceStop (Unit {0})) (r : ReduceStop) (answer : Result X ReduceStop) → Gives stops.Memory p (Err r) → IsErrAnd answer (λ q. q ≡ r) → Gives stops.Memory p (map_ok answer (λ _. tt))
exit p r (Ok x) g e = elim e [ ]
exit p r (Err q) g e = subst (λ s. Gives stops.Memory p (Err s)) (sym e) g

pub profile_count-profiles-requires-clause-few : goal.profile_count-profiles-requires-clause-few
profile_count-profiles-requires-clause-few c = few (game_of_tree c.args.tree.now) c.args.counts.now _ c.requires.strategies c.requires.counts c.requires.few

pub profile_count-profiles-requires-clause-some : goal.profile_count-profiles-requires-clause-some
profile_count-profiles-requires-clause-some c =
    let valid = c.trees_are_game_trees.ensures c.args.tree.now c.players-players.ensures.valid in
    some (game_of_tree c.args.tree.now) c.args.counts.now _ valid c.requires.strategies c.requires.counts

pub set_profile-requires-clause-few : goal.set_profile-requires-clause-few
set_profile-requires-clause-few c =
    let valid = c.trees_are_game_trees.ensures c.args.tree.now c.players-players.ensures.valid in
    few_of_each c.args.counts.now (some (game_of_tree c.args.tree.now) c.args.counts.now _ valid c.requires.strategies c.requires.counts) (few (game_of_tree c.args.tree.now) c.args.counts.now _ c.requires.strategies c.requires.counts c.requires.few)

pub set_profile-requires-clause-some : goal.set_profile-requires-clause-some
set_profile-requires-clause-some c =
    let valid = c.trees_are_game_trees.ensures c.args.tree.now c.players-players.ensures.valid in
    some (game_of_tree c.args.tree.now) c.args.counts.now _ valid c.requires.strategies c.requires.counts

pub overflow_cast-number : goal.overflow_cast-number
overflow_cast-number c = omega (arith, c.profile_count-profiles.ensures, few (game_of_tree c.args.tree.now) c.args.counts.now _ c.requires.strategies c.requires.counts c.requires.few)

-- the number is that of a profile
numbered : (c : In-loop-number) → c.loop-number.number < profile_count (map length c.args.strategies.now)
numbered c = omega (arith, c.loop-number-test.true, c.loop-number.auto.number-end, c.profile_count-profiles.ensures, ap profile_count c.requires.counts)

-- the profile has this number
digits-are : (c : After-deref-in-loop-number) → c.deref.result.now ≡ profile_at (map length c.args.strategies.now) c.loop-number.number
digits-are c =
    let old = c.loop-number.profile in
    let new = c.set_profile.new.profile in
    let same : length new ≡ old.len = omega (arith, c.set_profile.auto.profile, ap length c.deref_mut.ensures.value, old.ok.0) in
    c.deref.ensures.value ∙ take-append-le old.len new (drop (length new) old.items) (omega (arith, same)) ∙ take_all old.len new (omega (arith, same)) ∙ c.set_profile.ensures ∙ ap (λ ns. profile_at ns c.loop-number.number) c.requires.counts

-- its choices are those of the play
chosen : (c : After-deref-in-loop-number) → completed (game_of_tree c.args.tree.now) (map (λ v. map (λ w. w.items) v.items) c.lists.result.now) c.deref.result.now ≡ completed (game_of_tree c.args.tree.now) c.args.strategies.now (profile_at (map length c.args.strategies.now) c.loop-number.number)
chosen c = ap₂ (completed (game_of_tree c.args.tree.now)) c.lists.ensures (digits-are c)

pub push_cells-requires-clause-choices : goal.push_cells-requires-clause-choices
push_cells-requires-clause-choices c =
    let t = game_of_tree c.args.tree.now in
    let here = (goal.at.push_cells-requires-clause-choices c).In-loop-number in
    let before = (goal.at.push_cells-requires-clause-choices c).After-deref-in-loop-number in
    let profile = IsProfile-profile_at (map length c.args.strategies.now) c.loop-number.number (numbered here) in
    record {
      places_are = c.requires.places;
      strategies_are = subst (AreStrategies t) (sym c.lists.ensures) c.requires.strategies;
      is_profile = subst (λ (lists : List (List (List ℕ))). IsProfile (map length lists) c.deref.result.now) (sym c.lists.ensures) (subst (IsProfile (map length c.args.strategies.now)) (sym (digits-are before)) profile);
    }

pub returns-in_err-push_cells-clause-fit : goal.returns-in_err-push_cells-clause-fit
returns-in_err-push_cells-clause-fit c =
    let t = game_of_tree c.args.tree.now in
    let strategies = c.args.strategies.now in
    let number = c.loop-number.number in
    let stop = c.in_err-push_cells.field-0.0 in
    let here = (goal.at.returns-in_err-push_cells-clause-fit c).In-loop-number in
    let before = (goal.at.returns-in_err-push_cells-clause-fit c).After-deref-in-loop-number in
    exit (cells_in t strategies) stop c.from_residual-in_err-push_cells.result
    (profile_stops t strategies number (numbered here) c.loop-number.invariant.fit stop (subst (λ (choice : ℕ → ℕ). Gives stops.Memory (refused_by (at_profile number) (payoffs_fit t choice)) (Err stop)) (chosen before) c.in_err-push_cells.ensures.stop)) c.from_residual-in_err-push_cells.ensures.1

pub loop-number-preserved : goal.loop-number-preserved
loop-number-preserved c =
    let t = game_of_tree c.args.tree.now in
    let strategies = c.args.strategies.now in
    let number = c.loop-number.number in
    let here = (goal.at.loop-number-preserved c).In-loop-number in
    let before = (goal.at.loop-number-preserved c).After-deref-in-loop-number in
    let pays : ℕ → ℚ = λ i. (strategic_form t strategies).pays i number in
    let more : c.push_cells.new.payoffs.items ≡ c.loop-number.payoffs.items ++ listed t.players pays =
    subst (λ (choice : ℕ → ℕ). c.push_cells.new.payoffs.items ≡ c.loop-number.payoffs.items ++ listed t.players (payoff t (pure choice))) (chosen before) c.in_ok-push_cells.ensures.cells in
    record {
      tree = c.in_ok-push_cells.ensures.tree ∙ c.loop-number.invariant.tree;
      digits = search rules;
      so_many = ap length more ∙ length-append c.loop-number.payoffs.items (listed t.players pays) ∙ omega (arith, c.loop-number.invariant.so_many, length-listed t.players pays);
      cells = cells-more t strategies c.loop-number.payoffs.items _ number c.loop-number.invariant.so_many more c.loop-number.invariant.cells;
      fit = profile_fits t strategies number (numbered here) c.loop-number.invariant.fit (subst (λ (choice : ℕ → ℕ). refused_by (at_profile number) (payoffs_fit t choice) (Ok tt)) (chosen before) c.in_ok-push_cells.ensures.stop);
    }

pub returns-clause-fit : goal.returns-clause-fit
returns-clause-fit c =
    let all : profile_count (map length c.args.strategies.now) ≤ c.loop-number.number = omega (arith, c.loop-number-test.false, c.loop-number.auto.number-end, c.profile_count-profiles.ensures, ap profile_count c.requires.counts) in
    all_fit (game_of_tree c.args.tree.now) c.args.strategies.now c.loop-number.number all c.loop-number.invariant.fit
