-- Each cut has an answer, and so has the tree that is solved cut by cut.
use Rattle.std.proofs.Common.{ℕ, zero, suc, false, ◌<◌, ◌≤◌, ◌≡◌, ◌∙◌, inl, inr, cond, Option, None, Some, List, get_or, length, Ok, Err, Result, refl, sym, ap, subst, arith}
use Rattle.std.specs.Prelude.{◌==◌}
use Rattle.std.specs.List.{range_with_len}
use Rattle.std.proofs.lemmas.Bool.{cases_eq, eq-eqb}
use Rattle.std.proofs.lemmas.Option.{none-some}
use Rattle.answers.specs.Answered.{IsAnswered}
use Rattle.answers.specs.Answers.{by_case, only, ◌>>=◌, ◌>>◌, refused_by}
use Rattle.answers.proofs.AnswerLemmas.{ok_same}
use Rattle.answers.proofs.AnsweredLemmas.{bind-answered, by_case-answered, only-answered, refused_by-answered}
use Rattle.lists.proofs.NumberLemmas.{unequal}
use Rattle.rational.specs.Rational.{ℚ, zero_ℚ}
use Rattle.frac128.proofs.FirstUnfitLemmas.{all_fit-answered}
use Rattle.game_theory.specs.Behaviour.{Behaviour, payoff}
use Rattle.game_theory.specs.Lines.{line_text}
use Rattle.game_theory.specs.TreeEntries.{tree_entries}
use Rattle.game_core.specs.Tree.{GameTree, IsGameTree}
use Rattle.game_core.specs.TreeGame.{game_of_tree}
use Rattle.game_core.specs.declared.game.Game.TheVariants.{Extensive}
use Rattle.behaviour_profile.specs.Plans.{plan_behaviour}
use Rattle.behaviour_profile.proofs.AnsweredProfileLemmas.{plan_behaviour-answered}
use Rattle.perfect_recall.specs.Found.{recall_of}
use Rattle.pure_payoffs.specs.declared.stop.PayoffStop.TheVariants as payoffs_stop
use Rattle.refusals.specs.Told.{behaviour_refusal, recall_refusal}
use Rattle.refusals.specs.declared.refusal.Refusal.{Refusal}
use Rattle.sequence_data.specs.Data.{FormData, IsFormData}
use Rattle.sequence_data.specs.PlanPairs.{PlanPair}
use Rattle.subgames.specs.CutLaws.{SetsStandInOneCut}
use Rattle.subgames.specs.CutTrees.{IsCutAt}
use Rattle.subgames.specs.MadeCuts.{MadeCut}
use Rattle.subgames.specs.Roots.{IsSubgameRoot}
use Rattle.subgames.proofs.RootTestLemmas.{root_or_not}
use Rattle.subgames.proofs.SomeCutLemmas.{some-cut}
use Rattle.verdicts.specs.TreeSteps.{behaviour_steps_at}
use Rattle.two_player_tools.specs.Lp.{solution_in}
use Rattle.two_player_tools.specs.Perfect.{AreCutsSolvedFrom, IsSolvedAt, cut_entries_in, entries_by, entry_payoffs_fit, in_subgame, perfect_in, perfect_text, plans_by, worth_refusal}
use Rattle.two_player_tools.specs.TwoPlayers.{tree_form_within, rows_by, two_players}
use Rattle.two_player_tools.specs.declared.forms.Method.{Method}
use Rattle.two_player_tools.specs.declared.forms.Method.TheVariants.{LinearProgram, Complementarity}
use Rattle.two_player_tools.proofs.AnsweredFormLemmas.{tree_form_within-answered, recall_told-answered, two_players-answered}
use Rattle.two_player_tools.proofs.AnsweredSolutionLemmas.{equilibrium_in-answered, solution_in-answered}
use Rattle.two_player_tools.proofs.CutAnswerLemmas.{entries_by-equilibrium}
use Rattle.two_player_tools.proofs.KeptPropertyLemmas.{TreesAreGames, form_in-valid}
use Rattle.two_player_tools.proofs.KnownCutLemmas.{ChangesAtCut, later-kept, root-solved}

-- ---- one tree
-- a form has plans by each method, or a reason why it has none
plans_by-answered : (method : Method) (f : FormData) → IsFormData f → IsAnswered (plans_by method f)
plans_by-answered LinearProgram f w =
    bind-answered (solution_in f) (λ s. only {E = Refusal} {Y = PlanPair} (record { one = s.one; two = s.two })) (solution_in-answered f w) (λ s _. only-answered _)
plans_by-answered Complementarity f w = equilibrium_in-answered f w

-- a tree has entries by each method, or a reason why it has none
entries_by-answered : (method : Method) (t : GameTree) → TreesAreGames → IsGameTree t → IsAnswered (entries_by method t)
entries_by-answered method t laws w =
    let told = λ (plans : PlanPair). refused_by behaviour_refusal (plan_behaviour t plans.one plans.two) in
    bind-answered (tree_form_within (rows_by method) t) (λ form. plans_by method form >>= told)
    (tree_form_within-answered (rows_by method) t w)
    (λ form k. bind-answered (plans_by method form) told (plans_by-answered method form (form_in-valid (rows_by method) false (Extensive t) form laws w k))
    (λ plans _. refused_by-answered behaviour_refusal (plan_behaviour t plans.one plans.two) (plan_behaviour-answered t plans.one plans.two)))

-- ---- one cut
-- the steps of what such entries pay fit, or there is the first that does not
entry_payoffs-answered : (method : Method) (t : GameTree) (entries : List ℚ) → TreesAreGames → IsGameTree t → entries_by method t (Ok entries) → IsAnswered (entry_payoffs_fit t entries)
entry_payoffs-answered method t entries laws w made none =
    let g = game_of_tree t in
    let found = entries_by-equilibrium method t entries laws w made in
    refused_by-answered (λ stop. payoffs_stop.Range stop.0 stop.1) _ (all_fit-answered (λ i. behaviour_steps_at g found.0 i 0) (range_with_len 0 g.players))
    (λ answer fit. none answer (found.0, found.2, fit))

-- a cut has entries, or a reason why it has none
cut_entries_in-answered : (method : Method) (n : ℕ) (cut : MadeCut) → TreesAreGames → IsGameTree cut.tree → IsAnswered (cut_entries_in method n cut)
cut_entries_in-answered method n cut laws w =
    let paid = λ (entries : List ℚ). by_case (n ≡ 0) (only {E = Refusal} tt) (refused_by (worth_refusal n) (entry_payoffs_fit cut.tree entries)) in
    bind-answered (refused_by (in_subgame n cut.nodes) (entries_by method cut.tree)) (λ entries. paid entries >> only entries)
    (refused_by-answered (in_subgame n cut.nodes) (entries_by method cut.tree) (entries_by-answered method cut.tree laws w))
    (λ entries made. bind-answered (paid entries) (λ _. only entries)
    (by_case-answered (n ≡ 0) (only tt) (refused_by (worth_refusal n) (entry_payoffs_fit cut.tree entries)) (λ _. only-answered tt) (λ _. refused_by-answered (worth_refusal n) (entry_payoffs_fit cut.tree entries) (entry_payoffs-answered method cut.tree entries laws w made)))
    (λ _ _. only-answered entries))

-- entries that are found are those of some behaviour
entries-found : (method : Method) (n : ℕ) (cut : MadeCut) (entries : List ℚ) → TreesAreGames → IsGameTree cut.tree → cut_entries_in method n cut (Ok entries) → (found : Behaviour) × (entries ≡ tree_entries (game_of_tree cut.tree) found)
entries-found method n cut entries laws w (list, made, (done, paid, same)) =
    let found = entries_by-equilibrium method cut.tree list laws w made in
    (found.0, ok_same entries list same ∙ found.2)

-- ---- behaviour that is changed at a cut
-- at the players' sets below number n of a cut behaviour is another, and elsewhere it is as before
record IsChangedBelow (cut : MadeCut) (found b : Behaviour) (n : ℕ) (new : Behaviour) : Type 0 where
  at_cut : (r i : ℕ) → r < n → (game_of_tree cut.tree).owner r ≡ Some i → new (get_or cut.sets r 0) ≡ found r
  elsewhere : (s : ℕ) → ((r i : ℕ) → r < n → (game_of_tree cut.tree).owner r ≡ Some i → ¬ (get_or cut.sets r 0 ≡ s)) → new s ≡ b s

module _ (cut : MadeCut) (found b : Behaviour) (differ : (r q : ℕ) → r < length cut.tree.sets → q < length cut.tree.sets → get_or cut.sets r 0 ≡ get_or cut.sets q 0 → r ≡ q) where
  -- one set more
  changed-next : (n : ℕ) (owner : Option ℕ) → n < length cut.tree.sets → (game_of_tree cut.tree).owner n ≡ owner → (new : Behaviour) × IsChangedBelow cut found b n new → (new : Behaviour) × IsChangedBelow cut found b (suc n) new
  changed-next n None below chance (new, h) = (
    new,
    record {
      at_cut = λ r i l owned. elim (cases_eq r n) [
        | inl same ↦ absurd (none-some i (sym chance ∙ subst (λ r. (game_of_tree cut.tree).owner r ≡ Some i) same owned))
        | inr other ↦ h.at_cut r i (omega (arith, l, other)) owned
      ];
      elsewhere = λ s apart. h.elsewhere s (λ r i l owned. apart r i (omega (arith, l)) owned);
    },
  )
  changed-next n (Some i) below owner (new, h) = (
    λ s. cond (s == get_or cut.sets n 0) (found n) (new s),
    record {
      at_cut = λ r j l owned. elim (cases_eq r n) [
        | inl same ↦ ap (λ x. cond x (found n) (new (get_or cut.sets r 0))) (eq-eqb (get_or cut.sets r 0) (get_or cut.sets n 0) (ap (λ r. get_or cut.sets r 0) same)) ∙ ap found (sym same)
        | inr other ↦
            ap (λ x. cond x (found n) (new (get_or cut.sets r 0))) (unequal (get_or cut.sets r 0) (get_or cut.sets n 0) (λ e. other (differ r n (omega (arith, l, below)) below e)))
            ∙ h.at_cut r j (omega (arith, l, other)) owned
      ];
      elsewhere = λ s apart.
          ap (λ x. cond x (found n) (new s)) (unequal s (get_or cut.sets n 0) (λ e. apart n i (omega arith) owner (sym e)))
          ∙ h.elsewhere s (λ r j l owned. apart r j (omega (arith, l)) owned);
    },
  )

  -- there is such behaviour
  changed : (n : ℕ) → n ≤ length cut.tree.sets → (new : Behaviour) × IsChangedBelow cut found b n new
  changed zero few = (b, record { at_cut = λ r i l. absurd (omega (arith, l)); elsewhere = λ s apart. refl })
  changed (suc n) few = changed-next n ((game_of_tree cut.tree).owner n) (omega (arith, few)) refl (changed n (omega (arith, few)))

-- ---- all cuts
module _ (method : Method) (t : GameTree) (law : SetsStandInOneCut) (laws : TreesAreGames) (w : IsGameTree t) where
  -- where none begins nothing is to be solved
  passed : (n : ℕ) (worth : ℕ → ℕ → ℚ) (b : Behaviour) → ¬ (IsSubgameRoot (game_of_tree t) n) → AreCutsSolvedFrom method t worth b (suc n) → AreCutsSolvedFrom method t worth b n
  passed n worth b none h m from below begins = elim (cases_eq m n) [
    | inl same ↦ absurd (none (subst (IsSubgameRoot (game_of_tree t)) same begins))
    | inr other ↦ h m (omega (arith, from, other)) below begins
  ]

  module _ (n : ℕ) (worth : ℕ → ℕ → ℚ) (b : Behaviour) (cut : MadeCut) (entries : List ℚ) (root : IsSubgameRoot (game_of_tree t) n) (h : AreCutsSolvedFrom method t worth b (suc n)) (is_cut : IsCutAt t n worth cut.nodes cut.sets cut.tree) (answer : cut_entries_in method n cut (Ok entries)) where
    found : (found : Behaviour) × (entries ≡ tree_entries (game_of_tree cut.tree) found)
    found = entries-found method n cut entries laws is_cut.is_cut.is_tree answer

    new_b : (new : Behaviour) × IsChangedBelow cut found.0 b (length cut.tree.sets) new
    new_b = changed cut found.0 b is_cut.is_cut.is_cut.sets_differ (length cut.tree.sets) (omega arith)

    abbrev pays : ℕ → ℚ
    pays = payoff (game_of_tree cut.tree) found.0

    abbrev new_worth : ℕ → ℕ → ℚ
    new_worth k i = cond (k == n) (pays i) (worth k i)

    changes : ChangesAtCut t n worth new_worth b new_b.0 cut found.0
    changes = record {
      trees = laws.game_tree;
      one_cut = law;
      is_tree = w;
      begins = root;
      is_cut = is_cut;
      as_before = λ k i l other. ap (λ x. cond x (pays i) (worth k i)) (unequal k n other);
      at_cut = λ r i a l owned m. sym (ap (λ p. p a) (new_b.1.at_cut r i l owned));
      elsewhere = new_b.1.elsewhere;
    }

    -- the cut at the node is worth what was found there
    here-paid : (i : ℕ) → new_worth n i ≡ payoff (game_of_tree cut.tree) found.0 i
    here-paid i = ap (λ x. cond x (pays i) (worth n i)) (eq-eqb n n refl)

    -- one cut more, by its entries
    solved-more : (new_worth : ℕ → ℕ → ℚ) × (new_b : Behaviour) × AreCutsSolvedFrom method t new_worth new_b n
    solved-more = (
      new_worth,
      new_b.0,
      λ m from below begins. elim (cases_eq m n) [
        | inl same ↦ subst (IsSolvedAt method t new_worth new_b.0) (sym same) (root-solved t n worth new_worth b new_b.0 cut found.0 changes method
            (subst (λ list. cut_entries_in method n cut (Ok list)) found.1 answer) (λ other i l. here-paid i))
        | inr other ↦ later-kept t n worth new_worth b new_b.0 cut found.0 changes method m (omega (arith, from, other)) begins (h m (omega (arith, from, other)) below begins)
      ],
    )

  module _ (none : (answer : Result (List ℚ) Refusal) → ¬ (perfect_in method t answer)) where
    -- where later cuts are solved, those from this node on can be
    one-more : (n : ℕ) (worth : ℕ → ℕ → ℚ) (b : Behaviour) → n < length t.nodes → AreCutsSolvedFrom method t worth b (suc n) → ¬ ¬ ((worth : ℕ → ℕ → ℚ) × (b : Behaviour) × AreCutsSolvedFrom method t worth b n)
    one-more n worth b below h rest = elim (root_or_not (game_of_tree t) (laws.game_tree t w) n below) [
      | inl root ↦ some-cut t n worth w (laws.game_tree t w) below (λ made. cut_entries_in-answered method n made.0 laws made.1.is_cut.is_tree (by made.0 made.1 root))
      | inr other ↦ rest (worth, b, passed n worth b other h)
    ]
      where
        by : (cut : MadeCut) → IsCutAt t n worth cut.nodes cut.sets cut.tree → IsSubgameRoot (game_of_tree t) n → (answer : Result (List ℚ) Refusal) → ¬ (cut_entries_in method n cut answer)
        by cut is_cut root (Ok entries) answer = rest (solved-more n worth b cut entries root h is_cut answer)
        by cut is_cut root (Err r) stops = none (Err r) (worth, b, n, below, root, h, record { cut = cut; is_cut = is_cut; stops = stops })

    -- so all can be
    from-last : (n : ℕ) (worth : ℕ → ℕ → ℚ) (b : Behaviour) → n ≤ length t.nodes → AreCutsSolvedFrom method t worth b n → ⊥
    from-last zero worth b few h = none (Ok (tree_entries (game_of_tree t) b)) (worth, b, h, refl)
    from-last (suc n) worth b few h = one-more n worth b (omega (arith, few)) h (λ next. from-last n next.0 next.1 (omega (arith, few)) next.2)

  -- a tree has entries, or there is the last cut that is not solved
  perfect_in-answered : IsAnswered (perfect_in method t)
  perfect_in-answered none = from-last none (length t.nodes) (λ _ _. zero_ℚ) (λ _ _. zero_ℚ) (omega arith) (λ m from below. absurd (omega (arith, from, below)))

  -- so it has a text, or a reason why it has none
  pub perfect_text-answered : IsAnswered (perfect_text method t)
  perfect_text-answered =
      bind-answered (two_players (Extensive t)) (λ _. refused_by recall_refusal (recall_of t) >> (perfect_in method t >>= λ entries. only (line_text entries))) (two_players-answered (Extensive t))
      (λ _ _. bind-answered (refused_by recall_refusal (recall_of t)) (λ _. perfect_in method t >>= λ entries. only (line_text entries)) (recall_told-answered t w)
      (λ _ _. bind-answered (perfect_in method t) (λ entries. only (line_text entries)) perfect_in-answered (λ entries _. only-answered (line_text entries))))
