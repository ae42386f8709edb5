-- What is known of the cuts of a tree, as one after another is solved.
use Rattle.std.proofs.Common.{ℕ, ◌+◌, ◌*◌, ◌<◌, ◌≤◌, ◌≡◌, ◌≢◌, ◌⊎◌, inl, inr, Ok, Err, Result, Option, None, Some, List, [], ◌∷◌, ◌++◌, length, map, get_or, set, refl, sym, ap, ◌∙◌, subst, arith}
use Rattle.std.proofs.Math.Seq.{get_or-append_seam}
use Rattle.std.proofs.lemmas.Bool.{cases_eq, cases_lt}
use Rattle.std.proofs.lemmas.List.{get_or_append_left, get_or_default, get_or-map, get_or-set_same, get_or-set_other, length-append, length-set}
use Rattle.std.proofs.lemmas.List.Elements.{Contains-get_or}
use Rattle.std.proofs.lemmas.Option.{none-some}
use Rattle.std.specs.Result.{IsErrAnd}
use Rattle.answers.specs.Answers.{Gives, refused_by}
use Rattle.answers.proofs.AnswerLemmas.{gives_stop}
use Rattle.rational.specs.Rational.{ℚ, zero_ℚ}
use Rattle.rational.specs.Sum.{entry_at}
use Rattle.game_theory.specs.Behaviour.{Behaviour, payoff}
use Rattle.game_theory.specs.Lines.{listed}
use Rattle.game_theory.specs.TreeEntries.{tree_entries}
use Rattle.game_theory.specs.Trees.{IsTree}
use Rattle.game_theory.proofs.ProfileLineLemmas.{get_or-listed, length-listed}
use Rattle.game_core.specs.Tree.{GameTree, IsGameTree}
use Rattle.game_core.specs.TreeGame.{game_of_tree}
use Rattle.game_core.proofs.TreeLaws.{set-used}
use Rattle.subgames.specs.CutGames.{IsSameSet, cut_behaviour}
use Rattle.subgames.specs.CutLaws.{SetsStandInOneCut, StandsInCut}
use Rattle.subgames.specs.CutTrees.{AgreeAtEnds, IsCutAt}
use Rattle.subgames.specs.MadeCuts.{MadeCut}
use Rattle.subgames.specs.Roots.{IsSubgameRoot}
use Rattle.subgames.proofs.CutWalkLemmas.{cut-after}
use Rattle.subgames.proofs.CutWorthLemmas.{same_worth}
use Rattle.verdicts.proofs.AlikeBehaviourLemmas.{AreAlike, tree_entries-alike, value-alike}
use Rattle.refusals.specs.declared.refusal.Refusal.{Refusal}
use Rattle.refusals.specs.declared.refusal.Refusal.TheVariants as refusal
use Rattle.two_player_tools.specs.KnownCuts.{AreKeptTo, AreSolvedFrom, behaviour_in, lists_of, worth_in}
use Rattle.two_player_tools.specs.Perfect.{IsSolvedAt, IsStoppedAt, cut_entries_in, entries_by, in_subgame, entry_payoffs_fit, perfect_in, worth_refusal}
use Rattle.two_player_tools.specs.declared.forms.Method.{Method}
use Rattle.two_player_tools.specs.declared.perfect.Known.{Known}

-- ---- the sets of cuts
-- a set of a cut stands in it
set-stands : (t : GameTree) (n : ℕ) (worth : ℕ → ℕ → ℚ) (nodes sets : List ℕ) (cut : GameTree) → IsCutAt t n worth nodes sets cut → (r : ℕ) → r < length cut.sets → StandsInCut (game_of_tree t) n (get_or sets r 0)
set-stands t n worth nodes sets cut h r below =
    let g = h.is_cut.is_cut in
    let used = set-used cut h.is_cut.is_tree r below in
    let k = get_or nodes used.0 0 in
    let node = g.same_nodes used.0 used.1 in
    let own : ¬ (IsSubgameRoot (game_of_tree t) k × (k ≡ n → ⊥)) = λ given. none-some r (sym (node.given given).0 ∙ used.2) in
    (k, g.are_nodes.sound k (Contains-get_or nodes used.0 0 (omega (arith, used.1, g.size))), own, named ((game_of_tree t).set k) (subst (IsSameSet sets ((game_of_tree t).set k)) used.2 (node.own own).0))
  where
    named : (o : Option ℕ) → IsSameSet sets o (Some r) → o ≡ Some (get_or sets r 0)
    named None same = absurd same
    named (Some s) same = ap Some (sym same.1)

-- worth and behaviour change at a cut alone: at its root, and at its players' sets, where the new one is `found`
pub record ChangesAtCut (t : GameTree) (root : ℕ) (worth new_worth : ℕ → ℕ → ℚ) (b new_b : Behaviour) (made : MadeCut) (found : Behaviour) : Type 0 where
  pub trees : (c : GameTree) → IsGameTree c → IsTree (game_of_tree c)
  pub one_cut : SetsStandInOneCut
  pub is_tree : IsGameTree t
  pub begins : IsSubgameRoot (game_of_tree t) root
  pub is_cut : IsCutAt t root worth made.nodes made.sets made.tree
  pub as_before : (k i : ℕ) → i < length t.players → k ≢ root → new_worth k i ≡ worth k i
  pub at_cut : AreAlike (game_of_tree made.tree) found (cut_behaviour made.sets new_b)
  pub elsewhere : (s : ℕ) → ((r i : ℕ) → r < length made.tree.sets → (game_of_tree made.tree).owner r ≡ Some i → ¬ (get_or made.sets r 0 ≡ s)) → new_b s ≡ b s

module _ (t : GameTree) (root : ℕ) (worth new_worth : ℕ → ℕ → ℚ) (b new_b : Behaviour) (made : MadeCut) (found : Behaviour) (h : ChangesAtCut t root worth new_worth b new_b made found) where
  -- what later subgames are worth is as before
  agree : (n : ℕ) → root ≤ n → AgreeAtEnds t n worth new_worth
  agree n l k i m inside end =
      let after = cut-after (game_of_tree t) (h.trees t h.is_tree) n k inside in
      sym (h.as_before k i m (λ same. end.1 (omega (arith, after, l, same))))

  module _ (n : ℕ) (later : root < n) (begins : IsSubgameRoot (game_of_tree t) n) (cut : MadeCut) (is_cut : IsCutAt t n worth cut.nodes cut.sets cut.tree) where
    -- at the sets of a later cut the behaviour is as before
    later-alike : AreAlike (game_of_tree cut.tree) (cut_behaviour cut.sets b) (cut_behaviour cut.sets new_b)
    later-alike r i a l owned m =
        let s = get_or cut.sets r 0 in
        let is_owned : (game_of_tree t).owner s ≡ Some i = sym (is_cut.is_cut.is_cut.owners r l) ∙ owned in
        let stands = set-stands t n worth cut.nodes cut.sets cut.tree is_cut r l in
        let apart : (q j : ℕ) → q < length made.tree.sets → (game_of_tree made.tree).owner q ≡ Some j → ¬ (get_or made.sets q 0 ≡ s) = λ q j p o same.
        (let first : StandsInCut (game_of_tree t) root s = subst (StandsInCut (game_of_tree t) root) same (set-stands t root worth made.nodes made.sets made.tree h.is_cut q p) in
        let one : root ≡ n = h.one_cut.one (game_of_tree t) root n s i (h.trees t h.is_tree) h.begins begins is_owned first stands in
        omega (arith, one, later)) in
        sym (ap (λ p. p a) (h.elsewhere s apart))

  -- later cuts stay solved
  pub later-kept : (method : Method) (n : ℕ) → root < n → IsSubgameRoot (game_of_tree t) n → IsSolvedAt method t worth b n → IsSolvedAt method t new_worth new_b n
  later-kept method n later begins old =
      let cut = old.cut in
      let w = h.trees cut.tree old.is_cut.is_cut.is_tree in
      let alike = later-alike n later begins cut old.is_cut in
      record {
        cut = cut;
        is_cut = same_worth t n worth new_worth cut.nodes cut.sets cut.tree (agree n (omega (arith, later))) old.is_cut;
        solved = subst (λ entries. cut_entries_in method n cut (Ok entries)) (tree_entries-alike (game_of_tree cut.tree) (cut_behaviour cut.sets b) (cut_behaviour cut.sets new_b) w alike) old.solved;
        worth_is = λ other i l. h.as_before n i l (λ same. omega (arith, same, later)) ∙ old.worth_is other i l ∙ value-alike (game_of_tree cut.tree) (cut_behaviour cut.sets b) (cut_behaviour cut.sets new_b) w alike i 0 w.some_node;
      }

  -- the cut is solved
  pub root-solved : (method : Method) → cut_entries_in method root made (Ok (tree_entries (game_of_tree made.tree) found)) → (root ≢ 0 → (i : ℕ) → i < length t.players → new_worth root i ≡ payoff (game_of_tree made.tree) found i) → IsSolvedAt method t new_worth new_b root
  root-solved method solved pays =
      let w = h.trees made.tree h.is_cut.is_cut.is_tree in
      record {
        cut = made;
        is_cut = same_worth t root worth new_worth made.nodes made.sets made.tree (agree root (omega arith)) h.is_cut;
        solved = subst (λ entries. cut_entries_in method root made (Ok entries)) (tree_entries-alike (game_of_tree made.tree) found (cut_behaviour made.sets new_b) w h.at_cut) solved;
        worth_is = λ other i l. pays other i l ∙ value-alike (game_of_tree made.tree) found (cut_behaviour made.sets new_b) w h.at_cut i 0 w.some_node;
      }

-- ---- the probabilities that are kept
-- before the first set all is as it was
pub kept-none : (cut : MadeCut) (found : Behaviour) (old : List (List ℚ)) → AreKeptTo cut 0 found old old
kept-none cut found old = record {
  as_many = refl;
  as_long = λ s. refl;
  kept = λ r i a l owned m. absurd (omega (arith, l));
  others = λ s apart. refl;
}

-- a set of chance is passed over
pub kept-passed : (cut : MadeCut) (n : ℕ) (found : Behaviour) (old new : List (List ℚ)) → (game_of_tree cut.tree).owner n ≡ None → AreKeptTo cut n found old new → AreKeptTo cut (n + 1) found old new
kept-passed cut n found old new chance h = record {
  as_many = h.as_many;
  as_long = h.as_long;
  kept = λ r i a l owned m. elim (cases_eq r n) [
    | inl same ↦ absurd (none-some i (sym chance ∙ subst (λ r. (game_of_tree cut.tree).owner r ≡ Some i) same owned))
    | inr other ↦ h.kept r i a (omega (arith, l, other)) owned m
  ];
  others = λ s apart. h.others s (λ r i l owned. apart r i (omega (arith, l)) owned);
}

-- the sets of a cut are all different
abbrev pub SetsDiffer : MadeCut → Type 0
SetsDiffer cut = (r q : ℕ) → r < length cut.sets → q < length cut.sets → get_or cut.sets r 0 ≡ get_or cut.sets q 0 → r ≡ q

-- the probabilities at a player's set are kept
pub kept-next : (cut : MadeCut) (n i : ℕ) (found : Behaviour) (old now new : List (List ℚ)) (number : ℕ) (list : List ℚ) → SetsDiffer cut → n < length cut.sets → (game_of_tree cut.tree).owner n ≡ Some i → number ≡ get_or cut.sets n 0 → number < length now → list ≡ listed ((game_of_tree cut.tree).actions n) (found n) → length list ≡ length (get_or now number []) → new ≡ set now number list → AreKeptTo cut n found old now → AreKeptTo cut (n + 1) found old new
kept-next cut n i found old now new number list differ below owner is_number within is_list long made h = record {
  as_many = ap length made ∙ length-set now number list ∙ h.as_many;
  as_long = λ s. elim (cases_eq s number) [
    | inl same ↦ ap length (here s same) ∙ long ∙ ap (λ k. length (get_or now k [])) (sym same) ∙ h.as_long s
    | inr other ↦ ap length (there s other) ∙ h.as_long s
  ];
  kept = λ r j a l owned m. elim (cases_eq r n) [
    | inl same ↦ ap (λ xs. entry_at xs a) (here (get_or cut.sets r 0) (ap (λ r. get_or cut.sets r 0) same ∙ sym is_number) ∙ is_list) ∙ get_or-listed ((game_of_tree cut.tree).actions n) (found n) a zero_ℚ (subst (λ r. a < (game_of_tree cut.tree).actions r) same m) ∙ ap (λ r. found r a) (sym same)
    | inr other ↦ ap (λ xs. entry_at xs a) (there (get_or cut.sets r 0) (λ e. other (differ r n (omega (arith, l, below)) below (e ∙ is_number)))) ∙ h.kept r j a (omega (arith, l, other)) owned m
  ];
  others = λ s apart. there s (λ e. apart n i (omega arith) owner (sym is_number ∙ sym e)) ∙ h.others s (λ r j l owned. apart r j (omega (arith, l)) owned);
}
  where
    here : (s : ℕ) → s ≡ number → get_or new s [] ≡ list
    here s same = ap (λ xs. get_or xs s []) made ∙ ap (λ k. get_or (set now number list) k []) same ∙ get_or-set_same now number list [] within

    there : (s : ℕ) → s ≢ number → get_or new s [] ≡ get_or now s []
    there s other = ap (λ xs. get_or xs s []) made ∙ get_or-set_other now number s list [] other

-- ---- what nodes are worth
-- another node's numbers stand apart from those of a node, which has two or none
row-apart : (root m k i : ℕ) → (m ≡ 0) ⊎ (m ≡ 2) → i < 2 → k ≢ root → (k * 2 + i < root * m) ⊎ (root * m + m ≤ k * 2 + i)
row-apart root m k i (inl none) l apart = inr (subst (λ m. root * m + m ≤ k * 2 + i) (sym none) (omega arith))
row-apart root m k i (inr both) l apart = elim (cases_lt k root) [
  | inl before ↦ inl (subst (λ m. k * 2 + i < root * m) (sym both) (omega (arith, before, l)))
  | inr after ↦ inr (subst (λ m. root * m + m ≤ k * 2 + i) (sym both) (omega (arith, after, apart)))
]

-- a node's numbers are kept, and all others are as before
pub record IsRowKept (root : ℕ) (payoffs old new : List ℚ) : Type 0 where
  pub as_many : length new ≡ length old
  pub kept : (i : ℕ) → i < length payoffs → entry_at new (root * length payoffs + i) ≡ entry_at payoffs i
  pub others : (k : ℕ) → (k < root * length payoffs) ⊎ (root * length payoffs + length payoffs ≤ k) → entry_at new k ≡ entry_at old k

-- ---- room
-- lists with one more, which is as long as it is to be
pub lists-pushed : {V X : Type 0} (f : V → List X) (lists : List V) (v : V) (n : ℕ) (longs : ℕ → ℕ) → length lists ≡ n → ((s : ℕ) → s < n → length (get_or (map f lists) s []) ≡ longs s) → length (f v) ≡ longs n → (s : ℕ) → s < n + 1 → length (get_or (map f (lists ++ v ∷ [])) s []) ≡ longs s
lists-pushed f lists v n longs count each last s below =
    let long : length (lists ++ v ∷ []) ≡ length lists + 1 = length-append lists (v ∷ []) in
    let inside : s < length (lists ++ v ∷ []) = omega (arith, below, count, long) in
    ap length (get_or-map f (lists ++ v ∷ []) s v [] inside) ∙ elim (cases_lt s n) [
      | inl early ↦ let here : s < length lists = omega (arith, early, count) in ap (λ x. length (f x)) (get_or_append_left lists (v ∷ []) v s here) ∙ sym (ap length (get_or-map f lists s v [] here)) ∙ each s early
      | inr late ↦ let same : s ≡ n = omega (arith, below, late) in ap (λ k. length (f (get_or (lists ++ v ∷ []) k v))) (same ∙ sym count) ∙ ap (λ x. length (f x)) (get_or-append_seam lists v [] v) ∙ last ∙ ap longs (sym same)
    ]

-- ---- one cut more
module _ (method : Method) (t : GameTree) (root : ℕ) (known new : Known) (made : MadeCut) (found : Behaviour) (payoffs : List ℚ)
    (trees : (c : GameTree) → IsGameTree c → IsTree (game_of_tree c)) (one_cut : SetsStandInOneCut) (is_tree : IsGameTree t) (two : length t.players ≡ 2)
    (begins : IsSubgameRoot (game_of_tree t) root) (is_cut : IsCutAt t root (worth_in t known) made.nodes made.sets made.tree)
    (none : root ≡ 0 → length payoffs ≡ 0) (paid : root ≢ 0 → payoffs ≡ listed (length made.tree.players) (payoff (game_of_tree made.tree) found))
    (lists : AreKeptTo made (length made.tree.sets) found (lists_of known) (lists_of new)) (row : IsRowKept root payoffs known.worth.items new.worth.items)
  where
    all-paid : root ≢ 0 → length payoffs ≡ length t.players
    all-paid other = ap length (paid other) ∙ length-listed (length made.tree.players) (payoff (game_of_tree made.tree) found) ∙ is_cut.is_cut.is_cut.players

    count : (length payoffs ≡ 0) ⊎ (length payoffs ≡ 2)
    count = elim (cases_eq root 0) [ inl first ↦ inl (none first) | inr other ↦ inr (all-paid other ∙ two) ]

    as-before : (k i : ℕ) → i < length t.players → k ≢ root → worth_in t new k i ≡ worth_in t known k i
    as-before k i l apart =
        row.others (k * length t.players + i) (subst (λ p. (k * p + i < root * length payoffs) ⊎ (root * length payoffs + length payoffs ≤ k * p + i)) (sym two)
        (row-apart root (length payoffs) k i count (omega (arith, l, two)) apart))

    here-paid : root ≢ 0 → (i : ℕ) → i < length t.players → worth_in t new root i ≡ payoff (game_of_tree made.tree) found i
    here-paid other i l =
        let players = all-paid other in
        ap (λ p. entry_at new.worth.items (root * p + i)) (sym players) ∙ row.kept i (omega (arith, l, players)) ∙ ap (λ xs. entry_at xs i) (paid other)
        ∙ get_or-listed (length made.tree.players) (payoff (game_of_tree made.tree) found) i zero_ℚ (omega (arith, l, is_cut.is_cut.is_cut.players))

    changes : ChangesAtCut t root (worth_in t known) (worth_in t new) (behaviour_in known) (behaviour_in new) made found
    changes = record {
      trees = trees;
      one_cut = one_cut;
      is_tree = is_tree;
      begins = begins;
      is_cut = is_cut;
      as_before = as-before;
      at_cut = λ r i a l owned m. sym (lists.kept r i a l owned m);
      elsewhere = λ s apart. ap entry_at (lists.others s apart);
    }

    -- where later cuts are solved, this one and they are
    pub solved-next : cut_entries_in method root made (Ok (tree_entries (game_of_tree made.tree) found)) → AreSolvedFrom method t (root + 1) known → AreSolvedFrom method t root new
    solved-next solved later = record {
      room = record {
        worth = row.as_many ∙ later.room.worth;
        lists = record {
          one_for_each = lists.as_many ∙ later.room.lists.one_for_each;
          as_long = λ s l. lists.as_long s ∙ later.room.lists.as_long s l;
        };
      };
      solved = λ m from below root_here. elim (cases_eq m root) [
        | inl same ↦ subst (IsSolvedAt method t (worth_in t new) (behaviour_in new)) (sym same) (root-solved t root (worth_in t known) (worth_in t new) (behaviour_in known) (behaviour_in new) made found changes method solved here-paid)
        | inr other ↦ later-kept t root (worth_in t known) (worth_in t new) (behaviour_in known) (behaviour_in new) made found changes method m (omega (arith, from, other)) root_here (later.solved m (omega (arith, from, other)) below root_here)
      ];
    }

-- where no subgame begins nothing is to be solved
pub solved-passed : (method : Method) (t : GameTree) (n : ℕ) (known : Known) → ¬ IsSubgameRoot (game_of_tree t) n → AreSolvedFrom method t (n + 1) known → AreSolvedFrom method t n known
solved-passed method t n known none h = record {
  room = h.room;
  solved = λ m from below begins. elim (cases_eq m n) [
    | inl same ↦ absurd (none (subst (IsSubgameRoot (game_of_tree t)) same begins))
    | inr other ↦ h.solved m (omega (arith, from, other)) below begins
  ];
}

-- ---- answers
-- where a cut is not solved, it is told why
pub perfect-stop : (method : Method) (t : GameTree) (root : ℕ) (known : Known) (r : Refusal) (answer : Result (List ℚ) Refusal) → root < length t.nodes → IsSubgameRoot (game_of_tree t) root → AreSolvedFrom method t (root + 1) known → (r ≡ refusal.Memory) ⊎ IsStoppedAt method t (worth_in t known) root r → IsErrAnd answer (λ q. q ≡ r) → Gives refusal.Memory (perfect_in method t) answer
perfect-stop method t root known r answer below begins later why e =
    gives_stop refusal.Memory (perfect_in method t) r answer (elim why [
      | inl memory ↦ inl memory
      | inr stops ↦ inr (worth_in t known, behaviour_in known, root, below, begins, (λ m after within here. later.solved m (omega (arith, after)) within here), stops)
    ]) e

-- where all cuts are solved, so is the tree
pub perfect-all : (method : Method) (t : GameTree) (known : Known) (entries : List ℚ) → AreSolvedFrom method t 0 known → entries ≡ tree_entries (game_of_tree t) (behaviour_in known) → perfect_in method t (Ok entries)
perfect-all method t known entries h e = (worth_in t known, behaviour_in known, h.solved, e)

-- where a cut has no behaviour, its refusal is told of the tree
pub cut-unsolved : (method : Method) (n : ℕ) (cut : MadeCut) (r : Refusal) → Gives refusal.Memory (entries_by method cut.tree) (Err r) → Gives refusal.Memory (cut_entries_in method n cut) (Err (in_subgame n cut.nodes r))
cut-unsolved method n cut r (inl memory) = inl (ap (in_subgame n cut.nodes) memory)
cut-unsolved method n cut r (inr h) = inr (inl (r, h, refl))

-- where it is not computed what a cut is worth, that is told
pub cut-unpaid : (method : Method) (n : ℕ) (cut : MadeCut) (entries : List ℚ) (r : Refusal) → entries_by method cut.tree (Ok entries) → n ≢ 0 → Gives refusal.Memory (refused_by (worth_refusal n) (entry_payoffs_fit cut.tree entries)) (Err r) → Gives refusal.Memory (cut_entries_in method n cut) (Err r)
cut-unpaid method n cut entries r h other (inl memory) = inl memory
cut-unpaid method n cut entries r h other (inr g) = inr (inr (entries, h, inl (inr (other, g))))

-- a cut is solved
pub cut-done : (method : Method) (n : ℕ) (cut : MadeCut) (entries : List ℚ) → entries_by method cut.tree (Ok entries) → (n ≡ 0) ⊎ ((n ≢ 0) × entry_payoffs_fit cut.tree entries (Ok tt)) → cut_entries_in method n cut (Ok entries)
cut-done method n cut entries h (inl root) = (entries, h, (tt, inl (root, refl), refl))
cut-done method n cut entries h (inr later) = (entries, h, (tt, inr (later.0, later.1), refl))

-- why the cut at a node is not solved
pub cut-stop : (method : Method) (t : GameTree) (root : ℕ) (worth : ℕ → ℕ → ℚ) (made : MadeCut) (r : Refusal) → IsCutAt t root worth made.nodes made.sets made.tree → Gives refusal.Memory (cut_entries_in method root made) (Err r) → (r ≡ refusal.Memory) ⊎ IsStoppedAt method t worth root r
cut-stop method t root worth made r is_cut (inl memory) = inl memory
cut-stop method t root worth made r is_cut (inr h) = inr (record { cut = made; is_cut = is_cut; stops = h })

-- the sets of a cut are sets of the tree
pub sets-within : (t : GameTree) (n : ℕ) (worth : ℕ → ℕ → ℚ) (nodes sets : List ℕ) (cut : GameTree) → IsCutAt t n worth nodes sets cut → (k d : ℕ) → k < length sets → get_or sets k d < length t.sets
sets-within t n worth nodes sets cut h k d below =
    let g = h.is_cut.is_cut in
    omega (arith, get_or_default sets k d 0 below, g.sets_within k (omega (arith, below, g.as_many_sets)))
