-- The lists of the players' decisions, one node after another.
use Rattle.std.proofs.Common.{ℕ, zero, suc, ◌+◌, ◌<◌, ◌≤◌, ◌≡◌, inl, inr, Option, Some, None, List, [], ◌∷◌, ◌++◌, length, map, get_or, slice_get, set, All, ◌⊎◌, refl, sym, ap, subst, ◌∙◌, arith, option_map}
use Rattle.std.specs.Prelude.{IfSome, slice_index, slice_index_or}
use Rattle.std.proofs.lemmas.Bool.{cases_lt, cases_eq}
use Rattle.std.proofs.lemmas.List.{length-map, length-set, length_push, get_or-set_same, get_or-set_other, get_or_append_left, get_or_push}
use Rattle.std.proofs.lemmas.List.Elements.{All-map}
use Rattle.std.proofs.lemmas.Option.{none-some, same_Some, slice_get_within, slice_get-get_or, slice_get-map, slice_get_read, get_or_from_slice_get}
use Rattle.game_theory.specs.OwnSets.{own_sets, own_counts, Chooses, NobodyChooses}
use Rattle.lists.proofs.ElementLemmas.{element, slice_get-longer, slice_get-push_cases}
use Rattle.game_theory.specs.Trees.{Tree, IsTree}
use Rattle.game_theory.specs.Recall.{own_history}
use Rattle.strategy_lists.specs.declared.decision.Decision.{Decision}
use Rattle.strategy_lists.specs.declared.decision.Edge.{Edge}
use Rattle.strategy_lists.specs.Reduced.{AreLinked, ComesFrom}
use Rattle.strategy_lists.specs.Decisions.{history_by, IsDecisionAt, AreDecisions, AreDecisionsOfAll}
use Rattle.strategy_lists.specs.Made.{mover, IsEdgeTo, LeadsTo, IsMadeAt, HasTaken}
use Rattle.strategy_lists.proofs.MoveLemmas.{move_at, mover-move, mover-within}
use Rattle.strategy_lists.proofs.ReducedListLemmas.{own_set-place, own_set-tell}

-- the decisions of player i at the nodes below n, their numbers by node, and by set the number of one of them, where there is one
pub record AreMade (t : Tree) (n i : ℕ) (numbers : List ℕ) (latest : List (Option ℕ)) (decisions : List Decision) : Type 0 where
  pub nodes : List ℕ
  pub one_for_each : length nodes ≡ length decisions
  pub are_decisions : (j k : ℕ) (decision : Decision) → slice_get decisions j ≡ Some decision → slice_get nodes j ≡ Some k → IsDecisionAt t i nodes decision k
  pub all : (k : ℕ) → k < n → mover t k ≡ Some i → (decision : Decision) × (slice_get decisions (slice_index numbers k) ≡ Some decision) × IsDecisionAt t i nodes decision k
  pub come_from : (j : ℕ) (decision : Decision) → slice_get decisions j ≡ Some decision → ComesFrom decisions j decision.before
  pub latest_within : (s j : ℕ) → t.owner s ≡ Some i → slice_index_or latest s None ≡ Some j → j < length decisions

-- the decisions of each player at the nodes below n
pub record AreMadeByAll (t : Tree) (n : ℕ) (numbers : List ℕ) (latest : List (Option ℕ)) (lists : List (List Decision)) : Type 0 where
  pub list_for_each : length lists ≡ t.players
  pub number_for_each : length numbers ≡ n
  pub latest_for_each : length latest ≡ t.sets
  pub few : (i : ℕ) (decisions : List Decision) → slice_get lists i ≡ Some decisions → length decisions ≤ n
  pub are_made : (i : ℕ) (decisions : List Decision) → slice_get lists i ≡ Some decisions → AreMade t n i numbers latest decisions

-- the list at a place
pub list-at : {V X : Type 0} (items : V → List X) (lists : List V) (k : ℕ) (v : V) → k < length lists → v ≡ get_or lists k v → slice_get (map items lists) k ≡ Some (items v)
list-at items lists k v below is = slice_get-map items lists k ∙ ap (option_map items) (slice_get_read lists (length lists) k v refl below is)

-- the list at a place after a list is replaced: the new one there, and elsewhere the list that was there before
set-cases : {V X : Type 0} (items : V → List X) (lists : List V) (k i : ℕ) (new : V) (x : List X) → slice_get (map items (set lists k new)) i ≡ Some x → ((i ≡ k) × (x ≡ items new)) ⊎ ((i ≡ k → ⊥) × (slice_get (map items lists) i ≡ Some x))
set-cases items [] k i new x h = absurd (none-some x h)
set-cases items (v ∷ lists) zero zero new x h = inl (refl, sym (same_Some (items new) x h))
set-cases items (v ∷ lists) zero (suc i) new x h = inr (λ e. omega arith, h)
set-cases items (v ∷ lists) (suc k) zero new x h = inr (λ e. omega arith, h)
set-cases items (v ∷ lists) (suc k) (suc i) new x h =
    elim (set-cases items lists k i new x h) [ inl here ↦ inl (ap suc here.0, here.1) | inr other ↦ inr (λ e. other.0 (omega arith), other.1) ]

-- ---- the decision at a node
module _ (t : Tree) (n i : ℕ) (numbers : List ℕ) (latest : List (Option ℕ)) (decisions : List Decision) (h : AreMade t n i numbers latest decisions) where
  -- the decision of an earlier node, and a node that stands for it and has the same own history
  record HasEarlier (a : ℕ) : Type 0 where
    decision : Decision
    stands_at : slice_get decisions (get_or numbers a 0) ≡ Some decision
    is_at_node : IsDecisionAt t i h.nodes decision a
    history_is : own_history t i a ≡ own_history t i (get_or h.nodes (get_or numbers a 0) 0)

  -- each earlier node at which the player moves has them
  earlier_at : (a : ℕ) → a < n → mover t a ≡ Some i → HasEarlier a
  earlier_at a before own =
      let found = h.all a before own in
      let within = slice_get_within decisions (get_or numbers a 0) found.0 found.1 in
      let node = element h.nodes (get_or numbers a 0) (omega (arith, h.one_for_each)) in
      let stands = h.are_decisions (get_or numbers a 0) node.0 found.0 found.1 node.1 in
      let same : get_or h.nodes (get_or numbers a 0) 0 ≡ node.0 = get_or_from_slice_get h.nodes (get_or numbers a 0) node.0 0 node.1 in
      record {
        decision = found.0;
        stands_at = found.1;
        is_at_node = found.2;
        history_is = found.2.history_is ∙ sym stands.history_is ∙ ap (own_history t i) (sym same);
      }

  -- the decision of the last node above node n at which the player moves
  earlier-edge : (edge : Edge) → (s : IsEdgeTo t i numbers n edge) → HasEarlier s.node
  earlier-edge edge s = earlier_at s.node s.last.above (mover-move t i s.node s.set s.last.is_move)

  -- the history by the edge before a decision
  history-by : (before : Option Edge) → LeadsTo t i numbers n before → own_history t i n ≡ history_by t i h.nodes before
  history-by None led = led
  history-by (Some edge) led =
      let found = earlier-edge edge led in
      let set : get_or (own_sets t i) edge.place 0 ≡ led.set = get_or_from_slice_get (own_sets t i) edge.place led.set 0 led.place_is in
      led.last.history_is ∙ rw (found.history_is, led.number_is, set) refl

  -- the edge before a decision comes from an earlier one
  comes-from : (before : Option Edge) → LeadsTo t i numbers n before → ComesFrom decisions (length decisions) before
  comes-from None led = tt
  comes-from (Some edge) led =
      let found = earlier-edge edge led in
      let stands_at : slice_get decisions edge.decision ≡ Some found.decision = ap (slice_get decisions) led.number_is ∙ found.stands_at in
      let set : found.is_at_node.set ≡ led.set = same_Some _ _ (sym found.is_at_node.at_set ∙ led.last.is_move.at_set) in
      (slice_get_within decisions edge.decision found.decision stands_at, found.decision, stands_at, own_set-place t i led.set edge.place found.decision.place led.place_is (found.is_at_node.place_is ∙ ap Some set))

  -- what is made at node n is the decision there
  made-decision : (last : Decision) → n < t.size → IsMadeAt t i numbers n last → IsDecisionAt t i h.nodes last n
  made-decision last below made = record {
    within = below;
    set = made.set;
    at_set = made.is_move.at_set;
    own = made.is_move.own;
    place_is = made.place_is;
    history_is = history-by last.before made.led_to;
  }

-- ---- one more decision
-- an earlier one comes from the same as before
ComesFrom-push : (decisions : List Decision) (last : Decision) (j : ℕ) (before : Option Edge) → ComesFrom decisions j before → ComesFrom (decisions ++ last ∷ []) j before
ComesFrom-push decisions last j None comes = tt
ComesFrom-push decisions last j (Some edge) comes = (comes.0, comes.1, slice_get-longer decisions (last ∷ []) edge.decision comes.1 comes.2, comes.3)

-- the history by an edge from a decision stays
history_by-push : (t : Tree) (i : ℕ) (nodes : List ℕ) (node : ℕ) (decisions : List Decision) (j : ℕ) (before : Option Edge) → ComesFrom decisions j before → length nodes ≡ length decisions → history_by t i (nodes ++ node ∷ []) before ≡ history_by t i nodes before
history_by-push t i nodes node decisions j None comes long = refl
history_by-push t i nodes node decisions j (Some edge) comes long =
    let within = slice_get_within decisions edge.decision comes.1 comes.2 in
    rw (get_or_append_left nodes (node ∷ []) 0 edge.decision (omega arith)) refl

-- a decision stays that of its node
IsDecisionAt-push : (t : Tree) (i : ℕ) (nodes : List ℕ) (node : ℕ) (decisions : List Decision) (j k : ℕ) (d : Decision) → ComesFrom decisions j d.before → length nodes ≡ length decisions → IsDecisionAt t i nodes d k → IsDecisionAt t i (nodes ++ node ∷ []) d k
IsDecisionAt-push t i nodes node decisions j k d comes long h = record {
  within = h.within;
  set = h.set;
  at_set = h.at_set;
  own = h.own;
  place_is = h.place_is;
  history_is = h.history_is ∙ sym (history_by-push t i nodes node decisions j d.before comes long);
}

-- the decision at node n comes after the others
AreMade-more : (t : Tree) (n i : ℕ) (numbers : List ℕ) (latest : List (Option ℕ)) (decisions : List Decision) (last : Decision) → n < t.size → IsMadeAt t i numbers n last → AreMade t n i numbers latest decisions → AreMade t n i numbers latest (decisions ++ last ∷ [])
AreMade-more t n i numbers latest decisions last below made h = record {
  nodes = h.nodes ++ n ∷ [];
  one_for_each = length_push h.nodes n ∙ ap (λ m. m + 1) h.one_for_each ∙ sym (length_push decisions last);
  are_decisions = λ j k d at_d at_k. both j k d (slice_get-push_cases decisions last j d at_d) (slice_get-push_cases h.nodes n j k at_k);
  all = λ k before own. let found = h.all k before own in (found.0, slice_get-longer decisions (last ∷ []) (get_or numbers k 0) found.0 found.1, stays (get_or numbers k 0) k found.0 found.1 found.2);
  come_from = λ j d at_d. elim (slice_get-push_cases decisions last j d at_d) [
    | inl early ↦ ComesFrom-push decisions last j d.before (h.come_from j d early)
    | inr end ↦ subst (λ x. ComesFrom (decisions ++ last ∷ []) x d.before) (sym end.0) (subst (λ x. ComesFrom (decisions ++ last ∷ []) (length decisions) x.before) (sym end.1) (ComesFrom-push decisions last (length decisions) last.before last_comes))
  ];
  latest_within = λ s j own at. let within = h.latest_within s j own at in omega (arith, length_push decisions last);
}
  where
    last_comes : ComesFrom decisions (length decisions) last.before
    last_comes = comes-from t n i numbers latest decisions h last.before made.led_to

    stays : (j k : ℕ) (d : Decision) → slice_get decisions j ≡ Some d → IsDecisionAt t i h.nodes d k → IsDecisionAt t i (h.nodes ++ n ∷ []) d k
    stays j k d at_d is = IsDecisionAt-push t i h.nodes n decisions j k d (h.come_from j d at_d) h.one_for_each is

    at_end : IsDecisionAt t i (h.nodes ++ n ∷ []) last n
    at_end = IsDecisionAt-push t i h.nodes n decisions (length decisions) n last last_comes h.one_for_each (made-decision t n i numbers latest decisions h last below made)

    both : (j k : ℕ) (d : Decision) → (slice_get decisions j ≡ Some d) ⊎ ((j ≡ length decisions) × (d ≡ last)) → (slice_get h.nodes j ≡ Some k) ⊎ ((j ≡ length h.nodes) × (k ≡ n)) → IsDecisionAt t i (h.nodes ++ n ∷ []) d k
    both j k d (inl early) (inl node) = stays j k d early (h.are_decisions j k d early node)
    both j k d (inl early) (inr node) = let within = slice_get_within decisions j d early in absurd (omega (arith, h.one_for_each, node.0))
    both j k d (inr end) (inl node) = let within = slice_get_within h.nodes j k node in absurd (omega (arith, h.one_for_each, end.0))
    both j k d (inr end) (inr node) = subst (λ x. IsDecisionAt t i (h.nodes ++ n ∷ []) d x) (sym node.1) (subst (λ x. IsDecisionAt t i (h.nodes ++ n ∷ []) x n) (sym end.1) at_end)

-- ---- one more node
-- the numbers of the decisions at the nodes below n, and one more
module _ (numbers : List ℕ) (number n : ℕ) (long : length numbers ≡ n) where
  -- the number of an earlier node's decision stays
  number-early : (k : ℕ) → k < n → get_or (numbers ++ number ∷ []) k 0 ≡ get_or numbers k 0
  number-early k before = get_or_append_left numbers (number ∷ []) 0 k (omega arith)

  -- the last number is that of node n
  number-last : (k : ℕ) → k ≡ n → get_or (numbers ++ number ∷ []) k 0 ≡ number
  number-last k same = get_or_push numbers number 0 k (long ∙ sym same)

-- a node at which the player does not move adds nothing
AreMade-other : (t : Tree) (n i : ℕ) (numbers : List ℕ) (number : ℕ) (latest later : List (Option ℕ)) (decisions : List Decision) → length numbers ≡ n → (mover t n ≡ Some i → ⊥) → ((s : ℕ) → t.owner s ≡ Some i → get_or later s None ≡ get_or latest s None) → AreMade t n i numbers latest decisions → AreMade t (suc n) i (numbers ++ number ∷ []) later decisions
AreMade-other t n i numbers number latest later decisions long other kept h = record {
  nodes = h.nodes;
  one_for_each = h.one_for_each;
  are_decisions = h.are_decisions;
  all = λ k before own. elim (cases_lt k n) [
    | inl early ↦ let found = h.all k early own in (found.0, ap (slice_get decisions) (number-early numbers number n long k early) ∙ found.1, found.2)
    | inr last ↦ (let same : k ≡ n = omega arith in absurd (other (ap (mover t) (sym same) ∙ own)))
  ];
  come_from = h.come_from;
  latest_within = λ s j own at. h.latest_within s j own (sym (kept s own) ∙ at);
}

-- a node at which the player moves has its decision's number, and so has its set
AreMade-own : (t : Tree) (n i : ℕ) (numbers : List ℕ) (number s : ℕ) (latest : List (Option ℕ)) (decisions : List Decision) (d : Decision) → length numbers ≡ n → s < length latest → n < t.size → IsMadeAt t i numbers n d → slice_get decisions number ≡ Some d → AreMade t n i numbers latest decisions → AreMade t (suc n) i (numbers ++ number ∷ []) (set latest s (Some number)) decisions
AreMade-own t n i numbers number s latest decisions d long inside below made at_d h = record {
  nodes = h.nodes;
  one_for_each = h.one_for_each;
  are_decisions = h.are_decisions;
  all = λ k before own. elim (cases_lt k n) [
    | inl early ↦ let found = h.all k early own in (found.0, ap (slice_get decisions) (number-early numbers number n long k early) ∙ found.1, found.2)
    | inr last ↦ (
        let same : k ≡ n = omega arith in
        (d, ap (slice_get decisions) (number-last numbers number n long k same) ∙ at_d, subst (IsDecisionAt t i h.nodes d) (sym same) (made-decision t n i numbers latest decisions h d below made)))
  ];
  come_from = h.come_from;
  latest_within = latest_within;
}
  where
    latest_within : (r j : ℕ) → t.owner r ≡ Some i → get_or (set latest s (Some number)) r None ≡ Some j → j < length decisions
    latest_within r j own at = elim (cases_eq r s) [
      | inl same ↦ (
          let is : number ≡ j = same_Some number j (sym (get_or-set_same latest s (Some number) None inside) ∙ ap (λ x. get_or (set latest s (Some number)) x None) (sym same) ∙ at) in
          let within = slice_get_within decisions number d at_d in
          omega arith)
      | inr other ↦ h.latest_within r j own (sym (get_or-set_other latest s r (Some number) None other) ∙ at)
    ]

-- ---- all players
-- a fact of the number that an option holds, where each number that it may hold has it
pub if_some : {X : Type 0} (P : X → Type 0) (o : Option X) → ((x : X) → o ≡ Some x → P x) → IfSome o P
if_some P None h = tt
if_some P (Some x) h = h x refl

-- no node, no decision
pub AreMadeByAll-none : (t : Tree) (latest : List (Option ℕ)) (lists : List (List Decision)) → length lists ≡ t.players → length latest ≡ t.sets → ((s : ℕ) → get_or latest s None ≡ None) → All (λ list. list ≡ []) lists → AreMadeByAll t 0 [] latest lists
AreMadeByAll-none t latest lists players sets nothing none = record {
  list_for_each = players;
  number_for_each = refl;
  latest_for_each = sets;
  few = λ i decisions at_i. let empty = is_empty i decisions at_i in omega (arith, ap length empty);
  are_made = λ i decisions at_i.
      let empty = is_empty i decisions at_i in
      record {
        nodes = [];
        one_for_each = ap length (sym empty);
        are_decisions = λ j k d at_d at_k. absurd (none-some k at_k);
        all = λ k below own. absurd (omega arith);
        come_from = λ j d at_d. absurd (none-some d (ap (λ xs. slice_get xs j) (sym empty) ∙ at_d));
        latest_within = λ s j own at. absurd (none-some j (sym (nothing s) ∙ at));
      };
}
  where
    is_empty : (i : ℕ) (decisions : List Decision) → slice_get lists i ≡ Some decisions → decisions ≡ []
    is_empty i decisions at_i = sym (get_or_from_slice_get lists i decisions [] at_i) ∙ none i [] (slice_get_within lists i decisions at_i)

-- a node at which nobody moves
pub AreMadeByAll-nobody : (t : Tree) (n : ℕ) (numbers : List ℕ) (number : ℕ) (latest : List (Option ℕ)) (lists : List (List Decision)) → NobodyChooses t n → AreMadeByAll t n numbers latest lists → AreMadeByAll t (suc n) (numbers ++ number ∷ []) latest lists
AreMadeByAll-nobody t n numbers number latest lists nobody h = record {
  list_for_each = h.list_for_each;
  number_for_each = length_push numbers number ∙ omega (arith, h.number_for_each);
  latest_for_each = h.latest_for_each;
  few = λ i decisions at_i. let few = h.few i decisions at_i in omega arith;
  are_made = λ i decisions at_i. AreMade-other t n i numbers number latest latest decisions h.number_for_each (λ own. let move = move_at t i n own in nobody i move.0 move.1) (λ s own. refl) (h.are_made i decisions at_i);
}

-- a node at which a player moves, whose list takes the decision
module _ {V : Type 0} (items : V → List Decision) (t : Tree) (n player s : ℕ) (numbers : List ℕ) (latest : List (Option ℕ)) (lists : List V) (valid : IsTree t) (h : AreMadeByAll t n numbers latest (map items lists)) (below : n < t.size) (move : Chooses t n player s) where
  -- the player has a list
  pub player-inside : player < length lists
  player-inside =
      let within = mover-within t player n valid below (mover-move t player n s move) in
      omega (arith, h.list_for_each, length-map lists items)

  -- the set has its place among the latest
  pub set-inside : s < length latest
  set-inside = let within = valid.sets_within n s below move.at_set in omega (arith, h.latest_for_each)

  -- the player's list
  before-at : (old : V) → old ≡ get_or lists player old → slice_get (map items lists) player ≡ Some (items old)
  before-at old is = list-at items lists player old player-inside is

  -- it has no more decisions than there are nodes before this one
  pub before-few : (old : V) → old ≡ get_or lists player old → length (items old) ≤ n
  before-few old is = h.few player (items old) (before-at old is)

  -- the set's latest decision is one of the list's
  pub latest-within : (old : V) → old ≡ get_or lists player old → (last : Option ℕ) → last ≡ get_or latest s last → IfSome last (λ j. j < length (items old))
  latest-within old is last last_is =
      let same = slice_get_read latest (length latest) s last refl set-inside last_is in
      if_some (λ j. j < length (items old)) last (λ j at. (h.are_made player (items old) (before-at old is)).latest_within s j move.own (get_or_from_slice_get latest s last None same ∙ at))

  -- the next lists
  pub AreMadeByAll-player : (old new : V) (d : Decision) (number : ℕ) → old ≡ get_or lists player old → IsMadeAt t player numbers n d → HasTaken (items old) (items new) d number → AreMadeByAll t (suc n) (numbers ++ number ∷ []) (set latest s (Some number)) (map items (set lists player new))
  AreMadeByAll-player old new d number is made taken = record {
    list_for_each = length-map (set lists player new) items ∙ length-set lists player new ∙ sym (length-map lists items) ∙ h.list_for_each;
    number_for_each = length_push numbers number ∙ omega (arith, h.number_for_each);
    latest_for_each = length-set latest s (Some number) ∙ h.latest_for_each;
    few = λ i decisions at_i. elim (set-cases items lists player i new decisions at_i) [
      | inl here ↦ omega (arith, ap length here.1, new-few taken.1)
      | inr other ↦ let few = h.few i decisions other.1 in omega arith
    ];
    are_made = λ i decisions at_i. elim (set-cases items lists player i new decisions at_i) [
      | inl here ↦ subst (λ x. AreMade t (suc n) x (numbers ++ number ∷ []) (set latest s (Some number)) decisions) (sym here.0) (subst (AreMade t (suc n) player (numbers ++ number ∷ []) (set latest s (Some number))) (sym here.1) (new-made taken.1))
      | inr other ↦ AreMade-other t n i numbers number latest (set latest s (Some number)) decisions h.number_for_each (λ mine. other.0 (same_Some i player (sym mine ∙ mover-move t player n s move))) (elsewhere i other.0) (h.are_made i decisions other.1)
    ];
  }
    where
      new-few : (items new ≡ items old) ⊎ (items new ≡ items old ++ d ∷ []) → length (items new) ≤ suc n
      new-few (inl same) = omega (arith, ap length same, before-few old is)
      new-few (inr more) = omega (arith, ap length more, length_push (items old) d, before-few old is)

      -- with the decision, whether or not it was there
      with-it : (items new ≡ items old) ⊎ (items new ≡ items old ++ d ∷ []) → AreMade t n player numbers latest (items new)
      with-it (inl same) = subst (AreMade t n player numbers latest) (sym same) (h.are_made player (items old) (before-at old is))
      with-it (inr more) = subst (AreMade t n player numbers latest) (sym more) (AreMade-more t n player numbers latest (items old) d below made (h.are_made player (items old) (before-at old is)))

      new-made : (items new ≡ items old) ⊎ (items new ≡ items old ++ d ∷ []) → AreMade t (suc n) player (numbers ++ number ∷ []) (set latest s (Some number)) (items new)
      new-made which = AreMade-own t n player numbers number s latest (items new) d h.number_for_each set-inside below made taken.0 (with-it which)

      -- another player's sets have what they had
      elsewhere : (i : ℕ) → (i ≡ player → ⊥) → (r : ℕ) → t.owner r ≡ Some i → get_or (set latest s (Some number)) r None ≡ get_or latest r None
      elsewhere i other r own = get_or-set_other latest s r (Some number) None (λ same. other (same_Some i player (sym own ∙ ap t.owner same ∙ move.own)))

-- ---- all nodes
-- they are the player's decisions
AreDecisions-made : (t : Tree) (i : ℕ) (numbers : List ℕ) (latest : List (Option ℕ)) (decisions : List Decision) → IsTree t → AreMade t t.size i numbers latest decisions → AreDecisions t i decisions
AreDecisions-made t i numbers latest decisions valid h = record {
  nodes = h.nodes;
  one_for_each = h.one_for_each;
  are_decisions = h.are_decisions;
  all = λ k s below at_set own.
      let found = h.all k below (mover-move t i k s (record { at_set = at_set; own = own })) in
      record { number = get_or numbers k 0; decision = found.0; stands_at = found.1; is_at_node = found.2 };
  linked = linked;
}
  where
    linked : AreLinked decisions (own_counts t i)
    linked = record {
      some_action = All-map (λ n. 0 < n) t.actions (own_sets t i) (λ place d inside. valid.some_action _ (own_set-tell t i place _ (slice_get-get_or (own_sets t i) place d inside)).0);
      places_within = λ j d inside.
          let at_d = slice_get-get_or decisions j d inside in
          let node = element h.nodes j (omega (arith, h.one_for_each)) in
          let is = h.are_decisions j node.0 _ at_d node.1 in
          rw length-map (slice_get_within (own_sets t i) _ is.set is.place_is);
      come_from = h.come_from;
    }

-- the decisions of all players
pub AreDecisionsOfAll-made : (t : Tree) (numbers : List ℕ) (latest : List (Option ℕ)) (lists : List (List Decision)) → IsTree t → AreMadeByAll t t.size numbers latest lists → AreDecisionsOfAll t lists
AreDecisionsOfAll-made t numbers latest lists valid h = record {
  one_for_each = h.list_for_each;
  are_decisions = λ i decisions at_i. AreDecisions-made t i numbers latest decisions valid (h.are_made i decisions at_i);
}
