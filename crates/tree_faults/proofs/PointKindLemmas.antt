-- The point at which the reading of nodes stops has the kind that is named.
use Rattle.std.proofs.Common.{◌≡◌, ℕ, slice_get, List, [], ◌∷◌, ◌++◌, length, Option, Some, None, inl, inr, refl, sym, ap, ◌∙◌, subst, append_assoc}
use Rattle.std.specs.Prelude.{codes}
use Rattle.lists.proofs.ElementLemmas.{all_at}
use Rattle.game_core.specs.Tree.{GameTree, OpenBranch}
use Rattle.game_core.specs.declared.token.Token.{Token}
use Rattle.game_core.specs.declared.token.Token.TheVariants.{Text, Word}
use Rattle.written_trees.specs.Written.{SetUse, OutcomeUse}
use Rattle.written_trees.specs.Described.{key_of, set_uses, outcome_uses, uses_of_set, uses_of_outcome}
use Rattle.written_trees.specs.Building.{PartialTree, PartialSet, PartialOutcome, root_alone, add_nodes, set_place, outcome_place}
use Rattle.written_trees.proofs.UseStepLemmas.{partial_outcome}
use Rattle.written_trees.proofs.BuiltTreeLemmas.{from_uses}
use Rattle.tree_grammar.specs.TreeFile.{IsPartialFile}
use Rattle.tree_faults.specs.TreeFaults.{StopsAtSet, StopsAtOutcome}
use Rattle.tree_faults.specs.FaultKinds.{IsNodeKind}
use Rattle.tree_grammar.specs.declared.kinds.EfgKind.{EfgKind}
use Rattle.tree_grammar.specs.declared.kinds.EfgKind.TheVariants.{OutcomeMismatch}
use Rattle.tree_grammar.proofs.NodeValueLemmas.{Keeps}
use Rattle.tree_faults.proofs.ChanceListLemmas.{ChanceListStops, sum_stops}
use Rattle.tree_faults.proofs.PayoffListLemmas.{PayoffsStop}
use Rattle.tree_faults.proofs.NodeKindLemmas.{found_of, found_is, outcome_of, outcome_found}
use Rattle.tree_faults.proofs.NodePointLemmas.{UseStops, InnerStops, PlayerStops, OutcomeUseStops, AfterChoice, NextStops}

-- a kind that these tokens have after those before
abbrev pub KindBefore : List Token → EfgKind → List Token → Type 0
KindBefore tokens kind rest = (before : List Token) × (tokens ≡ before ++ rest) × IsNodeKind kind before rest

-- after a partial file
module _ (partial : List Token) (tree : GameTree) (free : List OpenBranch) (file : IsPartialFile partial tree free) (more : PartialTree) (added : add_nodes root_alone file.written ≡ Some more) (kept : Keeps (length tree.players) more) (after rest : List Token) (some : rest ≡ [] → ⊥) where
  -- the player's number
  player_kind_at : (kind : EfgKind) → PlayerStops after kind rest → KindBefore (partial ++ after) kind rest
  player_kind_at kind s =
      let front : List Token = Word (codes "p") ∷ Text s.0 ∷ [] in
      let all : partial ++ after ≡ (partial ++ front) ++ rest = ap (λ (q : List Token). partial ++ q) s.1 ∙ sym (append_assoc partial front rest) in
      (partial ++ front, all, subst (λ (k : EfgKind). IsNodeKind k (partial ++ front) rest) (sym s.3) ((partial, tree, free, s.0, file, refl), s.2))

  -- ---- a set
  module _ (kind : EfgKind) (s : InnerStops (length tree.players) more.sets after kind rest) where
    -- the tokens before a list's end
    set_tokens : (list : List Token) → s.after ≡ list ++ rest → partial ++ after ≡ (partial ++ s.front ++ list) ++ rest
    set_tokens list e =
        ap (λ (q : List Token). partial ++ q) (s.are ∙ ap (λ (q : List Token). s.front ++ q) e) ∙ sym (append_assoc partial s.front (list ++ rest)) ∙ sym (append_assoc (partial ++ s.front) list rest)

    -- the point
    at_set : (list : List Token) (earlier : List (ℕ × SetUse)) → earlier ≡ uses_of_set (key_of s.used) (set_uses file.written) → StopsAtSet (partial ++ s.front ++ list) s.used earlier list
    at_set list earlier e = record {
      partial = partial;
      tree = tree;
      free = free;
      is_partial = file;
      front = s.front;
      is_front = s.is_front;
      no_list = s.no_list;
      earlier_are = e;
      are_tokens = refl;
    }

    -- a first list of chance
    chance_kind_at : [] ≡ uses_of_set (key_of s.used) (set_uses file.written) → s.used.owner ≡ None → ChanceListStops s.used.label s.after kind rest → KindBefore (partial ++ after) kind rest
    chance_kind_at e owner (actions, list, are, inl p) = elim (sum_stops s.used.label _ p.1 kind p.3) [
      | inl k ↦ (partial ++ s.front ++ list, set_tokens list are, subst (λ (q : EfgKind). IsNodeKind q (partial ++ s.front ++ list) rest) (sym k.1) (actions, inl ((s.used, list, at_set list [] e, owner, refl, p.0), p.1, p.2, k.0, refl)))
      | inr k ↦ (partial ++ s.front ++ list, set_tokens list are, subst (λ (q : EfgKind). IsNodeKind q (partial ++ s.front ++ list) rest) (sym k.1) (actions, p.1, (s.used, list, at_set list [] e, owner, refl, p.0), p.2, k.0, refl))
    ]
    chance_kind_at e owner (actions, list, are, inr p) =
        (partial ++ s.front ++ list, set_tokens list are, subst (λ (q : EfgKind). IsNodeKind q (partial ++ s.front ++ list) rest) (sym p.3) (actions, inr ((s.used, list, at_set list [] e, owner, refl, p.0), p.1, p.2, refl)))

    -- by what was found
    found_kind_at : (earlier : List (ℕ × SetUse)) → earlier ≡ uses_of_set (key_of s.used) (set_uses file.written) → UseStops s.used (found_of s.used earlier) s.after kind rest → KindBefore (partial ++ after) kind rest
    found_kind_at [] e (inl l) = (partial ++ s.front ++ [], set_tokens [] l.1, subst (λ (q : EfgKind). IsNodeKind q (partial ++ s.front ++ []) rest) (sym l.0) (inl (s.used, at_set [] [] e, some)))
    found_kind_at [] e (inr c) = chance_kind_at e c.0 c.1
    found_kind_at (first ∷ later) e (is, (actions, list, are, differs)) =
        (partial ++ s.front ++ list, set_tokens list are, subst (λ (q : EfgKind). IsNodeKind q (partial ++ s.front ++ list) rest) (sym is) (inr (s.used, first, later, actions, list, at_set list (first ∷ later) e, differs)))

    set_kind_at : KindBefore (partial ++ after) kind rest
    set_kind_at =
        let uses = set_uses file.written in
        let from = from_uses file.written more added in
        let found : slice_get more.sets (set_place more.sets (key_of s.used)) ≡ found_of s.used (uses_of_set (key_of s.used) uses) = ap (λ (sets : List PartialSet). slice_get sets (set_place sets (key_of s.used))) from.sets_are ∙ found_is uses s.used (uses_of_set (key_of s.used) uses) refl in
        found_kind_at (uses_of_set (key_of s.used) uses) refl (subst (λ (o : Option PartialSet). UseStops s.used o s.after kind rest) found s.stops)

  -- ---- an outcome
  module _ (kind : EfgKind) (c : AfterChoice (length tree.players) more.outcomes after kind rest) where
    outcome_tokens : (list : List Token) → c.stops.after ≡ list ++ rest → partial ++ after ≡ (partial ++ c.choice ++ c.stops.front ++ list) ++ rest
    outcome_tokens list e =
        ap (λ (q : List Token). partial ++ q) (c.are ∙ ap (λ (q : List Token). c.choice ++ q) (c.stops.are ∙ ap (λ (q : List Token). c.stops.front ++ q) e))
        ∙ sym (append_assoc partial c.choice (c.stops.front ++ (list ++ rest))) ∙ sym (append_assoc (partial ++ c.choice) c.stops.front (list ++ rest)) ∙ sym (append_assoc (partial ++ c.choice ++ c.stops.front) list rest)

    at_outcome : (list : List Token) (earlier : List (ℕ × OutcomeUse)) → earlier ≡ uses_of_outcome c.stops.used.label (outcome_uses file.written) → StopsAtOutcome (partial ++ c.choice ++ c.stops.front ++ list) c.stops.used earlier list
    at_outcome list earlier e = record {
      partial = partial;
      tree = tree;
      free = free;
      is_partial = file;
      choice = c.choice;
      set = c.set;
      is_choice = c.is_choice;
      front = c.stops.front;
      is_front = c.stops.is_front;
      no_list = c.stops.no_list;
      earlier_are = e;
      are_tokens = refl;
    }

    -- a kind of payoffs
    as_mismatch : (before : List Token) → IsNodeKind OutcomeMismatch before rest → IsNodeKind kind before rest
    as_mismatch before h = subst (λ (q : EfgKind). IsNodeKind q before rest) (sym c.stops.is_kind) h

    -- a list that stops
    paid_kind_at : (earlier : List (ℕ × OutcomeUse)) → earlier ≡ uses_of_outcome c.stops.used.label (outcome_uses file.written) → PayoffsStop (length tree.players) c.stops.after rest → KindBefore (partial ++ after) kind rest
    unfolding at_outcome
    paid_kind_at earlier e p =
        (partial ++ c.choice ++ c.stops.front ++ p.list, outcome_tokens p.list p.are_tokens, as_mismatch (partial ++ c.choice ++ c.stops.front ++ p.list) (c.stops.used, inr (earlier, p.list, at_outcome p.list earlier e, p.has, p.comes)))

    outcome_found_at : (earlier : List (ℕ × OutcomeUse)) → earlier ≡ uses_of_outcome c.stops.used.label (outcome_uses file.written) → slice_get more.outcomes (outcome_place more.outcomes c.stops.used.label) ≡ outcome_of c.stops.used earlier → OutcomeUseStops (length tree.players) (outcome_of c.stops.used earlier) c.stops.after rest → KindBefore (partial ++ after) kind rest
    outcome_found_at [] e found (inl l) = (partial ++ c.choice ++ c.stops.front ++ [], outcome_tokens [] l, as_mismatch (partial ++ c.choice ++ c.stops.front ++ []) (c.stops.used, inl (at_outcome [] [] e, some)))
    outcome_found_at [] e found (inr p) = paid_kind_at [] e p
    outcome_found_at (first ∷ later) e found p =
        let outcome = partial_outcome c.stops.used.label (first ∷ later) in
        let paid : length outcome.payoffs ≡ length tree.players = all_at (λ (o : PartialOutcome). length o.payoffs ≡ length tree.players) more.outcomes (outcome_place more.outcomes c.stops.used.label) outcome kept.paid found in
        paid_kind_at (first ∷ later) e (subst (λ (n : ℕ). PayoffsStop n c.stops.after rest) paid p)

    outcome_kind_at : KindBefore (partial ++ after) kind rest
    outcome_kind_at =
        let uses = outcome_uses file.written in
        let own = uses_of_outcome c.stops.used.label uses in
        let from = from_uses file.written more added in
        let found : slice_get more.outcomes (outcome_place more.outcomes c.stops.used.label) ≡ outcome_of c.stops.used own = ap (λ (outcomes : List PartialOutcome). slice_get outcomes (outcome_place outcomes c.stops.used.label)) from.outcomes_are ∙ outcome_found uses c.stops.used own refl in
        outcome_found_at own refl found (subst (λ (o : Option PartialOutcome). OutcomeUseStops (length tree.players) o c.stops.after rest) found c.stops.stops)

  -- any point
  pub node_kind_at : (kind : EfgKind) → NextStops (length tree.players) more after kind rest → KindBefore (partial ++ after) kind rest
  node_kind_at kind (inl (inl p)) = player_kind_at kind p
  node_kind_at kind (inl (inr s)) = set_kind_at kind s
  node_kind_at kind (inr c) = outcome_kind_at kind c
