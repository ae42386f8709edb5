-- The lines of profiles stand in the order of their places.
use Rattle.std.proofs.Common.{ℕ, zero, suc, ◌+◌, ◌-◌, ◌<◌, ◌≤◌, ◌≡◌, inl, inr, List, [], ◌∷◌, ◌++◌, length, map, get_or, refl, sym, ap, ap₂, ◌∙◌, subst, subst₂, arith}
use Rattle.std.proofs.lemmas.Bool.{cases_eq}
use Rattle.std.proofs.lemmas.List.{length-map, map-append}
use Rattle.game_theory.specs.TreeEntries.{tree_entries}
use Rattle.game_theory.specs.OwnSets.{own_sets, player_sets}
use Rattle.game_theory.proofs.OwnSetLemmas.{IsAmong, AscendFrom, IsAmong-from, own_sets-tell, own_sets-ascend}
use Rattle.lists.specs.Orders.{ComesBefore}
use Rattle.game_theory.specs.Profiles.{IsProfile, strategies_at}
use Rattle.game_theory.specs.Lines.{StandsBefore}
use Rattle.game_theory.proofs.ProfileLineLemmas.{StandsBefore-entries}
use Rattle.game_theory.proofs.ProfileNumberLemmas.{length-profile, profile-below}
use Rattle.game_theory.specs.Trees.{Tree, IsTree}
use Rattle.game_theory.specs.Behaviour.{pure, IsWholeChoice}
use Rattle.reduced_strategies.specs.Choices.{choice_at}
use Rattle.reduced_strategies.specs.StrategicForm.{AreStrategies, list_of, completed}
use Rattle.reduced_strategies.proofs.SetLemmas.{choice_at-first, choice_at-later}
use Rattle.reduced_strategies.proofs.StrategyProfileLemmas.{given_at-own, list_of-reduced, strategies-count}
use Rattle.enumpure_trees.specs.Orders.{completed_list, completed_of, AreOrders}
use Rattle.enumpure_trees.specs.TreeEquilibria.{profile_line}
use Rattle.enumpure_trees.proofs.EquilibriumLineLemmas.{completed-actions}
use Rattle.enumpure_trees.proofs.OrderedProfileLemmas.{order-of, IsProfile-ordered, get_or-ordered}
use Rattle.game_theory.proofs.PlayerSetLemmas.{IsProfile-whole, sets_from, tree_entries-profile}

-- ---- the order of lists of actions
-- lists after equal ones
ComesBefore-following : (zs xs ys : List ℕ) → ComesBefore xs ys → ComesBefore (zs ++ xs) (zs ++ ys)
ComesBefore-following [] xs ys c = c
ComesBefore-following (z ∷ zs) xs ys c = inr (refl, ComesBefore-following zs xs ys c)

-- lists with more after them
ComesBefore-longer : (xs ys us vs : List ℕ) → ComesBefore xs ys → ComesBefore (xs ++ us) (ys ++ vs)
ComesBefore-longer [] ys us vs c = absurd c
ComesBefore-longer (x ∷ xs) [] us vs c = absurd c
ComesBefore-longer (x ∷ xs) (y ∷ ys) us vs (inl l) = inl l
ComesBefore-longer (x ∷ xs) (y ∷ ys) us vs (inr p) = inr (p.0, ComesBefore-longer xs ys us vs p.1)

-- the first place at which two profiles differ
record FirstDifference (one other : List ℕ) : Type 0 where
  pub place : ℕ
  pub is_place : place < length one
  pub before : get_or one place 0 < get_or other place 0
  pub same : (j : ℕ) → j < place → get_or one j 0 ≡ get_or other j 0

-- equal numbers in front
FirstDifference-cons : (x y : ℕ) (one other : List ℕ) → x ≡ y → FirstDifference one other → FirstDifference (x ∷ one) (y ∷ other)
FirstDifference-cons x y one other e d = record { place = suc d.place; is_place = omega (arith, d.is_place); before = d.before; same = same }
  where
    same : (j : ℕ) → j < suc d.place → get_or (x ∷ one) j 0 ≡ get_or (y ∷ other) j 0
    same zero l = e
    same (suc j) l = d.same j (omega arith)

-- a profile before another has the smaller number at the first place that differs
first_difference : (one other : List ℕ) → ComesBefore one other → FirstDifference one other
first_difference [] other c = absurd c
first_difference (x ∷ one) [] c = absurd c
first_difference (x ∷ one) (y ∷ other) (inl l) = record { place = 0; is_place = omega arith; before = l; same = λ j b. absurd (omega arith) }
first_difference (x ∷ one) (y ∷ other) (inr p) = FirstDifference-cons x y one other p.0 (first_difference one other p.1)

-- ---- the order of lines
-- actions that are the same at the players before k, and come before at player k
module _ (t : Tree) (f g : ℕ → ℕ) (k : ℕ) (same : (j : ℕ) → j < k → map f (own_sets t j) ≡ map g (own_sets t j)) (before : ComesBefore (map f (own_sets t k)) (map g (own_sets t k))) where
  -- come before at player k's sets and any after them
  first-before : (i : ℕ) (xs ys : List ℕ) → i ≡ k → ComesBefore (map f (own_sets t i) ++ xs) (map g (own_sets t i) ++ ys)
  first-before i xs ys e =
      ComesBefore-longer (map f (own_sets t i)) (map g (own_sets t i)) xs ys (subst (λ x. ComesBefore (map f (own_sets t x)) (map g (own_sets t x))) (sym e) before)

  -- and after the sets of an earlier player
  later-before : (i : ℕ) (xs ys : List ℕ) → i < k → ComesBefore xs ys → ComesBefore (map f (own_sets t i) ++ xs) (map g (own_sets t i) ++ ys)
  later-before i xs ys l c =
      subst (λ x. ComesBefore (map f (own_sets t i) ++ xs) (x ++ ys)) (same i l) (ComesBefore-following (map f (own_sets t i)) xs ys c)

  -- and at the sets of players in a row
  sets_from-before : (i n : ℕ) → i ≤ k → k < i + n → ComesBefore (map f (sets_from t i n)) (map g (sets_from t i n))
  sets_from-before i zero a b = absurd (omega arith)
  sets_from-before i (suc n) a b =
      subst₂ (λ x y. ComesBefore x y) (sym (map-append f (own_sets t i) (sets_from t (i + 1) n))) (sym (map-append g (own_sets t i) (sets_from t (i + 1) n))) (elim (cases_eq i k) [
        | inl e ↦ first-before i (map f (sets_from t (i + 1) n)) (map g (sets_from t (i + 1) n)) e
        | inr e ↦ later-before i (map f (sets_from t (i + 1) n)) (map g (sets_from t (i + 1) n)) (omega arith) (sets_from-before (i + 1) n (omega arith) (omega arith))
      ])

  -- and their line stands before
  entries-before : k < t.players → IsWholeChoice t f → IsWholeChoice t g → StandsBefore (tree_entries t (pure f)) (tree_entries t (pure g))
  entries-before l a b =
      subst₂ (λ x y. StandsBefore x y) (sym (tree_entries-profile t f)) (sym (tree_entries-profile t g)) (StandsBefore-entries (map t.actions (player_sets t)) (map f (player_sets t)) (map g (player_sets t)) (IsProfile-whole t f a) (IsProfile-whole t g b) (sets_from-before 0 t.players (omega arith) (omega arith)))

-- ---- completed lists
-- a list completed is that of the actions that it gives its sets
completed_list-actions : (n : ℕ) (sets choices : List ℕ) (action : ℕ → ℕ) → AscendFrom n sets → length choices ≡ length sets → ((s : ℕ) → IsAmong sets s → action s ≡ choice_at sets choices s - 1) → completed_list choices ≡ map action sets
completed_list-actions n [] [] action o e h = refl
completed_list-actions n [] (choice ∷ choices) action o e h = absurd (omega arith)
completed_list-actions n (set ∷ sets) [] action o e h = absurd (omega arith)
completed_list-actions n (set ∷ sets) (choice ∷ choices) action o e h =
    ap₂ (λ x xs. x ∷ xs) (sym (h set (inl refl) ∙ ap (λ c. c - 1) (choice_at-first set choice set sets choices refl))) (completed_list-actions (suc set) sets choices action o.1 (omega arith) later)
  where
    later : (s : ℕ) → IsAmong sets s → action s ≡ choice_at sets choices s - 1
    later s m = let above = IsAmong-from (suc set) sets s o.1 m in h s (inr m) ∙ ap (λ c. c - 1) (choice_at-later set choice s sets choices (λ e. omega arith))

-- a player's list in a profile, completed, has the profile's actions at the own sets
completed_list-of : (t : Tree) (strategies : List (List (List ℕ))) (profile : List ℕ) (i : ℕ) → AreStrategies t strategies → IsProfile (map length strategies) profile → i < t.players → completed_list (list_of strategies profile i) ≡ map (completed t strategies profile) (own_sets t i)
completed_list-of t strategies profile i a f l =
    completed_list-actions 0 (own_sets t i) (list_of strategies profile i) (completed t strategies profile) (own_sets-ascend t i) (list_of-reduced t strategies profile i a f l).one_for_each (λ s m. ap (λ c. c - 1) (given_at-own t strategies profile s i (own_sets-tell t i s m).1))

-- ---- the lines of ordered profiles
module _ (t : Tree) (strategies : List (List (List ℕ))) (orders : List (List ℕ)) (w : IsTree t) (a : AreStrategies t strategies) (h : AreOrders strategies orders) where
  -- the list at a place, completed, has the profile's actions
  completed_of-place : (places : List ℕ) (i : ℕ) → IsProfile (map length strategies) places → i < t.players → completed_of (get_or strategies i []) (get_or (get_or orders i []) (get_or places i 0) 0) ≡ map (completed t strategies (strategies_at orders places)) (own_sets t i)
  completed_of-place places i p l =
      ap (completed_of (get_or strategies i [])) (sym (get_or-ordered strategies orders places i h p (omega (arith, a.one_for_each)))) ∙ completed_list-of t strategies (strategies_at orders places) i a (IsProfile-ordered strategies orders places h p) l

  -- equal places have equal actions
  actions-same : (one other : List ℕ) (i : ℕ) → IsProfile (map length strategies) one → IsProfile (map length strategies) other → i < t.players → get_or one i 0 ≡ get_or other i 0 → map (completed t strategies (strategies_at orders one)) (own_sets t i) ≡ map (completed t strategies (strategies_at orders other)) (own_sets t i)
  actions-same one other i p q l e =
      sym (completed_of-place one i p l) ∙ ap (λ x. completed_of (get_or strategies i []) (get_or (get_or orders i []) x 0)) e ∙ completed_of-place other i q l

  -- the smaller place has the actions that come before
  actions-before : (one other : List ℕ) (i : ℕ) → IsProfile (map length strategies) one → IsProfile (map length strategies) other → i < t.players → get_or one i 0 < get_or other i 0 → ComesBefore (map (completed t strategies (strategies_at orders one)) (own_sets t i)) (map (completed t strategies (strategies_at orders other)) (own_sets t i))
  actions-before one other i p q l b =
      let order = order-of strategies orders i h (omega (arith, a.one_for_each)) in
      let below = profile-below (map length strategies) other i q (omega (arith, a.one_for_each, length-map strategies (length {A = List ℕ}))) in
      subst₂ (λ x y. ComesBefore x y) (completed_of-place one i p l) (completed_of-place other i q l) (order.ascending (get_or one i 0) (get_or other i 0) b (omega (arith, below, strategies-count strategies i, order.one_for_each)))

  -- the line of the places that come before stands before
  pub ordered-before : (one other : List ℕ) → IsProfile (map length strategies) one → IsProfile (map length strategies) other → ComesBefore one other → StandsBefore (profile_line t strategies (strategies_at orders one)) (profile_line t strategies (strategies_at orders other))
  ordered-before one other p q c =
      let d = first_difference one other c in
      let player : d.place < t.players = omega (arith, d.is_place, length-profile (map length strategies) one p, length-map strategies (length {A = List ℕ}), a.one_for_each) in
      let f = completed-actions t strategies (strategies_at orders one) w a (IsProfile-ordered strategies orders one h p) in
      let g = completed-actions t strategies (strategies_at orders other) w a (IsProfile-ordered strategies orders other h q) in
      entries-before t (completed t strategies (strategies_at orders one)) (completed t strategies (strategies_at orders other)) d.place (λ j l. actions-same one other j p q (omega arith) (d.same j l)) (actions-before one other d.place p q player d.before) player f g
