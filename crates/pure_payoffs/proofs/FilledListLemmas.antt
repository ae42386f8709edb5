-- Lists of children while they are filled.
use Rattle.std.proofs.Common.{ℕ, ◌+◌, ◌<◌, ◌≤◌, ◌≡◌, ◌≢◌, Some, inl, inr, List, [], length, map, get_or, set, slice_get, refl, ◌⊎◌, sym, ap, ◌∙◌, arith}
use Rattle.std.proofs.lemmas.Bool.{cases_eq}
use Rattle.std.proofs.lemmas.List.{length-set, length-map, get_or-map, get_or-set_same, get_or-set_other, map-set}
use Rattle.std.proofs.lemmas.Option.{slice_get-get_or}
use Rattle.game_theory.specs.Children.{AreChildren}
use Rattle.game_theory.specs.Trees.{Tree, IsTree}
use Rattle.pure_payoffs.specs.ChildLists.{HaveAsMany, actions_at}
use Rattle.std.specs.Prelude.{slice_index, slice_index_or}

-- a list for each of the first n nodes, with as many members as the node's set has actions
pub record FirstHaveAsMany (t : Tree) (n : ℕ) (lists : List (List ℕ)) : Type 0 where
  pub one_for_each : length lists ≡ n
  pub as_many : (k : ℕ) → k < n → length (slice_index_or lists k []) ≡ actions_at t (t.set k)

-- the lists are as long as they will be, and those before node n stand in them
pub record AreFilled (t : Tree) (n : ℕ) (lists : List (List ℕ)) : Type 0 where
  pub has_as_many : HaveAsMany t lists
  pub filled : (c : ℕ) → 0 < c → c < n → c < t.size → slice_index (slice_index_or lists (t.parent c) []) (t.branch c) ≡ c

-- at last the lists have the children
pub filled-all : (t : Tree) (n : ℕ) (lists : List (List ℕ)) → IsTree t → t.size ≤ n → AreFilled t n lists → AreChildren t lists
filled-all t n lists w all h = record {
  one_for_each = h.has_as_many.one_for_each;
  are_children = λ k s a l e m. let c = w.some_child k s a l e m in (c.0, found k s a c.0 l e m c.1.0 c.1.1 c.1.2 c.1.3, c.1);
}
  where
    found : (k s a c : ℕ) → k < t.size → t.set k ≡ Some s → a < t.actions s → 0 < c → c < t.size → t.parent c ≡ k → t.branch c ≡ a → slice_get (get_or lists k []) a ≡ Some c
    found k s a c l e m p q parent branch =
        let room = h.has_as_many.as_many k l ∙ ap (actions_at t) e in
        let here = h.filled c p (omega arith) q in
        slice_get-get_or (get_or lists k []) a 0 (omega arith) ∙ ap Some (rw (parent, branch) at here)

module _ (t : Tree) (n : ℕ) (lists : List (List ℕ)) (w : IsTree t) (p : 0 < n) (l : n < t.size) (h : AreFilled t n lists) where
  -- the parent of a node has a list with room for the node
  pub parent-room : (t.parent n < length lists) × (t.branch n < length (get_or lists (t.parent n) []))
  parent-room =
      let led = w.led_to n p l in
      let after = w.after_parent n p l in
      let room = h.has_as_many.as_many (t.parent n) (omega arith) ∙ ap (actions_at t) led.1 in
      (omega (arith, h.has_as_many.one_for_each), omega (arith, led.2))

  -- the parent's list with the node
  abbrev with_node : List ℕ
  with_node = set (get_or lists (t.parent n) []) (t.branch n) n

  -- the lists with the node
  abbrev pub node_filled : List (List ℕ)
  node_filled = set lists (t.parent n) with_node

  -- the list of the parent is the one with the node
  at_parent : (k : ℕ) → k ≡ t.parent n → get_or node_filled k [] ≡ with_node
  at_parent k e = rw e (get_or-set_same lists (t.parent n) with_node [] parent-room.0)

  -- the lists stay as long
  keep-as_many : HaveAsMany t node_filled
  keep-as_many = record { one_for_each = length-set lists (t.parent n) with_node ∙ h.has_as_many.one_for_each; as_many = λ k m. kept k (cases_eq k (t.parent n)) ∙ h.has_as_many.as_many k m }
    where
      kept : (k : ℕ) → (k ≡ t.parent n) ⊎ (k ≢ t.parent n) → length (get_or node_filled k []) ≡ length (get_or lists k [])
      kept k (inl e) = ap length (at_parent k e) ∙ length-set (get_or lists (t.parent n) []) (t.branch n) n ∙ ap (λ x. length (get_or lists x [])) (sym e)
      kept k (inr e) = ap length (get_or-set_other lists (t.parent n) k with_node [] e)

  -- another node stands at another place
  apart : (c : ℕ) → 0 < c → c < n → t.parent c ≡ t.parent n → t.branch c ≢ t.branch n
  apart c q m e b = let same = w.one_child (t.parent n) (t.branch n) c n (q, omega arith, e, b) (p, l, refl, refl) in omega arith

  -- the nodes before it stay where they are
  kept-before : (c : ℕ) → 0 < c → c < n → get_or (get_or node_filled (t.parent c) []) (t.branch c) 0 ≡ c
  kept-before c q m = go (cases_eq (t.parent c) (t.parent n)) ∙ h.filled c q m (omega arith)
    where
      go : (t.parent c ≡ t.parent n) ⊎ (t.parent c ≢ t.parent n) → get_or (get_or node_filled (t.parent c) []) (t.branch c) 0 ≡ get_or (get_or lists (t.parent c) []) (t.branch c) 0
      go (inl e) =
          ap (λ x. get_or x (t.branch c) 0) (at_parent (t.parent c) e)
          ∙ get_or-set_other (get_or lists (t.parent n) []) (t.branch n) (t.branch c) n 0 (apart c q m e)
          ∙ ap (λ x. get_or (get_or lists x []) (t.branch c) 0) (sym e)
      go (inr e) = ap (λ x. get_or x (t.branch c) 0) (get_or-set_other lists (t.parent n) (t.parent c) with_node [] e)

  -- one more node stands in its parent's list
  filled-more : AreFilled t (n + 1) node_filled
  filled-more = record { has_as_many = keep-as_many; filled = λ c q m r. go c q m (cases_eq c n) }
    where
      go : (c : ℕ) → 0 < c → c < n + 1 → (c ≡ n) ⊎ (c ≢ n) → get_or (get_or node_filled (t.parent c) []) (t.branch c) 0 ≡ c
      go c q m (inl e) = rw e (ap (λ x. get_or x (t.branch n) 0) (at_parent (t.parent n) refl) ∙ get_or-set_same (get_or lists (t.parent n) []) (t.branch n) n 0 parent-room.1)
      go c q m (inr e) = kept-before c q (omega arith)

-- the list at a place, seen by its elements
pub list-read : {V W : Type 0} (f : V → List W) (lists : List V) (k : ℕ) (list : V) → k < length lists → list ≡ get_or lists k list → get_or (map f lists) k [] ≡ f list
list-read f lists k list below is = get_or-map f lists k list [] below ∙ ap f (sym is)

-- a node's parent has a list
pub parent-within : {V : Type 0} (f : V → List ℕ) (t : Tree) (n parent : ℕ) (lists : List V) → IsTree t → 0 < n → n < t.size → AreFilled t n (map f lists) → parent ≡ t.parent n → parent < length lists
parent-within f t n parent lists w p l h parent_is = let room = parent-room t n (map f lists) w p l h in omega (arith, room.0, length-map lists f)

module _ {V : Type 0} (f : V → List ℕ) (t : Tree) (n parent branch : ℕ) (lists : List V) (old : V) (w : IsTree t) (p : 0 < n) (l : n < t.size) (h : AreFilled t n (map f lists)) (parent_is : parent ≡ t.parent n) (branch_is : branch ≡ t.branch n) (old_is : old ≡ get_or lists parent old) where
  -- the parent's list, seen by its elements
  old-read : get_or (map f lists) (t.parent n) [] ≡ f old
  old-read = ap (λ x. get_or (map f lists) x []) (sym parent_is) ∙ list-read f lists parent old (parent-within f t n parent lists w p l h parent_is) old_is

  -- it has room for the node
  pub branch-within : branch < length (f old)
  branch-within = let room = parent-room t n (map f lists) w p l h in omega (arith, room.1, ap length old-read)

  -- one more node is written into it
  pub filled-written : (new : V) → f new ≡ set (f old) branch n → AreFilled t (n + 1) (map f (set lists parent new))
  filled-written new new_is =
      let new_list : f new ≡ set (get_or (map f lists) (t.parent n) []) (t.branch n) n = new_is ∙ ap (λ x. set x branch n) (sym old-read) ∙ ap (λ x. set (get_or (map f lists) (t.parent n) []) x n) branch_is in
      rw map-set (rw (new_list, parent_is) (filled-more t n (map f lists) w p l h))
