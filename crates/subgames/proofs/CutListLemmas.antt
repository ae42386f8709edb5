-- The nodes of all cuts, found one after another.
use Rattle.std.proofs.Common.{ℕ, zero, suc, ◌+◌, ◌<◌, ◌≤◌, ◌≡◌, ◌≢◌, ◌⊎◌, inl, inr, Option, Some, None, List, [], ◌∷◌, ◌++◌, length, get_or, set, replicate, take, sym, ap, ◌∙◌, subst, add-one, arith}
use Rattle.std.specs.Prelude.{All, Contains}
use Rattle.std.specs.List.Sorted.{IsStrictlyIncreasing}
use Rattle.std.proofs.Math.Seq.{take-length}
use Rattle.std.proofs.lemmas.Bool.{cases_eq, cases_lt}
use Rattle.std.proofs.lemmas.List.{get_or-replicate, get_or-set_other, get_or-set_same, get_or_append_left, get_or_push, length-replicate, length-set, length_push, take_more}
use Rattle.std.proofs.lemmas.List.Elements.{Contains-get_or}
use Rattle.lists.specs.Listed.{AreListed}
use Rattle.lists.proofs.ListedLemmas.{IsPassingBelow, listed-same, listed_below-push, listed_below-skip}
use Rattle.game_theory.specs.Trees.{Tree, IsTree}
use Rattle.game_core.specs.Tree.{GameTree}
use Rattle.game_core.specs.TreeGame.{game_of_tree}
use Rattle.subgames.specs.CutGames.{IsGivenEnd, IsInCut}
use Rattle.lists.specs.Listed.{IsIndexOf}
use Rattle.subgames.specs.CutParts.{AreHomesBefore, AreIndicesIn, GoesOnIn, IsAddedToCuts, with_node}
use Rattle.subgames.specs.FoundSubgames.{AreCutLists, AreSubgamesOf, FoundSubgames}
use Rattle.subgames.specs.Roots.{IsSubgameRoot}
use Rattle.game_theory.proofs.SubtreeOrderLemmas.{above-ordered}
use Rattle.subgames.proofs.CutMemberLemmas.{inner-once, inner-root}
use Rattle.subgames.proofs.CutSetLemmas.{indices-push}
use Rattle.subgames.proofs.CutWalkLemmas.{AreCutNodes, cut-after, cut-down, cut-up}

-- ---- where a node goes on
-- where no subgame begins, the node is not the first
pub later-node : (t : Tree) (k : ℕ) → (IsSubgameRoot t k → ⊥) → 0 < k
later-node t k other = elim (cases_eq k 0) [ inl first ↦ absurd (other (inl first)) | inr more ↦ omega (arith, more) ]

-- a node goes on in one cut
pub goes-once : (t : Tree) (n m k : ℕ) → GoesOnIn t n k → GoesOnIn t m k → n ≡ m
goes-once t n m k one two = elim (above-ordered t one.1.1.0 two.1.1.0 n m k one.1.1.1 two.1.1.1) [
  | inl from ↦ sym (inner-once t n m k two.0 (one.1, one.2) from two.1.1)
  | inr from ↦ inner-once t m n k one.0 (two.1, two.2) from one.1.1
]

module _ (t : Tree) (w : IsTree t) (k : ℕ) (below : k < t.size) where
  -- where a subgame begins, in the cut there
  pub goes-root : IsSubgameRoot t k → GoesOnIn t k k
  goes-root root = let inner = inner-root t w k below in (root, inner.0, inner.1)

  -- where none begins, in the cut of the parent
  pub goes-down : (n : ℕ) → (IsSubgameRoot t k → ⊥) → GoesOnIn t n (t.parent k) → GoesOnIn t n k
  goes-down n other up =
      let later = later-node t k other in
      let before = w.after_parent k later below in
      let after = cut-after t w n (t.parent k) up.1 in
      (up.0, cut-down t w n k below (omega (arith, before, after)) up.1 up.2, λ end. other end.0)

  -- it stands in that cut, and in one more where it is a given end
  pub stands-there : (n m : ℕ) → GoesOnIn t m k → IsSubgameRoot t n → IsInCut t n k → (n ≡ m) ⊎ ((0 < k) × IsSubgameRoot t k × GoesOnIn t n (t.parent k))
  stands-there n m goes root inside = elim (cases_eq n k) [
    | inl same ↦ inl (same ∙ goes-once t k m k (goes-root (subst (IsSubgameRoot t) same root)) goes)
    | inr apart ↦
        let later : n < k = omega (arith, apart, cut-after t w n k inside) in
        let up = cut-up t w n k below later inside in
        given later up.0 up.1
  ]
    where
      given : n < k → IsInCut t n (t.parent k) → (IsGivenEnd t n (t.parent k) → ⊥) → (n ≡ m) ⊎ ((0 < k) × IsSubgameRoot t k × GoesOnIn t n (t.parent k))
      given later up on = elim (cases_eq m k) [
        | inl own ↦ inr (omega (arith, later), subst (IsSubgameRoot t) own goes.0, (root, up, on))
        | inr other ↦ inl (goes-once t n m k (root, inside, λ end. other (sym (goes-once t k m k (goes-root end.0) goes))) goes)
      ]

-- one more node's home
pub homes-push : (t : Tree) (k home : ℕ) (homes : List ℕ) → GoesOnIn t home k → AreHomesBefore t k homes → AreHomesBefore t (k + 1) (homes ++ home ∷ [])
homes-push t k home homes goes h = record {
  one_for_each = length_push homes home ∙ ap (λ n. n + 1) h.one_for_each;
  are = λ c below. elim (cases_eq c k) [
    | inl same ↦ subst (λ n. GoesOnIn t n c) (sym (get_or_push homes home 0 c (h.one_for_each ∙ sym same))) (subst (GoesOnIn t home) (sym same) goes)
    | inr other ↦ let before : c < k = omega (arith, below, other) in
        subst (λ n. GoesOnIn t n c) (sym (get_or_append_left homes (home ∷ []) 0 c (omega (arith, before, h.one_for_each)))) (h.are c before)
  ];
}

-- ---- one more node
module _ (t : Tree) (w : IsTree t) (k : ℕ) (below : k < t.size) (cuts : List (List ℕ)) (many : length cuts ≡ t.size) (home : ℕ) (goes : GoesOnIn t home k) where
  -- node k stands in the cut at a node
  abbrev Stands : ℕ → Type 0
  Stands n = IsSubgameRoot t n × IsInCut t n k

  inside : home < length cuts
  inside = omega (arith, cut-after t w home k goes.1, below, many)

  here : get_or (with_node cuts home k) home [] ≡ get_or cuts home [] ++ k ∷ []
  here = get_or-set_same cuts home (get_or cuts home [] ++ k ∷ []) [] inside

  -- a node where no subgame begins below another stands in one cut
  pub cuts-one : (0 < k → IsSubgameRoot t k → ⊥) → IsAddedToCuts t k cuts (with_node cuts home k)
  cuts-one alone = record {
    one_for_each = length-set cuts home (get_or cuts home [] ++ k ∷ []);
    each = λ n few. elim (cases_eq n home) [
      | inl same ↦ inl (subst (λ n. (get_or (with_node cuts home k) n [] ≡ get_or cuts n [] ++ k ∷ []) × Stands n) (sym same) (here, (goes.0, goes.1)))
      | inr other ↦ inr (get_or-set_other cuts home n (get_or cuts home [] ++ k ∷ []) [] other, λ stands. elim (stands-there t w k below n home goes stands.0 stands.1) [ inl same ↦ other same | inr end ↦ alone end.0 end.1 ])
    ];
  }

  -- where a subgame begins below another, the node stands in the other's cut too
  pub cuts-two : (above : ℕ) → 0 < k → IsSubgameRoot t k → GoesOnIn t above (t.parent k) → IsAddedToCuts t k cuts (with_node (with_node cuts home k) above k)
  cuts-two above later root up = record { one_for_each = length-set (with_node cuts home k) above _ ∙ length-set cuts home (get_or cuts home [] ++ k ∷ []); each = each }
    where
      own : home ≡ k
      own = goes-once t home k k goes (goes-root t w k below root)

      early : above < k
      early = omega (arith, cut-after t w above (t.parent k) up.1, w.after_parent k later below)

      first : get_or (with_node cuts home k) above [] ≡ get_or cuts above []
      first = get_or-set_other cuts home above (get_or cuts home [] ++ k ∷ []) [] (λ e. absurd (omega (arith, e, own, early)))

      there : get_or (with_node (with_node cuts home k) above k) above [] ≡ get_or cuts above [] ++ k ∷ []
      there = get_or-set_same (with_node cuts home k) above (get_or (with_node cuts home k) above [] ++ k ∷ []) [] (omega (arith, early, below, many, length-set cuts home (get_or cuts home [] ++ k ∷ []))) ∙ ap (λ xs. xs ++ k ∷ []) first

      away : (n : ℕ) → n ≢ above → get_or (with_node (with_node cuts home k) above k) n [] ≡ get_or (with_node cuts home k) n []
      away n other = get_or-set_other (with_node cuts home k) above n (get_or (with_node cuts home k) above [] ++ k ∷ []) [] other

      stands_above : Stands above
      stands_above = (up.0, cut-down t w above k below early up.1 up.2)

      each : (n : ℕ) → n < t.size → ((get_or (with_node (with_node cuts home k) above k) n [] ≡ get_or cuts n [] ++ k ∷ []) × Stands n) ⊎ ((get_or (with_node (with_node cuts home k) above k) n [] ≡ get_or cuts n []) × ¬ Stands n)
      each n few = elim (cases_eq n above) [
        | inl same ↦ inl (subst (λ n. (get_or (with_node (with_node cuts home k) above k) n [] ≡ get_or cuts n [] ++ k ∷ []) × Stands n) (sym same) (there, stands_above))
        | inr other ↦ elim (cases_eq n home) [
          | inl same ↦ inl (away n other ∙ subst (λ n. get_or (with_node cuts home k) n [] ≡ get_or cuts n [] ++ k ∷ []) (sym same) here, subst Stands (sym same) (goes.0, goes.1))
          | inr apart ↦ inr (away n other ∙ get_or-set_other cuts home n (get_or cuts home [] ++ k ∷ []) [] apart, λ stands. elim (stands-there t w k below n home goes stands.0 stands.1) [ inl same ↦ apart same | inr end ↦ other (goes-once t n above (t.parent k) end.2 up) ])
        ]
      ]

-- ---- the lists of all nodes before one
-- for each node, where a subgame begins, the nodes before node k of the cut there, and none elsewhere
pub record ListCutsBefore (t : Tree) (k : ℕ) (cuts : List (List ℕ)) : Type 0 where
  pub one_for_each : length cuts ≡ t.size
  pub are_nodes : (n : ℕ) → n < t.size → AreListed (IsPassingBelow (λ c. IsSubgameRoot t n × IsInCut t n c) k) (get_or cuts n [])

-- one more node
pub cuts-next : (t : Tree) (k : ℕ) (old new : List (List ℕ)) → IsAddedToCuts t k old new → ListCutsBefore t k old → ListCutsBefore t (k + 1) new
cuts-next t k old new added h = record { one_for_each = added.one_for_each ∙ h.one_for_each; are_nodes = listed }
  where
    listed : (n : ℕ) → n < t.size → AreListed (IsPassingBelow (λ c. IsSubgameRoot t n × IsInCut t n c) (k + 1)) (get_or new n [])
    listed n below =
        let P : ℕ → Type 0 = λ c. IsSubgameRoot t n × IsInCut t n c in
        elim (added.each n below) [
          | inl in_list ↦ subst (AreListed (IsPassingBelow P (k + 1))) (sym in_list.0) (listed_below-push P k (get_or old n []) (h.are_nodes n below) in_list.1)
          | inr out ↦ subst (AreListed (IsPassingBelow P (k + 1))) (sym out.0) (listed_below-skip P k (get_or old n []) (h.are_nodes n below) out.1)
        ]

-- all nodes at last
pub cuts-all : (t : Tree) (cuts : List (List ℕ)) → ListCutsBefore t t.size cuts → AreCutLists t cuts
cuts-all t cuts h = record {
  one_for_each = h.one_for_each;
  are_nodes = λ n below.
      let P : ℕ → Type 0 = λ c. IsSubgameRoot t n × IsInCut t n c in
      listed-same (IsPassingBelow P t.size) P (get_or cuts n []) (h.are_nodes n below) (λ c passes. passes.1) (λ c stands. (stands.1.0, stands));
}

-- ---- indices
-- numbers below a bound have indices
pub some-indices : (numbers : List ℕ) (bound : ℕ) → All (λ k. k < bound) numbers → (indices : List (Option ℕ)) × AreIndicesIn numbers bound indices
some-indices numbers bound within = subst (λ xs. (indices : List (Option ℕ)) × AreIndicesIn xs bound indices) (take-length numbers) (go (length numbers) (omega arith))
  where
    go : (i : ℕ) → i ≤ length numbers → (indices : List (Option ℕ)) × AreIndicesIn (take i numbers) bound indices
    go zero few = (
      replicate bound None,
      record {
        one_for_each = length-replicate bound None;
        are = λ k below. subst (IsIndexOf [] k) (sym (get_or-replicate bound k None None below)) (λ j few. absurd (omega (arith, few)));
      },
    )
    go (suc i) few =
        let below : i < length numbers = omega (arith, few) in
        let before = go i (omega (arith, few)) in
        let k = get_or numbers i 0 in
        let longer : take i numbers ++ k ∷ [] ≡ take (suc i) numbers = sym (take_more numbers i 0 below) ∙ ap (λ n. take n numbers) (add-one i) in
        (set before.0 k (Some (length (take i numbers))), subst (λ xs. AreIndicesIn xs bound (set before.0 k (Some (length (take i numbers))))) longer (indices-push (take i numbers) bound k before.0 (within i 0 below) before.1))

-- an increasing list of numbers below a bound is no longer than that
pub few-below : (numbers : List ℕ) (bound : ℕ) → IsStrictlyIncreasing numbers → ((k : ℕ) → Contains numbers k → k < bound) → length numbers ≤ bound
few-below numbers bound rises within = elim (cases_lt bound (length numbers)) [
  | inl more ↦ absurd (omega (arith, at-least bound more, within (get_or numbers bound 0) (Contains-get_or numbers bound 0 more)))
  | inr few ↦ few
]
  where
    at-least : (j : ℕ) → j < length numbers → j ≤ get_or numbers j 0
    at-least zero below = omega arith
    at-least (suc j) below =
        let step : get_or numbers j 0 < get_or numbers (suc j) 0 = subst (λ i. get_or numbers j 0 < get_or numbers i 0) (add-one j) (rises j (omega (arith, below))) in
        omega (arith, step, at-least j (omega (arith, below)))

-- ---- the cut where a subgame begins
module _ (t : Tree) (n : ℕ) (cuts : List (List ℕ)) (h : AreCutLists t cuts) (below : n < t.size) where
  -- a list's nodes are nodes of the tree
  pub list-within : All (λ k. k < t.size) (get_or cuts n [])
  list-within j d inside = ((h.are_nodes n below).sound (get_or (get_or cuts n []) j d) (Contains-get_or (get_or cuts n []) j d inside)).1.0

  -- the list where a subgame begins has the nodes of the cut there
  pub list-cut : IsSubgameRoot t n → (indices : List (Option ℕ)) → AreIndicesIn (get_or cuts n []) t.size indices → AreCutNodes t n (get_or cuts n []) indices
  list-cut root indices are =
      let list = h.are_nodes n below in
      record {
        are_nodes = listed-same (λ c. IsSubgameRoot t n × IsInCut t n c) (IsInCut t n) (get_or cuts n []) list (λ k stands. stands.1) (λ k cut. (root, cut));
        no_more = few-below (get_or cuts n []) t.size list.ascending (λ k found. (list.sound k found).1.0);
        indices_are = are;
      }

-- so what was found has the nodes of each cut
pub found-nodes : (t : GameTree) (n : ℕ) (found : FoundSubgames) (nodes : List ℕ) → AreSubgamesOf t found → n < length t.nodes → IsSubgameRoot (game_of_tree t) n → nodes ≡ get_or found.cuts n []
    → (indices : List (Option ℕ)) × AreCutNodes (game_of_tree t) n nodes indices
found-nodes t n found nodes are below root is =
    let g = game_of_tree t in
    let indices = some-indices (get_or found.cuts n []) g.size (list-within g n found.cuts are.cuts below) in
    (indices.0, subst (λ nodes. AreCutNodes g n nodes indices.0) (sym is) (list-cut g n found.cuts are.cuts below root indices.0 indices.1))
