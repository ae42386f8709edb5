-- What holds and what is made along the paths of a tree, and own histories from edge to edge.
use Rattle.std.proofs.Common.{ℕ, zero, suc, ◌<◌, ◌≤◌, ◌≡◌, [], ◌++◌, refl, ap, arith}
use Rattle.game_theory.specs.Trees.{Tree, IsTree}
use Rattle.game_theory.specs.Recall.{own_edge, with_edge_to, own_history}
use Rattle.game_theory.specs.Paths.{on_path_to, on_path}

-- what holds of each node that comes before a bound
below_bound : (t : Tree) (P : ℕ → Type 0) → IsTree t → P 0 → ((c : ℕ) → 0 < c → c < t.size → P (t.parent c) → P c) → (n k : ℕ) → k < n → k < t.size → P k
below_bound t P w root next zero k h l = absurd (omega arith)
below_bound t P w root next (suc n) zero h l = root
below_bound t P w root next (suc n) (suc k) h l =
    let after : t.parent (suc k) < suc k = w.after_parent (suc k) (omega arith) l in
    next (suc k) (omega arith) l (below_bound t P w root next n (t.parent (suc k)) (omega arith) (omega arith))

-- what holds of the root, and of each child of a node of which it holds, holds of each node
pub along_paths : (t : Tree) (P : ℕ → Type 0) → IsTree t → P 0 → ((c : ℕ) → 0 < c → c < t.size → P (t.parent c) → P c) → (k : ℕ) → k < t.size → P k
along_paths t P w root next k l = below_bound t P w root next (suc k) k (omega arith) l

-- nothing changes where more edges are read than there are
on_path_to-enough : {A : Type 0} (t : Tree) (root : A) (next : ℕ → A → A) → IsTree t → (m n k : ℕ) → k ≤ m → k ≤ n → k < t.size → on_path_to t root next m k ≡ on_path_to t root next n k
on_path_to-enough t root next w zero zero k g h l = refl
on_path_to-enough t root next w zero (suc n) zero g h l = refl
on_path_to-enough t root next w (suc m) zero zero g h l = refl
on_path_to-enough t root next w (suc m) (suc n) zero g h l = refl
on_path_to-enough t root next w zero n (suc k) g h l = absurd (omega arith)
on_path_to-enough t root next w (suc m) zero (suc k) g h l = absurd (omega arith)
on_path_to-enough t root next w (suc m) (suc n) (suc k) g h l =
    let after : t.parent (suc k) < suc k = w.after_parent (suc k) (omega arith) l in
    ap (next (suc k)) (on_path_to-enough t root next w m n (t.parent (suc k)) (omega arith) (omega arith) (omega arith))

-- what is made along the path to a node, from its parent's
pub on_path-step : {A : Type 0} (t : Tree) (root : A) (next : ℕ → A → A) (c : ℕ) → IsTree t → 0 < c → c < t.size → on_path t root next c ≡ next c (on_path t root next (t.parent c))
on_path-step t root next zero w p l = absurd (omega arith)
on_path-step t root next (suc k) w p l =
    let after : t.parent (suc k) < suc k = w.after_parent (suc k) p l in
    ap (next (suc k)) (on_path_to-enough t root next w k (t.parent (suc k)) (t.parent (suc k)) (omega arith) (omega arith) (omega arith))

-- the history of a node is its parent's, and then the edge to the node
pub own_history-step : (t : Tree) (i c : ℕ) → IsTree t → 0 < c → c < t.size → own_history t i c ≡ own_history t i (t.parent c) ++ own_edge t i (t.set (t.parent c)) (t.branch c)
own_history-step t i c = on_path-step t [] (with_edge_to t i) c
