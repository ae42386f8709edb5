-- Subtrees of nodes, one above another.
use Rattle.std.proofs.Common.{ℕ, zero, suc, ◌<◌, ◌≤◌, ◌≢◌, ◌⊎◌, inl, inr, refl, sym, subst, arith}
use Rattle.std.specs.Prelude.{◌↔◌}
use Rattle.game_theory.specs.Trees.{Tree, IsTree, IsAbove, IsWithin}
use Rattle.game_theory.proofs.PathLemmas.{along_paths}

module _ (t : Tree) (w : IsTree t) where
  -- no node of a subtree comes before its root
  pub within-after : (k c : ℕ) → c < t.size → IsWithin t k c → k ≤ c
  within-after k c below h = go h.0 c below h.1
    where
      go : (n c : ℕ) → c < t.size → IsAbove t n k c → k ≤ c
      go zero c below same = omega (arith, same)
      go (suc n) c below h = let before = w.after_parent c h.0 below in omega (arith, before, go n (t.parent c) (omega arith) h.1)

  -- another node of a subtree has its parent there
  pub within-parent : (k c : ℕ) → 0 < c → k ≢ c → IsWithin t k c ↔ IsWithin t k (t.parent c)
  within-parent k c later apart = (λ h. up h.0 h.1, λ h. (suc h.0, (later, h.1)))
    where
      up : (n : ℕ) → IsAbove t n k c → IsWithin t k (t.parent c)
      up zero same = absurd (apart same)
      up (suc n) h = (n, h.1)

  -- the subtree of the root has all nodes
  pub within-root : (k : ℕ) → k < t.size → IsWithin t 0 k
  within-root = along_paths t (IsWithin t 0) w (0, refl) (λ k later below up. (suc up.0, (later, up.1)))

-- a subtree has the subtrees of its nodes
pub within-trans : (t : Tree) (k c x : ℕ) → IsWithin t k c → IsWithin t c x → IsWithin t k x
within-trans t k c x h g = go g.0 x g.1
  where
    go : (n x : ℕ) → IsAbove t n c x → IsWithin t k x
    go zero x same = subst (IsWithin t k) same h
    go (suc n) x above = let rest = go n (t.parent x) above.1 in (suc rest.0, (above.0, rest.1))

-- of two nodes above one node one is above the other
pub above-ordered : (t : Tree) (a b n m k : ℕ) → IsAbove t a n k → IsAbove t b m k → IsWithin t n m ⊎ IsWithin t m n
above-ordered t zero b n m k same h = inr (subst (IsWithin t m) (sym same) (b, h))
above-ordered t (suc a) zero n m k h same = inl (subst (IsWithin t n) (sym same) (suc a, h))
above-ordered t (suc a) (suc b) n m k h g = above-ordered t a b n m (t.parent k) h.1 g.1
