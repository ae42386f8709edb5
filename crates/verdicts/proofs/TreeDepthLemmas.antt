-- Steps that are told by depth: with enough depth they are told by the steps of later nodes.
use Rattle.std.proofs.Common.{ℕ, zero, suc, ◌+◌, ◌<◌, ◌≤◌, ◌≡◌, List, sym, ◌∙◌, arith}
use Rattle.frac128.specs.Steps.{Step}

module _ (n : ℕ) (told : (ℕ → List Step) → ℕ → List Step) (to : ℕ → ℕ → List Step) (deeper : (d k : ℕ) → to (suc d) k ≡ told (to d) k) (same : (f g : ℕ → List Step) (k : ℕ) → k < n → ((c : ℕ) → k < c → c < n → f c ≡ g c) → told f k ≡ told g k) where
  -- where no node lies deeper, one more edge adds no step
  enough : (d k : ℕ) → k < n → n ≤ d + k → to d k ≡ to (suc d) k
  enough zero k l h = absurd (omega arith)
  enough (suc d) k l h = deeper d k ∙ same (to d) (to (suc d)) k l (λ c after m. enough d c m (omega arith)) ∙ sym (deeper (suc d) k)

  -- the steps of a node, by those of later nodes
  pub told-recurs : (k : ℕ) → k < n → to n k ≡ told (to n) k
  told-recurs k l = enough n k l (omega arith) ∙ deeper n k
