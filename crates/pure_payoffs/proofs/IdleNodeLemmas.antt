-- Idle nodes, from the children up to the parents.
use Rattle.std.proofs.Common.{ℕ, zero, suc, ◌<◌, ◌≤◌, ◌≡◌, Bool, true, false, List, length, get_or, sym, ap, ◌∙◌, arith}
use Rattle.std.specs.Prelude.{slice_index_or}
use Rattle.game_theory.specs.OwnSets.{NobodyChooses}
use Rattle.game_theory.specs.Trees.{Tree, IsTree, IsAbove}
use Rattle.pure_payoffs.specs.Settled.{AreSettledNodes, AreWithoutPlayers}

-- for each of the first n nodes whether it is idle: at idle nodes no player chooses
pub record AreFirstWithoutPlayers (t : Tree) (n : ℕ) (idle : List Bool) : Type 0 where
  pub one_for_each : length idle ≡ n
  pub no_player : (k : ℕ) → k < n → slice_index_or idle k false ≡ true → NobodyChooses t k

-- for each node as before, and from node n on the children of idle nodes are idle
pub record ArePassedUp (t : Tree) (n : ℕ) (idle : List Bool) : Type 0 where
  pub tell : AreWithoutPlayers t idle
  pub pass : (c : ℕ) → n ≤ c → 0 < c → c < t.size → slice_index_or idle (t.parent c) false ≡ true → slice_index_or idle c false ≡ true

module _ (t : Tree) (n : ℕ) (idle : List Bool) (w : IsTree t) (few : n ≤ 1) (h : ArePassedUp t n idle) where
  -- what lies below an idle node is idle
  idle_below : (d k c : ℕ) → c < t.size → IsAbove t d k c → get_or idle k false ≡ true → get_or idle c false ≡ true
  idle_below zero k c l above is_idle = ap (λ x. get_or idle x false) (sym above) ∙ is_idle
  idle_below (suc d) k c l above is_idle =
      let after = w.after_parent c above.0 l in
      h.pass c (omega arith) above.0 l (idle_below d k (t.parent c) (omega arith) above.1 is_idle)

  -- once all are passed up, idle nodes tell of subtrees
  pub passed-all : AreSettledNodes t idle
  passed-all = record {
    one_for_each = h.tell.one_for_each;
    settled = λ k l is_idle c m n. h.tell.no_player c m (idle_below n.0 k c m n.1 is_idle);
  }
