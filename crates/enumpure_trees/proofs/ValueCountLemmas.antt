-- How many choices there are, and how many values they have.
use Rattle.std.proofs.Common.{ℕ, zero, suc, ◌+◌, ◌*◌, ◌/◌, ◌<◌, ◌≤◌, ◌≡◌, List, [], ◌∷◌, length, get_or, All, mul-pos, arith}
use Rattle.game_core.specs.Table.{most_payoffs}
use Rattle.game_theory.specs.Profiles.{profile_count}
use Rattle.game_theory.specs.Trees.{Tree, IsTree}
use Rattle.game_theory.proofs.ProfileCountLemmas.{profile_count-positive}
use Rattle.game_theory.specs.OwnSets.{action_counts}
use Rattle.enumpure_trees.specs.Choices.{whole_choices}
use Rattle.enumpure_trees.specs.Values.{value_count}
use Rattle.enumpure_trees.proofs.WholeChoiceLemmas.{some_actions}
use native.Mathlib.Nat as N

-- each set has no more actions than there are choices
pub counts-few : (counts : List ℕ) (most : ℕ) → All (λ n. 0 < n) counts → profile_count counts ≤ most → All (λ n. n ≤ most) counts
counts-few [] most positive few k d l = absurd (omega arith)
counts-few (n ∷ counts) most positive few k d l =
    let later : All (λ n. 0 < n) counts = λ j e m. positive (suc j) e (omega arith) in
    let first : n * 1 ≤ n * profile_count counts = N.mul-le-mul_left n (profile_count-positive counts later) in
    let rest : 1 * profile_count counts ≤ n * profile_count counts = N.mul-le-mul_right (profile_count counts) (positive 0 0 (omega arith)) in
    go k l (omega arith) (λ j. counts-few counts most later (omega arith) j d)
  where
    go : (j : ℕ) → j < length (n ∷ counts) → n ≤ most → ((j : ℕ) → j < length counts → get_or counts j d ≤ most) → get_or (n ∷ counts) j d ≤ most
    go zero m head tail = head
    go (suc j) m head tail = tail j (omega arith)

-- ---- products and quotients
-- where a number is no more than a quotient, its product by the divisor is no more than the dividend
pub within-quotient : (count most players nodes : ℕ) → 0 < players → 0 < nodes → count ≤ most / players / nodes → count * (nodes * players) ≤ most
within-quotient count most players nodes p n h =
    let d = players * nodes in
    let positive : 0 < d = mul-pos p n in
    let same : most / players / nodes ≡ most / d = N.div-div-eq-div-mul most players nodes in
    let room : d * count ≤ d * (most / d) = N.mul-le-mul_left d (omega (arith, h, same)) in
    omega (arith, room, positive)

-- and where it is more, so is the product
pub above-quotient : (count most players nodes : ℕ) → 0 < players → 0 < nodes → most / players / nodes < count → most < count * (nodes * players)
above-quotient count most players nodes p n h =
    let d = players * nodes in
    let positive : 0 < d = mul-pos p n in
    let same : most / players / nodes ≡ most / d = N.div-div-eq-div-mul most players nodes in
    let room : d * (most / d + 1) ≤ d * count = N.mul-le-mul_left d (omega (arith, h, same)) in
    omega (arith, room, positive)

-- ---- values within the limit
module _ (t : Tree) (nodes : List ℕ) (w : IsTree t) (few : value_count t nodes ≤ most_payoffs) where
  -- each choice has no more
  pub nodes-few : length nodes * t.players ≤ most_payoffs
  nodes-few =
      let room : 1 * (length nodes * t.players) ≤ whole_choices t * (length nodes * t.players) = N.mul-le-mul_right (length nodes * t.players) (profile_count-positive (action_counts t) (some_actions t w)) in
      omega (arith, room, few)
