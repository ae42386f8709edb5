-- How many actions the players of a tree have.
use Rattle.std.proofs.Common.{ℕ, zero, suc, ◌+◌, ◌*◌, ◌<◌, ◌≤◌, ◌≡◌, ◌^◌, Bool, true, false, Decides, Option, Some, None, [], ◌∷◌, ◌++◌, length, map, refl, ap, ◌∙◌, arith}
use Rattle.std.specs.Prelude.{◌==◌, if◌then◌else◌, sum}
use Rattle.std.proofs.lemmas.Bool.Decides.{Decides-eqb}
use Rattle.std.proofs.lemmas.List.{append-nil, map-append}
use Rattle.game_theory.specs.Trees.{Tree}
use Rattle.game_theory.specs.Behaviour.{is_index}
use Rattle.game_core.specs.Tree.{GameTree, IsGameTree}
use Rattle.game_core.specs.TreeGame.{game_of_tree}
use Rattle.strategy_lists.proofs.ActionCountLemmas.{actions-below}
use Rattle.game_theory.proofs.IndexLemmas.{numbers_with-next}
use Rattle.behaviour_profile.specs.EntryStarts.{sets_below}
use Rattle.game_theory.specs.OwnSets.{action_counts, own_counts, own_sets, numbers_with}
use Rattle.behaviour_profile.proofs.GroupListLemmas.{sum-append, sum-cons, sum-nil}
use Rattle.lists.proofs.ElementLemmas.{made-next}

-- ---- a set counts for one player at most
-- what a set with n actions adds to the counts of the players before p
abbrev parts : Option ℕ → ℕ → ℕ → ℕ
parts o n zero = 0
parts o n (suc p) = parts o n p + (if is_index o p then n else 0)

parts-before : (j n p : ℕ) → p ≤ j → parts (Some j) n p ≡ 0
parts-before j n zero l = refl
parts-before j n (suc p) l = go (j == p) (Decides-eqb j p) (parts-before j n p (omega arith))
  where
    go : (b : Bool) → Decides b (j ≡ p) → parts (Some j) n p ≡ 0 → parts (Some j) n p + (if b then n else 0) ≡ 0
    go true d e = absurd (let same : j ≡ p = d.0 refl in omega (arith, same, l))
    go false d e = omega (arith, e)

parts-most : (o : Option ℕ) (n p : ℕ) → parts o n p ≤ n
parts-most o n zero = omega arith
parts-most None n (suc p) = omega (arith, parts-most None n p)
parts-most (Some j) n (suc p) = go (j == p) (Decides-eqb j p) (parts-most (Some j) n p)
  where
    go : (b : Bool) → Decides b (j ≡ p) → parts (Some j) n p ≤ n → parts (Some j) n p + (if b then n else 0) ≤ n
    go true d h = let none = parts-before j n p (omega (arith, d.0 refl)) in omega (arith, none)
    go false d h = omega (arith, h)

-- ---- the sets below one
module _ (t : Tree) where
  abbrev own_total : ℕ → ℕ → ℕ
  own_total i n = sum (map t.actions (numbers_with t.owner i n))

  own-next : (i n : ℕ) → own_total i (suc n) ≡ own_total i n + (if is_index (t.owner n) i then t.actions n else 0)
  own-next i n = ap (λ xs. sum (map t.actions xs)) (numbers_with-next t.owner i n) ∙ go (is_index (t.owner n) i)
    where
      go : (b : Bool) → sum (map t.actions (numbers_with t.owner i n ++ (if b then n ∷ [] else []))) ≡ own_total i n + (if b then t.actions n else 0)
      go true = ap sum (map-append t.actions (numbers_with t.owner i n) (n ∷ [])) ∙ sum-append (map t.actions (numbers_with t.owner i n)) (t.actions n ∷ []) ∙ omega (arith, sum-cons (t.actions n) [], sum-nil)
      go false = ap (λ xs. sum (map t.actions xs)) (append-nil (numbers_with t.owner i n)) ∙ omega arith

  abbrev total_below : ℕ → ℕ → ℕ
  total_below zero n = 0
  total_below (suc p) n = total_below p n + own_total p n

  total-next : (p n : ℕ) → total_below p (suc n) ≡ total_below p n + parts (t.owner n) (t.actions n) p
  total-next zero n = omega arith
  total-next (suc p) n = omega (arith, total-next p n, own-next p n)

  total-none : (p : ℕ) → total_below p 0 ≡ 0
  total-none zero = refl
  total-none (suc p) = omega (arith, total-none p)

  -- it is the sum of the players' counts
  total-is : (p : ℕ) → sum (map t.actions (sets_below t p)) ≡ total_below p t.sets
  total-is zero = sum-nil
  total-is (suc p) =
      let all = ap (λ sets. sum (map t.actions sets)) (made-next (own_sets t) p) ∙ ap sum (map-append t.actions (sets_below t p) (own_sets t p)) ∙ sum-append (map t.actions (sets_below t p)) (own_counts t p) in
      omega (arith, all, total-is p)

total-few : (t : GameTree) (p n : ℕ) → IsGameTree t → n ≤ length t.sets → total_below (game_of_tree t) p n ≤ 65535 * n
total-few t p zero valid few = omega (arith, total-none (game_of_tree t) p)
total-few t p (suc n) valid few =
    let g = game_of_tree t in
    let before = total-few t p n valid (omega arith) in
    let one = actions-below t n valid (omega arith) in
    omega (arith, before, total-next g p n, parts-most (g.owner n) (g.actions n) p, one, valid.few_nodes)

-- all actions fit 32 bits
pub actions-few : (t : GameTree) → IsGameTree t → sum (action_counts (game_of_tree t)) < 2 ^ 32
actions-few t valid =
    let g = game_of_tree t in
    omega (arith, total-is g g.players, total-few t g.players g.sets valid (omega arith), valid.few_sets, valid.few_nodes)
