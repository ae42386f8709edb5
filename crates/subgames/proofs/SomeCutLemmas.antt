-- At each node of a tree there is a cut, whatever its ends are worth.
use Rattle.std.proofs.Common.{ℕ, zero, suc, ◌+◌, ◌*◌, ◌<◌, ◌≤◌, ◌≡◌, ◌∙◌, inl, inr, Option, None, Some, List, [], ◌∷◌, ◌++◌, length, get_or, map, take, refl, sym, ap, ap₂, subst, add-one, arith}
use Rattle.std.specs.Prelude.{Contains, ◌/◌, ◌%◌}
use Rattle.std.proofs.Math.Seq.{take-length}
use Rattle.std.proofs.lemmas.List.{get_or_default, get_or_push, length_push, take_more}
use Rattle.std.proofs.lemmas.List.Elements.{Contains-get_or}
use Rattle.std.proofs.lemmas.Nat.{div-mul-add, mod-mul-add, mul-add-lt}
use Rattle.lists.proofs.DeniedLemmas.{flags_below, holds_or_not, listed_below}
use Rattle.lists.proofs.ListedLemmas.{IsPassingBelow, listed-same}
use Rattle.rational.specs.Rational.{ℚ, zero_ℚ}
use Rattle.game_theory.specs.Lines.{listed}
use Rattle.game_theory.specs.Trees.{Tree, IsTree}
use Rattle.game_theory.proofs.ProfileLineLemmas.{get_or-listed}
use Rattle.game_core.specs.Tree.{GameTree, IsGameTree}
use Rattle.game_core.specs.TreeGame.{game_of_tree}
use Rattle.subgames.specs.CutGames.{IsInCut}
use Rattle.subgames.specs.CutParts.{AreSetNames, HasNumber, cut_set}
use Rattle.subgames.specs.CutTrees.{IsCutAt}
use Rattle.subgames.specs.FoundSubgames.{AreRootMarks}
use Rattle.subgames.specs.MadeCuts.{MadeCut, worth_at}
use Rattle.subgames.specs.Roots.{IsSubgameRoot}
use Rattle.subgames.proofs.CutListLemmas.{few-below, some-indices}
use Rattle.subgames.proofs.CutSetLemmas.{names-none_more, names-numbered}
use Rattle.subgames.proofs.CutValidLemmas.{cut_tree}
use Rattle.subgames.proofs.CutWalkLemmas.{AreCutNodes}
use Rattle.subgames.proofs.CutWorthLemmas.{same_worth}

-- ---- sets
-- a set has a number, where it stands or after all that stand
some-number : (s : ℕ) (sets : List ℕ) → ¬ ¬ ((more : List ℕ) × (r : ℕ) × HasNumber s sets more r)
some-number s sets none = holds_or_not {A = Contains sets s} (λ known. elim known [
  | inl found ↦ none (sets, found.0, record { stands = inl refl; here = (found.1, get_or_default sets found.0 0 s found.1 ∙ found.2) })
  | inr out ↦ none (sets ++ s ∷ [], length sets, record { stands = inr (refl, refl, out); here = (omega (arith, length_push sets s), get_or_push sets s 0 (length sets) refl) })
])

-- no set at first
names-start : AreSetNames [] [] []
names-start = record {
  one_for_each = refl;
  same = λ j below. absurd (omega (arith, below));
  used = λ r below. absurd (omega (arith, below));
  in_order = λ k s r below. absurd (omega (arith, below));
  no_more = omega arith;
  differ = λ r q below. absurd (omega (arith, below));
}

-- sets that are named in turn have numbers
some-names : (keys : List (Option ℕ)) → ¬ ¬ ((names : List (Option ℕ)) × (sets : List ℕ) × AreSetNames keys names sets)
some-names keys = subst (λ ks. ¬ ¬ ((names : List (Option ℕ)) × (sets : List ℕ) × AreSetNames ks names sets)) (take-length keys) (go (length keys) (omega arith))
  where
    next : (before : List (Option ℕ)) (key : Option ℕ) (names : List (Option ℕ)) (sets : List ℕ) → AreSetNames before names sets → ¬ ¬ ((names : List (Option ℕ)) × (sets : List ℕ) × AreSetNames (before ++ key ∷ []) names sets)
    next before None names sets h none = none (names ++ None ∷ [], sets, names-none_more before names sets h)
    next before (Some s) names sets h none = some-number s sets (λ number. none (names ++ Some number.1 ∷ [], number.0, names-numbered before names sets h s number.1 number.0 number.2))

    go : (i : ℕ) → i ≤ length keys → ¬ ¬ ((names : List (Option ℕ)) × (sets : List ℕ) × AreSetNames (take i keys) names sets)
    go zero few none = none ([], [], names-start)
    go (suc i) few none =
        let longer : take i keys ++ get_or keys i None ∷ [] ≡ take (suc i) keys = sym (take_more keys i None (omega (arith, few))) ∙ ap (λ n. take n keys) (add-one i) in
        go i (omega (arith, few)) (λ before. next (take i keys) (get_or keys i None) before.0 before.1 before.2
        (λ all. none (all.0, all.1, subst (λ ks. AreSetNames ks all.0 all.1) longer all.2)))

-- ---- nodes
-- the nodes of a cut have a list
some-nodes : (t : Tree) (n : ℕ) → ¬ ¬ ((nodes : List ℕ) × (indices : List (Option ℕ)) × AreCutNodes t n nodes indices)
some-nodes t n none = listed_below (IsInCut t n) t.size (λ found.
    let nodes = found.0 in
    let list = listed-same (IsPassingBelow (IsInCut t n) t.size) (IsInCut t n) nodes found.1 (λ k passes. passes.1) (λ k stands. (stands.0, stands)) in
    let indices = some-indices nodes t.size (λ k d below. (list.sound (get_or nodes k d) (Contains-get_or nodes k d below)).0) in
    none (nodes, indices.0, record { are_nodes = list; no_more = few-below nodes t.size list.ascending (λ k stands. (list.sound k stands).0); indices_are = indices.1 }))

-- ---- worth
-- what nodes are worth to players stands in a list
worth-listed : (players nodes : ℕ) (worth : ℕ → ℕ → ℚ) (k i : ℕ) → k < nodes → i < players → worth_at players (listed (players * nodes) (λ x. worth (x / players) (x % players))) k i ≡ worth k i
worth-listed players nodes worth k i below among =
    get_or-listed (players * nodes) (λ x. worth (x / players) (x % players)) (k * players + i) zero_ℚ (mul-add-lt k players i nodes below among)
    ∙ ap₂ worth (div-mul-add k players i among) (mod-mul-add k players i among)

-- ---- the cut
-- a node has a cut
pub some-cut : (t : GameTree) (n : ℕ) (worth : ℕ → ℕ → ℚ) → IsGameTree t → IsTree (game_of_tree t) → n < length t.nodes → ¬ ¬ ((cut : MadeCut) × IsCutAt t n worth cut.nodes cut.sets cut.tree)
some-cut t n worth valid w below none =
    let g = game_of_tree t in
    let players = length t.players in
    let list = listed (players * length t.nodes) (λ x. worth (x / players) (x % players)) in
    flags_below (IsSubgameRoot g) (length t.nodes) (λ flags. some-nodes g n (λ cut. some-names (map (cut_set g flags.0 n) cut.0) (λ named.
    let marks : AreRootMarks g flags.0 = record { one_for_each = flags.1.0; are_all = flags.1.1 } in
    let made = cut_tree t valid w flags.0 n cut.0 cut.1 marks below cut.2 named.1 named.0 named.2 list [] _ _ _ _ refl refl refl refl refl in
    none (
      record { tree = made.0; nodes = cut.0; sets = named.1 },
      same_worth t n (worth_at players list) worth cut.0 named.1 made.0 (λ k i among stands given. worth-listed players (length t.nodes) worth k i stands.0 among) made.2,
    ))))
