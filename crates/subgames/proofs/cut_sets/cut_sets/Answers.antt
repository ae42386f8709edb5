use Rattle.std.proofs.Common.{ℕ, ◌+◌, ◌≡◌, ◌∙◌, [], ◌∷◌, ◌++◌, Option, None, Some, List, length, map, take, get_or, sym, ap, subst, subst₂, arith}
use Rattle.std.proofs.Math.Seq.{take-length}
use Rattle.std.proofs.lemmas.List.{map_more}
use Rattle.game_core.specs.TreeGame.{game_of_tree}
use Rattle.subgames.specs.CutParts.{AreSetNames, cut_set}
use Rattle.subgames.proofs.CutSetLemmas.{names-numbered, names-none_more}
use Rattle.subgames.proofs.cut_sets.cut_sets.Goals as goal
use Rattle.subgames.proofs.cut_sets.cut_sets.Goals.{in-Some+in_ok-set_number-in-Some, in-None}

pub loop-node-preserved : goal.loop-node-preserved
loop-node-preserved c =
    let g = game_of_tree c.args.tree.now in
    let key = cut_set g c.args.begins.now c.args.root in
    let i = c.loop-node.node-index in
    let before : List (Option ℕ) = map key (take i c.args.nodes.now) in
    let node = get_or c.args.nodes.now i 0 in
    let names : List (Option ℕ) = c.loop-node.names.items in
    let sets : List ℕ = c.loop-node.sets.keys in
    let keys : map key (take (i + 1) c.args.nodes.now) ≡ before ++ key node ∷ [] = map_more key c.args.nodes.now i 0 c.loop-node-test.true in
    let pushed = (c.in_ok-push.ensures {u = tt}).items in
    elim c.match-cut_set.branch [
      | in-Some+in_ok-set_number-in-Some w ↦
          let s = w.in-Some.set in
          let number = w.in_ok-set_number-in-Some.ensures {u = tt} in
          let at : key node ≡ Some s = sym c.cut_set.ensures ∙ w.in-Some.is in
          let named = names-numbered before names sets c.loop-node.invariant s w.in_ok-set_number-in-Some.field-0 w.set_number.new.sets.keys number in
          subst (λ ks. AreSetNames ks c.push.new.self.items c.match-cut_set.sets.keys) (sym (keys ∙ ap (λ k. before ++ k ∷ []) at)) (subst₂ (AreSetNames (before ++ Some s ∷ [])) (sym (pushed ∙ ap (λ n. names ++ n ∷ []) w.name-is)) (sym (ap (λ v. v.keys) w.sets-is)) named)
      | in-None w ↦
          let at : key node ≡ None = sym c.cut_set.ensures ∙ w.in-None.is in
          let named = names-none_more before names sets c.loop-node.invariant in
          subst (λ ks. AreSetNames ks c.push.new.self.items c.match-cut_set.sets.keys) (sym (keys ∙ ap (λ k. before ++ k ∷ []) at)) (subst₂ (AreSetNames (before ++ None ∷ [])) (sym (pushed ∙ ap (λ n. names ++ n ∷ []) w.name-is)) (sym (ap (λ v. v.keys) w.sets-is)) named)
    ]

pub returns : goal.returns
returns c =
    let key = cut_set (game_of_tree c.args.tree.now) c.args.begins.now c.args.root in
    let nodes : List ℕ = c.args.nodes.now in
    let all : c.loop-node.node-index ≡ length nodes = omega (arith, c.loop-node-test.false) in
    let named = subst (λ ns. AreSetNames (map key ns) c.loop-node.names.items c.loop-node.sets.keys) (ap (λ i. take i nodes) all ∙ take-length nodes) c.loop-node.invariant in
    subst (AreSetNames (map key nodes) c.loop-node.names.items) (sym (c.in_ok-whole.ensures.items_if_clones_equal (λ x y e. e) ∙ c.as_slice.ensures.keys)) named
