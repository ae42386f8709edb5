-- The tokens of a source have an answer: a tree, a limit that is passed, or a fault.
use Rattle.std.proofs.Common.{◌<◌, ◌^◌, List, length, inl, inr, refl, Ok, Err}
use Rattle.answers.specs.Answered.{IsAnswered}
use Rattle.game_core.specs.Limits.{first_above}
use Rattle.game_core.specs.TokenList.{TokenList, bare}
use Rattle.game_core.specs.Tree.{most_nodes, most_depth}
use Rattle.game_core.specs.declared.token.Token.{Token}
use Rattle.game_core.specs.declared.too_large.What.{What}
use Rattle.game_core.specs.declared.too_large.What.TheVariants as what
use Rattle.lists.proofs.DeniedLemmas.{holds_or_not}
use Rattle.tree_grammar.specs.TreeFile.{PassesLimit}
use Rattle.tree_faults.proofs.FaultLaws.{fault_of_others}
use Rattle.efg_reader.specs.Stops.{tree_in}
use Rattle.efg_reader.specs.declared.fault.EfgStop.TheVariants as stops

-- where neither limit is passed, none is
no_limit_passed : (tokens : List Token) → ¬ (PassesLimit tokens what.Nodes) → ¬ (PassesLimit tokens what.Depth) → (passed : What) → PassesLimit tokens passed → ⊥
no_limit_passed tokens nodes depth what.Nodes p = nodes p
no_limit_passed tokens nodes depth what.Depth p = depth p
no_limit_passed tokens nodes depth _ p = absurd p.passes

pub tree_in-answered : (tokens : TokenList) → length tokens.list < 2 ^ 32 → IsAnswered (tree_in tokens)
tree_in-answered tokens few none =
    holds_or_not {A = PassesLimit (bare tokens.list) what.Nodes} (λ nodes. holds_or_not {A = PassesLimit (bare tokens.list) what.Depth} (λ depth. elim nodes [
      | inl many ↦ none (Err (stops.TooLarge (first_above what.Nodes most_nodes))) (inl (refl, many))
      | inr few_nodes ↦ elim depth [
        | inl deep ↦ none (Err (stops.TooLarge (first_above what.Depth most_depth))) (inr (refl, deep))
        | inr flat ↦ elim (fault_of_others tokens few) [
          | inl file ↦ none (Ok file.0) file.1
          | inr fault ↦ none (Err (stops.Fault (record { at = fault.1; kind = fault.0 }))) (fault.2, no_limit_passed (bare tokens.list) few_nodes flat)
        ]
      ]
    ]))
