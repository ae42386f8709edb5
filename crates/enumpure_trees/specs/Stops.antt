-- The text of a tree's pure equilibria as behaviour, where it is within the limit on texts.
use Rattle.std.specs.Prelude.{ℕ, List}
use Rattle.answers.specs.Answers.{Answer}
use Rattle.game_theory.specs.Trees.{Tree}
use Rattle.enumpure.specs.Stops.{within_text_limit}
use Rattle.enumpure.specs.declared.listing.ListStop.{ListStop}
use Rattle.enumpure_trees.specs.TreeEquilibria.{IsTreeEquilibriaText}

-- the text of the pure equilibria of a tree with these reduced strategies
abbrev pub behaviour_text : Tree → List (List (List ℕ)) → Answer ListStop (List ℕ)
behaviour_text t strategies = within_text_limit (IsTreeEquilibriaText t strategies)
