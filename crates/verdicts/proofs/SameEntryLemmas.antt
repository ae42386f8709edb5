-- Behaviours with the same entries are the same at the players' sets.
use Rattle.std.proofs.Common.{◌≡◌, ◌+◌, sym, ap, ◌∙◌}
use Rattle.rational.specs.Sum.{entry_at}
use Rattle.game_theory.specs.Trees.{Tree, IsTree}
use Rattle.game_theory.specs.Behaviour.{Behaviour}
use Rattle.game_theory.specs.TreeEntries.{tree_entries}
use Rattle.verdicts.proofs.AlikeBehaviourLemmas.{AreAlike}
use Rattle.behaviour_profile.proofs.EntryStartLemmas.{entries-read, first_entry}

-- behaviours with the same entries are the same at the players' sets
pub entries-alike : (t : Tree) (b other : Behaviour) → IsTree t → tree_entries t b ≡ tree_entries t other → AreAlike t b other
entries-alike t b other w e s i a l o m =
    sym (entries-read t w s i l o b a m) ∙ ap (λ list. entry_at list (first_entry t w s i l o + a)) e ∙ entries-read t w s i l o other a m
