-- What the texts of verdicts say by the definition of equilibrium.
use Rattle.std.proofs.Common.{ℕ, ◌+◌, ◌≡◌, List, [], ◌∷◌, ◌++◌, inl, inr, sym, ◌∙◌, subst, Ok}
use Rattle.answers.specs.Answers.{Answer, ◌>>=◌}
use Rattle.game_theory.specs.Profiles.{Game}
use Rattle.game_theory.specs.Mixed.{Mixed, IsValid}
use Rattle.game_theory.specs.Trees.{IsTree as is_game_tree}
use Rattle.game_theory.specs.Behaviour.{Behaviour, IsValid as is_valid_behaviour}
use Rattle.game_theory.proofs.ProfileLineLemmas.{entries-injective}
use Rattle.game_theory.specs.OwnSets.{action_counts}
use Rattle.game_core.specs.Table.{GameTable, game_of, strategy_counts}
use Rattle.game_core.specs.Tree.{GameTree, IsGameTree}
use Rattle.game_core.specs.TreeGame.{game_of_tree}
use Rattle.behaviour_profile.specs.EntryLaws.{TestedEntriesAreBehaviours, TestedEntriesAreProfiles}
use Rattle.behaviour_profile.specs.EntryTests.{profile_in}
use Rattle.behaviour_profile.proofs.ProfileAnswerLemmas.{passed_same}
use Rattle.ne_printer.specs.ReadLines.{line_in}
use Rattle.ne_printer.specs.TextLines.{lines_of}
use Rattle.ne_checker.specs.CheckLaws.{TableChecksTell, TellsOfBehaviour, TellsOfLines, TellsOfMixed, TellsOfTableLine, TellsOfTreeLine, TreeChecksTell}
use Rattle.game_core.proofs.LimitLemmas.{text-same}
use Rattle.ne_checker.specs.LineChecks.{limited, table_line, tree_line}
use Rattle.ne_checker.specs.Lines.{lines_answer}
use Rattle.verdicts.specs.TableChecks.{IsTableVerdict}
use Rattle.verdicts.specs.TableLaws.{TableVerdictsFindEquilibria}
use Rattle.ne_checker.specs.Texts.{table_told, tree_told}
use Rattle.game_theory.specs.Recall.{AllRecall}
use Rattle.verdicts.specs.TreeVerdictLaws.{TreeVerdictsFindEquilibria}
use Rattle.verdicts.specs.TreeVerdicts.{IsTreeVerdict}
use Rattle.ne_checker.specs.declared.stops.CheckStop.{CheckStop}
use Rattle.verdicts.specs.declared.tables.TableVerdict.{TableVerdict}
use Rattle.verdicts.specs.declared.tables.TableVerdict.TheVariants as table_verdicts
use Rattle.verdicts.specs.declared.trees.TreeVerdict.{TreeVerdict}
use Rattle.verdicts.specs.declared.trees.TreeVerdict.TheVariants as tree_verdicts
use Rattle.verdicts.proofs.AlikeVerdictLemmas.{verdict-alike}
use Rattle.verdicts.proofs.SameEntryLemmas.{entries-alike}
use Rattle.verdicts.proofs.TableSingleLemmas.{verdict-same}
use Rattle.ne_checker.proofs.TreeLineLemmas.{tested_behaviour}

-- ---- all lines
module _ (judge : ℕ → List ℕ → Answer CheckStop (List ℕ)) (Tells : List ℕ → List ℕ → Type 0) (each : (number : ℕ) (line text : List ℕ) → judge number line (Ok text) → Tells line text) where
  lines-tell : (number : ℕ) (lines : List (List ℕ)) (text : List ℕ) → lines_answer judge number lines (Ok text) → TellsOfLines Tells lines text
  lines-tell number [] text h = cc
  lines-tell number (line ∷ lines) text h =
      let whole : text ≡ h.0 ++ h.2.0 = cc h.2.2 in
      (h.0, h.2.0, each number line h.0 h.1, lines-tell (number + 1) lines h.2.0 h.2.1, whole)

  checks-tell : (lines text : List ℕ) → (lines_answer judge 1 (lines_of lines) >>= limited) (Ok text) → TellsOfLines Tells (lines_of lines) text
  checks-tell lines text h = subst (TellsOfLines Tells (lines_of lines)) (sym (text-same h.0 text h.2)) (lines-tell 1 (lines_of lines) h.0 h.1)

-- ---- tables
module _ (law : TableVerdictsFindEquilibria) where
  mixed-tells : (g : Game) (m : Mixed) (number : ℕ) (verdict : TableVerdict) (text : List ℕ) → IsValid g.strategies m → IsTableVerdict g m verdict → table_told number verdict (Ok text) → TellsOfMixed g m text
  mixed-tells g m number table_verdicts.Equilibrium text valid h told = inl (law.equilibrium g m valid h, cc told)
  mixed-tells g m number (table_verdicts.Better player payoff best reply) text valid h told = inr (player, reply, payoff, best, law.better g m player reply payoff best h, cc told)
  mixed-tells g m number (table_verdicts.Range step) text valid h told = cc told

  table_line-tells : TestedEntriesAreProfiles → (table : GameTable) (number : ℕ) (line text : List ℕ) → table_line table number line (Ok text) → TellsOfTableLine table line text
  table_line-tells tested table number line text h =
      let counts = strategy_counts table in
      let read = h.1.0 in
      let profile = h.1.2 in
      let same = passed_same counts read h.0 profile in
      let found = tested.sound counts read (subst (λ list. profile_in counts read (Ok list)) same profile) in
      let judged = h.2.1 in
      let verdict = verdict-same (game_of table) judged.0 found.0 (entries-injective counts judged.0 found.0 (sym judged.1 ∙ same ∙ found.1)) h.2.0 judged.2 in
      record { mixed = found.0; valid = found.2; are_entries = subst (λ list. line_in line (Ok list)) found.1 h.1.1; tells = mixed-tells (game_of table) found.0 number h.2.0 text found.2 verdict h.2.2 }

  pub table_checks-tell : TestedEntriesAreProfiles → TableChecksTell
  table_checks-tell tested table lines text h = checks-tell (table_line table) (TellsOfTableLine table) (table_line-tells tested table) lines text h

-- ---- trees
module _ (law : TreeVerdictsFindEquilibria) (tree : GameTree) (is : IsGameTree tree) (recall : AllRecall (game_of_tree tree)) where
  behaviour-tells : (b : Behaviour) (number : ℕ) (verdict : TreeVerdict) (actions text : List ℕ) → is_valid_behaviour (game_of_tree tree) b → IsTreeVerdict (game_of_tree tree) b verdict actions → tree_told number (verdict, actions) (Ok text) → TellsOfBehaviour (game_of_tree tree) b text
  behaviour-tells b number tree_verdicts.Equilibrium actions text valid h told = inl (law.equilibrium tree b actions is recall valid h, cc told)
  behaviour-tells b number (tree_verdicts.Better player now best) actions text valid h told = inr (player, now, best, actions, law.better tree b player now best actions is recall h, cc told)
  behaviour-tells b number (tree_verdicts.Range step) actions text valid h told = cc told

  tree_line-tells : TestedEntriesAreBehaviours → is_game_tree (game_of_tree tree) → (number : ℕ) (line text : List ℕ) → tree_line tree number line (Ok text) → TellsOfTreeLine tree line text
  tree_line-tells tested w number line text h =
      let profile = h.1.2 in
      let found = tested_behaviour tested tree h.1.0 h.0 w profile in
      let of_line = h.2.0 in
      let judged = h.2.1 in
      let verdict = verdict-alike (game_of_tree tree) judged.0 found.0 w (entries-alike (game_of_tree tree) judged.0 found.0 w (sym judged.1 ∙ found.1)) of_line.0 of_line.1 judged.2 in
      record { behaviour = found.0; valid = found.2; are_entries = subst (λ list. line_in line (Ok list)) (sym (passed_same (action_counts (game_of_tree tree)) h.1.0 h.0 profile) ∙ found.1) h.1.1; tells = behaviour-tells found.0 number of_line.0 of_line.1 text found.2 verdict h.2.2 }

pub tree_checks-tell : TreeVerdictsFindEquilibria → TestedEntriesAreBehaviours → ((tree : GameTree) → IsGameTree tree → is_game_tree (game_of_tree tree)) → TreeChecksTell
tree_checks-tell law tested game tree lines text is recall h =
    checks-tell (tree_line tree) (TellsOfTreeLine tree) (tree_line-tells law tree is recall tested (game tree is)) lines text h
