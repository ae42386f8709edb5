use Rattle.std.proofs.Common.{◌∙◌, sym, subst, map}
use Rattle.game_core.specs.TreeGame.{game_of_tree}
use Rattle.game_theory.specs.Children.{AreChildren}
use Rattle.behaviour_profile.specs.EntryStarts.{AreStarts}
use Rattle.behaviour_profile.proofs.EntryStartLemmas.{starts-within, starts-read}
use Rattle.verdicts.proofs.payoffs.behaviour_payoffs.Goals as goal

pub payoffs_on-requires : goal.payoffs_on-requires
payoffs_on-requires c =
    let t = game_of_tree c.args.tree.now in
    let valid = c.stands_for_game_tree.ensures.game in
    let starts = subst (AreStarts t) (sym c.as_slice-2.ensures.value) c.in_ok-starts.ensures in
    record {
      played = record {
        tree = valid;
        children_are = subst (λ xs. AreChildren t (map (λ v. v.items) xs)) (sym c.as_slice.ensures.value) c.in_ok-children.ensures.children;
        starts_long = starts.long;
        entries_within = λ s i l o. starts-within t _ c.entries.result.now c.requires.entries.0 valid starts (c.entries.ensures ∙ c.requires.entries.1) s i l o;
      };
    }

pub returns-clause-payoffs : goal.returns-clause-payoffs
returns-clause-payoffs c = λ b is.
    let t = game_of_tree c.args.tree.now in
    let starts = subst (AreStarts t) (sym c.as_slice-2.ensures.value) c.in_ok-starts.ensures in
    c.payoffs_on.ensures.payoffs b (starts-read t _ c.entries.result.now b c.stands_for_game_tree.ensures.game starts (c.entries.ensures ∙ is))

pub returns-clause-stop : goal.returns-clause-stop
returns-clause-stop c = λ b is.
    let t = game_of_tree c.args.tree.now in
    let starts = subst (AreStarts t) (sym c.as_slice-2.ensures.value) c.in_ok-starts.ensures in
    c.payoffs_on.ensures.stop b (starts-read t _ c.entries.result.now b c.stands_for_game_tree.ensures.game starts (c.entries.ensures ∙ is))
