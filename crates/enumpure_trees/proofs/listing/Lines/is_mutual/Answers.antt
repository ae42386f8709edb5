use Rattle.std.proofs.Common.{◌≡◌, map, length, sym, ap, ◌∙◌, subst, arith}
use Rattle.game_theory.specs.Profiles.{IsProfile, number_of}
use Rattle.game_theory.proofs.ProfileNumberLemmas.{number_of-below}
use Rattle.game_core.specs.Table.{GameTable, strategy_counts}
use Rattle.game_core.specs.Tree.{GameTree}
use Rattle.enumpure.specs.Replies.{plays_best}
use Rattle.reduced_form.specs.ReducedForm.{ReducedForm, IsReducedForm}
use Rattle.enumpure_trees.proofs.FormSizeLemmas.{form-counts}
use Rattle.enumpure_trees.proofs.listing.Lines.is_mutual.Goals as goal

-- the strategies that the form's table has
same_counts : (t : GameTree) (form : ReducedForm) (table : GameTable) → table ≡ form.table → IsReducedForm t form → strategy_counts table ≡ map length form.choices
same_counts t form table e h = ap strategy_counts e ∙ form-counts t form h

pub profile_number-requires : goal.profile_number-requires
profile_number-requires c =
    let same = same_counts c.self.inside.tree.now c.self.inside.reduced.now c.table.result.now c.table.ensures c.self.invariant.form in
    subst (λ ns. IsProfile ns c.args.profile.now) (sym same) (subst (λ l. IsProfile (map length l.reduced.choices) c.args.profile.now) (sym c.self.view_is) c.requires)

pub bounds-self-inside-profile_number : goal.bounds-self-inside-profile_number
bounds-self-inside-profile_number c =
    let same = same_counts c.self.inside.tree.now c.self.inside.reduced.now c.table.result.now c.table.ensures c.self.invariant.form in
    omega (arith, c.profile_number.ensures.number, ap (λ ns. number_of ns c.args.profile.now) same, number_of-below (map length c.self.inside.reduced.now.choices) c.args.profile.now (subst (λ l. IsProfile (map length l.reduced.choices) c.args.profile.now) (sym c.self.view_is) c.requires), c.self.invariant.best_replies)

pub returns : goal.returns
returns c =
    let same = same_counts c.self.inside.tree.now c.self.inside.reduced.now c.table.result.now c.table.ensures c.self.invariant.form in
    ap (plays_best c.self.inside.all_best.now) (c.profile_number.ensures.number ∙ ap (λ ns. number_of ns c.args.profile.now) same)
    ∙ ap (λ l. plays_best l.all_best (number_of (map length l.reduced.choices) c.args.profile.now)) c.self.view_is
