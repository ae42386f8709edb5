use Rattle.std.proofs.Common.{length, sym, ap, ◌∙◌}
use Rattle.game_theory.specs.Lines.{line_text}
use Rattle.game_core.specs.TreeGame.{game_of_tree}
use Rattle.enumpure_trees.proofs.LineLengthLemmas.{line_lengths-same}
use Rattle.enumpure_trees.proofs.listing.line_length.Goals as goal

pub returns-clause-each : goal.returns-clause-each
returns-clause-each c =
    let entries = c.entries.ensures ∙ c.in_ok-behaviour.ensures {u = tt} in
    let written = c.len.ensures ∙ c.in_ok-line.field-0.ok.0 ∙ ap length (c.in_ok-line.ensures {u = tt}) ∙ ap (λ v. length (line_text v)) entries in
    λ other p. line_lengths-same (game_of_tree c.args.tree.now) c.args.reduced.now.choices other c.args.profile.now c.requires.tree c.requires.form.are_strategies p c.requires.profile ∙ sym written
