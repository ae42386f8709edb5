use Rattle.std.proofs.Common.{◌≡◌, ◌++◌, length, sym, ap, ◌∙◌, subst, arith}
use Rattle.game_theory.specs.Profiles.{IsProfile, number_of}
use Rattle.game_theory.specs.Mixed.{pure}
use Rattle.game_theory.specs.Lines.{entries, line_text, lines_text}
use Rattle.game_theory.proofs.ProfileNumberLemmas.{number_of-below}
use Rattle.game_theory.specs.Ranks.{ranked}
use Rattle.enumpure.specs.Ranks.{lines_below, rank_line, ranked_plays_best}
use Rattle.enumpure.specs.Replies.{plays_best}
use Rattle.enumpure.proofs.ListedLineLemmas.{text-none, text-push, text-skip}
use Rattle.game_theory.proofs.RankLemmas.{IsProfile-ranked}
use Rattle.enumpure.proofs.listing.push_lines.Goals as goal
use Rattle.enumpure.proofs.listing.push_lines.Goals.{After-set_ranked, then-passes-profile_number+in_ok-set_entries+in_ok-push_line, else-passes-profile_number}

-- a profile is written
is_profile : (c : After-set_ranked) → IsProfile c.args.counts.now c.set_ranked.new.profile
is_profile c =
    subst (IsProfile c.args.counts.now) (sym c.set_ranked.ensures) (IsProfile-ranked c.args.counts.now c.loop-rank.rank (omega (arith, c.requires.each)))

pub loop-rank-init : goal.loop-rank-init
loop-rank-init c = text-none (rank_line c.args.counts.now) (ranked_plays_best c.args.counts.now c.args.passes.now) c.args.text.now.items

pub profile_number-requires-clause-profile : goal.profile_number-requires-clause-profile
profile_number-requires-clause-profile c = is_profile (goal.at.profile_number-requires-clause-profile c).After-set_ranked

pub profile_number-requires-clause-few : goal.profile_number-requires-clause-few
profile_number-requires-clause-few c = omega (arith, c.requires.each, c.requires.few)

pub bounds-passes-profile_number : goal.bounds-passes-profile_number
bounds-passes-profile_number c =
    omega (arith, c.profile_number.ensures, number_of-below c.args.counts.now c.set_ranked.new.profile (is_profile (goal.at.bounds-passes-profile_number c).After-set_ranked), c.requires.each)

pub set_entries-requires : goal.set_entries-requires
set_entries-requires c = record { profile = is_profile (goal.at.set_entries-requires c).After-set_ranked }

pub loop-rank-preserved : goal.loop-rank-preserved
loop-rank-preserved c =
    let ns = c.args.counts.now in
    let passes = c.args.passes.now in
    let r = c.loop-rank.rank in
    let old = c.args.text.now.items in
    let text = c.loop-rank.text.items in
    let e : c.profile_number.result ≡ number_of ns (ranked ns r) = c.profile_number.ensures ∙ ap (number_of ns) c.set_ranked.ensures in
    elim c.if-passes-profile_number.branch [
      | then-passes-profile_number+in_ok-set_entries+in_ok-push_line w ↦
          (let line = ap line_text (w.deref.ensures.value ∙ w.in_ok-set_entries.ensures {u = tt} ∙ ap (λ v. entries ns (pure v)) c.set_ranked.ensures) in
          ap (λ v. v.items) w.text-is ∙ w.in_ok-push_line.ensures.line ∙ ap (λ v. text ++ v) line ∙ text-push (rank_line ns) (ranked_plays_best ns passes) r old text c.loop-rank.invariant (sym (ap (plays_best passes) e) ∙ w.if-passes-profile_number.true))
      | else-passes-profile_number w ↦ ap (λ v. v.items) w.text-is ∙ text-skip (rank_line ns) (ranked_plays_best ns passes) r old text c.loop-rank.invariant (sym (ap (plays_best passes) e) ∙ w.if-passes-profile_number.false)
    ]

pub returns : goal.returns
returns c =
    let all : c.loop-rank.rank ≡ length c.args.passes.now = omega arith in
    c.loop-rank.invariant ∙ ap (λ v. c.args.text.now.items ++ lines_text (lines_below c.args.counts.now c.args.passes.now v)) all
