use Rattle.std.proofs.Common.{ℕ, List, rules, refl, ◌<◌, ◌≤◌, ◌≡◌, ◌+◌, ◌++◌, length, sym, ap, ◌∙◌, subst, arith}
use Rattle.std.specs.List.{flat_map, range_with_len}
use Rattle.std.specs.Result.{IsErrOf}
use Rattle.game_core.specs.Limits.{most_text}
use Rattle.convert_tables.specs.declared.stops.LayoutStop.TheVariants as layout_stops
use Rattle.game_theory.specs.Profiles.{IsProfile, profile_count, profile_at}
use Rattle.game_theory.proofs.ProfileNumberLemmas.{IsProfile-profile_at}
use Rattle.convert_tables.specs.Layouts.{others_profile, others_counts, table_text}
use Rattle.convert_tables.specs.declared.cells.Axes.{Axes}
use Rattle.convert_tables.proofs.CellPlaceLemmas.{AreFewCounts, AreFewCounts-others}
use Rattle.convert_tables.proofs.NumberedTextLemmas.{each-next, each-long}
use Rattle.convert_tables.proofs.tables.push_tables.Goals as goal

few : (l : Axes) (counts : List ℕ) → counts ≡ others_counts l.table.now l.row l.column → AreFewCounts counts
few l counts e = subst AreFewCounts (sym e) (AreFewCounts-others l.table.now l.row l.column l.valid)

pub profile_count-number-end-requires-clause-few : goal.profile_count-number-end-requires-clause-few
profile_count-number-end-requires-clause-few c = (few c.args.axes.now c.args.counts.now c.requires.counts).profiles

pub profile_count-number-end-requires-clause-some : goal.profile_count-number-end-requires-clause-some
profile_count-number-end-requires-clause-some c = (few c.args.axes.now c.args.counts.now c.requires.counts).some

pub set_profile-requires-clause-few : goal.set_profile-requires-clause-few
set_profile-requires-clause-few c = (few c.args.axes.now c.args.counts.now c.requires.counts).few

pub set_profile-requires-clause-some : goal.set_profile-requires-clause-some
set_profile-requires-clause-some c = (few c.args.axes.now c.args.counts.now c.requires.counts).some

-- the table in which the others play the profile with a number
table_at : Axes → ℕ → List ℕ
table_at l k = table_text l.style l.table.now l.row l.column (others_profile l.table.now l.row l.column k)

pub push_table-requires : goal.push_table-requires
push_table-requires c =
    let l = c.args.axes.now in
    let counts = others_counts l.table.now l.row l.column in
    let written : c.set_profile.new.profile ≡ others_profile l.table.now l.row l.column c.loop-number.number = c.set_profile.ensures ∙ ap (λ ns. profile_at ns c.loop-number.number) c.requires.counts in
    let below : c.loop-number.number < profile_count counts = subst (λ v. c.loop-number.number < v) (c.profile_count-number-end.ensures ∙ ap profile_count c.requires.counts) c.loop-number-test.true in
    record { profile = subst (IsProfile counts) (sym written) (IsProfile-profile_at counts c.loop-number.number below) }

pub returns-in_err-push_table-clause-long : goal.returns-in_err-push_table-clause-long
unfolding table_at
returns-in_err-push_table-clause-long c =
    let l = c.args.axes.now in
    let counts = others_counts l.table.now l.row l.column in
    let k = c.loop-number.number in
    let loop = c.loop-number.text.items in
    let written : c.set_profile.new.profile ≡ others_profile l.table.now l.row l.column k = c.set_profile.ensures ∙ ap (λ ns. profile_at ns k) c.requires.counts in
    let n = profile_count counts in
    let below : k + 1 ≤ n = omega (arith, c.profile_count-number-end.ensures ∙ ap profile_count c.requires.counts) in
    let inner : IsErrOf c.from_residual.result layout_stops.TooLong → most_text < length (loop ++ table_text l.style l.table.now l.row l.column c.set_profile.new.profile) = search rules in
    λ is. each-long (table_at l) c.args.text.now.items (loop ++ table_at l k) (k + 1) n most_text below (each-next (table_at l) c.args.text.now.items loop (loop ++ table_at l k) k c.loop-number.invariant refl) (subst (λ v. most_text < length (loop ++ table_text l.style l.table.now l.row l.column v)) written (inner is))

pub loop-number-preserved : goal.loop-number-preserved
unfolding table_at
loop-number-preserved c =
    let l = c.args.axes.now in
    let k = c.loop-number.number in
    let loop = c.loop-number.text.items in
    let written : c.set_profile.new.profile ≡ others_profile l.table.now l.row l.column k = c.set_profile.ensures ∙ ap (λ ns. profile_at ns k) c.requires.counts in
    each-next (table_at l) c.args.text.now.items loop c.push_table.new.text.items k c.loop-number.invariant (c.in_ok-push_table.ensures.table ∙ ap (λ v. loop ++ table_text l.style l.table.now l.row l.column v) written)

pub returns-clause-tables : goal.returns-clause-tables
unfolding table_at
returns-clause-tables c =
    let l = c.args.axes.now in
    let all : c.loop-number.number ≡ profile_count (others_counts l.table.now l.row l.column) = omega (arith, c.profile_count-number-end.ensures ∙ ap profile_count c.requires.counts) in
    c.loop-number.invariant ∙ ap (λ n. c.args.text.now.items ++ flat_map (table_at l) (range_with_len 0 n)) all
