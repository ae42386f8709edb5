-- The refusals by which the layers' reasons to stop are told.
use Rattle.words.specs.declared.SettingsStop.{SettingsStop}
use Rattle.words.specs.declared.SettingsStop.TheVariants as settings_stop
use Rattle.game_text.specs.declared.reading.TextStop.{TextStop}
use Rattle.game_text.specs.declared.reading.TextStop.TheVariants as text_stop
use Rattle.nfg_reader.specs.declared.reading.NfgStop.{NfgStop}
use Rattle.nfg_reader.specs.declared.reading.NfgStop.TheVariants as nfg_stop
use Rattle.efg_reader.specs.declared.fault.EfgStop.{EfgStop}
use Rattle.efg_reader.specs.declared.fault.EfgStop.TheVariants as efg_stop
use Rattle.reduced_form.specs.declared.stop.ReduceStop.{ReduceStop}
use Rattle.reduced_form.specs.declared.stop.ReduceStop.TheVariants as reduce_stop
use Rattle.enumpure_trees.specs.declared.stop.ChoiceStop.{ChoiceStop}
use Rattle.enumpure_trees.specs.declared.stop.ChoiceStop.TheVariants as choice_stop
use Rattle.enumpure.specs.declared.listing.ListStop.{ListStop}
use Rattle.enumpure.specs.declared.listing.ListStop.TheVariants as list_stop
use Rattle.enummixed.specs.declared.stop.MixedStop.{MixedStop}
use Rattle.enummixed.specs.declared.stop.MixedStop.TheVariants as mixed_stop
use Rattle.perfect_recall.specs.declared.recall.RecallStop.{RecallStop}
use Rattle.perfect_recall.specs.declared.recall.RecallStop.TheVariants as recall_stop
use Rattle.sequence_data.specs.declared.stop.SeqStop.{SeqStop}
use Rattle.sequence_data.specs.declared.stop.SeqStop.TheVariants as sequence_stop
use Rattle.lex_tableau.specs.declared.unfit_pivot.UnfitPivot.{UnfitPivot}
use Rattle.zero_sum_lp.specs.declared.stop.LpStop.{LpStop}
use Rattle.zero_sum_lp.specs.declared.stop.LpStop.TheVariants as lp_stop
use Rattle.zero_sum_lp.specs.declared.stop.PlanStop.{PlanStop}
use Rattle.zero_sum_lp.specs.declared.stop.PlanStop.TheVariants as plan_stop
use Rattle.lemke_pivot.specs.declared.stop.LcpStop.{LcpStop}
use Rattle.lemke_pivot.specs.declared.stop.LcpStop.TheVariants as lcp_stop
use Rattle.behaviour_profile.specs.declared.plans.BehaviourStop.{BehaviourStop}
use Rattle.behaviour_profile.specs.declared.plans.BehaviourStop.TheVariants as behaviour_stop
use Rattle.convert_tables.specs.declared.stops.ConvertStop.{ConvertStop}
use Rattle.convert_tables.specs.declared.stops.ConvertStop.TheVariants as convert_stop
use Rattle.ne_checker.specs.declared.stops.CheckStop.{CheckStop}
use Rattle.ne_checker.specs.declared.stops.CheckStop.TheVariants as check_stop
use Rattle.kept_strategies.specs.declared.kept_stop.KeptStop.{KeptStop}
use Rattle.kept_strategies.specs.declared.kept_stop.KeptStop.TheVariants as kept_stop
use Rattle.refusals.specs.declared.site.Site.TheVariants as site
use Rattle.refusals.specs.declared.refusal.Refusal.{Refusal}
use Rattle.refusals.specs.declared.refusal.Refusal.TheVariants as refusal

-- the refusal that tells why the words give no settings
abbrev pub settings_refusal : SettingsStop → Refusal
settings_refusal (settings_stop.Usage usage) = refusal.Usage usage
settings_refusal settings_stop.Memory = refusal.Memory

-- the refusal that tells why a text is not read
abbrev pub text_refusal : TextStop → Refusal
text_refusal (text_stop.Fault fault) = refusal.Text fault
text_refusal text_stop.Memory = refusal.Memory

-- the refusal that tells why a table's file is not read
abbrev pub nfg_refusal : NfgStop → Refusal
nfg_refusal (nfg_stop.Fault fault) = refusal.Nfg fault
nfg_refusal (nfg_stop.TooLarge limit) = refusal.TooLarge limit
nfg_refusal nfg_stop.Memory = refusal.Memory

-- the refusal that tells why a tree's file is not read
abbrev pub efg_refusal : EfgStop → Refusal
efg_refusal (efg_stop.Fault fault) = refusal.Efg fault
efg_refusal (efg_stop.TooLarge limit) = refusal.TooLarge limit
efg_refusal efg_stop.Memory = refusal.Memory

-- the refusal that tells why there is no reduced form
abbrev pub form_refusal : ReduceStop → Refusal
form_refusal (reduce_stop.TooLarge limit) = refusal.TooLarge limit
form_refusal (reduce_stop.Range profile player step) = refusal.Range (site.Cell profile player) step
form_refusal reduce_stop.Memory = refusal.Memory

-- the refusal that tells why lines are not listed
abbrev pub list_refusal : ListStop → Refusal
list_refusal (list_stop.TooLarge limit) = refusal.TooLarge limit
list_refusal list_stop.Memory = refusal.Memory

-- the refusal that tells why the choices that pass are not listed
abbrev pub choice_refusal : ChoiceStop → Refusal
choice_refusal (choice_stop.TooLarge limit) = refusal.TooLarge limit
choice_refusal (choice_stop.Range choice node player step) =
    refusal.Range (site.Choice choice node player) step
choice_refusal choice_stop.Memory = refusal.Memory

-- ---- tools for two players
-- the refusal that tells why recall is not found
abbrev pub recall_refusal : RecallStop → Refusal
recall_refusal (recall_stop.Forgets f) = refusal.Forgets f
recall_refusal recall_stop.Memory = refusal.Memory

-- the refusal that tells why there is no sequence form
abbrev pub sequence_refusal : SeqStop → Refusal
sequence_refusal (sequence_stop.NotTwoPlayers count) = refusal.NotTwoPlayers count
sequence_refusal (sequence_stop.Range place step) = refusal.Range (site.Place place) step
sequence_refusal sequence_stop.Memory = refusal.Memory

-- the refusal that tells why there is no linear program
abbrev pub program_refusal : LpStop → Refusal
program_refusal (lp_stop.TooLarge limit) = refusal.TooLarge limit
program_refusal (lp_stop.SumRange place step) = refusal.Range (site.Sum place) step
program_refusal (lp_stop.NotConstant sums) = refusal.NotConstant sums
program_refusal (lp_stop.GainRange row column step) = refusal.Range (site.Gain row column) step
program_refusal (lp_stop.Start row step) = refusal.Range (site.Start row) step
program_refusal lp_stop.Memory = refusal.Memory

-- the refusal that tells of a pivot with a step that does not fit
abbrev pub pivot_refusal : UnfitPivot → Refusal
pivot_refusal stop = refusal.Range (site.Step stop.number stop.entering) stop.unfit

-- the refusal that tells why there are no plans
abbrev pub plan_refusal : PlanStop → Refusal
plan_refusal (plan_stop.Range player step) = refusal.Range (site.Plan player) step
plan_refusal plan_stop.Memory = refusal.Memory

-- the refusal that tells why there is no complementarity problem
abbrev pub problem_refusal : LcpStop → Refusal
problem_refusal (lcp_stop.TooLarge limit) = refusal.TooLarge limit
problem_refusal (lcp_stop.Range player row column step) =
    refusal.Range (site.Cost player row column) step
problem_refusal (lcp_stop.Start row step) = refusal.Range (site.Start row) step
problem_refusal lcp_stop.Memory = refusal.Memory

-- the refusal that tells why there is no behaviour
abbrev pub behaviour_refusal : BehaviourStop → Refusal
behaviour_refusal (behaviour_stop.Range player set step) =
    refusal.Range (site.Behaviour player set) step
behaviour_refusal behaviour_stop.Memory = refusal.Memory

-- the refusal that tells why extreme equilibria are not listed
abbrev pub mixed_refusal : MixedStop → Refusal
mixed_refusal (mixed_stop.NotTwoPlayers count) = refusal.NotTwoPlayers count
mixed_refusal (mixed_stop.TooLarge limit) = refusal.TooLarge limit
mixed_refusal (mixed_stop.Shift player profile step) =
    refusal.Range (site.Shift player profile) step
mixed_refusal (mixed_stop.Start polytope row step) =
    refusal.Range (site.PolytopeStart polytope row) step
mixed_refusal (mixed_stop.Range polytope level basis entering step) =
    refusal.Range (site.Level polytope level basis entering) step
mixed_refusal (mixed_stop.Scale polytope step) = refusal.Range (site.Scaling polytope) step
mixed_refusal mixed_stop.Memory = refusal.Memory

-- the refusal that tells why a table is not written
abbrev pub convert_refusal : ConvertStop → Refusal
convert_refusal (convert_stop.NoSuchPlayer number) = refusal.NoSuchPlayer number
convert_refusal (convert_stop.SamePlayer number) = refusal.SamePlayer number
convert_refusal (convert_stop.TooLarge limit) = refusal.TooLarge limit
convert_refusal convert_stop.Memory = refusal.Memory

-- the refusal that tells why lines are not checked
abbrev pub check_refusal : CheckStop → Refusal
check_refusal (check_stop.BadLine line) = refusal.BadLine line
check_refusal (check_stop.Range line step) = refusal.Range (site.Line line) step
check_refusal (check_stop.TooLarge limit) = refusal.TooLarge limit
check_refusal check_stop.Memory = refusal.Memory

-- the refusal that tells why dominated strategies are not looked for
abbrev pub kept_refusal : KeptStop → Refusal
kept_refusal (kept_stop.NotTwoPlayers count) = refusal.NotTwoPlayers count
kept_refusal (kept_stop.TooLarge limit) = refusal.TooLarge limit
kept_refusal kept_stop.Memory = refusal.Memory
