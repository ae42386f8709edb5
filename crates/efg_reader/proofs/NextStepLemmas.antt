-- A further node as the code reads it.
use Rattle.std.proofs.Common.{◌≡◌, ◌≢◌, ℕ, suc, ◌≤◌, nat_eq, true, false, List, [], ◌∷◌, ◌++◌, length, Option, Some, None, slice_get, slice_set, inl, inr, refl, sym, ap, ◌∙◌, length-append, arith}
use Rattle.std.proofs.lemmas.List.{length-set}
use Rattle.std.specs.Prelude.{Result, Ok, Err, codes}
use Rattle.game_core.specs.declared.tree.Kind.TheVariants.{End}
use Rattle.file_parts.specs.declared.stop.PartStop.{PartStop}
use Rattle.file_parts.specs.declared.stop.PartStop.TheVariants as part_stops
use Rattle.game_core.specs.declared.too_large.What.{What}
use Rattle.efg_reader.specs.declared.nodes.NodesStop.TheVariants.{Refused}
use Rattle.efg_reader.specs.States.{IsStop}
use Rattle.tree_grammar.proofs.NodeStopLemmas.{MayStand, at_is, unlimited_ok}
use Rattle.file_parts.specs.Reading.{word_at, text_at, whole_at, optional_text_at, count_at}
use Rattle.file_parts.specs.Parsing.{Parsed, IsPartStop, unexpected_at, wanted}
use Rattle.file_parts.proofs.ParseLemmas.{refused_first}
use Rattle.file_parts.proofs.ReaderLemmas.{bind_ok, ok_same, err_same, ok_err}
use Rattle.written_trees.specs.Written.{SetUse, OutcomeUse}
use Rattle.written_trees.specs.Building.{PartialTree, Branching, PartialSet, PartialOutcome, set_place, outcome_place, passed, new_set, used_set, new_outcome, used_outcome, UsedSet, with_parts}
use Rattle.tree_grammar.specs.TreePieces.{begins_node}
use Rattle.tree_grammar.specs.TreeParsing.{grown_at, grown, bare_use, parse_first_list, parse_later_list, parse_use, parse_set, parse_player, parse_set_choice, parse_own_choice, parse_after, parse_choice, bare_outcome_use, parse_first_payoffs, parse_later_payoffs, parse_outcome_use, parse_named, parse_outcome, parse_next, parse_at, within_limit}
use Rattle.tree_grammar.specs.declared.kinds.EfgKind.{EfgKind}
use Rattle.tree_grammar.specs.declared.kinds.EfgKind.TheVariants.{Node}
use Rattle.tree_grammar.proofs.NodeStepLemmas.{with_uses}
use Rattle.std.proofs.lemmas.Option.{same_Some}
use Rattle.game_core.specs.declared.token.Token.{Token}
use Rattle.std.proofs.lemmas.Bool.{cases_Bool}
use Rattle.std.specs.Str.{bytes_eq}

-- no node's word comes
pub no_word : (players : ℕ) (partial : PartialTree) (branchings : List Branching) (tokens : List Token) (stopped : PartStop EfgKind) → begins_node tokens ≡ false → stopped ≡ part_stops.Unexpected (unexpected_at Node tokens) → IsStop (Refused stopped) (parse_at players partial branchings tokens)
no_word players partial [] tokens stopped n u = rw u (tokens, refl, refl)
no_word players partial (b ∷ branchings) tokens stopped n u = rw u (tokens, rw n refl, refl)

-- a limit is passed
beyond_at : (players : ℕ) (partial : PartialTree) (branchings : List Branching) (tokens : List Token) (what : What) → branchings ≢ [] → begins_node tokens ≡ true → passed partial ≡ Some what → parse_at players partial branchings tokens ≡ Err (inr what)
beyond_at players partial [] tokens what some n limit = absurd (some refl)
beyond_at players partial (b ∷ branchings) tokens what some n limit = rw (n, limit) refl

pub beyond : (players : ℕ) (partial : PartialTree) (tokens : List Token) (what : What) → partial.branchings ≢ [] → begins_node tokens ≡ true → passed partial ≡ Some what → parse_at players partial partial.branchings tokens ≡ Err (inr what)
beyond players partial tokens what some n limit = beyond_at players partial partial.branchings tokens what some n limit

-- ---- the node
-- a stop of a part is one of the nodes
refused_stop : {Y : Type 0} (stopped : PartStop EfgKind) (reading : Result Y (EfgKind × List Token)) → IsPartStop stopped reading → IsStop (Refused stopped) (within_limit None reading)
refused_stop (part_stops.Unexpected unfit) (Ok x) r = cc
refused_stop (part_stops.Unexpected unfit) (Err fault) r =
    let same = err_same (fault.0, length fault.1) (unfit.kind, unfit.left) r in
    (fault.1, ap (λ (k : EfgKind). Err (inl (k, fault.1))) (ap (λ (f : EfgKind × ℕ). f.0) same), ap (λ (f : EfgKind × ℕ). f.1) same)
refused_stop part_stops.Memory reading r = tt

-- where a node may stand
may_by : (partial : PartialTree) (branchings : List Branching) (tokens : List Token) → branchings ≢ [] → begins_node tokens ≡ true → passed partial ≡ None → MayStand partial branchings tokens
may_by partial [] tokens some n room = absurd (some refl)
may_by partial (b ∷ rest) tokens some n room = record { first = b; others = rest; are = refl; begins = n; room = room }

pub may_stand : (partial : PartialTree) (tokens : List Token) → partial.branchings ≢ [] → begins_node tokens ≡ true → passed partial ≡ None → MayStand partial partial.branchings tokens
may_stand partial tokens some n room = may_by partial partial.branchings tokens some n room

-- the choice is not read
pub choice_refused : (players : ℕ) (partial : PartialTree) (tokens : List Token) (stopped : PartStop EfgKind) → MayStand partial partial.branchings tokens → IsPartStop stopped (parse_choice players (length partial.nodes) partial.sets tokens) → IsStop (Refused stopped) (parse_at players partial partial.branchings tokens)
unfolding parse_next
choice_refused players partial tokens stopped m r = rw (at_is players partial partial.branchings tokens m) (refused_stop stopped (parse_next players partial m.first m.others tokens) (refused_first stopped (parse_choice players (length partial.nodes) partial.sets tokens) _ r))

-- the outcome is not read
pub outcome_refused : (players : ℕ) (partial : PartialTree) (tokens : List Token) (stopped : PartStop EfgKind) (c : UsedSet × List Token) → MayStand partial partial.branchings tokens → parse_choice players (length partial.nodes) partial.sets tokens ≡ Ok c → IsPartStop stopped (parse_outcome players partial.outcomes c.1) → IsStop (Refused stopped) (parse_at players partial partial.branchings tokens)
unfolding parse_next
outcome_refused players partial tokens stopped c m e r =
    let refused : IsPartStop stopped (parse_next players partial m.first m.others tokens) = rw e (refused_first stopped (parse_outcome players partial.outcomes c.1) _ r) in
    rw (at_is players partial partial.branchings tokens m) (refused_stop stopped (parse_next players partial m.first m.others tokens) refused)

-- both are read, and the tree grows
pub node_added : (players : ℕ) (partial more : PartialTree) (tokens : List Token) (c : UsedSet × List Token) (o : (List PartialOutcome × Option ℕ) × List Token) → MayStand partial partial.branchings tokens → parse_choice players (length partial.nodes) partial.sets tokens ≡ Ok c → parse_outcome players partial.outcomes c.1 ≡ Ok o
    → grown (with_uses partial c.0.0 o.0.0) c.0.1.0 c.0.1.1 o.0.1 ≡ Some more → parse_at players partial partial.branchings tokens ≡ Ok (more, o.1)
unfolding parse_next
node_added players partial more tokens c o m e f g =
    let here : grown_at (with_uses partial c.0.0 o.0.0) c.0.1.0 c.0.1.1 o.0.1 (m.first ∷ m.others) ≡ Some more = ap (grown_at (with_uses partial c.0.0 o.0.0) c.0.1.0 c.0.1.1 o.0.1) (sym m.are) ∙ g in
    let same : with_parts partial m.first m.others c.0 o.0 ≡ more = same_Some _ _ here in
    let read : parse_next players partial m.first m.others tokens ≡ Ok (more, o.1) = rw (e, f) (ap (λ (b : PartialTree). Ok (b, o.1)) same) in
    at_is players partial partial.branchings tokens m ∙ unlimited_ok (parse_next players partial m.first m.others tokens) (more, o.1) read

-- ---- how many sets and outcomes there are
-- one more set at most
use_adds : (k : ℕ) (sets : List PartialSet) (used : SetUse) (found : Option PartialSet) (tokens : List Token) (x : List PartialSet × List Token) → parse_use k sets used found tokens ≡ Ok x → length x.0 ≤ suc (length sets)
use_adds k sets used None tokens x e =
    let a = bind_ok (parse_first_list used.owner used.label tokens) _ x e in
    let same : length (sets ++ new_set k used a.0.0 ∷ []) ≡ length x.0 = ap (λ (z : List PartialSet × List Token). length z.0) (ok_same _ x a.2) in
    let one = length-append sets (new_set k used a.0.0 ∷ []) in
    omega (arith, same, one)
use_adds k sets used (Some set) tokens x e =
    let a = bind_ok (parse_later_list set.owner set.actions tokens) _ x e in
    let place = set_place sets (used.owner, used.label) in
    let same : length (slice_set sets place (used_set k used set)) ≡ length x.0 = ap (λ (z : List PartialSet × List Token). length z.0) (ok_same _ x a.2) in
    let all = length-set sets place (used_set k used set) in
    omega (arith, same, all)

set_adds : (k : ℕ) (sets : List PartialSet) (owner : Option ℕ) (tokens : List Token) (x : (List PartialSet × ℕ) × List Token) → parse_set k sets owner tokens ≡ Ok x → length x.0.0 ≤ suc (length sets)
unfolding parse_set
set_adds k sets owner tokens x e =
    let a = bind_ok (wanted Node tokens (count_at tokens)) _ x e in
    let used = bare_use owner a.0.0 (optional_text_at a.0.1).0 in
    let found = slice_get sets (set_place sets (owner, a.0.0)) in
    let b = bind_ok (parse_use k sets used found (optional_text_at a.0.1).1) _ x a.2 in
    let same : length b.0.0 ≡ length x.0.0 = ap (λ (z : (List PartialSet × ℕ) × List Token). length z.0.0) (ok_same _ x b.2) in
    let few = use_adds k sets used found (optional_text_at a.0.1).1 b.0 b.1 in
    omega (arith, same, few)

set_choice_adds : (k : ℕ) (sets : List PartialSet) (owner : Option ℕ) (tokens : List Token) (x : UsedSet × List Token) → parse_set_choice k sets owner tokens ≡ Ok x → length x.0.0 ≤ suc (length sets)
unfolding parse_set_choice
set_choice_adds k sets owner tokens x e =
    let a = bind_ok (parse_set k sets owner tokens) _ x e in
    let same : length a.0.0.0 ≡ length x.0.0 = ap (λ (z : UsedSet × List Token). length z.0.0) (ok_same _ x a.2) in
    let few = set_adds k sets owner tokens a.0 a.1 in
    omega (arith, same, few)

own_choice_adds : (players k : ℕ) (sets : List PartialSet) (tokens : List Token) (x : UsedSet × List Token) → parse_own_choice players k sets tokens ≡ Ok x → length x.0.0 ≤ suc (length sets)
unfolding parse_own_choice
own_choice_adds players k sets tokens x e = let a = bind_ok (parse_player players tokens) _ x e in set_choice_adds k sets (Some a.0.0) a.0.1 x a.2

after_adds : (players k : ℕ) (sets : List PartialSet) (word : List ℕ) (start tokens : List Token) (x : UsedSet × List Token) → parse_after players k sets word start tokens ≡ Ok x → length x.0.0 ≤ suc (length sets)
after_adds players k sets word start tokens x e = elim (cases_Bool (bytes_eq word (codes "c"))) [
  | inl c ↦ let f : parse_set_choice k sets None tokens ≡ Ok x = rw c at e in set_choice_adds k sets None tokens x f
  | inr c ↦ elim (cases_Bool (bytes_eq word (codes "p"))) [
    | inl p ↦ let f : parse_own_choice players k sets tokens ≡ Ok x = rw (c, p) at e in own_choice_adds players k sets tokens x f
    | inr p ↦ elim (cases_Bool (bytes_eq word (codes "t"))) [
      | inl t ↦
          let f : ◌≡◌ {A = Parsed EfgKind UsedSet} (Ok ((sets, (End, None)), tokens)) (Ok x) = rw (c, p, t) at e in
          let same : length sets ≡ length x.0.0 = ap (λ (z : UsedSet × List Token). length z.0.0) (ok_same _ x f) in
          omega (arith, same)
      | inr t ↦ let f : ◌≡◌ {A = Parsed EfgKind UsedSet} (Err (Node, start)) (Ok x) = rw (c, p, t) at e in absurd (ok_err x (Node, start) (sym f))
    ]
  ]
]

pub few_sets_more : (players k : ℕ) (sets : List PartialSet) (tokens : List Token) (x : UsedSet × List Token) → parse_choice players k sets tokens ≡ Ok x → length x.0.0 ≤ suc (length sets)
unfolding parse_choice
few_sets_more players k sets tokens x e =
    let w = bind_ok (wanted Node tokens (word_at tokens)) _ x e in
    let n = bind_ok (wanted Node w.0.1 (text_at w.0.1)) _ x w.2 in
    after_adds players k sets w.0.0 tokens n.0.1 x n.2

-- one more outcome at most
outcome_adds : (players : ℕ) (outcomes : List PartialOutcome) (used : OutcomeUse) (found : Option PartialOutcome) (tokens : List Token) (x : List PartialOutcome × List Token) → parse_outcome_use players outcomes used found tokens ≡ Ok x → length x.0 ≤ suc (length outcomes)
outcome_adds players outcomes used None tokens x e =
    let a = bind_ok (parse_first_payoffs players tokens) _ x e in
    let same : length (outcomes ++ new_outcome used a.0.0 ∷ []) ≡ length x.0 = ap (λ (z : List PartialOutcome × List Token). length z.0) (ok_same _ x a.2) in
    let one = length-append outcomes (new_outcome used a.0.0 ∷ []) in
    omega (arith, same, one)
outcome_adds players outcomes used (Some outcome) tokens x e =
    let a = bind_ok (parse_later_payoffs outcome.payoffs tokens) _ x e in
    let place = outcome_place outcomes used.label in
    let same : length (slice_set outcomes place (used_outcome used outcome)) ≡ length x.0 = ap (λ (z : List PartialOutcome × List Token). length z.0) (ok_same _ x a.2) in
    let all = length-set outcomes place (used_outcome used outcome) in
    omega (arith, same, all)

named_adds : (players label : ℕ) (outcomes : List PartialOutcome) (tokens : List Token) (x : (List PartialOutcome × Option ℕ) × List Token) → parse_named players label outcomes tokens ≡ Ok x → length x.0.0 ≤ suc (length outcomes)
unfolding parse_named
named_adds players label outcomes tokens x e =
    let used = bare_outcome_use label (optional_text_at tokens).0 in
    let found = slice_get outcomes (outcome_place outcomes label) in
    let b = bind_ok (parse_outcome_use players outcomes used found (optional_text_at tokens).1) _ x e in
    let same : length b.0.0 ≡ length x.0.0 = ap (λ (z : (List PartialOutcome × Option ℕ) × List Token). length z.0.0) (ok_same _ x b.2) in
    let few = outcome_adds players outcomes used found (optional_text_at tokens).1 b.0 b.1 in
    omega (arith, same, few)

pub few_outcomes_more : (players : ℕ) (outcomes : List PartialOutcome) (tokens : List Token) (x : (List PartialOutcome × Option ℕ) × List Token) → parse_outcome players outcomes tokens ≡ Ok x → length x.0.0 ≤ suc (length outcomes)
unfolding parse_outcome
few_outcomes_more players outcomes tokens x e =
    let a = bind_ok (wanted Node tokens (whole_at tokens)) _ x e in
    elim (cases_Bool (nat_eq a.0.0 0)) [
      | inl z ↦
          let f : ◌≡◌ {A = Parsed EfgKind (List PartialOutcome × Option ℕ)} (Ok ((outcomes, None), a.0.1)) (Ok x) = rw z at a.2 in
          let same : length outcomes ≡ length x.0.0 = ap (λ (z : (List PartialOutcome × Option ℕ) × List Token). length z.0.0) (ok_same _ x f) in
          omega (arith, same)
      | inr z ↦ let f : parse_named players a.0.0 outcomes a.0.1 ≡ Ok x = rw z at a.2 in named_adds players a.0.0 outcomes a.0.1 x f
    ]
