-- Nodes as the loop reads them.
use Rattle.std.proofs.Common.{◌≡◌, ℕ, zero, suc, ◌<◌, ◌≢◌, nat_eq, Bool, true, false, List, [], length, map, Ok, Err, inl, inr, refl, sym, ap, ◌∙◌, subst, arith}
use Rattle.std.specs.List.{AllByRecursion}
use Rattle.game_core.specs.Spacing.{IsShortToken}
use Rattle.std.specs.Prelude.{Vec, vec_len}
use Rattle.std.specs.Global.{Global}
use Rattle.std.proofs.lemmas.List.{length-map, length-reverse}
use Rattle.file_parts.specs.declared.stop.PartStop.{PartStop}
use Rattle.file_parts.specs.declared.stop.PartStop.TheVariants as part_stops
use Rattle.file_parts.specs.Reading.{ends}
use Rattle.file_parts.specs.Parsing.{unexpected_at}
use Rattle.written_trees.specs.Building.{PartialTree, Branching, root_alone}
use Rattle.efg_reader.specs.declared.builder.Branching.{Branching as Kept}
use Rattle.efg_reader.specs.declared.nodes.NodesStop.{NodesStop}
use Rattle.efg_reader.specs.declared.nodes.NodesStop.TheVariants.{Refused, Passed}
use Rattle.efg_reader.specs.States.{branching_of, branchings_of, IsStop}
use Rattle.tree_grammar.specs.TreeParsing.{NodeStop, is_whole, parse_at, parse_nodes, parse_all_nodes}
use Rattle.tree_grammar.specs.declared.kinds.EfgKind.{EfgKind}
use Rattle.tree_grammar.specs.declared.kinds.EfgKind.TheVariants.{Trailing}
use Rattle.tree_grammar.proofs.NodeLaws.{of_back}
use Rattle.tree_grammar.proofs.NodeValueLemmas.{Keeps}
use Rattle.tree_grammar.proofs.NodesReadLaws.{nothing_keeps, next_is, next_keeps, next_takes}
use Rattle.game_core.specs.declared.token.Token.{Token}

-- what is still to be read gives the whole
pub record IsUnderWay (players : ℕ) (partial : PartialTree) (rest tokens : List Token) : Type 0 where
  pub steps : ℕ
  pub enough : length rest < steps
  pub gives : parse_nodes steps players partial rest ≡ parse_nodes (suc (length tokens)) players root_alone tokens
  pub keeps : Keeps players partial
  pub short : AllByRecursion IsShortToken rest

-- nothing is read yet
pub at_first : (players : ℕ) (tokens : List Token) → AllByRecursion IsShortToken tokens → IsUnderWay players root_alone tokens tokens
at_first players tokens short = record { steps = suc (length tokens); enough = omega arith; gives = refl; keeps = nothing_keeps players; short = short }

-- one step, where a branch is open
one_step : (steps players : ℕ) (partial : PartialTree) (rest : List Token) (x : PartialTree × List Token) → is_whole partial ≡ false → parse_at players partial partial.branchings rest ≡ Ok x → parse_nodes (suc steps) players partial rest ≡ parse_nodes steps players x.0 x.1
one_step steps players partial rest x w e = rw (w, e) refl

-- a further node was read
pub goes_on : (players : ℕ) (partial more : PartialTree) (rest after tokens : List Token) → is_whole partial ≡ false → parse_at players partial partial.branchings rest ≡ Ok (more, after) → IsUnderWay players partial rest tokens → IsUnderWay players more after tokens
goes_on players partial more rest after tokens free read way = go way.steps way.enough way.gives
  where
    go : (steps : ℕ) → length rest < steps → parse_nodes steps players partial rest ≡ parse_nodes (suc (length tokens)) players root_alone tokens → IsUnderWay players more after tokens
    go zero enough gives = absurd (omega arith)
    go (suc steps) enough gives =
        let n = next_is players partial rest (more, after) way.keeps read in
        let shorter = next_takes players partial rest (more, after) n in
        record {
          steps = steps;
          enough = omega (arith, shorter, enough);
          gives = sym (one_step steps players partial rest (more, after) free read) ∙ gives;
          keeps = next_keeps players partial rest (more, after) way.keeps n;
          short = of_back IsShortToken n.part after (subst (AllByRecursion IsShortToken) n.is way.short);
        }

-- so is a node shorter than its tokens
pub takes : (players : ℕ) (partial more : PartialTree) (rest after tokens : List Token) → parse_at players partial partial.branchings rest ≡ Ok (more, after) → IsUnderWay players partial rest tokens → length after < length rest
takes players partial more rest after tokens read way = next_takes players partial rest (more, after) (next_is players partial rest (more, after) way.keeps read)

-- ---- nodes that are refused
-- where no further node is read, no nodes are
stuck : (players : ℕ) (partial : PartialTree) (rest tokens : List Token) (stop : NodeStop) → is_whole partial ≡ false → parse_at players partial partial.branchings rest ≡ Err stop → IsUnderWay players partial rest tokens → parse_all_nodes players tokens ≡ Err stop
unfolding parse_all_nodes
stuck players partial rest tokens stop free e way = go way.steps way.enough way.gives
  where
    go : (steps : ℕ) → length rest < steps → parse_nodes steps players partial rest ≡ parse_nodes (suc (length tokens)) players root_alone tokens → parse_all_nodes players tokens ≡ Err stop
    go zero enough gives = absurd (omega arith)
    go (suc steps) enough gives =
        let whole : parse_nodes (suc (length tokens)) players root_alone tokens ≡ Err stop = sym gives ∙ rw (free, e) refl in
        rw whole refl

pub refuses_all : (stop : NodesStop) (players : ℕ) (partial : PartialTree) (rest tokens : List Token) → is_whole partial ≡ false → IsStop stop (parse_at players partial partial.branchings rest) → IsUnderWay players partial rest tokens → IsStop stop (parse_all_nodes players tokens)
refuses_all (Refused part_stops.Memory) players partial rest tokens free r way = tt
refuses_all (Refused (part_stops.Unexpected fault)) players partial rest tokens free r way = (r.0, stuck players partial rest tokens (inl (fault.kind, r.0)) free r.1 way, r.2)
refuses_all (Passed what) players partial rest tokens free r way = stuck players partial rest tokens (inr what) free r way

-- ---- the file
-- no branch is open any more
pub comes_to_end : (players : ℕ) (partial : PartialTree) (rest tokens : List Token) → is_whole partial ≡ true → IsUnderWay players partial rest tokens → parse_nodes (suc (length tokens)) players root_alone tokens ≡ Ok (partial, rest)
comes_to_end players partial rest tokens whole way = go way.steps way.enough way.gives
  where
    go : (steps : ℕ) → length rest < steps → parse_nodes steps players partial rest ≡ parse_nodes (suc (length tokens)) players root_alone tokens → parse_nodes (suc (length tokens)) players root_alone tokens ≡ Ok (partial, rest)
    go zero enough gives = absurd (omega arith)
    go (suc steps) enough gives = sym gives ∙ rw whole refl

-- the file ends after the nodes
pub whole_read : (players : ℕ) (partial : PartialTree) (tokens rest : List Token) → is_whole partial ≡ true → IsUnderWay players partial rest tokens → ends rest ≡ true → parse_all_nodes players tokens ≡ Ok partial
unfolding parse_all_nodes
whole_read players partial tokens rest w way f = rw (comes_to_end players partial rest tokens w way, f) refl

-- tokens stand after the nodes
pub more_after : (players : ℕ) (partial : PartialTree) (tokens rest : List Token) (stopped : PartStop EfgKind) → is_whole partial ≡ true → IsUnderWay players partial rest tokens → ends rest ≡ false → stopped ≡ part_stops.Unexpected (unexpected_at Trailing rest) → IsStop (Refused stopped) (parse_all_nodes players tokens)
unfolding parse_all_nodes
more_after players partial tokens rest stopped w way f u = rw u (rest, rw (comes_to_end players partial rest tokens w way, f) refl, refl)

-- ---- the places
-- whether the tree is whole, by the branchings that are kept
pub whole_by_kept : (kept : Vec Kept Global) (v : Bool) → v ≡ nat_eq (vec_len kept) 0 → v ≡ nat_eq (length (branchings_of kept.items)) 0
whole_by_kept kept v e =
    let same : length (branchings_of kept.items) ≡ vec_len kept = length-reverse (map branching_of kept.items) ∙ length-map kept.items branching_of ∙ sym kept.ok.0 in
    e ∙ ap (λ (n : ℕ). nat_eq n 0) (sym same)

-- where the tree is not whole, something branches
pub some_branching : (partial : PartialTree) → is_whole partial ≡ false → partial.branchings ≢ []
some_branching partial e none = let whole : is_whole partial ≡ true = ap (λ (list : List Branching). nat_eq (length list) 0) none in cc
