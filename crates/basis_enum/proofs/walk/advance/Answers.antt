use Rattle.std.proofs.Common.{◌≡◌, ◌+◌, ◌≤◌, length, map, refl, sym, subst, arith}
use Rattle.std.specs.List.{Contains}
use Rattle.std.specs.List.Sorted.{IsStrictlyIncreasing}
use Rattle.std.proofs.lemmas.Result.{err_from_is_err_and}
use Rattle.basis_enum.specs.Children.{ArePivots, AreChildren, LeadToReady}
use Rattle.basis_enum.specs.Found.{AreReady}
use Rattle.basis_enum.specs.Merged.{IsMerged}
use Rattle.basis_enum.specs.Levels.{most_bases}
use Rattle.basis_enum.specs.Next.{AreNewPivots, target_of}
use Rattle.basis_enum.specs.Walks.{HaveEntering, IsCountStop, IsLevelStop}
use Rattle.basis_enum.proofs.LevelPivotLemmas.{found_small, new_pivots_are}
use Rattle.basis_enum.proofs.WalkLemmas.{walk_few, walk_ready, walk_next, pivots_are, pivots_enter, pivots_lead, targets_apart, children_ready, count_stop, level_stop}
use Rattle.basis_enum.proofs.walk.advance.Goals as goal

pub known_after-requires-clause-few : goal.known_after-requires-clause-few
known_after-requires-clause-few g c = subst (λ xs. length xs ≤ most_bases) (sym c.as_slice.ensures.value) (walk_few c.args.system.now c.args.number c.args.walk.now c.requires.walk)

pub known_after-requires-clause-known : goal.known_after-requires-clause-known
known_after-requires-clause-known g c = subst IsStrictlyIncreasing (sym c.as_slice.ensures.value) c.requires.walk.ascending

pub known_after-requires-clause-rising : goal.known_after-requires-clause-rising
known_after-requires-clause-rising g c = c.requires.next.firsts.ascending

pub known_after-requires-clause-new : goal.known_after-requires-clause-new
known_after-requires-clause-new g c = λ b k n.
    targets_apart c.args.walk.now.level.items c.args.walk.now.known.items (map target_of c.args.next.now) c.args.next.now c.requires.next refl b (subst (λ xs. Contains xs b) c.as_slice.ensures.value k) n

pub returns-in_err-known-clause-stop : goal.returns-in_err-known-clause-stop
returns-in_err-known-clause-stop g c =
    let p = err_from_is_err_and c.from_residual.result c.from_residual.ensures.1 in
    rw (p.1, p.2) (count_stop c.args.system.now c.args.number c.args.walk.now c.args.next.now c.in_err-known.field-0.0 c.requires.walk c.requires.next c.requires.some (subst (λ xs. IsCountStop (length xs + length c.args.next.now) c.in_err-known.field-0.0) c.as_slice.ensures.value c.in_err-known.ensures.stop))

pub returns-in_err-known-clause-bounded : goal.returns-in_err-known-clause-bounded
returns-in_err-known-clause-bounded g c =
    let few : length c.args.walk.now.known.items ≤ most_bases = walk_few c.args.system.now c.args.number c.args.walk.now c.requires.walk in
    omega arith

pub next_level-requires-clause-expandable : goal.next_level-requires-clause-expandable
next_level-requires-clause-expandable g c = λ _ _.
    let s = c.args.system.now in
    let k = c.args.number in
    let w = c.args.walk.now in
    let next = c.args.next.now in
    let few : length w.known.items + length next ≤ most_bases = subst (λ xs. length xs + length next ≤ most_bases) c.as_slice.ensures.value c.in_ok-known.ensures.few in
    record {
      enumerable = c.requires.enumerable;
      level = subst AreReady (sym c.as_slice-2.ensures.value) (walk_ready s k w c.requires.enumerable c.requires.walk);
      pivots_are = subst (λ l. ArePivots l next) (sym c.as_slice-2.ensures.value) (pivots_are w.level.items w.known.items next c.requires.next);
      ready = subst (λ l. LeadToReady s l next) (sym c.as_slice-2.ensures.value) (pivots_lead s k w next c.requires.enumerable c.requires.walk c.requires.next);
      known = subst IsStrictlyIncreasing (sym c.as_slice-3.ensures.value) c.in_ok-known.ensures.merged.ascending;
      small = omega arith;
    }

pub next_level-requires-clause-entering : goal.next_level-requires-clause-entering
next_level-requires-clause-entering g c = λ _ _.
    subst (λ l. HaveEntering l c.args.next.now) (sym c.as_slice-2.ensures.value) (pivots_enter c.args.walk.now.level.items c.args.walk.now.known.items c.args.next.now c.requires.next)

pub returns-in_err-tableaux-clause-stop : goal.returns-in_err-tableaux-clause-stop
returns-in_err-tableaux-clause-stop g c =
    let few = subst (λ xs. length xs + length c.args.next.now ≤ most_bases) c.as_slice.ensures.value c.in_ok-known.ensures.few in
    let p = err_from_is_err_and c.from_residual-in_err-tableaux.result c.from_residual-in_err-tableaux.ensures.1 in
    rw (p.1, p.2) (level_stop c.args.system.now c.args.number c.args.walk.now c.args.next.now c.in_err-tableaux.field-0.0 c.requires.walk c.requires.next c.requires.some few (subst (λ l. IsLevelStop l c.args.next.now c.args.number c.in_err-tableaux.field-0.0) c.as_slice-2.ensures.value c.in_err-tableaux.ensures.stop))

pub next_pivots-requires : goal.next_pivots-requires
next_pivots-requires g c =
    let few : length c.args.walk.now.known.items + length c.args.next.now ≤ most_bases = subst (λ xs. length xs + length c.args.next.now ≤ most_bases) c.as_slice.ensures.value c.in_ok-known.ensures.few in
    let size : length c.in_ok-tableaux.field-0.tableaux.items ≡ length c.args.next.now = c.in_ok-tableaux.ensures.children.size in
    let children = subst (λ l. AreChildren l c.args.next.now (length c.args.next.now) c.in_ok-tableaux.field-0.tableaux.items) c.as_slice-2.ensures.value c.in_ok-tableaux.ensures.children in
    let lead = pivots_lead c.args.system.now c.args.number c.args.walk.now c.args.next.now c.requires.enumerable c.requires.walk c.requires.next in
    found_small c.in_ok-tableaux.field-0.tableaux.items c.as_slice-3.result.now c.in_ok-tableaux.field-0.found.items
    (children_ready c.args.system.now c.args.walk.now.level.items c.in_ok-tableaux.field-0.tableaux.items c.args.next.now lead children) (omega arith) c.in_ok-tableaux.ensures.found

pub returns-clause-next : goal.returns-clause-next
returns-clause-next g c =
    let few : length c.args.walk.now.known.items + length c.args.next.now ≤ most_bases = subst (λ xs. length xs + length c.args.next.now ≤ most_bases) c.as_slice.ensures.value c.in_ok-known.ensures.few in
    let size : length c.in_ok-tableaux.field-0.tableaux.items ≡ length c.args.next.now = c.in_ok-tableaux.ensures.children.size in
    let children = subst (λ l. AreChildren l c.args.next.now (length c.args.next.now) c.in_ok-tableaux.field-0.tableaux.items) c.as_slice-2.ensures.value c.in_ok-tableaux.ensures.children in
    let lead = pivots_lead c.args.system.now c.args.number c.args.walk.now c.args.next.now c.requires.enumerable c.requires.walk c.requires.next in
    rw (c.replace.ensures.after)
    (subst (λ known. AreNewPivots c.in_ok-tableaux.field-0.tableaux.items known c.next_pivots.result.items) c.as_slice-3.ensures.value
    (new_pivots_are c.in_ok-tableaux.field-0.tableaux.items c.as_slice-3.result.now c.in_ok-tableaux.field-0.found.items c.next_pivots.result.items
    (children_ready c.args.system.now c.args.walk.now.level.items c.in_ok-tableaux.field-0.tableaux.items c.args.next.now lead children) (omega arith) c.in_ok-tableaux.ensures.found c.next_pivots.ensures))

pub returns-clause-walk : goal.returns-clause-walk
returns-clause-walk g c =
    let few = subst (λ xs. length xs + length c.args.next.now ≤ most_bases) c.as_slice.ensures.value c.in_ok-known.ensures.few in
    let children = subst (λ l. AreChildren l c.args.next.now (length c.args.next.now) c.in_ok-tableaux.field-0.tableaux.items) c.as_slice-2.ensures.value c.in_ok-tableaux.ensures.children in
    let merged = subst (λ xs. IsMerged xs (map target_of c.args.next.now) c.in_ok-known.known.items) c.as_slice.ensures.value c.in_ok-known.ensures.merged in
    rw (c.replace.ensures.after)
    (walk_next c.args.system.now c.args.number c.args.walk.now (record { level = c.in_ok-tableaux.field-0.tableaux; known = c.in_ok-known.known; vertices = c.next_level.new.vertices; spent = c.add.new.self }) c.args.next.now (map target_of c.args.next.now)
    c.requires.enumerable c.requires.walk c.requires.next c.requires.some few children refl merged c.in_ok-tableaux.ensures.vertices)

pub returns-in_err-tableaux-clause-bounded : goal.returns-in_err-tableaux-clause-bounded
returns-in_err-tableaux-clause-bounded g c =
    let few : length c.args.walk.now.known.items + length c.args.next.now ≤ most_bases = subst (λ xs. length xs + length c.args.next.now ≤ most_bases) c.as_slice.ensures.value c.in_ok-known.ensures.few in
    let more : c.next_level.new.pivots ≤ c.args.pivots.now + length c.args.next.now = c.next_level.ensures.bounded in
    omega (arith, few, more)

pub returns-in_err-tableaux-clause-risen : goal.returns-in_err-tableaux-clause-risen
returns-in_err-tableaux-clause-risen g c = c.next_level.ensures.risen

pub returns-clause-bounded : goal.returns-clause-bounded
returns-clause-bounded g c =
    let few : length c.args.walk.now.known.items + length c.args.next.now ≤ most_bases = subst (λ xs. length xs + length c.args.next.now ≤ most_bases) c.as_slice.ensures.value c.in_ok-known.ensures.few in
    let more : c.next_level.new.pivots ≤ c.args.pivots.now + length c.args.next.now = c.next_level.ensures.bounded in
    omega (arith, few, more)

pub returns-clause-risen : goal.returns-clause-risen
returns-clause-risen g c = c.next_level.ensures.risen
