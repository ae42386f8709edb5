-- The tableaux of the next level, one after the other
use Rattle.std.proofs.Common.{ℕ, ◌<◌, ◌≤◌, ◌≡◌, ◌+◌, refl, sym, ap, ◌∙◌, subst, subst₂, arith, inl, inr, List, [], ◌∷◌, ◌++◌, length, get_or, map, take, eq-or-lt_of_le, All, Result, Ok, Err}
use Rattle.std.specs.Prelude.{Contains, IfOk, OnOk}
use Rattle.std.proofs.Math.Seq.{get_or-append_seam}
use Rattle.std.proofs.Math.ListN.{get_or-map}
use Rattle.std.proofs.lemmas.List.{length-append, length-map, length-take-le, get_or_append_left, get_or_default, get_or-take}
use Rattle.std.proofs.lemmas.List.Elements.{Contains-get_or}
use Rattle.frac128.specs.declared.steps.Unfit.{Unfit}
use Rattle.lex_tableau.specs.Rows.{WholeTableau, IsTableau, IsPivotOf}
use Rattle.lex_tableau.specs.Pivots.{steps_of_pivot}
use Rattle.lex_tableau.specs.declared.tableau.PivotStop.{PivotStop}
use Rattle.frac128.specs.Steps.{StepFits, IsFirstUnfit}
use Rattle.frac128.specs.FirstUnfit.{StepsFit, IsFirstUnfitOf}
use Rattle.frac128.proofs.FirstUnfitLemmas.{first_unfit_here}
use Rattle.basis_enum.specs.Levels.{Levels, Pivot, no_pivot, no_tableau, parent_of, AreNextPivots, IsAfterPivot, IsNextLevel, basis_count, most_bases, steps_of}
use Rattle.lists.specs.Listed.{AreListed}
use Rattle.basis_enum.specs.Reached.{IsUnfitPivot, next_level}
use Rattle.basis_enum.specs.declared.stop.EnumerationStop.TheVariants.{Range}
use Rattle.basis_enum.specs.declared.children.ChildStop.{ChildStop}
use Rattle.basis_enum.specs.declared.children.ChildStop.TheVariants as stops
use Rattle.basis_enum.specs.declared.children.Expansion.{Expansion}
use Rattle.basis_enum.specs.declared.found_pivots.FoundPivot.{FoundPivot}
use Rattle.basis_enum.specs.Next.{no_found_pivot, pivot_of}
use Rattle.basis_enum.specs.declared.children.Made.{Made}
use Rattle.basis_enum.specs.declared.children.Reached.{Reached}
use Rattle.basis_enum.specs.Found.{AreFoundIn}
use Rattle.basis_enum.proofs.LevelPivotLemmas.{found_in_start, found_in_new}
use Rattle.basis_enum.specs.Walks.{HaveEntering}
use Rattle.basis_enum.specs.Children.{AreChildren, ArePivots, IsChildStop, IsChildStopAt, IsMadeFrom, IsPivoted, IsReachedAt}

-- what a pivot of its parent makes
pub made_child : (level : List WholeTableau) (m : Pivot) (parent : WholeTableau) (r : Result WholeTableau PivotStop) → parent ≡ parent_of level m → IfOk r (IsPivotOf parent m.row m.column) → IfOk r IsTableau → OnOk r (All StepFits (steps_of_pivot parent m.row m.column)) → IfOk r (IsPivoted level m)
made_child level m parent (Ok new) is pivot valid fits =
    record { is_tableau = valid; pivot = subst (λ t. IsPivotOf t m.row m.column new) is pivot; fits = subst (λ t. All StepFits (steps_of_pivot t m.row m.column)) is fits }
made_child level m parent (Err stop) is pivot valid fits = pivot

pub children_start : (level : List WholeTableau) (next : List FoundPivot) → AreChildren level next 0 []
children_start level next = record { within = omega arith; size = refl; each = λ i h. absurd (omega arith) }

pub children_push : (level : List WholeTableau) (next : List FoundPivot) (n : ℕ) (children : List WholeTableau) (t : WholeTableau) → n < length next → AreChildren level next n children → IsPivoted level (pivot_of (get_or next n no_found_pivot)) t → AreChildren level next (n + 1) (children ++ t ∷ [])
children_push level next n children t w c h =
    let size : length children ≡ n = c.size in
    record {
      within = omega arith;
      size = length-append children (t ∷ []) ∙ ap (λ m. m + 1) c.size;
      each = λ i k. elim (eq-or-lt_of_le (let l : i ≤ n = omega arith in l)) [
        | inr l ↦ subst (IsPivoted level (pivot_of (get_or next i no_found_pivot))) (sym (get_or_append_left children (t ∷ []) no_tableau i (omega arith))) (c.each i l)
        | inl e ↦ subst₂ (λ j u. IsPivoted level (pivot_of (get_or next j no_found_pivot)) u) (sym e) (sym (ap (λ j. get_or (children ++ t ∷ []) j no_tableau) (e ∙ sym size) ∙ get_or-append_seam children t [] no_tableau)) h
      ];
    }

pub children_new : (level : List WholeTableau) (next : List FoundPivot) (n m : ℕ) (children new : List WholeTableau) (t : WholeTableau) → n < length next → m ≡ n + 1 → new ≡ children ++ t ∷ [] → AreChildren level next n children → IsPivoted level (pivot_of (get_or next n no_found_pivot)) t → AreChildren level next m new
children_new level next n m children new t w more pushed c h = subst₂ (AreChildren level next) (sym more) (sym pushed) (children_push level next n children t w c h)

pivot_at : (next : List FoundPivot) (i : ℕ) → get_or (map pivot_of next) i no_pivot ≡ pivot_of (get_or next i no_found_pivot)
pivot_at next i = get_or-map pivot_of next i no_found_pivot

-- the first n pivots have children, and the next one a step that does not fit
first_unfit : (level : List WholeTableau) (next : List FoundPivot) (n : ℕ) (children : List WholeTableau) (unfit : Unfit) → n < length next → AreChildren level next n children → IsFirstUnfit (steps_of level (pivot_of (get_or next n no_found_pivot))) unfit → IsFirstUnfitOf (steps_of level) (map pivot_of next) (pivot_of (get_or next n no_found_pivot)) unfit
first_unfit level next n children unfit w c h = first_unfit_here (steps_of level) (map pivot_of next) n (pivot_of (get_or next n no_found_pivot)) long at unfit fit h
  where
    long : n < length (map pivot_of next)
    long = subst (λ k. n < k) (sym (length-map next pivot_of)) w

    at : pivot_of (get_or next n no_found_pivot) ≡ get_or (map pivot_of next) n (pivot_of (get_or next n no_found_pivot))
    at = sym (get_or_default (map pivot_of next) n (pivot_of (get_or next n no_found_pivot)) no_pivot long ∙ pivot_at next n)

    fit : All (StepsFit (steps_of level)) (take n (map pivot_of next))
    fit j d b =
        let l : j < n = omega (arith, b, length-take-le n (map pivot_of next) (omega (arith, long))) in
        subst (StepsFit (steps_of level)) (sym (get_or-take n (map pivot_of next) j d l ∙ get_or_default (map pivot_of next) j d no_pivot (omega (arith, l, long)) ∙ pivot_at next j)) (c.each j l).fits

-- the stop of a pivot whose children before it are there
stop_at : (e : Expansion) (n : ℕ) (children : List WholeTableau) (stop : ChildStop) → n < length e.next.now → AreChildren e.level.now e.next.now n children → IsChildStopAt e n stop → IsChildStop e stop
stop_at e n children (stops.Unfit place unfit) w c h =
    subst (λ p. IsChildStop e (stops.Unfit p unfit)) (sym h.0) (w, first_unfit e.level.now e.next.now n children unfit w c h.1)
stop_at e n children stops.Memory w c h = tt

-- the pivot that does not fit goes from this basis, with this variable entering it
pub unfit_pivot : (e : Expansion) (k place : ℕ) (unfit : Unfit) (t : WholeTableau) (basics basis : List ℕ) → ArePivots e.level.now e.next.now → HaveEntering e.level.now e.next.now → IsChildStop e (stops.Unfit place unfit) → basics ≡ (get_or e.level.now (get_or e.next.now place no_found_pivot).parent t).basics → AreListed (Contains basics) basis → IsUnfitPivot k e.level.now (map pivot_of e.next.now) (Range k basis (get_or e.next.now place no_found_pivot).entering unfit)
unfit_pivot e k place unfit t basics basis are enter stop is ascending =
    let m = get_or e.next.now place no_found_pivot in
    let among = Contains-get_or e.next.now place no_found_pivot stop.0 in
    let parent = get_or_default e.level.now m.parent t no_tableau (are m among).parent in
    record {
      pivot = pivot_of m;
      step = unfit;
      first = stop.1;
      basis = basis;
      ascending = subst (λ b. AreListed (Contains b) basis) (is ∙ ap (λ u. u.basics) parent) ascending;
      told = ap (λ v. Range k basis v unfit) (enter m among);
    }

-- nothing is made at first
pub made_start : (e : Expansion) (made : Made) → made.tableaux.items ≡ [] → made.found.items ≡ [] → IsMadeFrom e made
made_start e made none no_pivots = record {
  tableaux = subst (λ xs. AreChildren e.level.now e.next.now (length xs) xs) (sym none) (children_start e.level.now e.next.now);
  pivots_are = subst₂ (λ xs ms. AreFoundIn xs e.known.now ms) (sym none) (sym no_pivots) (found_in_start e.known.now);
}

-- the stop of the pivot after those that are made
pub stop_made : (e : Expansion) (made : Made) (n : ℕ) (stop : ChildStop) → length made.tableaux.items ≡ n → n < length e.next.now → IsMadeFrom e made → IsChildStopAt e n stop → IsChildStop e stop
stop_made e made n stop is within m here = stop_at e n made.tableaux.items stop within (subst (λ k. AreChildren e.level.now e.next.now k made.tableaux.items) is m.tableaux) here

-- one more tableau is made, with its pivots
pub made_more : (e : Expansion) (old new : Made) (n : ℕ) (r : Reached) → length old.tableaux.items ≡ n → n < length e.next.now → new.tableaux.items ≡ old.tableaux.items ++ r.tableau ∷ [] → new.found.items ≡ old.found.items ++ r.findings.found.items → IsMadeFrom e old → IsReachedAt e n r → IsMadeFrom e new
made_more e old new n r is within pushed added m reached = record {
  tableaux = children_new e.level.now e.next.now n _ old.tableaux.items _ r.tableau within (ap length pushed ∙ length-append old.tableaux.items (r.tableau ∷ []) ∙ ap (λ k. k + 1) is) pushed (subst (λ k. AreChildren e.level.now e.next.now k old.tableaux.items) is m.tableaux) reached.child;
  pivots_are = found_in_new old.tableaux.items _ e.known.now old.found.items r.findings.found.items _ r.tableau n is pushed added m.pivots_are reached.found;
}

-- the children of all next pivots are the next level
pub next_level_is : (k : ℕ) (p : Levels) (next : List FoundPivot) (children : List WholeTableau) → AreNextPivots p (map pivot_of next) → 0 < length next → basis_count p (map pivot_of next) ≤ most_bases → AreChildren p.level next (length next) children → next_level k p (Ok (record { before = p.before ++ p.level; level = children }))
next_level_is k p next children are some few c =
    (map pivot_of next, (are, subst (λ n. 0 < n) (sym (length-map next pivot_of)) some), (tt, within, (tt, fit, after)))
  where
    size : length (map pivot_of next) ≡ length next
    size = length-map next pivot_of

    within : most_bases < basis_count p (map pivot_of next) → ⊥
    within over = omega (arith, over, few)

    fit : All (StepsFit (steps_of p.level)) (map pivot_of next)
    fit i d h =
        subst (StepsFit (steps_of p.level)) (sym (get_or_default (map pivot_of next) i d no_pivot h ∙ pivot_at next i)) (c.each i (omega (arith, h, size))).fits

    after : IsNextLevel p (map pivot_of next) (record { before = p.before ++ p.level; level = children })
    after = record {
      before = refl;
      size = c.size ∙ sym (length-map next pivot_of);
      tableaux = λ i h. let child = c.each i (omega (arith, h, size)) in subst (λ m. IsAfterPivot p.level m (get_or children i no_tableau)) (sym (pivot_at next i)) (record { is_tableau = child.is_tableau; pivot = child.pivot });
    }
