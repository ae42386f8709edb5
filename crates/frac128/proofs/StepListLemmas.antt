-- Steps that are told by their places, up to a place
use Rattle.std.proofs.Common.{ℕ, suc, ◌+◌, ◌<◌, ◌≤◌, ◌≡◌, ◌∙◌, [], ◌∷◌, All, length, map, get_or, take, drop, sym, subst, arith}
use Rattle.std.specs.List.{range_with_len}
use Rattle.std.proofs.lemmas.List.{take_all}
use Rattle.std.proofs.lemmas.List.Elements.{All-more}
use Rattle.std.proofs.lemmas.List.FromFn.{length-map-range_with_len, get_or-map-range_with_len}
use Rattle.frac128.specs.Steps.{Step, StepFits, IsFirstUnfit}
use Rattle.frac128.proofs.FirstUnfitLemmas.{split_here}

module _ (step : ℕ → Step) (n i : ℕ) (l : i < n) where
  within : i < length (map step (range_with_len 0 n))
  within = subst (λ m. i < m) (sym (length-map-range_with_len step 0 n)) l

  read : (d : Step) → get_or (map step (range_with_len 0 n)) i d ≡ step i
  read d = get_or-map-range_with_len step 0 n i i d l (omega arith)

  -- one more step fits
  pub fits-next : All StepFits (take i (map step (range_with_len 0 n))) → StepFits (step i) → All StepFits (take (i + 1) (map step (range_with_len 0 n)))
  fits-next h f = All-more StepFits (map step (range_with_len 0 n)) i (step i) within h (subst StepFits (sym (read (step i))) f)

  -- or it is the first that does not fit
  pub unfit-first : (u : Step) → All StepFits (take i (map step (range_with_len 0 n))) → (StepFits (step i) → ⊥) → u ≡ step i → IsFirstUnfit (map step (range_with_len 0 n)) u
  unfit-first u h f is = record {
    before = take i (map step (range_with_len 0 n));
    following = drop (suc i) (map step (range_with_len 0 n));
    is_there = split_here (λ s. s ∷ []) (map step (range_with_len 0 n)) i u within (is ∙ sym (read u));
    earlier_fit = h;
    does_not_fit = λ g. f (subst StepFits is g);
  }

-- all steps
pub fits-all : (step : ℕ → Step) (n i : ℕ) → n ≤ i → All StepFits (take i (map step (range_with_len 0 n))) → All StepFits (map step (range_with_len 0 n))
fits-all step n i l h =
    subst (All StepFits) (take_all i (map step (range_with_len 0 n)) (subst (λ m. m ≤ i) (sym (length-map-range_with_len step 0 n)) l)) h
