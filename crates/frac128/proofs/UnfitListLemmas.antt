-- The first of things with a step that does not fit, in lists that are put together.
use Rattle.std.proofs.Common.{ℕ, ◌+◌, ◌≡◌, Some, List, [], ◌∷◌, ◌++◌, All, map, slice_get, take, drop, sym, ap, ◌∙◌, subst, append_assoc}
use Rattle.std.specs.List.{flat_map}
use Rattle.std.proofs.lemmas.Grind.{flat_map-append}
use Rattle.std.proofs.lemmas.List.{append-nil, take_more, take-append-drop, map-append}
use Rattle.std.proofs.lemmas.List.Elements.{All-append, All-map}
use Rattle.std.proofs.lemmas.Option.{slice_get_within, get_or_from_slice_get}
use Rattle.frac128.specs.Steps.{Step}
use Rattle.frac128.specs.FirstUnfit.{StepsFit, IsFirstUnfitOf}

module _ {X : Type 0} (steps : X → List Step) where
  -- the first stays the first before further things
  pub first_of-more : (xs ys : List X) (x : X) (step : Step) → IsFirstUnfitOf steps xs x step → IsFirstUnfitOf steps (xs ++ ys) x step
  first_of-more xs ys x step h =
      record { before = h.before; after = h.after ++ ys; is_there = ap (λ zs. zs ++ ys) h.is_there ∙ append_assoc h.before (x ∷ h.after) ys; earlier_fit = h.earlier_fit; first_unfit = h.first_unfit }

  -- and after things whose steps fit
  pub first_of-following : (xs ys : List X) (x : X) (step : Step) → All (StepsFit steps) xs → IsFirstUnfitOf steps ys x step → IsFirstUnfitOf steps (xs ++ ys) x step
  first_of-following xs ys x step fit h =
      record { before = xs ++ h.before; after = h.after; is_there = ap (λ zs. xs ++ zs) h.is_there ∙ sym (append_assoc xs h.before (x ∷ h.after)); earlier_fit = All-append (StepsFit steps) xs h.before fit h.earlier_fit; first_unfit = h.first_unfit }

  -- and of what is made of each
  pub first_of-map : {W : Type 0} (f : W → X) (ws : List W) (w : W) (step : Step) → IsFirstUnfitOf (λ v. steps (f v)) ws w step → IsFirstUnfitOf steps (map f ws) (f w) step
  first_of-map f ws w step h =
      record { before = map f h.before; after = map f h.after; is_there = ap (map f) h.is_there ∙ map-append f h.before (w ∷ h.after); earlier_fit = All-map (StepsFit steps) f h.before h.earlier_fit; first_unfit = h.first_unfit }

  -- ---- the parts of numbers, one after another
  module _ (f : ℕ → List X) (ns : List ℕ) (k n : ℕ) (at : slice_get ns k ≡ Some n) where
    -- the parts of one number more
    part-more : flat_map f (take (k + 1) ns) ≡ flat_map f (take k ns) ++ f n
    part-more =
        ap (λ v. flat_map f v) (take_more ns k 0 (slice_get_within ns k n at) ∙ ap (λ v. take k ns ++ v ∷ []) (get_or_from_slice_get ns k n 0 at))
        ∙ flat_map-append f (take k ns) (n ∷ []) ∙ ap (λ v. flat_map f (take k ns) ++ v) (append-nil (f n))

    -- they fit
    pub parts_fit : All (StepsFit steps) (flat_map f (take k ns)) → All (StepsFit steps) (f n) → All (StepsFit steps) (flat_map f (take (k + 1) ns))
    parts_fit h g = subst (All (StepsFit steps)) (sym part-more) (All-append (StepsFit steps) (flat_map f (take k ns)) (f n) h g)

    -- or the first that does not is among the number's own
    pub first_of-part : (x : X) (step : Step) → All (StepsFit steps) (flat_map f (take k ns)) → IsFirstUnfitOf steps (f n) x step → IsFirstUnfitOf steps (flat_map f ns) x step
    first_of-part x step h g =
        subst (λ xs. IsFirstUnfitOf steps xs x step) (sym (flat_map-append f (take (k + 1) ns) (drop (k + 1) ns)) ∙ ap (λ v. flat_map f v) (take-append-drop (k + 1) ns))
        (first_of-more (flat_map f (take (k + 1) ns)) (flat_map f (drop (k + 1) ns)) x step (subst (λ xs. IsFirstUnfitOf steps xs x step) (sym part-more) (first_of-following (flat_map f (take k ns)) (f n) x step h g)))
