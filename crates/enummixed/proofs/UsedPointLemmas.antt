-- The used points up to a place
use Rattle.std.proofs.Common.{ℕ, zero, suc, ◌+◌, ◌-◌, ◌<◌, ◌≡◌, inl, inr, Bool, true, false, cond, Err, List, [], ◌∷◌, ◌++◌, All, length, map, get_or, refl, sym, ap, ap₂, ◌∙◌, subst, arith, add-one}
use Rattle.std.specs.List.{filter, range_with_len}
use Rattle.std.proofs.lemmas.List.{append-nil, get_or-map, length-map, map-append}
use Rattle.std.proofs.lemmas.List.Elements.{filter-append, All-append, All-cons, All-nil}
use Rattle.std.proofs.lemmas.List.FromFn.{map-range_with_len_more, length-range_with_len, get_or-range_with_len, get_or-map-range_with_len}
use Rattle.rational.specs.Rational.{ℚ}
use Rattle.linear_systems.specs.Vertices.{MarkedPoint}
use Rattle.basis_enum.specs.Vertices.{mark_of, marks_of}
use Rattle.basis_enum.specs.declared.vertex.Vertex.{Vertex}
use Rattle.extreme_equilibria.specs.PairLines.{scaled_point}
use Rattle.frac128.specs.Steps.{Step, IsFirstUnfit}
use Rattle.frac128.specs.FirstUnfit.{StepsFit, IsFirstUnfitOf}
use Rattle.label_pairing.specs.Pairs.{mark_at}
use Rattle.label_pairing.specs.Scaling.{scale_steps}
use Rattle.label_pairing.proofs.StopLemmas.{scaled_not_memory, scaled_unfit}
use Rattle.label_pairing.specs.Stops.{scaled_in}
use Rattle.label_pairing.specs.declared.scaling.ScaleStop.{ScaleStop}
use Rattle.label_pairing.specs.declared.scaling.ScaleStop.TheVariants as stops
use Rattle.answers.specs.Answers.{Gives}
use Rattle.lists.proofs.ElementLemmas.{range_more}
use Rattle.enummixed.specs.Used.{used_points, scaled_used, scaling_in, occurs, is_set}

-- the point of a vertex that is read
pub point-read : (vertices : List Vertex) (i : ℕ) (v : Vertex) → i < length vertices → v ≡ get_or vertices i v → v.point.items ≡ (mark_at (marks_of vertices) i).point
point-read vertices i v h is =
    ap (λ (w : Vertex). w.point.items) is ∙ ap (λ (mark : MarkedPoint). mark.point) (sym (get_or-map mark_of vertices i v (record { low = 0; high = 0; point = [] }) h))

-- numbers in two parts
range-split : (a k m : ℕ) → range_with_len a (k + m) ≡ range_with_len a k ++ range_with_len (a + k) m
range-split a zero m =
    let e : 0 + m ≡ m = omega arith in
    let f : a ≡ a + 0 = omega arith in
    ap₂ range_with_len f e
range-split a (suc k) m =
    let e : suc k + m ≡ suc (k + m) = omega arith in
    let f : a + 1 + k ≡ a + suc k = omega arith in
    ap (range_with_len a) e ∙ ap (λ xs. a ∷ xs) (range-split (a + 1) k m ∙ ap (λ b. range_with_len (a + 1) k ++ range_with_len b m) f)

-- tests that agree on a list keep the same
filter_same : (p q : ℕ → Bool) (xs : List ℕ) → All (λ i. p i ≡ q i) xs → filter p xs ≡ filter q xs
filter_same p q [] h = refl
filter_same p q (x ∷ xs) h =
    ap₂ (λ b ys. cond b (x ∷ ys) ys) (h 0 x (omega arith)) (filter_same p q xs (λ k d l. h (suc k) d (omega arith)))

map_same : (f g : ℕ → List ℚ) (xs : List ℕ) → All (λ i. f i ≡ g i) xs → map f xs ≡ map g xs
map_same f g [] h = refl
map_same f g (x ∷ xs) h =
    ap₂ (λ y ys. y ∷ ys) (h 0 x (omega arith)) (map_same f g xs (λ k d l. h (suc k) d (omega arith)))

module _ (point : ℕ → List ℚ) (used : ℕ → Bool) (n : ℕ) where
  -- one more place is used
  used-next : (b : Bool) → used n ≡ b → map point (filter used (range_with_len 0 (n + 1))) ≡ map point (filter used (range_with_len 0 n)) ++ cond b (point n ∷ []) []
  used-next b is =
      ap (λ k. map point (filter used (range_with_len 0 k))) (add-one n)
      ∙ ap (λ xs. map point (filter used xs)) (range_more 0 n ∙ ap (λ k. range_with_len 0 n ++ k ∷ []) (let e : 0 + n ≡ n = omega arith in e))
      ∙ ap (map point) (filter-append used (range_with_len 0 n) (n ∷ []))
      ∙ map-append point (filter used (range_with_len 0 n)) (cond (used n) (n ∷ []) [])
      ∙ ap (λ xs. map point (filter used (range_with_len 0 n)) ++ xs) (ap (λ c. map point (cond c (n ∷ []) [])) is ∙ out b)
    where
      out : (b : Bool) → map point (cond b (n ∷ []) []) ≡ cond b (point n ∷ []) []
      out true = refl
      out false = refl

  -- its steps fit
  pub fit-next : used n ≡ true → All (StepsFit scale_steps) (map point (filter used (range_with_len 0 n))) → StepsFit scale_steps (point n) → All (StepsFit scale_steps) (map point (filter used (range_with_len 0 (n + 1))))
  fit-next is h f =
      subst (All (StepsFit scale_steps)) (sym (used-next true is)) (All-append (StepsFit scale_steps) (map point (filter used (range_with_len 0 n))) (point n ∷ []) h (All-cons (StepsFit scale_steps) (point n) [] f (All-nil (StepsFit scale_steps))))

  -- or it is not used
  pub fit-same : used n ≡ false → All (StepsFit scale_steps) (map point (filter used (range_with_len 0 n))) → All (StepsFit scale_steps) (map point (filter used (range_with_len 0 (n + 1))))
  fit-same is h =
      subst (All (StepsFit scale_steps)) (sym (used-next false is ∙ append-nil (map point (filter used (range_with_len 0 n))))) h

  -- or one of its steps is the first that does not fit
  pub unfit-here : (size : ℕ) (step : Step) → n < size → used n ≡ true → All (StepsFit scale_steps) (map point (filter used (range_with_len 0 n))) → IsFirstUnfit (scale_steps (point n)) step → IsFirstUnfitOf scale_steps (map point (filter used (range_with_len 0 size))) (point n) step
  unfit-here size step l is h f = record {
    before = map point (filter used (range_with_len 0 n));
    after = map point (filter used (range_with_len (n + 1) (size - (n + 1))));
    is_there =
        ap (λ k. map point (filter used (range_with_len 0 k))) (let e : size ≡ n + suc (size - (n + 1)) = omega arith in e)
        ∙ ap (λ xs. map point (filter used xs)) (range-split 0 n (suc (size - (n + 1))) ∙ ap (λ k. range_with_len 0 n ++ k ∷ range_with_len (k + 1) (size - (n + 1))) (let e : 0 + n ≡ n = omega arith in e))
        ∙ ap (map point) (filter-append used (range_with_len 0 n) (n ∷ range_with_len (n + 1) (size - (n + 1))))
        ∙ map-append point (filter used (range_with_len 0 n)) (filter used (n ∷ range_with_len (n + 1) (size - (n + 1))))
        ∙ ap (λ b. map point (filter used (range_with_len 0 n)) ++ map point (cond b (n ∷ filter used (range_with_len (n + 1) (size - (n + 1)))) (filter used (range_with_len (n + 1) (size - (n + 1)))))) is;
    earlier_fit = h;
    first_unfit = f;
  }

-- one more point, scaled or empty
pub scaled-next : (point : ℕ → List ℚ) (used : ℕ → Bool) (n : ℕ) (points new : List (List ℚ)) (p : List ℚ) (b : Bool) → used n ≡ b → points ≡ map (λ i. cond (used i) (scaled_point (point i)) []) (range_with_len 0 n) → new ≡ points ++ p ∷ [] → p ≡ cond b (scaled_point (point n)) [] → new ≡ map (λ i. cond (used i) (scaled_point (point i)) []) (range_with_len 0 (n + 1))
scaled-next point used n points new p b is before push e =
    push ∙ ap₂ (λ xs x. xs ++ x ∷ []) before (e ∙ ap (λ c. cond c (scaled_point (point n)) []) (sym is))
    ∙ sym (map-range_with_len_more (λ i. cond (used i) (scaled_point (point i)) []) 0 n n (omega arith))

-- the stop of a vertex is that of the list
pub stop_here : (list : List MarkedPoint) (used : ℕ → Bool) (n : ℕ) (p : List ℚ) (stop : ScaleStop) → n < length list → used n ≡ true → All (StepsFit scale_steps) (map (λ i. (mark_at list i).point) (filter used (range_with_len 0 n))) → p ≡ (mark_at list n).point → Gives stops.Memory (scaled_in p) (Err stop) → Gives stops.Memory (scaling_in (used_points list used)) (Err stop)
stop_here list used n p stop l is h e (inl m) = inl m
stop_here list used n p (stops.Range step) l is h e (inr g) =
    let f = scaled_unfit p step g in
    inr (((mark_at list n).point, step), unfit-here (λ i. (mark_at list i).point) used n (length list) step l is h (subst (λ q. IsFirstUnfit (scale_steps q) step) e f), refl)
stop_here list used n p stops.Memory l is h e (inr g) = absurd (scaled_not_memory p g)

plus : (k : ℕ) → 0 + k ≡ k
plus k = omega arith

-- flags that tell which places occur
module _ (list : List MarkedPoint) (places : List ℕ) (flags : List Bool) (are : flags ≡ map (occurs places) (range_with_len 0 (length list))) where
  told : All (λ i. is_set flags i ≡ occurs places i) (range_with_len 0 (length list))
  told k d h =
      let l : k < length list = omega (arith, length-range_with_len 0 (length list)) in
      let i = get_or (range_with_len 0 (length list)) k d in
      let at : i ≡ k = get_or-range_with_len 0 (length list) k d l ∙ plus k in
      subst (λ j. is_set flags j ≡ occurs places j) (sym at) (ap (λ xs. get_or xs k false) are ∙ get_or-map-range_with_len (occurs places) 0 (length list) k k false l (omega arith))

  used-same : used_points list (is_set flags) ≡ used_points list (occurs places)
  used-same = ap (map (λ i. (mark_at list i).point)) (filter_same (is_set flags) (occurs places) (range_with_len 0 (length list)) told)

  scaled-same : scaled_used list (is_set flags) ≡ scaled_used list (occurs places)
  scaled-same =
      map_same (λ i. cond (is_set flags i) (scaled_point (mark_at list i).point) []) (λ i. cond (occurs places i) (scaled_point (mark_at list i).point) []) (range_with_len 0 (length list)) (λ k d h. ap (λ b. cond b (scaled_point (mark_at list (get_or (range_with_len 0 (length list)) k d)).point) []) (told k d h))

-- flags that tell which vertices occur
module _ (vertices : List Vertex) (places : List ℕ) (flags : List Bool) (are : flags ≡ map (occurs places) (range_with_len 0 (length vertices))) where
  are-marks : flags ≡ map (occurs places) (range_with_len 0 (length (marks_of vertices)))
  are-marks = are ∙ ap (λ n. map (occurs places) (range_with_len 0 n)) (sym (length-map vertices mark_of))

  pub used-vertices : used_points (marks_of vertices) (is_set flags) ≡ used_points (marks_of vertices) (occurs places)
  used-vertices = used-same (marks_of vertices) places flags are-marks

  pub scaled-vertices : scaled_used (marks_of vertices) (is_set flags) ≡ scaled_used (marks_of vertices) (occurs places)
  scaled-vertices = scaled-same (marks_of vertices) places flags are-marks
