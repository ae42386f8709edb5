-- Lists with one more element at the end.
use Rattle.std.proofs.Common.{◌≡◌, ℕ, zero, suc, ◌+◌, List, [], ◌∷◌, ◌++◌, length, map, slice_set, slice_get, Some, None, ◌⊎◌, Bool, true, false, cond, not, one-add, inl, inr, refl, sym, ap, ◌∙◌, subst, append_assoc, append-nil, arith}
use Rattle.std.specs.List.{position_or_len}
use Rattle.std.proofs.lemmas.Option.{same_Some}

-- what holds of the empty list, and of a list with one more element at the end, holds of each list
pub at_end : {A : Type 0} (P : List A → Type 0) → P [] → ((front : List A) (one : A) → P front → P (front ++ one ∷ [])) → (list : List A) → P list
at_end {A} P none more list = go [] none list
  where
    go : (front : List A) → P front → (rest : List A) → P (front ++ rest)
    go front h [] = subst P (sym (append-nil front)) h
    go front h (one ∷ rest) = subst P (append_assoc front (one ∷ []) rest) (go (front ++ one ∷ []) (more front one h) rest)

-- an element stood there before a write, or is what was written
pub slice_get-set_cases : {A : Type 0} (xs : List A) (i : ℕ) (y : A) (k : ℕ) (x : A) → slice_get (slice_set xs i y) k ≡ Some x → ((k ≡ i → ⊥) × (slice_get xs k ≡ Some x)) ⊎ ((k ≡ i) × (x ≡ y))
slice_get-set_cases [] i y k x e = cc
slice_get-set_cases (z ∷ xs) zero y zero x e = inr (refl, sym (same_Some _ _ e))
slice_get-set_cases (z ∷ xs) zero y (suc k) x e = inl (λ q. absurd (omega arith), e)
slice_get-set_cases (z ∷ xs) (suc i) y zero x e = inl (λ q. absurd (omega arith), e)
slice_get-set_cases (z ∷ xs) (suc i) y (suc k) x e = elim (slice_get-set_cases xs i y k x e) [
  | inl h ↦ inl (λ q. h.0 (omega arith), h.1)
  | inr h ↦ inr (ap suc h.0, h.1)
]

-- a function that does not see a write
pub map-set_same : {A B : Type 0} (f : A → B) (xs : List A) (i : ℕ) (x y : A) → slice_get xs i ≡ Some x → f y ≡ f x → map f (slice_set xs i y) ≡ map f xs
map-set_same f [] i x y e h = refl
map-set_same f (z ∷ xs) zero x y e h = ap (λ v. v ∷ map f xs) (h ∙ ap f (sym (same_Some z x e)))
map-set_same f (z ∷ xs) (suc i) x y e h = ap (λ v. f z ∷ v) (map-set_same f xs i x y e h)

-- one function after another
pub map-map : {A B C : Type 0} (f : B → C) (g : A → B) (xs : List A) → map f (map g xs) ≡ map (λ x. f (g x)) xs
map-map f g [] = refl
map-map f g (x ∷ xs) = ap (λ v. f (g x) ∷ v) (map-map f g xs)

-- where nothing stands at the first place that passes, that is the end
pub position_past : {A : Type 0} (p : A → Bool) (xs : List A) → slice_get xs (position_or_len p xs) ≡ None → position_or_len p xs ≡ length xs
position_past p [] e = refl
position_past {A} p (x ∷ xs) e = go (p x) (position_past p xs) e
  where
    go : (v : Bool) → (slice_get xs (position_or_len p xs) ≡ None → position_or_len p xs ≡ length xs) → slice_get (x ∷ xs) (cond (not v) (1 + position_or_len p xs) 0) ≡ None → cond (not v) (1 + position_or_len p xs) 0 ≡ suc (length xs)
    go true h e = cc
    go false h e = rw one-add (ap suc (h (rw one-add at e)))
