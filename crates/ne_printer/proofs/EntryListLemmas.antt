-- Entries of a line, part by part.
use Rattle.std.proofs.Common.{Bor, Bool, false, ◌==◌, ℕ, suc, ◌≡◌, ◌<◌, zero, List, [], ◌∷◌, length, get_or, arith}
use Rattle.std.specs.Slice.Iter as slice
use Rattle.std.specs.Fn.{CalledAt}
use Rattle.std.specs.List.{AllZip, slice_split}
use Rattle.std.specs.Iterator.{Yields}
use Rattle.std.proofs.lemmas.Iterator.{YieldsList}
use Rattle.std.proofs.lemmas.Iterator.Splits.{YieldsList-from_slice_split}
use Rattle.std.proofs.lemmas.Iterator.Consumers.{YieldsList-at}
use denote.Param.Members.{Mut}
use Rattle.rational.specs.Rational.{ℚ}
use Rattle.ne_printer.specs.ReadLines.{IsFraction}

-- where a part is no fraction, the parts are no entries
pub not_entries : (parts : List (List ℕ)) (k : ℕ) (part : List ℕ) → k < length parts → part ≡ get_or parts k part → ((q : ℚ) → IsFraction part q → ⊥) → (entries : List ℚ) → AllZip IsFraction parts entries → ⊥
not_entries [] k part low at none entries h = omega arith
not_entries (p ∷ parts) k part low at none [] h = h
not_entries (p ∷ parts) zero part low at none (q ∷ entries) h = none q (rw at h.0)
not_entries (p ∷ parts) (suc k) part low at none (q ∷ entries) h = not_entries parts k part (omega arith) at none entries h.1

-- what is yielded by a cut at commas
pub yields_parts : {F : Type 0} {s made : _} (g : Mut F (Bor ℕ × Unit {0}) Bool) {f : F} (text : List ℕ) (xs : List (Bor (List ℕ))) (t : _) → Yields (slice.split_steps g) s xs t → s ≡ made → slice.split_rest made ≡ text → slice.split_done made ≡ false → slice.split_callee made ≡ f → ((x : ℕ) (b : Bool) (q : F) → CalledAt g f x b q → (q ≡ f) × (b ≡ (x == 44))) → YieldsList (slice.split_steps g) (λ x. x.now) s (slice_split (λ b. b == 44) text)
yields_parts g text xs t yields same rest done callee tests =
    YieldsList-at same (YieldsList-from_slice_split g (λ b. b == 44) text rest done callee tests)
