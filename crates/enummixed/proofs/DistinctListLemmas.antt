-- A list in which nothing stands twice, in another order
use Rattle.std.proofs.Common.{ℕ, ◌+◌, ◌<◌, ◌≡◌, ◌≢◌, Bool, true, false, nat_eq, ◌&&◌, List, length, get_or, Decides, refl, sym, ap, ap₂, arith}
use Rattle.std.specs.Prelude.{IsPermutation}
use Rattle.std.specs.List.{AllPairs}
use Rattle.std.proofs.lemmas.Map.Made.{IsDistinct-from_AllPairs}
use Rattle.std.proofs.lemmas.Map.Keys.{IsDistinct-IsPermutation, apart_from_distinct}
use Rattle.label_pairing.proofs.AllPairLemmas.{parts_in, parts_out}

abbrev pair_eq : ℕ × ℕ → ℕ × ℕ → Bool
pair_eq p q = nat_eq p.0 q.0 && nat_eq p.1 q.1

decided : (p q : ℕ × ℕ) → Decides (pair_eq p q) (p ≡ q)
decided p q = (λ e. let r = parts_out p.0 p.1 q.0 q.1 e in ap₂ (λ i j. (i, j)) r.0 r.1, λ e. parts_in p.0 p.1 q.0 q.1 (ap (λ (r : ℕ × ℕ). r.0) e) (ap (λ (r : ℕ × ℕ). r.1) e))

flips : (p q : ℕ × ℕ) → pair_eq p q ≡ pair_eq q p
flips p q = go (pair_eq p q) (pair_eq q p) refl refl
  where
    go : (b c : Bool) → pair_eq p q ≡ b → pair_eq q p ≡ c → b ≡ c
    go true true e f = refl
    go false false e f = refl
    go true false e f = let g = (decided q p).1 (sym ((decided p q).0 e)) in cc
    go false true e f = let g = (decided p q).1 (sym ((decided q p).0 f)) in cc

pub neighbours-differ : (xs ys : List (ℕ × ℕ)) → AllPairs (λ p q. p ≢ q) xs → IsPermutation xs ys → (k : ℕ) (d : ℕ × ℕ) → k + 1 < length ys → get_or ys k d ≡ get_or ys (k + 1) d → ⊥
neighbours-differ xs ys h perm k d l e =
    let apart = apart_from_distinct pair_eq ys k (k + 1) d (IsDistinct-IsPermutation pair_eq flips xs ys perm (IsDistinct-from_AllPairs decided xs h)) (omega arith) l in
    let same = (decided (get_or ys k d) (get_or ys (k + 1) d)).1 e in
    cc
