-- Readings whose faults are named, as the code answers them.
use Rattle.std.proofs.Common.{◌≡◌, ℕ, suc, ◌+◌, ◌-◌, ◌<◌, ◌≤◌, List, [], ◌∷◌, ◌++◌, length, Option, Some, None, refl, sym, ap, ◌∙◌, append_assoc, arith}
use Rattle.std.proofs.lemmas.List.{append-nil}
use Rattle.std.specs.Prelude.{Result, Ok, Err}
use Rattle.game_core.specs.declared.token.Token.{Token}
use Rattle.file_parts.specs.declared.stop.Unexpected.{Unexpected}
use Rattle.file_parts.specs.declared.stop.PartStop.{PartStop}
use Rattle.file_parts.specs.declared.stop.PartStop.TheVariants as part_stops
use Rattle.file_parts.specs.Parsing.{Parsed, ◌>>=◌, wanted, parse_each, unexpected_at, IsFaultOf, IsPartStop}
use Rattle.file_parts.proofs.ReaderLemmas.{err_same}

-- what was read before, and what is still read
abbrev pub following : {K X : Type 0} → List X → Parsed K (List X) → Parsed K (List X)
following front reading = reading >>= λ x. Ok (front ++ x.0, x.1)

-- one more in front
pub following-cons : {K X : Type 0} (front : List X) (one : X) (reading : Parsed K (List X)) → following front (reading >>= λ x. Ok (one ∷ x.0, x.1)) ≡ following (front ++ one ∷ []) reading
following-cons {K} {X} front one (Ok x) = ap (λ (xs : List X). Ok (xs, x.1)) (simp append_assoc)
following-cons front one (Err fault) = refl

-- the next and the others
one_part : {K X : Type 0} (part : ℕ → List Token → Parsed K X) (n i : ℕ) (tokens : List Token) → i < n → parse_each part i (n - i) tokens ≡ (part i tokens >>= λ x. parse_each part (i + 1) (n - (i + 1)) x.1 >>= λ y. Ok (x.0 ∷ y.0, y.1))
one_part part n i tokens lt =
    let e : n - i ≡ suc (n - (i + 1)) = omega arith in
    let s : i + 1 ≡ suc i = omega arith in
    rw (e, s) refl

-- one was read
pub each_goes_on : {K X : Type 0} (part : ℕ → List Token → Parsed K X) (front : List X) (n i : ℕ) (tokens : List Token) (one : X) (after : List Token) (total : Parsed K (List X)) → i < n → part i tokens ≡ Ok (one, after)
    → following front (parse_each part i (n - i) tokens) ≡ total → following (front ++ one ∷ []) (parse_each part (i + 1) (n - (i + 1)) after) ≡ total
each_goes_on part front n i tokens one after total lt h so_far =
    let next : following front (parse_each part i (n - i) tokens) ≡ following (front ++ one ∷ []) (parse_each part (i + 1) (n - (i + 1)) after) = rw (one_part part n i tokens lt, h) (following-cons front one (parse_each part (i + 1) (n - (i + 1)) after)) in
    sym next ∙ so_far

-- a fault that comes next
ends_so : {K X : Type 0} (part : ℕ → List Token → Parsed K X) (front : List X) (n i : ℕ) (tokens : List Token) (stopped : PartStop K) (total : Parsed K (List X)) → i < n → (o : Parsed K X) → part i tokens ≡ o → IsPartStop stopped o → following front (parse_each part i (n - i) tokens) ≡ total → IsPartStop stopped total
ends_so part front n i tokens part_stops.Memory total lt o e h so_far = tt
ends_so part front n i tokens (part_stops.Unexpected unfit) total lt (Ok x) e h so_far = cc
ends_so {K} {X} part front n i tokens (part_stops.Unexpected unfit) total lt (Err fault) e h so_far =
    let next : following front (parse_each part i (n - i) tokens) ≡ Err fault = rw (one_part part n i tokens lt, e) refl in
    let all : total ≡ Err fault = sym so_far ∙ next in
    rw all (ap (λ (f : K × ℕ). Err f) (err_same (fault.0, length fault.1) (unfit.kind, unfit.left) h))

-- a fault comes next
pub each_ends : {K X : Type 0} (part : ℕ → List Token → Parsed K X) (front : List X) (n i : ℕ) (tokens : List Token) (stopped : PartStop K) (total : Parsed K (List X)) → i < n → IsPartStop stopped (part i tokens) → following front (parse_each part i (n - i) tokens) ≡ total → IsPartStop stopped total
each_ends part front n i tokens stopped total lt h so_far = ends_so part front n i tokens stopped total lt (part i tokens) refl h so_far

-- all were read
pub each_done : {K X : Type 0} (part : ℕ → List Token → Parsed K X) (front : List X) (n i : ℕ) (tokens : List Token) (total : Parsed K (List X)) → n ≤ i → following front (parse_each part i (n - i) tokens) ≡ total → total ≡ Ok (front, tokens)
each_done {K} {X} part front n i tokens total le so_far =
    let e : n - i ≡ 0 = omega arith in
    let next : following front (parse_each part i (n - i) tokens) ≡ Ok (front, tokens) = rw e (ap (λ (xs : List X). Ok (xs, tokens)) (append-nil front)) in
    sym so_far ∙ next

-- ---- stops
-- a stop of the first part is one of both
pub refused_first : {K A B : Type 0} (stopped : PartStop K) (o : Result A (K × List Token)) (f : A → Result B (K × List Token)) → IsPartStop stopped o → IsPartStop stopped (o >>= f)
refused_first (part_stops.Unexpected unfit) (Ok x) f e = cc
refused_first (part_stops.Unexpected unfit) (Err fault) f e = cc
refused_first part_stops.Memory o f e = tt

-- and so is a fault of the first part, where it becomes a stop
pub refused_fault : {K A B : Type 0} (fault : Unexpected K) (stopped : PartStop K) (o : Result A (K × List Token)) (f : A → Result B (K × List Token)) → stopped ≡ part_stops.Unexpected fault → IsFaultOf fault o → IsPartStop stopped (o >>= f)
refused_fault fault stopped o f u e = rw u (refused_first (part_stops.Unexpected fault) o f e)

-- a fault of the first part is one of both
pub fault_first : {K A B : Type 0} (fault : Unexpected K) (o : Result A (K × List Token)) (f : A → Result B (K × List Token)) → IsFaultOf fault o → IsFaultOf fault (o >>= f)
fault_first fault o f e = refused_first (part_stops.Unexpected fault) o f e

-- a part that must come and does not
pub wanted_refused : {K X : Type 0} (kind : K) (tokens : List Token) (o : Option (X × List Token)) (stopped : PartStop K) → o ≡ None → stopped ≡ part_stops.Unexpected (unexpected_at kind tokens) → IsPartStop stopped (wanted kind tokens o)
wanted_refused kind tokens o stopped n u = rw (n, u) refl

-- a part that must come and does
pub wanted_read : {K X : Type 0} (kind : K) (tokens : List Token) (o : Option (X × List Token)) (x : X × List Token) → o ≡ Some x → wanted kind tokens o ≡ Ok x
wanted_read kind tokens o x e = rw e refl

pub ruleset stops = (refused_first, refused_fault)

pub ruleset parses = (each_goes_on, each_ends, each_done, refused_first)
