-- Where a part goes on to a stop: which kind it is, and where it can't be.
use Rattle.std.proofs.Common.{◌≡◌, ◌<◌, ◌≤◌, List, ◌∷◌, length, ◌⊎◌, inl, inr, sym, ap, ◌∙◌, arith}
use Rattle.std.specs.Prelude.{Ok, Err}
use Rattle.game_core.specs.declared.token.Token.{Token}
use Rattle.file_parts.specs.Parsing.{Parsed}
use Rattle.file_parts.proofs.ReaderLemmas.{chain, bind_ok, bind_err, err_same, ok_err}
use Rattle.tree_grammar.specs.declared.kinds.EfgKind.{EfgKind}
use Rattle.tree_faults.proofs.TokenEndLemmas.{Within, ends_shorter}

-- What a part gives whose reading goes on to a stop before these last tokens: it stops there, or it leaves them.
abbrev pub GoesTo : {X : Type 0} → Parsed EfgKind X → EfgKind → List Token → Type 0
GoesTo {X} reading kind rest = (reading ≡ Err (kind, rest)) ⊎ ((x : X × List Token) × (reading ≡ Ok x) × (length rest ≤ length x.1))

-- the part before one that goes there
goes_first : {X Y : Type 0} (o : Parsed EfgKind X) (q : X × List Token → Parsed EfgKind Y) (kind : EfgKind) (rest : List Token) → ((x : X × List Token) (f : EfgKind × List Token) → q x ≡ Err f → length f.1 ≤ length x.1) → ((x : X × List Token) (y : Y × List Token) → q x ≡ Ok y → length y.1 ≤ length x.1)
    → GoesTo (chain o q) kind rest → GoesTo o kind rest
goes_first {X} {Y} o q kind rest e f (inl g) = elim (bind_err o q (kind, rest) g) [
  | inl h ↦ inl h
  | inr a ↦ inr (a.0, a.1, e a.0 (kind, rest) a.2)
]
goes_first {X} {Y} o q kind rest e f (inr y) =
    let a = bind_ok o q y.0 y.1 in
    let shorter = f a.0 y.0 a.2 in
    inr (a.0, a.1, omega (arith, shorter, y.2))

-- the same, where what follows leaves an end
pub goes_before : {X Y : Type 0} (o : Parsed EfgKind X) (q : X → List Token → Parsed EfgKind Y) (kind : EfgKind) (rest : List Token) → ((x : X) → Within (q x)) → GoesTo (chain o (λ z. q z.0 z.1)) kind rest → GoesTo o kind rest
goes_before o q kind rest Q g = goes_first o (λ z. q z.0 z.1) kind rest (λ x f e. ends_shorter f.1 x.1 ((Q x.0).err x.1 f e)) (λ x y e. ends_shorter y.1 x.1 ((Q x.0).ok x.1 y e)) g

-- a fault that is met is the stop
pub stop_kind : {X : Type 0} (reading : Parsed EfgKind X) (kind own : EfgKind) (rest there : List Token) → reading ≡ Err (own, there) → GoesTo reading kind rest → kind ≡ own
stop_kind {X} reading kind own rest there e (inl g) = sym (ap (λ (z : EfgKind × List Token). z.0) (err_same {A = X × List Token} (own, there) (kind, rest) (sym e ∙ g)))
stop_kind reading kind own rest there e (inr y) = absurd (ok_err y.0 (own, there) (sym y.1 ∙ e))

-- no fault comes before the stop
pub not_earlier : {X : Type 0} (reading : Parsed EfgKind X) (kind : EfgKind) (rest : List Token) (f : EfgKind × List Token) → reading ≡ Err f → length rest < length f.1 → GoesTo reading kind rest → ⊥
not_earlier {X} reading kind rest f e less (inl g) = let n : length f.1 ≡ length rest = ap (λ (z : EfgKind × List Token). length z.1) (err_same {A = X × List Token} f (kind, rest) (sym e ∙ g)) in absurd (omega (arith, n, less))
not_earlier reading kind rest f e less (inr y) = absurd (ok_err y.0 f (sym y.1 ∙ e))

-- and nothing is read after it
pub not_after : {X : Type 0} (q : List Token → Parsed EfgKind X) → Within q → (kind : EfgKind) (t : Token) (r : List Token) → GoesTo (q r) kind (t ∷ r) → ⊥
not_after q W kind t r (inl g) = let n = ends_shorter (t ∷ r) r (W.err r (kind, t ∷ r) g) in absurd (omega (arith, n))
not_after q W kind t r (inr y) = let n = ends_shorter y.0.1 r (W.ok r y.0 y.1) in absurd (omega (arith, n, y.2))
