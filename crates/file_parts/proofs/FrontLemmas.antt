-- Two fronts of one list of tokens: one goes on as the other.
use Rattle.std.proofs.Common.{◌≡◌, List, [], ◌∷◌, ◌++◌, refl, sym}
use Rattle.game_core.specs.declared.token.Token.{Token}
use Rattle.file_parts.proofs.ReaderLemmas.{same_first, same_rest, both_cons}

-- of two fronts of a list one goes on as the other
pub data Goes (a r b s : List Token) : Type 0 where
  same : r ≡ s → Goes a r b s
  first : (t : Token) (w : List Token) → b ≡ a ++ t ∷ w → r ≡ t ∷ (w ++ s) → Goes a r b s
  second : (t : Token) (w : List Token) → a ≡ b ++ t ∷ w → s ≡ t ∷ (w ++ r) → Goes a r b s

pub fronts : (a r b s : List Token) → a ++ r ≡ b ++ s → Goes a r b s
fronts [] r [] s e = same e
fronts [] r (u ∷ b) s e = first u b refl e
fronts (t ∷ a) r [] s e = second t a refl (sym e)
fronts (t ∷ a) r (u ∷ b) s e =
    let h : t ≡ u = same_first t u (a ++ r) (b ++ s) e in
    elim (fronts a r b s (same_rest t u (a ++ r) (b ++ s) e)) [
      | same f ↦ same f
      | first v w f g ↦ first v w (both_cons u t b (a ++ v ∷ w) (sym h) f) g
      | second v w f g ↦ second v w (both_cons t u a (b ++ v ∷ w) h f) g
    ]
