-- The entries of a profile, as they grow player by player.
use Rattle.std.proofs.Common.{ℕ, zero, suc, ◌+◌, ◌<◌, ◌≡◌, List, [], ◌∷◌, ◌++◌, length, get_or, take, sym, ap, ◌∙◌, arith, append_assoc, add-one}
use Rattle.std.proofs.lemmas.List.{append-nil}
use Rattle.rational.specs.Rational.{ℚ}
use Rattle.game_theory.specs.Mixed.{Mixed, later}
use Rattle.game_theory.specs.Lines.{listed, entries}

-- one player's entries more
entries-next : (ns : List ℕ) (m : Mixed) (i : ℕ) → i < length ns → entries (take (suc i) ns) m ≡ entries (take i ns) m ++ listed (get_or ns i 0) (m i)
entries-next [] m i h = absurd (omega arith)
entries-next (n ∷ ns) m zero h = append-nil (listed n (m 0))
entries-next (n ∷ ns) m (suc i) h = ap (λ v. listed n (m 0) ++ v) (entries-next ns (later m) i (omega arith)) ∙ sym (append_assoc (listed n (m 0)) _ _)

-- the entries with those of one player more
pub entries-push : (all now : List ℚ) (ns : List ℕ) (m : Mixed) (i : ℕ) → i < length ns → now ≡ entries (take i ns) m → all ≡ now ++ listed (get_or ns i 0) (m i) → all ≡ entries (take (i + 1) ns) m
entries-push all now ns m i l before push =
    push ∙ ap (λ v. v ++ listed (get_or ns i 0) (m i)) before ∙ sym (entries-next ns m i l) ∙ ap (λ v. entries (take v ns) m) (sym (add-one i))
