-- Where the parts of a player's replies stand.
use Rattle.std.proofs.Common.{ℕ, ◌<◌, ◌≡◌, inl, Some, List, get_or, refl, sym, ap, ◌∙◌}
use Rattle.rational.specs.Rational.{ℚ, zero_ℚ}
use Rattle.game_theory.specs.Trees.{Tree, IsTree}
use Rattle.game_theory.specs.Behaviour.{Behaviour}
use Rattle.game_theory.specs.Children.{child}
use Rattle.game_theory.proofs.NamedChildLemmas.{child-is_child}
use Rattle.best_replies.proofs.SetOrderLemmas.{within-trans}
use Rattle.verdicts.specs.TreeReplies.{AreDecided, OwnSetsFrom}
use Rattle.verdicts.specs.TreeSteps.{child_value}

-- own sets below a node lie below its parent
pub own_sets-child : (t : Tree) (i k s a first : ℕ) → IsTree t → k < t.size → t.set k ≡ Some s → a < t.actions s → OwnSetsFrom t i k first → OwnSetsFrom t i (child t k a) first
own_sets-child t i k s a first w l e m h c r inside below at own =
    let is = child-is_child t k s a w l e m in
    h c r (within-trans t k (child t k a) (1, (is.0, sym is.2)) inside.0 c inside.1) below at own

module _ (t : Tree) (b : Behaviour) (i : ℕ) (choice : ℕ → ℕ) (weights values : List ℚ) (choices : List ℕ) (first : ℕ) (h : AreDecided t b i choice weights choices values first 0) where
  -- the choices are actions
  pub chosen-within : (s : ℕ) → s < t.sets → t.owner s ≡ Some i → choice s < t.actions s
  chosen-within s l o = (h.best s l o).within

  -- the value after the chosen action of an own node is known
  pub chosen-known : (k s c : ℕ) → IsTree t → k < t.size → t.set k ≡ Some s → t.owner s ≡ Some i → OwnSetsFrom t i k first → c ≡ child t k (get_or choices s 0) → get_or values c zero_ℚ ≡ child_value t b i choice k (choice s)
  chosen-known k s c w l e o from is =
      let within = w.sets_within k s l e in
      let late = from k s (0, refl) l e o in
      let same : c ≡ child t k (choice s) = is ∙ ap (child t k) (h.choices_are s late within o) in
      let m = child-is_child t k s (choice s) w l e (chosen-within s within o) in
      ap (λ x. get_or values x zero_ℚ) same ∙ h.values_are (child t k (choice s)) s m.0 m.1 (ap t.set m.2 ∙ e) o (inl late)
