-- A tree has one recall, or one player who forgets first.
use Rattle.std.proofs.Common.{◌≡◌, ◌<◌, ◌∙◌, sym, ap, subst, ℕ, inl, inr, Option, Some, None, List, slice_get, Ok, Err}
use Rattle.std.proofs.lemmas.Bool.{cases_order}
use Rattle.std.proofs.lemmas.List.{get_or-map}
use Rattle.std.proofs.lemmas.Option.{same_Some, slice_get_within, get_or_from_slice_get}
use Rattle.answers.specs.Answers.{IsSingle}
use Rattle.game_theory.specs.Trees.{Tree, IsTree as is_game_tree}
use Rattle.game_theory.specs.Recall.{HasPerfectRecall, HaveOneHistory}
use Rattle.game_core.specs.Tree.{GameTree, InformationSet}
use Rattle.game_core.specs.TreeGame.{game_of_tree}
use Rattle.perfect_recall.specs.declared.recall.Forgets.{Forgets}
use Rattle.perfect_recall.specs.declared.recall.RecallStop.TheVariants as stops
use Rattle.perfect_recall.specs.Found.{IsFirstNode, IsFirstOther, ForgetsAt, IsForgetting, IsRecallOf, recall_of}

-- the owner of a set by the tree's list
pub owner-at : (t : GameTree) (n : ℕ) (set : InformationSet) → slice_get t.sets n ≡ Some set → (game_of_tree t).owner n ≡ set.owner
owner-at t n set is = get_or-map (λ x. x.owner) t.sets n set None (slice_get_within t.sets n set is) ∙ ap (λ x. x.owner) (get_or_from_slice_get t.sets n set set is)

-- where a player forgets, the set is not alike
not_alike : (t : GameTree) (f : Forgets) (h : ForgetsAt t f) → HaveOneHistory (game_of_tree t) f.player h.number → ⊥
not_alike t f h alike = h.second_is.other (alike f.second_node f.first_node h.second_is.within h.first_is.within h.second_is.in_set h.first_is.in_set)

own : (t : GameTree) (f : Forgets) (h : ForgetsAt t f) → (game_of_tree t).owner h.number ≡ Some f.player
own t f h = owner-at t h.number h.set h.stands_at ∙ h.own

-- so the player does not recall
forgets-not_recalls : (t : GameTree) (f : Forgets) → ForgetsAt t f → HasPerfectRecall (game_of_tree t) f.player → ⊥
forgets-not_recalls t f h recall = not_alike t f h (recall h.number (own t f h))

-- the first player is one
same_player : (t : GameTree) (f g : Forgets) → IsForgetting t f → IsForgetting t g → f.player ≡ g.player
same_player t f g h k = elim (cases_order f.player g.player) [
  | inl e ↦ e
  | inr (inl l) ↦ absurd (forgets-not_recalls t f h.forgets (k.players_before f.player l))
  | inr (inr l) ↦ absurd (forgets-not_recalls t g k.forgets (h.players_before g.player l))
]

-- a set of the player before the one that is named is alike
set-after : (t : GameTree) (f g : Forgets) (h : ForgetsAt t f) (k : ForgetsAt t g) → f.player ≡ g.player → h.number < k.number → ⊥
set-after t f g h k same l = not_alike t f h (subst (λ i. HaveOneHistory (game_of_tree t) i h.number) (sym same) (k.sets_before h.number l (own t f h ∙ ap Some same)))

-- the first set is one
same_set : (t : GameTree) (f g : Forgets) (h : ForgetsAt t f) (k : ForgetsAt t g) → f.player ≡ g.player → h.number ≡ k.number
same_set t f g h k same = elim (cases_order h.number k.number) [
  | inl e ↦ e
  | inr (inl l) ↦ absurd (set-after t f g h k same l)
  | inr (inr l) ↦ absurd (set-after t g f k h (sym same) l)
]

-- the first node is one
same_first : (t : Tree) (s k l : ℕ) → IsFirstNode t s k → IsFirstNode t s l → k ≡ l
same_first t s k l h g = elim (cases_order k l) [
  | inl e ↦ e
  | inr (inl b) ↦ absurd (g.none_before k b h.in_set)
  | inr (inr b) ↦ absurd (h.none_before l b g.in_set)
]

-- and the first with another history
same_second : (t : Tree) (i s n k l : ℕ) → IsFirstOther t i s n k → IsFirstOther t i s n l → k ≡ l
same_second t i s n k l h g = elim (cases_order k l) [
  | inl e ↦ e
  | inr (inl b) ↦ absurd (h.other (g.same_before k b h.in_set))
  | inr (inr b) ↦ absurd (g.other (h.same_before l b g.in_set))
]

-- what is named has four parts
named : (p q : ℕ) (s r k l m n : ℕ) → p ≡ q → s ≡ r → k ≡ l → m ≡ n → let f : Forgets = record { player = p; set = s; first_node = k; second_node = m } in let g : Forgets = record { player = q; set = r; first_node = l; second_node = n } in f ≡ g
named p q s r k l m n a b c d = λ i. record { player = a i; set = b i; first_node = c i; second_node = d i }

same_forgets : (t : GameTree) (f g : Forgets) → IsForgetting t f → IsForgetting t g → f ≡ g
same_forgets t f g h k =
    let player = same_player t f g h k in
    let number = same_set t f g h.forgets k.forgets player in
    let set : h.forgets.set ≡ k.forgets.set = same_Some _ _ (sym h.forgets.stands_at ∙ ap (slice_get t.sets) number ∙ k.forgets.stands_at) in
    let first = same_first (game_of_tree t) k.forgets.number f.first_node g.first_node (subst (λ n. IsFirstNode (game_of_tree t) n f.first_node) number h.forgets.first_is) k.forgets.first_is in
    let other : IsFirstOther (game_of_tree t) g.player k.forgets.number g.first_node f.second_node =
    subst (λ i. IsFirstOther (game_of_tree t) i k.forgets.number g.first_node f.second_node) player (subst (λ n. IsFirstOther (game_of_tree t) f.player n g.first_node f.second_node) number (subst (λ n. IsFirstOther (game_of_tree t) f.player h.forgets.number n f.second_node) first h.forgets.second_is)) in
    let second = same_second (game_of_tree t) g.player k.forgets.number g.first_node f.second_node g.second_node other k.forgets.second_is in
    named f.player g.player f.set g.set f.first_node g.first_node f.second_node g.second_node player (h.forgets.label_is ∙ ap (λ x. x.label) set ∙ sym k.forgets.label_is) first second

-- who recalls does not forget
recall-not_forgets : (t : GameTree) (before : List (Option (ℕ × ℕ))) (f : Forgets) → is_game_tree (game_of_tree t) → IsRecallOf (game_of_tree t) before → IsForgetting t f → ⊥
recall-not_forgets t before f w h k =
    let within = slice_get_within t.sets k.forgets.number k.forgets.set k.forgets.stands_at in
    forgets-not_recalls t f k.forgets (h.all_recall f.player (w.owners_within k.forgets.number f.player within (own t f k.forgets)))

pub recall-single : (t : GameTree) → is_game_tree (game_of_tree t) → IsSingle (recall_of t)
recall-single t w (Ok a) (Ok b) h k = ap Ok (h.before_is ∙ sym k.before_is)
recall-single t w (Ok a) (Err (stops.Forgets g)) h k = absurd (recall-not_forgets t a g w h k)
recall-single t w (Err (stops.Forgets f)) (Ok b) h k = absurd (recall-not_forgets t b f w k h)
recall-single t w (Err (stops.Forgets f)) (Err (stops.Forgets g)) h k = ap (λ x. Err (stops.Forgets x)) (same_forgets t f g h k)
recall-single t w (Err stops.Memory) other h k = absurd h
recall-single t w (Ok a) (Err stops.Memory) h k = absurd k
recall-single t w (Err (stops.Forgets f)) (Err stops.Memory) h k = absurd k
