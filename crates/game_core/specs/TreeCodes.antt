-- How trees are stored as numbers and lists.
use Rattle.std.specs.Prelude.{ℕ, zero, suc, List, ◌≡◌, Option, refl}
use Rattle.std.specs.Coded.{Coded, code_by, coded×, coded_ℕ, coded_list, coded_option}
use Rattle.rational.specs.Rational.{ℚ}
use Rattle.rational.proofs.CodeLemmas.{code_ℚ}
use Rattle.game_core.specs.declared.tree.Action.{Action}
use Rattle.game_core.specs.declared.tree.Kind.{Kind}
use Rattle.game_core.specs.declared.tree.Kind.TheVariants.{Chance, Move, End}
use Rattle.game_core.specs.declared.tree.Node.{Node}
use Rattle.game_core.specs.Tree.{GameTree, InformationSet, TreeOutcome}

-- an action is stored as its name and its probability
abbrev pub code_of_action : Coded Action
code_of_action =
    code_by (List ℕ × ℚ) (coded× (coded_list coded_ℕ) code_ℚ) (λ a. (a.name, a.prob))
    (λ p. record { name = p.0; prob = p.1 }) (λ _. refl)

-- a kind is stored as two numbers
abbrev pub kind_parts : Kind → ℕ × ℕ
kind_parts Chance = (0, 0)
kind_parts (Move player) = (1, player)
kind_parts End = (2, 0)

abbrev pub kind_of_parts : ℕ → ℕ → Kind
kind_of_parts zero player = Chance
kind_of_parts (suc zero) player = Move player
kind_of_parts (suc (suc n)) player = End

pub kind_of_parts-parts : (kind : Kind)
    → kind_of_parts (kind_parts kind).0 (kind_parts kind).1 ≡ kind
kind_of_parts-parts Chance = refl
kind_of_parts-parts (Move player) = refl
kind_of_parts-parts End = refl

abbrev pub code_of_kind : Coded Kind
code_of_kind =
    code_by (ℕ × ℕ) (coded× coded_ℕ coded_ℕ) kind_parts (λ p. kind_of_parts p.0 p.1)
    kind_of_parts-parts

-- a node is stored as its five parts
abbrev pub code_of_node : Coded Node
code_of_node =
    code_by (Kind × (Option ℕ × (ℕ × (Option ℕ × Option ℕ))))
    (coded× code_of_kind
    (coded× (coded_option coded_ℕ)
    (coded× coded_ℕ (coded× (coded_option coded_ℕ) (coded_option coded_ℕ)))))
    (λ n. (n.kind, (n.parent, (n.branch, (n.set, n.outcome)))))
    (λ p. record {
      kind = p.0;
      parent = p.1.0;
      branch = p.1.1.0;
      set = p.1.1.1.0;
      outcome = p.1.1.1.1;
    }) (λ _. refl)

-- a set is stored as its five parts
abbrev pub code_of_set : Coded InformationSet
code_of_set =
    code_by (Option ℕ × (ℕ × (List ℕ × (List Action × List ℕ))))
    (coded× (coded_option coded_ℕ)
    (coded× coded_ℕ
    (coded× (coded_list coded_ℕ) (coded× (coded_list code_of_action) (coded_list coded_ℕ)))))
    (λ s. (s.owner, (s.label, (s.name, (s.actions, s.members)))))
    (λ p. record {
      owner = p.0;
      label = p.1.0;
      name = p.1.1.0;
      actions = p.1.1.1.0;
      members = p.1.1.1.1;
    }) (λ _. refl)

-- an outcome is stored as its three parts
abbrev pub code_of_outcome : Coded TreeOutcome
code_of_outcome =
    code_by (ℕ × (List ℕ × List ℚ))
    (coded× coded_ℕ (coded× (coded_list coded_ℕ) (coded_list code_ℚ)))
    (λ o. (o.label, (o.name, o.payoffs)))
    (λ p. record { label = p.0; name = p.1.0; payoffs = p.1.1 }) (λ _. refl)

-- a tree is stored as its five lists
abbrev pub code_of_tree : Coded GameTree
code_of_tree =
    code_by (List ℕ × (List (List ℕ) × (List Node × (List InformationSet × List TreeOutcome))))
    (coded× (coded_list coded_ℕ)
    (coded× (coded_list (coded_list coded_ℕ))
    (coded× (coded_list code_of_node)
    (coded× (coded_list code_of_set) (coded_list code_of_outcome)))))
    (λ t. (t.title, (t.players, (t.nodes, (t.sets, t.outcomes)))))
    (λ p. record {
      title = p.0;
      players = p.1.0;
      nodes = p.1.1.0;
      sets = p.1.1.1.0;
      outcomes = p.1.1.1.1;
    }) (λ _. refl)
