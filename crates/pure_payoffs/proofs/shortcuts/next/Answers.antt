use Rattle.std.proofs.Common.{◌≡◌, ◌∙◌, ◌<◌, Some, get_or, length, sym, ap, arith}
use Rattle.pure_payoffs.specs.Plays.{game_of}
use Rattle.pure_payoffs.proofs.PlaceLemmas.{child-read, child-found, play-chooses}
use Rattle.pure_payoffs.proofs.TreePartLemmas.{set-read, pays-none, owner-of}
use Rattle.pure_payoffs.proofs.shortcuts.next.Goals as goal
use Rattle.pure_payoffs.proofs.shortcuts.next.Goals.{After-index-play-node}

-- the node is one of the list's
below : (c : After-index-play-node) → c.args.node < length c.nodes.result.now
below c = omega (arith, ap length c.nodes.ensures.nodes)

-- its set
at-set : (c : After-index-play-node) → (game_of c.args.play.now).set c.args.node ≡ Some c.in-Move-Some.set
at-set c = set-read c.args.play.now.tree.now _ c.args.node _ c.nodes.ensures.nodes (below c) ∙ c.in-Move-Some.is-1

-- the set's owner
owned : (c : After-index-play-node) → (game_of c.args.play.now).owner c.in-Move-Some.set ≡ Some c.in-Move-Some.player
owned c = owner-of c.args.play.now.tree.now _ c.args.node c.in-Move-Some.set c.in-Move-Some.player _ c.nodes.ensures.valid c.nodes.ensures.nodes (below c) c.in-Move-Some.is-0 c.in-Move-Some.is-1

-- the owner chooses one of the set's actions
chosen : (c : After-index-play-node) → c.action_at-action.result < (game_of c.args.play.now).actions c.in-Move-Some.set
chosen c =
    let within = c.requires.play.tree.sets_within c.args.node c.in-Move-Some.set c.requires.node (at-set c) in
    rw c.action_at-action.ensures (play-chooses _ _ _ c.requires.play c.in-Move-Some.set c.in-Move-Some.player within (owned c))

pub index-requires : goal.index-requires
index-requires c =
    let read = child-read (λ v. v.items) _ c.args.play.now.children.now c.args.node c.in-Move-Some.set c.action_at-action.result c.index-play-node.result c.requires.play.tree c.requires.play.children_are c.requires.node (at-set c) (chosen c) in
    rw (get_or c.args.play.now.children.now c.args.node c.index-play-node.result).ok.0 read.0

pub returns-in-Move-Some : goal.returns-in-Move-Some
returns-in-Move-Some c =
    let before = (goal.at.returns-in-Move-Some c).After-index-play-node in
    let found = child-found (λ v. v.items) _ c.args.play.now.children.now c.args.node c.in-Move-Some.set c.action_at-action.result c.index-play-node.result c.index.result.now c.requires.play.tree c.requires.play.children_are c.requires.node (at-set before) (chosen before) c.index.ensures in
    record {
      set = c.in-Move-Some.set;
      owner = c.in-Move-Some.player;
      at_set = at-set before;
      own = owned before;
      pays_nothing = λ i. pays-none c.args.play.now.tree.now _ c.args.node i _ c.nodes.ensures.nodes (below before) (sym c.is_some.ensures ∙ c.if-is_some.false);
      leads = rw c.action_at-action.ensures at found.0;
      later = found.1;
      within = found.2;
    }
