use Rattle.std.proofs.Common.{◌≡◌, ◌++◌, ◌∙◌, Ok, Err, All, get_or, ap, subst, arith}
use Rattle.std.proofs.lemmas.List.{take_all}
use Rattle.std.proofs.lemmas.Option.{slice_get-get_or}
use Rattle.std.proofs.lemmas.Result.{err_from_is_err_and}
use Rattle.answers.specs.Answers.{map_err}
use Rattle.answers.proofs.AnswerLemmas.{gives_refused}
use Rattle.frac128.specs.FirstUnfit.{StepsFit}
use Rattle.pure_payoffs.specs.Plays.{choice_of, game_of}
use Rattle.pure_payoffs.specs.Stops.{at_node, node_players, node_values, steps_of, values_fit}
use Rattle.pure_payoffs.specs.declared.stop.PayoffStop.TheVariants as stops
use Rattle.pure_payoffs.proofs.NodeListLemmas.{node_values-push, node_fits, node_stops}
use Rattle.pure_payoffs.proofs.payoff.Play.push_each.Goals as goal

pub push_values-requires-clause-node : goal.push_values-requires-clause-node
push_values-requires-clause-node c = c.requires.nodes c.loop-node.node-index 0 (omega arith)

pub returns-in_err-map_err-clause-stop : goal.returns-in_err-map_err-clause-stop
returns-in_err-map_err-clause-stop c =
    let t = game_of c.args.self.now in
    let choice = choice_of c.args.self.now in
    let k = c.loop-node.node-index in
    let node = get_or c.args.nodes.now k 0 in
    let at = slice_get-get_or c.args.nodes.now k 0 (omega arith) in
    let p = err_from_is_err_and c.from_residual.result c.from_residual.ensures.1 in
    let is : map_err (at_node node) c.push_values.result ≡ Err c.in_err-map_err.field-0.0 = (let cases = c.map_err.ensures.cases in let was = c.in_err-map_err.was in grind arith) in
    rw (p.1, p.2) (node_stops t choice c.args.nodes.now k node at c.loop-node.invariant.fit c.in_err-map_err.field-0.0 (rw is at (gives_refused stops.Memory (at_node node) (values_fit t choice node) c.push_values.result c.push_values.ensures.stop)))

pub loop-node-preserved : goal.loop-node-preserved
loop-node-preserved c =
    let t = game_of c.args.self.now in
    let choice = choice_of c.args.self.now in
    let k = c.loop-node.node-index in
    let node = get_or c.args.nodes.now k 0 in
    let at = slice_get-get_or c.args.nodes.now k 0 (omega arith) in
    record {
      keep = c.push_values.ensures.keep;
      values = node_values-push t choice c.args.nodes.now k node at c.args.values.now.items c.loop-node.values.items c.push_values.new.values.items c.loop-node.invariant.values (let done : c.push_values.result ≡ Ok tt = grind arith in rw done at c.push_values.ensures.values);
      fit = node_fits t choice c.args.nodes.now k node at c.loop-node.invariant.fit (let done : c.push_values.result ≡ Ok tt = grind arith in rw done at c.push_values.ensures.stop);
    }

pub returns-clause-values : goal.returns-clause-values
returns-clause-values c =
    c.loop-node.invariant.values ∙ ap (λ nodes. c.args.values.now.items ++ node_values (game_of c.args.self.now) (choice_of c.args.self.now) nodes) (take_all c.loop-node.node-index c.args.nodes.now (omega arith))

pub returns-clause-stop : goal.returns-clause-stop
returns-clause-stop c =
    subst (λ nodes. All (StepsFit (steps_of (game_of c.args.self.now) (choice_of c.args.self.now))) (node_players (game_of c.args.self.now) nodes)) (take_all c.loop-node.node-index c.args.nodes.now (omega arith)) c.loop-node.invariant.fit
