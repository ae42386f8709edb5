use Rattle.std.proofs.Common.{Err, map, string_bytes, refl}
use Rattle.answers.specs.Answers.{map_ok}
use Rattle.gambit_tools.specs.Seen.{seen}
use Rattle.gambit_tools.proofs.RunLaws.{outcome-complete, outcome-text, outcome-told}
use Rattle.gambit_tools.proofs.tools.run.Goals as goal

pub returns-in-None : goal.returns-in-None
returns-in-None g c =
    let words = map string_bytes c.args.words.now in
    let before = seen (g.I.Inputs.seen c.args.inputs.now) (g.K.Sink.seen c.args.out.now) (g.E.Sink.seen c.args.err.now) in
    let after = seen (g.I.Inputs.seen c.answer.new.inputs) (g.K.Sink.seen c.answer.new.out) (g.E.Sink.seen c.args.err.now) in
    let a = c.answer.ensures in
    let answer = map_ok c.answer.result (λ text. text.items) in
    let told = outcome-text c.answers_are_single.ensures words before after c.answer.result (λ text. text.items) c.in-None.ensures.value a.run a.counts a.output_faults a.held refl in
    record { outcome = (answer, told); complete = outcome-complete words before after 0 answer told }

pub returns-in-Some : goal.returns-in-Some
returns-in-Some g c =
    let words = map string_bytes c.args.words.now in
    let before = seen (g.I.Inputs.seen c.args.inputs.now) (g.K.Sink.seen c.args.out.now) (g.E.Sink.seen c.args.err.now) in
    let after = seen (g.I.Inputs.seen c.answer.new.inputs) (g.K.Sink.seen c.answer.new.out) (g.E.Sink.seen c.refuse.new.err) in
    let a = c.answer.ensures in
    let t = c.refuse.ensures in
    let told = outcome-told c.answers_are_single.ensures words before after c.answer.result (λ text. text.items) c.in-Some.refusal t.0 c.refuse.result c.in-Some.ensures.value a.run a.counts a.output_faults a.held t.1 t.2 t.3 in
    record { outcome = (Err t.0, told); complete = outcome-complete words before after c.refuse.result (Err t.0) told }
