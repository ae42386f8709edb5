use Rattle.answers.specs.Answers.{◌>>=◌}
use Rattle.answers.proofs.AnswerLemmas.{gives_bind_as, gives_exit}
use Rattle.sequence_data.specs.Sizes.{program_size}
use Rattle.two_player_tools.specs.Lp.{solution_in, solution_text}
use Rattle.two_player_tools.specs.Solved.{solution_of}
use Rattle.two_player_tools.specs.TwoPlayers.{form_in, two_players}
use Rattle.refusals.specs.declared.refusal.Refusal.TheVariants as refusal
use Rattle.two_player_tools.proofs.lp.form_text.Goals as goal

pub returns-in_err-solved : goal.returns-in_err-solved
returns-in_err-solved c =
    let strategic = c.args.strategic in
    let game = c.args.game.now in
    let f = c.args.form.now in
    let r = c.from_residual.result in
    gives_bind_as refusal.Memory (two_players game) (λ _. form_in program_size strategic game >>= λ f. (solution_in f >>= λ s. solution_text strategic c.args.prices game f s)) tt r (λ text. text.items) (λ other. other c.requires.two)
    (gives_bind_as refusal.Memory (form_in program_size strategic game) (λ f. solution_in f >>= λ s. solution_text strategic c.args.prices game f s) f r (λ text. text.items) c.requires.form
    (gives_exit refusal.Memory (solution_in f) (λ s. solution_text strategic c.args.prices game f s) c.in_err-solved.field-0.0 r (λ text. text.items) c.in_err-solved.ensures.answer c.from_residual.ensures.1))

pub solution_text-requires : goal.solution_text-requires
solution_text-requires c = record { form = (program_size, c.requires.form); sizes = c.in_ok-solved.ensures.sizes }

pub returns : goal.returns
returns c =
    let strategic = c.args.strategic in
    let game = c.args.game.now in
    let f = c.args.form.now in
    let r = c.solution_text.result in
    gives_bind_as refusal.Memory (two_players game) (λ _. form_in program_size strategic game >>= λ f. (solution_in f >>= λ s. solution_text strategic c.args.prices game f s)) tt r (λ text. text.items) (λ other. other c.requires.two)
    (gives_bind_as refusal.Memory (form_in program_size strategic game) (λ f. solution_in f >>= λ s. solution_text strategic c.args.prices game f s) f r (λ text. text.items) c.requires.form
    (gives_bind_as refusal.Memory (solution_in f) (λ s. solution_text strategic c.args.prices game f s) (solution_of f c.in_ok-solved.solved) r (λ text. text.items) c.in_ok-solved.ensures.answer c.solution_text.ensures))
