use Rattle.std.proofs.Common.{Ok, Err, ap, inl, inr, refl}
use Rattle.zero_sum_lp.specs.Parts.{Program}
use Rattle.zero_sum_lp.proofs.PlanReadLemmas.{first_answer, second_answer}
use Rattle.zero_sum_lp.proofs.optimum.Optimum.plans.Goals as goal

pub returns-in-Err : goal.returns-in-Err
returns-in-Err c =
    inr (inl (c.in-Err.unfit, first_answer c.args.self.now c.self.inside.first c.in_ok-raw.raw.items c.self.invariant.0.first (Err c.in-Err.unfit) (ap (λ (p : Program). p.first) c.self.view_is) c.in_ok-raw.ensures c.in-Err.ensures, refl))

pub returns-in-Ok-trimmed : goal.returns-in-Ok-trimmed
returns-in-Ok-trimmed c = (
  c.in-Ok.one.items,
  first_answer c.args.self.now c.self.inside.first c.in_ok-raw.raw.items c.self.invariant.0.first (Ok c.in-Ok.one.items) (ap (λ (p : Program). p.first) c.self.view_is) c.in_ok-raw.ensures c.in-Ok.ensures,
  (
    c.in-Ok-trimmed.two.items,
    second_answer c.args.self.now c.self.inside.second c.in_ok-raw-2.raw.items c.self.invariant.0.second (Ok c.in-Ok-trimmed.two.items) (ap (λ (p : Program). p.second) c.self.view_is) c.in_ok-raw-2.ensures c.in-Ok-trimmed.ensures,
    ap Ok c.new.ensures,
  ),
)

pub returns-in-Err-trimmed : goal.returns-in-Err-trimmed
returns-in-Err-trimmed c =
    inr (inr (
      c.in-Ok.one.items,
      first_answer c.args.self.now c.self.inside.first c.in_ok-raw.raw.items c.self.invariant.0.first (Ok c.in-Ok.one.items) (ap (λ (p : Program). p.first) c.self.view_is) c.in_ok-raw.ensures c.in-Ok.ensures,
      inl (c.in-Err-trimmed.unfit, second_answer c.args.self.now c.self.inside.second c.in_ok-raw-2.raw.items c.self.invariant.0.second (Err c.in-Err-trimmed.unfit) (ap (λ (p : Program). p.second) c.self.view_is) c.in_ok-raw-2.ensures c.in-Err-trimmed.ensures, refl),
    ))
