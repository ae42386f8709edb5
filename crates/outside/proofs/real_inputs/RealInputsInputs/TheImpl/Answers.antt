use Rattle.std.proofs.Common.{refl, ℕ, List, None, Result, Ok, Err, OnOk}
use Rattle.std.specs.Io.KnownBytes.{ReadConsumes}
use Rattle.outside.proofs.real_inputs.RealInputsInputs.TheImpl.Goals as goal

-- a fact holds at Ok
at_ok : {T E A : Type 0} (r : Result T E) → A → OnOk r A
at_ok (Ok x) fact = fact
at_ok (Err e) fact = tt

-- a read of unknown bytes
read_unknown : {E : Type 0} (r : Result ℕ E) (buf : List ℕ) → OnOk r (ReadConsumes None None r buf)
read_unknown (Ok n) buf = (tt, λ _ _. tt)
read_unknown (Err e) buf = tt

pub select-tells : goal.select-tells
select-tells g c = record {
  selects = c.ensures.selects;
  all_left = at_ok c.result refl;
  is_there = at_ok c.result refl;
  failed_stays = c.ensures.failed_stays;
  fails = c.ensures.fails;
  selects_nothing = c.ensures.selects_nothing;
  held = λ _. refl;
  absent = λ _. refl;
  not_at_end = c.ensures.not_at_end;
  selections = c.ensures.selections;
  ends = c.ensures.ends;
  counts = c.ensures.counts;
  other_count = c.ensures.other_count;
}

pub read-tells : goal.read-tells
read-tells g c = record {
  bound = c.ensures.bound;
  bytes = read_unknown c.result c.new.buf.now;
  selected_stays = c.ensures.selected_stays;
  failed_stays = c.ensures.failed_stays;
  idle = c.ensures.idle;
  fails = c.ensures.fails;
  selects_nothing = c.ensures.selects_nothing;
  held = λ _. refl;
  absent = λ _. refl;
  at_end = c.ensures.at_end;
  not_at_end = c.ensures.not_at_end;
  selections = c.ensures.selections;
  ends = c.ensures.ends;
  counts = c.ensures.counts;
  other_count = c.ensures.other_count;
}
