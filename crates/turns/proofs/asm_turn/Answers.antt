use mathlib.Core.Path.{sym, ◌∙◌}
use Rattle.std.proofs.lemmas.Result.{err_from_is_err_and}
use Rattle.turns.proofs.Words.{asm_foreign_law, asm_open_law, asm_other_law}
use Rattle.turns.proofs.Numbers.{looked_end}
use Rattle.turns.proofs.asm_turn.Goals as goal
use Rattle.turns.proofs.asm_turn.Goals.{in_default-via-in-Some+in_default, in_default-via-in_default}

pub returns-in_err-known : goal.returns-in_err-known
returns-in_err-known c =
    let e = err_from_is_err_and c.from_residual.result c.from_residual.ensures.1 in
    rw (e.1, e.2) (asm_foreign_law _ c.requires.0 c.white-w.ensures c.in_err-known.ensures)

pub returns-in_default : goal.returns-in_default
returns-in_default c = elim c.in_default.branch [
  | in_default-via-in-Some+in_default w ↦
      asm_other_law _ c.requires.0 c.white-w.ensures c.in_ok-known.ensures c.skip-d.ensures
      (λ e. w.in_default.field-0-test.1 (w.in_default.ensures ∙ e)) c.with_error.ensures
  | in_default-via-in_default w ↦
      asm_other_law _ c.requires.0 c.white-w.ensures c.in_ok-known.ensures c.skip-d.ensures
      (λ e. absurd (cc (looked_end c.look.ensures w.in_default.is ∙ e))) c.with_error.ensures
]

pub returns-in-Ok : goal.returns-in-Ok
returns-in-Ok c =
    asm_open_law _ c.requires.0 c.white-w.ensures c.in_ok-known.ensures c.skip-d.ensures
    (sym c.in-Some-eq123.ensures ∙ c.in-Some-eq123.field-0-test) (rw c.in-Ok.is at c.assembly.ensures) c.fragment.ensures

pub returns-in-Err : goal.returns-in-Err
returns-in-Err c =
    asm_open_law _ c.requires.0 c.white-w.ensures c.in_ok-known.ensures c.skip-d.ensures
    (sym c.in-Some-eq123.ensures ∙ c.in-Some-eq123.field-0-test) (rw c.in-Err.is at c.assembly.ensures) c.fragment-in-Err.ensures
