use mathlib.Core.Path.{refl}
use Rattle.std.proofs.lemmas.Result.{err_from_is_err_and}
use Rattle.turns.proofs.Strings.{string_full_law, string_closed_law, string_open_law}
use Rattle.turns.proofs.string_turn.Goals as goal

pub returns-in_err-st : goal.returns-in_err-st
returns-in_err-st c =
    let e = err_from_is_err_and c.from_residual.result c.from_residual.ensures.1 in
    rw (e.1, e.2) (string_full_law _ c.requires.0 c.quoted-q.ensures (rw c.from-place.ensures at c.in_err-st.ensures.is))

pub returns-in-Ok : goal.returns-in-Ok
returns-in-Ok c =
    string_closed_law _ c.requires.0 c.quoted-q.ensures (rw c.from-place.ensures at c.in_ok-st.ensures.is) (rw c.in-Ok.is at c.quoted-q.ensures.end) refl
    (rw c.in_ok-st.ensures.is.cursor at c.with_text.ensures)

pub returns-in-Err : goal.returns-in-Err
returns-in-Err c =
    string_open_law _ c.requires.0 c.quoted-q.ensures (rw c.from-place.ensures at c.in_ok-st.ensures.is) (rw c.in-Err.is at c.quoted-q.ensures.end) refl
    (rw c.in_ok-st.ensures.is.cursor at c.with_error.ensures)
