use mathlib.Core.Path.{sym, ◌∙◌}
use borrow.Author.Tests.{ltb-false}
use Rattle.std.proofs.lemmas.Result.{err_from_is_err_and}
use Rattle.classes.proofs.Table.{same_is}
use Rattle.scan.proofs.Runs.{first_ended, word_ended, word_refused}
use Rattle.turns.specs.Contract.{first}
use Rattle.turns.proofs.Words.{word_asks, word_foreign_law, word_asm_law, word_identifier_law, word_keyword_law}
use Rattle.turns.proofs.word_turn.Goals as goal
use Rattle.turns.proofs.word_turn.Goals.{then-is_wide+in_ok-known, else-is_wide}

pub returns-in_err-known : goal.returns-in_err-known
returns-in_err-known c =
    let a = word_asks c.requires.0 c.requires.1.0 c.requires.1.2 c.put_char-n.ensures in
    let e = err_from_is_err_and c.from_residual.result c.from_residual.ensures.1 in
    rw (e.1, e.2) (word_foreign_law _ (first c.args.turn) c.in_err-known.ensures.1
    (word_refused a c.word_bytes-end.ensures c.wide_word-end.ensures c.in_err-known.ensures.0))

pub returns-then-eq : goal.returns-then-eq
returns-then-eq c =
    let a = word_asks c.requires.0 c.requires.1.0 c.requires.1.2 c.put_char-n.ensures in
    word_asm_law _ c.requires.0 c.put_char-n.ensures (elim c.if-is_wide.branch [
      | then-is_wide+in_ok-known w ↦
          rw (w.end-is, w.text-is) (word_ended a c.word_bytes-end.ensures w.wide_word-end.ensures w.in_ok-known.ensures)
      | else-is_wide w ↦
          rw (w.end-is, w.text-is) (first_ended a c.word_bytes-end.ensures
          (ltb-false 127 _ (sym c.is_wide.ensures ∙ w.if-is_wide.false)))
    ]) (c.eq.ensures ∙ same_is _ _) c.if-eq.true c.asm_turn.ensures

pub returns-in-Some : goal.returns-in-Some
returns-in-Some c =
    let a = word_asks c.requires.0 c.requires.1.0 c.requires.1.2 c.put_char-n.ensures in
    word_keyword_law _ c.requires.0 c.put_char-n.ensures (elim c.if-is_wide.branch [
      | then-is_wide+in_ok-known w ↦
          rw (w.end-is, w.text-is) (word_ended a c.word_bytes-end.ensures w.wide_word-end.ensures w.in_ok-known.ensures)
      | else-is_wide w ↦
          rw (w.end-is, w.text-is) (first_ended a c.word_bytes-end.ensures
          (ltb-false 127 _ (sym c.is_wide.ensures ∙ w.if-is_wide.false)))
    ]) (c.eq.ensures ∙ same_is _ _) c.if-eq.false c.keyword.ensures c.in-Some.is c.plain.ensures

pub returns-in-None : goal.returns-in-None
returns-in-None c =
    let a = word_asks c.requires.0 c.requires.1.0 c.requires.1.2 c.put_char-n.ensures in
    word_identifier_law _ c.requires.0 c.put_char-n.ensures (elim c.if-is_wide.branch [
      | then-is_wide+in_ok-known w ↦
          rw (w.end-is, w.text-is) (word_ended a c.word_bytes-end.ensures w.wide_word-end.ensures w.in_ok-known.ensures)
      | else-is_wide w ↦
          rw (w.end-is, w.text-is) (first_ended a c.word_bytes-end.ensures
          (ltb-false 127 _ (sym c.is_wide.ensures ∙ w.if-is_wide.false)))
    ]) (c.eq.ensures ∙ same_is _ _) c.if-eq.false c.keyword.ensures c.in-None.is c.with_text.ensures
