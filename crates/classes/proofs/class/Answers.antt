use mathlib.Core.Path.{◌≡◌, sym, ap, ◌∙◌}
use native.Mathlib.Omega.{arith}
use Rattle.definition.specs.Tokenizer as Z
use Rattle.classes.proofs.Found.{kind_there}
use Rattle.classes.proofs.Choices.{yes, no, is, not, alone, class_is, no_spelling, no_symbol, digit_alone, other_alone, letter_begins, white_begins}
use Rattle.classes.proofs.class.Goals as goal

pub returns-then-is_letter-clause-class : goal.returns-then-is_letter-clause-class
returns-then-is_letter-clause-class c = letter_begins _ c.ranges.c.fits (sym c.is_letter.ensures ∙ c.if-is_letter.true) _

pub returns-then-is_white-clause-class : goal.returns-then-is_white-clause-class
returns-then-is_white-clause-class c = white_begins _ _ c.ranges.c.fits (sym c.is_white.ensures ∙ c.if-is_white.true)

pub returns-then-opens_comment-clause-class : goal.returns-then-opens_comment-clause-class
returns-then-opens_comment-clause-class c = rw (class_is _ _ c.ranges.c.fits) (search (no, yes))

pub returns-in-Some-clause-class : goal.returns-in-Some-clause-class
returns-in-Some-clause-class c = rw (class_is _ _ c.ranges.c.fits) (search (no, is, kind_there))

pub returns-in-Some-symbol-clause-class : goal.returns-in-Some-symbol-clause-class
returns-in-Some-symbol-clause-class c = rw (class_is _ _ c.ranges.c.fits) (search (no, is, not, kind_there, no_spelling) depth 7)

pub returns-in-34-clause-class : goal.returns-in-34-clause-class
returns-in-34-clause-class c = let q = c.ranges.c.fits in let e : Z.Quote ≡ alone c.args.c = sym (ap alone c.in-34.is) in search no_symbol

pub returns-in-45-clause-class : goal.returns-in-45-clause-class
returns-in-45-clause-class c = let q = c.ranges.c.fits in let e : Z.Dash ≡ alone c.args.c = sym (ap alone c.in-45.is) in search no_symbol

pub returns-in-48-clause-class : goal.returns-in-48-clause-class
returns-in-48-clause-class c = let q = c.ranges.c.fits in let e : Z.Zero ≡ alone c.args.c = sym (ap alone c.in-48.is) in search no_symbol

pub returns-in_default-c-clause-class : goal.returns-in_default-c-clause-class
returns-in_default-c-clause-class c =
    let q = c.ranges.c.fits in
    let e = digit_alone c.args.c c.is_digit.ensures (λ e. omega arith) (λ e. omega arith) (λ e. omega arith) c.if-is_digit.true in
    search no_symbol

pub returns-in_default-2-clause-class : goal.returns-in_default-2-clause-class
returns-in_default-2-clause-class c =
    let q = c.ranges.c.fits in
    let e = other_alone c.args.c c.is_digit.ensures (λ e. omega arith) (λ e. omega arith) (λ e. omega arith) c.if-is_digit.false in
    search no_symbol
