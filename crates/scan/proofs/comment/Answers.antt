use Rattle.scan.proofs.Newline.{comment_past, comment_out}
use Rattle.scan.proofs.comment.Goals as goal

pub returns-then-at-s : goal.returns-then-at-s
returns-then-at-s c = comment_out c.requires.stands c.line_end-at.ensures c.if-at-s.true

pub returns : goal.returns
returns c = comment_past c.requires.stands c.line_end-at.ensures c.if-at-s.false
