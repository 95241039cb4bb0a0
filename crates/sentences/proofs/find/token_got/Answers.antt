use mathlib.Core.Path.{refl}
use Rattle.steps.proofs.SameKind.{same_number, other_number}
use Rattle.sentences.proofs.Messages.{as_kind, got_none, got_some}
use Rattle.sentences.proofs.find.token_got.Goals as goal
use Rattle.sentences.proofs.find.token_got.Goals.{in-End, in_default}

pub returns : goal.returns
returns c = (
  elim c.match-e.branch [
    | in-End w ↦ rw w.token-is (as_kind _ (got_none _ _ _ c.args.e (same_number w.in-End.is) w.peek-token.ensures))
    | in_default w ↦ rw w.token-is (as_kind _ (got_some _ _ _ c.args.e (other_number w.in_default.not-End) w.token_at-token.ensures))
  ],
  refl,
)
