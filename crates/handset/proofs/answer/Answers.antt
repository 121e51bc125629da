-- The reply has room, so the line is carried out.
use Rattle.console.specs.Replies.{no_room}
use Rattle.handset.proofs.answer.Goals as goal

pub returns-in_err-len : goal.returns-in_err-len
unfolding no_room
returns-in_err-len g c = c.answer.ensures.after
