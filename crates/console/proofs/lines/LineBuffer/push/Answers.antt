-- `push` keeps the byte where there is room, and the bytes so far where there is none.
use Rattle.std.proofs.Common.{arith}
use Rattle.console.proofs.Cuts.{held_more, held_full}
use Rattle.console.proofs.lines.LineBuffer.push.Goals as goal

pub returns-then-self-lt-KEPT : goal.returns-then-self-lt-KEPT
returns-then-self-lt-KEPT c = held_more c.args.self.now.len c.args.byte c.args.self.now.bytes (omega arith) (omega arith)

pub returns-else-self-lt-KEPT : goal.returns-else-self-lt-KEPT
returns-else-self-lt-KEPT c = held_full c.args.self.now.len c.args.byte c.args.self.now.bytes (omega arith) (omega arith) (omega arith)
