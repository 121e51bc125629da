-- `accept` gives a line up at a newline and begins an empty one, and else keeps the byte.
use Rattle.std.proofs.Common.{refl, ◌∙◌, arith}
use Rattle.console.proofs.Cuts.{cut_more}
use Rattle.console.proofs.Endings.{splits_byte, splits_newline}
use Rattle.console.proofs.lines.LineBuffer.accept.Goals as goal

pub returns-then-byte-eq-NEWLINE : goal.returns-then-byte-eq-NEWLINE
returns-then-byte-eq-NEWLINE c = record {
  cases = (omega arith, refl, c.new.ensures);
  splits = λ input full part so_far kept. (splits_newline input full part _ so_far (omega arith), kept, c.new.ensures);
}

pub returns : goal.returns
returns c = record {
  cases = (omega arith, c.push.ensures);
  splits =
      λ input full part so_far kept. (splits_byte input full part _ so_far (omega arith), c.push.ensures ∙ cut_more 41 c.args.byte part _ kept);
}
