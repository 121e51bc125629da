-- `as_slice` is what the buffer holds, which makes the call of the whole line.
use Rattle.std.proofs.Common.{◌≡◌, ◌-◌, take, ap, ◌∙◌, arith}
use Rattle.console.specs.Requests.{request}
use Rattle.console.proofs.Cuts.{request_cut}
use Rattle.console.proofs.lines.LineBuffer.as_slice.Goals as goal

pub returns : goal.returns
returns c =
    let whole : c.args.self.now.len - 0 ≡ c.args.self.now.len = omega arith in
    let value = ap (λ n. take n c.args.self.now.bytes) whole in
    record { value = value; same_call = λ line cut. ap request (value ∙ cut) ∙ request_cut line }
