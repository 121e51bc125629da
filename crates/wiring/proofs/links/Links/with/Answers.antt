-- One place more in one row is one link more.
use Rattle.wiring.specs.Wires.{feeds}
use Rattle.wiring.proofs.RowEdits.{list_put, list_put_past}
use Rattle.wiring.proofs.links.Links.with.Goals as goal
use Rattle.wiring.proofs.links.Links.with.Goals.{then-link-lt-VOTERS, else-link-lt-VOTERS}

pub returns : goal.returns
unfolding feeds
returns c =
    let v = c.args.link.voter in let m = c.args.link.module in
    elim c.if-link-lt-VOTERS.branch [
      | then-link-lt-VOTERS w ↦ list_put c.args.self _ v m w.with.result w.if-link-lt-VOTERS.true w.rows-is w.with.ensures
      | else-link-lt-VOTERS w ↦ list_put_past c.args.self _ v m w.if-link-lt-VOTERS.false w.rows-is
    ]
