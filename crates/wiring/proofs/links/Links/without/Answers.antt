-- One place less in one row is one link less.
use Rattle.wiring.specs.Wires.{feeds}
use Rattle.wiring.proofs.RowEdits.{list_taken_out, list_taken_out_past}
use Rattle.wiring.proofs.links.Links.without.Goals as goal
use Rattle.wiring.proofs.links.Links.without.Goals.{then-link-lt-VOTERS, else-link-lt-VOTERS}

pub returns : goal.returns
unfolding feeds
returns c =
    let v = c.args.link.voter in let m = c.args.link.module in
    elim c.if-link-lt-VOTERS.branch [
      | then-link-lt-VOTERS w ↦ list_taken_out c.args.self _ v m w.without.result w.if-link-lt-VOTERS.true w.rows-is w.without.ensures
      | else-link-lt-VOTERS w ↦ list_taken_out_past c.args.self _ v m w.if-link-lt-VOTERS.false w.rows-is
    ]
