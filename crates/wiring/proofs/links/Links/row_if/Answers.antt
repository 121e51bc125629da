-- The row of a member, and nothing for another voter.
use Rattle.std.proofs.Common.{◌&&◌, sym, ap, ◌∙◌}
use Rattle.wiring.specs.Wires.{feeds}
use Rattle.wiring.proofs.links.Links.row_if.Goals as goal

pub returns-then-contains : goal.returns-then-contains
unfolding feeds
returns-then-contains c m = ap (λ b. b && feeds c.args.self.now c.args.v m) (sym c.if-contains.true ∙ c.contains.ensures)

pub returns-else-contains : goal.returns-else-contains
returns-else-contains c m =
    c.empty.ensures m ∙ ap (λ b. b && feeds c.args.self.now c.args.v m) (sym c.if-contains.false ∙ c.contains.ensures)
