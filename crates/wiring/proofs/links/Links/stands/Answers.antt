-- A link stands where its row has its place; past the last row there is none.
use Rattle.std.proofs.Common.{◌≡◌, false, sym, ◌∙◌, ⊎_elim, arith}
use Rattle.std.proofs.lemmas.Bool.{cases_Bool, le-ltb}
use Rattle.network.specs.Networks.{link_of}
use Rattle.wiring.specs.Wires.{feeds}
use Rattle.wiring.proofs.Rows.{feeds_range, stands_list}
use Rattle.wiring.proofs.links.Links.stands.Goals as goal

pub returns-then-link-lt-VOTERS : goal.returns-then-link-lt-VOTERS
unfolding feeds
returns-then-link-lt-VOTERS c = c.contains.ensures ∙ sym (stands_list c.args.self.now (link_of c.args.link))

pub returns-else-link-lt-VOTERS : goal.returns-else-link-lt-VOTERS
returns-else-link-lt-VOTERS c =
    let ls = c.args.self.now in let v = c.args.link.voter in let m = c.args.link.module in
    let none : feeds ls v m ≡ false = ⊎_elim (λ h. absurd (omega (arith, (feeds_range ls v m h).0))) (λ h. h) (cases_Bool (feeds ls v m)) in
    le-ltb v 16 c.if-link-lt-VOTERS.false ∙ sym (stands_list ls (link_of c.args.link) ∙ none)
