-- A link is refused by the first check that fails; else it is put, and the cells are within the limits.
use Rattle.std.proofs.Common.{◌≡◌, None, Err, sym, ap, ◌∙◌, arith}
use Rattle.std.proofs.lemmas.Result.{err_from_is_err_and}
use Rattle.network.specs.Changes.{absent, link, network_after, refusal}
use Rattle.network.specs.declared.Trio.TheVariants.{Voter, Module}
use Rattle.network.specs.Networks.{linked}
use Rattle.refusals.specs.declared.Refusal.TheVariants.{LinkStands, CellTooWide}
use Rattle.network.proofs.Dues.{after_refusal, answers_refusal, answers_value, both_passed}
use Rattle.wiring.specs.Wires.{link_list}
use Rattle.cabinet.specs.Cabinets.{network}
use Rattle.cabinet.proofs.Calls.{still_within}
use Rattle.cabinet.proofs.Linking.{link_again, link_free, link_lacks, link_wide, linked_after, linked_list, narrow_from, wide_from, with_links}
use Rattle.cabinet.proofs.cabinet.Cabinet.link.Goals as goal
use Rattle.cabinet.proofs.cabinet.Cabinet.link.Goals.{Else-len-gt-WIDEST}

pub returns-in_err-is_linked : goal.returns-in_err-is_linked
returns-in_err-is_linked c =
    let n = network c.args.self.now in let v = c.args.link.voter in let m = c.args.link.module in
    let p = err_from_is_err_and c.from_residual.result c.from_residual.ensures.1 in
    let due = link_lacks n v m c.in_err-is_linked.field-0.0 c.in_err-is_linked.ensures in
    record { answer = p.1 ∙ ap Err p.2 ∙ answers_refusal _ _ tt due; after = after_refusal (link v m) n _ due }

pub returns-then-branch : goal.returns-then-branch
returns-then-branch c =
    let s = c.args.self.now in let n = network s in let v = c.args.link.voter in let m = c.args.link.module in
    let asked = both_passed (absent (Voter v) n) (absent (Module m) n) (linked n v m) _ c.in_ok-is_linked.ensures in
    let due = link_again n v m asked.0 asked.1 (sym asked.2 ∙ c.if-branch.true) in
    record { answer = answers_refusal _ LinkStands tt due; after = after_refusal (link v m) n LinkStands due }

pub returns-then-len-gt-WIDEST : goal.returns-then-len-gt-WIDEST
returns-then-len-gt-WIDEST c =
    let s = c.args.self.now in let n = network s in let v = c.args.link.voter in let m = c.args.link.module in
    let asked = both_passed (absent (Voter v) n) (absent (Module m) n) (linked n v m) _ c.in_ok-is_linked.ensures in
    let wide = wide_from n v m asked.0 asked.1 s.limits c.with-links.result c.with-links.ensures c.cell_around.result c.len.result c.cell_around.ensures c.len.ensures (omega arith) in
    let due = link_wide n v m asked.0 asked.1 (sym asked.2 ∙ c.if-branch.false) wide in
    record { answer = answers_refusal _ CellTooWide tt due; after = after_refusal (link v m) n CellTooWide due }

-- no check fails, and the new links are those with one more
done : (c : goal.Else-len-gt-WIDEST) → (refusal (link c.args.link.voter c.args.link.module) (network c.args.self.now) ≡ None) × (with_links (link_list c.with-links.result) (network c.args.self.now) ≡ network_after (link c.args.link.voter c.args.link.module) (network c.args.self.now))
done c =
    let s = c.args.self.now in let n = network s in let v = c.args.link.voter in let m = c.args.link.module in
    let asked = both_passed (absent (Voter v) n) (absent (Module m) n) (linked n v m) _ c.in_ok-is_linked.ensures in
    let narrow = narrow_from n v m asked.0 asked.1 s.limits c.with-links.result c.with-links.ensures c.cell_around.result c.len.result c.cell_around.ensures c.len.ensures (omega arith) in
    let due = link_free n v m asked.0 asked.1 (sym asked.2 ∙ c.if-branch.false) narrow in
    (due, linked_after n v m _ due (linked_list n v m asked.0 asked.1 s.limits c.with-links.result c.with-links.ensures))

pub invariant_of-self : goal.invariant_of-self
invariant_of-self c = record { limits = still_within (link c.args.link.voter c.args.link.module) (network c.args.self.now) _ c.args.self.now.limits (done c).1 }

pub returns : goal.returns
returns c = let d = done (goal.at.returns c).Else-len-gt-WIDEST in record { answer = answers_value _ tt d.0; after = d.1 }
