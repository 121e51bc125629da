-- A link is cut where it stands, and else refused by the first check that fails.
use Rattle.std.proofs.Common.{◌≡◌, ℕ, Bool, true, None, Ok, Err, sym, ap, ◌∙◌}
use Rattle.std.proofs.lemmas.Result.{err_from_is_err_and}
use Rattle.network.specs.Changes.{absent, cut, network_after, refusal}
use Rattle.network.specs.declared.Trio.TheVariants.{Voter, Module}
use Rattle.network.specs.Networks.{linked, taken_out}
use Rattle.network.specs.Questions.{link_answer}
use Rattle.refusals.specs.declared.Refusal.TheVariants.{NoLink}
use Rattle.network.proofs.Dues.{after_refusal, answers_refusal, answers_value, both_passed}
use Rattle.wiring.specs.Wires.{link_list}
use Rattle.wiring.specs.declared.links.Links.{Links}
use Rattle.cabinet.specs.Cabinets.{network}
use Rattle.cabinet.specs.declared.cabinet.Cabinet.{Cabinet}
use Rattle.cabinet.proofs.Calls.{still_within}
use Rattle.cabinet.proofs.Linking.{cut_after, cut_free, cut_lacks, cut_none, with_links}
use Rattle.cabinet.proofs.cabinet.Cabinet.cut.Goals as goal

pub returns-in_err-is_linked : goal.returns-in_err-is_linked
returns-in_err-is_linked c =
    let n = network c.args.self.now in let v = c.args.link.voter in let m = c.args.link.module in
    let p = err_from_is_err_and c.from_residual.result c.from_residual.ensures.1 in
    let due = cut_lacks n v m c.in_err-is_linked.field-0.0 c.in_err-is_linked.ensures in
    record { answer = p.1 ∙ ap Err p.2 ∙ answers_refusal _ _ tt due; after = after_refusal (cut v m) n _ due }

pub returns-then-not-branch : goal.returns-then-not-branch
returns-then-not-branch c =
    let s = c.args.self.now in let n = network s in let v = c.args.link.voter in let m = c.args.link.module in
    let asked = both_passed (absent (Voter v) n) (absent (Module m) n) (linked n v m) _ c.in_ok-is_linked.ensures in
    let due = cut_none n v m asked.0 asked.1 (sym asked.2 ∙ c.if-not-branch.true) in
    record { answer = answers_refusal _ NoLink tt due; after = after_refusal (cut v m) n NoLink due }

-- no check fails, and the new links are those without it
done : (s : Cabinet) (v m : ℕ) (stands : Bool) (ls : Links) → Ok stands ≡ link_answer (network s) v m → stands ≡ true → link_list ls ≡ taken_out (v, m) (link_list s.links)
    → (refusal (cut v m) (network s) ≡ None) × (with_links (link_list ls) (network s) ≡ network_after (cut v m) (network s))
done s v m stands ls asked there is =
    let n = network s in
    let passed = both_passed (absent (Voter v) n) (absent (Module m) n) (linked n v m) stands asked in
    let due = cut_free n v m passed.0 passed.1 (sym passed.2 ∙ there) in
    (due, cut_after n v m _ due is)

pub invariant_of-self : goal.invariant_of-self
invariant_of-self c =
    let d = done c.args.self.now c.args.link.voter c.args.link.module _ c.without-self.result c.in_ok-is_linked.ensures c.if-not-branch.false c.without-self.ensures in
    record { limits = still_within (cut c.args.link.voter c.args.link.module) (network c.args.self.now) _ c.args.self.now.limits d.1 }

pub returns : goal.returns
returns c =
    let d = done c.args.self.now c.args.link.voter c.args.link.module _ c.without-self.result c.in_ok-is_linked.ensures c.if-not-branch.false c.without-self.ensures in
    record { answer = answers_value _ tt d.0; after = d.1 }
