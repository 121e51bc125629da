-- A trio that there is gets the code.
use Rattle.std.proofs.Common.{◌≡◌, ltb, length, sym, ap, ◌∙◌, subst}
use Rattle.std.specs.Option.{ok_or}
use Rattle.network.specs.Changes.{change_part, network_after, refusal}
use Rattle.network.specs.declared.Trio.{Trio}
use Rattle.network.specs.declared.Trio.TheVariants.{Voter, Module}
use Rattle.refusals.specs.Refusals.{answered}
use Rattle.refusals.specs.declared.Refusal.TheVariants.{NoVoter, NoModule}
use Rattle.wiring.specs.Tables.{codes}
use Rattle.cabinet.specs.Cabinets.{network}
use Rattle.cabinet.specs.Parts.{network_of}
use Rattle.cabinet.proofs.Calls.{answers_room, module_absent, module_there, relabelled_module, relabelled_voter, still_within, voter_absent, voter_there}
use Rattle.cabinet.proofs.cabinet.Cabinet.change_part.Goals as goal
use Rattle.cabinet.proofs.cabinet.Cabinet.change_part.Goals.{After-relabel, After-relabel-in-Module}

voter_done : (c : After-relabel) → network_of c.relabel.new.self c.args.self.now.modules c.args.self.now.links ≡ network_after (change_part c.args.trio c.args.code) (network c.args.self.now)
voter_done c =
    let s = c.args.self.now in
    let P : Trio → Type 0 = λ x. network_of c.relabel.new.self s.modules s.links ≡ network_after (change_part x c.args.code) (network s) in
    subst P (sym c.in-Voter.is) (relabelled_voter s.voters s.modules s.links c.in-Voter.v c.args.code c.relabel.new.self c.relabel.ensures.after)

pub invariant_of-self : goal.invariant_of-self
invariant_of-self c = record { limits = still_within (change_part c.args.trio c.args.code) (network c.args.self.now) _ c.args.self.now.limits (voter_done c) }

pub returns-in-Voter : goal.returns-in-Voter
returns-in-Voter c =
    let s = c.args.self.now in let i = c.in-Voter.v in
    let P : Trio → Type 0 = λ x. c.ok_or.result ≡ answered (refusal (change_part x c.args.code) (network s)) tt in
    record {
      answer = subst P (sym c.in-Voter.is)
          (c.ok_or.ensures.value ∙ ap (λ o. ok_or o NoVoter) c.relabel.ensures.value
          ∙ answers_room (ltb i (length (codes s.voters))) (refusal (change_part (Voter i) c.args.code) (network s)) NoVoter tt (voter_there s.voters s.modules s.links i c.args.code) (voter_absent s.voters s.modules s.links i c.args.code));
      after = voter_done (goal.at.returns-in-Voter c).After-relabel;
    }

module_done : (c : After-relabel-in-Module) → network_of c.args.self.now.voters c.relabel-in-Module.new.self c.args.self.now.links ≡ network_after (change_part c.args.trio c.args.code) (network c.args.self.now)
module_done c =
    let s = c.args.self.now in
    let P : Trio → Type 0 = λ x. network_of s.voters c.relabel-in-Module.new.self s.links ≡ network_after (change_part x c.args.code) (network s) in
    subst P (sym c.in-Module.is) (relabelled_module s.voters s.modules s.links c.in-Module.m c.args.code c.relabel-in-Module.new.self c.relabel-in-Module.ensures.after)

pub invariant_of-self-in-Module : goal.invariant_of-self-in-Module
invariant_of-self-in-Module c = record { limits = still_within (change_part c.args.trio c.args.code) (network c.args.self.now) _ c.args.self.now.limits (module_done c) }

pub returns-in-Module : goal.returns-in-Module
returns-in-Module c =
    let s = c.args.self.now in let i = c.in-Module.m in
    let P : Trio → Type 0 = λ x. c.ok_or-in-Module.result ≡ answered (refusal (change_part x c.args.code) (network s)) tt in
    record {
      answer = subst P (sym c.in-Module.is)
          (c.ok_or-in-Module.ensures.value ∙ ap (λ o. ok_or o NoModule) c.relabel-in-Module.ensures.value
          ∙ answers_room (ltb i (length (codes s.modules))) (refusal (change_part (Module i) c.args.code) (network s)) NoModule tt (module_there s.voters s.modules s.links i c.args.code) (module_absent s.voters s.modules s.links i c.args.code));
      after = module_done (goal.at.returns-in-Module c).After-relabel-in-Module;
    }
