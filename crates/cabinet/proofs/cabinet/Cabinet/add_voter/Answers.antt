-- A voter trio is added where there is room.
use Rattle.std.proofs.Common.{◌≡◌, ltb, length, is_some, ap, ◌∙◌}
use Rattle.std.specs.Option.{ok_or}
use Rattle.network.specs.Changes.{add_voter, network_after, refusal}
use Rattle.refusals.specs.declared.Refusal.TheVariants.{VotersFull}
use Rattle.wiring.specs.Tables.{codes}
use Rattle.cabinet.specs.Cabinets.{network}
use Rattle.cabinet.specs.Parts.{network_of}
use Rattle.cabinet.proofs.Calls.{added_voter, answers_room, free_voter, full_voters, some_if, still_within}
use Rattle.cabinet.proofs.cabinet.Cabinet.add_voter.Goals as goal
use Rattle.cabinet.proofs.cabinet.Cabinet.add_voter.Goals.{After-push}

done : (c : After-push) → network_of c.push.new.self c.args.self.now.modules c.args.self.now.links ≡ network_after (add_voter c.args.code) (network c.args.self.now)
done c =
    let s = c.args.self.now in
    added_voter s.voters s.modules s.links c.args.code c.push.new.self (is_some c.push.result) (ap is_some c.push.ensures.value ∙ some_if (ltb (length (codes s.voters)) 16) _) c.push.ensures.after

pub invariant_of-self : goal.invariant_of-self
invariant_of-self c = record { limits = still_within (add_voter c.args.code) (network c.args.self.now) _ c.args.self.now.limits (done c) }

pub returns : goal.returns
returns c =
    let s = c.args.self.now in
    record {
      answer = c.ok_or.ensures.value ∙ ap (λ o. ok_or o VotersFull) c.push.ensures.value
          ∙ answers_room (ltb (length (codes s.voters)) 16) (refusal (add_voter c.args.code) (network s)) VotersFull _ (free_voter s.voters s.modules s.links c.args.code) (full_voters s.voters s.modules s.links c.args.code);
      after = done (goal.at.returns c).After-push;
    }
