-- The first member is given, and the others are left.
use Rattle.std.proofs.Common.{rules, ◌≡◌, ℕ, not, ◌&&◌, ◌∷◌, Some, ◌==◌, sym, ◌∙◌}
use Rattle.sets.specs.Lists.{first_of}
use Rattle.sets.specs.Sets.{member, members}
use Rattle.sets.specs.declared.TrioSet.{TrioSet}
use Rattle.sets.proofs.Kept.{kept_after_first}
use Rattle.sets.proofs.IterIterator.next.Goals as goal

others : (s t : TrioSet) (i : ℕ) → ((k : ℕ) → member t k ≡ (member s k && not (k == i))) → first_of (members s) ≡ Some i → members s ≡ i ∷ members t
unfolding members
others s t i without first = kept_after_first (member s) (member t) i without 0 16 first

pub returns-clause-steps : goal.returns-clause-steps
returns-clause-steps c = others c.args.self.now.left c.without-self.result c.in_ok-least.least c.without-self.ensures (sym c.first.ensures ∙ c.in_ok-least.was)

pub returns-clause-goes : goal.returns-clause-goes
returns-clause-goes c =
    search (rules, others c.args.self.now.left c.without-self.result c.in_ok-least.least c.without-self.ensures (sym c.first.ensures ∙ c.in_ok-least.was))
