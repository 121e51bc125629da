-- The product over those that were gone through.
use Rattle.std.proofs.Common.{◌≡◌, ℕ}
use Rattle.std.specs.Fn.{FnReturnsAt}
use Rattle.sets.specs.Sets.{member}
use Rattle.weighing.specs.Entries.{ReturnsByPlace}
use Rattle.weighing.proofs.Gathered.{product_below}
use Rattle.weighing.proofs.products.product_over.Given as goal

abbrev pub invariant-loop-i : goal.invariant-loop-i
invariant-loop-i g l =
    let w = g.P.Weight in
    (f : ℕ → w.kind.Value) → ReturnsByPlace (FnReturnsAt g.F.Fn l.share) w.value l.entries f → w.value l.product ≡ product_below w.kind f (member l.set) l.i
