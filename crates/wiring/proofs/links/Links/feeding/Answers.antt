-- Each voter whose row meets the set is found.
use Rattle.std.proofs.Common.{◌≡◌, ℕ, ◌+◌, sym, ap, ◌∙◌, subst, arith}
use Rattle.sets.specs.Sets.{member}
use Rattle.sets.specs.declared.TrioSet.{TrioSet}
use Rattle.wiring.proofs.Grown.{feeding_more, feeding_none, feeding_same, feeding_so_far, overlap_feeds}
use Rattle.wiring.proofs.links.Links.feeding.Goals as goal
use Rattle.wiring.proofs.links.Links.feeding.Goals.{then-meets, else-meets}

pub loop-v-preserved : goal.loop-v-preserved
loop-v-preserved c =
    let ls = c.args.self.now in
    let now-met = sym (overlap_feeds ls c.args.modules c.loop-v.v) ∙ sym c.meets.ensures in
    let P : TrioSet → Type 0 = λ s. (v : ℕ) → member s v ≡ feeding_so_far ls c.args.modules (c.loop-v.v + 1) v in
    elim c.if-meets.branch [
      | then-meets w ↦ subst P (sym w.found-is) (feeding_more ls c.args.modules c.loop-v.found c.loop-v.v c.loop-v-test.true c.loop-v.invariant w.with-found.result (now-met ∙ w.if-meets.true) w.with-found.ensures)
      | else-meets w ↦ subst P (sym w.found-is) (feeding_same ls c.args.modules c.loop-v.found c.loop-v.v c.loop-v-test.true c.loop-v.invariant (now-met ∙ w.if-meets.false))
    ]

pub returns : goal.returns
returns c v =
    let last : c.loop-v.v ≡ 16 = omega (arith, c.loop-v.auto.v-end) in
    c.loop-v.invariant v ∙ ap (λ n. feeding_so_far c.args.self.now c.args.modules n v) last ∙ feeding_none c.args.self.now c.args.modules v
