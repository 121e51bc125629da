-- Each voter takes the next digit.
use Rattle.std.proofs.Common.{List, ℕ, ◌/◌, sym, subst}
use Rattle.std.proofs.lemmas.Bool.{eq-eqb, ne_eqb}
use Rattle.sets.specs.Sets.{to_come}
use Rattle.sets.specs.declared.TrioSet.{TrioSet}
use Rattle.weighing.proofs.Chosen.{Picked, all_picked, left_whole, made_faulty, none_picked}
use Rattle.weighing.proofs.cells.combination_of.Goals as goal
use Rattle.weighing.proofs.cells.combination_of.Goals.{then-digits-eq1, else-digits-eq1}

pub loop-v-init : goal.loop-v-init
loop-v-init c = none_picked c.args.voters c.args.j c.empty-chosen.result _ c.empty-chosen.ensures c.into_iter-v-iterator.ensures.into_iter_gives

pub loop-v-preserved : goal.loop-v-preserved
loop-v-preserved c =
    let vs = c.args.voters in
    let j = c.args.j in
    let l = c.loop-v in
    let v = c.in-Some.v in
    let rest = to_come c.next.new.self in
    let P : List ℕ → Type 0 = Picked vs j l.chosen l.digits in
    let Q : TrioSet → Type 0 = λ s. Picked vs j s (l.digits / 2) rest in
    let picked = subst P c.in-Some.ensures.steps l.invariant in
    elim c.if-digits-eq1.branch [
      | then-digits-eq1 w ↦ subst Q (sym w.chosen-is) (made_faulty vs j l.chosen l.digits v rest picked w.with-chosen.result w.with-chosen.ensures (eq-eqb _ 1 w.if-digits-eq1.true))
      | else-digits-eq1 w ↦ subst Q (sym w.chosen-is) (left_whole vs j l.chosen l.digits v rest picked (ne_eqb _ 1 w.if-digits-eq1.false))
    ]

pub returns : goal.returns
returns c =
    let P : List ℕ → Type 0 = Picked c.args.voters c.args.j c.loop-v.chosen c.loop-v.digits in
    all_picked c.args.voters c.args.j c.loop-v.chosen c.loop-v.digits (subst P c.in-None.ensures.steps.0 c.loop-v.invariant)
