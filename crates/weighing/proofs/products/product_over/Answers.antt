-- Each trio of the set multiplies its share on.
use Rattle.std.proofs.Common.{◌≡◌, length, sym, refl, ap, ◌∙◌, arith}
use Rattle.std.proofs.lemmas.Fn.{says_at}
use Rattle.std.proofs.lemmas.Option.{slice_get_read}
use Rattle.sets.specs.Sets.{member}
use Rattle.weighing.specs.Entries.{first_members}
use Rattle.weighing.proofs.Gathered.{product_below, product_with, product_without}
use Rattle.weighing.proofs.products.product_over.Goals as goal
use Rattle.weighing.proofs.products.product_over.Goals.{then-contains, else-contains}

pub loop-i-preserved : goal.loop-i-preserved
loop-i-preserved g c f by =
    let k = g.P.Weight.kind in
    let value = g.P.Weight.value in
    let i = c.loop-i.i in
    let at = slice_get_read c.args.entries.now _ i c.index-entries-i.result refl c.loop-i-test.true c.index-entries-i.is in
    elim c.if-contains.branch [
      | then-contains v ↦
          ap value v.product-is ∙ v.times-product.ensures
          ∙ (λ j. k.times (c.loop-i.invariant f by j) (by i _ _ at (says_at g.F.Fn v.share.ensures refl) j))
          ∙ sym (product_with k f (member c.args.set) i (sym c.contains.ensures ∙ v.if-contains.true))
      | else-contains v ↦
          ap value v.product-is ∙ c.loop-i.invariant f by ∙ sym (product_without k f (member c.args.set) i (sym c.contains.ensures ∙ v.if-contains.false))
    ]

pub returns : goal.returns
unfolding first_members
returns g c f by =
    let all : c.loop-i.i ≡ length c.args.entries.now = omega (arith, c.loop-i-test.false, c.loop-i.auto.i-end) in
    c.loop-i.invariant f by ∙ ap (product_below g.P.Weight.kind f (member c.args.set)) all
