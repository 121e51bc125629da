-- Each row of a voter in the set adds what it feeds.
use Rattle.std.proofs.Common.{◌≡◌, Bool, true, false, ◌||◌, [], ◌∷◌, sym, refl, ap, ◌∙◌, arith}
use Rattle.std.specs.List.{range_with_len}
use Rattle.sets.specs.Lists.{any}
use Rattle.sets.specs.Sets.{member, members}
use Rattle.sets.proofs.Kept.{any_append, any_kept}
use Rattle.sets.proofs.Through.{all_gone, gone_through, next_member}
use Rattle.wiring.specs.Wires.{fed_by_some, feeds}
use Rattle.wiring.proofs.links.Links.fed_by.Goals as goal

pub offset_bounds-self-v : goal.offset_bounds-self-v
offset_bounds-self-v c = omega (arith, (next_member c.args.voters c.loop-v.yielded c.in-Some.ensures.steps c.loop-v.invariant.2).0)

pub bounds-self-v : goal.bounds-self-v
bounds-self-v c = (next_member c.args.voters c.loop-v.yielded c.in-Some.ensures.steps c.loop-v.invariant.2).0

or_false : (b : Bool) → (b || false) ≡ b
or_false true = refl
or_false false = refl

pub loop-v-preserved : goal.loop-v-preserved
unfolding feeds
loop-v-preserved c =
    let ls = c.args.self.now in let v = c.in-Some.v in (
      tt,
      tt,
      gone_through c.args.voters c.loop-v.yielded c.in-Some.ensures.steps c.loop-v.invariant.2,
      λ m. c.union-fed.ensures m ∙ ap (λ b. b || feeds ls v m) (c.loop-v.invariant.3 m)
          ∙ ap (λ b. any (λ w. feeds ls w m) c.loop-v.yielded || b) (sym (or_false (feeds ls v m))) ∙ sym (any_append (λ w. feeds ls w m) c.loop-v.yielded (v ∷ [])),
    )

pub returns : goal.returns
unfolding members fed_by_some
returns c m =
    let all = all_gone c.args.voters c.loop-v.yielded c.in-None.ensures.steps.0 c.loop-v.invariant.2 in
    c.loop-v.invariant.3 m ∙ ap (any (λ v. feeds c.args.self.now v m)) all ∙ any_kept (λ v. feeds c.args.self.now v m) (member c.args.voters) (range_with_len 0 16)
