-- The set grows along the links, and once no voter is added it is the cell.
use Rattle.std.proofs.Common.{sym, ◌∙◌, arith}
use Rattle.wiring.proofs.Closure.{Grows, grown_more, grown_sound, grown_started, grown_still, is_cell, only_sound, only_started, size_bound}
use Rattle.wiring.proofs.links.Links.cell_around.Goals as goal

pub loop-grown-init : goal.loop-grown-init
loop-grown-init c = ((omega arith, omega arith), λ t only. (only_sound c.args.self.now t c.only-cell.result only, only_started t c.only-cell.result only))

pub returns-then-eq : goal.returns-then-eq
returns-then-eq c =
    let ls = c.args.self.now in let cell = c.loop-grown.cell in let next = c.grown-grown.result in
    let grows : Grows ls cell next = record { modules = c.grown-grown.ensures.modules; voters = c.grown-grown.ensures.voters } in
    let held = c.loop-grown.invariant.1 c.args.trio c.only-cell.ensures in
    is_cell ls c.args.trio next next (grown_still ls c.args.trio cell next grows (sym c.eq.ensures ∙ c.if-eq.true)) (omega arith)
    (grown_sound ls c.args.trio cell next grows held.0) (grown_started ls c.args.trio cell next grows held.1)

pub loop-grown-smaller : goal.loop-grown-smaller
loop-grown-smaller c =
    let ls = c.args.self.now in let cell = c.loop-grown.cell in let next = c.grown-grown.result in
    let grows : Grows ls cell next = record { modules = c.grown-grown.ensures.modules; voters = c.grown-grown.ensures.voters } in
    omega (arith, size_bound next, grown_more ls c.args.trio cell next grows (omega arith, omega arith) c.loop-grown.invariant.0 (sym c.eq.ensures ∙ c.if-eq.false))

pub loop-grown-preserved : goal.loop-grown-preserved
loop-grown-preserved c =
    let ls = c.args.self.now in let cell = c.loop-grown.cell in let next = c.grown-grown.result in
    let grows : Grows ls cell next = record { modules = c.grown-grown.ensures.modules; voters = c.grown-grown.ensures.voters } in
    let held = c.loop-grown.invariant.1 in
    ((omega arith, omega arith), λ t only. (grown_sound ls t cell next grows (held t only).0, grown_started ls t cell next grows (held t only).1))
