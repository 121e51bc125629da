-- Each trio that is the first of its cell adds the cell.
use Rattle.std.proofs.Common.{rules, ◌≡◌, ℕ, Bool, ◌<◌, List, Some, None, Option, length, get_or, sym, ap, ◌∙◌, subst, arith}
use Rattle.std.specs.Iterator.{Yields}
use Rattle.std.proofs.lemmas.Iterator.{YieldsList, YieldsList-from_map, YieldsList-from_range}
use Rattle.std.proofs.lemmas.Iterator.Consumers.{YieldsList-at, YieldsList-from_chain, YieldsList-turn, YieldsList-end}
use Rattle.std.proofs.lemmas.List.{get_or_default, length_push}
use Rattle.std.proofs.lemmas.Bool.{cond-true, lt-ltb}
use Rattle.network.specs.Cells.{leads, members_with}
use Rattle.network.specs.Networks.{module_count, trios, voter_count}
use Rattle.network.specs.declared.Trio.{Trio}
use Rattle.network.specs.declared.Trio.TheVariants.{Voter, Module}
use Rattle.network.proofs.Keeps.{limits}
use Rattle.network.proofs.Trios.{length_trios, trio_present}
use Rattle.wiring.specs.CellSets.{shown, starts_at}
use Rattle.wiring.specs.declared.cell.Cell.{Cell}
use Rattle.cabinet.specs.CellLists.{listed}
use Rattle.cabinet.specs.Cabinets.{network}
use Rattle.cabinet.specs.declared.cabinet.Cabinet.{Cabinet}
use Rattle.cabinet.proofs.CellsOf.{Around, shown_are}
use Rattle.cabinet.proofs.Listing.{all_listed, cells_so_far, no_more_cell, one_more_cell, starts_leads}
use Rattle.cabinet.proofs.cabinet.Cabinet.cells.Goals as goal
use Rattle.cabinet.proofs.cabinet.Cabinet.cells.Goals.{In-Some}

-- a `for` that has taken xs of what an iterator gives
module _ {S A B : Type 0} {steps : S → Option A → S → Type 0} {v : A → B} {s : S} (xs : List A) (t : S) (y : Yields steps s xs t) where
  at_turn : {r : Option A} (u : S) {x : A} → r ≡ Some x → steps t r u → {all : List B} → YieldsList steps v s all → (length xs < length all) × (v x ≡ get_or all (length xs) (v x))
  at_turn u is p e = YieldsList-turn e xs t y _ u _ is p

  at_end : {r : Option A} (u : S) → r ≡ None → steps t r u → {all : List B} → YieldsList steps v s all → length xs ≡ length all
  at_end u is p e = (YieldsList-end e xs t y _ u is p).1

-- the trio of a turn is the next of the network's
turn : (c : In-Some) → let n = network c.args.self.now in let k = length c.loop-trio.yielded in (k < length (trios n)) × (c.in-Some.trio ≡ get_or (trios n) k (Voter 0))
turn c =
    let n = network c.args.self.now in
    let k = length c.loop-trio.yielded in
    let e : (k < length (trios n)) × (c.in-Some.trio ≡ get_or (trios n) k c.in-Some.trio) = at_turn c.loop-trio.yielded _ c.loop-trio.yielded_by _ c.in-Some.is c.next.ensures.steps
    (YieldsList-at c.into_iter-trio-iterator.ensures.into_iter_gives (YieldsList-from_chain
    (YieldsList-at c.chain-trio-items.ensures.first (YieldsList-from_map _ Voter (YieldsList-from_range 0 c.len.result (voter_count n) c.map-voters.ensures.source (omega (arith, c.len.ensures))) c.map-voters.ensures.closure (λ x r q k. search rules)))
    (YieldsList-at c.chain-trio-items.ensures.second (YieldsList-from_map _ Module (YieldsList-from_range 0 c.len-2.result (module_count n) c.map-modules.ensures.source (omega (arith, c.len-2.ensures))) c.map-modules.ensures.closure (λ x r q k. search rules)))
    c.chain-trio-items.ensures.first_done c.chain-trio-items.ensures.second_done)) in
    (e.0, e.1 ∙ get_or_default (trios n) k c.in-Some.trio (Voter 0) e.0)

-- what is found at trio k of the network
found : (s : Cabinet) (k : ℕ) (trio : Trio) (cell : Cell) (starts : Bool) → k < length (trios (network s)) → trio ≡ get_or (trios (network s)) k (Voter 0) → Around (network s) trio cell → starts ≡ starts_at cell trio
    → (shown cell ≡ members_with (network s) (get_or (trios (network s)) k (Voter 0))) × (leads (network s) (get_or (trios (network s)) k (Voter 0)) ≡ starts)
found s k trio cell starts within is around asked =
    let n = network s in
    let l = limits n s.limits in
    let t = get_or (trios n) k (Voter 0) in
    let here = trio_present n k (omega (arith, length_trios n, within)) in
    let around_t : Around n t cell = let P : Trio → Type 0 = λ x. Around n x cell in subst P is around in (
      shown_are n t cell l.few_voters l.few_modules l.insides here around_t,
      sym (starts_leads n t cell l.insides l.few_voters l.few_modules here around_t) ∙ ap (starts_at cell) (sym is) ∙ sym asked,
    )

pub loop-trio-preserved-then-starts_at : goal.loop-trio-preserved-then-starts_at
loop-trio-preserved-then-starts_at c =
    let n = network c.args.self.now in
    let k = length c.loop-trio.yielded in
    let cell = c.cell_around-cell.result in
    let l = limits n c.args.self.now.limits in
    let list = listed c.loop-trio.list in
    let t = turn (goal.at.loop-trio-preserved-then-starts_at c).In-Some in
    let added = c.push.ensures ∙ cond-true _ _ _ (lt-ltb (length list) 31 (omega (arith, l.few_voters, l.few_modules, length_trios n, t.0, c.loop-trio.invariant.2))) in
    let f = found c.args.self.now k c.in-Some.trio cell c.starts_at.result t.0 t.1 c.cell_around-cell.ensures c.starts_at.ensures in
    let one = length_push c.loop-trio.yielded c.in-Some.trio in
    let more = one_more_cell n k t.0 list _ cell c.loop-trio.invariant.3 added f.0 (f.1 ∙ c.if-starts_at.true) in
    let goes = c.in-Some.ensures.goes.on c.loop-trio.invariant.1 in
    (goes.0, goes.1, omega (arith, ap length added, length_push list cell, one, c.loop-trio.invariant.2), more ∙ ap (cells_so_far n) (sym one))

pub loop-trio-preserved : goal.loop-trio-preserved
loop-trio-preserved c =
    let n = network c.args.self.now in
    let k = length c.loop-trio.yielded in
    let cell = c.cell_around-cell.result in
    let list = listed c.loop-trio.list in
    let t = turn (goal.at.loop-trio-preserved c).In-Some in
    let f = found c.args.self.now k c.in-Some.trio cell c.starts_at.result t.0 t.1 c.cell_around-cell.ensures c.starts_at.ensures in
    let one = length_push c.loop-trio.yielded c.in-Some.trio in
    let goes = c.in-Some.ensures.goes.on c.loop-trio.invariant.1 in
    (goes.0, goes.1, omega (arith, one, c.loop-trio.invariant.2), no_more_cell n k t.0 list c.loop-trio.invariant.3 (f.1 ∙ c.if-starts_at.false) ∙ ap (cells_so_far n) (sym one))

pub returns : goal.returns
returns c =
    let n = network c.args.self.now in
    let e : length c.loop-trio.yielded ≡ length (trios n) = at_end c.loop-trio.yielded _ c.loop-trio.yielded_by _ c.in-None.is c.next.ensures.steps
    (YieldsList-at c.into_iter-trio-iterator.ensures.into_iter_gives (YieldsList-from_chain
    (YieldsList-at c.chain-trio-items.ensures.first (YieldsList-from_map _ Voter (YieldsList-from_range 0 c.len.result (voter_count n) c.map-voters.ensures.source (omega (arith, c.len.ensures))) c.map-voters.ensures.closure (λ x r q k. search rules)))
    (YieldsList-at c.chain-trio-items.ensures.second (YieldsList-from_map _ Module (YieldsList-from_range 0 c.len-2.result (module_count n) c.map-modules.ensures.source (omega (arith, c.len-2.ensures))) c.map-modules.ensures.closure (λ x r q k. search rules)))
    c.chain-trio-items.ensures.first_done c.chain-trio-items.ensures.second_done)) in
    c.loop-trio.invariant.3 ∙ all_listed n (length c.loop-trio.yielded) (omega (arith, e))
