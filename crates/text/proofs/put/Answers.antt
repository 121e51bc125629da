-- `put` writes the text where it has room, and nothing where it has none.
use Rattle.std.proofs.Common.{◌≡◌, ℕ, ◌+◌, ◌<◌, ◌≤◌, List, length, Some, sym, ap, ◌∙◌, arith}
use Rattle.text.specs.Placed.{end_of}
use Rattle.text.proofs.Writes.{end_of_fits, end_of_full, after_write_fits, after_write_full, putMid_placed}
use Rattle.text.proofs.put.Goals as goal

pub returns-in_err-end : goal.returns-in_err-end
returns-in_err-end c =
    let full : length c.args.buffer.now < c.args.at + length c.args.text.now = omega (arith, c.in_err-end.ensures) in
    record {
      value = c.from_residual.ensures ∙ sym (end_of_full _ _ _ full);
      after = sym (after_write_full _ _ _ full);
    }

pub returns-then-end-buffer : goal.returns-then-end-buffer
returns-then-end-buffer c =
    let full : length c.args.buffer.now < c.args.at + length c.args.text.now = omega (arith, c.in_ok-end.ensures) in
    record {
      value = sym (end_of_full _ _ _ full);
      after = sym (after_write_full _ _ _ full);
    }

-- the end, as `put` answers it
ended : (at : ℕ) (t buffer : List ℕ) (end : ℕ) → at + length t ≤ length buffer → end ≡ at + length t → Some end ≡ end_of at t buffer
ended at t buffer end fits same = ap Some same ∙ sym (end_of_fits at t buffer fits)

pub returns : goal.returns
returns c =
    let ends = c.in_ok-end.ensures.1 in
    let fits : c.args.at + length c.args.text.now ≤ length c.args.buffer.now = omega arith in
    record {
      value = ended _ _ _ _ fits (omega arith);
      after = putMid_placed _ _ _ _ _ (omega arith) c.copy_from_slice.ensures.after ∙ sym (after_write_fits _ _ _ fits);
    }
