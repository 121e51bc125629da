-- No turn passes the number of all the digits, which is small.
use Rattle.std.proofs.Common.{refl, arith}
use Rattle.text.specs.Fields.{value_of}
use Rattle.text.proofs.Digits.{digit_least, reads_small}
use Rattle.text.proofs.number_of.Goals as goal

pub loop-b-init : goal.loop-b-init
unfolding value_of
loop-b-init c = refl

pub overflow_mul-n : goal.overflow_mul-n
overflow_mul-n c = omega (arith, reads_small _ c.loop-b.b-index _ c.loop-b.invariant c.requires.short c.requires.all)

pub overflow_sub-b : goal.overflow_sub-b
overflow_sub-b c = digit_least _ _ c.requires.all (omega arith)

pub overflow_add-n : goal.overflow_add-n
overflow_add-n c = omega (arith, reads_small _ c.loop-b.b-index _ c.loop-b.invariant c.requires.short c.requires.all)
