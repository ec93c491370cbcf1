-- `fields::field::decode` meets its contract. The loop's invariant: what is left to put makes the whole.
-- Assumes nothing.
use mathlib.Core.Path.{◌∙◌}
use native.Mathlib.Omega.{arith}
use Rattle.fields.proofs.Digits.{digit_is_some, digit_unwrapped}
use Rattle.fields.proofs.Decoding.{decoding_start, decoding_all, decoding_next, pair_digits}
use Rattle.fields.proofs.field.decode.Goals as goal

pub loop-pair-init : goal.loop-pair-init
loop-pair-init c =
    let cut = c.chunks_exact-pair-items.ensures in
    rw c.into_iter-pair-iterator.ensures.into_iter_gives (cut.size, rw cut.rest (decoding_start c.requires.field_value))

pub unwrap-requires : goal.unwrap-requires
unwrap-requires c =
    let step = c.in-Some.ensures.steps.1 in
    let pair = pair_digits c.loop-pair.invariant.1 _ _ step.0 (step.1 ∙ c.loop-pair.invariant.0) in
    digit_is_some _ c.digit_of.ensures pair.0

pub unwrap-requires-in-loop-pair : goal.unwrap-requires-in-loop-pair
unwrap-requires-in-loop-pair c =
    let step = c.in-Some.ensures.steps.1 in
    let pair = pair_digits c.loop-pair.invariant.1 _ _ step.0 (step.1 ∙ c.loop-pair.invariant.0) in
    digit_is_some _ c.digit_of-in-loop-pair.ensures pair.1

pub overflow_mul-bytes : goal.overflow_mul-bytes
overflow_mul-bytes c =
    let step = c.in-Some.ensures.steps.1 in
    let pair = pair_digits c.loop-pair.invariant.1 _ _ step.0 (step.1 ∙ c.loop-pair.invariant.0) in
    omega (arith, digit_unwrapped _ c.digit_of.ensures pair.0 c.unwrap.ensures, pair.0)

pub overflow_add-bytes : goal.overflow_add-bytes
overflow_add-bytes c =
    let step = c.in-Some.ensures.steps.1 in
    let pair = pair_digits c.loop-pair.invariant.1 _ _ step.0 (step.1 ∙ c.loop-pair.invariant.0) in
    omega (
      arith,
      digit_unwrapped _ c.digit_of.ensures pair.0 c.unwrap.ensures,
      digit_unwrapped _ c.digit_of-in-loop-pair.ensures pair.1 c.unwrap-in-loop-pair.ensures,
      pair.0,
      pair.1,
    )

pub loop-pair-preserved : goal.loop-pair-preserved
loop-pair-preserved c =
    let step = c.in-Some.ensures.steps.1 in
    let so = c.loop-pair.invariant in
    let pair = pair_digits so.1 _ _ step.0 (step.1 ∙ so.0) in
    let first = digit_unwrapped _ c.digit_of.ensures pair.0 c.unwrap.ensures in
    let second = digit_unwrapped _ c.digit_of-in-loop-pair.ensures pair.1 c.unwrap-in-loop-pair.ensures in
    (c.in-Some.ensures.steps.0 ∙ so.0, rw (first, second) (decoding_next so.1 _ _ step.0 (step.1 ∙ so.0)))

pub returns : goal.returns
returns c =
    let few = c.in-None.ensures.steps.1 in
    decoding_all c.loop-pair.invariant.1 (omega (arith, few, c.loop-pair.invariant.0))
