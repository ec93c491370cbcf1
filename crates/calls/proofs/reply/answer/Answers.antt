-- `calls::reply::answer` meets its contract: the tests come in their order, and then the call.
-- Assumes nothing.
use mathlib.Core.Path.{◌≡◌, sym, ◌∙◌, ap}
use Prim.Native.Nat.{◌+◌}
use native.Mathlib.Omega.{arith}
use lib.ListN.{length}
use lib.Seq.{length-take-le}
use Rattle.fields.specs.Fields.{fields_of}
use Rattle.fields.proofs.Splitting.{end_below}
use Rattle.calls.specs.Rows.{row_at}
use Rattle.calls.specs.Room.{row_number, row_found}
use Rattle.calls.proofs.Table.{row_many}
use Rattle.calls.proofs.Answering.{Worded, answer_long, answer_word, answer_fields, answer_digits, answer_call, after_within, after_right}
use Rattle.calls.proofs.reply.answer.Goals as goal

pub returns-then-line-gt-LONGEST : goal.returns-then-line-gt-LONGEST
returns-then-line-gt-LONGEST c =
    let put = c.put_error.ensures in
    rw (answer_long _ c.if-line-gt-LONGEST.true) (record { puts = put; short = omega (arith, put.after) })

pub slice_bounds-of-end : goal.slice_bounds-of-end
slice_bounds-of-end c =
    sym (length-take-le c.end_of-end.result c.args.line.now (end_below 32 c.args.line.now 0 _ (omega arith) c.end_of-end.ensures))

pub returns-in_default : goal.returns-in_default
returns-in_default c =
    let put = c.put_error-in_default.ensures in
    let w : Worded c.args.line.now c.end_of-end.result = record { short = c.if-line-gt-LONGEST.false; ends = c.end_of-end.ensures } in
    rw (answer_word w (ap row_found (sym c.in_default.is) ∙ c.of.ensures)) (record { puts = put; short = omega (arith, put.after) })

pub overflow_add-many : goal.overflow_add-many
overflow_add-many c = record { fits = omega (arith, c.many.ensures, row_many c.in-Some.call) }

pub returns-then-count_pieces-many : goal.returns-then-count_pieces-many
returns-then-count_pieces-many c =
    let put = c.put_error-then-count_pieces-many.ensures in
    let w : Worded c.args.line.now c.end_of-end.result = record { short = c.if-line-gt-LONGEST.false; ends = c.end_of-end.ensures } in
    rw (answer_fields w c.in-Some.call c.in-Some.ensures (λ same. c.if-count_pieces-many.true (omega (arith, c.count_pieces.ensures, same, c.many.ensures))))
    (record { puts = put; short = omega (arith, put.after) })

pub overflow_add-from : goal.overflow_add-from
overflow_add-from c =
    let w : Worded c.args.line.now c.end_of-end.result = record { short = c.if-line-gt-LONGEST.false; ends = c.end_of-end.ensures } in
    let same : length (fields_of c.args.line.now) ≡ (row_at (row_number c.in-Some.call)).many + 1 =
    omega (arith, c.count_pieces.ensures, c.if-count_pieces-many.false, c.many.ensures) in
    record { fits = omega (arith, after_within w c.in-Some.call c.in-Some.ensures same) }

pub are_fields-requires : goal.are_fields-requires
are_fields-requires c =
    let w : Worded c.args.line.now c.end_of-end.result = record { short = c.if-line-gt-LONGEST.false; ends = c.end_of-end.ensures } in
    after_within w c.in-Some.call c.in-Some.ensures (omega (arith, c.count_pieces.ensures, c.if-count_pieces-many.false, c.many.ensures))

pub returns-then-not-are_fields : goal.returns-then-not-are_fields
returns-then-not-are_fields c =
    let put = c.put_error-then-not-are_fields.ensures in
    let w : Worded c.args.line.now c.end_of-end.result = record { short = c.if-line-gt-LONGEST.false; ends = c.end_of-end.ensures } in
    let same : length (fields_of c.args.line.now) ≡ (row_at (row_number c.in-Some.call)).many + 1 =
    omega (arith, c.count_pieces.ensures, c.if-count_pieces-many.false, c.many.ensures) in
    rw (answer_digits w c.in-Some.call c.in-Some.ensures same (sym c.are_fields.ensures ∙ c.if-not-are_fields.true))
    (record { puts = put; short = omega (arith, put.after) })

pub answer_fields-requires-clause-right_fields : goal.answer_fields-requires-clause-right_fields
answer_fields-requires-clause-right_fields c =
    let w : Worded c.args.line.now c.end_of-end.result = record { short = c.if-line-gt-LONGEST.false; ends = c.end_of-end.ensures } in
    let same : length (fields_of c.args.line.now) ≡ (row_at (row_number c.in-Some.call)).many + 1 =
    omega (arith, c.count_pieces.ensures, c.if-count_pieces-many.false, c.many.ensures) in
    after_right w c.in-Some.call c.in-Some.ensures same (sym c.are_fields.ensures ∙ c.if-not-are_fields.false)

pub returns : goal.returns
returns c =
    let w : Worded c.args.line.now c.end_of-end.result = record { short = c.if-line-gt-LONGEST.false; ends = c.end_of-end.ensures } in
    let same : length (fields_of c.args.line.now) ≡ (row_at (row_number c.in-Some.call)).many + 1 =
    omega (arith, c.count_pieces.ensures, c.if-count_pieces-many.false, c.many.ensures) in
    rw (answer_call w c.in-Some.call c.in-Some.ensures same (sym c.are_fields.ensures ∙ c.if-not-are_fields.false), ← c.row.ensures)
    c.answer_fields.ensures
