-- Request 2026-01, why-lists, as one record, of the functions that the promises of the maker and the checker cite. A field's comment is
-- the sentence, and its type says it. It holds of all tables, sheets, lists and buffers: `why_lists` of the crate's proofs.
-- Assumes nothing.
use Rattle.std.specs.Prelude.{◌≡◌, ◌↔◌, Bool, true, false, ℕ, ◌*◌, ◌%◌, ◌≤◌, ◌<◌, T, length, get_or, take, drop}
use mathlib.Core.List.{List, Memᴰ}
use Rattle.spec.specs.Kinds.{kind_of}
use Rattle.spec.specs.Rules.{Literal, Rule, rules_of}
use Rattle.spec.specs.Records.{is_rule, box_at, record_at, record_count}
use Rattle.spec.specs.Facts.{HasAll, holds}
use Rattle.spec.specs.Refusals.{reason, refused, answered, passed, sheet_checks, order_checks}
use Rattle.spec.specs.Fill.{fill_says, fill_writes}
use Rattle.whylists.specs.Lines.{Line, says_in, line_at, line_count, right_after, right}
use Rattle.whylists.specs.Says.{why_checks, why_says, why_writes, why_check_says}
use Rattle.claims.specs.Demands.{InForm, RefusesBy, Unchanged, Derived}

-- the facts that stand before line k: the sheet's settled boxes, and what the lines above say
pub data Before (sheet l : List ℕ) (k : ℕ) : ℕ → Bool → Type 0 where
  settled : {b : ℕ} {state : Bool} → T (holds sheet b state) → Before sheet l k b state
  said : (j : ℕ) → j < k → Before sheet l k (line_at l j).box (says_in (line_at l j))

-- the line's state follows from them by one of its record's rules
pub record Follows (maker depot sheet l : List ℕ) (k : ℕ) (a : Line) : Type 0 where
  -- the record is a rule
  pub is_rule_lem : is_rule (record_at maker depot a.number) ≡ true
  -- and has this one among those of its kind
  pub rule : Rule
  pub of_kind : Memᴰ rule (rules_of (kind_of (record_at maker depot a.number).kind))
  -- whose premises stand before the line
  pub premises : HasAll (Before sheet l k) (record_at maker depot a.number) rule.premises
  -- and one of whose conclusions is what the line says of its box
  pub literal : Literal
  pub concluded : Memᴰ literal rule.conclusions
  pub its_box : box_at (record_at maker depot a.number) literal.place ≡ a.box
  pub its_state : literal.state ≡ says_in a

-- a right line, in the request's words
pub record RightLine (maker depot sheet l : List ℕ) (k : ℕ) (a : Line) : Type 0 where
  -- state 0 or 1, its zero bytes zero, and a record that exists
  pub settles : a.state < 2
  pub zeros : (a.byte3 ≡ 0) × (a.bytes67 ≡ 0)
  pub exists : a.number < record_count maker depot
  -- its state follows, by one of that record's rules, from the sheet's settled boxes and the lines above it
  pub follows : Follows maker depot sheet l k a
  -- its box is open on the sheet and has no earlier line
  pub opened : get_or sheet a.box 0 ≡ 2
  pub new : (j : ℕ) → j < k → (line_at l j).box ≡ a.box → ⊥

-- line k is wrong, and no line above it is
pub record FirstWrong (maker depot sheet l : List ℕ) (k : ℕ) : Type 0 where
  pub below : k < line_count l
  pub wrong : right maker depot sheet l k ≡ false
  pub above : (j : ℕ) → j < k → right maker depot sheet l j ≡ true

-- the checker, on tables and a sheet in form
pub record CheckAgrees (maker depot sheet l : List ℕ) : Type 0 where
  -- 10 exactly when the list's length isn't a multiple of 8
  pub ten : (why_check_says maker depot sheet l ≡ refused (reason 10 0)) ↔ (length l % 8 ≡ 0 → ⊥)
  -- else 11 exactly when some line is wrong, at the first such
  pub eleven : (k : ℕ) → (why_check_says maker depot sheet l ≡ refused (reason 11 k)) ↔ ((length l % 8 ≡ 0) × FirstWrong maker depot sheet l k)
  -- else it accepts: exactly when every line is right
  pub accepts : (why_check_says maker depot sheet l ≡ passed) ↔ ((length l % 8 ≡ 0) × ((k : ℕ) → k < line_count l → right maker depot sheet l k ≡ true))

-- line k is the lowest box that then follows, by the lowest record that gives it
pub record LowestLine (maker depot sheet l : List ℕ) (k : ℕ) : Type 0 where
  -- of all lines that would be right in its place none has a lower box
  pub box : (a : Line) → right_after maker depot sheet l k a ≡ true → (line_at l k).box ≤ a.box
  -- and with the same box none has a lower record
  pub number : (a : Line) → right_after maker depot sheet l k a ≡ true → a.box ≡ (line_at l k).box → (line_at l k).number ≤ a.number

-- some line says this of this box
abbrev pub HasLine : (l : List ℕ) (b state : ℕ) → Type 0
HasLine l b state = (j : ℕ) × (j < line_count l) × ((line_at l j).box ≡ b) × ((line_at l j).state ≡ state)

-- the list that the maker has handed out: as many lines as it answered, at the head of the buffer
abbrev pub handed_lines : (maker depot sheet out : List ℕ) (count : ℕ) → List ℕ
handed_lines maker depot sheet out count = take (8 * count) (why_writes maker depot sheet out)

-- the maker, where it has answered
pub record Explains (maker depot sheet out : List ℕ) (count : ℕ) : Type 0 where
  -- the lines are in the buffer
  pub lines : line_count (handed_lines maker depot sheet out count) ≡ count
  -- the bytes after the last line stay
  pub stays : drop (8 * count) (why_writes maker depot sheet out) ≡ drop (8 * count) out
  -- ours is always accepted
  pub accepted : why_check_says maker depot sheet (handed_lines maker depot sheet out count) ≡ passed
  -- its boxes with their states are exactly those that Fill settles
  pub settles : (filled : List ℕ) → InForm (order_checks maker depot sheet filled) → (b state : ℕ) →
      HasLine (handed_lines maker depot sheet out count) b state
      ↔ ((get_or sheet b 2 ≡ 2) × (get_or (fill_writes maker depot sheet filled) b 2 ≡ state) × (state < 2))
  -- each is the lowest box that then follows, by the lowest record that gives it
  pub lowest : (k : ℕ) → k < count → LowestLine maker depot sheet (handed_lines maker depot sheet out count) k
  -- and after the last one none follows
  pub last : (a : Line) → right_after maker depot sheet (handed_lines maker depot sheet out count) count a ≡ false

-- 2026-01. Tell the fitter why. The list `l` is the checker's, and `out` the maker's buffer.
pub record WhyLists (maker depot sheet l out : List ℕ) : Type 0 where
  -- the maker refuses bad tables, a bad sheet and a buffer that isn't eight bytes a box, by 1 to 5
  pub why : RefusesBy (why_checks maker depot sheet out) (why_says maker depot sheet out)
  -- and the checker bad tables and a bad sheet, by 1 to 4
  pub why_check : RefusesBy (sheet_checks maker depot sheet) (why_check_says maker depot sheet l)
  -- a refusal of the maker, by whatever number, leaves every byte of its buffer as it was
  pub why_leaves : Unchanged (why_says maker depot sheet out) (why_writes maker depot sheet out) out
  -- a line after right ones is right exactly when the request's words say so
  pub words : (k : ℕ) → ((j : ℕ) → j < k → right maker depot sheet l j ≡ true) → (a : Line) →
      (right_after maker depot sheet l k a ≡ true) ↔ RightLine maker depot sheet l k a
  -- whatever stands in its place or below: no line supports itself
  pub above : (m : List ℕ) (k : ℕ) → ((j : ℕ) → j < k → line_at l j ≡ line_at m j) → (a : Line) →
      right_after maker depot sheet l k a ≡ right_after maker depot sheet m k a
  -- the checker accepts a list exactly when every line meets this
  pub check : InForm (sheet_checks maker depot sheet) → CheckAgrees maker depot sheet l
  -- a list accepted holds only facts of the closure, however short it is or ordered, and on a sheet that clashes too
  pub facts : why_check_says maker depot sheet l ≡ passed → (k : ℕ) → k < line_count l →
      Derived maker depot sheet (line_at l k).box (says_in (line_at l k))
  -- on a call in form the maker says what Fill says: 7, or as many lines as Fill fills boxes
  pub as_fill : InForm (why_checks maker depot sheet out) → (filled : List ℕ) → InForm (order_checks maker depot sheet filled) →
      why_says maker depot sheet out ≡ fill_says maker depot sheet filled
  -- and where it has answered, the list that it hands out explains each box that Fill settles
  pub explains : (count : ℕ) → why_says maker depot sheet out ≡ answered count → Explains maker depot sheet out count
