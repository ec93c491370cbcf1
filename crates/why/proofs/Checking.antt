-- The check has come to line k: no line above is wrong, and the states are the sheet's and theirs.
-- Assumes nothing.
use mathlib.Core.Path.{◌≡◌, refl, sym, ap, subst⁻¹, ◌∙◌}
use mathlib.Core.Bool.{Bool, true, false, not, ◌&&◌}
use mathlib.Core.List.{List}
use Prim.Native.Nat.{ℕ, suc, ◌+◌, ◌≤◌, ◌<◌}
use native.Mathlib.Omega.{arith}
use native.Mathlib.Decide.{ℕ_discrete}
use borrow.Author.Count.{below_more}
use borrow.Author.Tests.{not-false}
use lib.Dec.{ltb, eqb, ltb→lt}
use lib.ListN.{length, get_or, set, length-set}
use lib.Seq.{get_or-set_same, get_or-set_other}
use Rattle.lemmas.specs.Lists.{any, upto}
use Rattle.lemmas.proofs.Reading.{get_d_set}
use Rattle.spec.specs.Records.{record_at, record_count}
use Rattle.engine.specs.Moves.{Cells}
use Rattle.whylists.specs.Lines.{Line, line_at, known, given_by, right_after, right}
use Rattle.why.specs.Read.{right_on}
use Rattle.whylists.proofs.Carried.{given_same}
use Rattle.whylists.proofs.Known.{IsRight, is_right, right_within, known_size, open_same}

-- two tests in place of two others, between the same ones
amid : (p a b c d g g' : Bool) → (a && b) ≡ (c && d) → g ≡ g' → (p && a && b && g) ≡ (p && c && d && g')
amid true a b c d g g' e e' = rw (e, e')
amid false a b c d g g' e e' = refl

module _ (maker depot sheet l : List ℕ) where
  abbrev pub wrong : ℕ → Bool
  wrong k = not (right maker depot sheet l k)

  pub record Checked (s : List ℕ) (k : ℕ) : Type 0 where
    pub cells : Cells s
    pub same : (b : ℕ) → get_or s b 2 ≡ get_or (known sheet l k) b 2
    pub none : (i : ℕ) → i < k → wrong i ≡ false

  module _ {s : List ℕ} {k : ℕ} (so : Checked s k) where
    rights : (i : ℕ) → i < k → IsRight maker depot sheet l i
    rights i h = is_right maker depot sheet l i (not-false _ (so.none i h))

    -- a line is right on these states just when it is right after those above it
    pub right_same : right_on maker depot (length sheet) s (line_at l k) ≡ right maker depot sheet l k
    unfolding right_on right right_after
    right_same =
        let a = line_at l k in
        amid
        (ltb a.state 2 && eqb a.byte3 0 && eqb a.bytes67 0 && ltb a.number (record_count maker depot))
        (ltb a.box (length sheet))
        (eqb (get_or s a.box 2) 2)
        (eqb (get_or sheet a.box 0) 2)
        (not (any (λ j. eqb (line_at l j).box a.box) (upto k)))
        (given_by s a.box (eqb a.state 1) (record_at maker depot a.number))
        (given_by (known sheet l k) a.box (eqb a.state 1) (record_at maker depot a.number))
        (ap (λ (state : ℕ). ltb a.box (length sheet) && eqb state 2) (so.same a.box) ∙ open_same maker depot sheet l k a.box rights)
        (given_same s (known sheet l k) so.same a.box (eqb a.state 1) (record_at maker depot a.number))

    -- the line is right: its box gets its state
    module _ (is : right maker depot sheet l k ≡ true) where
      abbrev a : Line
      a = line_at l k

      line : IsRight maker depot sheet l k
      line = is_right maker depot sheet l k is

      pub line_state : (line_at l k).state ≤ 1
      line_state = omega (arith, ltb→lt (line_at l k).state 2 line.state)

      pub checked_next : length sheet ≤ 256 → Checked (set s (line_at l k).box (line_at l k).state) (k + 1)
      checked_next few =
          record {
            cells =
                record {
                  size = length-set s a.box a.state ∙ so.cells.size;
                  sheet = get_d_set (λ c. c ≤ 2) s a.box a.state 2 (omega (arith, line_state)) so.cells.sheet;
                };
            same = more;
            none = below_more _ k so.none (rw is);
          }
        where
          one_more : (j : ℕ) → j + 1 ≡ suc j
          one_more j = omega arith

          inside : a.box < length sheet
          inside = right_within maker depot sheet l k line

          at : (b : ℕ) → Dec (b ≡ a.box) → get_or (set s a.box a.state) b 2 ≡ get_or (set (known sheet l k) a.box a.state) b 2
          at b (yes e) =
              let known_inside : a.box < length (known sheet l k) = omega (arith, inside, known_size maker depot sheet l k) in
              rw (
                e,
                get_or-set_same s a.box a.state 2 (omega (arith, inside, few, so.cells.size)),
                get_or-set_same (known sheet l k) a.box a.state 2 known_inside,
              )
          at b (no e) =
              get_or-set_other s a.box b a.state 2 e ∙ so.same b ∙ sym (get_or-set_other (known sheet l k) a.box b a.state 2 e)

          more : (b : ℕ) → get_or (set s a.box a.state) b 2 ≡ get_or (known sheet l (k + 1)) b 2
          more b =
              subst⁻¹ (λ (j : ℕ). get_or (set s a.box a.state) b 2 ≡ get_or (known sheet l j) b 2) (one_more k) (at b (ℕ_discrete b a.box))
