-- `why::next::lowest_given` meets its contract: the boxes that the record names are offered one after the other.
-- Assumes nothing.
use mathlib.Core.Path.{◌≡◌, sym, subst, ◌∙◌}
use mathlib.Core.Bool.{true, false, true≢false}
use mathlib.Core.List.{List}
use Prim.Native.Nat.{ℕ, ◌%◌}
use native.Mathlib.Omega.{arith}
use borrow.Author.Tests.{not-true, not-false}
use Rattle.lemmas.specs.Lowest.{lowest}
use Rattle.spec.specs.Records.{Rec, bad}
use Rattle.records.specs.Record.{as_rec}
use Rattle.engine.specs.Moves.{Cells}
use Rattle.theory.specs.Steps.{z_missing}
use Rattle.theory.proofs.Places.{good_z}
use Rattle.why.specs.Next.{offers, Offered}
use Rattle.why.proofs.Asked.{looked}
use Rattle.why.proofs.Offers.{low_start, low_next, low_lowest, offers_all, offers_rest}
use Rattle.why.proofs.next.lowest_given.Goals as goal

-- x and y have been offered, and after them z where it is there
module _ (q : Rec) {s : List ℕ} (good : bad 256 q ≡ false) (cells : Cells s) {below by_x by_y : ℕ}
    (first : Offered s q q.x below by_x) (second : Offered s q q.y by_x by_y) where
  lowest_two : z_missing q ≡ true → by_y ≡ lowest (offers s q) below
  lowest_two missing =
      low_lowest (low_next (low_next low_start first) second)
      (offers_all q good cells (λ h. first.passed (omega (arith, second.within))) second.passed
      (λ is. absurd (true≢false (sym missing ∙ is))))

  lowest_three : z_missing q ≡ false → {by_z : ℕ} → Offered s q (q.z % 256) by_y by_z → by_z ≡ lowest (offers s q) below
  lowest_three there third =
      let within = good_z 256 q good there in
      let same : q.z % 256 ≡ q.z = omega (arith, within) in
      low_lowest (low_next (low_next (low_next low_start first) second) third)
      (offers_all q good cells (λ h. first.passed (omega (arith, second.within, third.within)))
      (λ h. second.passed (omega (arith, third.within)))
      (λ is h. subst (λ (b : ℕ). offers s q b ≡ false) same (third.passed (omega (arith, same, h)))))

pub at_rest-requires : goal.at_rest-requires
at_rest-requires c = looked _ c.requires.q_value c.requires.cells

pub returns-then-at_rest : goal.returns-then-at_rest
returns-then-at_rest c =
    low_lowest low_start (λ b h. offers_rest _ c.requires.q_value c.requires.cells (c.at_rest.ensures c.if-at_rest.true) b)

pub returns-then-has_z : goal.returns-then-has_z
returns-then-has_z c =
    lowest_three (as_rec c.args.q) c.requires.q_value c.requires.cells c.offer-by_x.ensures c.offer-by_y.ensures
    (not-true _ (sym c.has_z.ensures ∙ c.if-has_z.true)) c.offer.ensures

pub returns : goal.returns
returns c =
    lowest_two (as_rec c.args.q) c.requires.q_value c.requires.cells c.offer-by_x.ensures c.offer-by_y.ensures
    (not-false _ (sym c.has_z.ensures ∙ c.if-has_z.false))
