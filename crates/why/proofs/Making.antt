-- The search's next line is the one that the sentence names: the lowest box that then follows, by the lowest record that gives it.
-- Assumes nothing.
use mathlib.Core.Path.{◌≡◌, sym, ap, ◌∙◌}
use mathlib.Core.Bool.{Bool, true, false, true≢false, cond, ◌&&◌, ◌||◌}
use mathlib.Core.List.{List}
use Prim.Native.Nat.{ℕ, ◌≤◌, ◌<◌}
use native.Mathlib.Omega.{arith}
use borrow.Author.Tests.{le-ltb}
use lib.Dec.{ltb, eqb}
use lib.ListN.{length, get_or}
use Rattle.lemmas.specs.Lists.{any, upto}
use Rattle.lemmas.specs.Lowest.{lowest}
use Rattle.lemmas.proofs.Lowest.{lowest_at, lowest_none}
use Rattle.lemmas.proofs.Members.{any_member, any_of, upto_member, member_upto}
use Rattle.lemmas.proofs.Reading.{get_d_default}
use Rattle.lemmas.proofs.Tests.{T_true, true_T, false_T, both_left, both_right, both_of}
use Rattle.spec.specs.Records.{Rec, record_at, record_count}
use Rattle.spec.specs.Rounds.{code}
use Rattle.whylists.specs.Lines.{given_by}
use Rattle.whylists.specs.Ours.{gives_box, follows_now, next_box, by_record, state_by}
use Rattle.why.specs.Next.{offers, LowestGiven, NoneGiven}
use Rattle.whylists.proofs.Carried.{given_same}

module _ (maker depot s t : List ℕ) (same : (b : ℕ) → get_or s b 2 ≡ get_or t b 2) where
  -- the code's test is the sentence's, for an open box
  gives_same : (b r : ℕ) →
      (given_by s b false (record_at maker depot r) || given_by s b true (record_at maker depot r)) ≡ gives_box maker depot t b r
  unfolding gives_box
  gives_same b r = rw (given_same s t same b false (record_at maker depot r), given_same s t same b true (record_at maker depot r))

  module _ (b : ℕ) (below : b < length t) where
    opened : Bool
    opened = eqb (get_or t b 0) 2

    given_some : Bool
    given_some = any (gives_box maker depot t b) (upto (record_count maker depot))

    offers_same : (r : ℕ) → offers s (record_at maker depot r) b ≡ (opened && gives_box maker depot t b r)
    unfolding offers opened
    offers_same r = rw (gives_same b r, get_d_default t b 0 2 below, same b)

    -- the box follows where some record offers it, and where none does it does not
    follows_some : (r : ℕ) → r < record_count maker depot → offers s (record_at maker depot r) b ≡ true →
        follows_now maker depot t b ≡ true
    unfolding follows_now opened given_some
    follows_some r h e =
        let gives = gives_box maker depot t b in
        let both = T_true (sym (offers_same r) ∙ e) in
        let some = any_of gives (upto_member h) (both_right opened (gives r) both) in
        true_T (opened && given_some) (both_of opened given_some (both_left opened (gives r) both) some)

    follows_none : ((r : ℕ) → r < record_count maker depot → offers s (record_at maker depot r) b ≡ false) →
        follows_now maker depot t b ≡ false
    unfolding follows_now opened given_some
    follows_none none =
        false_T (opened && given_some)
        (λ both.
        let gives = gives_box maker depot t b in
        let found = any_member gives (upto (record_count maker depot)) (both_right opened given_some both) in
        let offered = true_T (opened && gives found.0) (both_of opened (gives found.0) (both_left opened given_some both) found.2) in
        true≢false (sym (offers_same found.0 ∙ offered) ∙ none found.0 (member_upto (record_count maker depot) found.1)))

  -- none follows
  pub next_none : NoneGiven maker depot s (length t) (record_count maker depot) → ltb (next_box maker depot t) (length t) ≡ false
  unfolding next_box
  next_none none =
      le-ltb (lowest (follows_now maker depot t) (length t)) (length t)
      (omega (arith, lowest_none (follows_now maker depot t) (length t) (λ c l. follows_none c l (λ r m. none c l r m))))

  module _ {b number : ℕ} (so : LowestGiven maker depot s (length t) (record_count maker depot) b number) where
    pub next_box_lem : next_box maker depot t ≡ b
    unfolding next_box
    next_box_lem =
        lowest_at (follows_now maker depot t) (length t) b so.within (follows_some b so.within number so.counted so.given)
        (λ c l. follows_none c (omega arith) (λ r m. so.none c l r m))

    -- the box is open, so what a record gives decides
    gives_is : (r : ℕ) → offers s (record_at maker depot r) b ≡ gives_box maker depot t b r
    gives_is r =
        let gives = gives_box maker depot t b in
        let both = T_true (sym (offers_same b so.within number) ∙ so.given) in
        offers_same b so.within r
        ∙ ap (λ (is : Bool). is && gives r) (true_T (opened b so.within) (both_left (opened b so.within) (gives number) both))

    pub next_record : by_record maker depot t ≡ number
    unfolding by_record
    next_record =
        rw next_box_lem
        (lowest_at (gives_box maker depot t b) (record_count maker depot) number so.counted (sym (gives_is number) ∙ so.given)
        (λ r l. sym (gives_is r) ∙ so.lowest r l))

    abbrev pub q : Rec
    q = record_at maker depot number

    -- the state by what the record gives, which is not open and not both
    pub next_state : (g : ℕ) → g ≡ code (given_by s b false q) (given_by s b true q) → g ≤ 2 → state_by maker depot t ≡ g
    unfolding state_by code
    next_state g e low =
        rw (next_record, next_box_lem, sym (given_same s t same b true q))
        (told (given_by s b false q) (given_by s b true q) (gives_same b number ∙ sym (gives_is number) ∙ so.given) e)
      where
        told : (out in' : Bool) → (out || in') ≡ true → g ≡ code out in' → cond in' 1 0 ≡ g
        told true true is e' = absurd (omega (arith, e', low))
        told true false is e' = sym e'
        told false true is e' = sym e'
        told false false is e' = absurd (true≢false (sym is))
