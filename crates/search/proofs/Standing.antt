-- How two lists compare from a box on, below which they are the same: the lowest box where they differ decides.
-- Assumes nothing.
use Rattle.std.proofs.Common.{◌≡◌, ℕ, zero, suc, ◌+◌, ◌-◌, ◌≤◌, ◌<◌, List, [], ◌∷◌, length, get_or, refl, sym, ◌∙◌, arith}
use native.Mathlib.Decide.{dec_lt}
use Rattle.std.specs.declared.cmp.Ordering.{Ordering}
use Rattle.std.specs.declared.cmp.Ordering.TheVariants.{Less, Equal, Greater}
use Rattle.std.specs.Ordering.{MatchOrdering, nat_cmp, ordering_then}
use Rattle.std.specs.Cmp.Lexicographic.{slice_cmp}
use Rattle.std.specs.List.{between}
use Rattle.std.proofs.lemmas.Cmp.{ranked}
use Rattle.std.proofs.lemmas.List.Edits.{get_or-between, length-between}
use Rattle.search.specs.Look.{LessBelow, SameBelow}

-- how the first b elements of l stand to those of k
abbrev pub Compared : List ℕ → List ℕ → ℕ → Ordering → Type 0
Compared l k b w = MatchOrdering w (LessBelow l k b) (SameBelow b l k) (LessBelow k l b)

-- one element more before the lists
module _ (x y : ℕ) (xs ys : List ℕ) (b : ℕ) where
  head_same : x ≡ y → SameBelow b xs ys → SameBelow (suc b) (x ∷ xs) (y ∷ ys)
  head_same e same zero h = e
  head_same e same (suc c) h = same c (omega arith)

module _ (x y : ℕ) (xs ys : List ℕ) (b : ℕ) where
  head_less : x < y → LessBelow (x ∷ xs) (y ∷ ys) (suc b)
  head_less less = (0, omega arith, record { same = λ c h. absurd (omega arith); less = less })

  tail_less : x ≡ y → LessBelow xs ys b → LessBelow (x ∷ xs) (y ∷ ys) (suc b)
  tail_less e (c, h, at) = (suc c, omega arith, record { same = head_same x y xs ys c e at.same; less = at.less })

compared_more : (x y : ℕ) (xs ys : List ℕ) (b : ℕ) (o v : Ordering) → MatchOrdering o (x < y) (x ≡ y) (y < x) → Compared xs ys b v →
    Compared (x ∷ xs) (y ∷ ys) (suc b) (ordering_then o v)
compared_more x y xs ys b Less v h rest = head_less x y xs ys b h
compared_more x y xs ys b Greater v h rest = head_less y x ys xs b h
compared_more x y xs ys b Equal Less e rest = tail_less x y xs ys b e rest
compared_more x y xs ys b Equal Greater e rest = tail_less y x ys xs b (sym e) rest
compared_more x y xs ys b Equal Equal e rest = head_same x y xs ys b e rest

compared : (l k : List ℕ) → length l ≡ length k → Compared l k (length l) (slice_cmp nat_cmp l k)
compared [] [] e = λ c h. absurd (omega arith)
compared [] (y ∷ ys) e = absurd (omega arith)
compared (x ∷ xs) [] e = absurd (omega arith)
compared (x ∷ xs) (y ∷ ys) e = compared_more x y xs ys (length xs) (nat_cmp x y) _ (ranked x y _ refl) (compared xs ys (omega arith))

-- from the boxes between `from` and b to the first b, where those below `from` are the same
module _ (from b : ℕ) (order : from ≤ b) (l k : List ℕ) (front : SameBelow from l k) where
  same_up : (e : ℕ) → from + e ≤ b → SameBelow e (between from b l) (between from b k) → SameBelow (from + e) l k
  same_up e within same i h = at (dec_lt i from)
    where
      at : Dec (i < from) → get_or l i 2 ≡ get_or k i 2
      at (yes g) = front i g
      at (no g) =
          let c = i - from in
          let here : from + c ≡ i = omega arith in
          rw here at (sym (get_or-between l from b c 2 (omega arith)) ∙ same c (omega arith) ∙ get_or-between k from b c 2 (omega arith))

  less_up : LessBelow (between from b l) (between from b k) (b - from) → LessBelow l k b
  less_up (c, h, at) = (
    from + c,
    omega arith,
    record {
      same = same_up c (omega arith) at.same;
      less = omega (arith, at.less, get_or-between l from b c 2 (omega arith), get_or-between k from b c 2 (omega arith));
    },
  )

module _ (from b : ℕ) (order : from ≤ b) (l k : List ℕ) (front : SameBelow from l k) where
  compared_up : (w : Ordering) → Compared (between from b l) (between from b k) (b - from) w → Compared l k b w
  compared_up Less h = less_up from b order l k front h
  compared_up Greater h = less_up from b order k l (λ c g. sym (front c g)) h
  compared_up Equal h = λ i g. same_up from b order l k front (b - from) (omega arith) h i (omega arith)

  pub compared_from : b ≤ length l → b ≤ length k → Compared l k b (slice_cmp nat_cmp (between from b l) (between from b k))
  compared_from long long' =
      let e = length-between l from b long in
      compared_up _ (rw e at (compared (between from b l) (between from b k) (e ∙ sym (length-between k from b long'))))
