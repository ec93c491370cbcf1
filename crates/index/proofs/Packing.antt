-- Packing: a rule that is written in four bytes behind the packed ones is one more of them, and is read again as it was.
-- Assumes nothing.
use mathlib.Core.Path.{◌≡◌, refl, sym, ap, ◌∙◌}
use mathlib.Core.Bool.{Bool, true, false, cond}
use mathlib.Core.List.{List, [], ◌∷◌, ◌++◌, map, map-append, append-nil, Memᴰ}
use Prim.Native.Nat.{ℕ, zero, suc, ◌+◌, ◌*◌, ◌<◌, ◌≤◌}
use native.Mathlib.Nat.{add-zero, add-suc, suc-add, zero-add}
use native.Mathlib.Numerals.{add-one}
use native.Mathlib.Omega.{arith}
use lib.ListN.{length, get_or, set, length-set}
use lib.Seq.{get_or-set_same, get_or-set_other}
use Rattle.lemmas.specs.Lists.{those, up_from, upto}
use Rattle.lemmas.proofs.Members.{member_upto}
use Rattle.spec.specs.Records.{Rec, record_at, record_count, is_rule, rules_in, bad}
use Rattle.spec.proofs.Named.{Good}
use Rattle.spec.proofs.Accepted.{Accepted}
use Rattle.theory.proofs.Numbered.{rules_good}
use Rattle.index.specs.Index.{rule_of, rule_at, packed_rules, Packed}
use Rattle.index.proofs.Rules.{rule_again}

up_from_last : (k n : ℕ) → up_from k (suc n) ≡ up_from k n ++ ((k + n) ∷ [])
up_from_last k zero = rw add-zero
up_from_last k (suc n) =
    ap (λ (l : List ℕ). k ∷ l)
    (up_from_last (suc k) n ∙ ap (λ (j : ℕ). up_from (suc k) n ++ (j ∷ [])) (suc-add k n ∙ sym (add-suc k n)))

module _ {A : Type 0} where
  -- a function of one number more
  map_last : (f : ℕ → A) (n : ℕ) → map f (upto (n + 1)) ≡ map f (upto n) ++ (f n ∷ [])
  map_last f n =
      ap (λ (k : ℕ). map f (upto k)) (add-one n)
      ∙ ap (map f) (up_from_last 0 n)
      ∙ map-append f (upto n) ((0 + n) ∷ [])
      ∙ ap (λ (k : ℕ). map f (upto n) ++ (f k ∷ [])) (zero-add n)

  map_same : (f g : ℕ → A) (l : List ℕ) → ((i : ℕ) → Memᴰ i l → f i ≡ g i) → map f l ≡ map g l
  map_same f g [] same = refl
  map_same f g (i ∷ l) same =
      rw (same i (Memᴰ.head refl)) (ap (λ r. g i ∷ r) (map_same f g l (λ j m. same j (Memᴰ.tail m))))

  those_append : (p : A → Bool) (l k : List A) → those p (l ++ k) ≡ those p l ++ those p k
  those_append p [] k = refl
  those_append p (a ∷ l) k = at (p a) (those_append p l k)
    where
      at : (b : Bool) → those p (l ++ k) ≡ those p l ++ those p k →
          cond b (a ∷ those p (l ++ k)) (those p (l ++ k)) ≡ cond b (a ∷ those p l) (those p l) ++ those p k
      at true e = ap (λ r. a ∷ r) e
      at false e = e

-- the rules among the first i records
abbrev pub rules_below : List ℕ → List ℕ → ℕ → List Rec
rules_below maker depot i = those is_rule (map (record_at maker depot) (upto i))

module _ (maker depot : List ℕ) (i : ℕ) where
  rules_next : rules_below maker depot (i + 1) ≡ rules_below maker depot i ++ those is_rule (record_at maker depot i ∷ [])
  rules_next = rw (map_last (record_at maker depot) i) (those_append is_rule (map (record_at maker depot) (upto i)) _)

  pub rules_kept : is_rule (record_at maker depot i) ≡ true →
      rules_below maker depot (i + 1) ≡ rules_below maker depot i ++ (record_at maker depot i ∷ [])
  rules_kept e = rules_next ∙ rw e

  pub rules_passed : is_rule (record_at maker depot i) ≡ false → rules_below maker depot (i + 1) ≡ rules_below maker depot i
  rules_passed e = rules_next ∙ rw e (append-nil _)

-- byte v was written at i
record Wrote (old new : List ℕ) (i v : ℕ) : Type 0 where
  size : length new ≡ length old
  there : get_or new i 0 ≡ v
  others : (j : ℕ) → (j ≡ i → ⊥) → get_or new j 0 ≡ get_or old j 0

wrote : (l : List ℕ) (i v : ℕ) → i < length l → Wrote l (set l i v) i v
wrote l i v h = record { size = length-set l i v; there = get_or-set_same l i v 0 h; others = λ j e. get_or-set_other l i j v 0 e }

-- where the bytes of the first m rules stay, the rule behind them is one more
packed_more : (old new : List ℕ) (m : ℕ) → ((i : ℕ) → i < 4 * m → get_or new i 0 ≡ get_or old i 0) →
    packed_rules new (m + 1) ≡ packed_rules old m ++ (rule_at new m ∷ [])
unfolding packed_rules
packed_more old new m stay =
    map_last (rule_at new) m ∙ ap (λ r. r ++ (rule_at new m ∷ [])) (map_same (rule_at new) (rule_at old) (upto m) same)
  where
    same : (j : ℕ) → Memᴰ j (upto m) → rule_at new j ≡ rule_at old j
    same j k =
        let l = member_upto m k in
        cc (stay (4 * j) (omega arith), stay (4 * j + 1) (omega arith), stay (4 * j + 2) (omega arith), stay (4 * j + 3) (omega arith))

-- the four bytes of a rule are written from `at` on
abbrev pub written : List ℕ → (at kind x y z : ℕ) → List ℕ
written old at kind x y z = set (set (set (set old at kind) (at + 1) x) (at + 2) y) (at + 3) z

module _ (q : Rec) (old : List ℕ) (size : length old ≡ 4096) (m : ℕ) (room : m < 1024) (x y z : ℕ) where
  abbrev first : List ℕ
  first = set old (4 * m) q.kind

  abbrev second : List ℕ
  second = set first (4 * m + 1) x

  abbrev third : List ℕ
  third = set second (4 * m + 2) y

  wrote_kind : Wrote old first (4 * m) q.kind
  wrote_kind = wrote old (4 * m) q.kind (omega arith)

  wrote_x : Wrote first second (4 * m + 1) x
  wrote_x = wrote first (4 * m + 1) x (omega (arith, wrote_kind.size))

  wrote_y : Wrote second third (4 * m + 2) y
  wrote_y = wrote second (4 * m + 2) y (omega (arith, wrote_kind.size, wrote_x.size))

  wrote_z : Wrote third (written old (4 * m) q.kind x y z) (4 * m + 3) z
  wrote_z = wrote third (4 * m + 3) z (omega (arith, wrote_kind.size, wrote_x.size, wrote_y.size))

  pub written_size : length (written old (4 * m) q.kind x y z) ≡ 4096
  written_size = wrote_z.size ∙ wrote_y.size ∙ wrote_x.size ∙ wrote_kind.size ∙ size

  written_below : (i : ℕ) → i < 4 * m → get_or (written old (4 * m) q.kind x y z) i 0 ≡ get_or old i 0
  written_below i l =
      wrote_z.others i (λ e. omega arith)
      ∙ wrote_y.others i (λ e. omega arith)
      ∙ wrote_x.others i (λ e. omega arith)
      ∙ wrote_kind.others i (λ e. omega arith)

  written_rule : rule_at (written old (4 * m) q.kind x y z) m ≡ rule_of q.kind x y z
  written_rule =
      cc (
        wrote_z.others (4 * m) (λ e. omega arith)
            ∙ wrote_y.others (4 * m) (λ e. omega arith)
            ∙ wrote_x.others (4 * m) (λ e. omega arith)
            ∙ wrote_kind.there,
        wrote_z.others (4 * m + 1) (λ e. omega arith) ∙ wrote_y.others (4 * m + 1) (λ e. omega arith) ∙ wrote_x.there,
        wrote_z.others (4 * m + 2) (λ e. omega arith) ∙ wrote_y.there,
        wrote_z.there,
      )

  -- a good rule behind m rules: the bytes that are written are its boxes, where they are boxes
  pub packed_next : bad 256 q ≡ false → (q.x < 256 → x ≡ q.x) → (q.y < 256 → y ≡ q.y) → (q.z < 256 → z ≡ q.z) →
      packed_rules (written old (4 * m) q.kind x y z) (m + 1) ≡ packed_rules old m ++ (q ∷ [])
  packed_next good is_x is_y is_z =
      packed_more old (written old (4 * m) q.kind x y z) m written_below
      ∙ ap (λ r. packed_rules old m ++ (r ∷ [])) (written_rule ∙ rule_again q good x y z is_x is_y is_z)

-- once all records are gone through, the packed rules are those of both tables
pub packed_all : {maker depot packed : List ℕ} {m i : ℕ} → Accepted 256 maker depot → length packed ≡ 4096 → m ≤ i →
    i ≡ record_count maker depot → packed_rules packed m ≡ rules_below maker depot i → Packed packed m (rules_in maker depot)
unfolding rules_in
packed_all {maker} {depot} accepted size fewer all rules =
    record {
      size = size;
      room = omega (arith, accepted.count);
      rules = rw all at rules;
      good = rules_good maker depot accepted;
    }

-- what linking asks of the packed rules
pub packed_good : {packed : List ℕ} {m : ℕ} {qs : List Rec} → Packed packed m qs → Good 256 (packed_rules packed m)
packed_good p = rw p.rules p.good

-- the packed rules are their own
pub packed_own : {packed : List ℕ} {m : ℕ} {qs : List Rec} → Packed packed m qs → Packed packed m (packed_rules packed m)
packed_own p = record { size = p.size; room = p.room; rules = refl; good = packed_good p }
