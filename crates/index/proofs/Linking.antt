-- Linking: the chains grow by one entry at a time, and what their entries say of the packed rules.
-- Assumes nothing.
use mathlib.Core.Path.{◌≡◌, refl, sym, ap, ◌∙◌, subst}
use mathlib.Core.Logic.{inl, inr, ⊎_elim}
use mathlib.Core.Bool.{Bool, true, false, not, ◌||◌, true≢false}
use mathlib.Core.List.{List, Memᴰ}
use Prim.Native.Nat.{ℕ, ◌+◌, ◌*◌, ◌/◌, ◌<◌, ◌≤◌}
use native.Mathlib.Decide.{ℕ_discrete}
use native.Mathlib.Omega.{arith}
use borrow.Author.Tests.{not-true}
use lib.Dec.{T, T_not}
use lib.ListN.{length, get_or, set, replicate, length-set, length-replicate, get_or-replicate}
use lib.Seq.{get_or-set_same, get_or-set_other}
use Rattle.lemmas.specs.Lists.{any, upto}
use Rattle.lemmas.proofs.Members.{any_of, map_member, member_map, upto_member, member_upto}
use Rattle.lemmas.proofs.Reading.{get_or_each}
use Rattle.lemmas.proofs.Tests.{true_T, or_cases}
use Rattle.spec.specs.Kinds.{Kind, Place, X, Y, Z, kind_of, places_of}
use Rattle.spec.specs.Records.{Rec, box_at, lacks_z, bad}
use Rattle.spec.specs.SameRule.{same_place}
use Rattle.spec.proofs.SameRule.{same_place_refl}
use Rattle.spec.proofs.EveryKind.{kind_all}
use Rattle.theory.proofs.Places.{Names, named, named_names, good_kind}
use Rattle.index.specs.Index.{rule_of, rule_at, packed_rules, entry_of, Held, Top, Linked}

-- a computed test of a kind: where it names z, it does not lack it
z_there : Kind → Bool
z_there k = not (any (same_place Z) (places_of k)) || not (lacks_z k)

kinds_z : (k : Kind) → T (z_there k)
unfolding z_there lacks_z places_of same_place
kinds_z k = kind_all z_there tt k

names_z : (k : Kind) → Memᴰ Z (places_of k) → lacks_z k ≡ false
unfolding z_there
names_z k m =
    ⊎_elim
    (λ t. absurd (T_not (any (same_place Z) (places_of k)) t (any_of (same_place Z) m (same_place_refl Z))))
    (λ t. not-true _ (true_T _ t))
    (or_cases (not (any (same_place Z) (places_of k))) _ (kinds_z k))

-- a box that a packed rule names is the byte at its entry
box_byte : (packed : List ℕ) (j : ℕ) (p : Place) → Names (rule_at packed j) p →
    box_at (rule_at packed j) p ≡ get_or packed (entry_of j p) 0
unfolding rule_of box_at
box_byte packed j X names = refl
box_byte packed j Y names = refl
box_byte packed j Z names = rw (names_z (kind_of (get_or packed (4 * j) 0)) names)

-- so an entry is held by one box
pub held_byte : {packed : List ℕ} {b e : ℕ} → Held packed b e → b ≡ get_or packed e 0
held_byte {packed} h = rw h.is (sym h.holds ∙ box_byte packed h.number h.place h.names)

entry_number : (j : ℕ) (p : Place) → j ≡ entry_of j p / 4
entry_number j X = omega arith
entry_number j Y = omega arith
entry_number j Z = omega arith

entry_below : (j m : ℕ) (p : Place) → j < m → entry_of j p < 4 * m
entry_below j m X l = omega arith
entry_below j m Y l = omega arith
entry_below j m Z l = omega arith

number_below : (j m : ℕ) (p : Place) → entry_of j p < 4 * m → j < m
number_below j m X l = omega arith
number_below j m Y l = omega arith
number_below j m Z l = omega arith

module _ {packed : List ℕ} {b e : ℕ} where
  pub held_number : (h : Held packed b e) → h.number ≡ e / 4
  held_number h = rw h.is (entry_number h.number h.place)

  pub below_held : {m : ℕ} (h : Held packed b e) → e < 4 * m → h.number < m
  below_held {m} h l = number_below h.number m h.place (rw h.is at l)

pub held_member : (packed : List ℕ) {j m : ℕ} → j < m → Memᴰ (rule_at packed j) (packed_rules packed m)
unfolding packed_rules
held_member packed l = map_member (rule_at packed) (upto_member l)

-- where a packed rule has its box at place p
pub record HasEntry (packed : List ℕ) (m : ℕ) (q : Rec) (b : ℕ) (p : Place) : Type 0 where
  pub entry : ℕ
  pub held : Held packed b entry
  pub below : entry < 4 * m
  pub rule : q ≡ rule_at packed held.number
  pub place : p ≡ held.place

pub member_held : (packed : List ℕ) (m : ℕ) {q : Rec} {b : ℕ} (p : Place) → Memᴰ q (packed_rules packed m) → Names q p → box_at q p ≡ b →
    HasEntry packed m q b p
unfolding packed_rules
member_held packed m p k names holds =
    let found = member_map (rule_at packed) (upto m) k in
    let is = found.2 in
    record {
      entry = entry_of found.0 p;
      held =
          record {
            number = found.0;
            place = p;
            is = refl;
            names = subst (λ (r : Rec). Names r p) is names;
            holds = ap (λ (r : Rec). box_at r p) (sym is) ∙ holds;
          };
      below = entry_below found.0 m p (member_upto m found.1);
      rule = is;
      place = refl;
    }

-- what a good packed rule names is held
pub rule_held : {packed : List ℕ} (j : ℕ) (p : Place) → bad 256 (rule_at packed j) ≡ false →
    T (named (kind_of (get_or packed (4 * j) 0)) p) → Held packed (get_or packed (entry_of j p) 0) (entry_of j p)
unfolding rule_of
rule_held {packed} j p good t =
    let names = named_names (rule_at packed j) (good_kind 256 (rule_at packed j) good) p t in
    record { number = j; place = p; is = refl; names = names; holds = box_byte packed j p names }

-- a kind is no box
kind_entry : (i j : ℕ) (p : Place) → 4 * i ≡ entry_of j p → ⊥
kind_entry i j X e = omega arith
kind_entry i j Y e = omega arith
kind_entry i j Z e = omega arith

pub kind_held : {packed : List ℕ} {b : ℕ} (j : ℕ) → Held packed b (4 * j) → ⊥
kind_held j h = kind_entry j h.number h.place h.is

-- nor is a z that is missing
z_entry : (packed : List ℕ) (i j : ℕ) (p : Place) → 4 * i + 3 ≡ entry_of j p → Names (rule_at packed j) p →
    lacks_z (kind_of (get_or packed (4 * i) 0)) ≡ false
unfolding rule_of
z_entry packed i j X e names = absurd (omega arith)
z_entry packed i j Y e names = absurd (omega arith)
z_entry packed i j Z e names = let same : i ≡ j = omega arith in rw same (names_z (kind_of (get_or packed (4 * j) 0)) names)

pub z_held : {packed : List ℕ} {b : ℕ} (j : ℕ) → lacks_z (kind_of (get_or packed (4 * j) 0)) ≡ true → Held packed b (4 * j + 3) → ⊥
z_held {packed} j e h = true≢false (sym e ∙ z_entry packed j h.number h.place h.is h.names)

-- no entries: no chains
pub linked_none : (packed : List ℕ) {first next : List ℕ} → length first ≡ 256 → length next ≡ 4096 → ((b : ℕ) → get_or first b 0 ≡ 0) →
    Linked packed 0 first next
linked_none packed firsts nexts zeros =
    record {
      first_size = firsts;
      next_size = nexts;
      heads = λ b l. record { found = inl (zeros b); highest = λ d held below. absurd (omega arith) };
      links = λ b e held below. absurd (omega arith);
    }

pub linked_zeros : (packed : List ℕ) → Linked packed 0 (replicate 256 0) (replicate 4096 0)
linked_zeros packed =
    linked_none packed (length-replicate {A = ℕ} 256 0) (length-replicate {A = ℕ} 4096 0)
    (get_or_each (λ v. v ≡ 0) (replicate 256 0) 0 0
    (λ i l. get_or-replicate {A = ℕ} 256 i 0 0 (omega (arith, length-replicate {A = ℕ} 256 0))) refl)

pub linked_to : {packed : List ℕ} {a b : ℕ} {first next : List ℕ} → Linked packed a first next → a ≡ b → Linked packed b first next
linked_to {packed} {first = first} {next = next} l e = subst (λ (k : ℕ). Linked packed k first next) e l

-- one entry more that does not hold b
top_past : {packed : List ℕ} {b bound e : ℕ} → (Held packed b bound → ⊥) → Top packed b bound e → Top packed b (bound + 1) e
top_past {packed} {b} {bound} {e} none t =
    record { found = ⊎_elim inl (λ f. inr (f.0, omega (arith, f.1))) t.found; highest = λ d held l. at d held l (ℕ_discrete d bound) }
  where
    at : (d : ℕ) → Held packed b d → d < bound + 1 → Dec (d ≡ bound) → d ≤ e
    at d held l (yes is) = absurd (none (subst (λ (k : ℕ). Held packed b k) is held))
    at d held l (no not) = t.highest d held (omega arith)

-- an entry that holds no box is passed over
pub linked_past : {packed : List ℕ} {bound : ℕ} {first next : List ℕ} → ((b : ℕ) → Held packed b bound → ⊥) → Linked packed bound first next →
    Linked packed (bound + 1) first next
linked_past {packed} {bound} {first} {next} none l =
    record {
      first_size = l.first_size;
      next_size = l.next_size;
      heads = λ b below. top_past (none b) (l.heads b below);
      links = λ b e held below. at b e held below (ℕ_discrete e bound);
    }
  where
    at : (b e : ℕ) → Held packed b e → e < bound + 1 → Dec (e ≡ bound) → Top packed b e (get_or next e 0)
    at b e held below (yes is) = absurd (none b (subst (λ (k : ℕ). Held packed b k) is held))
    at b e held below (no not) = l.links b e held (omega arith)

-- one that holds b becomes the first of b's
pub linked_entry : {packed : List ℕ} {e b : ℕ} {first next : List ℕ} → e < 4096 → b < 256 → Held packed b e → Linked packed e first next →
    Linked packed (e + 1) (set first b e) (set next e (get_or first b 0))
linked_entry {packed} {e} {b} {first} {next} room box held l =
    record {
      first_size = length-set first b e ∙ l.first_size;
      next_size = length-set next e _ ∙ l.next_size;
      heads = λ c below. head c below (ℕ_discrete c b);
      links = λ c d other below. link c d other below (ℕ_discrete d e);
    }
  where
    head : (c : ℕ) → c < 256 → Dec (c ≡ b) → Top packed c (e + 1) (get_or (set first b e) c 0)
    head c below (yes is) =
        rw (is, get_or-set_same first b e 0 (omega (arith, l.first_size)))
        (record { found = inr (held, omega arith); highest = λ d other less. omega arith })
    head c below (no not) =
        rw (get_or-set_other first b c e 0 not) (top_past (λ other. not (held_byte other ∙ sym (held_byte held))) (l.heads c below))

    link : (c d : ℕ) → Held packed c d → d < e + 1 → Dec (d ≡ e) → Top packed c d (get_or (set next e (get_or first b 0)) d 0)
    link c d other below (yes is) =
        let same : c ≡ b = held_byte other ∙ ap (λ (k : ℕ). get_or packed k 0) is ∙ sym (held_byte held) in
        rw (is, get_or-set_same next e (get_or first b 0) 0 (omega (arith, l.next_size)), same) (l.heads b box)
    link c d other below (no not) =
        rw (get_or-set_other next e d (get_or first b 0) 0 not) (l.links c d other (omega arith))
