-- The index of accepted tables: rules packed in four bytes each, and chains of the entries that hold a box.
-- Assumes nothing.
use Rattle.std.specs.Prelude.{◌≡◌, ◌⊎◌, cond, List, map, ℕ, ◌+◌, ◌*◌, ◌≤◌, ◌<◌, length, get_or}
use Rattle.lemmas.specs.Lists.{upto}
use Rattle.spec.specs.Kinds.{Place, X, Y, Z, kind_of}
use Rattle.spec.specs.Records.{Rec, box_at, lacks_z}
use Rattle.spec.proofs.Named.{Good}
use Rattle.theory.proofs.Places.{Names}

-- the rule of this kind on these boxes; a kind that has no z takes none
unfoldable pub rule_of : (kind x y z : ℕ) → Rec
rule_of kind x y z = record { kind = kind; byte1 = 0; x = x; y = y; z = cond (lacks_z (kind_of kind)) 65535 z }

-- rule j of the packed ones: kind, x, y, z
abbrev pub rule_at : List ℕ → ℕ → Rec
rule_at packed j = rule_of (get_or packed (4 * j) 0) (get_or packed (4 * j + 1) 0) (get_or packed (4 * j + 2) 0) (get_or packed (4 * j + 3) 0)

unfoldable pub packed_rules : List ℕ → ℕ → List Rec
packed_rules packed m = map (rule_at packed) (upto m)

-- the first m packed rules are these
pub record Packed (packed : List ℕ) (m : ℕ) (qs : List Rec) : Type 0 where
  pub size : length packed ≡ 4096
  pub room : m ≤ 1024
  pub rules : packed_rules packed m ≡ qs
  pub good : Good 256 qs

-- where the packed rule j has the box at a place
abbrev pub entry_of : ℕ → Place → ℕ
entry_of j X = 4 * j + 1
entry_of j Y = 4 * j + 2
entry_of j Z = 4 * j + 3

-- at entry e a rule names box b
pub record Held (packed : List ℕ) (b e : ℕ) : Type 0 where
  pub number : ℕ
  pub place : Place
  pub is : e ≡ entry_of number place
  pub names : Names (rule_at packed number) place
  pub holds : box_at (rule_at packed number) place ≡ b

-- e is the highest entry below the bound that holds b; 0 where there is none
pub record Top (packed : List ℕ) (b bound e : ℕ) : Type 0 where
  pub found : (e ≡ 0) ⊎ (Held packed b e × (e < bound))
  pub highest : (d : ℕ) → Held packed b d → d < bound → d ≤ e

-- the entries below the bound are linked: a box's first is its highest, and the next of each is its highest below that
pub record Linked (packed : List ℕ) (bound : ℕ) (first next : List ℕ) : Type 0 where
  pub first_size : length first ≡ 256
  pub next_size : length next ≡ 4096
  pub heads : (b : ℕ) → b < 256 → Top packed b bound (get_or first b 0)
  pub links : (b e : ℕ) → Held packed b e → e < bound → Top packed b e (get_or next e 0)
