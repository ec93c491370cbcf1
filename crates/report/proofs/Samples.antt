-- Listings that pin the definitions: the paper's, whole; no boxes at all; no list that fits; a refusal; and 64 lists or more.
-- Assumes nothing.
use mathlib.Core.Path.{◌≡◌, refl}
use mathlib.Core.List.{List, [], ◌∷◌, map}
use Prim.Native.Nat.{ℕ}
use Prim.Native.String.{String}
use lib.ListN.{length}
use Rattle.lemmas.specs.Lowest.{lowest}
use Rattle.text.specs.Spelling.{ascii, decimal, digits_of}
use Rattle.spec.specs.Kinds.{kind_of, places_of, meaning}
use Rattle.spec.specs.Rules.{rules_of}
use Rattle.spec.specs.Records.{rec_from, record_at, record_count, is_rule, rules_in, box_at, boxes_of, no_kind, lacks_z, two_equal, bad}
use Rattle.spec.specs.Facts.{holds}
use Rattle.spec.specs.Rounds.{has, names, gives, follows, code, round, closed}
use Rattle.spec.specs.Refusals.{boxes_check, maker_check, depot_check, count_check, record_check, sheet_check, out_check}
use Rattle.spec.specs.Fits.{is_in, breaks, is_broken, first_broken}
use Rattle.spec.specs.Fill.{closure_of, clashes, boxes_filled, open_count, clash_check, broken_check, fill_judges, fill_says, fill_writes}
use Rattle.spec.specs.Kits.{full_lists, keeps, fits_all, kits}
use Rattle.spec.proofs.Samples.{and_record, equ_record, same_record, not_record}
use Rattle.report.specs.Listing.{refused_line, header_line, list_line, end_line, last_line, kit_lines, listing_by, listing_of}

pub record Sample : Type 0 where
  pub maker : List ℕ
  pub depot : List ℕ
  pub sheet : List ℕ
  pub paper : String

abbrev on_a : List ℕ → String → Sample
on_a sheet paper = record { maker = and_record; depot = equ_record; sheet = sheet; paper = paper }

pub table : List Sample
table =
    on_a (2 ∷ 2 ∷ 2 ∷ []) "positions 3 rules 2 filled 0 open 3\n000\n010\n111\nend 3\n"
    ∷ on_a (1 ∷ 2 ∷ 2 ∷ []) "positions 3 rules 2 filled 2 open 0\n111\nend 1\n"
    ∷ on_a (1 ∷ 0 ∷ 2 ∷ []) "refused 7 0\n"
    ∷ on_a (2 ∷ 2 ∷ 3 ∷ []) "refused 4 2\n"
    ∷ record { maker = []; depot = []; sheet = []; paper = "positions 0 rules 0 filled 0 open 0\n\nend 1\n" }
    ∷ record { maker = same_record; depot = not_record; sheet = 2 ∷ 2 ∷ []; paper = "positions 2 rules 2 filled 0 open 2\nend 0\n" }
    ∷ []

pub computed : Sample → List ℕ
computed p = listing_of p.maker p.depot p.sheet

pub paper_of : Sample → List ℕ
paper_of p = ascii p.paper

pub samples : map computed table ≡ map paper_of table
unfolding table computed paper_of
    lowest kind_of places_of meaning rules_of rec_from record_at record_count is_rule rules_in box_at boxes_of no_kind lacks_z two_equal bad
    holds has names gives follows code round closed
    boxes_check maker_check depot_check count_check record_check sheet_check out_check
    is_in breaks is_broken first_broken
    closure_of clashes boxes_filled open_count clash_check broken_check fill_judges fill_says fill_writes
    keeps fits_all kits
    decimal digits_of
    refused_line header_line list_line end_line last_line kit_lines listing_by listing_of
samples = refl

-- exactly 64 lists, and 128, of which the first 64 are shown: 64 lines of 8 bytes and `more`
pub sample_all : last_line (full_lists 6) ≡ ascii "end 64\n"
unfolding last_line end_line decimal
sample_all = refl

pub sample_more : last_line (full_lists 7) ≡ ascii "more\n"
unfolding last_line end_line decimal
sample_more = refl

pub sample_size : length (kit_lines (full_lists 7)) ≡ 517
unfolding kit_lines last_line end_line list_line decimal digits_of
sample_size = refl
