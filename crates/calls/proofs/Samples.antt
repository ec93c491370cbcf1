-- Lines and their replies, in one table under one statement: each operation, each reason, and lines that are passed over.
-- Assumes nothing.
use mathlib.Core.Path.{◌≡◌, refl}
use mathlib.Core.List.{List, [], ◌∷◌, map}
use Prim.Native.Nat.{ℕ}
use Prim.Native.String.{String}
use Rattle.lemmas.specs.Lowest.{lowest}
use Rattle.spec.specs.Kinds.{kind_of, places_of, meaning}
use Rattle.spec.specs.Rules.{rules_of}
use Rattle.spec.specs.Records.{rec_from, record_at, record_count, is_rule, rules_in, box_at, boxes_of, no_kind, lacks_z, two_equal, bad}
use Rattle.spec.specs.Facts.{holds}
use Rattle.spec.specs.Rounds.{has, names, gives, follows, code, round, closed}
use Rattle.spec.specs.Refusals.{boxes_check, maker_check, depot_check, count_check, record_check, sheet_check, given_check, out_check, list_check}
use Rattle.spec.specs.Fits.{is_in, breaks, is_broken, first_broken, test_judges, test_says, record_part, shows_part, bytes_of}
use Rattle.spec.specs.Fill.{closure_of, clashes, boxes_filled, open_count, clash_check, broken_check, fill_judges, fill_says, fill_writes}
use Rattle.spec.specs.Kits.{keeps, fits_all, kits, kits_after, is_none, head_of, none_check, first_says, first_writes, next_says, next_writes}
use Rattle.text.specs.Spelling.{ascii, decimal, hex_of}
use Rattle.fields.specs.Fields.{is, digit_of, is_digit, paired_up, is_field}
use Rattle.calls.specs.Lines.{answer_of, reply_to}

pub record Sample : Type 0 where
  pub line : String
  pub reply : String

pub table : List Sample
table =
    record { line = "fill 0300000001000200 010000000200ffff 010202 eeeeee"; reply = "filled 2 010101\n" }
    ∷ record { line = "fill 0300000001000200 010000000200ffff 010002 eeeeee"; reply = "refused 7 0 eeeeee\n" }
    ∷ record { line = "test 0300000001000200 010000000200ffff 010000"; reply = "broken 1\n" }
    ∷ record { line = "test 0300000001000200 010000000200ffff 000000"; reply = "fits\n" }
    ∷ record { line = "show 0300000001000200 010000000200ffff 010000"; reply = "part 010000000200ffff\n" }
    ∷ record { line = "show . . 00"; reply = "part .\n" }
    ∷ record { line = "first 0300000001000200 010000000200ffff 010202 eeeeee"; reply = "list 010101\n" }
    ∷ record { line = "next 0300000001000200 010000000200ffff 020202 000000 eeeeee"; reply = "list 000100\n" }
    ∷ record { line = "fil . . . ."; reply = "error word\n" }
    ∷ record { line = "fill . . ."; reply = "error fields\n" }
    ∷ record { line = "fill . . 0 ."; reply = "error digits\n" }
    ∷ record { line = "fill . . 0G ."; reply = "error digits\n" }
    ∷ record { line = "fill . . 0A ."; reply = "error digits\n" }
    ∷ record { line = "# fill . . . ."; reply = "" }
    ∷ record { line = ""; reply = "" }
    ∷ []

pub replied : Sample → List ℕ
replied s = reply_to (ascii s.line)

pub expected : Sample → List ℕ
expected s = ascii s.reply

pub samples : map replied table ≡ map expected table
unfolding table replied expected
    decimal hex_of is digit_of is_digit paired_up is_field answer_of reply_to
    lowest kind_of places_of meaning rules_of rec_from record_at record_count is_rule rules_in box_at boxes_of no_kind lacks_z two_equal bad
    holds has names gives follows code round closed
    boxes_check maker_check depot_check count_check record_check sheet_check given_check out_check list_check
    is_in breaks is_broken first_broken test_judges test_says record_part shows_part bytes_of
    closure_of clashes boxes_filled open_count clash_check broken_check fill_judges fill_says fill_writes
    keeps fits_all kits kits_after is_none head_of none_check first_says first_writes next_says next_writes
samples = refl
