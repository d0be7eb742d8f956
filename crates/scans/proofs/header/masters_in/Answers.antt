-- `masters_in` meets its contract: the three ends of its tests.
use Rattle.scans.proofs.Headers.{closing_some, one_digit_lem, two_digits_lem, no_number}
use Rattle.scans.proofs.header.masters_in.Goals as goal

pub begins_at-after_one-requires : goal.begins_at-after_one-requires
begins_at-after_one-requires c = search closing_some

pub begins_at-after_two-requires : goal.begins_at-after_two-requires
begins_at-after_two-requires c = search closing_some

pub returns-then-first-after_one : goal.returns-then-first-after_one
returns-then-first-after_one c = search one_digit_lem

pub returns-then-first-a : goal.returns-then-first-a
returns-then-first-a c = search two_digits_lem

pub returns : goal.returns
returns c = search no_number
