-- `mask_at` meets its contract: the sum of the digits, and one test.
use Rattle.fields.proofs.Digits.{mask_good, mask_bad}
use Rattle.fields.proofs.mask_at.Goals as goal

pub returns-then-v-lt65536 : goal.returns-then-v-lt65536
returns-then-v-lt65536 c = search mask_good

pub returns-else-v-lt65536 : goal.returns-else-v-lt65536
returns-else-v-lt65536 c = search mask_bad
