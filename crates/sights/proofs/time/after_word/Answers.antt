-- `after_word` meets its contract: the line is one number.
use Rattle.sights.proofs.Clock.{word_after}
use Rattle.sights.proofs.time.after_word.Goals as goal

pub returns-then-eight-six_digits : goal.returns-then-eight-six_digits
returns-then-eight-six_digits c =
    word_after c.args.t _ _ c.args.s.now (record { below = c.fits-s }) c.told-s c.eight.ensures c.six_digits.ensures c.if-eight-six_digits.true
