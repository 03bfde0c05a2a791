use Rattle.std.proofs.lemmas.Bool.{le-leb}
use Rattle.apd_words.proofs.limits.is_number.Goals as goal

pub returns-then-word-le-MOST_DIGITS : goal.returns-then-word-le-MOST_DIGITS
returns-then-word-le-MOST_DIGITS c = rw (le-leb _ _ c.if-word-ge1.true, le-leb _ _ c.if-word-le-MOST_DIGITS.true) c.are_digits.ensures
