use Rattle.apd_term.proofs.Matched.{piece_symbols}
use Rattle.apd_skips.proofs.Skipping.{whole-drop}
use Rattle.apd_skips.proofs.kept.spelling.Goals as goal

pub returns : goal.returns
returns c = piece_symbols c.args.symbols.now c.args.from c.args.end (whole-drop c.args.symbols.now c.requires.whole c.args.from) c.requires.there c.requires.end
