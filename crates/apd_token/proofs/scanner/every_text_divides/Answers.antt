use Rattle.apd_token.proofs.Every.{every_text}
use Rattle.apd_token.proofs.scanner.every_text_divides.Goals as goal

pub returns : goal.returns
returns c = every_text
