use Rattle.apd_token.proofs.Contents.{one_content}
use Rattle.apd_token.proofs.texts.one_content.Goals as goal

pub returns : goal.returns
returns c = one_content
