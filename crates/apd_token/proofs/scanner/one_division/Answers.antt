use Rattle.apd_token.proofs.Unique.{one_tokens, one_fault, no_tokens_at_fault}
use Rattle.apd_token.proofs.Divided.{one_answer}
use Rattle.apd_token.proofs.scanner.one_division.Goals as goal

pub returns : goal.returns
returns c = record { tokens = one_tokens; faults = one_fault; apart = no_tokens_at_fault; answers = one_answer }
