use Rattle.apd_token.proofs.Reading.{script, no_script}
use Rattle.apd_token.proofs.scanner.lead_end.Goals as goal

pub returns-then-begins_script : goal.returns-then-begins_script
returns-then-begins_script c = let run = c.run_end.ensures in let yes = c.if-begins_script.ensures.yes in
    script _ _ run.from run.within yes.1 yes.2 run.each run.stops

pub returns : goal.returns
returns c = no_script _ c.if-begins_script.ensures.no
